-- What was read of a file, also where nothing is known of its octets: each lemma of known files is used for all octets that may stand behind.
use Rattle.std.proofs.Common.{◌≡◌, ℕ, ◌+◌, ◌≤◌, false, List, [], ◌∷◌, ◌++◌, length, Option, Some, None, refl, sym, ap, subst, ◌∙◌, append_assoc, arith}
use Rattle.std.specs.Prelude.{◌&&◌, ◌^◌, ltb}
use Rattle.std.proofs.lemmas.List.{append-nil, length-append, take_at, drop_at}
use Rattle.std.specs.Io.KnownBytes.{prepend_known}
use Rattle.record_counts.specs.Counting.{Counts, with_more}
use Rattle.mrt_frame.specs.declared.header.At.{At}
use Rattle.mrt_header.specs.declared.header.Header.{Header}
use Rattle.mrt_header.specs.declared.record_kind.RecordKind.{RecordKind}
use Rattle.mrt_frame.specs.Counting.{CountsOn, CountsAll}
use Rattle.mrt_frame.specs.Frames.{FindsNext, StopsWith, record_as}
use Rattle.mrt_header.specs.Headers.{Says}
use Rattle.mrt_header.specs.Kinds.{kind_of, is_read}
use Rattle.mrt_frame.specs.Part.{TakesHeader, Skips}
use Rattle.mrt_frame.specs.Records.{Well, place_behind}
use Rattle.mrt_frame.specs.Some.{HasRead, HasReadSo, AreHeader, GiveRecord, GiveEnd}
use Rattle.mrt_frame.proofs.CountLemmas.{begins_counting, counted_one, counted_end}
use Rattle.mrt_frame.proofs.NextRecord.{takes_header}
use Rattle.mrt_frame.proofs.Passing.{HasPassed, begins, passed_one, finds, stops}

pub prepend_more : (a b : List ℕ) (known : Option (List ℕ)) → prepend_known a (prepend_known b known) ≡ prepend_known (a ++ b) known
prepend_more a b None = refl
prepend_more a b (Some rest) = ap (λ (t : List ℕ). Some t) (sym (append_assoc a b rest))

pub prepend_none : (known : Option (List ℕ)) → known ≡ prepend_known [] known
prepend_none None = refl
prepend_none (Some rest) = refl

-- where no octet was read, all are left
pub nothing_read : (before left : Option (List ℕ)) (head : List ℕ) → length head ≡ 0 → before ≡ prepend_known head left → before ≡ left
nothing_read before left [] none is = is ∙ sym (prepend_none left)
nothing_read before left (octet ∷ octets) none is = absurd (omega (arith, none))

-- so many octets, and then so many more
pub so_many_more : (before mid left : Option (List ℕ)) (n m : ℕ) (part : List ℕ) → HasReadSo n before mid → length part ≡ m → mid ≡ prepend_known part left → HasReadSo (n + m) before left
so_many_more before mid left n m part so_far many is = (
  so_far.0 ++ part,
  so_far.1 ∙ ap (prepend_known so_far.0) is ∙ prepend_more so_far.0 part left,
  omega (arith, length-append so_far.0 part, so_far.2, many),
)

-- twelve octets are the header that they say
pub header_of : (at : At) (header : Header) (head : List ℕ) → length head ≡ 12 → Says head header → at.offset + 12 + header.len ≤ 2 ^ 40
    → (is_read header.kind header.subtype && ltb (2 ^ 26) header.len) ≡ false → AreHeader at header head
header_of at header head many says near small = λ rest.
    takes_header (Some (head ++ rest)) (Some rest) at header head (sym (take_at head rest 12 many), ap (λ (t : List ℕ). Some t) (sym (drop_at head rest 12 many)))
    (omega (arith, many)) says near small

-- whatever stands behind these octets, they are records that are passed over, and are counted
abbrev pub ArePassed : At → Counts → At → Counts → List ℕ → Type 0
ArePassed start first at second octets =
    (rest : List ℕ) → HasPassed (Some (octets ++ rest)) start (Some rest) at × CountsOn (Some (octets ++ rest)) start first (Some rest) at second

pub none_passed : (known : Option (List ℕ)) (start : At) (counts : Counts) → HasRead known known (ArePassed start counts start counts)
none_passed known start counts = ([], prepend_none known, λ rest. (begins (Some rest) start, begins_counting (Some rest) start counts))

-- a header and a body behind octets that were read
all_of : (before left mid after : Option (List ℕ)) (octets head body : List ℕ) → before ≡ prepend_known octets left → left ≡ prepend_known head mid → mid ≡ prepend_known body after
    → before ≡ prepend_known (octets ++ (head ++ body)) after
all_of before left mid after octets head body one two three =
    one ∙ ap (prepend_known octets) (two ∙ ap (prepend_known head) three ∙ prepend_more head body after) ∙ prepend_more octets (head ++ body) after

regrouped : (octets head body rest : List ℕ) → octets ++ (head ++ (body ++ rest)) ≡ (octets ++ (head ++ body)) ++ rest
regrouped octets head body rest =
    ap (λ (t : List ℕ). octets ++ t) (sym (append_assoc head body rest)) ∙ sym (append_assoc octets (head ++ body) rest)

skipped : (body rest : List ℕ) (n : ℕ) → length body ≡ n → Skips (Some (body ++ rest)) n (Some rest)
skipped body rest n many = (omega (arith, length-append body rest, many), ap (λ (t : List ℕ). Some t) (sym (drop_at body rest n many)))

pub passed_more : (before left mid after : Option (List ℕ)) (start at next : At) (header : Header) (first counts second : Counts) → HasRead before left (ArePassed start first at counts)
    → HasRead left mid (AreHeader at header) → HasReadSo header.len mid after → second ≡ with_more (record { kind = header.kind; subtype = header.subtype }) 1 counts
    → is_read header.kind header.subtype ≡ false → next.number ≡ at.number + 1 → next.offset ≡ at.offset + 12 + header.len → HasRead before after (ArePassed start first next second)
passed_more before left mid after start at next header first counts second p h b is unread number offset = (
  p.0 ++ (h.0 ++ b.0),
  all_of before left mid after p.0 h.0 b.0 p.1 h.1 b.1,
  λ rest.
      let all = p.0 ++ (h.0 ++ (b.0 ++ rest)) in
      let so_far = p.2 (h.0 ++ (b.0 ++ rest)) in
      let taken : TakesHeader at (h.0 ++ (b.0 ++ rest)) header (Some (b.0 ++ rest)) = h.2 (b.0 ++ rest) in
      let over = skipped b.0 rest header.len b.2 in
      subst (λ (t : List ℕ). HasPassed (Some t) start (Some rest) next × CountsOn (Some t) start first (Some rest) next second) (regrouped p.0 h.0 b.0 rest) (
        passed_one (Some all) (Some (h.0 ++ (b.0 ++ rest))) (Some (b.0 ++ rest)) (Some rest) start at next header so_far.0 taken over unread number offset,
        counted_one (Some all) (Some (h.0 ++ (b.0 ++ rest))) (Some (b.0 ++ rest)) (Some rest) start at next header first counts second so_far.0 so_far.1 taken over is number offset,
      ),
)

pub found_some : (before left mid after : Option (List ℕ)) (start at : At) (header : Header) (kind : RecordKind) (body : List ℕ) (first counts second : Counts)
    → HasRead before left (ArePassed start first at counts) → HasRead left mid (AreHeader at header) → mid ≡ prepend_known body after → length body ≡ header.len
    → second ≡ with_more (record { kind = header.kind; subtype = header.subtype }) 1 counts → kind_of header.kind header.subtype ≡ Some kind
    → HasRead before after (GiveRecord start first (record_as at kind body) second)
found_some before left mid after start at header kind body first counts second p h b many is is_kind = (
  p.0 ++ (h.0 ++ body),
  all_of before left mid after p.0 h.0 body p.1 h.1 b,
  λ rest.
      let all = p.0 ++ (h.0 ++ (body ++ rest)) in
      let so_far = p.2 (h.0 ++ (body ++ rest)) in
      let taken : TakesHeader at (h.0 ++ (body ++ rest)) header (Some (body ++ rest)) = h.2 (body ++ rest) in
      let over = skipped body rest header.len many in
      let r = record_as at kind body in
      subst (λ (t : List ℕ). FindsNext start t r (Some rest) × CountsOn (Some t) start first (Some rest) (place_behind r) second) (regrouped p.0 h.0 body rest) (
        finds (Some all) (Some (h.0 ++ (body ++ rest))) (Some (body ++ rest)) (Some rest) start at header kind body so_far.0 taken over (sym (take_at body rest header.len many)) is_kind,
        counted_one (Some all) (Some (h.0 ++ (body ++ rest))) (Some (body ++ rest)) (Some rest) start at (place_behind r) header first counts second so_far.0 so_far.1 taken over is refl
            (ap (λ n. at.offset + 12 + n) many),
      ),
)

pub ended_some : (before left after : Option (List ℕ)) (start at : At) (first counts second : Counts) → HasRead before left (ArePassed start first at counts) → left ≡ after → second ≡ counts
    → HasRead before after (GiveEnd start first second)
ended_some before left after start at first counts second p same is =
    let so_far = p.2 [] in (
      p.0,
      p.1 ∙ ap (prepend_known p.0) same,
      subst (λ (t : List ℕ). StopsWith start t Well × CountsAll (Some t) start first second) (append-nil p.0) (
        stops (Some (p.0 ++ [])) (Some []) start at Well so_far.0 refl,
        is ∙ counted_end (Some (p.0 ++ [])) (Some []) start at first counts so_far.0 so_far.1 refl,
      ),
    )
