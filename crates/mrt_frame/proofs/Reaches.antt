-- How far a file is read.
use Rattle.std.proofs.Common.{◌≡◌, ℕ, ◌+◌, ◌≤◌, List, [], ◌∷◌, ◌++◌, length, drop, Option, Some, None, IfSome, refl, sym, ap, subst, ◌∙◌, append_assoc, arith}
use Rattle.std.proofs.lemmas.List.{length-append, drop_at, drop-drop}
use Rattle.std.proofs.lemmas.List.Sums.{sum_by-cons}
use Rattle.std.specs.Io.KnownBytes.{prepend_known}
use Rattle.mrt_frame.specs.declared.header.At.{At}
use Rattle.mrt_frame.specs.Encoding.{IsEnd, EncodeRecords}
use Rattle.mrt_frame.specs.Frames.{PassesOver, FindsNext}
use Rattle.mrt_frame.specs.Limits.{max_file}
use Rattle.mrt_frame.specs.Reach.{ReadsUpTo, LeavesBehindHeader, ReachLaw, octets_of_records}
use Rattle.mrt_frame.specs.Records.{Record, RecordsEnd, Ends, Holds, Well, place_behind, next_of, cut, cut_from, start}
use Rattle.mrt_frame.proofs.Cuts.{cut_onto, cut_ends, encoding_law}
use Rattle.mrt_frame.proofs.Nexts.{StandsAt, IsNext, next_is}
use Rattle.mrt_frame.proofs.Passing.{HasPassed}

-- ---- at most so many octets

pub reads_none : (known : Option (List ℕ)) (first last : ℕ) → first ≤ last → ReadsUpTo first last known known
reads_none None first last le = ([], omega arith, refl)
reads_none (Some octets) first last le = ([], omega arith, refl)

pub reads_then : (before mid left : Option (List ℕ)) (first middle last : ℕ) → ReadsUpTo first middle before mid → ReadsUpTo middle last mid left → ReadsUpTo first last before left
reads_then before mid None first middle last one two =
    (one.0 ++ two.0, omega (arith, length-append one.0 two.0, one.1, two.1), one.2 ∙ ap (prepend_known one.0) two.2)
reads_then before mid (Some rest) first middle last one two = (
  one.0 ++ two.0,
  omega (arith, length-append one.0 two.0, one.1, two.1),
  one.2 ∙ ap (prepend_known one.0) two.2 ∙ ap (λ (t : List ℕ). Some t) (sym (append_assoc one.0 two.0 rest)),
)

pub reads_from : (before left : Option (List ℕ)) (n first last : ℕ) → ReadsUpTo 0 n before left → first + n ≤ last → ReadsUpTo first last before left
reads_from before left n first last reads le = (reads.0, omega (arith, reads.1, le), reads.2)

pub reads_more : (before left : Option (List ℕ)) (first last more : ℕ) → ReadsUpTo first last before left → last ≤ more → ReadsUpTo first more before left
reads_more before left first last more reads le = (reads.0, omega (arith, reads.1, le), reads.2)

-- a header, and then a body, behind what was read before
pub reads_record : (before left mid after : Option (List ℕ)) (first at len last : ℕ) → ReadsUpTo first at before left → ReadsUpTo 0 12 left mid → ReadsUpTo 0 len mid after
    → at + 12 + len ≤ last → ReadsUpTo first last before after
reads_record before left mid after first at len last so_far head body le =
    reads_then before left after first at last so_far
    (reads_then left mid after at (at + 12) last (reads_from left mid 12 at (at + 12) head (omega arith)) (reads_from mid after len (at + 12) last body le))

-- ---- behind whole records

-- so many octets stand between two places, and they are those of whole records
pub record IsBehind (at : At) (octets : List ℕ) (place : At) (reached : List ℕ) : Type 0 where
  pub many : ℕ
  pub records : octets_of_records (cut_from at octets).records ≡ many + octets_of_records (cut_from place reached).records
  pub rest : reached ≡ drop many octets

pub behind_none : (at : At) (octets : List ℕ) → IsBehind at octets at octets
behind_none at octets = record { many = 0; records = omega arith; rest = refl }

pub behind_one : (at : At) (octets : List ℕ) (r : Record) (rest : List ℕ) → next_of at octets ≡ Holds r rest → IsBehind at octets (place_behind r) rest
behind_one at octets r rest is =
    let stands : StandsAt at octets r rest = subst (IsNext at octets) is (next_is at octets) in
    let s = stands.encoded in
    let whole : length (s.header ++ r.body) ≡ 12 + length r.body = omega (arith, length-append s.header r.body, s.is_header.octets) in
    record {
      many = 12 + length r.body;
      records = ap (λ c. octets_of_records c.records) (cut_onto at octets r rest is) ∙ sum_by-cons (λ (x : Record). 12 + length x.body) r (cut_from (place_behind r) rest).records;
      rest = sym (ap (drop (12 + length r.body)) s.encoded ∙ drop_at (s.header ++ r.body) rest (12 + length r.body) whole);
    }

pub behind_then : (at : At) (octets : List ℕ) (middle : At) (mid : List ℕ) (place : At) (reached : List ℕ) → IsBehind at octets middle mid → IsBehind middle mid place reached
    → IsBehind at octets place reached
behind_then at octets middle mid place reached one two = record {
  many = one.many + two.many;
  records = omega (arith, one.records, two.records);
  rest = two.rest ∙ ap (drop two.many) one.rest ∙ drop-drop two.many one.many octets;
}

pub behind_over : (records : List Record) (at : At) (octets : List ℕ) (place : At) (reached : List ℕ) → PassesOver records at octets place reached → IsBehind at octets place reached
behind_over [] at octets place reached p =
    subst (λ (a : At). IsBehind at octets a reached) (sym p.0) (subst (λ (t : List ℕ). IsBehind at octets at t) (sym p.1) (behind_none at octets))
behind_over (r ∷ records) at octets place reached p =
    behind_then at octets (place_behind r) p.0 place reached (behind_one at octets r p.0 p.1) (behind_over records (place_behind r) p.0 place reached p.3)

pub behind_found : (at : At) (octets : List ℕ) (r : Record) (left : Option (List ℕ)) (finds : FindsNext at octets r left) → IsBehind at octets (place_behind r) finds.rest
behind_found at octets r left finds =
    behind_then at octets r.at finds.reached (place_behind r) finds.rest (behind_over finds.passes.0 at octets r.at finds.reached finds.passes.1)
    (behind_one r.at finds.reached r finds.rest finds.stands)

-- where no record stands at a place, and twelve octets were read there
pub ends_behind : (at : At) (octets : List ℕ) (place : At) (reached : List ℕ) (end : RecordsEnd) (left : Option (List ℕ)) → IsBehind at octets place reached → next_of place reached ≡ Ends end
    → left ≡ Some (drop 12 reached) → left ≡ Some (drop (octets_of_records (cut_from at octets).records + 12) octets)
ends_behind at octets place reached end left b stands is =
    let all : octets_of_records (cut_from at octets).records ≡ b.many = omega (arith, b.records, ap (λ c. octets_of_records c.records) (cut_ends place reached end stands)) in
    is ∙ ap (λ (t : List ℕ). Some (drop 12 t)) b.rest ∙ ap (λ (t : List ℕ). Some t) (drop-drop 12 b.many octets) ∙ ap (λ n. Some (drop (n + 12) octets)) (sym all)

pub shown_at : (before left after : Option (List ℕ)) (first at : At) (end : RecordsEnd) → HasPassed before first left at → IfSome left (λ octets. next_of at octets ≡ Ends end)
    → IfSome left (λ octets. after ≡ Some (drop 12 octets)) → LeavesBehindHeader first before after
shown_at None left after first at end passed stands is = tt
shown_at (Some octets) left after first at end passed stands is =
    let reached = passed.0 in
    ends_behind first octets at reached end after (behind_over passed.2.0 first octets at reached passed.2.1)
    (subst (λ o. IfSome o (λ t. next_of at t ≡ Ends end)) passed.1 stands) (subst (λ o. IfSome o (λ t. after ≡ Some (drop 12 t))) passed.1 is)

-- ---- the law

reaches : (records : List Record) (at : At) (octets : List ℕ) (end : RecordsEnd) → at.offset ≤ max_file → EncodeRecords at octets records end
    → (at.offset + octets_of_records records ≤ max_file) × (end ≡ Well → octets_of_records records ≡ length octets)
reaches [] at octets end le is = (omega arith, λ well. let none : octets ≡ [] = subst (IsEnd at octets) well is in omega (arith, ap length none))
reaches (r ∷ records) at octets end le is =
    let rest = is.0 in
    let s = is.3 in
    let place : r.at.offset ≡ at.offset = ap (λ (a : At). a.offset) is.1 in
    let one : octets_of_records (r ∷ records) ≡ 12 + length r.body + octets_of_records records = sum_by-cons (λ (x : Record). 12 + length x.body) r records in
    let within = is.2.file in
    let later = reaches records (place_behind r) rest end within is.4 in
    let whole : length octets ≡ 12 + length r.body + length rest = omega (arith, ap length s.encoded, length-append (s.header ++ r.body) rest, length-append s.header r.body, s.is_header.octets) in (
      omega (arith, later.0, one, place),
      λ well. omega (arith, later.1 well, one, whole),
    )

pub reach_law : ReachLaw
reach_law octets =
    let r = reaches (cut octets).records start octets (cut octets).end (omega arith) ((encoding_law octets (cut octets).records (cut octets).end).0 refl) in
    (omega (arith, r.0), r.1)
