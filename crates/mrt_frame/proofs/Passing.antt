-- Records that are passed over.
use Rattle.std.proofs.Common.{◌≡◌, ℕ, suc, zero, ◌+◌, ◌≤◌, ◌<◌, false, List, [], ◌∷◌, ◌++◌, length, take, drop, Option, Some, None, IfSome, refl, sym, ap, subst, ◌∙◌, arith}
use Rattle.std.proofs.Math.Path.{ap₂}
use Rattle.std.proofs.lemmas.Bool.{le-ltb, lt-ltb}
use Rattle.std.proofs.lemmas.List.{length-take}
use Rattle.mrt_frame.specs.declared.header.At.{At}
use Rattle.mrt_header.specs.declared.header.Header.{Header}
use Rattle.mrt_header.specs.declared.record_kind.RecordKind.{RecordKind}
use Rattle.mrt_frame.specs.Frames.{PassesOver, Passes, FindsNext, StopsWith, record_of, record_as}
use Rattle.mrt_frame.specs.Part.{Skips, TakesHeader}
use Rattle.mrt_header.specs.Kinds.{kind_of, is_read}
use Rattle.mrt_frame.specs.Records.{Record, Cut, RecordsEnd, Ends, Holds, BodyCut, place_behind, next_of, cut_within}
use Rattle.mrt_frame.proofs.KindNumbers.{numbers_of, read_kind}
use Rattle.mrt_frame.proofs.Cuts.{shorter, unrolled}

pub nothing : (at : At) (octets : List ℕ) → Passes at octets at octets
nothing at octets = ([], (refl, refl))

-- one record more before them
pub one_more : (at : At) (octets : List ℕ) (r : Record) (rest : List ℕ) (place : At) (reached : List ℕ) → next_of at octets ≡ Holds r rest → is_read r.kind r.subtype ≡ false
    → Passes (place_behind r) rest place reached → Passes at octets place reached
one_more at octets r rest place reached is not p = (r ∷ p.0, (rest, is, not, p.1))

over_then : (records : List Record) (at : At) (octets : List ℕ) (place : At) (reached : List ℕ) (r : Record) (rest : List ℕ) → PassesOver records at octets place reached
    → next_of place reached ≡ Holds r rest → is_read r.kind r.subtype ≡ false → Passes at octets (place_behind r) rest
over_then [] at octets place reached r rest p is not =
    one_more at octets r rest (place_behind r) rest (sym (ap₂ next_of p.0 p.1) ∙ is) not (nothing (place_behind r) rest)
over_then (q ∷ records) at octets place reached r rest p is not =
    one_more at octets q p.0 (place_behind r) rest p.1 p.2 (over_then records (place_behind q) p.0 place reached r rest p.3 is not)

-- one record more behind
pub and_then : (at : At) (octets : List ℕ) (place : At) (reached : List ℕ) (r : Record) (rest : List ℕ) → Passes at octets place reached → next_of place reached ≡ Holds r rest
    → is_read r.kind r.subtype ≡ false → Passes at octets (place_behind r) rest
and_then at octets place reached r rest p is not = over_then p.0 at octets place reached r rest p.1 is not

-- none of these records is read
abbrev pub NoneIsRead : List Record → Type 0
NoneIsRead [] = Unit {0}
NoneIsRead (r ∷ records) = (is_read r.kind r.subtype ≡ false) × NoneIsRead records

-- records before those of a cut
abbrev pub with_before : List Record → Cut → Cut
with_before records c = record { records = records ++ c.records; end = c.end }

-- a cut list begins with the records that are passed over, and goes on from behind them
pub record GoesOn (fuel : ℕ) (at : At) (octets : List ℕ) (place : At) (reached : List ℕ) : Type 0 where
  pub records : List Record
  pub none : NoneIsRead records
  pub fuel_left : ℕ
  pub enough : length reached ≤ fuel_left
  pub same : cut_within fuel at octets ≡ with_before records (cut_within fuel_left place reached)

over : (records : List Record) (fuel : ℕ) (at : At) (octets : List ℕ) (place : At) (reached : List ℕ) → PassesOver records at octets place reached → length octets ≤ fuel
    → GoesOn fuel at octets place reached
over [] fuel at octets place reached p le = record {
  records = [];
  none = tt;
  fuel_left = fuel;
  enough = omega (arith, ap length p.1);
  same = sym (ap₂ (cut_within fuel) p.0 p.1);
}
over (r ∷ records) zero at octets place reached p le = absurd (omega (arith, shorter at octets r p.0 p.1))
over (r ∷ records) (suc fuel) at octets place reached p le =
    let later = over records fuel (place_behind r) p.0 place reached p.3 (omega (arith, shorter at octets r p.0 p.1)) in
    record {
      records = r ∷ later.records;
      none = (p.2, later.none);
      fuel_left = later.fuel_left;
      enough = later.enough;
      same = unrolled fuel at octets r p.0 p.1 ∙ ap (λ (c : Cut). record { records = r ∷ c.records; end = c.end }) later.same;
    }

pub passes_over : (fuel : ℕ) (at : At) (octets : List ℕ) (place : At) (reached : List ℕ) → Passes at octets place reached → length octets ≤ fuel → GoesOn fuel at octets place reached
passes_over fuel at octets place reached p le = over p.0 fuel at octets place reached p.1 le

-- the reader passed over records, where the octets are known
abbrev pub HasPassed : Option (List ℕ) → At → Option (List ℕ) → At → Type 0
HasPassed None start left at = Unit {0}
HasPassed (Some octets) start left at = (reached : List ℕ) × (left ≡ Some reached) × Passes start octets at reached

pub begins : (left : Option (List ℕ)) (start : At) → HasPassed left start left start
begins None start = tt
begins (Some octets) start = (octets, refl, nothing start octets)

-- a record whose header was taken, and whose body was passed over, stood there
pub stood : (at : At) (octets : List ℕ) (header : Header) (mid after : Option (List ℕ)) → TakesHeader at octets header mid → Skips mid header.len after
    → (next_of at octets ≡ Holds (record_of at header (take header.len (drop 12 octets))) (drop header.len (drop 12 octets))) × (after ≡ Some (drop header.len (drop 12 octets)))
    × (length (take header.len (drop 12 octets)) ≡ header.len)
stood at octets header mid after h skipped =
    let rest = drop 12 octets in
    let s : Skips (Some rest) header.len after = subst (λ o. Skips o header.len after) h.0 skipped in
    (h.1 ∙ rw (le-ltb (length rest) header.len s.0) refl, s.1, omega (arith, s.0, length-take header.len rest))

pub passed_one : (before left mid after : Option (List ℕ)) (start at next : At) (header : Header) → HasPassed before start left at
    → IfSome left (λ octets. TakesHeader at octets header mid) → Skips mid header.len after
    → is_read header.kind header.subtype ≡ false → next.number ≡ at.number + 1 → next.offset ≡ at.offset + 12 + header.len → HasPassed before start after next
passed_one None left mid after start at next header passed h skipped not number offset = tt
passed_one (Some octets) left mid after start at next header passed h skipped not number offset =
    let reached = passed.0 in
    let here : TakesHeader at reached header mid = subst (λ o. IfSome o (λ t. TakesHeader at t header mid)) passed.1 h in
    let s = stood at reached header mid after here skipped in
    let r : Record = record_of at header (take header.len (drop 12 reached)) in
    let rest = drop header.len (drop 12 reached) in
    let place : place_behind r ≡ next = ap₂ (λ (n o : ℕ). record { number = n; offset = o }) (sym number) (ap (λ n. at.offset + 12 + n) s.2 ∙ sym offset) in
    (rest, s.1, subst (λ (a : At). Passes start octets a rest) place (and_then start octets at reached r rest passed.2 s.0 not))

-- the record of a header by its kind
as_kind : (at : At) (header : Header) (kind : RecordKind) (body : List ℕ) → kind_of header.kind header.subtype ≡ Some kind → record_of at header body ≡ record_as at kind body
as_kind at header kind body is =
    let numbers = numbers_of header.kind header.subtype kind is in
    ap₂ (λ (k s : ℕ). record { at = at; kind = k; subtype = s; body = body }) numbers.0 numbers.1

pub finds : (before left mid after : Option (List ℕ)) (start at : At) (header : Header) (kind : RecordKind) (body : List ℕ) → HasPassed before start left at
    → IfSome left (λ octets. TakesHeader at octets header mid) → Skips mid header.len after
    → IfSome mid (λ octets. body ≡ take header.len octets) → kind_of header.kind header.subtype ≡ Some kind → IfSome before (λ octets. FindsNext start octets (record_as at kind body) after)
finds None left mid after start at header kind body passed h skipped taken is_kind = tt
finds (Some octets) left mid after start at header kind body passed h skipped taken is_kind =
    let reached = passed.0 in
    let here : TakesHeader at reached header mid = subst (λ o. IfSome o (λ t. TakesHeader at t header mid)) passed.1 h in
    let s = stood at reached header mid after here skipped in
    let is : body ≡ take header.len (drop 12 reached) = subst (λ o. IfSome o (λ (t : List ℕ). body ≡ take header.len t)) here.0 taken in
    record {
      reached = reached;
      rest = drop header.len (drop 12 reached);
      passes = passed.2;
      stands = s.0 ∙ ap (λ (b : List ℕ). Holds (record_of at header b) (drop header.len (drop 12 reached))) (sym is)
          ∙ ap (λ (r : Record). Holds r (drop header.len (drop 12 reached))) (as_kind at header kind body is_kind);
      read = read_kind kind;
      leaves = s.1;
    }

pub stops : (before left : Option (List ℕ)) (start at : At) (end : RecordsEnd) → HasPassed before start left at → IfSome left (λ octets. next_of at octets ≡ Ends end)
    → IfSome before (λ octets. StopsWith start octets end)
stops None left start at end passed is = tt
stops (Some octets) left start at end passed is = record {
  place = at;
  reached = passed.0;
  passes = passed.2;
  stands = subst (λ o. IfSome o (λ t. next_of at t ≡ Ends end)) passed.1 is;
}

-- a body is cut where fewer octets than its header says are behind it
pub cut_body : (left mid : Option (List ℕ)) (at : At) (header : Header) (end : RecordsEnd) → IfSome left (λ octets. TakesHeader at octets header mid)
    → (end ≡ BodyCut at) × IfSome mid (λ octets. length octets < header.len) → IfSome left (λ octets. next_of at octets ≡ Ends end)
cut_body None mid at header end h short = tt
cut_body (Some octets) mid at header end h short =
    let few : length (drop 12 octets) < header.len = subst (λ o. IfSome o (λ (t : List ℕ). length t < header.len)) h.0 short.1 in
    h.1 ∙ rw (lt-ltb (length (drop 12 octets)) header.len few) (ap (λ (e : RecordsEnd). Ends e) (sym short.0))

-- what holds of the value, where it follows
pub if_some : {T : Type 0} (o : Option T) (P Q : T → Type 0) → ((x : T) → P x → Q x) → IfSome o P → IfSome o Q
if_some None P Q f h = tt
if_some (Some x) P Q f h = f x h
