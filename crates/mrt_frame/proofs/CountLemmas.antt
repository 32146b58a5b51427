-- Records are counted as they are passed.
use Rattle.std.proofs.Common.{◌≡◌, ℕ, ◌+◌, List, [], ◌∷◌, take, drop, Option, Some, None, IfSome, refl, sym, ap, subst, ◌∙◌}
use Rattle.std.proofs.Math.Path.{ap₂}
use Rattle.record_counts.specs.Counting.{Counts, with_more}
use Rattle.mrt_frame.specs.declared.header.At.{At}
use Rattle.mrt_header.specs.declared.header.Header.{Header}
use Rattle.mrt_frame.specs.Counting.{type_of_record, with_records, CountsOn, CountsAll}
use Rattle.mrt_frame.specs.Frames.{record_of}
use Rattle.mrt_frame.specs.Part.{Skips, TakesHeader}
use Rattle.mrt_frame.specs.Records.{Record, Well, Ends, place_behind, next_of, cut_from}
use Rattle.mrt_frame.proofs.Cuts.{cut_onto, cut_ends}
use Rattle.mrt_frame.proofs.Passing.{HasPassed, stood}

pub with_first : (r : Record) (records : List Record) (counts : Counts) → with_records (r ∷ records) counts ≡ with_records records (with_more (type_of_record r) 1 counts)
unfolding with_records
with_first r records counts = refl

with_none : (counts : Counts) → with_records [] counts ≡ counts
unfolding with_records
with_none counts = refl

pub begins_counting : (known : Option (List ℕ)) (at : At) (counts : Counts) → CountsOn known at counts known at counts
begins_counting None at counts = tt
begins_counting (Some octets) at counts = refl

-- one record more
pub counted_one : (before left mid after : Option (List ℕ)) (start at place : At) (header : Header) (first counts second : Counts) → HasPassed before start left at
    → CountsOn before start first left at counts → IfSome left (λ octets. TakesHeader at octets header mid) → Skips mid header.len after
    → second ≡ with_more (record { kind = header.kind; subtype = header.subtype }) 1 counts → place.number ≡ at.number + 1 → place.offset ≡ at.offset + 12 + header.len
    → CountsOn before start first after place second
counted_one None left mid after start at place header first counts second passed on h skipped is number offset = tt
counted_one (Some octets) left mid after start at place header first counts second passed on h skipped is number offset =
    let reached = passed.0 in
    let here : TakesHeader at reached header mid = subst (λ o. IfSome o (λ t. TakesHeader at t header mid)) passed.1 h in
    let s = stood at reached header mid after here skipped in
    let r : Record = record_of at header (take header.len (drop 12 reached)) in
    let rest = drop header.len (drop 12 reached) in
    let all = with_records (cut_from start octets).records first in
    let same_place : place_behind r ≡ place = ap₂ (λ (n o : ℕ). record { number = n; offset = o }) (sym number) (ap (λ n. at.offset + 12 + n) s.2 ∙ sym offset) in
    let so_far : with_records (cut_from at reached).records counts ≡ all = subst (λ o. IfSome o (λ t. with_records (cut_from at t).records counts ≡ all)) passed.1 on in
    let counted : with_records (cut_from place rest).records second ≡ all =
    ap₂ (λ (p : At) (c : Counts). with_records (cut_from p rest).records c) (sym same_place) is
    ∙ sym (with_first r (cut_from (place_behind r) rest).records counts)
    ∙ sym (ap (λ cut. with_records cut.records counts) (cut_onto at reached r rest s.0)) ∙ so_far in
    subst (λ o. IfSome o (λ t. with_records (cut_from place t).records second ≡ all)) (sym s.1) counted

-- all records are counted where the list ends
pub counted_end : (before left : Option (List ℕ)) (start at : At) (first counts : Counts) → HasPassed before start left at
    → CountsOn before start first left at counts → IfSome left (λ octets. next_of at octets ≡ Ends Well) → CountsAll before start first counts
counted_end None left start at first counts passed on ends = tt
counted_end (Some octets) left start at first counts passed on ends =
    let reached = passed.0 in
    let all = with_records (cut_from start octets).records first in
    let here : next_of at reached ≡ Ends Well = subst (λ o. IfSome o (λ t. next_of at t ≡ Ends Well)) passed.1 ends in
    let so_far : with_records (cut_from at reached).records counts ≡ all = subst (λ o. IfSome o (λ t. with_records (cut_from at t).records counts ≡ all)) passed.1 on in
    sym (with_none counts) ∙ sym (ap (λ cut. with_records cut.records counts) (cut_ends at reached Well here)) ∙ so_far
