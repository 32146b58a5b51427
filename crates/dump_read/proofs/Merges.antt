-- Entries whose routes are merged as they are read.
use Rattle.std.proofs.Common.{◌≡◌, ◌∙◌, ◌++◌, ◌∷◌, [], List, ℕ, Bool, true, false, cond, Option, None, Some, Result, Ok, Err, filter, ◌&&◌, refl, ap, ap₂, sym}
use Rattle.std.proofs.lemmas.List.{append_assoc, append-nil, map-append}
use Rattle.std.proofs.lemmas.List.Elements.{filter-append, filter_agree}
use Rattle.std.specs.Prelude.{is_some}
use Rattle.path_attrs.specs.declared.fault.RibFault.{RibFault}
use Rattle.path_segments.specs.declared.as_path.Width.TheVariants.{Four}
use Rattle.path_clean.specs.declared.cleaned.Sets.{Sets}
use Rattle.path_clean.specs.declared.cleaned.Cleaned.{Cleaned}
use Rattle.path_clean.specs.Clean.{merged_of}
use Rattle.mrt_header.specs.declared.record_kind.Family.{Family}
use Rattle.rib_bodies.specs.declared.rib.Entry.{Entry}
use Rattle.rib_bodies.specs.Reading.{with_first}
use Rattle.rib_bodies.proofs.Loops.{with_head}
use Rattle.dump_read.specs.Batches.{Batched, MergesOne, MergesRead, merged_entries}
use Rattle.dump_read.specs.LastPeers.{entry_counts, place_counts}
use Rattle.dump_read.specs.Wanted.{Wanted, family_counts}

-- the routes of the entries before that count were merged, and with what is still to be read these entries are all
pub record MergedSoFar (sets : Sets) (test : Entry → Bool) (all left : Result (List Entry) RibFault) (batch : Batched) : Type 0 where
  pub before : List Entry
  pub routes : batch.routes ≡ merged_entries sets (filter test before)
  pub rest : with_head before left ≡ all
  pub places : batch.places ≡ []

regroup : (before : List Entry) (first : Entry) (read : Result (List Entry) RibFault) → with_head (before ++ first ∷ []) read ≡ with_head before (with_first first read)
regroup before first (Ok others) = ap (λ l. Ok l) (append_assoc before (first ∷ []) others)
regroup before first (Err fault) = refl

one_behind : (test : Entry → Bool) (before : List Entry) (first : Entry) (b : Bool) → test first ≡ b → filter test (before ++ first ∷ []) ≡ filter test before ++ cond b (first ∷ []) []
one_behind test before first b is = filter-append test before (first ∷ []) ∙ ap (λ b. filter test before ++ cond b (first ∷ []) []) is

-- one entry more that counts
pub one_merged : (sets : Sets) (test : Entry → Bool) (all old new : Result (List Entry) RibFault) (batch batch' : Batched) (first : Entry) → old ≡ with_first first new → test first ≡ true
    → batch'.routes ≡ batch.routes ++ merged_of sets Four first.attrs ∷ [] → batch'.places ≡ batch.places → MergedSoFar sets test all old batch → MergedSoFar sets test all new batch'
one_merged sets test all old new batch batch' first read passes more same so_far = record {
  before = so_far.before ++ first ∷ [];
  routes = more ∙ ap (λ routes. routes ++ merged_of sets Four first.attrs ∷ []) so_far.routes
      ∙ sym (ap (merged_entries sets) (one_behind test so_far.before first true passes) ∙ map-append of (filter test so_far.before) (first ∷ []));
  rest = regroup so_far.before first new ∙ ap (with_head so_far.before) (sym read) ∙ so_far.rest;
  places = same ∙ so_far.places;
}
  where
    of : Entry → Cleaned
    of e = merged_of sets Four e.attrs

-- and one that doesn't
pub one_passed : (sets : Sets) (test : Entry → Bool) (all old new : Result (List Entry) RibFault) (batch batch' : Batched) (first : Entry) → old ≡ with_first first new → test first ≡ false
    → batch'.routes ≡ batch.routes → batch'.places ≡ batch.places → MergedSoFar sets test all old batch → MergedSoFar sets test all new batch'
one_passed sets test all old new batch batch' first read fails none same so_far = record {
  before = so_far.before ++ first ∷ [];
  routes = none ∙ so_far.routes ∙ sym (ap (merged_entries sets) (one_behind test so_far.before first false fails ∙ append-nil (filter test so_far.before)));
  rest = regroup so_far.before first new ∙ ap (with_head so_far.before) (sym read) ∙ so_far.rest;
  places = same ∙ so_far.places;
}

pub one_met : (sets : Sets) (test : Entry → Bool) (all old new : Result (List Entry) RibFault) (batch batch' : Batched) (first : Entry) → old ≡ with_first first new
    → MergesOne sets (test first) first batch batch' → batch'.places ≡ batch.places → MergedSoFar sets test all old batch → MergedSoFar sets test all new batch'
one_met sets test all old new batch batch' first read merges same so_far = by (test first) refl merges
  where
    by : (b : Bool) → test first ≡ b → MergesOne sets b first batch batch' → MergedSoFar sets test all new batch'
    by true passes more = one_merged sets test all old new batch batch' first read passes more same so_far
    by false fails none = one_passed sets test all old new batch batch' first read fails none same so_far

pub none_is : (o : Option (List ℕ)) → is_some o ≡ false → o ≡ None
none_is None is = refl
none_is (Some ases) is = absurd cc

-- where all entries count, those that count were merged
pub all_merged : (wanted : Wanted) (family : Family) (marks : List Bool) (read : Result (List Entry) RibFault) (batch : Batched) → wanted.from ≡ None → family_counts wanted.families family ≡ true
    → MergesRead wanted.sets (λ _. true) read batch → MergesRead wanted.sets (entry_counts wanted family marks) read batch
all_merged wanted family marks read batch from of_family merges = (
  merges.0,
  merges.1,
  merges.2 ∙ ap (merged_entries wanted.sets) (filter_agree (λ _. true) (entry_counts wanted family marks) (λ entry. sym (each entry)) merges.0),
)
  where
    each : (entry : Entry) → entry_counts wanted family marks entry ≡ true
    each entry = ap₂ (λ b (o : Option (List ℕ)). b && place_counts o marks entry.peer) of_family from
