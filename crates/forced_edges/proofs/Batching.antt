-- Settling orders in batches.
use Rattle.std.proofs.Common.{◌≡◌, ℕ, ◌+◌, ◌<◌, ◌⊎◌, inl, inr, Bool, List, [], ◌∷◌, ◌++◌, Some, length, refl, sym, ap, ◌∙◌, subst, arith, length-append, Contains}
use Rattle.std.specs.Prelude.{slice_get}
use Rattle.std.proofs.lemmas.Bool.{cases_lt}
use Rattle.std.proofs.lemmas.Option.{same_Some, slice_get_within}
use Rattle.std.proofs.lemmas.List.Elements.{All-push, All-nil}
use Rattle.tor_arena.proofs.Gets.{has-from_Contains}
use Rattle.tor_clauses.specs.Literals.{opposite_node}
use Rattle.tor_digraph.specs.NodeSets.{Nodes}
use Rattle.tor_digraph.proofs.Members.{Contains-more, Contains-last}
use Rattle.order_trials.specs.Posing.{Posed}
use Rattle.order_trials.specs.declared.showing.Shown.{Shown}
use Rattle.order_trials.specs.declared.settling.Settling.{Settling}
use Rattle.order_trials.specs.Showing.{IsFullyShown, StayShown}
use Rattle.order_trials.specs.Settling.{IsTogether, IsSettled, Settles}
use Rattle.order_trials.proofs.Settlings.{together_none}
use Rattle.forced_edges.specs.Batches.{IsWaiting, AreNodesOf, IsBatchSettled}

-- ---- a batch under way

pub record IsBatchSoFar (posed : Posed) (nodes : List ℕ) (old : Shown) (place : ℕ) (together : Nodes) (shown : Shown) (waiting : List ℕ) : Type 0 where
  pub shown_so : IsFullyShown posed shown
  pub keeps : StayShown old shown
  pub together_so : IsTogether posed shown.nodes.items together
  pub inside : AreNodesOf posed waiting
  pub settled : (k n : ℕ) → k < place → slice_get nodes k ≡ Some n → IsSettled posed shown.nodes.items n ⊎ Contains waiting n
  pub fewer : ((place ≡ 0) × (together.items ≡ []) × (length waiting ≡ 0)) ⊎ (length waiting < place)

pub batch_begins : (posed : Posed) (nodes : List ℕ) (shown : Shown) (together : Nodes) (waiting : List ℕ) →
    IsFullyShown posed shown → together.count ≡ posed.formula.net.nodes → together.items ≡ [] → waiting ≡ [] →
    IsBatchSoFar posed nodes shown 0 together shown waiting
batch_begins posed nodes shown together waiting so count none empty = record {
  shown_so = so;
  keeps = λ n h. h;
  together_so = together_none posed shown.nodes.items together count none;
  inside = subst (AreNodesOf posed) (sym empty) (All-nil (λ n. n < posed.formula.net.nodes));
  settled = λ k n lt. absurd (omega (arith, lt));
  fewer = inl (refl, none, ap length empty);
}

pub batch_next : (posed : Posed) (nodes : List ℕ) (first : Shown) (place : ℕ) (old new : Settling) (waiting new_waiting : List ℕ) (n : ℕ) (done : Bool) →
    IsBatchSoFar posed nodes first place old.together old.shown waiting → slice_get nodes place ≡ Some n → n < posed.formula.net.nodes →
    Settles posed n old new done → IsWaiting done n waiting new_waiting →
    IsBatchSoFar posed nodes first (place + 1) new.together new.shown new_waiting
batch_next posed nodes first place old new waiting new_waiting n done so at lt step (inl w) =
    subst (IsBatchSoFar posed nodes first (place + 1) new.together new.shown) (sym w.1) (record {
      shown_so = step.shown;
      keeps = λ m h. step.keeps m (so.keeps m h);
      together_so = step.together;
      inside = so.inside;
      settled = λ k m below at-k. elim (cases_lt k place) [
        | inl less ↦ elim (so.settled k m less at-k) [ inl s ↦ inl (λ r. step.keeps (opposite_node m) (s r)) | inr h ↦ inr h ]
        | inr le ↦
            let is : k ≡ place = omega (arith, below, le) in
            inl (subst (IsSettled posed new.shown.nodes.items) (same_Some n m (sym at ∙ ap (slice_get nodes) (sym is) ∙ at-k)) (step.settled w.0))
      ];
      fewer = inr (elim so.fewer [ inl z ↦ (let none = z.2 in omega (arith, none)) | inr less ↦ omega (arith, less) ]);
    })
batch_next posed nodes first place old new waiting new_waiting n done so at lt step (inr w) =
    subst (IsBatchSoFar posed nodes first (place + 1) new.together new.shown) (sym w.1) (record {
      shown_so = step.shown;
      keeps = λ m h. step.keeps m (so.keeps m h);
      together_so = step.together;
      inside = All-push (λ m. m < posed.formula.net.nodes) waiting n so.inside lt;
      settled = λ k m below at-k. elim (cases_lt k place) [
        | inl less ↦ elim (so.settled k m less at-k) [ inl s ↦ inl (λ r. step.keeps (opposite_node m) (s r)) | inr h ↦ inr (Contains-more waiting (n ∷ []) m h) ]
        | inr le ↦
            let is : k ≡ place = omega (arith, below, le) in
            inr (subst (Contains (waiting ++ n ∷ [])) (same_Some n m (sym at ∙ ap (slice_get nodes) (sym is) ∙ at-k)) (Contains-last waiting n))
      ];
      fewer = elim so.fewer [
        | inl z ↦ absurd (w.0 (step.first z.1))
        | inr less ↦ (let more = length-append waiting (n ∷ []) in inr (omega (arith, less, more)))
      ];
    })

pub batch_done : (posed : Posed) (nodes : List ℕ) (old : Shown) (place : ℕ) (together : Nodes) (shown : Shown)
    (waiting : List ℕ) → IsBatchSoFar posed nodes old place together shown waiting →
    place ≡ length nodes → IsBatchSettled posed nodes old shown waiting
batch_done posed nodes old place together shown waiting so end = record {
  shown = so.shown_so;
  keeps = so.keeps;
  settled = λ n h. (let has = has-from_Contains nodes n h in let lt = slice_get_within nodes has.0 n has.1 in so.settled has.0 n (omega (arith, lt, end)) has.1);
  inside = so.inside;
  fewer = elim so.fewer [ inl z ↦ inl (sym end ∙ z.0) | inr less ↦ inr (omega (arith, less, end)) ];
}

-- ---- all batches

pub record IsUnderWay (posed : Posed) (nodes : List ℕ) (shown : Shown) (waiting : List ℕ) : Type 0 where
  pub shown_so : IsFullyShown posed shown
  pub settled : (n : ℕ) → Contains nodes n → IsSettled posed shown.nodes.items n ⊎ Contains waiting n
  pub inside : AreNodesOf posed waiting

pub settling_next : (posed : Posed) (nodes : List ℕ) (shown new : Shown) (waiting later : List ℕ) →
    IsUnderWay posed nodes shown waiting → IsBatchSettled posed waiting shown new later → IsUnderWay posed nodes new later
settling_next posed nodes shown new waiting later so b = record {
  shown_so = b.shown;
  settled = λ n h. elim (so.settled n h) [ inl s ↦ inl (λ r. b.keeps (opposite_node n) (s r)) | inr w ↦ b.settled n w ];
  inside = b.inside;
}

pub settling_done : (posed : Posed) (nodes : List ℕ) (shown : Shown) (waiting : List ℕ) →
    IsUnderWay posed nodes shown waiting → length waiting ≡ 0 → (n : ℕ) → Contains nodes n → IsSettled posed shown.nodes.items n
settling_done posed nodes shown waiting so none n h = elim (so.settled n h) [ inl s ↦ s | inr w ↦ absurd (let lt = w.1 in omega (arith, lt, none)) ]
