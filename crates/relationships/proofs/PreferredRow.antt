-- The preferences, the preferred orientation and the peerings of the three paths of WorkedRow.
use Rattle.std.proofs.Common.{◌≡◌, ◌≢◌, ◌↔◌, ℕ, ◌+◌, ◌<◌, ◌⊎◌, inl, inr, true, false, List, [], ◌∷◌, ◌++◌, length, map, refl, sym, ap, ◌∙◌, subst, arith, lit<, lit≤, get_or}
use Rattle.std.specs.Prelude.{pos}
use Rattle.std.proofs.lemmas.Bool.{both_ways}
use Rattle.std.proofs.lemmas.List.Elements.{All-from_recursion}
use Rattle.relationships.specs.declared.label.End.{End}
use Rattle.relationships.specs.declared.label.Label.{Label}
use Rattle.relationships.specs.Relationship.{Orientation, labels_of, is_over, label_of, is_low, slope, slopes, ValleyFree, Serves}
use Rattle.relationships.specs.Graph.{Edge, degree, SameOn}
use Rattle.relationships.specs.Evidence.{IsTriple}
use Rattle.relationships.specs.Preference.{top_of, lean, lead, wanted, place, IsPreferred, with_peer, MayPeer, so_far, IsRelabelled}
use Rattle.relationships.proofs.Slopes.{over_one_way, over-low}
use Rattle.relationships.proofs.Serving.{serves_satisfies}
use Rattle.relationships.proofs.Deciding.{PairsByRecursion, no_valley, no_valley_iff, EachSplit, each_split}
use Rattle.relationships.proofs.WorkedRow.{first, second, kept, all, its_edges, providers, labels, served}

tops : map (top_of (degree all)) kept ≡ 2 ∷ 0 ∷ []
tops = refl

leads : map (lead (degree all) kept) its_edges ≡ 0 ∷ 1 ∷ 0 ∷ 1 ∷ 1 ∷ 1 ∷ 0 ∷ []
leads = refl

leans : map (lean (degree all) kept) its_edges ≡ pos 0 ∷ pos 1 ∷ pos 0 ∷ pos 1 ∷ pos 1 ∷ pos 1 ∷ pos 0 ∷ []
leans = refl

all_wanted : map (wanted (degree all) kept) its_edges ≡ End.Low ∷ End.Low ∷ End.Low ∷ End.Low ∷ End.Low ∷ End.Low ∷ End.Low ∷ []
all_wanted = refl

-- ---- the preferred orientation

abbrev order : List Edge
order = (20, 40) ∷ (10, 50) ∷ (50, 60) ∷ (20, 30) ∷ (30, 40) ∷ (10, 20) ∷ (10, 60) ∷ []

abbrev comes_first : Edge → Edge → Type 0
comes_first e f =
    (lead (degree all) kept f < lead (degree all) kept e) ⊎
    ((lead (degree all) kept f ≡ lead (degree all) kept e) × (place its_edges e < place its_edges f))

falling_leads : PairsByRecursion comes_first order
falling_leads = (
  (inr (refl, lit< tt), (inr (refl, lit< tt), (inr (refl, lit< tt), (inl (lit< tt), (inl (lit< tt), (inl (lit< tt), tt)))))),
  (
    (inr (refl, lit< tt), (inr (refl, lit< tt), (inl (lit< tt), (inl (lit< tt), (inl (lit< tt), tt))))),
    (
      (inr (refl, lit< tt), (inl (lit< tt), (inl (lit< tt), (inl (lit< tt), tt)))),
      (
        (inl (lit< tt), (inl (lit< tt), (inl (lit< tt), tt))),
        (
          (inr (refl, lit< tt), (inr (refl, lit< tt), tt)),
          ((inr (refl, lit< tt), tt), (tt, tt)),
        ),
      ),
    ),
  ),
)

-- an edge that is wanted as it is
agreeing : (before : List Edge) (e : Edge) → providers e.0 e.1 ≡ wanted (degree all) kept e →
    (providers e.0 e.1 ≡ wanted (degree all) kept e) ↔ ((O' : Orientation) × Serves O' kept × SameOn before providers O' × (O' e.0 e.1 ≡ wanted (degree all) kept e))
agreeing before e h = (λ _. (providers, served, (λ k d lt. refl), h), λ _. h)

at_second : (x y z : ℕ) (before after : List ℕ) → second ≡ before ++ (x ∷ y ∷ z ∷ after) → IsTriple kept x y z
at_second x y z before after e = (second, (1, lit< tt, refl), (length before + 2, inl (record { before = before; after = after; whole = e; place = refl })))

at_first : (x y z : ℕ) (before after : List ℕ) → first ≡ before ++ (x ∷ y ∷ z ∷ after) → IsTriple kept x y z
at_first x y z before after e = (first, (0, lit< tt, refl), (length before + 2, inl (record { before = before; after = after; whole = e; place = refl })))

module _ (O : Orientation) (serves : Serves O kept) (settled : O 20 40 ≡ End.Low) where
  over_from : (low high : ℕ) → low < high → O low high ≡ End.Low → is_over (labels_of O) low high ≡ true
  over_from low high lt h = over-low (labels_of O) low high lt (ap (λ e. is_low (label_of e)) h)

  not_30_40 : is_over (labels_of O) 30 40 ≡ true → ⊥
  not_30_40 o =
      over_one_way (labels_of O) 20 40 (over_from 20 40 (lit< tt) settled)
      (serves_satisfies O kept serves 30 40 20 (at_first 30 40 20 [] (10 ∷ 50 ∷ 60 ∷ []) refl) o)

  not_20_30 : is_over (labels_of O) 20 30 ≡ true → ⊥
  not_20_30 o = not_30_40 (serves_satisfies O kept serves 20 30 40 (at_second 20 30 40 (10 ∷ []) [] refl) o)

  not_10_20 : is_over (labels_of O) 10 20 ≡ true → ⊥
  not_10_20 o = not_20_30 (serves_satisfies O kept serves 10 20 30 (at_second 10 20 30 [] (40 ∷ []) refl) o)

-- an edge whose wanted end is refused
overturned : (before : List Edge) (e : Edge) → providers e.0 e.1 ≡ End.High → wanted (degree all) kept e ≡ End.Low → e.0 < e.1 →
    0 < length before → get_or before 0 (20, 40) ≡ (20, 40) →
    ((O' : Orientation) → Serves O' kept → O' 20 40 ≡ End.Low → is_over (labels_of O') e.0 e.1 ≡ true → ⊥) →
    (providers e.0 e.1 ≡ wanted (degree all) kept e) ↔ ((O' : Orientation) × Serves O' kept × SameOn before providers O' × (O' e.0 e.1 ≡ wanted (degree all) kept e))
overturned before e high low lt some head refused = (
  λ h. absurd (other (sym high ∙ h ∙ low)),
  λ r.
      let same = subst (λ (f : Edge). providers f.0 f.1 ≡ r.0 f.0 f.1) head (r.2 0 (20, 40) some) in
      absurd (refused r.0 r.1 (sym same) (over_from r.0 r.1 (sym same) e.0 e.1 lt (r.3 ∙ low))),
)
  where
    other : End.High ≡ End.Low → ⊥
    other h = cc

abbrev PreferredAt : List Edge → Edge → List Edge → Type 0
PreferredAt before e after =
    (providers e.0 e.1 ≡ wanted (degree all) kept e) ↔ ((O' : Orientation) × Serves O' kept × SameOn before providers O' × (O' e.0 e.1 ≡ wanted (degree all) kept e))

preferred_each : EachSplit PreferredAt [] order
preferred_each = (
  agreeing [] (20, 40) refl,
  (
    agreeing ((20, 40) ∷ []) (10, 50) refl,
    (
      agreeing ((20, 40) ∷ (10, 50) ∷ []) (50, 60) refl,
      (
        overturned ((20, 40) ∷ (10, 50) ∷ (50, 60) ∷ []) (20, 30) refl refl (lit< tt) (lit< tt) refl not_20_30,
        (
          overturned ((20, 40) ∷ (10, 50) ∷ (50, 60) ∷ (20, 30) ∷ []) (30, 40) refl refl (lit< tt) (lit< tt) refl not_30_40,
          (
            overturned ((20, 40) ∷ (10, 50) ∷ (50, 60) ∷ (20, 30) ∷ (30, 40) ∷ []) (10, 20) refl refl (lit< tt) (lit< tt) refl not_10_20,
            (agreeing ((20, 40) ∷ (10, 50) ∷ (50, 60) ∷ (20, 30) ∷ (30, 40) ∷ (10, 20) ∷ []) (10, 60) refl, tt),
          ),
        ),
      ),
    ),
  ),
)

preferred : IsPreferred kept (wanted (degree all) kept) order providers
preferred before e after split = each_split PreferredAt [] order before e after preferred_each split

-- ---- the peerings

abbrev RelabelledAt : List Edge → Edge → List Edge → Type 0
RelabelledAt before e after =
    ((labels e.0 e.1 ≡ Label.Peer) ↔ MayPeer (degree all) 60 kept (so_far before labels (labels_of providers)) e) ×
    (labels e.0 e.1 ≢ Label.Peer → labels e.0 e.1 ≡ labels_of providers e.0 e.1)

-- an edge that may not become a peering, since a kept path would have a valley, or since no kept path holds it
blocked : (before : List Edge) (e : Edge) → (labels e.0 e.1 ≡ Label.Peer → ⊥) → labels e.0 e.1 ≡ labels_of providers e.0 e.1 →
    (MayPeer (degree all) 60 kept (so_far before labels (labels_of providers)) e → ⊥) →
    ((labels e.0 e.1 ≡ Label.Peer) ↔ MayPeer (degree all) 60 kept (so_far before labels (labels_of providers)) e) × (labels e.0 e.1 ≢ Label.Peer → labels e.0 e.1 ≡ labels_of providers e.0 e.1)
blocked before e not_peer same out = ((λ h. absurd (not_peer h), λ m. absurd (out m)), λ _. same)

valley_in_first : (before : List Edge) (e : Edge) → no_valley (slopes (with_peer (so_far before labels (labels_of providers)) e) first) ≡ false →
    MayPeer (degree all) 60 kept (so_far before labels (labels_of providers)) e → ⊥
valley_in_first before e h m =
    both_ways (no_valley (slopes (with_peer (so_far before labels (labels_of providers)) e) first)) h
    ((no_valley_iff (with_peer (so_far before labels (labels_of providers)) e) first).1 (m.stays 0 [] (lit< tt)))

valley_in_second : (before : List Edge) (e : Edge) → no_valley (slopes (with_peer (so_far before labels (labels_of providers)) e) second) ≡ false →
    MayPeer (degree all) 60 kept (so_far before labels (labels_of providers)) e → ⊥
valley_in_second before e h m =
    both_ways (no_valley (slopes (with_peer (so_far before labels (labels_of providers)) e) second)) h
    ((no_valley_iff (with_peer (so_far before labels (labels_of providers)) e) second).1 (m.stays 1 [] (lit< tt)))

high_no_peer : Label.High ≡ Label.Peer → ⊥
high_no_peer h = cc

low_no_peer : Label.Low ≡ Label.Peer → ⊥
low_no_peer h = cc

peer_20_40 : MayPeer (degree all) 60 kept (so_far ((30, 40) ∷ []) labels (labels_of providers)) (20, 40)
unfolding slope is_over
peer_20_40 = record {
  held = lit< tt;
  alike = lit≤ tt;
  stays = All-from_recursion (ValleyFree (with_peer (so_far ((30, 40) ∷ []) labels (labels_of providers)) (20, 40))) kept ((1, 3, inr refl), ((3, 0, inl refl), tt));
}

relabelled_each : EachSplit RelabelledAt [] its_edges
unfolding slope is_over
relabelled_each = (
  blocked [] (30, 40) high_no_peer refl (valley_in_first [] (30, 40) refl),
  (
    ((λ _. peer_20_40, λ _. refl), λ h. absurd (h refl)),
    (
      blocked ((30, 40) ∷ (20, 40) ∷ []) (10, 20) high_no_peer refl (valley_in_first ((30, 40) ∷ (20, 40) ∷ []) (10, 20) refl),
      (
        blocked ((30, 40) ∷ (20, 40) ∷ (10, 20) ∷ []) (10, 50) low_no_peer refl (valley_in_first ((30, 40) ∷ (20, 40) ∷ (10, 20) ∷ []) (10, 50) refl),
        (
          blocked ((30, 40) ∷ (20, 40) ∷ (10, 20) ∷ (10, 50) ∷ []) (50, 60) low_no_peer refl (valley_in_first ((30, 40) ∷ (20, 40) ∷ (10, 20) ∷ (10, 50) ∷ []) (50, 60) refl),
          (
            blocked ((30, 40) ∷ (20, 40) ∷ (10, 20) ∷ (10, 50) ∷ (50, 60) ∷ []) (20, 30) high_no_peer refl (valley_in_second ((30, 40) ∷ (20, 40) ∷ (10, 20) ∷ (10, 50) ∷ (50, 60) ∷ []) (20, 30) refl),
            (blocked ((30, 40) ∷ (20, 40) ∷ (10, 20) ∷ (10, 50) ∷ (50, 60) ∷ (20, 30) ∷ []) (10, 60) low_no_peer refl (λ m. nothing_holds m.held), tt),
          ),
        ),
      ),
    ),
  ),
)
  where
    nothing_holds : 0 < 0 → ⊥
    nothing_holds h = absurd (omega arith)

relabelled : IsRelabelled (degree all) 60 kept its_edges (labels_of providers) labels
relabelled before e after split = each_split RelabelledAt [] its_edges before e after relabelled_each split
