-- Edge by edge, each becomes a peering exactly if it may.
use Rattle.std.proofs.Common.{◌≡◌, ◌≢◌, ◌↔◌, ℕ, zero, suc, ◌+◌, ◌<◌, ◌≤◌, ◌⊎◌, inl, inr, true, false, List, [], ◌∷◌, ◌++◌, length, get_or, map, take, refl, sym, ap, ◌∙◌, subst, arith, All, Contains}
use Rattle.std.proofs.Common.{slice_get, Some, if◌then◌else◌}
use Rattle.std.specs.List.{list_any}
use Rattle.std.proofs.lemmas.Bool.{cases_Bool, cases_lt, or_cases, false≢true}
use Rattle.std.proofs.lemmas.Option.{slice_get_within, same_Some}
use Rattle.std.proofs.lemmas.List.{length-map, get_or-map}
use Rattle.relationships.specs.declared.label.End.{End}
use Rattle.relationships.specs.declared.label.Label.{Label}
use Rattle.relationships.specs.Relationship.{Orientation, Labelling, label_of, labels_of, ValleyFree, Serves}
use Rattle.relationships.specs.Graph.{Edge, is_same, edges, orientation, labelling}
use Rattle.relationships.specs.Preference.{MayPeer, with_peer, so_far, IsRelabelled}
use Rattle.relationships.proofs.Edges.{same_edge}
use Rattle.as_graph.proofs.Labelled.{NoneTwice, none_at, same_itself, labelling_at, orientation_at}
use Rattle.peering.proofs.Reading.{swapped, free_by}

-- ---- places of edges

-- what stands before an edge is not that edge
before_other : (es : List Edge) (n j : ℕ) (e p : Edge) → NoneTwice es → slice_get es n ≡ Some e → j ≤ n → list_any (is_same p) (take j es) ≡ true → is_same p e ≡ false
before_other [] n j e p once is le t = absurd (cc is)
before_other (f ∷ es) n zero e p once is le t = absurd (false≢true t)
before_other (f ∷ es) zero (suc j) e p once is le t = absurd (omega arith)
before_other (f ∷ es) (suc n) (suc j) e p once is le t =
    elim (or_cases (is_same p f) (list_any (is_same p) (take j es)) t) [
      | inl s ↦ subst (λ (g : Edge). is_same g e ≡ false) (sym (same_edge p f s)) (none_at f es n e once.0 is)
      | inr r ↦ before_other es n j e p once.1 is (omega arith) r
    ]

-- an edge at a lower place stands before
among_before : (es : List Edge) (n j : ℕ) (f : Edge) → slice_get es j ≡ Some f → j < n → list_any (is_same f) (take n es) ≡ true
among_before [] n j f is lt = absurd (cc is)
among_before (x ∷ es) zero j f is lt = absurd (omega arith)
among_before (x ∷ es) (suc n) zero f is lt =
    let here : x ≡ f = cc is in rw (subst (λ (g : Edge). is_same f g ≡ true) (sym here) (same_itself f)) refl
among_before (x ∷ es) (suc n) (suc j) f is lt =
    elim (cases_Bool (is_same f x)) [ inl t ↦ rw t refl | inr m ↦ rw m (among_before es n j f is (omega arith)) ]

place_of : (es : List Edge) (f : Edge) → Contains es f → (j : ℕ) × (slice_get es j ≡ Some f)
place_of es f c = go es c.0 c.1 c.2
  where
    go : (es : List Edge) (k : ℕ) → k < length es → get_or es k f ≡ f → (j : ℕ) × (slice_get es j ≡ Some f)
    go [] k lt h = absurd (omega arith)
    go (x ∷ es) zero lt h = (0, ap (λ (g : Edge). Some g) h)
    go (x ∷ es) (suc k) lt h = let r = go es k (omega arith) h in (suc r.0, r.1)

no_peer : (O : Orientation) (low high : ℕ) → labels_of O low high ≢ Label.Peer
no_peer O low high = go (O low high)
  where
    go : (end : End) → label_of end ≢ Label.Peer
    go End.Low = λ e. cc
    go End.High = λ e. cc

same_as_peer : (l : Label) → (l ≡ Label.Peer) ⊎ (l ≢ Label.Peer)
same_as_peer Label.Low = inr (λ e. cc)
same_as_peer Label.High = inr (λ e. cc)
same_as_peer Label.Peer = inl refl

module _ (degree : ℕ → ℕ) (ratio : ℕ) (kept : List (List ℕ)) (es : List Edge) (O : Orientation) where
  -- the edges before a place are settled, and the others have their first labels
  pub record IsSoFar (n : ℕ) (L : Labelling) : Type 0 where
    pub rest : (j : ℕ) (f : Edge) → n ≤ j → slice_get es j ≡ Some f → L f.0 f.1 ≡ labels_of O f.0 f.1
    pub flipped : (j : ℕ) (f : Edge) → j < n → slice_get es j ≡ Some f → ((L f.0 f.1 ≡ Label.Peer) ↔ MayPeer degree ratio kept (so_far (take j es) L (labels_of O)) f)
    pub others : (j : ℕ) (f : Edge) → j < n → slice_get es j ≡ Some f → L f.0 f.1 ≢ Label.Peer → L f.0 f.1 ≡ labels_of O f.0 f.1
    pub free : All (ValleyFree L) kept

  MayPeer-same : (L L' : Labelling) (e : Edge) → ((f : Edge) → Contains (edges kept) f → L f.0 f.1 ≡ L' f.0 f.1) → MayPeer degree ratio kept L e → MayPeer degree ratio kept L' e
  MayPeer-same L L' e same m = record {
    held = m.held;
    alike = m.alike;
    stays = free_by (with_peer L e) (with_peer L' e) kept (λ f c. ap (λ l. if is_same (f.0, f.1) e then Label.Peer else l) (same f c)) m.stays;
  }

  -- each edge has its first label, or is a peering
  pub first_or_peer : (n : ℕ) (L : Labelling) → IsSoFar n L → (j : ℕ) (f : Edge) → slice_get es j ≡ Some f → (L f.0 f.1 ≡ Label.Peer) ⊎ (L f.0 f.1 ≡ labels_of O f.0 f.1)
  first_or_peer n L h j f at =
      elim (cases_lt j n) [
        | inl less ↦ elim (same_as_peer (L f.0 f.1)) [ inl p ↦ inl p | inr other ↦ inr (h.others j f less at other) ]
        | inr ge ↦ inr (h.rest j f ge at)
      ]

  module _ (once : NoneTwice es) (each : (f : Edge) → Contains (edges kept) f → Contains es f) where
    -- the labels so far are those now
    now : (n : ℕ) (L : Labelling) → IsSoFar n L → (f : Edge) → Contains (edges kept) f → so_far (take n es) L (labels_of O) f.0 f.1 ≡ L f.0 f.1
    now n L h f c =
        let at = place_of es f (each f c) in
        elim (cases_Bool (list_any (is_same (f.0, f.1)) (take n es))) [
          | inl t ↦ rw t refl
          | inr out ↦ elim (cases_lt at.0 n) [
            | inl lt ↦ absurd (false≢true (sym out ∙ among_before es n at.0 f at.1 lt))
            | inr le ↦ rw out (sym (h.rest at.0 f le at.1))
          ]
        ]

    -- a change at a place changes nothing before it
    unchanged : (n j : ℕ) (e : Edge) (L L' : Labelling) → slice_get es n ≡ Some e → j ≤ n → ((low high : ℕ) → L' low high ≡ with_peer L e low high) → (low high : ℕ) →
        so_far (take j es) L (labels_of O) low high ≡ so_far (take j es) L' (labels_of O) low high
    unchanged n j e L L' is le same low high =
        elim (cases_Bool (list_any (is_same (low, high)) (take j es))) [
          | inl t ↦
              let other = before_other es n j e (low, high) once is le t in
              let here : L' low high ≡ L low high = same low high ∙ ap (λ b. if b then Label.Peer else L low high) other in
              rw t (sym here)
          | inr out ↦ rw out refl
        ]

    -- an edge that is not that of the place keeps its label
    elsewhere : (n j : ℕ) (e f : Edge) (L L' : Labelling) → slice_get es n ≡ Some e → slice_get es j ≡ Some f → is_same f e ≡ false → ((low high : ℕ) → L' low high ≡ with_peer L e low high) →
        L' f.0 f.1 ≡ L f.0 f.1
    elsewhere n j e f L L' is at apart same = same f.0 f.1 ∙ ap (λ b. if b then Label.Peer else L f.0 f.1) apart

    apart_before : (n j : ℕ) (e f : Edge) → slice_get es n ≡ Some e → slice_get es j ≡ Some f → j < n → is_same f e ≡ false
    apart_before n j e f is at lt = before_other es n n e f once is (omega arith) (among_before es n j f at lt)

    same_place : (n j : ℕ) (e f : Edge) → j ≡ n → slice_get es n ≡ Some e → slice_get es j ≡ Some f → f ≡ e
    same_place n j e f same is at = same_Some _ _ (sym at ∙ ap (slice_get es) same ∙ is)

    -- the edge of the place becomes a peering
    pub flips : (n : ℕ) (e : Edge) (L L' : Labelling) → slice_get es n ≡ Some e → ((low high : ℕ) → L' low high ≡ with_peer L e low high) →
        MayPeer degree ratio kept L e → IsSoFar n L → IsSoFar (n + 1) L'
    flips n e L L' is same may h = record {
      rest = λ j f le at.
          elsewhere n j e f L L' is at (swapped f e ∙ apart_before j n f e at is (omega (arith, le))) same ∙ h.rest j f (omega (arith, le)) at;
      flipped = λ j f lt at.
          elim (cases_lt j n) [
            | inl less ↦
                let same_f = elsewhere n j e f L L' is at (apart_before n j e f is at less) same in
                let le : j ≤ n = omega (arith, less) in
                let was = h.flipped j f less at in (
                  λ p. MayPeer-same (so_far (take j es) L (labels_of O)) (so_far (take j es) L' (labels_of O)) f (λ g c. unchanged n j e L L' is le same g.0 g.1) (was.0 (sym same_f ∙ p)),
                  λ m. same_f ∙ was.1 (MayPeer-same (so_far (take j es) L' (labels_of O)) (so_far (take j es) L (labels_of O)) f (λ g c. sym (unchanged n j e L L' is le same g.0 g.1)) m),
                )
            | inr ge ↦
                let at_n : j ≡ n = omega (arith, lt, ge) in
                let is_e = same_place n j e f at_n is at in (
                  λ p. subst (λ (g : Edge). MayPeer degree ratio kept (so_far (take j es) L' (labels_of O)) g) (sym is_e)
                      (MayPeer-same L (so_far (take j es) L' (labels_of O)) e
                      (λ g c. sym (now n L h g c) ∙ unchanged n n e L L' is (omega arith) same g.0 g.1 ∙ ap (λ m. so_far (take m es) L' (labels_of O) g.0 g.1) (sym at_n)) may),
                  λ m. subst (λ (g : Edge). L' g.0 g.1 ≡ Label.Peer) (sym is_e) (same e.0 e.1 ∙ ap (λ b. if b then Label.Peer else L e.0 e.1) (same_itself e)),
                )
          ];
      others = λ j f lt at no.
          elim (cases_lt j n) [
            | inl less ↦
                let same_f = elsewhere n j e f L L' is at (apart_before n j e f is at less) same in
                same_f ∙ h.others j f less at (λ p. no (same_f ∙ p))
            | inr ge ↦
                let is_e = same_place n j e f (omega (arith, lt, ge)) is at in
                absurd (no (subst (λ (g : Edge). L' g.0 g.1 ≡ Label.Peer) (sym is_e) (same e.0 e.1 ∙ ap (λ b. if b then Label.Peer else L e.0 e.1) (same_itself e))))
          ];
      free = free_by (with_peer L e) L' kept (λ f c. sym (same f.0 f.1)) may.stays;
    }

    -- the edge of the place may not
    pub keeps : (n : ℕ) (e : Edge) (L : Labelling) → slice_get es n ≡ Some e → (MayPeer degree ratio kept L e → ⊥) → IsSoFar n L → IsSoFar (n + 1) L
    keeps n e L is may_not h = record {
      rest = λ j f le at. h.rest j f (omega (arith, le)) at;
      flipped = λ j f lt at.
          elim (cases_lt j n) [
            | inl less ↦ h.flipped j f less at
            | inr ge ↦
                let at_n : j ≡ n = omega (arith, lt, ge) in
                let is_e = same_place n j e f at_n is at in (
                  λ p. absurd (no_peer O f.0 f.1 (sym (h.rest j f ge at) ∙ p)),
                  λ m. absurd (may_not (MayPeer-same (so_far (take j es) L (labels_of O)) L e
                      (λ g c. ap (λ m. so_far (take m es) L (labels_of O) g.0 g.1) at_n ∙ now n L h g c)
                      (subst (λ (g : Edge). MayPeer degree ratio kept (so_far (take j es) L (labels_of O)) g) is_e m))),
                )
          ];
      others = λ j f lt at no.
          elim (cases_lt j n) [
            | inl less ↦ h.others j f less at no
            | inr ge ↦ h.rest j f ge at
          ];
      free = h.free;
    }

    -- when all edges are settled
    pub relabelled : (n : ℕ) (L : Labelling) → n ≡ length es → IsSoFar n L → IsRelabelled degree ratio kept es (labels_of O) L
    relabelled n L all h before e after split =
        let at = split_place es before e after split in
        let lt : length before < n = subst (λ m. length before < m) (sym all) at.2 in (
          subst (λ b. (L e.0 e.1 ≡ Label.Peer) ↔ MayPeer degree ratio kept (so_far b L (labels_of O)) e) at.1 (h.flipped (length before) e lt at.0),
          h.others (length before) e lt at.0,
        )
      where
        split_place : (es before : List Edge) (e : Edge) (after : List Edge) → es ≡ before ++ (e ∷ after) →
            (slice_get es (length before) ≡ Some e) × (take (length before) es ≡ before) × (length before < length es)
        split_place es before e after split =
            subst (λ (l : List Edge). (slice_get l (length before) ≡ Some e) × (take (length before) l ≡ before) × (length before < length l)) (sym split) (go before)
          where
            go : (before : List Edge) → (slice_get (before ++ (e ∷ after)) (length before) ≡ Some e) ×
                (take (length before) (before ++ (e ∷ after)) ≡ before) × (length before < length (before ++ (e ∷ after)))
            go [] = (refl, refl, omega arith)
            go (x ∷ before) = let r = go before in let lt = r.2 in (r.0, ap (λ (l : List Edge). x ∷ l) r.1, omega (arith, lt))

-- at first no edge is settled
pub begins : (degree : ℕ → ℕ) (ratio : ℕ) (kept : List (List ℕ)) (es : List Edge) (ends : List End) → NoneTwice es → ((f : Edge) → Contains (edges kept) f → Contains es f) → length ends ≡ length es →
    Serves (orientation es ends) kept → IsSoFar degree ratio kept es (orientation es ends) 0 (labelling es (map label_of ends))
begins degree ratio kept es ends once each many serves = record {
  rest = λ j f le at. first j f at;
  flipped = λ j f lt at. absurd (omega (arith, lt));
  others = λ j f lt at. absurd (omega (arith, lt));
  free = free_by (labels_of (orientation es ends)) (labelling es (map label_of ends)) kept (λ f c. let at = place_of es f (each f c) in sym (first at.0 f at.1)) serves;
}
  where
    first : (j : ℕ) (f : Edge) → slice_get es j ≡ Some f → labelling es (map label_of ends) f.0 f.1 ≡ label_of (orientation es ends f.0 f.1)
    first j f at =
        let lt = slice_get_within es j f at in
        let n = length-map ends label_of in
        let j_lt : j < length ends = omega (arith, lt, many) in
        labelling_at es (map label_of ends) j f.0 f.1 Label.Peer once at (omega (arith, n, j_lt)) ∙ get_or-map label_of ends j End.Low Label.Peer j_lt ∙
        sym (ap label_of (orientation_at es ends j f.0 f.1 End.Low once at j_lt))
