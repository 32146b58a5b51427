-- The preferred orientation serves, and the peerings that it leaves are all that may be.
use Rattle.std.proofs.Common.{◌≡◌, ◌≢◌, ℕ, zero, suc, ◌<◌, ◌⊎◌, inl, inr, Bool, true, false, ◌||◌, List, [], ◌∷◌, ◌++◌, length, get_or, refl, sym, ap, ◌∙◌, subst, arith, append_assoc, append-nil, All}
use Rattle.std.proofs.Common.{Contains, eq-eqb, if◌then◌else◌}
use Rattle.std.specs.List.{list_any}
use Rattle.std.proofs.lemmas.Bool.{cases_Bool}
use Rattle.std.proofs.lemmas.List.Elements.{All-contains, All-nil, All-push, All-from_get_or, Contains-get_or}
use Rattle.relationships.specs.declared.label.End.{End}
use Rattle.relationships.specs.declared.label.Label.{Label}
use Rattle.relationships.specs.Relationship.{Orientation, Labelling, labels_of, ValleyFree, Serves}
use Rattle.relationships.specs.Graph.{Edge, SameOn, is_same, edges, support}
use Rattle.relationships.specs.Preference.{IsPreferred, with_peer, so_far, IsRelabelled, IsAlike, AgreesOn}
use Rattle.relationships.specs.Laws.Preference.{PreferenceLaw, RelabellingLaw, MaximalLaw}
use Rattle.relationships.proofs.Edges.{same_edge, relaxing_law, reading_law}

same_end : (x y : End) → (x ≡ y) ⊎ (x ≡ y → ⊥)
same_end End.Low End.Low = inl refl
same_end End.Low End.High = inr (λ e. cc)
same_end End.High End.Low = inr (λ e. cc)
same_end End.High End.High = inl refl

both_other : (x y w : End) → (x ≡ w → ⊥) → (y ≡ w → ⊥) → x ≡ y
both_other End.Low End.Low w h k = refl
both_other End.High End.High w h k = refl
both_other End.Low End.High End.Low h k = absurd (h refl)
both_other End.Low End.High End.High h k = absurd (k refl)
both_other End.High End.Low End.Low h k = absurd (k refl)
both_other End.High End.Low End.High h k = absurd (h refl)

module _ (kept : List (List ℕ)) (wanted : Edge → End) (order : List Edge) (O : Orientation) (preferred : IsPreferred kept wanted order O) where
  abbrev Agreed : List Edge → Type 0
  Agreed before = (O' : Orientation) × Serves O' kept × SameOn before O O'

  one_more : (before : List Edge) (e : Edge) (after : List Edge) → order ≡ before ++ (e ∷ after) → Agreed before → Agreed (before ++ e ∷ [])
  one_more before e after split (O', serves, same) =
      elim (same_end (O e.0 e.1) (wanted e)) [
        | inl is ↦
            let r = (preferred before e after split).0 is in
            (r.0, r.1, All-push (λ (f : Edge). O f.0 f.1 ≡ r.0 f.0 f.1) before e r.2 (is ∙ sym r.3))
        | inr not ↦
            let other : O' e.0 e.1 ≡ wanted e → ⊥ = λ h. not ((preferred before e after split).1 (O', serves, same, h)) in
            (O', serves, All-push (λ (f : Edge). O f.0 f.1 ≡ O' f.0 f.1) before e same (both_other (O e.0 e.1) (O' e.0 e.1) (wanted e) not other))
      ]

  agreed_on : (before rest : List Edge) → order ≡ before ++ rest → Agreed before → Agreed order
  agreed_on before [] split a = subst Agreed (sym (split ∙ append-nil before)) a
  agreed_on before (e ∷ rest) split a =
      agreed_on (before ++ e ∷ []) rest (split ∙ sym (append_assoc before (e ∷ []) rest)) (one_more before e rest split a)

pub preference_law : PreferenceLaw
preference_law kept wanted order O servable preferred each =
    let r = agreed_on kept wanted order O preferred [] order refl (servable.0, servable.1, All-nil (λ (f : Edge). O f.0 f.1 ≡ servable.0 f.0 f.1)) in
    reading_law r.0 O kept
    (All-from_get_or (λ (f : Edge). r.0 f.0 f.1 ≡ O f.0 f.1) (edges kept) (0, 0)
    (λ i within. sym (All-contains (λ (f : Edge). O f.0 f.1 ≡ r.0 f.0 f.1) order (get_or (edges kept) i (0, 0)) r.2
    (each (get_or (edges kept) i (0, 0)) (Contains-get_or (edges kept) i (0, 0) within)))))
    r.1

-- ---- peerings

pub split_at : (es : List Edge) (e : Edge) (k : ℕ) → k < length es → get_or es k e ≡ e → (before after : List Edge) × (es ≡ before ++ (e ∷ after))
split_at [] e k lt h = absurd (omega arith)
split_at (f ∷ es) e zero lt h = ([], es, ap (λ w. w ∷ es) h)
split_at (f ∷ es) e (suc k) lt h = let r = split_at es e k (omega arith) h in (f ∷ r.0, r.1, ap (λ (l : List Edge). f ∷ l) r.2)

any_push : (p : Edge → Bool) (es : List Edge) (e : Edge) → list_any p (es ++ e ∷ []) ≡ (list_any p es || p e)
any_push p [] e = elim (cases_Bool (p e)) [ inl t ↦ rw t | inr f ↦ rw f ]
any_push p (f ∷ es) e = elim (cases_Bool (p f)) [ inl t ↦ rw t | inr n ↦ rw n (any_push p es e) ]

any_at : (p : Edge → Bool) (es : List Edge) (e : Edge) (k : ℕ) → k < length es → get_or es k e ≡ e → p e ≡ true → list_any p es ≡ true
any_at p [] e k lt h t = absurd (omega arith)
any_at p (f ∷ es) e zero lt h t = rw (h, t)
any_at p (f ∷ es) e (suc k) lt h t = elim (cases_Bool (p f)) [ inl u ↦ rw u | inr n ↦ rw n (any_at p es e k (omega arith) h t) ]

-- labellings that say the same at each pair
from_same : (L L' : Labelling) (paths : List (List ℕ)) → ((low high : ℕ) → L low high ≡ L' low high) → All (ValleyFree L) paths → All (ValleyFree L') paths
from_same L L' paths same h =
    relaxing_law L L' paths (λ k d within. (
      λ e. sym (same (get_or (edges paths) k d).0 (get_or (edges paths) k d).1) ∙ e,
      λ e. sym (same (get_or (edges paths) k d).0 (get_or (edges paths) k d).1) ∙ e,
    )) h

pick : (s t : Bool) (x y p : Label) → (t ≡ true → x ≡ p) → (if t then p else (if s then x else y)) ≡ (if s || t then x else y)
pick true true x y p h = sym (h refl)
pick true false x y p h = refl
pick false true x y p h = sym (h refl)
pick false false x y p h = refl

pick_same : (s t : Bool) (x y : Label) → (t ≡ true → x ≡ y) → (if s then x else y) ≡ (if s || t then x else y)
pick_same true t x y h = refl
pick_same false true x y h = sym (h refl)
pick_same false false x y h = refl

pub same_as_peer : (l : Label) → (l ≡ Label.Peer) ⊎ (l ≡ Label.Peer → ⊥)
same_as_peer Label.Low = inr (λ e. cc)
same_as_peer Label.High = inr (λ e. cc)
same_as_peer Label.Peer = inl refl

module _ (degree : ℕ → ℕ) (ratio : ℕ) (kept : List (List ℕ)) (es : List Edge) (O : Orientation) (last : Labelling)
    (relabelled : IsRelabelled degree ratio kept es (labels_of O) last) where
  abbrev Now : List Edge → Labelling
  Now before = so_far before last (labels_of O)

  next : (before : List Edge) (e : Edge) (low high : ℕ) →
      Now (before ++ e ∷ []) low high ≡ (if list_any (is_same (low, high)) before || is_same (low, high) e then last low high else labels_of O low high)
  next before e low high = ap (λ b. if b then last low high else labels_of O low high) (any_push (is_same (low, high)) before e)

  same_label : (low high : ℕ) (e : Edge) → is_same (low, high) e ≡ true → (L : Labelling) → L low high ≡ L e.0 e.1
  same_label low high e t L = ap (λ (f : Edge). L f.0 f.1) (same_edge (low, high) e t)

  -- the labels so far, with e as a peering, where it becomes one
  peer_next : (before : List Edge) (e : Edge) → last e.0 e.1 ≡ Label.Peer → (low high : ℕ) → with_peer (Now before) e low high ≡ Now (before ++ e ∷ []) low high
  peer_next before e is low high =
      pick (list_any (is_same (low, high)) before) (is_same (low, high) e) (last low high) (labels_of O low high) Label.Peer (λ t. same_label low high e t last ∙ is) ∙
      sym (next before e low high)

  -- the labels so far, where it does not
  kept_next : (before : List Edge) (e : Edge) → last e.0 e.1 ≡ labels_of O e.0 e.1 → (low high : ℕ) → Now before low high ≡ Now (before ++ e ∷ []) low high
  kept_next before e is low high =
      pick_same (list_any (is_same (low, high)) before) (is_same (low, high) e) (last low high) (labels_of O low high)
      (λ t. same_label low high e t last ∙ is ∙ sym (same_label low high e t (labels_of O))) ∙
      sym (next before e low high)

  relabelled_on : (before rest : List Edge) → es ≡ before ++ rest → All (ValleyFree (Now before)) kept → All (ValleyFree (Now es)) kept
  relabelled_on before [] split h = subst (λ l. All (ValleyFree (Now l)) kept) (sym (split ∙ append-nil before)) h
  relabelled_on before (e ∷ rest) split h =
      relabelled_on (before ++ e ∷ []) rest (split ∙ sym (append_assoc before (e ∷ []) rest))
      (elim (same_as_peer (last e.0 e.1)) [
        | inl is ↦ from_same (with_peer (Now before) e) (Now (before ++ e ∷ [])) kept (peer_next before e is) ((relabelled before e rest split).0.0 is).stays
        | inr not ↦ from_same (Now before) (Now (before ++ e ∷ [])) kept (kept_next before e ((relabelled before e rest split).1 not)) h
      ])

  now_last : (e : Edge) → Contains es e → Now es e.0 e.1 ≡ last e.0 e.1
  now_last e c = rw (any_at (is_same (e.0, e.1)) es e c.0 c.1 c.2 (rw (eq-eqb e.0 e.0 refl, eq-eqb e.1 e.1 refl)))

pub relabelling_law : RelabellingLaw
relabelling_law degree ratio kept es O last serves relabelled each =
    relaxing_law (so_far es last (labels_of O)) last kept
    (λ k d within.
    let e = get_or (edges kept) k d in
    let same = now_last degree ratio kept es O last relabelled e (each e (Contains-get_or (edges kept) k d within)) in
    (λ h. sym same ∙ h, λ h. sym same ∙ h))
    (relabelled_on degree ratio kept es O last relabelled [] es refl serves)

-- what is no peering in the end was none before
earlier_same : (degree : ℕ → ℕ) (ratio : ℕ) (kept : List (List ℕ)) (es : List Edge) (O : Orientation) (last : Labelling) →
    IsRelabelled degree ratio kept es (labels_of O) last → (before : List Edge) (f : Edge) → Contains es f → last f.0 f.1 ≢ Label.Peer →
    so_far before last (labels_of O) f.0 f.1 ≡ last f.0 f.1
earlier_same degree ratio kept es O last relabelled before f c not_peer =
    let at = split_at es f c.0 c.1 c.2 in
    either (list_any (is_same (f.0, f.1)) before) (last f.0 f.1) (labels_of O f.0 f.1) ((relabelled at.0 f at.1 at.2).1 not_peer)
  where
    either : (s : Bool) (x y : Label) → x ≡ y → (if s then x else y) ≡ x
    either true x y h = refl
    either false x y h = sym h

-- an edge that is no peering in the end could not be one more
no_more : (degree : ℕ → ℕ) (ratio : ℕ) (kept : List (List ℕ)) (es : List Edge) (O : Orientation) (last : Labelling) →
    IsRelabelled degree ratio kept es (labels_of O) last → ((f : Edge) → Contains (edges kept) f → Contains es f) →
    (e : Edge) → Contains es e → last e.0 e.1 ≢ Label.Peer → 0 < support kept e → IsAlike degree ratio e → All (ValleyFree (with_peer last e)) kept → ⊥
no_more degree ratio kept es O last relabelled each e among not_peer held alike all_free =
    let at = split_at es e among.0 among.1 among.2 in
    let before = at.0 in
    let now = so_far before last (labels_of O) in
    let agrees : AgreesOn (edges kept) (with_peer last e) (with_peer now e) = λ k d within.
    let f = get_or (edges kept) k d in
    let c = each f (Contains-get_or (edges kept) k d within) in
    (λ h. relaxed f c Label.Low h (λ q. cc), λ h. relaxed f c Label.High h (λ q. cc)) in
    let stays = relaxing_law (with_peer last e) (with_peer now e) kept agrees all_free in
    not_peer ((relabelled at.0 e at.1 at.2).0.1 (record { held = held; alike = alike; stays = stays }))
  where
    relaxed : (f : Edge) → Contains es f → (l : Label) → with_peer last e f.0 f.1 ≡ l → (l ≡ Label.Peer → ⊥) →
        with_peer (so_far (split_at es e among.0 among.1 among.2).0 last (labels_of O)) e f.0 f.1 ≡ l
    relaxed f c l h no_peer =
        elim (cases_Bool (is_same (f.0, f.1) e)) [
          | inl t ↦ absurd (no_peer (sym (rw t at h)))
          | inr n ↦
              let h' : last f.0 f.1 ≡ l = rw n at h in
              rw n (earlier_same degree ratio kept es O last relabelled (split_at es e among.0 among.1 among.2).0 f c (λ p. no_peer (sym h' ∙ p)) ∙ h')
        ]

pub maximal_law : MaximalLaw
maximal_law degree ratio kept es O last relabelled each k d within =
    no_more degree ratio kept es O last relabelled each (get_or es k d) (Contains-get_or es k d within)
