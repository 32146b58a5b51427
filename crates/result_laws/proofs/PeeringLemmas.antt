-- Some labels come of an orientation by the rule on peerings.
use Rattle.std.proofs.Common.{◌≡◌, ◌≢◌, ◌↔◌, ◌⊎◌, inl, inr, ℕ, ◌*◌, min, max, Bool, true, false, ◌||◌, List, [], ◌∷◌, ◌++◌, refl, sym, ap, ◌∙◌, subst, arith, Contains, get_or, if◌then◌else◌}
use Rattle.std.specs.List.{AllByRecursion, list_any}
use Rattle.std.proofs.lemmas.Bool.{cases_Bool, cases_lt, false≢true, or_parts}
use Rattle.std.proofs.lemmas.List.Elements.{All-from_recursion, recursion_from_All, Contains-append_left, Contains-append_right}
use Rattle.relationships.specs.declared.label.End.{End}
use Rattle.relationships.specs.declared.label.Label.{Label}
use Rattle.relationships.specs.Relationship.{Orientation, Labelling, label_of, labels_of, slopes, ValleyFree}
use Rattle.relationships.specs.Graph.{Edge, is_same, edges, support}
use Rattle.relationships.specs.Preference.{MayPeer, IsRelabelled, with_peer, so_far}
use Rattle.relationships.proofs.Checked.{Once}
use Rattle.relationships.proofs.Deciding.{EachSplit, each_split, no_valley, no_valley_iff}
use Rattle.relationships.proofs.Edges.{relaxing_law, same_edge}
use Rattle.relationships.proofs.GivenWalks.{any_contains}
use Rattle.result_laws.proofs.SettlingLemmas.{same_itself, first_one}

-- ---- what is decided

free_or_not : (L : Labelling) (path : List ℕ) → ValleyFree L path ⊎ (ValleyFree L path → ⊥)
free_or_not L path = elim (cases_Bool (no_valley (slopes L path))) [
  | inl t ↦ inl ((no_valley_iff L path).0 t)
  | inr f ↦ inr (λ v. false≢true (sym f ∙ (no_valley_iff L path).1 v))
]

all_free_or_not : (L : Labelling) (paths : List (List ℕ)) → AllByRecursion (ValleyFree L) paths ⊎ (AllByRecursion (ValleyFree L) paths → ⊥)
all_free_or_not L [] = inl tt
all_free_or_not L (path ∷ paths) = elim (free_or_not L path) [
  | inl v ↦ elim (all_free_or_not L paths) [ inl vs ↦ inl (v, vs) | inr n ↦ inr (λ h. n h.1) ]
  | inr n ↦ inr (λ h. n h.0)
]

module _ (degree : ℕ → ℕ) (ratio : ℕ) (served : List (List ℕ)) where
  may_or_not : (L : Labelling) (e : Edge) → MayPeer degree ratio served L e ⊎ (MayPeer degree ratio served L e → ⊥)
  may_or_not L e = elim (cases_lt 0 (support served e)) [
    | inr none ↦ inr (λ m. let held = m.held in omega (arith, none, held))
    | inl held ↦ elim (cases_lt (ratio * min (degree e.0) (degree e.1)) (max (degree e.0) (degree e.1))) [
      | inl above ↦ inr (λ m. let alike = m.alike in omega (arith, above, alike))
      | inr alike ↦ elim (all_free_or_not (with_peer L e) served) [
        | inl free ↦ inl (record { held = held; alike = alike; stays = All-from_recursion (ValleyFree (with_peer L e)) served free })
        | inr not ↦ inr (λ m. not (recursion_from_All (ValleyFree (with_peer L e)) served m.stays))
      ]
    ]
  ]

  -- labels that say the same allow the same
  may_too : (L M : Labelling) (e : Edge) → ((low high : ℕ) → L low high ≡ M low high) → MayPeer degree ratio served L e → MayPeer degree ratio served M e
  may_too L M e same m = record {
    held = m.held;
    alike = m.alike;
    stays = relaxing_law (with_peer L e) (with_peer M e) served
        (λ k d within. (λ is. sym (peered k d) ∙ is, λ is. sym (peered k d) ∙ is)) m.stays;
  }
    where
      peered : (k : ℕ) (d : Edge) → with_peer L e (get_or (edges served) k d).0 (get_or (edges served) k d).1 ≡ with_peer M e (get_or (edges served) k d).0 (get_or (edges served) k d).1
      peered k d = ap (λ l. if is_same ((get_or (edges served) k d).0, (get_or (edges served) k d).1) e then Label.Peer else l) (same (get_or (edges served) k d).0 (get_or (edges served) k d).1)

  -- ---- edge by edge

  any_push : (p : Edge → Bool) (es : List Edge) (e : Edge) → list_any p (es ++ e ∷ []) ≡ (list_any p es || p e)
  any_push p [] e = elim (cases_Bool (p e)) [ inl t ↦ rw t | inr f ↦ rw f ]
  any_push p (f ∷ es) e = elim (cases_Bool (p f)) [ inl t ↦ rw t | inr n ↦ rw n (any_push p es e) ]

  in_first : (p : Edge → Bool) (es : List Edge) (e : Edge) → list_any p es ≡ true → list_any p (es ++ e ∷ []) ≡ true
  in_first p es e t = any_push p es e ∙ rw t refl

  in_last : (p : Edge → Bool) (es : List Edge) (e : Edge) → p e ≡ true → list_any p (es ++ e ∷ []) ≡ true
  in_last p es e t = any_push p es e ∙ elim (cases_Bool (list_any p es)) [ inl u ↦ rw u refl | inr n ↦ rw (n, t) refl ]

  in_neither : (p : Edge → Bool) (es : List Edge) (e : Edge) → list_any p (es ++ e ∷ []) ≡ false → (list_any p es ≡ false) × (p e ≡ false)
  in_neither p es e f = or_parts (list_any p es) (p e) (sym (any_push p es e) ∙ f)

  module _ (O : Orientation) where
    never_peer : (e : End) → label_of e ≡ Label.Peer → ⊥
    never_peer End.Low is = cc
    never_peer End.High is = cc

    -- the rule at an edge: it becomes a peering exactly if it may, and else keeps its provider
    abbrev Rule : Labelling → List Edge → Edge → List Edge → Type 0
    Rule last before e after =
        ((last e.0 e.1 ≡ Label.Peer) ↔ MayPeer degree ratio served (so_far before last (labels_of O)) e) × (last e.0 e.1 ≢ Label.Peer → last e.0 e.1 ≡ labels_of O e.0 e.1)

    -- labels that are those of L at the edges that are done, and follow the rule at the others
    abbrev Relabelled : Labelling → List Edge → List Edge → Type 0
    Relabelled L seen rest =
        (last : Labelling) × ((low high : ℕ) → list_any (is_same (low, high)) seen ≡ true → last low high ≡ L low high) × EachSplit (Rule last) seen rest

    -- elsewhere L has the providers still
    abbrev IsUntouched : Labelling → List Edge → Type 0
    IsUntouched L seen = (low high : ℕ) → list_any (is_same (low, high)) seen ≡ false → L low high ≡ labels_of O low high

    now_is : (L last : Labelling) (seen : List Edge) → IsUntouched L seen → ((low high : ℕ) → list_any (is_same (low, high)) seen ≡ true → last low high ≡ L low high) → (low high : ℕ) →
        so_far seen last (labels_of O) low high ≡ L low high
    now_is L last seen untouched same low high = elim (cases_Bool (list_any (is_same (low, high)) seen)) [
      | inl t ↦ rw t (same low high t)
      | inr f ↦ rw f (sym (untouched low high f))
    ]

    abbrev New : List Edge → List Edge → Type 0
    New seen rest = AllByRecursion (λ (f : Edge). list_any (is_same (f.0, f.1)) seen ≡ false) rest

    new_behind : (seen : List Edge) (e : Edge) (rest : List Edge) → AllByRecursion (λ f. is_same e f ≡ false) rest → New seen rest → New (seen ++ e ∷ []) rest
    new_behind seen e [] apart new = tt
    new_behind seen e (f ∷ rest) apart new = (here, new_behind seen e rest apart.1 new.1)
      where
        other : is_same (f.0, f.1) e ≡ false
        other = elim (cases_Bool (is_same (f.0, f.1) e)) [
          | inl t ↦ absurd (false≢true (sym apart.0 ∙ subst (λ (g : Edge). is_same e g ≡ true) (sym (same_edge (f.0, f.1) e t)) (same_itself e)))
          | inr n ↦ n
        ]

        here : list_any (is_same (f.0, f.1)) (seen ++ e ∷ []) ≡ false
        here = any_push (is_same (f.0, f.1)) seen e ∙ rw (new.0, other) refl

    relabelled : (seen rest : List Edge) (L : Labelling) → Once rest → New seen rest → IsUntouched L seen → Relabelled L seen rest
    relabelled seen [] L once new untouched = (L, (λ low high t. refl), tt)
    relabelled seen (e ∷ rest) L once new untouched = elim (may_or_not L e) [
      | inl may ↦ peer may (relabelled (seen ++ e ∷ []) rest (with_peer L e) once.1 (new_behind seen e rest once.0 new.1) untouched_too)
      | inr not ↦ no_peer not (relabelled (seen ++ e ∷ []) rest L once.1 (new_behind seen e rest once.0 new.1) (λ low high f. untouched low high (in_neither (is_same (low, high)) seen e f).0))
    ]
      where
        untouched_too : IsUntouched (with_peer L e) (seen ++ e ∷ [])
        untouched_too low high f = let k = in_neither (is_same (low, high)) seen e f in rw (k.1) (untouched low high k.0)

        apart : (low high : ℕ) → list_any (is_same (low, high)) seen ≡ true → is_same (low, high) e ≡ false
        apart low high t = elim (cases_Bool (is_same (low, high) e)) [
          | inl u ↦ absurd (false≢true (sym new.0 ∙ subst (λ (g : Edge). list_any (is_same g) seen ≡ true) (same_edge (low, high) e u) t))
          | inr n ↦ n
        ]

        peer : MayPeer degree ratio served L e → Relabelled (with_peer L e) (seen ++ e ∷ []) rest → Relabelled L seen (e ∷ rest)
        peer may r =
            let is : r.0 e.0 e.1 ≡ Label.Peer = r.1 e.0 e.1 (in_last (is_same (e.0, e.1)) seen e (same_itself e)) ∙ rw (same_itself e) refl in
            let same : (low high : ℕ) → list_any (is_same (low, high)) seen ≡ true → r.0 low high ≡ L low high =
            λ low high t. r.1 low high (in_first (is_same (low, high)) seen e t) ∙ rw (apart low high t) refl in
            (r.0, same, ((((λ _. may_too L (so_far seen r.0 (labels_of O)) e (λ low high. sym (now_is L r.0 seen untouched same low high)) may), (λ _. is)), (λ ne. absurd (ne is))), r.2))

        no_peer : (MayPeer degree ratio served L e → ⊥) → Relabelled L (seen ++ e ∷ []) rest → Relabelled L seen (e ∷ rest)
        no_peer not r =
            let is : r.0 e.0 e.1 ≡ labels_of O e.0 e.1 = r.1 e.0 e.1 (in_last (is_same (e.0, e.1)) seen e (same_itself e)) ∙ untouched e.0 e.1 new.0 in
            let same : (low high : ℕ) → list_any (is_same (low, high)) seen ≡ true → r.0 low high ≡ L low high =
            λ low high t. r.1 low high (in_first (is_same (low, high)) seen e t) in (
              r.0,
              same,
              (
                (
                  (
                    (λ p. absurd (never_peer (O e.0 e.1) (sym is ∙ p))),
                    (λ m. absurd (not (may_too (so_far seen r.0 (labels_of O)) L e (λ low high. now_is L r.0 seen untouched same low high) m))),
                  ),
                  (λ _. is),
                ),
                r.2,
              ),
            )

    nothing_seen : (es : List Edge) → New [] es
    nothing_seen [] = tt
    nothing_seen (e ∷ es) = (refl, nothing_seen es)

    pub some_relabelled : (es : List Edge) → Once es → (last : Labelling) × IsRelabelled degree ratio served es (labels_of O) last
    some_relabelled es once =
        let r = relabelled [] es (labels_of O) once (nothing_seen es) (λ low high f. refl) in
        (r.0, λ before e after split. each_split (Rule r.0) [] es before e after r.2 split)

    -- what says the same at these edges is relabelled alike
    pub relabelled_too : (es : List Edge) (last other : Labelling) → ((e : Edge) → Contains es e → other e.0 e.1 ≡ last e.0 e.1) →
        IsRelabelled degree ratio served es (labels_of O) last → IsRelabelled degree ratio served es (labels_of O) other
    relabelled_too es last other same rule before e after split =
        let here = same e (on_split es before e after split) in
        let k = rule before e after split in
        let now : (low high : ℕ) → so_far before last (labels_of O) low high ≡ so_far before other (labels_of O) low high =
        λ low high. elim (cases_Bool (list_any (is_same (low, high)) before)) [
          | inl t ↦ rw t (sym (same (low, high) (in_front es before e after split (low, high) (any_contains before (low, high) t))))
          | inr f ↦ rw f refl
        ] in (
          (
            (λ is. may_too (so_far before last (labels_of O)) (so_far before other (labels_of O)) e now (k.0.0 (sym here ∙ is))),
            (λ m. here ∙ k.0.1 (may_too (so_far before other (labels_of O)) (so_far before last (labels_of O)) e (λ low high. sym (now low high)) m)),
          ),
          λ ne. here ∙ k.1 (λ is. ne (here ∙ is)),
        )
      where
        on_split : (es before : List Edge) (e : Edge) (after : List Edge) → es ≡ before ++ (e ∷ after) → Contains es e
        on_split es before e after split = subst (λ l. Contains l e) (sym split) (Contains-append_right before (e ∷ after) e (first_one e after e refl))

        in_front : (es before : List Edge) (e : Edge) (after : List Edge) → es ≡ before ++ (e ∷ after) → (f : Edge) → Contains before f → Contains es f
        in_front es before e after split f c = subst (λ l. Contains l f) (sym split) (Contains-append_left before (e ∷ after) f c)
