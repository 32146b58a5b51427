-- Which paths are kept, the order of settling, the preferred providers, the peerings and so the edge lines are determined.
use Rattle.std.proofs.Common.{◌≡◌, ◌≢◌, ◌↔◌, ℕ, zero, suc, ◌<◌, ◌⊎◌, inl, inr, Bool, true, false, not, ◌||◌, List, [], ◌∷◌, ◌++◌, length, get_or, map, Option, is_none, refl, sym, ap}
use Rattle.std.proofs.Common.{ap₂, ◌∙◌, subst, arith, append_assoc, append-nil, All, Contains, IsTrue, eq-eqb, if◌then◌else◌}
use Rattle.std.specs.List.{AllPairs, list_any, count_by}
use Rattle.std.proofs.lemmas.Bool.{cases_Bool}
use Rattle.std.proofs.lemmas.List.Elements.{All-contains, All-nil, All-push, Contains-get_or, Contains-append_right}
use Rattle.relationships.specs.declared.label.End.{End}
use Rattle.relationships.specs.declared.label.Label.{Label}
use Rattle.relationships.specs.declared.mark.Mark.{Mark}
use Rattle.relationships.specs.declared.walk.Walk.{Walk}
use Rattle.relationships.specs.Relationship.{Orientation, Labelling, label_of, labels_of}
use Rattle.relationships.specs.Graph.{Edge, SameOn, is_same, edges, degree, support}
use Rattle.relationships.specs.Evidence.{paths_of, kept_from}
use Rattle.relationships.specs.Selection.{IsForced}
use Rattle.relationships.specs.Preference.{IsSettlingOrder, IsPreferred, IsRelabelled, MayPeer, place, lead, wanted, with_peer, so_far}
use Rattle.relationships.specs.Marking.{is_forced}
use Rattle.relationships.specs.Checking.{claimed_labels}
use Rattle.relationships.proofs.Edges.{same_edge, relaxing_law}
use Rattle.relationships.proofs.Neighbours.{edge_law}
use Rattle.relationships.proofs.Selecting.{selection_law}
use Rattle.result_text.specs.declared.file.EdgeLine.{EdgeLine}
use Rattle.result_text.specs.declared.file.PathLine.{PathLine}
use Rattle.result_text.specs.declared.file.ResultFile.{ResultFile}
use Rattle.result_text.specs.declared.file.Totals.{Totals}
use Rattle.path_table.specs.Rows.{row_paths as counted_paths}
use Rattle.result_rules.specs.File.{claim_on, its_paths, its_walks, its_probes}
use Rattle.result_rules.specs.Against.{row_of}
use Rattle.result_rules.specs.Rules.{right_totals}
use Rattle.result_rules.specs.Totals.{is_peer}
use Rattle.relationships.specs.Fates.{is_kept, walk_of}
use Rattle.result_rules.proofs.Counting.{count-map}
use Rattle.rel_infer.specs.Results.{AreLabels, IsInferred}
use Rattle.rel_infer.specs.OneResult.{OneInferenceLaw, OneResultLaw}
use Rattle.rel_infer.proofs.KeptEdges.{kept_edge}

-- ---- the order of settling

module _ (R : Edge → Edge → Type 0) (never : (e : Edge) → R e e → ⊥) (one_way : (e f : Edge) → R e f → R f e → ⊥) where
  in_tail : (x : Edge) (xs : List Edge) (z : Edge) → Contains (x ∷ xs) z → (x ≡ z) ⊎ Contains xs z
  in_tail x xs z (zero, lt, is) = inl is
  in_tail x xs z (suc k, lt, is) = inr (k, omega (arith, lt), is)

  head_before : (x : Edge) (xs : List Edge) (z : Edge) → AllPairs R (x ∷ xs) → Contains xs z → R x z
  head_before x xs z h c = subst (R x) c.2 (h zero (suc c.0) z (omega arith) (omega (arith, c.1)))

  tail_pairs : (x : Edge) (xs : List Edge) → AllPairs R (x ∷ xs) → AllPairs R xs
  tail_pairs x xs h = λ i j d lt within. h (suc i) (suc j) d (omega (arith, lt)) (omega (arith, within))

  tail_members : (x : Edge) (xs ys : List Edge) → AllPairs R (x ∷ xs) → ((z : Edge) → Contains (x ∷ xs) z → Contains (x ∷ ys) z) → (z : Edge) → Contains xs z → Contains ys z
  tail_members x xs ys h each z c =
      elim (in_tail x ys z (each z (suc c.0, omega (arith, c.1), c.2))) [
        | inl is ↦ absurd (never x (subst (R x) (sym is) (head_before x xs z h c)))
        | inr there ↦ there
      ]

  same_head : (x y : Edge) (xs ys : List Edge) → AllPairs R (x ∷ xs) → AllPairs R (y ∷ ys) → ((z : Edge) → Contains (x ∷ xs) z → Contains (y ∷ ys) z) →
      ((z : Edge) → Contains (y ∷ ys) z → Contains (x ∷ xs) z) → x ≡ y
  same_head x y xs ys h k to from =
      elim (in_tail y ys x (to x (zero, omega arith, refl))) [
        | inl is ↦ sym is
        | inr there ↦ elim (in_tail x xs y (from y (zero, omega arith, refl))) [
          | inl is ↦ is
          | inr here ↦ absurd (one_way x y (head_before x xs y h here) (head_before y ys x k there))
        ]
      ]

  pub one_order : (xs ys : List Edge) → AllPairs R xs → AllPairs R ys → ((z : Edge) → Contains xs z → Contains ys z) → ((z : Edge) → Contains ys z → Contains xs z) → xs ≡ ys
  one_order [] [] h k to from = refl
  one_order [] (y ∷ ys) h k to from = absurd (omega (arith, (from y (zero, omega arith, refl)).1))
  one_order (x ∷ xs) [] h k to from = absurd (omega (arith, (to x (zero, omega arith, refl)).1))
  one_order (x ∷ xs) (y ∷ ys) h k to from =
      let e = same_head x y xs ys h k to from in
      let to' : (z : Edge) → Contains (x ∷ xs) z → Contains (x ∷ ys) z = subst (λ w. (z : Edge) → Contains (x ∷ xs) z → Contains (w ∷ ys) z) (sym e) to in
      let from' : (z : Edge) → Contains (x ∷ ys) z → Contains (x ∷ xs) z = subst (λ w. (z : Edge) → Contains (w ∷ ys) z → Contains (x ∷ xs) z) (sym e) from in
      let k' : AllPairs R (x ∷ ys) = subst (λ w. AllPairs R (w ∷ ys)) (sym e) k in
      ap₂ (λ w ws. w ∷ ws) e
      (one_order xs ys (tail_pairs x xs h) (tail_pairs x ys k') (tail_members x xs ys h to') (tail_members x ys xs k' from'))

pub one_settling : (weight : Edge → ℕ) (es order order' : List Edge) → IsSettlingOrder weight es order → IsSettlingOrder weight es order' → order ≡ order'
one_settling weight es order order' s s' =
    one_order (λ e f. (weight f < weight e) ⊎ ((weight f ≡ weight e) × (place es e < place es f)))
    (λ e h. elim h [ inl less ↦ omega (arith, less) | inr both ↦ omega (arith, both.1) ])
    (λ e f h k. elim h [
      | inl less ↦ elim k [ inl more ↦ omega (arith, less, more) | inr both ↦ omega (arith, less, both.0) ]
      | inr both ↦ elim k [ inl more ↦ omega (arith, both.0, more) | inr too ↦ omega (arith, both.1, too.1) ]
    ])
    order order' s.falling s'.falling (λ z c. (s'.each z).0 ((s.each z).1 c)) (λ z c. (s.each z).0 ((s'.each z).1 c))

-- ---- the preferred providers

same_end : (x y : End) → (x ≡ y) ⊎ (x ≡ y → ⊥)
same_end End.Low End.Low = inl refl
same_end End.Low End.High = inr (λ e. cc)
same_end End.High End.Low = inr (λ e. cc)
same_end End.High End.High = inl refl

both_other : (x y w : End) → (x ≡ w → ⊥) → (y ≡ w → ⊥) → x ≡ y
both_other End.Low End.Low w h k = refl
both_other End.High End.High w h k = refl
both_other End.Low End.High End.Low h k = absurd (h refl)
both_other End.Low End.High End.High h k = absurd (k refl)
both_other End.High End.Low End.Low h k = absurd (k refl)
both_other End.High End.Low End.High h k = absurd (h refl)

wish_too : (kept : List (List ℕ)) (by : Edge → End) (order : List Edge) (O O' : Orientation) → IsPreferred kept by order O → IsPreferred kept by order O' →
    (before : List Edge) (e : Edge) (after : List Edge) → order ≡ before ++ (e ∷ after) → SameOn before O O' → O e.0 e.1 ≡ by e → O' e.0 e.1 ≡ by e
wish_too kept by order O O' preferred preferred' before e after split same is =
    let r = (preferred before e after split).0 is in
    (preferred' before e after split).1 (r.0, r.1, (λ k d within. sym (same k d within) ∙ r.2 k d within), r.3)

same_back : (es : List Edge) (O O' : Orientation) → SameOn es O O' → SameOn es O' O
same_back es O O' same = λ k d within. sym (same k d within)

same_from : (kept : List (List ℕ)) (by : Edge → End) (order : List Edge) (O O' : Orientation) → IsPreferred kept by order O → IsPreferred kept by order O' →
    (before rest : List Edge) → order ≡ before ++ rest → SameOn before O O' → SameOn order O O'
same_from kept by order O O' p p' before [] split same = subst (λ l. SameOn l O O') (sym (split ∙ append-nil before)) same
same_from kept by order O O' p p' before (e ∷ rest) split same =
    same_from kept by order O O' p p' (before ++ e ∷ []) rest (split ∙ sym (append_assoc before (e ∷ []) rest))
    (All-push (λ (f : Edge). O f.0 f.1 ≡ O' f.0 f.1) before e same
    (elim (same_end (O e.0 e.1) (by e)) [
      | inl is ↦ is ∙ sym (wish_too kept by order O O' p p' before e rest split same is)
      | inr not ↦ both_other (O e.0 e.1) (O' e.0 e.1) (by e) not (λ h. not (wish_too kept by order O' O p' p before e rest split (same_back before O O' same) h))
    ]))

pub one_orientation : (kept : List (List ℕ)) (by : Edge → End) (order : List Edge) (O O' : Orientation) → IsPreferred kept by order O → IsPreferred kept by order O' → SameOn order O O'
one_orientation kept by order O O' p p' = same_from kept by order O O' p p' [] order refl (All-nil (λ (f : Edge). O f.0 f.1 ≡ O' f.0 f.1))

-- ---- the peerings

same_as_peer : (l : Label) → (l ≡ Label.Peer) ⊎ (l ≡ Label.Peer → ⊥)
same_as_peer Label.Low = inr (λ e. cc)
same_as_peer Label.High = inr (λ e. cc)
same_as_peer Label.Peer = inl refl

any_push : (p : Edge → Bool) (es : List Edge) (e : Edge) → list_any p (es ++ e ∷ []) ≡ (list_any p es || p e)
any_push p [] e = elim (cases_Bool (p e)) [ inl t ↦ rw t | inr f ↦ rw f ]
any_push p (f ∷ es) e = elim (cases_Bool (p f)) [ inl t ↦ rw t | inr n ↦ rw n (any_push p es e) ]

any_at : (p : Edge → Bool) (es : List Edge) (e : Edge) (k : ℕ) → k < length es → get_or es k e ≡ e → p e ≡ true → list_any p es ≡ true
any_at p [] e k lt h t = absurd (omega arith)
any_at p (f ∷ es) e zero lt h t = rw (h, t)
any_at p (f ∷ es) e (suc k) lt h t = elim (cases_Bool (p f)) [ inl u ↦ rw u | inr n ↦ rw n (any_at p es e k (omega arith) h t) ]

-- the first of two where the first test or the second passes
joined : (s t : Bool) (x y x' y' : Label) → (if s then x else y) ≡ (if s then x' else y') → (t ≡ true → x ≡ x') → (if s || t then x else y) ≡ (if s || t then x' else y')
joined true t x y x' y' h k = h
joined false true x y x' y' h k = k refl
joined false false x y x' y' h k = h

picked : (t : Bool) (x x' p : Label) → x ≡ x' → (if t then p else x) ≡ (if t then p else x')
picked true x x' p h = refl
picked false x x' p h = h

module _ (degree : ℕ → ℕ) (ratio : ℕ) (kept : List (List ℕ)) (es : List Edge) (inside : (e : Edge) → Contains (edges kept) e → Contains es e) where
  abbrev Agree : Labelling → Labelling → Type 0
  Agree L L' = (e : Edge) → Contains es e → L e.0 e.1 ≡ L' e.0 e.1

  peer_too : (L L' : Labelling) (e : Edge) → Agree L L' → MayPeer degree ratio kept L e → MayPeer degree ratio kept L' e
  peer_too L L' e agree may = record {
    held = may.held;
    alike = may.alike;
    stays = relaxing_law (with_peer L e) (with_peer L' e) kept
        (λ k d within.
        let f = get_or (edges kept) k d in
        let same = picked (is_same (f.0, f.1) e) (L f.0 f.1) (L' f.0 f.1) Label.Peer (agree f (inside f (Contains-get_or (edges kept) k d within))) in
        (λ h. sym same ∙ h, λ h. sym same ∙ h)) may.stays;
  }

  agree_back : (L L' : Labelling) → Agree L L' → Agree L' L
  agree_back L L' agree = λ e c. sym (agree e c)

  module _ (first first' last last' : Labelling) (begun : Agree first first') (r : IsRelabelled degree ratio kept es first last) (r' : IsRelabelled degree ratio kept es first' last') where
    same_next : (before : List Edge) (e : Edge) (after : List Edge) → es ≡ before ++ (e ∷ after) → Agree (so_far before last first) (so_far before last' first') → Contains es e →
        last e.0 e.1 ≡ last' e.0 e.1
    same_next before e after split agree c =
        elim (same_as_peer (last e.0 e.1)) [
          | inl is ↦ is ∙ sym ((r' before e after split).0.1 (peer_too (so_far before last first) (so_far before last' first') e agree ((r before e after split).0.0 is)))
          | inr no_peer ↦
              let no_peer' : last' e.0 e.1 ≡ Label.Peer → ⊥ =
              λ h. no_peer ((r before e after split).0.1 (peer_too (so_far before last' first') (so_far before last first) e
              (agree_back (so_far before last first) (so_far before last' first') agree) ((r' before e after split).0.0 h))) in
              (r before e after split).1 no_peer ∙ begun e c ∙ sym ((r' before e after split).1 no_peer')
        ]

    agree_next : (before : List Edge) (e : Edge) → Agree (so_far before last first) (so_far before last' first') → last e.0 e.1 ≡ last' e.0 e.1 →
        Agree (so_far (before ++ e ∷ []) last first) (so_far (before ++ e ∷ []) last' first')
    agree_next before e agree same f c =
        let p = is_same (f.0, f.1) in
        ap (λ b. if b then last f.0 f.1 else first f.0 f.1) (any_push p before e)
        ∙ joined (list_any p before) (p e) (last f.0 f.1) (first f.0 f.1) (last' f.0 f.1) (first' f.0 f.1) (agree f c)
        (λ t. ap (λ (g : Edge). last g.0 g.1) (same_edge (f.0, f.1) e t) ∙ same ∙ sym (ap (λ (g : Edge). last' g.0 g.1) (same_edge (f.0, f.1) e t)))
        ∙ sym (ap (λ b. if b then last' f.0 f.1 else first' f.0 f.1) (any_push p before e))

    agree_from : (before rest : List Edge) → es ≡ before ++ rest → Agree (so_far before last first) (so_far before last' first') → Agree (so_far es last first) (so_far es last' first')
    agree_from before [] split agree = subst (λ l. Agree (so_far l last first) (so_far l last' first')) (sym (split ∙ append-nil before)) agree
    agree_from before (e ∷ rest) split agree =
        let there : Contains (before ++ (e ∷ rest)) e = Contains-append_right before (e ∷ rest) e (zero, omega arith, refl) in
        agree_from (before ++ e ∷ []) rest (split ∙ sym (append_assoc before (e ∷ []) rest))
        (agree_next before e agree (same_next before e rest split agree (subst (λ l. Contains l e) (sym split) there)))

    now_last : (first : Labelling) (last : Labelling) (e : Edge) → Contains es e → so_far es last first e.0 e.1 ≡ last e.0 e.1
    now_last first last e c = rw (any_at (is_same (e.0, e.1)) es e c.0 c.1 c.2 (rw (eq-eqb e.0 e.0 refl, eq-eqb e.1 e.1 refl)))

    pub one_relabelling : Agree last last'
    one_relabelling e c = sym (now_last first last e c) ∙ agree_from [] es refl begun e c ∙ now_last first' last' e c

-- ---- the labels

pub one_labelling : (ratio : ℕ) (paths : List (List ℕ)) (keeps : List Bool) (L L' : Labelling) → AreLabels ratio paths (paths_of (kept_from 1 paths keeps)) L →
    AreLabels ratio paths (paths_of (kept_from 1 paths keeps)) L' → (e : Edge) → Contains (edges paths) e → L e.0 e.1 ≡ L' e.0 e.1
one_labelling ratio paths keeps L L' a a' =
    let kept = paths_of (kept_from 1 paths keeps) in
    let same_order = one_settling (lead (degree paths) kept) (edges paths) a.order a'.order a.settling a'.settling in
    let preferred' : IsPreferred kept (wanted (degree paths) kept) a.order a'.providers = subst (λ l. IsPreferred kept (wanted (degree paths) kept) l a'.providers) (sym same_order) a'.preferred in
    let same = one_orientation kept (wanted (degree paths) kept) a.order a.providers a'.providers a.preferred preferred' in
    one_relabelling (degree paths) ratio kept (edges paths) (kept_edge 1 paths keeps) (labels_of a.providers) (labels_of a'.providers) L L'
    (λ e c. ap label_of (All-contains (λ (f : Edge). a.providers f.0 f.1 ≡ a'.providers f.0 f.1) a.order e same ((a.settling.each e).0 c))) a.relabelled a'.relabelled

-- ---- the lines

abbrev pub pair_of : EdgeLine → Edge
pair_of line = (line.low, line.high)

abbrev pub pairs_of : List EdgeLine → List Edge
pairs_of lines = map pair_of lines

abbrev pub labels_by : List EdgeLine → Labelling
labels_by lines = claimed_labels (map claim_on lines)

same_mark : (m m' : Mark) (P : Type 0) → IsTrue (is_forced m) ↔ P → IsTrue (is_forced m') ↔ P → m ≡ m'
same_mark Mark.Forced Mark.Forced P h k = refl
same_mark Mark.Open Mark.Open P h k = refl
same_mark Mark.Forced Mark.Open P h k = absurd (not_open (k.1 (h.0 refl)))
  where
    not_open : false ≡ true → ⊥
    not_open e = cc
same_mark Mark.Open Mark.Forced P h k = absurd (not_open (h.1 (k.0 refl)))
  where
    not_open : false ≡ true → ⊥
    not_open e = cc

same_line : (a b : EdgeLine) → pair_of a ≡ pair_of b → a.label ≡ b.label → a.mark ≡ b.mark → a.support ≡ b.support → a ≡ b
same_line a b pair label mark support =
    ap₂ (λ (p : Edge) (l : Label). record { low = p.0; high = p.1; label = l; mark = a.mark; support = a.support }) pair label
    ∙ ap₂ (λ (m : Mark) (n : ℕ). record { low = b.low; high = b.high; label = b.label; mark = m; support = n }) mark support

head_pair : (x y : Edge) (xs ys : List Edge) → x ∷ xs ≡ y ∷ ys → x ≡ y
head_pair x y xs ys e = cc

tail_pairs_same : (x y : Edge) (xs ys : List Edge) → x ∷ xs ≡ y ∷ ys → xs ≡ ys
tail_pairs_same x y xs ys e = cc

-- the labels of the first line and of the others
own_label : (line : EdgeLine) (lines : List EdgeLine) → labels_by (line ∷ lines) line.low line.high ≡ line.label
own_label line lines = rw (eq-eqb line.low line.low refl, eq-eqb line.high line.high refl)

others_label : (line : EdgeLine) (lines : List EdgeLine) (e : Edge) → ((line.low, line.high) ≡ e → ⊥) → labels_by (line ∷ lines) e.0 e.1 ≡ labels_by lines e.0 e.1
others_label line lines e apart =
    elim (cases_Bool (is_same (line.low, line.high) (e.0, e.1))) [
      | inl t ↦ absurd (apart (same_edge (line.low, line.high) (e.0, e.1) t))
      | inr n ↦ rw n
    ]

pub one_list : (kept served : List (List ℕ)) (lines lines' : List EdgeLine) → pairs_of lines ≡ pairs_of lines' → AllPairs ◌≢◌ (pairs_of lines) →
    ((e : Edge) → Contains (pairs_of lines) e → labels_by lines e.0 e.1 ≡ labels_by lines' e.0 e.1) →
    All (λ line. line.support ≡ support kept (line.low, line.high)) lines → All (λ line. line.support ≡ support kept (line.low, line.high)) lines' →
    All (λ line. IsTrue (is_forced line.mark) ↔ IsForced served line.low line.high) lines →
    All (λ line. IsTrue (is_forced line.mark) ↔ IsForced served line.low line.high) lines' → lines ≡ lines'
one_list kept served [] [] pairs apart same s s' f f' = refl
one_list kept served [] (b ∷ bs) pairs apart same s s' f f' = absurd cc
one_list kept served (a ∷ more) [] pairs apart same s s' f f' = absurd cc
one_list kept served (a ∷ more) (b ∷ bs) pairs apart same s s' f f' =
    let pair : pair_of a ≡ pair_of b = head_pair (a.low, a.high) (b.low, b.high) (pairs_of more) (pairs_of bs) pairs in
    let label : a.label ≡ b.label =
    sym (own_label a more) ∙ same (a.low, a.high) (zero, omega arith, refl) ∙ ap (λ (p : Edge). labels_by (b ∷ bs) p.0 p.1) pair ∙ own_label b bs in
    let mark : a.mark ≡ b.mark =
    same_mark a.mark b.mark (IsForced served a.low a.high) (f zero a (omega arith))
    (subst (λ (p : Edge). IsTrue (is_forced b.mark) ↔ IsForced served p.0 p.1) (sym pair) (f' zero b (omega arith))) in
    let times : a.support ≡ b.support = s zero a (omega arith) ∙ ap (support kept) pair ∙ sym (s' zero b (omega arith)) in
    let rest = tail_pairs_same (a.low, a.high) (b.low, b.high) (pairs_of more) (pairs_of bs) pairs in
    ap₂ (λ (l : EdgeLine) (ls : List EdgeLine). l ∷ ls) (same_line a b pair label mark times)
    (one_list kept served more bs rest (λ i j d lt within. apart (suc i) (suc j) d (omega (arith, lt)) (omega (arith, within)))
    (λ e c.
    let not_a : (a.low, a.high) ≡ e → ⊥ = λ h. apart zero (suc c.0) e (omega arith) (omega (arith, c.1)) (h ∙ sym c.2) in
    let not_b : (b.low, b.high) ≡ e → ⊥ = λ h. not_a (pair ∙ h) in
    sym (others_label a more e not_a) ∙ same e (suc c.0, omega (arith, c.1), c.2) ∙ others_label b bs e not_b)
    (λ k d within. s (suc k) d (omega (arith, within))) (λ k d within. s' (suc k) d (omega (arith, within)))
    (λ k d within. f (suc k) d (omega (arith, within))) (λ k d within. f' (suc k) d (omega (arith, within))))

-- ---- what is inferred

pub one_inference_law : OneInferenceLaw
one_inference_law ratio paths walks walks' lines lines' whys whys' probes probes' r r' =
    let flags : map is_none walks ≡ map is_none walks' = selection_law paths (map is_none walks) (map is_none walks') r.kept r'.kept in
    let keeps = map is_none walks in
    let kept = paths_of (kept_from 1 paths keeps) in
    let pairs = r.edges_listed ∙ sym r'.edges_listed in
    let labels' : AreLabels ratio paths kept (labels_by lines') = subst (λ ks. AreLabels ratio paths (paths_of (kept_from 1 paths ks)) (labels_by lines')) (sym flags) r'.labels in
    let supports' : All (λ line. line.support ≡ support kept (line.low, line.high)) lines' =
    subst (λ ks. All (λ line. line.support ≡ support (paths_of (kept_from 1 paths ks)) (line.low, line.high)) lines') (sym flags) r'.supports in
    let forced' : All (λ line. IsTrue (is_forced line.mark) ↔ IsForced kept line.low line.high) lines' =
    subst (λ ks. All (λ line. IsTrue (is_forced line.mark) ↔ IsForced (paths_of (kept_from 1 paths ks)) line.low line.high) lines') (sym flags) r'.forced in (
      flags,
      one_list kept kept lines lines' pairs (subst (AllPairs ◌≢◌) (sym r.edges_listed) ((edge_law paths).0))
          (λ e c. one_labelling ratio paths keeps (labels_by lines) (labels_by lines') r.labels labels' e (subst (λ es. Contains es e) r.edges_listed c)) r.supports supports' r.forced forced',
    )

-- ---- the result

pub paths_in : (lines : List PathLine) → counted_paths (map row_of lines) ≡ map (λ p. p.path) lines
paths_in [] = refl
paths_in (line ∷ lines) = ap (λ ps. line.path ∷ ps) (paths_in lines)

abbrev flags_of : List PathLine → List Bool
flags_of lines = map is_none (map (λ p. walk_of p.fate) lines)

-- how many paths are kept, and how many are lost, is said by which are kept
flag_count : (q : Bool → Bool) (lines : List PathLine) → count_by (λ fate. q (is_kept fate)) (map (λ p. p.fate) lines) ≡ count_by q (flags_of lines)
flag_count q lines =
    sym (count-map (λ (p : PathLine). p.fate) (λ fate. q (is_kept fate)) lines) ∙
    count-map (λ (p : PathLine). walk_of p.fate) (λ (w : Option Walk). q (is_none w)) lines ∙ count-map (λ (w : Option Walk). is_none w) q (map (λ (p : PathLine). walk_of p.fate) lines)

pub same_totals : (file file' : ResultFile) → flags_of file.paths ≡ flags_of file'.paths → file.edges ≡ file'.edges → right_totals file ≡ right_totals file'
same_totals file file' flags es =
    let same : (q : Bool → Bool) → count_by (λ fate. q (is_kept fate)) (map (λ (p : PathLine). p.fate) file.paths) ≡ count_by (λ fate. q (is_kept fate)) (map (λ (p : PathLine). p.fate) file'.paths) =
    λ q. flag_count q file.paths ∙ ap (count_by q) flags ∙ sym (flag_count q file'.paths) in
    let totals : ℕ → ℕ → List EdgeLine → Totals = λ k l lines. record {
      kept = k;
      lost = l;
      edges = length lines;
      forced = count_by (λ e. is_forced e.mark) lines;
      peers = count_by (λ e. is_peer e.label) lines;
    } in
    ap₂ (λ k l. totals k l file.edges) (same (λ b. b)) (same not) ∙
    ap (totals (count_by is_kept (map (λ (p : PathLine). p.fate) file'.paths)) (count_by (λ fate. not (is_kept fate)) (map (λ (p : PathLine). p.fate) file'.paths))) es

pub one_result_law : OneResultLaw
one_result_law sets ratio rows counts file file' r r' =
    let paths : its_paths file ≡ its_paths file' = sym (paths_in file.paths) ∙ ap counted_paths (r.paths ∙ sym r'.paths) ∙ paths_in file'.paths in
    let inferred' : IsInferred ratio (its_paths file) (its_walks file') file'.edges file'.whys (its_probes file') =
    subst (λ ps. IsInferred ratio ps (its_walks file') file'.edges file'.whys (its_probes file')) (sym paths) r'.inferred in
    let both =
    one_inference_law ratio (its_paths file) (its_walks file) (its_walks file') file.edges file'.edges file.whys file'.whys (its_probes file) (its_probes file') r.inferred inferred' in
    (r.its_counts ∙ sym r'.its_counts, both.0, both.1, r.totals ∙ same_totals file file' both.0 both.1 ∙ sym r'.totals)
