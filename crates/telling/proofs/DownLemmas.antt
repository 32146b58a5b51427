-- Edges in a table, their labels, and the steps of kept paths down from one to the next.
use Rattle.std.proofs.Common.{◌≡◌, ◌≢◌, ◌⊎◌, inl, inr, min, max, ℕ, zero, suc, ◌+◌, ◌-◌, ◌<◌, ◌≤◌, List, [], ◌∷◌, ◌++◌, length, map, Option, None, is_none, false, true}
use Rattle.std.proofs.Common.{Some, slice_get, get_or, refl, sym, ap, ◌∙◌, subst, arith, Contains, append_assoc, length-append}
use Rattle.std.specs.Prelude.{sum_by, take}
use Rattle.std.specs.List.{IsDistinct, list_any}
use Rattle.std.proofs.lemmas.Bool.{cases_Bool, cases_lt, false≢true}
use Rattle.std.proofs.lemmas.Map.Keys.{IsDistinct-head, IsDistinct-tail}
use Rattle.std.proofs.lemmas.Option.{same_Some, slice_get_within, get_or_from_slice_get}
use Rattle.std.proofs.lemmas.List.{length-map}
use Rattle.std.proofs.lemmas.List.Elements.{All-contains, All-from_recursion, Contains-push_cases}
use Rattle.std.proofs.lemmas.List.Sums.{sum_by-append, sum_by-cons}
use Rattle.tor_arena.specs.Limits.{max_numbers}
use Rattle.tor_arena.proofs.Gets.{All-get, take_get, Contains-from_has, Contains-map, has-from_Contains, slice_get-map, slice_get-unmap, slice_get-some}
use Rattle.tor_arena.proofs.Gets.{slice_get-push_old, slice_get-push_cases, slice_get-push_last}
use Rattle.relationships.specs.declared.label.Label.{Label}
use Rattle.relationships.specs.declared.mark.Mark.TheVariants as mark
use Rattle.relationships.specs.declared.walk.Link.{Link}
use Rattle.relationships.specs.declared.fate.Fate.{Fate}
use Rattle.relationships.specs.declared.fate.Fate.TheVariants.{Kept, Lost}
use Rattle.relationships.specs.Fates.{walk_of}
use Rattle.relationships.specs.Relationship.{Labelling, Slope, Up, Down, Flat, is_low, is_high, is_over, slope, ValleyFree}
use Rattle.relationships.specs.Graph.{Edge, edge_of, edges, is_same}
use Rattle.relationships.specs.Evidence.{StandAt, TripleAt, paths_of}
use Rattle.relationships.proofs.Slopes.{over_parts, over-down, slope-down}
use Rattle.relationships.proofs.Serving.{satisfied}
use Rattle.relationships.proofs.Neighbours.{neighbours-edge}
use Rattle.relationships.proofs.GivenLemmas.{edge_back}
use Rattle.relationships.proofs.Places.{StandAt-from_index, index-from_StandAt, kept_from-in, kept_from-out}
use Rattle.tor_digraph.specs.Closing.{IsOnce}
use Rattle.tor_digraph.specs.Walks.{Net, HasArc}
use Rattle.tor_numbers.specs.Edges.{with_edge}
use Rattle.result_text.specs.declared.file.EdgeLine.{EdgeLine}
use Rattle.result_text.specs.declared.file.PathLine.{PathLine}
use Rattle.result_text.specs.declared.file.ResultFile.{ResultFile}
use Rattle.result_rules.specs.File.{its_edges, its_kept, its_labels, its_paths}
use Rattle.result_rules.specs.declared.rule.Rule.TheVariants.{PathsCleaned, EdgesListed, LabelsServe}
use Rattle.result_rules.specs.Rules.{Accepts}
use Rattle.result_rules.proofs.Accepted.{edges_listed, kept_valley_free}
use Rattle.telling.specs.declared.told.Going.{Going}
use Rattle.telling.specs.declared.told.Going.TheVariants as going
use Rattle.telling.specs.Told.{edge_on, going_of}
use Rattle.telling.specs.Downs.{HaveLabels, HasOver, IsDown, IsPlaceIn, step_edge, HasDown, HasDownAt, HasDowns, HasLineDowns, StillHas, AreDowns}
use Rattle.telling.proofs.PathLemmas.{same_itself, edge_still, own_edge, label_found}
use Rattle.telling.proofs.LabelLemmas.{rises, kept, kept_edges}

-- ---- a table of edges

-- what a table holds behind one edge more
pub edge_only : (old new : List Edge) (e f : Edge) → new ≡ with_edge old e → Contains new f → Contains old f ⊎ (e ≡ f)
edge_only old new e f is c =
    elim (cases_Bool (list_any (is_same e) old)) [
      | inl t ↦ inl (subst (λ es. Contains es f) (is ∙ rw t refl) c)
      | inr n ↦ Contains-push_cases old e f (subst (λ es. Contains es f) (is ∙ rw n refl) c)
    ]

pub once_from : (es : List Edge) → IsDistinct is_same es → IsOnce es
once_from [] d i j e p q = absurd (cc p)
once_from (a ∷ es) d zero zero e p q = refl
once_from (a ∷ es) d zero (suc j) e p q =
    let h = All-get (λ y. is_same a y ≡ false) es j e (All-from_recursion (λ y. is_same a y ≡ false) es (IsDistinct-head is_same a es d)) q in
    absurd (false≢true (sym h ∙ subst (λ f. is_same f e ≡ true) (sym (same_Some a e p)) (same_itself e)))
once_from (a ∷ es) d (suc i) zero e p q =
    let h = All-get (λ y. is_same a y ≡ false) es i e (All-from_recursion (λ y. is_same a y ≡ false) es (IsDistinct-head is_same a es d)) p in
    absurd (false≢true (sym h ∙ subst (λ f. is_same f e ≡ true) (sym (same_Some a e q)) (same_itself e)))
once_from (a ∷ es) d (suc i) (suc j) e p q = ap suc (once_from es (IsDistinct-tail is_same a es d) i j e p q)

-- ---- the order of a label

is_low_label : (l : Label) → is_low l ≡ true → l ≡ Label.Low
is_low_label Label.Low h = refl
is_low_label Label.High h = absurd (false≢true h)
is_low_label Label.Peer h = absurd (false≢true h)

is_high_label : (l : Label) → is_high l ≡ true → l ≡ Label.High
is_high_label Label.Low h = absurd (false≢true h)
is_high_label Label.High h = refl
is_high_label Label.Peer h = absurd (false≢true h)

-- the provider stands at the end that the label of the edge names
pub over_reads : (L : Labelling) (x y low high : ℕ) → edge_of x y ≡ (low, high) → is_over L x y ≡ true →
    ((L low high ≡ Label.Low) × (x ≡ low) × (y ≡ high)) ⊎ ((L low high ≡ Label.High) × (x ≡ high) × (y ≡ low))
over_reads L x y low high e o =
    let f : min x y ≡ low = ap (λ (p : Edge). p.0) e in
    let g : max x y ≡ high = ap (λ (p : Edge). p.1) e in
    elim (over_parts L x y o) [
      | inl p ↦ (
          let lt = p.0 in
          let h : x ≡ low = omega (arith, lt, f) in
          let k : y ≡ high = omega (arith, lt, g) in
          inl (subst (λ m. L m high ≡ Label.Low) h (subst (λ n. L x n ≡ Label.Low) k (is_low_label (L x y) p.1)), h, k)
          )
      | inr p ↦ (
          let lt = p.0 in
          let h : x ≡ high = omega (arith, lt, g) in
          let k : y ≡ low = omega (arith, lt, f) in
          inr (subst (λ m. L m high ≡ Label.High) k (subst (λ n. L y n ≡ Label.High) h (is_high_label (L y x) p.1)), h, k)
          )
    ]

pub low_high : Label.Low ≡ Label.High → ⊥
low_high e = cc

pub peer_high : Label.Peer ≡ Label.High → ⊥
peer_high e = cc

-- an edge has one order by its label
pub one_order : (L : Labelling) (es : List Edge) (u a b c d : ℕ) → HasOver L es u a b → HasOver L es u c d → (a ≡ c) × (b ≡ d)
one_order L es u a b c d h k =
    let e : edge_of a b ≡ edge_of c d = same_Some (edge_of a b) (edge_of c d) (sym h.at ∙ k.at) in
    elim (over_reads L a b (edge_of c d).0 (edge_of c d).1 e h.over) [
      | inl p ↦ elim (over_reads L c d (edge_of c d).0 (edge_of c d).1 refl k.over) [
        | inl q ↦ (p.1 ∙ sym q.1, p.2 ∙ sym q.2)
        | inr q ↦ absurd (low_high (sym p.0 ∙ q.0))
      ]
      | inr p ↦ elim (over_reads L c d (edge_of c d).0 (edge_of c d).1 refl k.over) [
        | inl q ↦ absurd (low_high (sym q.0 ∙ p.0))
        | inr q ↦ (p.1 ∙ sym q.1, p.2 ∙ sym q.2)
      ]
    ]

module _ (file : ResultFile) (accepts : Accepts file) where
  -- the two of an edge of the result differ
  pub two_differ : (a b : ℕ) → Contains (its_edges file) (edge_of a b) → a ≢ b
  two_differ a b c same =
      let k = has-from_Contains (its_edges file) (edge_of a b) c in
      let w = slice_get-unmap {Y = Edge} edge_on file.edges k.0 (edge_of a b) k.1 in
      let lt = rises file accepts w.0 (Contains-from_has file.edges w.0 (k.0, w.1)) in
      let e : w.0.low ≡ min a b = ap (λ (p : Edge). p.0) w.2 in
      let f : w.0.high ≡ max a b = ap (λ (p : Edge). p.1) w.2 in
      omega (arith, lt, e, f, same)

  -- an open line's edge is there
  pub line_held : (es : List Edge) (labels : List Label) → HaveLabels file es labels → (line : EdgeLine) → Contains file.edges line → line.mark ≡ mark.Open →
      Contains es (edge_of line.low line.high)
  line_held es labels have line there is =
      let k = has-from_Contains file.edges line there in
      subst (Contains es) (sym (own_edge file accepts k.0 line k.1)) (have.opens line there is)

  listed_kept : (e : Edge) → Contains (edges (kept file accepts)) e → Contains (its_edges file) e
  listed_kept e c = subst (λ (es : List Edge). Contains es e) (sym (edges_listed file (accepts EdgesListed))) (kept_edges file accepts e c)

  -- the steps of a kept path are edges of the result
  module _ (path : List ℕ) (there : Contains (paths_of (its_kept file)) path) (at x y z : ℕ) (s : StandAt path at x y z) where
    pub first_listed : Contains (its_edges file) (edge_of x y)
    first_listed = listed_kept (edge_of x y) (neighbours-edge (paths_of (its_kept file)) x y (path, there, (s.before, z ∷ s.after, s.whole)))

    pub second_listed : Contains (its_edges file) (edge_of y z)
    second_listed =
        listed_kept (edge_of y z)
        (neighbours-edge (paths_of (its_kept file)) y z (path, there, (s.before ++ x ∷ [], s.after, s.whole ∙ sym (append_assoc s.before (x ∷ []) (y ∷ z ∷ s.after)))))

  -- and so is the next step in either direction
  pub next_listed : (path : List ℕ) → Contains (paths_of (its_kept file)) path → (at x y z : ℕ) → TripleAt path at x y z → Contains (its_edges file) (edge_of y z)
  next_listed path there at x y z (inl s) = second_listed path there at x y z s
  next_listed path there at x y z (inr s) = subst (λ (e : Edge). Contains (its_edges file) e) (edge_back z y) (first_listed path there at z y x s)

  -- behind an order by labels the path goes on down
  pub goes_down : (path : List ℕ) → Contains (paths_of (its_kept file)) path → (at x y z : ℕ) → TripleAt path at x y z →
      is_over (its_labels file) x y ≡ true → is_over (its_labels file) y z ≡ true
  goes_down path there at x y z t o =
      satisfied (its_labels file) path at x y z
      (All-contains (ValleyFree (its_labels file)) (paths_of (its_kept file)) path (kept_valley_free file (accepts LabelsServe)) there) t o

  module _ (es : List Edge) (labels : List Label) (have : HaveLabels file es labels) where
    -- the label in the place of an edge
    pub label_in : (a b k : ℕ) (d : Label) → slice_get es k ≡ Some (edge_of a b) → get_or labels k d ≡ its_labels file (edge_of a b).0 (edge_of a b).1
    label_in a b k d at =
        get_or_from_slice_get labels k (its_labels file (edge_of a b).0 (edge_of a b).1) d
        (label_found file accepts (edge_of a b) es labels k (have.only (edge_of a b) (Contains-from_has es (edge_of a b) (k, at))) have.labelled at)

    pub differ_in : (a b k : ℕ) → slice_get es k ≡ Some (edge_of a b) → a ≢ b
    differ_in a b k at = two_differ a b (have.only (edge_of a b) (Contains-from_has es (edge_of a b) (k, at)))

    -- and the order that it says
    pub reads_over : (k x y : ℕ) → HasOver (its_labels file) es k x y → (low high : ℕ) → slice_get es k ≡ Some (low, high) → (d : Label) →
        ((get_or labels k d ≡ Label.Low) × (x ≡ low) × (y ≡ high)) ⊎ ((get_or labels k d ≡ Label.High) × (x ≡ high) × (y ≡ low))
    reads_over k x y has low high at d =
        let e : edge_of x y ≡ (low, high) = same_Some (edge_of x y) (low, high) (sym has.at ∙ at) in
        let its = label_in x y k d has.at ∙ ap (λ (f : Edge). its_labels file f.0 f.1) e in
        elim (over_reads (its_labels file) x y low high e has.over) [
          | inl p ↦ inl (its ∙ p.0, p.1, p.2)
          | inr p ↦ inr (its ∙ p.0, p.1, p.2)
        ]

-- ---- arcs

still_pushed : (old : List (ℕ × ℕ)) (e : ℕ × ℕ) → StillHas old (old ++ e ∷ [])
still_pushed old e u v (k, at) = (k, slice_get-push_old old (e ∷ []) k (u, v) at)

pub downs_none : (file : ResultFile) (es : List Edge) (net : Net ℕ) (named : List Link) → net.nodes ≡ length es → net.arcs ≡ [] → named ≡ [] → AreDowns file es net named
downs_none file es net named n a l = record {
  nodes = n;
  links = record {
    as_many = ap length l ∙ sym (ap length a);
    each = λ k u v at. absurd (nothing k u v (subst (λ (arcs : List (ℕ × ℕ)). slice_get arcs k ≡ Some (u, v)) a at));
  };
}
  where
    nothing : (k u v : ℕ) → slice_get {X = ℕ × ℕ} [] k ≡ Some (u, v) → ⊥
    nothing k u v e = cc

-- an arc that is added, and those before it
pub arc_pushed : (old new : List (ℕ × ℕ)) (u v : ℕ) → new ≡ old ++ (u, v) ∷ [] → StillHas old new × HasArc new u v
arc_pushed old new u v is = (
  subst (StillHas old) (sym is) (still_pushed old (u, v)),
  (length old, subst (λ (arcs : List (ℕ × ℕ)). slice_get arcs (length old) ≡ Some (u, v)) (sym is) (slice_get-push_last old (u, v))),
)

pub still_then : (a b c : List (ℕ × ℕ)) → StillHas a b → StillHas b c → StillHas a c
still_then a b c h k u v arc = k u v (h u v arc)

pub down_still : (M : Labelling) (es : List Edge) (old new : List (ℕ × ℕ)) (path : List ℕ) (at : ℕ) → StillHas old new →
    HasDownAt M es old path at → HasDownAt M es new path at
down_still M es old new path at still h x y z t o =
    λ has has_next. (let r = h x y z t o has has_next in (r.0, r.1, r.2, r.3, still r.0 r.1 r.4))

pub links_pushed : (file : ResultFile) (es : List Edge) (old new : Net ℕ) (named more : List Link) (u v : ℕ) (link : Link) → new.nodes ≡ old.nodes →
    new.arcs ≡ old.arcs ++ (u, v) ∷ [] → more ≡ named ++ link ∷ [] → IsDown (its_labels file) (its_kept file) es u v link →
    AreDowns file es old named → AreDowns file es new more
links_pushed file es old new named more u v link n a l down are = record {
  nodes = n ∙ are.nodes;
  links = record {
    as_many = many;
    each = λ k s t at. elim (slice_get-push_cases old.arcs (u, v) k (s, t) (subst (λ (arcs : List (ℕ × ℕ)). slice_get arcs k ≡ Some (s, t)) a at)) [
      | inl before ↦ (
          let r = are.links.each k s t before in
          (r.0, subst (λ (ls : List Link). slice_get ls k ≡ Some r.0) (sym l) (slice_get-push_old named (link ∷ []) k r.0 r.1), r.2)
          )
      | inr own ↦ (
          let e : k ≡ length named = own.0 ∙ sym are.links.as_many in
          let s_is : s ≡ u = ap (λ (p : ℕ × ℕ). p.0) own.1 in
          let t_is : t ≡ v = ap (λ (p : ℕ × ℕ). p.1) own.1 in (
            link,
            subst (λ (ls : List Link). slice_get ls k ≡ Some link) (sym l) (subst (λ n. slice_get (named ++ link ∷ []) n ≡ Some link) (sym e) (slice_get-push_last named link)),
            subst (λ n. IsDown (its_labels file) (its_kept file) es n t link) (sym s_is) (subst (λ n. IsDown (its_labels file) (its_kept file) es u n link) (sym t_is) down),
          )
          )
    ];
  };
}
  where
    many : length more ≡ length new.arcs
    many =
        let p : length more ≡ length (named ++ link ∷ []) = ap length l in
        let q : length new.arcs ≡ length (old.arcs ++ (u, v) ∷ []) = ap length a in
        let r = are.links.as_many in
        omega (arith, p, q, r, length-append named (link ∷ []), length-append old.arcs ((u, v) ∷ []))

-- ---- the arc of three consecutive ASes

module _ (file : ResultFile) (accepts : Accepts file) (es : List Edge) (number : ℕ) (path : List ℕ) (own : Contains (its_kept file) (number, path))
    (at : ℕ) (two : 2 ≤ at) (lt : at < length path) where
  abbrev L : Labelling
  L = its_labels file

  abbrev X : ℕ
  X = get_or path (at - 2) 0

  abbrev Y : ℕ
  Y = get_or path (at - 1) 0

  abbrev Z : ℕ
  Z = get_or path at 0

  pub stands : StandAt path at X Y Z
  stands = StandAt-from_index path at X Y Z two lt refl refl refl

  pub own_there : Contains (paths_of (its_kept file)) path
  own_there = Contains-map (λ (p : ℕ × List ℕ). p.1) (its_kept file) (number, path) own

  here_only : (x y z : ℕ) → TripleAt path at x y z → ((x ≡ X) × (y ≡ Y) × (z ≡ Z)) ⊎ ((x ≡ Z) × (y ≡ Y) × (z ≡ X))
  here_only x y z (inl s) = let r = index-from_StandAt path at x y z s in inl (sym r.2, sym r.3, sym r.4)
  here_only x y z (inr s) = let r = index-from_StandAt path at z y x s in inr (sym r.4, sym r.3, sym r.2)

  abbrev pub link : Link
  link = record { path = number; at = at }

  -- one direction of the three, whose edges stand in these places
  module _ (x y z : ℕ) (t : TripleAt path at x y z) (u v : ℕ) (from : slice_get es u ≡ Some (edge_of x y)) (to : slice_get es v ≡ Some (edge_of y z)) where
    pub down : is_over L x y ≡ true → IsDown L (its_kept file) es u v link
    down o = record {
      x = x;
      y = y;
      z = z;
      from = record { at = from; over = o };
      to = record { at = to; over = goes_down file accepts path own_there at x y z t o };
      fits = (path, own, t);
    }

    pub has_arc : (arcs : List (ℕ × ℕ)) → (is_over L x y ≡ true → HasArc arcs u v) → HasDown L es arcs x y z
    has_arc arcs arc o has has_next = (u, v, record { at = from; over = o }, record { at = to; over = goes_down file accepts path own_there at x y z t o }, arc o)

  pub there : TripleAt path at X Y Z
  there = inl stands

  pub back : TripleAt path at Z Y X
  back = inr stands

  -- both directions are all that there is about the place
  pub has_both : (arcs : List (ℕ × ℕ)) → HasDown L es arcs X Y Z → HasDown L es arcs Z Y X → HasDownAt L es arcs path at
  has_both arcs h k x y z t = elim (here_only x y z t) [
    | inl e ↦ subst (λ n. HasDown L es arcs n y z) (sym e.0) (subst (λ n. HasDown L es arcs X n z) (sym e.1) (subst (λ n. HasDown L es arcs X Y n) (sym e.2) h))
    | inr e ↦ subst (λ n. HasDown L es arcs n y z) (sym e.0) (subst (λ n. HasDown L es arcs Z n z) (sym e.1) (subst (λ n. HasDown L es arcs Z Y n) (sym e.2) k))
  ]

  -- and there is nothing where one of the edges isn't there
  pub none_first : (arcs : List (ℕ × ℕ)) → (Contains es (edge_of X Y) → ⊥) → HasDownAt L es arcs path at
  none_first arcs not =
      has_both arcs (λ o has has_next. absurd (not has)) (λ o has has_next. absurd (not (subst (Contains es) (edge_back Y X) has_next)))

  pub none_second : (arcs : List (ℕ × ℕ)) → (Contains es (edge_of Y Z) → ⊥) → HasDownAt L es arcs path at
  none_second arcs not =
      has_both arcs (λ o has has_next. absurd (not has_next)) (λ o has has_next. absurd (not (subst (Contains es) (edge_back Z Y) has)))

-- what an edge's place says
pub placed : (es : List Edge) (e : Edge) (place : Option ℕ) (k : ℕ) → place ≡ Some k → IsPlaceIn es e place → slice_get es k ≡ Some e
placed es e place k is h = subst (IsPlaceIn es e) is h

pub unplaced : (es : List Edge) (e : Edge) (place : Option ℕ) → place ≡ None → IsPlaceIn es e place → Contains es e → ⊥
unplaced es e place is h = subst (IsPlaceIn es e) is h

-- the edge of the two in the other order stands there too
pub turned_at : (es : List Edge) (k a b : ℕ) → slice_get es k ≡ Some (edge_of a b) → slice_get es k ≡ Some (edge_of b a)
turned_at es k a b at = at ∙ ap (λ (e : Edge). Some e) (edge_back a b)

-- ---- how a step goes

pub down_going : (s : Slope) → going_of s ≡ going.Down → s ≡ Down
down_going Up e = absurd (cc e)
down_going Down e = refl
down_going Flat e = absurd (cc e)

up_apart : going.Up ≡ going.Down → ⊥
up_apart e = cc

flat_apart : going.Flat ≡ going.Down → ⊥
flat_apart e = cc

module _ (L : Labelling) (a b : ℕ) (g : Going) (is : g ≡ going_of (slope L a b)) where
  pub over_if_down : g ≡ going.Down → is_over L a b ≡ true
  over_if_down e = over-down L a b (down_going (slope L a b) (sym is ∙ e))

  down_if_over : is_over L a b ≡ true → g ≡ going.Down
  down_if_over o = is ∙ ap going_of (slope-down L a b o)

  pub not_over_up : g ≡ going.Up → is_over L a b ≡ true → ⊥
  not_over_up e o = up_apart (sym e ∙ down_if_over o)

  pub not_over_flat : g ≡ going.Flat → is_over L a b ≡ true → ⊥
  not_over_flat e o = flat_apart (sym e ∙ down_if_over o)

-- ---- place by place

module _ (file : ResultFile) where
  -- the open edges of the first lines, and edges of the result alone
  abbrev pub HasEdgesOf : ℕ → List Edge → Type 0
  HasEdgesOf end es =
      ((k : ℕ) (line : EdgeLine) → k < end → slice_get file.edges k ≡ Some line → line.mark ≡ mark.Open → Contains es (edge_on line)) ×
      ((e : Edge) → Contains es e → Contains (its_edges file) e)

  -- the edge of a forced line isn't looked for
  pub edges_passed : (es : List Edge) (i : ℕ) (line : EdgeLine) → slice_get file.edges i ≡ Some line → (line.mark ≡ mark.Open → ⊥) → HasEdgesOf i es → HasEdgesOf (i + 1) es
  edges_passed es i line at not before = (
    λ k other lt there is. elim (cases_lt k i) [
      | inl less ↦ before.0 k other less there is
      | inr ge ↦
          let e : k ≡ i = omega (arith, lt, ge) in
          let same = same_Some other line (sym (subst (λ n. slice_get file.edges n ≡ Some other) e there) ∙ at) in
          absurd (not (subst (λ (l : EdgeLine). l.mark ≡ mark.Open) same is))
    ],
    before.1,
  )

  pub edges_next : Accepts file → (old new : List Edge) (i : ℕ) (line : EdgeLine) → slice_get file.edges i ≡ Some line → new ≡ with_edge old (edge_of line.low line.high) →
      Contains new (edge_of line.low line.high) → HasEdgesOf i old → HasEdgesOf (i + 1) new
  edges_next accepts old new i line at is put before = (
    λ k other lt there opened. elim (cases_lt k i) [
      | inl less ↦ edge_still old new (edge_of line.low line.high) (edge_on other) is (before.0 k other less there opened)
      | inr ge ↦
          let e : k ≡ i = omega (arith, lt, ge) in
          let same = same_Some line other (sym at ∙ subst (λ n. slice_get file.edges n ≡ Some other) e there) in
          subst (λ (l : EdgeLine). Contains new (edge_on l)) same (subst (Contains new) (own_edge file accepts i line at) put)
    ],
    λ f c. elim (edge_only old new (edge_of line.low line.high) f is c) [
      | inl less ↦ before.1 f less
      | inr e ↦
          subst (Contains (its_edges file)) (sym (own_edge file accepts i line at) ∙ e)
          (Contains-from_has (its_edges file) (edge_on line) (i, slice_get-map {Y = Edge} edge_on file.edges i line at))
    ],
  )

  pub edges_all : (es : List Edge) (end : ℕ) → length file.edges ≤ end → HasEdgesOf end es → (line : EdgeLine) → Contains file.edges line → line.mark ≡ mark.Open → Contains es (edge_on line)
  edges_all es end le has line there is =
      let k = has-from_Contains file.edges line there in
      let lt = slice_get_within file.edges k.0 line k.1 in
      has.0 k.0 line (omega (arith, lt, le)) k.1 is

module _ (M : Labelling) (es : List Edge) (path : List ℕ) where
  -- the arcs about the first places
  abbrev pub HasDownsTo : List (ℕ × ℕ) → ℕ → Type 0
  HasDownsTo arcs end = (k : ℕ) → k < end → HasDownAt M es arcs path k

  pub downs_begun : (arcs : List (ℕ × ℕ)) → HasDownsTo arcs 2
  downs_begun arcs k lt x y z (inl s) = let r = index-from_StandAt path k x y z s in absurd (omega (arith, lt, r.0))
  downs_begun arcs k lt x y z (inr s) = let r = index-from_StandAt path k z y x s in absurd (omega (arith, lt, r.0))

  pub downs_next : (old new : List (ℕ × ℕ)) (at : ℕ) → StillHas old new → HasDownAt M es new path at → HasDownsTo old at → HasDownsTo new (at + 1)
  downs_next old new at still here before k lt = elim (cases_lt k at) [
    | inl less ↦ down_still M es old new path k still (before k less)
    | inr ge ↦ let e : at ≡ k = omega (arith, lt, ge) in subst (HasDownAt M es new path) e here
  ]

  pub downs_all : (arcs : List (ℕ × ℕ)) (end : ℕ) → length path ≤ end → HasDownsTo arcs end → HasDowns M es arcs path
  downs_all arcs end le has k x y z (inl s) = let r = index-from_StandAt path k x y z s in has k (omega (arith, le, r.1)) x y z (inl s)
  downs_all arcs end le has k x y z (inr s) = let r = index-from_StandAt path k z y x s in has k (omega (arith, le, r.1)) x y z (inr s)

  -- a path without a place between two others has none
  pub downs_short : (arcs : List (ℕ × ℕ)) → length path < 3 → HasDowns M es arcs path
  downs_short arcs lt k x y z (inl s) = let r = index-from_StandAt path k x y z s in absurd (omega (arith, lt, r.0, r.1))
  downs_short arcs lt k x y z (inr s) = let r = index-from_StandAt path k z y x s in absurd (omega (arith, lt, r.0, r.1))

-- the place of one step's edge is that of the step in front of the next one
pub place_next : (es : List Edge) (path : List ℕ) (at : ℕ) (place : Option ℕ) → 2 ≤ at → IsPlaceIn es (step_edge path (at - 1) at) place →
    IsPlaceIn es (step_edge path (at + 1 - 2) (at + 1 - 1)) place
place_next es path at place two is =
    let e : at - 1 ≡ at + 1 - 2 = omega (arith, two) in
    let f : at ≡ at + 1 - 1 = omega arith in
    subst (λ n. IsPlaceIn es (step_edge path n (at + 1 - 1)) place) e (subst (λ n. IsPlaceIn es (step_edge path (at - 1) n) place) f is)

-- ---- kept lines

pub kept_own : (file : ResultFile) (k : ℕ) (line : PathLine) → slice_get file.paths k ≡ Some line → line.fate ≡ Kept → Contains (its_kept file) (1 + k, line.path)
kept_own file k line at is =
    let paths = map (λ (p : PathLine). p.path) file.paths in
    let walks = map (λ (p : PathLine). walk_of p.fate) file.paths in
    let keeps = map is_none walks in
    let path_at = slice_get-map (λ (p : PathLine). p.path) file.paths k line at in
    let walk_at = slice_get-map (λ (p : PathLine). walk_of p.fate) file.paths k line at in
    let keep_at = slice_get-map is_none walks k (walk_of line.fate) walk_at in
    kept_from-in 1 paths keeps k line.path true (slice_get_within paths k line.path path_at) (slice_get_within keeps k (is_none (walk_of line.fate)) keep_at)
    (get_or_from_slice_get paths k line.path line.path path_at)
    (get_or_from_slice_get keeps k (is_none (walk_of line.fate)) true keep_at ∙ ap (λ f. is_none (walk_of f)) is)

kept_fate : (fate : Fate) → is_none (walk_of fate) ≡ true → fate ≡ Kept
kept_fate Kept h = refl
kept_fate (Lost walk) h = absurd (false≢true h)

pub kept_line : (file : ResultFile) (path : List ℕ) → Contains (paths_of (its_kept file)) path →
    (k : ℕ) × (line : PathLine) × (slice_get file.paths k ≡ Some line) × (line.path ≡ path) × (line.fate ≡ Kept)
kept_line file path c =
    let paths = map (λ (p : PathLine). p.path) file.paths in
    let walks = map (λ (p : PathLine). walk_of p.fate) file.paths in
    let keeps = map is_none walks in
    let at = has-from_Contains (paths_of (its_kept file)) path c in
    let pair = slice_get-unmap (λ (p : ℕ × List ℕ). p.1) (its_kept file) at.0 path at.1 in
    let r = kept_from-out 1 paths keeps pair.0.0 pair.0.1 (Contains-from_has (its_kept file) pair.0 (at.0, pair.1)) in
    let i = r.0 in
    let line = slice_get-some file.paths i (omega (arith, r.2, length-map file.paths (λ (p : PathLine). p.path))) in
    let its_path = slice_get-map (λ (p : PathLine). p.path) file.paths i line.0 line.1 in
    let its_walk = slice_get-map (λ (p : PathLine). walk_of p.fate) file.paths i line.0 line.1 in
    let its_keep = slice_get-map is_none walks i (walk_of line.0.fate) its_walk in
    let same = sym (get_or_from_slice_get paths i line.0.path pair.0.1 its_path) ∙ r.4 ∙ pair.2 in
    (i, line.0, line.1, same, kept_fate line.0.fate (sym (get_or_from_slice_get keeps i (is_none (walk_of line.0.fate)) true its_keep) ∙ r.5 true))

module _ (file : ResultFile) (es : List Edge) where
  -- the arcs of the first lines
  abbrev pub HasLinesTo : List (ℕ × ℕ) → ℕ → Type 0
  HasLinesTo arcs end = (k : ℕ) → k < end → HasLineDowns file es arcs k

  pub lines_next : (old new : List (ℕ × ℕ)) (at : ℕ) → StillHas old new → HasLineDowns file es new at → HasLinesTo old at → HasLinesTo new (at + 1)
  lines_next old new at still here before k lt = elim (cases_lt k at) [
    | inl less ↦ λ line there is i. down_still (its_labels file) es old new line.path i still (before k less line there is i)
    | inr ge ↦ let e : at ≡ k = omega (arith, lt, ge) in subst (HasLineDowns file es new) e here
  ]

  pub lines_all : (arcs : List (ℕ × ℕ)) (end : ℕ) → length file.paths ≤ end → HasLinesTo arcs end →
      (path : List ℕ) → Contains (paths_of (its_kept file)) path → HasDowns (its_labels file) es arcs path
  lines_all arcs end le has path c =
      let (k, line, at, same, is) = kept_line file path c in
      let lt = slice_get_within file.paths k line at in
      subst (HasDowns (its_labels file) es arcs) same (has k (omega (arith, lt, le)) line at is)

-- a path of the result has few numbers
pub few_numbers : (file : ResultFile) → Accepts file → (k : ℕ) (line : PathLine) → slice_get file.paths k ≡ Some line → length line.path ≤ max_numbers
few_numbers file accepts k line at =
    let sound = accepts PathsCleaned k (slice_get_within file.paths k line at) line at in
    let path_at = slice_get-map (λ (p : PathLine). p.path) file.paths k line at in
    let all = its_paths file in
    let next = take_get all k line.path path_at in
    let sum : sum_by length (take (k + 1) all) ≡ sum_by length (take k all) + (length line.path + 0) =
    ap (sum_by length) next ∙ sum_by-append length (take k all) (line.path ∷ []) ∙ ap (λ n. sum_by length (take k all) + n) (sum_by-cons length line.path []) in
    let few = sound.numbers in
    omega (arith, sum, few)
