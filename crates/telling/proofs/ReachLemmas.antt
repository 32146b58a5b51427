-- What is reached down from the order of a label, and the walk back.
use Rattle.std.proofs.Common.{◌≡◌, ◌≢◌, inl, inr, min, max, ℕ, zero, suc, ◌+◌, ◌-◌, ◌<◌, ◌≤◌, List, [], ◌∷◌, ◌++◌, length, map, true, Some, slice_get, refl, sym, ap, ap₂, ◌∙◌, subst, arith}
use Rattle.std.proofs.Common.{Contains, IsTrue, IsNone, Option, None, length-append}
use Rattle.std.proofs.lemmas.Bool.{false≢true, cases_lt}
use Rattle.std.proofs.lemmas.List.Elements.{All-append, All-contains, Contains-append_cases}
use Rattle.std.proofs.lemmas.Option.{same_Some, slice_get_within}
use Rattle.tor_arena.proofs.Gets.{Contains-from_has, Contains-none, slice_get-some, Contains-map, has-from_Contains, slice_get-map, slice_get-push_cases, slice_get-unmap}
use Rattle.relationships.specs.declared.label.End.{End}
use Rattle.relationships.specs.declared.label.Label.{Label}
use Rattle.relationships.specs.declared.label.Label.TheVariants as label
use Rattle.relationships.specs.declared.mark.Mark.{Mark}
use Rattle.relationships.specs.declared.mark.Mark.TheVariants as mark
use Rattle.relationships.specs.declared.given.Given.{Given}
use Rattle.relationships.specs.declared.mark.Probe.{Probe}
use Rattle.relationships.specs.declared.walk.Link.{Link}
use Rattle.relationships.specs.declared.walk.Walk.{Walk}
use Rattle.relationships.specs.Relationship.{Labelling, Orientation, labels_of, is_low, is_high, is_over}
use Rattle.relationships.specs.Graph.{Edge, edge_of, edges}
use Rattle.relationships.specs.Evidence.{TripleAt, IsTriple, Closure, start, imply, IsConsistent, NeighboursDiffer, Numbered, paths_of, BeginsWith, EndsWith, Fits}
use Rattle.relationships.specs.Givens.{return_of, LabelsSay, names_edge}
use Rattle.relationships.specs.GivenEvidence.{FitsWith, IsLinkedWith}
use Rattle.relationships.specs.Checking.{IsBorneOut, ProbesFrom}
use Rattle.relationships.specs.Marking.{is_forced}
use Rattle.relationships.specs.Telling.{Leads, CanBeEither}
use Rattle.relationships.proofs.Slopes.{over_parts, over_one_way, over-low, over-high}
use Rattle.relationships.proofs.Checked.{over_low, over_high}
use Rattle.relationships.proofs.Closures.{reversed_triple}
use Rattle.relationships.proofs.GivenLemmas.{three_on, any_there, edge_back, returns_differ}
use Rattle.relationships.proofs.GivenWalks.{same_closure_law}
use Rattle.tor_digraph.specs.Closing.{IsOnce}
use Rattle.tor_digraph.specs.Walks.{Net, IsArc, HasArc}
use Rattle.tor_digraph.specs.Reached.{Reach}
use Rattle.result_text.specs.declared.file.EdgeLine.{EdgeLine}
use Rattle.result_text.specs.declared.file.ResultFile.{ResultFile}
use Rattle.result_rules.specs.declared.rule.Rule.TheVariants.{HeadSound, EdgesListed, LabelsServe, MarksBorneOut}
use Rattle.result_rules.specs.File.{its_givens, its_paths, its_kept, its_edges, its_labels, its_claims, its_probes, its_returns, shown_orders, claim_on}
use Rattle.result_rules.specs.Rules.{Accepts, its_served}
use Rattle.result_rules.proofs.Acceptance.{acceptance_law}
use Rattle.result_rules.proofs.Accepted.{edges_listed}
use Rattle.result_rules.proofs.GivenLines.{name_two, labels_agree}
use Rattle.result_rules.proofs.MarkLaws.{marks_are_borne_out, probes_serve}
use Rattle.telling.specs.Proving.{HasOrder}
use Rattle.telling.specs.Told.{edge_on, IsAgainst, IsFirstTo, IsWithoutLoop, IsReached, IsPeering, IsUndecided}
use Rattle.telling.specs.Downs.{HaveLabels, HasOver, HasDowns, AreDowns}
use Rattle.telling.specs.Labelling.{HasStep}
use Rattle.telling.specs.Reaching.{IsReachOf, IsPlainWay, IsOpposed, IsUnopposed, NoneTo, IsBack}
use Rattle.telling.proofs.EitherLemmas.{either_law, peers_law}
use Rattle.telling.proofs.LabelLemmas.{rises, its_label, kept_edges, kept_differ, near, near_free}
use Rattle.telling.proofs.PathLemmas.{own_edge}
use Rattle.telling.proofs.ProvingLemmas.{triple_served, along}
use Rattle.telling.proofs.DownLemmas.{over_reads, one_order, next_listed, goes_down}

-- ---- walks that grow at their end

-- one link more
pub linked_more : (givens : List Given) (A : Numbered) (ases : List ℕ) (links : List Link) (x y z : ℕ) (link : Link) → IsLinkedWith givens A ases links →
    (before : List ℕ) → ases ≡ before ++ (x ∷ y ∷ []) → FitsWith givens A link x y z → IsLinkedWith givens A (ases ++ z ∷ []) (links ++ link ∷ [])
linked_more givens A [] links x y z link h before e f = absurd h
linked_more givens A (a ∷ []) links x y z link h before e f = absurd h
linked_more givens A (a ∷ b ∷ []) [] x y z link h [] e f =
    let e₁ : x ≡ a = cc in let e₂ : y ≡ b = cc in
    (subst (λ n. FitsWith givens A link n b z) e₁ (subst (λ n. FitsWith givens A link x n z) e₂ f), tt)
linked_more givens A (a ∷ b ∷ []) [] x y z link h (c ∷ before) e f =
    let n : length (a ∷ b ∷ []) ≡ length (c ∷ (before ++ (x ∷ y ∷ []))) = ap length e in
    absurd (omega (arith, n, length-append before (x ∷ y ∷ [])))
linked_more givens A (a ∷ b ∷ []) (l ∷ links) x y z link h before e f = absurd h
linked_more givens A (a ∷ b ∷ c ∷ ases) [] x y z link h before e f = absurd h
linked_more givens A (a ∷ b ∷ c ∷ ases) (l ∷ links) x y z link h [] e f =
    let n : length (a ∷ b ∷ c ∷ ases) ≡ length (x ∷ y ∷ []) = ap length e in absurd (omega (arith, n))
linked_more givens A (a ∷ b ∷ c ∷ ases) (l ∷ links) x y z link h (d ∷ before) e f =
    let e' : b ∷ c ∷ ases ≡ before ++ (x ∷ y ∷ []) = cc in
    (h.0, linked_more givens A (b ∷ c ∷ ases) links x y z link h.1 before e' f)

ends_more : (ases before : List ℕ) (x y z : ℕ) → ases ≡ before ++ (x ∷ y ∷ []) → EndsWith (ases ++ z ∷ []) y z
ends_more ases before x y z e = (before ++ x ∷ [], ap (λ (l : List ℕ). l ++ z ∷ []) e ∙ shifted before)
  where
    shifted : (l : List ℕ) → (l ++ (x ∷ y ∷ [])) ++ z ∷ [] ≡ (l ++ x ∷ []) ++ (y ∷ z ∷ [])
    shifted [] = refl
    shifted (a ∷ l) = ap (λ (m : List ℕ). a ∷ m) (shifted l)

-- the last of a walk
ends_at : (ases : List ℕ) (y x : ℕ) → EndsWith ases y x → (i : ℕ) → length ases ≡ i + 1 → slice_get ases i ≡ Some x
ends_at ases y x (before, e) i many = subst (λ (l : List ℕ). slice_get l i ≡ Some x) (sym e) (last before i (ap length (sym e) ∙ many))
  where
    last : (l : List ℕ) (i : ℕ) → length (l ++ (y ∷ x ∷ [])) ≡ i + 1 → slice_get (l ++ (y ∷ x ∷ [])) i ≡ Some x
    last [] zero n = absurd (omega (arith, n))
    last [] (suc zero) n = refl
    last [] (suc (suc i)) n = absurd (omega (arith, n))
    last (a ∷ l) zero n = absurd (omega (arith, n, length-append l (y ∷ x ∷ [])))
    last (a ∷ l) (suc i) n = last l i (omega (arith, n))

begins_more : (ases : List ℕ) (x y z : ℕ) → BeginsWith ases x y → BeginsWith (ases ++ z ∷ []) x y
begins_more ases x y z b = (b.0 ++ z ∷ [], ap (λ (l : List ℕ). l ++ z ∷ []) b.1)

-- ---- one arc back

-- the arc and its tail are there
module _ (file : ResultFile) (es : List Edge) (net : Net ℕ) (named : List Link) (downs : AreDowns file es net named)
    (way steps : List ℕ) (u v : ℕ) (is_way : IsPlainWay net.arcs u v way steps) (k from arc : ℕ) (step_at : slice_get steps k ≡ Some arc) (from_at : slice_get way k ≡ Some from) where
  next : (w : ℕ) × (slice_get way (k + 1) ≡ Some w)
  next = let lt = slice_get_within steps k arc step_at in slice_get-some way (k + 1) (omega (arith, lt, is_way.one_more))

  is_there : IsArc net.arcs arc from next.0
  is_there = is_way.between k arc from next.0 step_at from_at next.1

  pub from_within : from < length es
  from_within = let r = downs.links.each arc from next.0 is_there in slice_get_within es from (edge_of r.2.x r.2.y) r.2.from.at

  pub arc_within : arc < length named
  arc_within = let lt = slice_get_within net.arcs arc (from, next.0) is_there in omega (arith, lt, downs.links.as_many)

module _ (file : ResultFile) (es : List Edge) (net : Net ℕ) (named : List Link) (downs : AreDowns file es net named)
    (way steps : List ℕ) (u v : ℕ) (is_way : IsPlainWay net.arcs u v way steps) (k from arc : ℕ) (link : Link)
    (step_at : slice_get steps k ≡ Some arc) (from_at : slice_get way k ≡ Some from) (link_at : slice_get named arc ≡ Some link) where
  pub back_more : (old new : Walk) (x : ℕ) → ((p q : ℕ) → HasOver (its_labels file) es from p q → x ≡ p) → new.ases ≡ old.ases ++ x ∷ [] → new.links ≡ old.links ++ link ∷ [] →
      (over under : ℕ) → IsBack file es way over under (k + 1) old → IsBack file es way over under k new
  back_more old new x reads a l over under back =
      let is_arc = is_way.between k arc from back.edge step_at from_at back.at in
      let r = downs.links.each arc from back.edge is_arc in
      let same_link : r.0 ≡ link = same r.0 link (sym r.1 ∙ link_at) in
      let d = r.2 in
      let order = one_order (its_labels file) es back.edge d.y d.z back.x back.y d.to back.label in
      let x_is : x ≡ d.x = reads d.x d.y d.from in
      let fits : Fits (its_kept file) link back.y back.x x =
      subst (λ n. Fits (its_kept file) link n back.x x) order.1 (subst (λ n. Fits (its_kept file) link d.z n x) order.0
      (subst (λ n. Fits (its_kept file) link d.z d.y n) (sym x_is) (subst (λ n. Fits (its_kept file) n d.z d.y d.x) same_link (turned r.0 d.x d.y d.z d.fits)))) in
      record {
        edge = from;
        at = from_at;
        x = x;
        y = back.x;
        label = subst (λ n. HasOver (its_labels file) es from n back.x) (sym x_is) (subst (λ n. HasOver (its_labels file) es from d.x n) order.0 d.from);
        linked = subst (λ ases. IsLinkedWith (its_givens file) (its_kept file) ases new.links) (sym a)
            (subst (λ links. IsLinkedWith (its_givens file) (its_kept file) (old.ases ++ x ∷ []) links) (sym l)
            (linked_more (its_givens file) (its_kept file) old.ases old.links back.y back.x x link back.linked back.ends.0 back.ends.1 (inr fits)));
        begins = subst (λ ases. BeginsWith ases over under) (sym a) (begins_more old.ases over under x back.begins);
        ends = subst (λ ases. EndsWith ases back.x x) (sym a) (ends_more old.ases back.ends.0 back.y back.x x back.ends.1);
        long = omega (arith, back.long, ap length a, length-append old.ases (x ∷ []));
        orders = subst AreBack (sym a)
            (orders_more back (subst (λ n. HasOver (its_labels file) es from n back.x) (sym x_is) (subst (λ n. HasOver (its_labels file) es from d.x n) order.0 d.from)));
      }
    where
      -- each order of the walk is the opposite of that of an edge of the way
      AreBack : List ℕ → Type 0
      AreBack ases = (i a b : ℕ) → HasStep ases i a b → (u : ℕ) × (slice_get way (length way - (i + 1)) ≡ Some u) × HasOver (its_labels file) es u b a

      orders_more : (back : IsBack file es way over under (k + 1) old) → HasOver (its_labels file) es from x back.x → AreBack (old.ases ++ x ∷ [])
      orders_more back has i a b (at_a, at_b) = elim (slice_get-push_cases old.ases x (i + 1) b at_b) [
        | inl old_b ↦ (
            let lt = slice_get_within old.ases (i + 1) b old_b in
            elim (slice_get-push_cases old.ases x i a at_a) [
              | inl old_a ↦ back.orders i a b (old_a, old_b)
              | inr new_a ↦ absurd (omega (arith, lt, new_a.0))
            ]
            )
        | inr new_b ↦ elim (slice_get-push_cases old.ases x i a at_a) [
          | inl old_a ↦ (
              let e : k ≡ length way - (i + 1) = omega (arith, back.long, new_b.0) in
              let last : a ≡ back.x = same_Some a back.x (sym old_a ∙ ends_at old.ases back.y back.x back.ends i (sym new_b.0)) in (
                from,
                subst (λ n. slice_get way n ≡ Some from) e from_at,
                subst (λ n. HasOver (its_labels file) es from b n) (sym last) (subst (λ n. HasOver (its_labels file) es from n back.x) (sym new_b.1) has),
              )
              )
          | inr new_a ↦ absurd (omega (arith, new_a.0, new_b.0))
        ]
      ]

      same : (m n : Link) → Some m ≡ Some n → m ≡ n
      same m n e = cc

      turned : (n : Link) (a b c : ℕ) → Fits (its_kept file) n a b c → Fits (its_kept file) n c b a
      turned n a b c (path, i, inl s) = (path, i, inr s)
      turned n a b c (path, i, inr s) = (path, i, inl s)

pub back_begun : (file : ResultFile) (es : List Edge) (way : List ℕ) (over under k edge : ℕ) (walk : Walk) → length way ≡ k + 1 → slice_get way k ≡ Some edge →
    HasOver (its_labels file) es edge under over → walk.ases ≡ over ∷ under ∷ [] → walk.links ≡ [] → IsBack file es way over under k walk
back_begun file es way over under k edge walk many at has a l = record {
  edge = edge;
  at = at;
  x = under;
  y = over;
  label = has;
  linked = subst (λ ases. IsLinkedWith (its_givens file) (its_kept file) ases walk.links) (sym a)
      (subst (λ links. IsLinkedWith (its_givens file) (its_kept file) (over ∷ under ∷ []) links) (sym l) tt);
  begins = ([], a);
  ends = ([], a);
  long = omega (arith, many, ap length a);
  orders = subst (λ (ases : List ℕ). (i x y : ℕ) → HasStep ases i x y → (u : ℕ) × (slice_get way (length way - (i + 1)) ≡ Some u) × HasOver (its_labels file) es u y x) (sym a) first;
}
  where
    first : (i x y : ℕ) → HasStep (over ∷ under ∷ []) i x y → (u : ℕ) × (slice_get way (length way - (i + 1)) ≡ Some u) × HasOver (its_labels file) es u y x
    first zero x y (at_x, at_y) =
        let e : k ≡ length way - (0 + 1) = omega (arith, many) in (
          edge,
          subst (λ n. slice_get way n ≡ Some edge) e at,
          subst (λ n. HasOver (its_labels file) es edge n x) (same_Some under y at_y) (subst (λ n. HasOver (its_labels file) es edge under n) (same_Some over x at_x) has),
        )
    first (suc i) x y (at_x, at_y) = let lt = slice_get_within (over ∷ under ∷ []) (suc i + 1) y at_y in absurd (omega (arith, lt))

-- ---- what an open line leads to

module _ (file : ResultFile) (accepts : Accepts file) where
  abbrev Listed : ℕ → ℕ → Type 0
  Listed a b = Contains (its_edges file) (edge_of a b)

  listed_back : (a b : ℕ) → Listed a b → Listed b a
  listed_back a b h = subst (λ (e : Edge). Contains (its_edges file) e) (edge_back a b) h

  -- a triple that leads to an edge leads from one
  edge_before : (x y z : ℕ) → IsTriple (its_served file) x y z → Listed y z → Listed x y
  edge_before x y z (path, there, (at, t)) h =
      elim (Contains-append_cases (map return_of (its_givens file)) (paths_of (its_kept file)) path there) [
        | inl i ↦ (
            let k = has-from_Contains (map return_of (its_givens file)) path i in
            let g = slice_get-unmap return_of (its_givens file) k.0 path k.1 in
            let three = three_on g.0.under g.0.over at x y z (subst (λ p. TripleAt p at x y z) (sym g.2) t) in
            listed_back y x (subst (Listed y) (three.2 ∙ sym three.0) h)
            )
        | inr i ↦ listed_back y x (next_listed file accepts path i at z y x (turned t))
      ]
    where
      turned : TripleAt path at x y z → TripleAt path at z y x
      turned (inl s) = inr s
      turned (inr s) = inl s

  -- so a closure that comes to an edge begins with one
  begins_listed : (a b : ℕ) {x y : ℕ} → Closure (its_served file) a b x y → Listed x y → Listed a b
  begins_listed a b start h = h
  begins_listed a b (imply {x = x} {y = y} {z = z} c t) h = begins_listed a b c (edge_before x y z t h)

  consistent_of : (earlier probes : List (ℕ × ℕ)) (k : ℕ) (p : ℕ × ℕ) → ProbesFrom (its_served file) (its_claims file) earlier probes → slice_get probes k ≡ Some p →
      IsConsistent (its_served file) p.0 p.1
  consistent_of earlier [] k p h e = absurd (cc e)
  consistent_of earlier (q ∷ probes) zero p h e = subst (λ (o : ℕ × ℕ). IsConsistent (its_served file) o.0 o.1) (same_order q p e) h.0.consistent
    where
      same_order : (a b : ℕ × ℕ) → Some a ≡ Some b → a ≡ b
      same_order a b i = cc
  consistent_of earlier (q ∷ probes) (suc k) p h e = consistent_of (earlier ++ q ∷ []) probes k p h.1 e

  module _ (a b : ℕ) (own : Contains (its_probes file) (a, b)) where
    -- an order that follows from that of an open line, against a label, can be either
    either : Contains (edges (its_paths file)) (edge_of a b) → (x y : ℕ) → Closure (its_served file) a b x y → is_over (its_labels file) y x ≡ true → CanBeEither (near file accepts) x y
    either edge x y closed over =
        let i = has-from_Contains (its_probes file) (a, b) own in
        let same = same_closure_law (its_givens file) (its_paths file) (paths_of (its_kept file)) a b (kept_edges file accepts) edge in
        either_law (its_labels file) (near file accepts) a b x y
        (All-append NeighboursDiffer (its_returns file) (paths_of (its_kept file)) (returns_differ (its_givens file) (its_paths file) (name_two file (accepts HeadSound)))
        (kept_differ file accepts))
        (near_free file accepts) over (same.1.1 (consistent_of [] (its_probes file) i.0 (a, b) (probes_serve file (accepts MarksBorneOut)) i.1))
        ((same.0 x y).1 closed)

    ends_apart : (O O' : Orientation) (low high : ℕ) → low < high → O low high ≡ O' low high → is_over (labels_of O) low high ≡ true → is_over (labels_of O') high low ≡ true → ⊥
    ends_apart O O' low high lt same o o' =
        let e : End.Low ≡ End.High = sym (over_low O low high lt o) ∙ same ∙ over_high O' low high lt o' in cc

    -- so its edge isn't forced
    unforced : (x y : ℕ) → Closure (its_served file) a b x y → is_over (its_labels file) y x ≡ true →
        (line : EdgeLine) → Contains file.edges line → edge_on line ≡ edge_of y x → line.mark ≡ mark.Open
    unforced x y closed over line there is = by_mark line.mark refl
      where
        listed : Listed x y
        listed = listed_back y x (subst (Contains (its_edges file)) is (Contains-map {Y = Edge} edge_on file.edges line there))

        edge : Contains (edges (its_paths file)) (edge_of a b)
        edge = subst (λ (es : List Edge). Contains es (edge_of a b)) (edges_listed file (accepts EdgesListed)) (begins_listed a b closed listed)

        can : CanBeEither (near file accepts) x y
        can = either edge x y closed over

        lower : line.low ≡ min y x
        lower = ap (λ (e : Edge). e.0) is

        upper : line.high ≡ max y x
        upper = ap (λ (e : Edge). e.1) is

        agree : line.mark ≡ mark.Forced → (low high : ℕ) → line.low ≡ low → line.high ≡ high → can.one low high ≡ can.other low high
        agree m low high e f =
            let forced = ((acceptance_law file accepts).forced line there).0 (ap is_forced m) in
            subst (λ n. can.one n high ≡ can.other n high) e (subst (λ n. can.one line.low n ≡ can.other line.low n) f (forced can.one can.other can.one_serves can.other_serves))

        not_forced : line.mark ≡ mark.Forced → ⊥
        not_forced m = elim (over_parts (its_labels file) y x over) [
          | inl p ↦ (
              let lt = p.0 in
              ends_apart can.other can.one y x lt (sym (agree m y x (omega (arith, lt, lower)) (omega (arith, lt, upper)))) can.other_order can.one_order
              )
          | inr p ↦ (
              let lt = p.0 in
              ends_apart can.one can.other x y lt (agree m x y (omega (arith, lt, lower)) (omega (arith, lt, upper))) can.one_order can.other_order
              )
        ]

        by_mark : (m : Mark) → line.mark ≡ m → line.mark ≡ mark.Open
        by_mark mark.Open e = e
        by_mark mark.Forced e = absurd (not_forced e)

-- the open line that is the first to be opposed
at_own : {file : ResultFile} {es : List Edge} {nodes : List ℕ} {over under u : ℕ} → (found : IsOpposed file es nodes over under u) → slice_get (its_probes file) found.place ≡ Some (over, under)
at_own {file = file} {over = over} {under = under} found =
    slice_get-map {Y = ℕ × ℕ} (λ (q : Probe). (q.over, q.under)) file.probes found.place found.probe found.at
    ∙ ap₂ (λ (a b : ℕ). Some (a, b)) found.is_over found.is_under

its_own : {file : ResultFile} {es : List Edge} {nodes : List ℕ} {over under u : ℕ} → IsOpposed file es nodes over under u → Contains (its_probes file) (over, under)
its_own {file = file} {over = over} {under = under} found = Contains-from_has (its_probes file) (over, under) (found.place, at_own found)

-- an order against a label, in the closure of an open line, leaves the edge undecided
swapped : (paths : List (List ℕ)) (a b : ℕ) → CanBeEither paths a b → CanBeEither paths b a
swapped paths a b c = record {
  one = c.other;
  one_serves = c.other_serves;
  one_order = c.other_order;
  other = c.one;
  other_serves = c.one_serves;
  other_order = c.one_order;
}

module _ (file : ResultFile) (accepts : Accepts file) (line : EdgeLine) (there : Contains file.edges line) where
  listed_line : Contains (its_edges file) (edge_of line.low line.high)
  listed_line =
      let i = has-from_Contains file.edges line there in
      subst (Contains (its_edges file)) (sym (own_edge file accepts i.0 line i.1)) (Contains-map {Y = Edge} edge_on file.edges line there)

  pub undecided_so : (a b : ℕ) → Contains (its_probes file) (a, b) → (over under : ℕ) → IsAgainst line over under → Closure (its_served file) a b over under → IsUndecided file line
  undecided_so a b own over under (inl (low, f, g)) closed =
      let lt = rises file accepts line there in
      let reached : Closure (its_served file) a b line.high line.low = subst (λ n. Closure (its_served file) a b n line.low) f (subst (λ n. Closure (its_served file) a b over n) g closed) in
      let edge = subst (λ (es : List Edge). Contains es (edge_of a b)) (edges_listed file (accepts EdgesListed))
      (begins_listed file accepts a b reached (listed_back file accepts line.low line.high listed_line)) in
      swapped (near file accepts) line.high line.low
      (either file accepts a b own edge line.high line.low reached (over-low (its_labels file) line.low line.high lt (ap is_low (its_label file accepts line there ∙ low))))
  undecided_so a b own over under (inr (high, f, g)) closed =
      let lt = rises file accepts line there in
      let reached : Closure (its_served file) a b line.low line.high = subst (λ n. Closure (its_served file) a b n line.high) f (subst (λ n. Closure (its_served file) a b over n) g closed) in
      let edge = subst (λ (es : List Edge). Contains es (edge_of a b)) (edges_listed file (accepts EdgesListed)) (begins_listed file accepts a b reached listed_line) in
      either file accepts a b own edge line.low line.high reached (over-high (its_labels file) line.low line.high lt (ap is_high (its_label file accepts line there ∙ high)))

-- ---- what is reached

module _ (file : ResultFile) (accepts : Accepts file) where
  abbrev L : Labelling
  L = its_labels file

  -- the order of the edge's label is not one that a given forbids
  not_given : (g : Given) → Contains (its_givens file) g → Contains (its_edges file) (edge_of g.over g.under) → is_over L g.under g.over ≡ true → ⊥
  not_given g there listed o =
      let named = any_there (edges (its_paths file)) (edge_of g.over g.under) (subst (λ (es : List Edge). Contains es (edge_of g.over g.under)) (edges_listed file (accepts EdgesListed)) listed) in
      let says = All-contains (λ h. IsTrue (names_edge (its_paths file) h) → LabelsSay L h) (its_givens file) g
      (labels_agree file (accepts HeadSound) (accepts EdgesListed) (accepts LabelsServe)) there named in
      over_one_way L g.under g.over o says

  module _ (es : List Edge) (labels : List Label) (have : HaveLabels file es labels) where
    listed_at : (u a b : ℕ) → slice_get es u ≡ Some (edge_of a b) → Contains (its_edges file) (edge_of a b)
    listed_at u a b at = have.only (edge_of a b) (Contains-from_has es (edge_of a b) (u, at))

    -- an edge of the result that no line has as a forced one is there
    open_held : (a b : ℕ) → Contains (its_edges file) (edge_of a b) → ((line : EdgeLine) → Contains file.edges line → edge_on line ≡ edge_of a b → line.mark ≡ mark.Open) →
        Contains es (edge_of a b)
    open_held a b listed opened =
        let k = has-from_Contains (its_edges file) (edge_of a b) listed in
        let w = slice_get-unmap {Y = Edge} edge_on file.edges k.0 (edge_of a b) k.1 in
        let own = Contains-from_has file.edges w.0 (k.0, w.1) in
        subst (Contains es) w.2 (have.opens w.0 own (opened w.0 own w.2))

    module _ (net : Net ℕ) (begin : ℕ) (r : Reach ℕ ℕ) (is : IsReachOf net begin r)
        (all : (path : List ℕ) → Contains (paths_of (its_kept file)) path → HasDowns L es net.arcs path) where
      -- an edge that is reached has the order by its label
      abbrev Reached : ℕ → ℕ → Type 0
      Reached x y = (u : ℕ) × Contains r.nodes u × HasOver L es u x y

      -- what is served leads from there to what is reached, if the next edge is there
      goes_on : (x y z : ℕ) → Reached x y → IsTriple (its_served file) x y z → (is_over L y z ≡ true → Contains (its_edges file) (edge_of y z) → Contains es (edge_of y z)) → Reached y z
      goes_on x y z (u, c, has) (path, there, (at, t)) held =
          elim (Contains-append_cases (map return_of (its_givens file)) (paths_of (its_kept file)) path there) [
            | inl i ↦ (
                let k = has-from_Contains (map return_of (its_givens file)) path i in
                let g = slice_get-unmap return_of (its_givens file) k.0 path k.1 in
                let three = three_on g.0.under g.0.over at x y z (subst (λ p. TripleAt p at x y z) (sym g.2) t) in
                let own = Contains-from_has (its_givens file) g.0 (k.0, g.1) in
                let edge : Contains (its_edges file) (edge_of g.0.over g.0.under) =
                subst (λ (e : Edge). Contains (its_edges file) e) (edge_back g.0.under g.0.over)
                (subst (λ n. Contains (its_edges file) (edge_of g.0.under n)) three.1 (subst (λ n. Contains (its_edges file) (edge_of n y)) three.0 (listed_at u x y has.at))) in
                absurd (not_given g.0 own edge (subst (λ n. is_over L g.0.under n ≡ true) three.1 (subst (λ n. is_over L n y ≡ true) three.0 has.over)))
                )
            | inr i ↦ (
                let next = held (goes_down file accepts path i at x y z t has.over) (next_listed file accepts path i at x y z t) in
                let (v, w, from, to, arc) = all path i at x y z t has.over (Contains-from_has es (edge_of x y) (u, has.at)) next in
                let same : v ≡ u = have.once v u (edge_of x y) from.at has.at in
                elim (is.flooded.heads u w c (subst (λ n. HasArc net.arcs n w) same arc)) [
                  | inl there ↦ (w, there, to)
                  | inr none ↦ absurd (Contains-none w none)
                ]
                )
          ]

      -- where the closure of an open line comes to the opposite of what is reached, it begins so
      pub back_to : (a b : ℕ) → Contains (its_probes file) (a, b) → {x y : ℕ} → Closure (its_served file) a b x y → Reached y x → Reached b a
      back_to a b own start h = h
      back_to a b own (imply {x = x} {y = y} {z = z} c t) (u, i, has) =
          let back = reversed_triple (its_served file) x y z t in
          back_to a b own c (goes_on z y x (u, i, has) back (λ o listed. open_held y x listed (unforced file accepts a b own x y c o)))

    module _ (line : EdgeLine) (there : Contains file.edges line) (begin : ℕ) (at : slice_get es begin ≡ Some (edge_of line.low line.high)) where
      lt : line.low < line.high
      lt = rises file accepts line there

      -- the label of the line has the opposite of the order against it
      pub begins_over : (over under : ℕ) → IsAgainst line over under → HasOver L es begin under over
      begins_over over under (inl (low, f, g)) = record {
        at = subst (λ n. slice_get es begin ≡ Some (edge_of n over)) (sym g) (subst (λ n. slice_get es begin ≡ Some (edge_of line.low n)) (sym f) at);
        over = subst (λ n. is_over L n over ≡ true) (sym g) (subst (λ n. is_over L line.low n ≡ true) (sym f)
            (over-low L line.low line.high lt (ap is_low (its_label file accepts line there ∙ low))));
      }
      begins_over over under (inr (high, f, g)) = record {
        at = subst (λ n. slice_get es begin ≡ Some (edge_of n over)) (sym g) (subst (λ n. slice_get es begin ≡ Some (edge_of line.high n)) (sym f)
            (at ∙ ap (λ (e : Edge). Some e) (edge_back line.low line.high)));
        over = subst (λ n. is_over L n over ≡ true) (sym g) (subst (λ n. is_over L line.high n ≡ true) (sym f)
            (over-high L line.low line.high lt (ap is_high (its_label file accepts line there ∙ high))));
      }

      pub against : (x y : ℕ) → HasOver L es begin x y → IsAgainst line y x
      against x y has =
          let i = has-from_Contains file.edges line there in
          let own = own_edge file accepts i.0 line i.1 in
          let e : edge_of x y ≡ (line.low, line.high) = same (edge_of x y) (line.low, line.high) (sym has.at ∙ at ∙ ap (λ (f : Edge). Some f) own) in
          elim (over_reads L x y line.low line.high e has.over) [
            | inl p ↦ inl (sym (its_label file accepts line there) ∙ p.0, p.2, p.1)
            | inr p ↦ inr (sym (its_label file accepts line there) ∙ p.0, p.2, p.1)
          ]
        where
          same : (e f : Edge) → Some e ≡ Some f → e ≡ f
          same e f h = cc

      -- rule 9 says that some open line's opposite is reached
      pub some_opposed : line.mark ≡ mark.Open → line.label ≢ label.Peer → (net : Net ℕ) (r : Reach ℕ ℕ) → IsReachOf net begin r →
          ((path : List ℕ) → Contains (paths_of (its_kept file)) path → HasDowns L es net.arcs path) →
          ((p : ℕ × ℕ) → Contains (its_probes file) p → IsUnopposed file es r.nodes p.0 p.1) → ⊥
      some_opposed is_open no_peer net r is all none =
          elim (All-contains (IsBorneOut (its_served file) (shown_orders file.whys) (its_probes file)) (its_claims file) (claim_on line)
          (marks_are_borne_out file (accepts MarksBorneOut)) (Contains-map claim_on file.edges line there)) [
            | inl h ↦ false≢true (sym (ap is_forced is_open) ∙ h.0)
            | inr h ↦ elim h [
              | inl p ↦ no_peer p.1
              | inr q ↦ (
                  let (forced, (over, under, other, any)) = q in
                  let found = back_to net begin r is all any.1.0 any.1.1 (any.0, any.2, any.3) any.4 (begin, is.begun, begins_over over under other) in
                  none any.1 (any.0, any.2, any.3) found.0 found.1 found.2
                  )
            ]
          ]

      module _ (is_open : line.mark ≡ mark.Open) (over under u : ℕ) (nodes : List ℕ) (found : IsOpposed file es nodes over under u) where
        edge : Contains (edges (its_paths file)) (edge_of over under)
        edge =
            subst (λ (e : Edge). Contains (edges (its_paths file)) e) (edge_back under over)
            (subst (λ (es : List Edge). Contains es (edge_of under over)) (edges_listed file (accepts EdgesListed)) (listed_at u under over found.opposite.at))

        module _ (x y : ℕ) (has : HasOver L es begin x y) (walk : Walk) (leads : Leads (its_givens file) (its_kept file) walk over under y x) where
          closed : Closure (its_served file) over under y x
          closed =
              along (its_givens file) (its_kept file) (λ a b. Closure (its_served file) over under a b)
              (λ link a b c fits h. imply h (triple_served (its_givens file) (its_kept file) link a b c fits)) walk over under y x leads start

          against_label : CanBeEither (near file accepts) y x
          against_label = either file accepts over under (its_own found) edge y x closed has.over

          undecided : IsAgainst line y x → IsUndecided file line
          undecided (inl (low, f, g)) =
              swapped (near file accepts) line.high line.low
              (subst (λ n. CanBeEither (near file accepts) line.high n) g (subst (λ n. CanBeEither (near file accepts) n x) f against_label))
          undecided (inr (high, f, g)) = subst (λ n. CanBeEither (near file accepts) line.low n) g (subst (λ n. CanBeEither (near file accepts) n x) f against_label)

          pub reached_so : IsFirstTo file (over, under) y x → IsWithoutLoop walk → IsReached file line (over, under) walk
          reached_so first once = record {
            is_open = is_open;
            over = y;
            under = x;
            order = against x y has;
            first = first;
            reached = leads;
            without_loop = once;
            undecided = undecided (against x y has);
          }

-- the walk back along a whole way leads against the label with which the way begins
pub back_leads : (file : ResultFile) (es : List Edge) (way : List ℕ) (over under begin : ℕ) (walk : Walk) → slice_get way 0 ≡ Some begin → (back : IsBack file es way over under 0 walk) →
    HasOver (its_labels file) es begin back.x back.y × Leads (its_givens file) (its_kept file) walk over under back.y back.x
back_leads file es way over under begin walk first back = (
  subst (λ n. HasOver (its_labels file) es n back.x back.y) (same back.edge begin (sym back.at ∙ first)) back.label,
  record { walk = back.linked; begins = back.begins; ends = back.ends },
)
  where
    same : (m n : ℕ) → Some m ≡ Some n → m ≡ n
    same m n e = cc

-- it is the first whose closure has the order against the label
module _ (file : ResultFile) (accepts : Accepts file) (es : List Edge) (labels : List Label) (have : HaveLabels file es labels) (net : Net ℕ) (begin : ℕ) (r : Reach ℕ ℕ) (is : IsReachOf net begin r)
    (all : (path : List ℕ) → Contains (paths_of (its_kept file)) path → HasDowns (its_labels file) es net.arcs path) where
  first_so : (over under u : ℕ) (found : IsOpposed file es r.nodes over under u) (x y : ℕ) → Reached file accepts es labels have net begin r is all x y → IsFirstTo file (over, under) y x
  first_so over under u found x y reached = record {
    place = found.place;
    at = at_own found;
    none_before = none_before;
  }
    where
      none_before : (k : ℕ) (earlier : ℕ × ℕ) → k < found.place → slice_get (its_probes file) k ≡ Some earlier → Closure (its_served file) earlier.0 earlier.1 y x → ⊥
      none_before k earlier lt at closed =
          let w = slice_get-unmap {Y = ℕ × ℕ} (λ (q : Probe). (q.over, q.under)) file.probes k earlier at in
          let back = back_to file accepts es labels have net begin r is all earlier.0 earlier.1 (Contains-from_has (its_probes file) earlier (k, at)) closed reached in
          let not = subst (λ (p : ℕ × ℕ). IsUnopposed file es r.nodes p.0 p.1) w.2 (found.earlier k w.0 lt w.1) in
          not back.0 back.1 back.2

-- no order stands twice on the walk back along a way on which no edge does
no_loop : (file : ResultFile) (es : List Edge) (labels : List Label) → HaveLabels file es labels → (way : List ℕ) → IsOnce way → (over under : ℕ) (walk : Walk) →
    IsBack file es way over under 0 walk → IsWithoutLoop walk
no_loop file es labels have way once over under walk back i j x y at other =
    let (u, there, has) = back.orders i x y at in
    let (v, there', has') = back.orders j x y other in
    let same : u ≡ v = have.once u v (edge_of y x) has.at has'.at in
    let place = once (length way - (i + 1)) (length way - (j + 1)) v (subst (λ n. slice_get way (length way - (i + 1)) ≡ Some n) same there) there' in
    let lt = slice_get_within walk.ases (i + 1) y at.1 in
    let lt' = slice_get_within walk.ases (j + 1) y other.1 in
    omega (arith, back.long, place, lt, lt')

-- ---- what is told

module _ (file : ResultFile) (accepts : Accepts file) (line : EdgeLine) (there : Contains file.edges line) (is_open : line.mark ≡ mark.Open) where
  pub peering_so : line.label ≡ label.Peer → IsPeering file line
  peering_so is_peer = record {
    is_open = is_open;
    is_peer = is_peer;
    undecided = peers_law (its_labels file) (near file accepts) line.low line.high (near_free file accepts) (rises file accepts line there) (its_label file accepts line there ∙ is_peer);
  }

  pub found_so : (es : List Edge) (labels : List Label) → HaveLabels file es labels → (begin : ℕ) → slice_get es begin ≡ Some (edge_of line.low line.high) →
      (net : Net ℕ) (r : Reach ℕ ℕ) → IsReachOf net begin r → ((path : List ℕ) → Contains (paths_of (its_kept file)) path → HasDowns (its_labels file) es net.arcs path) →
      (over under u : ℕ) → IsOpposed file es r.nodes over under u → (way : List ℕ) → slice_get way 0 ≡ Some begin → IsOnce way → (walk : Walk) →
      IsBack file es way over under 0 walk → IsReached file line (over, under) walk
  found_so es labels have begin at net r is all over under u found way first once walk back =
      let b = back_leads file es way over under begin walk first back in
      reached_so file accepts es labels have line there begin at is_open over under u r.nodes found back.x back.y b.0 walk b.1
      (first_so file accepts es labels have net begin r is all over under u found back.x back.y (begin, is.begun, b.0))
      (no_loop file es labels have way once over under walk back)

module _ (file : ResultFile) (es : List Edge) (nodes : List ℕ) where
  pub none_next : (i : ℕ) (p : Probe) → slice_get file.probes i ≡ Some p → IsUnopposed file es nodes p.over p.under → NoneTo file es nodes i → NoneTo file es nodes (i + 1)
  none_next i p at none before k q lt there = elim (cases_lt k i) [
    | inl less ↦ before k q less there
    | inr ge ↦
        let e : k ≡ i = omega (arith, lt, ge) in
        let same = same_Some p q (sym at ∙ subst (λ n. slice_get file.probes n ≡ Some q) e there) in
        subst (λ (r : Probe). IsUnopposed file es nodes r.over r.under) same none
  ]

  pub none_all : (end : ℕ) → length file.probes ≤ end → NoneTo file es nodes end → (p : ℕ × ℕ) → Contains (its_probes file) p → IsUnopposed file es nodes p.0 p.1
  none_all end le none p c =
      let k = has-from_Contains (its_probes file) p c in
      let w = slice_get-unmap {Y = ℕ × ℕ} (λ (q : Probe). (q.over, q.under)) file.probes k.0 p k.1 in
      let lt = slice_get_within file.probes k.0 w.0 w.1 in
      subst (λ (r : ℕ × ℕ). IsUnopposed file es nodes r.0 r.1) w.2 (none k.0 w.0 (omega (arith, lt, le)) w.1)

pub none_is : {X : Type 0} (o : Option X) → o ≡ None → IsNone o
none_is None e = refl
none_is (Some x) e = absurd (cc e)

pub not_peer : (line : EdgeLine) (over under : ℕ) → HasOrder line over under → line.label ≢ label.Peer
not_peer line over under (inl p) e = low_peer (sym p.0 ∙ e)
  where
    low_peer : Label.Low ≡ Label.Peer → ⊥
    low_peer h = cc
not_peer line over under (inr p) e = high_peer (sym p.0 ∙ e)
  where
    high_peer : Label.High ≡ Label.Peer → ⊥
    high_peer h = cc
