-- Orders that are shown, one more at a time, and what follows from them.
use Rattle.std.proofs.Common.{◌≡◌, ℕ, ◌+◌, ◌/◌, ◌<◌, ◌≤◌, ◌⊎◌, inl, inr, Bool, List, [], ◌∷◌, ◌++◌, Some, length, refl, sym, ap, ap₂, ◌∙◌, subst, arith, length-append, All, IsTrue, Contains, append_assoc, append-nil}
use Rattle.std.specs.Prelude.{slice_get, IsFalse}
use Rattle.std.proofs.lemmas.Bool.{cases_lt, false≢true}
use Rattle.std.proofs.lemmas.Option.{same_Some, slice_get_within}
use Rattle.tor_arena.proofs.Pairs.{pair_with}
use Rattle.relationships.specs.declared.label.End.{End}
use Rattle.relationships.specs.declared.label.Label.{Label}
use Rattle.relationships.specs.declared.walk.Link.{Link}
use Rattle.relationships.specs.declared.walk.Walk.{Walk}
use Rattle.relationships.specs.Relationship.{Orientation, Labelling, labels_of, ValleyFree}
use Rattle.relationships.specs.Graph.{Edge, edges}
use Rattle.relationships.specs.Evidence.{NeighboursDiffer, Fits, Shows, Numbered, ShowFrom}
use Rattle.relationships.specs.Selection.{IsServable}
use Rattle.relationships.proofs.Edges.{peering_law}
use Rattle.relationships.proofs.Forcing.{implied_law}
use Rattle.relationships.proofs.Slopes.{over_one_way}
use Rattle.tor_digraph.specs.Walks.{HasArc, IsArc, Reaches, here, along}
use Rattle.tor_digraph.specs.Reached.{IsGrown}
use Rattle.tor_digraph.proofs.Closings.{reaches_trans}
use Rattle.tor_arena.proofs.Gets.{has-from_Contains, Contains-from_has, slice_get-some, slice_get-push_old, slice_get-push_cases, slice_get-push_last}
use Rattle.as_graph.specs.Paths.{paths_at}
use Rattle.tor_clauses.specs.Literals.{negated, lit_of, opposite_node, Says}
use Rattle.tor_clauses.specs.Formulas.{FitsGraph, IsLinkOfArc, numbered}
use Rattle.tor_clauses.specs.Flipping.{HasPartners}
use Rattle.tor_clauses.proofs.LiteralLemmas.{lit_of_node, opposite_node_twice}
use Rattle.tor_clauses.proofs.Overs.{Says-one, Says-negated}
use Rattle.tor_digraph.specs.Spreading.{IsClosed, Stays}
use Rattle.tor_digraph.specs.NodeSets.{IsAdded}
use Rattle.order_trials.specs.Posing.{Posed}
use Rattle.order_trials.specs.declared.showing.Shown.{Shown}
use Rattle.tor_digraph.proofs.Members.{Contains-one_more}
use Rattle.tor_digraph.proofs.Spreadings.{stays_contained}
use Rattle.order_trials.proofs.Reaching.{same_node, closure_of}
use Rattle.order_trials.proofs.Ordering.{says_low, says_high, rising}
use Rattle.order_trials.specs.Showing.{AreShown, AreForced, IsShowing, AreClosedTo, LeadsAlongArc, LeadsBack, IsTail}

-- ---- walks, one more

pub ShowFrom-push : (A : Numbered) (shown : List (ℕ × ℕ)) (walks : List Walk) (orders : List (ℕ × ℕ)) (w : Walk) (a b : ℕ) → ShowFrom A shown walks orders →
    Shows A (shown ++ orders) w a b → ShowFrom A shown (walks ++ w ∷ []) (orders ++ (a, b) ∷ [])
ShowFrom-push A shown [] [] w a b h s = (subst (λ l. Shows A l w a b) (append-nil shown) s, tt)
ShowFrom-push A shown [] (p ∷ orders) w a b h s = absurd h
ShowFrom-push A shown (v ∷ walks) [] w a b h s = absurd h
ShowFrom-push A shown (v ∷ walks) (p ∷ orders) w a b h s = (
  h.0,
  ShowFrom-push A (shown ++ p ∷ []) walks orders w a b h.1 (subst (λ l. Shows A l w a b) (sym (append_assoc shown (p ∷ []) orders)) s),
)

-- ---- an orientation from the labels

abbrev read : Label → End
read Label.Low = End.Low
read Label.High = End.High
read Label.Peer = End.Low

abbrev reading : Labelling → Orientation
reading L low high = read (L low high)

-- the labels serve, a peering read as if its lower number were the provider
pub servable : (L : Labelling) (paths : List (List ℕ)) → All (ValleyFree L) paths → IsServable paths
servable L paths h = (reading L, peering_law L paths h (reading L) (λ k d within. (λ e. rw e, λ e. rw e)))

-- ---- walks

-- a walk that was added by its parts
pub with_walk : (new old : List Walk) (ases : List ℕ) (links : List Link) (w : Walk) → ases ≡ w.ases → links ≡ w.links →
    new ≡ old ++ record { ases = ases; links = links } ∷ [] → new ≡ old ++ w ∷ []
with_walk new old ases links w e f g = g ∙ ap (λ x. old ++ x ∷ []) same
  where
    same : ◌≡◌ {A = Walk} (record { ases = ases; links = links }) w
    same = subst (λ l. ◌≡◌ {A = Walk} (record { ases = l; links = links }) w) (sym e) (subst (λ l. ◌≡◌ {A = Walk} (record { ases = w.ases; links = l }) w) (sym f) refl)

-- ---- what is reached

nothing : {X : Type 0} {x : X} → Contains [] x → ⊥
nothing h = let lt = h.1 in omega (arith, lt)

module _ (posed : Posed) where
  -- no arc leads out of what is shown
  pub closed-walk : (nodes : List ℕ) → IsClosed posed.formula.net.arcs [] nodes → {a b : ℕ} → Contains nodes a → Reaches posed.formula.net.arcs a b → Contains nodes b
  closed-walk nodes closed h here = h
  closed-walk nodes closed h (along {b = b} {c = c} w arc) = elim (closed b c (closed-walk nodes closed h w) arc) [ inl k ↦ k | inr k ↦ absurd (nothing k) ]

  -- a walk from what was reached stays there, or comes to what is shown
  pub near-walk : (shown nodes : List ℕ) → IsClosed posed.formula.net.arcs [] shown → IsClosed posed.formula.net.arcs shown nodes → {a b : ℕ} → Contains nodes a →
      Reaches posed.formula.net.arcs a b → Contains nodes b ⊎ Contains shown b
  near-walk shown nodes closed near h here = inl h
  near-walk shown nodes closed near h (along {b = b} {c = c} w arc) = elim (near-walk shown nodes closed near h w) [
    | inl k ↦ near b c k arc
    | inr k ↦ inr (closed-walk shown closed k (along here arc))
  ]

-- what was added is reached from the start
pub grown-cases : (arcs : List (ℕ × ℕ)) (start : ℕ) (old new : List ℕ) → IsGrown arcs start old new → (n : ℕ) → Contains new n → Contains old n ⊎ Reaches arcs start n
grown-cases arcs start old new w n h =
    let has = has-from_Contains new n h in
    elim (cases_lt has.0 (length old)) [
      | inl lt ↦
          let was = slice_get-some old has.0 lt in
          let same : was.0 ≡ n = same_Some was.0 n (sym (w.kept has.0 was.0 was.1) ∙ has.1) in
          inl (subst (Contains old) same (Contains-from_has old was.0 (has.0, was.1)))
      | inr le ↦ inr (w.more has.0 n le has.1)
    ]

-- ---- orders of nodes

module _ (posed : Posed) (apart : All NeighboursDiffer posed.graph) (fits : FitsGraph posed.graph posed.formula) where
  abbrev kept : List (List ℕ)
  kept = paths_at posed.graph posed.formula.paths

  abbrev es : List Edge
  es = edges posed.graph

  says_by : (k : ℕ) (end : End) (e : Edge) → slice_get es k ≡ Some e → (x y : ℕ) × Says es (record { edge = k; over = end }) x y
  says_by k End.Low e at = (e.0, e.1, says_low es k e.0 e.1 (rising posed.graph apart k e at) at)
  says_by k End.High e at = (e.1, e.0, says_high es k e.0 e.1 (rising posed.graph apart k e at) at)

  -- each node says an order
  pub says_of : (n : ℕ) → n < posed.formula.net.nodes → (x y : ℕ) × Says es (lit_of n) x y
  says_of n lt =
      let many = fits.nodes in
      let e = slice_get-some es (n / 2) (omega (arith, lt, many)) in
      says_by (n / 2) (lit_of n).over e.0 e.1

  pub says_opposite : (n x y : ℕ) → Says es (lit_of n) x y → Says es (lit_of (opposite_node n)) y x
  says_opposite n x y says = subst (λ l. Says es l y x) (sym (lit_of_node (negated (lit_of n)))) (Says-negated es (lit_of n) x y says)

  -- no order leads to its opposite and back
  pub one_way : IsServable kept → (n : ℕ) → n < posed.formula.net.nodes → Reaches posed.formula.net.arcs n (opposite_node n) → Reaches posed.formula.net.arcs (opposite_node n) n → ⊥
  one_way s n lt there back =
      let o = says_of n lt in
      let x = o.0 in
      let y = o.1 in
      let other = says_opposite n x y o.2 in
      over_one_way (labels_of s.0) y x
      (implied_law s.0 kept y x (λ e. o.2.two (sym e)) (closure_of posed.graph posed.formula apart fits n x y o.2 there y x other) s.1)
      (implied_law s.0 kept x y o.2.two (closure_of posed.graph posed.formula apart fits (opposite_node n) y x other back x y o.2) s.1)

  -- the walk of an arc's three ASes
  pub leads_on : (arc head a b x u : ℕ) (link : Link) → IsLinkOfArc posed.formula arc link → Says es (lit_of head) x u →
      LeadsAlongArc posed arc head a b (record { ases = a ∷ b ∷ u ∷ []; links = link ∷ [] })
  leads_on arc head a b x u link of head_says tail is says y z other =
      let l = of posed.graph tail head apart fits is in
      let first = Says-one es (lit_of tail) l.x l.y a b l.tail says in
      let second = Says-one es (lit_of head) l.y l.z y z l.head other in
      let third = Says-one es (lit_of head) x u y z head_says other in
      record {
        walk = (
          subst (λ k. Fits (numbered posed.graph posed.formula.paths) link k b u) first.0 (subst (λ k. Fits (numbered posed.graph posed.formula.paths) link l.x k u) first.1
              (subst (λ k. Fits (numbered posed.graph posed.formula.paths) link l.x l.y k) (second.1 ∙ sym third.1) l.fits)),
          tt,
        );
        begins = (u ∷ [], refl);
        ends = (a ∷ [], ap₂ (λ (p q : ℕ). a ∷ p ∷ q ∷ []) (sym first.1 ∙ second.0) third.1);
      }

  -- ---- orders that are shown

  -- an order that is shown is that of one of the nodes
  shown_node : (nodes : List ℕ) (upto : ℕ) (whys : List Walk) (so : AreShown posed nodes upto whys) → upto ≤ length nodes → (x y : ℕ) → Contains so.orders (x, y) →
      (k n : ℕ) × (k < upto) × (slice_get nodes k ≡ Some n) × Says es (lit_of n) x y
  shown_node nodes upto whys so le x y h =
      let has = has-from_Contains so.orders (x, y) h in
      let lt = slice_get_within so.orders has.0 (x, y) has.1 in
      let many = so.many in
      let n = slice_get-some nodes has.0 (omega (arith, lt, many, le)) in
      let s = so.says has.0 n.0 (omega (arith, lt, many)) n.1 in
      let same : ◌≡◌ {A = ℕ × ℕ} (s.0, s.1) (x, y) = same_Some (s.0, s.1) (x, y) (sym s.2 ∙ has.1) in
      (has.0, n.0, omega (arith, lt, many), n.1, subst (λ (p : ℕ × ℕ). Says es (lit_of n.0) p.0 p.1) same s.3)

  -- the order of one of these nodes is shown
  pub node_shown : (nodes : List ℕ) (upto : ℕ) (whys : List Walk) (so : AreShown posed nodes upto whys) → (k n x y : ℕ) → k < upto → slice_get nodes k ≡ Some n → Says es (lit_of n) x y →
      Contains so.orders (x, y)
  node_shown nodes upto whys so k n x y lt at says =
      let s = so.says k n lt at in
      let one = Says-one es (lit_of n) s.0 s.1 x y s.3 says in
      subst (Contains so.orders) (pair_with one.0 one.1) (Contains-from_has so.orders (s.0, s.1) (k, s.2))

  -- one walk more
  shown_push : (nodes : List ℕ) (upto : ℕ) (whys : List Walk) (so : AreShown posed nodes upto whys) (n a b : ℕ) (w : Walk) → slice_get nodes upto ≡ Some n → Says es (lit_of n) a b →
      Shows (numbered posed.graph posed.formula.paths) so.orders w a b → AreShown posed nodes (upto + 1) (whys ++ w ∷ [])
  shown_push nodes upto whys so n a b w at says shows = record {
    orders = so.orders ++ (a, b) ∷ [];
    many = length-append so.orders ((a, b) ∷ []) ∙ ap (λ k. k + 1) so.many;
    says = λ k m lt at-k. elim (cases_lt k upto) [
      | inl less ↦ (let s = so.says k m less at-k in (s.0, s.1, slice_get-push_old so.orders ((a, b) ∷ []) k (s.0, s.1) s.2, s.3))
      | inr le ↦
          let is : k ≡ upto = omega (arith, lt, le) in
          let same : n ≡ m = same_Some n m (sym at ∙ ap (slice_get nodes) (sym is) ∙ at-k) in
          let last : k ≡ length so.orders = is ∙ sym so.many in
          (a, b, ap (slice_get (so.orders ++ (a, b) ∷ [])) last ∙ slice_get-push_last so.orders (a, b), subst (λ v. Says es (lit_of v) a b) same says)
    ];
    shown = ShowFrom-push (numbered posed.graph posed.formula.paths) [] whys so.orders w a b so.shown shows;
  }

  -- the same walks, with one node more
  abbrev shown_before : (nodes : List ℕ) (n : ℕ) (whys : List Walk) → AreShown posed nodes (length nodes) whys → AreShown posed (nodes ++ n ∷ []) (length nodes) whys
  shown_before nodes n whys so = record {
    orders = so.orders;
    many = so.many;
    says = λ k m lt at. elim (slice_get-push_cases nodes n k m at) [ inl was ↦ so.says k m lt was | inr is ↦ absurd (let e = is.0 in omega (arith, lt, e)) ];
    shown = so.shown;
  }

  -- one node more, whose order the walk shows
  shown_more : (nodes : List ℕ) (whys : List Walk) (so : AreShown posed nodes (length nodes) whys) (n a b : ℕ) (w : Walk) → Says es (lit_of n) a b →
      Shows (numbered posed.graph posed.formula.paths) so.orders w a b → AreShown posed (nodes ++ n ∷ []) (length (nodes ++ n ∷ [])) (whys ++ w ∷ [])
  shown_more nodes whys so n a b w says shows =
      subst (λ u. AreShown posed (nodes ++ n ∷ []) u (whys ++ w ∷ [])) (sym (length-append nodes (n ∷ [])))
      (shown_push (nodes ++ n ∷ []) (length nodes) whys (shown_before nodes n whys so) n a b w (slice_get-push_last nodes n) says shows)

  module _ (s : IsServable kept) where
    -- the head of an arc from a node whose order is shown
    shown_head : (nodes : List ℕ) (whys : List Walk) (arc head a b : ℕ) (w : Walk) → head < posed.formula.net.nodes → AreForced posed nodes → Reaches posed.formula.net.arcs (opposite_node head) head →
        AreShown posed nodes (length nodes) whys → IsTail posed arc head nodes a b → (Contains nodes head → ⊥) → LeadsAlongArc posed arc head a b w →
        AreShown posed (nodes ++ head ∷ []) (length (nodes ++ head ∷ [])) (whys ++ w ∷ [])
    shown_head nodes whys arc head a b w below forced by_itself so tail fresh leads =
        let o = says_of head below in
        let x = o.0 in
        let y = o.1 in
        let l = leads tail.0 tail.1 tail.3 x y o.2 in
        let t = has-from_Contains nodes tail.0 tail.2 in
        shown_more nodes whys so head x y w o.2 (record {
          walk = l.walk;
          ends = l.ends;
          begins = inr (a, b, l.begins, node_shown nodes (length nodes) whys so t.0 tail.0 a b (slice_get_within nodes t.0 tail.0 t.1) t.1 tail.3);
          new = λ h. elim h [
            | inl i ↦
                let m = shown_node nodes (length nodes) whys so (omega arith) x y i in
                fresh (subst (Contains nodes) (same_node posed.graph m.1 head x y m.4 o.2) (Contains-from_has nodes m.1 (m.0, m.3)))
            | inr i ↦
                let m = shown_node nodes (length nodes) whys so (omega arith) y x i in
                let same = same_node posed.graph m.1 (opposite_node head) y x m.4 (says_opposite head x y o.2) in
                let back = forced m.1 (Contains-from_has nodes m.1 (m.0, m.3)) in
                one_way s head below (subst (λ v. Reaches posed.formula.net.arcs v (opposite_node head)) (opposite_node_twice head)
                (subst (λ v. Reaches posed.formula.net.arcs (opposite_node v) v) same back)) by_itself
          ];
        })

    -- the opposite of an order that leads to it
    shown_first : (nodes : List ℕ) (whys : List Walk) (node : ℕ) (w : Walk) → node < posed.formula.net.nodes → AreForced posed nodes → AreShown posed nodes (length nodes) whys →
        (Contains nodes (opposite_node node) → ⊥) → Reaches posed.formula.net.arcs node (opposite_node node) → LeadsBack posed node w →
        AreShown posed (nodes ++ opposite_node node ∷ []) (length (nodes ++ opposite_node node ∷ [])) (whys ++ w ∷ [])
    shown_first nodes whys node w below forced so fresh back leads =
        let o = says_of node below in
        let a = o.0 in
        let b = o.1 in
        let other = says_opposite node a b o.2 in
        let l = leads a b o.2 b a other in
        shown_more nodes whys so (opposite_node node) b a w other (record {
          walk = l.walk;
          ends = l.ends;
          begins = inl l.begins;
          new = λ h. elim h [
            | inl i ↦
                let m = shown_node nodes (length nodes) whys so (omega arith) b a i in
                fresh (subst (Contains nodes) (same_node posed.graph m.1 (opposite_node node) b a m.4 other) (Contains-from_has nodes m.1 (m.0, m.3)))
            | inr i ↦
                let m = shown_node nodes (length nodes) whys so (omega arith) a b i in
                let same = same_node posed.graph m.1 node a b m.4 o.2 in
                one_way s node below back (subst (λ v. Reaches posed.formula.net.arcs (opposite_node v) v) same (forced m.1 (Contains-from_has nodes m.1 (m.0, m.3))))
          ];
        })

    module _ (partners : HasPartners posed.formula.net.arcs) where
      forced_push : (nodes : List ℕ) (n : ℕ) → AreForced posed nodes → Reaches posed.formula.net.arcs (opposite_node n) n → AreForced posed (nodes ++ n ∷ [])
      forced_push nodes n forced r m h = elim (Contains-one_more nodes n m h) [ inl was ↦ forced m was | inr is ↦ subst (λ v. Reaches posed.formula.net.arcs (opposite_node v) v) (sym is) r ]

      -- what an order leads to follows from its own opposite too
      forced_along : (nodes : List ℕ) → AreForced posed nodes → (tail head arc : ℕ) → Contains nodes tail → IsArc posed.formula.net.arcs arc tail head →
          Reaches posed.formula.net.arcs (opposite_node head) head
      forced_along nodes forced tail head arc h is = reaches_trans (along here (partners tail head (arc, is))) (along (forced tail h) (arc, is))

      pub showing_head : {old new : Shown} (is_new : Bool) (arc head a b : ℕ) → IsShowing posed old → head < posed.formula.net.nodes → IsTail posed arc head old.nodes.items a b →
          new.nodes.count ≡ old.nodes.count → IsTrue is_new → IsAdded head is_new old.nodes.items new.nodes.items →
          ((w : Walk) × (new.whys ≡ old.whys ++ w ∷ []) × LeadsAlongArc posed arc head a b w) → IsShowing posed new
      showing_head {old} {new} is_new arc head a b so below tail count t (inr added) walk = absurd (false≢true (sym added.0 ∙ t))
      showing_head {old} {new} is_new arc head a b so below tail count t (inl added) walk =
          let nodes = old.nodes.items in
          let by_itself = forced_along nodes so.forced tail.0 head arc tail.2 tail.1 in
          record {
            count = count ∙ so.count;
            forced = subst (AreForced posed) (sym added.2) (forced_push nodes head so.forced by_itself);
            walks = subst (λ l. AreShown posed l (length l) new.whys) (sym added.2) (subst (AreShown posed (nodes ++ head ∷ []) (length (nodes ++ head ∷ []))) (sym walk.1)
                (shown_head nodes old.whys arc head a b walk.0 below so.forced by_itself so.walks tail added.1 walk.2));
          }

      pub showing_first : {old new : Shown} (is_new : Bool) (node : ℕ) (w : Walk) → IsShowing posed old → node < posed.formula.net.nodes → new.nodes.count ≡ old.nodes.count →
          (Contains old.nodes.items (opposite_node node) → ⊥) → IsAdded (opposite_node node) is_new old.nodes.items new.nodes.items → Reaches posed.formula.net.arcs node (opposite_node node) →
          new.whys ≡ old.whys ++ w ∷ [] → LeadsBack posed node w → IsShowing posed new
      showing_first {old} {new} is_new node w so below count fresh (inr added) back walk leads = absurd (fresh added.1)
      showing_first {old} {new} is_new node w so below count fresh (inl added) back walk leads =
          let nodes = old.nodes.items in
          record {
            count = count ∙ so.count;
            forced = subst (AreForced posed) (sym added.2) (forced_push nodes (opposite_node node) so.forced
                (subst (λ v. Reaches posed.formula.net.arcs v (opposite_node node)) (sym (opposite_node_twice node)) back));
            walks = subst (λ l. AreShown posed l (length l) new.whys) (sym added.2) (subst (AreShown posed (nodes ++ opposite_node node ∷ []) (length (nodes ++ opposite_node node ∷ []))) (sym walk)
                (shown_first nodes old.whys node w below so.forced so.walks fresh back leads));
          }

-- an order that is shown already changes nothing
pub showing_same : (posed : Posed) {old new : Shown} (is_new : Bool) (head : ℕ) → IsShowing posed old → new.nodes.count ≡ old.nodes.count → IsFalse is_new →
    IsAdded head is_new old.nodes.items new.nodes.items → new.whys ≡ old.whys → IsShowing posed new
showing_same posed {old} {new} is_new head so count t (inl added) same = absurd (false≢true (sym t ∙ added.0))
showing_same posed {old} {new} is_new head so count t (inr added) same = record {
  count = count ∙ so.count;
  forced = subst (AreForced posed) (sym added.2) so.forced;
  walks = subst (λ l. AreShown posed l (length l) new.whys) (sym added.2) (subst (AreShown posed old.nodes.items (length old.nodes.items)) (sym same) so.walks);
}

-- ---- what follows from the first of the orders that are shown

module _ (posed : Posed) where
  -- of those that were shown before
  pub closed_to : (old new : List ℕ) (upto : ℕ) → IsClosed posed.formula.net.arcs [] old → Stays old new → upto ≡ length old → AreClosedTo posed upto new
  closed_to old new upto closed stays is k x y lt at arc =
      let was = slice_get-some old k (omega (arith, lt, is)) in
      let same : was.0 ≡ x = same_Some was.0 x (sym (stays k was.0 was.1) ∙ at) in
      elim (closed x y (subst (Contains old) same (Contains-from_has old was.0 (k, was.1))) arc) [ inl h ↦ stays_contained old new stays y h | inr h ↦ absurd (nothing h) ]

  pub closed_next : (old new : List ℕ) (at tail : ℕ) → AreClosedTo posed at old → slice_get old at ≡ Some tail → Stays old new → ((y : ℕ) → HasArc posed.formula.net.arcs tail y → Contains new y) →
      AreClosedTo posed (at + 1) new
  closed_next old new at tail so is stays heads k x y lt at-k arc =
      let here_lt = slice_get_within old at tail is in
      let was = slice_get-some old k (omega (arith, lt, here_lt)) in
      let same : was.0 ≡ x = same_Some was.0 x (sym (stays k was.0 was.1) ∙ at-k) in
      elim (cases_lt k at) [
        | inl less ↦ stays_contained old new stays y (so k x y less (was.1 ∙ ap (λ (v : ℕ). Some v) same) arc)
        | inr le ↦
            let here_k : at ≡ k = omega (arith, lt, le) in
            let tail_is : tail ≡ x = same_Some tail x (sym (stays at tail is) ∙ ap (slice_get new) here_k ∙ at-k) in
            heads y (subst (λ n. HasArc posed.formula.net.arcs n y) (sym tail_is) arc)
      ]

  pub closed_all : (nodes : List ℕ) (at : ℕ) → AreClosedTo posed at nodes → length nodes ≤ at → IsClosed posed.formula.net.arcs [] nodes
  closed_all nodes at so le x y h arc =
      let has = has-from_Contains nodes x h in
      let lt = slice_get_within nodes has.0 x has.1 in
      inl (so has.0 x y (omega (arith, lt, le)) has.1 arc)
