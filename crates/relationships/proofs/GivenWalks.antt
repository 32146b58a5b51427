-- Walks whose links may name a given are walks over the returns of the givens.
use Rattle.std.proofs.Common.{◌≡◌, ◌≢◌, ◌↔◌, ℕ, zero, suc, ◌+◌, ◌-◌, ◌<◌, ◌≤◌, ◌⊎◌, inl, inr, true, List, [], ◌∷◌, ◌++◌, length, get_or, map, Bool, Option, Some, None, option_map, lt-ltb, le-ltb}
use Rattle.std.proofs.Common.{is_none, refl, sym, ap, ap₂, ◌∙◌, subst, arith, append_assoc, append-nil, All, Contains, IsTrue}
use Rattle.std.specs.List.{list_any, AllByRecursion}
use Rattle.std.proofs.lemmas.Bool.{cases_Bool, false≢true}
use Rattle.std.proofs.lemmas.Option.{get_or_from_slice_get, slice_get_within}
use Rattle.std.proofs.lemmas.List.{length-map, map-append}
use Rattle.std.proofs.lemmas.List.Elements.{All-append, All-weaker, All-from_recursion, recursion_from_All, Contains-append_left, Contains-append_right, Contains-append_cases}
use Rattle.tor_arena.proofs.Gets.{Contains-map}
use Rattle.relationships.specs.declared.given.Given.{Given}
use Rattle.relationships.specs.declared.label.Label.{Label}
use Rattle.relationships.specs.declared.walk.Link.{Link}
use Rattle.relationships.specs.declared.walk.Walk.{Walk}
use Rattle.relationships.specs.Relationship.{Labelling, ValleyFree, Serves}
use Rattle.relationships.specs.Graph.{Edge, edge_of, is_same, edges}
use Rattle.relationships.proofs.Edges.{same_edge}
use Rattle.relationships.specs.Evidence.{StandAt, TripleAt, IsTriple, NeighboursDiffer, Numbered, paths_of, kept_from, Fits, IsLinked, Refutes, Shows, ShowFrom, Closure, start, imply}
use Rattle.relationships.specs.Selection.{KeepsFrom, IsForced}
use Rattle.relationships.specs.Checking.{LostFrom, kept_of, Claim, OtherOrder, IsBorneOut, ProbesFrom, MarksHold, claimed_labels}
use Rattle.relationships.specs.Givens.{names_edge, return_of, returns, NameTwo, IsReturn}
use Rattle.relationships.specs.GivenEvidence.{given_link, with_given_links, AreReturnRows, AreUpTo, FitsGiven, FitsWith, IsLinkedWith, RefutesWith, ShowFromWith, LostFromWith, served_with}
use Rattle.relationships.specs.GivenEvidence.{MarksHoldWith}
use Rattle.relationships.specs.Laws.GivenEvidence.{GivenLinksLaw, GivenMarksLaw, NoGivensLaw, GivenWalksLaw, GivenRulesLaw, SameClosureLaw}
use Rattle.relationships.proofs.WalkLemmas.{refuting_law, showing_law}
use Rattle.relationships.proofs.Checked.{label_of_claim, rules_behind}
use Rattle.relationships.proofs.Neighbours.{neighbours-edge}
use Rattle.relationships.proofs.GivenLemmas.{all_parts, edge_back, any_there, return_differs, three_on, triple_split, triple_of_return, triple_of_some}

-- ---- nothing is given

module _ (A : Numbered) where
  fits_none : (link : Link) (x y z : ℕ) → FitsWith [] A link x y z → Fits A link x y z
  fits_none link x y z (inl r) = let e = r.named.1 in absurd (cc e)
  fits_none link x y z (inr f) = f

  linked_none : (ases : List ℕ) (links : List Link) → IsLinkedWith [] A ases links → IsLinked A ases links
  linked_none [] links h = absurd h
  linked_none (x ∷ []) links h = absurd h
  linked_none (x ∷ y ∷ []) [] h = tt
  linked_none (x ∷ y ∷ []) (link ∷ links) h = absurd h
  linked_none (x ∷ y ∷ z ∷ ases) [] h = absurd h
  linked_none (x ∷ y ∷ z ∷ ases) (link ∷ links) h = (fits_none link x y z h.0, linked_none (y ∷ z ∷ ases) links h.1)

  none_linked : (ases : List ℕ) (links : List Link) → IsLinked A ases links → IsLinkedWith [] A ases links
  none_linked [] links h = absurd h
  none_linked (x ∷ []) links h = absurd h
  none_linked (x ∷ y ∷ []) [] h = tt
  none_linked (x ∷ y ∷ []) (link ∷ links) h = absurd h
  none_linked (x ∷ y ∷ z ∷ ases) [] h = absurd h
  none_linked (x ∷ y ∷ z ∷ ases) (link ∷ links) h = (inr h.0, none_linked (y ∷ z ∷ ases) links h.1)

  refutes_none : (w : Walk) → RefutesWith [] A w → Refutes A w
  refutes_none w r = record { x = r.x; y = r.y; two = r.two; walk = linked_none w.ases w.links r.walk; begins = r.begins; flips = r.flips; ends = r.ends }

  none_refutes : (w : Walk) → Refutes A w → RefutesWith [] A w
  none_refutes w r = record { x = r.x; y = r.y; two = r.two; walk = none_linked w.ases w.links r.walk; begins = r.begins; flips = r.flips; ends = r.ends }

  show_none : (shown : List (ℕ × ℕ)) (walks : List Walk) (orders : List (ℕ × ℕ)) → ShowFromWith [] A shown walks orders → ShowFrom A shown walks orders
  show_none shown [] [] h = tt
  show_none shown [] (p ∷ orders) h = absurd h
  show_none shown (w ∷ walks) [] h = absurd h
  show_none shown (w ∷ walks) ((a, b) ∷ orders) h =
      (record { walk = linked_none w.ases w.links h.0.walk; ends = h.0.ends; begins = h.0.begins; new = h.0.new }, show_none (shown ++ (a, b) ∷ []) walks orders h.1)

  none_show : (shown : List (ℕ × ℕ)) (walks : List Walk) (orders : List (ℕ × ℕ)) → ShowFrom A shown walks orders → ShowFromWith [] A shown walks orders
  none_show shown [] [] h = tt
  none_show shown [] (p ∷ orders) h = absurd h
  none_show shown (w ∷ walks) [] h = absurd h
  none_show shown (w ∷ walks) ((a, b) ∷ orders) h =
      (record { walk = none_linked w.ases w.links h.0.walk; ends = h.0.ends; begins = h.0.begins; new = h.0.new }, none_show (shown ++ (a, b) ∷ []) walks orders h.1)

lost_none : (n : ℕ) (A : Numbered) (paths : List (List ℕ)) (walks : List (Option Walk)) → LostFromWith [] n A paths walks → LostFrom n A paths walks
lost_none n A [] [] h = tt
lost_none n A [] (w ∷ walks) h = absurd h
lost_none n A (path ∷ paths) [] h = absurd h
lost_none n A (path ∷ paths) (None ∷ walks) h = lost_none (n + 1) (A ++ (n, path) ∷ []) paths walks h
lost_none n A (path ∷ paths) (Some w ∷ walks) h = (refutes_none (A ++ (n, path) ∷ []) w h.0, lost_none (n + 1) A paths walks h.1)

none_lost : (n : ℕ) (A : Numbered) (paths : List (List ℕ)) (walks : List (Option Walk)) → LostFrom n A paths walks → LostFromWith [] n A paths walks
none_lost n A [] [] h = tt
none_lost n A [] (w ∷ walks) h = absurd h
none_lost n A (path ∷ paths) [] h = absurd h
none_lost n A (path ∷ paths) (None ∷ walks) h = none_lost (n + 1) (A ++ (n, path) ∷ []) paths walks h
none_lost n A (path ∷ paths) (Some w ∷ walks) h = (none_refutes (A ++ (n, path) ∷ []) w h.0, none_lost (n + 1) A paths walks h.1)

marks_none : (kept : Numbered) (claims : List Claim) (whys : List Walk) (probes : List (ℕ × ℕ)) →
    MarksHoldWith [] kept claims whys probes → MarksHold kept claims whys probes
marks_none kept claims whys probes h =
    record { orders = h.orders; shown = show_none kept [] whys h.orders h.shown; marks = h.marks; probes_serve = h.probes_serve }

none_marks : (kept : Numbered) (claims : List Claim) (whys : List Walk) (probes : List (ℕ × ℕ)) →
    MarksHold kept claims whys probes → MarksHoldWith [] kept claims whys probes
none_marks kept claims whys probes h =
    record { orders = h.orders; shown = none_show kept [] whys h.orders h.shown; marks = h.marks; probes_serve = h.probes_serve }

pub no_givens_law : NoGivensLaw
no_givens_law = (
  λ A w. (refutes_none A w, none_refutes A w),
  λ A walks orders. (show_none A [] walks orders, none_show A [] walks orders),
  λ n A paths walks. (lost_none n A paths walks, none_lost n A paths walks),
  λ kept claims whys probes. (marks_none kept claims whys probes, none_marks kept claims whys probes),
)

-- ---- the returns of all givens, under the number 0, in front of the paths

abbrev at_zero : Given → ℕ × List ℕ
at_zero g = (0, return_of g)

abbrev with_givens : List Given → Numbered → Numbered
with_givens givens A = map at_zero givens ++ A

zero_paths : (givens : List Given) → paths_of (map at_zero givens) ≡ map return_of givens
zero_paths [] = refl
zero_paths (g ∷ givens) = ap (λ (l : List (List ℕ)). return_of g ∷ l) (zero_paths givens)

served_same : (givens : List Given) (A : Numbered) → paths_of (with_givens givens A) ≡ served_with givens (paths_of A)
served_same givens A =
    map-append (λ (p : ℕ × List ℕ). p.1) (map at_zero givens) A ∙ ap (λ (l : List (List ℕ)). l ++ paths_of A) (zero_paths givens)

stand_on : (g : Given) (x y z : ℕ) → x ≡ g.under → y ≡ g.over → z ≡ g.under → StandAt (return_of g) 2 x y z
stand_on g x y z e f h = record {
  before = [];
  after = [];
  whole = ap (λ n. n ∷ g.over ∷ g.under ∷ []) (sym e) ∙ ap (λ n. x ∷ n ∷ g.under ∷ []) (sym f) ∙ ap (λ n. x ∷ y ∷ n ∷ []) (sym h);
  place = refl;
}

module _ (givens : List Given) where
  module _ (A : Numbered) where
    fits_back : (link : Link) (x y z : ℕ) → FitsWith givens A link x y z → (other : Link) × Fits (with_givens givens A) other x y z
    fits_back link x y z (inl r) =
        let g = r.given in
        let at = r.named.1 in
        let there : Contains givens g = (link.at - 1, slice_get_within givens (link.at - 1) g at, get_or_from_slice_get givens (link.at - 1) g g at) in
        let own = Contains-append_left (map at_zero givens) A (at_zero g) (Contains-map at_zero givens g there) in
        (record { path = 0; at = 2 }, (return_of g, own, inl (stand_on g x y z r.first r.second r.third)))
    fits_back link x y z (inr f) = (link, (f.0, Contains-append_right (map at_zero givens) A (link.path, f.0) f.1, f.2))

    linked_back : (ases : List ℕ) (links : List Link) → IsLinkedWith givens A ases links → (others : List Link) × IsLinked (with_givens givens A) ases others
    linked_back [] links h = absurd h
    linked_back (x ∷ []) links h = absurd h
    linked_back (x ∷ y ∷ []) [] h = ([], tt)
    linked_back (x ∷ y ∷ []) (link ∷ links) h = absurd h
    linked_back (x ∷ y ∷ z ∷ ases) [] h = absurd h
    linked_back (x ∷ y ∷ z ∷ ases) (link ∷ links) h =
        let f = fits_back link x y z h.0 in let r = linked_back (y ∷ z ∷ ases) links h.1 in (f.0 ∷ r.0, (f.1, r.1))

    refutes_back : (w : Walk) → RefutesWith givens A w → (other : Walk) × Refutes (with_givens givens A) other
    refutes_back w r =
        let l = linked_back w.ases w.links r.walk in
        (record { ases = w.ases; links = l.0 }, record { x = r.x; y = r.y; two = r.two; walk = l.1; begins = r.begins; flips = r.flips; ends = r.ends })

    shows_back : (shown : List (ℕ × ℕ)) (walks : List Walk) (orders : List (ℕ × ℕ)) → ShowFromWith givens A shown walks orders →
        (others : List Walk) × ShowFrom (with_givens givens A) shown others orders
    shows_back shown [] [] h = ([], tt)
    shows_back shown [] (p ∷ orders) h = absurd h
    shows_back shown (w ∷ walks) [] h = absurd h
    shows_back shown (w ∷ walks) ((a, b) ∷ orders) h =
        let l = linked_back w.ases w.links h.0.walk in
        let r = shows_back (shown ++ (a, b) ∷ []) walks orders h.1 in
        let other : Walk = record { ases = w.ases; links = l.0 } in
        let one : Shows (with_givens givens A) shown other a b = record { walk = l.1; ends = h.0.ends; begins = h.0.begins; new = h.0.new } in
        (other ∷ r.0, (one, r.1))

    pub marks_back : (claims : List Claim) (whys : List Walk) (probes : List (ℕ × ℕ)) → MarksHoldWith givens A claims whys probes →
        (others : List Walk) × MarksHold (with_givens givens A) claims others probes
    marks_back claims whys probes m =
        let s = shows_back [] whys m.orders m.shown in
        let same = sym (served_same givens A) in (
          s.0,
          record {
            orders = m.orders;
            shown = s.1;
            marks = subst (λ ps. All (IsBorneOut ps m.orders probes) claims) same m.marks;
            probes_serve = subst (λ ps. ProbesFrom ps claims [] probes) same m.probes_serve;
          },
        )

  lost_back : (n : ℕ) (A : Numbered) (paths : List (List ℕ)) (walks : List (Option Walk)) → LostFromWith givens n A paths walks →
      (others : List (Option Walk)) × (map is_none others ≡ map is_none walks) × LostFrom n (with_givens givens A) paths others
  lost_back n A [] [] h = ([], refl, tt)
  lost_back n A [] (w ∷ walks) h = absurd h
  lost_back n A (path ∷ paths) [] h = absurd h
  lost_back n A (path ∷ paths) (None ∷ walks) h =
      let r = lost_back (n + 1) (A ++ (n, path) ∷ []) paths walks h in
      (None ∷ r.0, ap (λ (l : List Bool). true ∷ l) r.1, subst (λ (B : Numbered). LostFrom (n + 1) B paths r.0) (sym (append_assoc (map at_zero givens) A ((n, path) ∷ []))) r.2)
  lost_back n A (path ∷ paths) (Some w ∷ walks) h =
      let one = refutes_back (A ++ (n, path) ∷ []) w h.0 in
      let r = lost_back (n + 1) A paths walks h.1 in (
        Some one.0 ∷ r.0,
        ap (λ (l : List Bool). is_none (Some w) ∷ l) r.1,
        (subst (λ (B : Numbered). Refutes B one.0) (sym (append_assoc (map at_zero givens) A ((n, path) ∷ []))) one.1, r.2),
      )

all_returns_differ : (givens : List Given) → AllByRecursion (λ g. g.over ≢ g.under) givens → AllByRecursion NeighboursDiffer (map return_of givens)
all_returns_differ [] h = tt
all_returns_differ (g ∷ givens) h = (return_differs g h.0, all_returns_differ givens h.1)

served_differ : (givens : List Given) (A : Numbered) → NameTwo givens → All NeighboursDiffer (paths_of A) → All NeighboursDiffer (paths_of (with_givens givens A))
served_differ givens A two apart =
    subst (All NeighboursDiffer) (sym (served_same givens A))
    (All-append NeighboursDiffer (map return_of givens) (paths_of A)
    (All-from_recursion NeighboursDiffer (map return_of givens) (all_returns_differ givens (recursion_from_All (λ g. g.over ≢ g.under) givens two))) apart)

pub given_walks_law : GivenWalksLaw
given_walks_law givens A = (
  (λ w r O serves.
      let b = refutes_back givens A w r in refuting_law (with_givens givens A) b.0 b.1 O (subst (Serves O) (sym (served_same givens A)) serves)),
  (λ walks orders two apart h O serves a b ne c.
      let s = shows_back givens A [] walks orders h in
      showing_law (with_givens givens A) s.0 orders (served_differ givens A two apart) s.1 O (subst (Serves O) (sym (served_same givens A)) serves) a b ne c),
)

-- ---- the rules

-- what meets the rules with givens, where labels that say what the claims say agree with all givens
pub rules_with : (L : Labelling) (givens : List Given) (paths : List (List ℕ)) (walks : List (Option Walk)) (claims : List Claim) (whys : List Walk) (probes : List (ℕ × ℕ)) →
    NameTwo givens → All NeighboursDiffer paths → LostFromWith givens 1 [] paths walks → map (λ (c : Claim). (c.low, c.high)) claims ≡ edges paths →
    All (ValleyFree L) (served_with givens (paths_of (kept_of paths walks))) → MarksHoldWith givens (kept_of paths walks) claims whys probes →
    ((c : Claim) → Contains claims c → L c.low c.high ≡ c.label) →
    KeepsFrom (map return_of givens) paths (map is_none walks) ×
    ((c : Claim) → Contains claims c → IsTrue c.forced ↔ IsForced (served_with givens (paths_of (kept_of paths walks))) c.low c.high) ×
    ((c : Claim) → Contains claims c → IsTrue c.forced → c.label ≢ Label.Peer)
rules_with L givens paths walks claims whys probes two differ lost each free marks says = (
  subst (λ ps. KeepsFrom ps paths (map is_none walks)) (zero_paths givens) (subst (λ flags. KeepsFrom (paths_of begun) paths flags) found.1 all.0),
  λ c i. subst (λ ps. IsTrue c.forced ↔ IsForced ps c.low c.high) served (all.1 c i),
  all.2,
)
  where
    begun : Numbered
    begun = map at_zero givens

    found : (others : List (Option Walk)) × (map is_none others ≡ map is_none walks) × LostFrom 1 begun paths others
    found =
        let r = lost_back givens 1 [] paths walks lost in (r.0, r.1, subst (λ (B : Numbered). LostFrom 1 B paths r.0) (append-nil begun) r.2)

    -- the same paths are kept
    same : kept_of paths found.0 ≡ kept_of paths walks
    same = ap (kept_from 1 paths) found.1

    served : paths_of (begun ++ kept_of paths found.0) ≡ served_with givens (paths_of (kept_of paths walks))
    served = ap (λ (K : Numbered). paths_of (begun ++ K)) same ∙ served_same givens (kept_of paths walks)

    parts : All (ValleyFree L) (map return_of givens) × All (ValleyFree L) (paths_of (kept_of paths walks))
    parts = all_parts (ValleyFree L) (map return_of givens) (paths_of (kept_of paths walks)) free

    back : (others : List Walk) × MarksHold (begun ++ kept_of paths walks) claims others probes
    back = marks_back givens (kept_of paths walks) claims whys probes marks

    all : KeepsFrom (paths_of begun) paths (map is_none found.0) ×
        ((c : Claim) → Contains claims c → IsTrue c.forced ↔ IsForced (paths_of (begun ++ kept_of paths found.0)) c.low c.high) ×
        ((c : Claim) → Contains claims c → IsTrue c.forced → c.label ≢ Label.Peer)
    all =
        rules_behind L begun paths found.0 claims back.0 probes
        (subst (All NeighboursDiffer) (sym (zero_paths givens))
        (All-from_recursion NeighboursDiffer (map return_of givens) (all_returns_differ givens (recursion_from_All (λ g. g.over ≢ g.under) givens two))))
        differ found.2 each
        (subst (All (ValleyFree L)) (sym (zero_paths givens)) parts.0)
        (subst (λ (K : Numbered). All (ValleyFree L) (paths_of K)) (sym same) parts.1)
        (subst (λ (K : Numbered). MarksHold (begun ++ K) claims back.0 probes) (sym same) back.1) says

pub given_rules_law : GivenRulesLaw
given_rules_law givens paths walks claims whys probes a =
    rules_with (claimed_labels claims) givens paths walks claims whys probes a.two a.neighbours_differ a.lost a.each_edge a.valley_free a.marks
    (label_of_claim paths claims a.each_edge)

-- ---- closures that begin with an edge

given_in : (givens : List Given) (path : List ℕ) → Contains (map return_of givens) path → (g : Given) × Contains givens g × (path ≡ return_of g)
given_in givens path c =
    let many = length-map givens return_of in
    let lt = c.1 in
    let within : c.0 < length givens = omega (arith, many, lt) in
    go givens c.0 within (c.2)
  where
    go : (gs : List Given) (k : ℕ) → k < length gs → get_or (map return_of gs) k path ≡ path → (g : Given) × Contains gs g × (path ≡ return_of g)
    go [] k lt e = absurd (omega (arith, lt))
    go (g ∷ gs) zero lt e = (g, (0, omega arith, refl), sym e)
    go (g ∷ gs) (suc k) lt e = let r = go gs k (omega (arith, lt)) e in (r.0, Contains-append_right (g ∷ []) gs r.0 r.1, r.2)

module _ (givens : List Given) (paths some : List (List ℕ)) (among : (e : Edge) → Contains (edges some) e → Contains (edges paths) e) where
  pair_edge : (x y z : ℕ) → IsTriple some x y z → Contains (edges paths) (edge_of y z)
  pair_edge x y z (path, c, (at, inl s)) =
      among (edge_of y z) (neighbours-edge some y z (path, c, (s.before ++ x ∷ [], s.after, s.whole ∙ sym (append_assoc s.before (x ∷ []) (y ∷ z ∷ s.after)))))
  pair_edge x y z (path, c, (at, inr s)) =
      subst (Contains (edges paths)) (edge_back z y) (among (edge_of z y) (neighbours-edge some z y (path, c, (s.before, x ∷ s.after, s.whole))))

  to_all : (a b : ℕ) {y z : ℕ} → Closure (returns paths givens ++ some) a b y z → Closure (served_with givens some) a b y z
  to_all a b start = start
  to_all a b (imply {x = x} {y = y} {z = z} c t) = imply (to_all a b c) (wide (triple_split givens paths some x y z t))
    where
      wide : IsReturn paths givens x y z ⊎ IsTriple some x y z → IsTriple (served_with givens some) x y z
      wide (inl r) = (
        return_of r.given,
        Contains-append_left (map return_of givens) some (return_of r.given) (Contains-map return_of givens r.given r.there),
        (2, inl (stand_on r.given x y z r.first r.second r.third)),
      )
      wide (inr u) = (u.0, Contains-append_right (map return_of givens) some u.0 u.1, u.2)

  from_all : (a b : ℕ) → Contains (edges paths) (edge_of a b) → {y z : ℕ} → Closure (served_with givens some) a b y z →
      Closure (returns paths givens ++ some) a b y z × Contains (edges paths) (edge_of y z)
  from_all a b edge start = (start, edge)
  from_all a b edge (imply {x = x} {y = y} {z = z} c (path, h, (at, t))) =
      elim (Contains-append_cases (map return_of givens) some path h) [
        | inl i ↦ (
            let (g, there, e) = given_in givens path i in
            let three = three_on g.under g.over at x y z (subst (λ p. TripleAt p at x y z) e t) in
            let before = from_all a b edge c in
            let here : Contains (edges paths) (edge_of g.over g.under) =
            subst (Contains (edges paths)) (ap₂ edge_of three.0 three.1 ∙ edge_back g.under g.over) before.1 in
            let named : names_edge paths g ≡ true = any_there (edges paths) (edge_of g.over g.under) here in (
              imply before.0 (triple_of_return givens paths some x y z (record { given = g; there = there; named = named; first = three.0; second = three.1; third = three.2 })),
              subst (Contains (edges paths)) (ap₂ edge_of (sym three.1) (sym three.2)) here,
            )
            )
        | inr i ↦ (imply (from_all a b edge c).0 (triple_of_some givens paths some x y z (path, i, (at, t))), pair_edge x y z (path, i, (at, t)))
      ]

pub same_closure_law : SameClosureLaw
same_closure_law givens paths some a b among edge = (
  λ y z. (to_all givens paths some among a b, λ c. (from_all givens paths some among a b edge c).0),
  (
    (λ near y z c d. near y z (from_all givens paths some among a b edge c).0 (from_all givens paths some among a b edge d).0),
    (λ far y z c d. far y z (to_all givens paths some among a b c) (to_all givens paths some among a b d)),
  ),
)

-- ---- links into rows of returns

module _ (givens : List Given) (n : ℕ) (numbers : List ℕ) (rows : Numbered) (are : AreReturnRows givens n numbers rows) where
  into_row : (link : Link) → n < link.path → given_link n numbers link ≡ record { path = 0; at = get_or numbers (link.path - (n + 1)) 0 }
  into_row link lt = rw (lt-ltb n link.path lt) refl

  into_path : (link : Link) → link.path ≤ n → given_link n numbers link ≡ link
  into_path link le = rw (le-ltb n link.path le) refl

  module _ (A : Numbered) (below : AreUpTo n A) where
    fits_on : (link : Link) (x y z : ℕ) → Fits (rows ++ A) link x y z → FitsWith givens A (given_link n numbers link) x y z
    fits_on link x y z (path, c, t) =
        elim (Contains-append_cases rows A (link.path, path) c) [
          | inl i ↦ (
              let (lt, (g, named, e)) = are link.path path i in
              let three = three_on g.under g.over link.at x y z (subst (λ p. TripleAt p link.at x y z) e t) in
              let fits : FitsGiven givens (record { path = 0; at = get_or numbers (link.path - (n + 1)) 0 }) x y z =
              record { apart = refl; given = g; named = named; first = three.0; second = three.1; third = three.2 } in
              subst (λ (l : Link). FitsWith givens A l x y z) (sym (into_row link lt)) (inl fits)
              )
          | inr i ↦ subst (λ (l : Link). FitsWith givens A l x y z) (sym (into_path link (below link.path path i))) (inr (path, i, t))
        ]

    linked_on : (ases : List ℕ) (links : List Link) → IsLinked (rows ++ A) ases links → IsLinkedWith givens A ases (map (given_link n numbers) links)
    linked_on [] links h = absurd h
    linked_on (x ∷ []) links h = absurd h
    linked_on (x ∷ y ∷ []) [] h = tt
    linked_on (x ∷ y ∷ []) (link ∷ links) h = absurd h
    linked_on (x ∷ y ∷ z ∷ ases) [] h = absurd h
    linked_on (x ∷ y ∷ z ∷ ases) (link ∷ links) h = (fits_on link x y z h.0, linked_on (y ∷ z ∷ ases) links h.1)

    refutes_on : (w : Walk) → Refutes (rows ++ A) w → RefutesWith givens A (with_given_links n numbers w)
    refutes_on w r = record { x = r.x; y = r.y; two = r.two; walk = linked_on w.ases w.links r.walk; begins = r.begins; flips = r.flips; ends = r.ends }

    show_on : (shown : List (ℕ × ℕ)) (walks : List Walk) (orders : List (ℕ × ℕ)) → ShowFrom (rows ++ A) shown walks orders →
        ShowFromWith givens A shown (map (with_given_links n numbers) walks) orders
    show_on shown [] [] h = tt
    show_on shown [] (p ∷ orders) h = absurd h
    show_on shown (w ∷ walks) [] h = absurd h
    show_on shown (w ∷ walks) ((a, b) ∷ orders) h =
        (record { walk = linked_on w.ases w.links h.0.walk; ends = h.0.ends; begins = h.0.begins; new = h.0.new }, show_on (shown ++ (a, b) ∷ []) walks orders h.1)

  up_to_more : (A : Numbered) (m : ℕ) (path : List ℕ) → m ≤ n → AreUpTo n A → AreUpTo n (A ++ (m, path) ∷ [])
  up_to_more A m path le below k p c =
      elim (Contains-append_cases A ((m, path) ∷ []) (k, p) c) [
        | inl i ↦ below k p i
        | inr i ↦ only i
      ]
    where
      only : Contains {X = ℕ × List ℕ} ((m, path) ∷ []) (k, p) → k ≤ n
      only (zero, lt, e) = let same : m ≡ k = ap (λ (q : ℕ × List ℕ). q.0) e in omega (arith, same, le)
      only (suc j, lt, e) = absurd (omega (arith, lt))

  lost_on : (m : ℕ) (A : Numbered) (paths : List (List ℕ)) (walks : List (Option Walk)) → AreUpTo n A → m + length paths ≤ n + 1 → LostFrom m (rows ++ A) paths walks →
      LostFromWith givens m A paths (map (option_map (with_given_links n numbers)) walks)
  lost_on m A [] [] below le h = tt
  lost_on m A [] (w ∷ walks) below le h = absurd h
  lost_on m A (path ∷ paths) [] below le h = absurd h
  lost_on m A (path ∷ paths) (None ∷ walks) below le h =
      lost_on (m + 1) (A ++ (m, path) ∷ []) paths walks (up_to_more A m path (omega (arith, le)) below) (omega (arith, le))
      (subst (λ (B : Numbered). LostFrom (m + 1) B paths walks) (append_assoc rows A ((m, path) ∷ [])) h)
  lost_on m A (path ∷ paths) (Some w ∷ walks) below le h = (
    refutes_on (A ++ (m, path) ∷ []) (up_to_more A m path (omega (arith, le)) below) w (subst (λ (B : Numbered). Refutes B w) (append_assoc rows A ((m, path) ∷ [])) h.0),
    lost_on (m + 1) A paths walks below (omega (arith, le)) h.1,
  )

pub given_links_law : GivenLinksLaw
given_links_law givens n numbers rows are = (
  λ A walks orders below h. show_on givens n numbers rows are A below [] walks orders h,
  λ paths walks few h.
      lost_on givens n numbers rows are 1 [] paths walks (λ m path c. nothing m path c) (omega (arith, few)) (subst (λ (B : Numbered). LostFrom 1 B paths walks) (sym (append-nil rows)) h),
)
  where
    nothing : (m : ℕ) (path : List ℕ) → Contains {X = ℕ × List ℕ} [] (m, path) → m ≤ n
    nothing m path c = let lt = c.1 in absurd (omega (arith, lt))

-- ---- marks over rows of returns

pub any_contains : (fs : List Edge) (e : Edge) → list_any (is_same e) fs ≡ true → Contains fs e
any_contains [] e h = absurd (false≢true h)
any_contains (f ∷ fs) e h =
    elim (cases_Bool (is_same e f)) [
      | inl t ↦ (0, omega arith, sym (same_edge e f t))
      | inr n ↦ let c = any_contains fs e (rw n at h) in Contains-append_right (f ∷ []) fs e c
    ]

-- a closure that holds more than its start begins with a triple
closure_first : (served : List (List ℕ)) (a b : ℕ) {y z : ℕ} → Closure served a b y z → ((a ≡ y) × (b ≡ z)) ⊎ ((w : ℕ) × IsTriple served a b w)
closure_first served a b start = inl (refl, refl)
closure_first served a b (imply {x = x} {y = y} {z = z} c t) =
    elim (closure_first served a b c) [
      | inl e ↦ inr (z, subst (λ v. IsTriple served v b z) (sym e.0) (subst (λ v. IsTriple served x v z) (sym e.1) t))
      | inr h ↦ inr h
    ]

module _ (givens : List Given) (paths some : List (List ℕ)) (among : (e : Edge) → Contains (edges some) e → Contains (edges paths) e)
    (claims : List Claim) (on_edges : (c : Claim) → Contains claims c → Contains (edges paths) (edge_of c.low c.high)) where
  abbrev near : List (List ℕ)
  near = returns paths givens ++ some

  abbrev far : List (List ℕ)
  far = served_with givens some

  abbrev OnEdge : ℕ × ℕ → Type 0
  OnEdge p = Contains (edges paths) (edge_of p.0 p.1)

  first_pair : (x y z : ℕ) → IsTriple near x y z → OnEdge (x, y)
  first_pair x y z t =
      elim (triple_split givens paths some x y z t) [
        | inl r ↦ subst (Contains (edges paths)) (edge_back r.given.over r.given.under ∙ ap₂ edge_of (sym r.first) (sym r.second))
            (any_contains (edges paths) (edge_of r.given.over r.given.under) r.named)
        | inr u ↦ of_some u.0 u.1 u.2.0 u.2.1
      ]
    where
      of_some : (path : List ℕ) → Contains some path → (at : ℕ) → TripleAt path at x y z → OnEdge (x, y)
      of_some path c at (inl s) = among (edge_of x y) (neighbours-edge some x y (path, c, (s.before, z ∷ s.after, s.whole)))
      of_some path c at (inr s) =
          subst (Contains (edges paths)) (edge_back y x)
          (among (edge_of y x) (neighbours-edge some y x (path, c, (s.before ++ z ∷ [], s.after, s.whole ∙ sym (append_assoc s.before (z ∷ []) (y ∷ x ∷ s.after))))))

  -- the order of a claim is one of an edge
  other_on : (c : Claim) → Contains claims c → (over under : ℕ) → OtherOrder c over under → OnEdge (over, under)
  other_on c i over under (inl o) = subst (Contains (edges paths)) (edge_back c.low c.high ∙ ap₂ edge_of (sym o.1) (sym o.2)) (on_edges c i)
  other_on c i over under (inr o) = subst (Contains (edges paths)) (ap₂ edge_of (sym o.1) (sym o.2)) (on_edges c i)

  probe_on : (p : ℕ × ℕ) (over under : ℕ) → Closure near p.0 p.1 over under → OnEdge (over, under) → OnEdge p
  probe_on p over under c on =
      elim (closure_first near p.0 p.1 c) [
        | inl e ↦ subst (Contains (edges paths)) (ap₂ edge_of (sym e.0) (sym e.1)) on
        | inr h ↦ first_pair p.0 p.1 h.0 h.1
      ]

  near_far : (a b y z : ℕ) → Closure near a b y z → Closure far a b y z
  near_far a b y z c = to_all givens paths some among a b c

  far_near : (p : ℕ × ℕ) (y z : ℕ) → OnEdge p → Closure far p.0 p.1 y z → Closure near p.0 p.1 y z
  far_near p y z on c = (from_all givens paths some among p.0 p.1 on c).0

  borne_far : (orders probes : List (ℕ × ℕ)) (c : Claim) → IsBorneOut near orders probes c → IsBorneOut far orders probes c
  borne_far orders probes c (inl shown) = inl shown
  borne_far orders probes c (inr (inl peer)) = inr (inl peer)
  borne_far orders probes c (inr (inr (unforced, (over, under, other, (k, p, within, is, reached))))) =
      inr (inr (unforced, (over, under, other, (k, p, within, is, near_far p.0 p.1 over under reached))))

  none_far : (earlier : List (ℕ × ℕ)) (over under : ℕ) → AllByRecursion OnEdge earlier → AllByRecursion (λ (q : ℕ × ℕ). Closure near q.0 q.1 over under → ⊥) earlier →
      AllByRecursion (λ (q : ℕ × ℕ). Closure far q.0 q.1 over under → ⊥) earlier
  none_far [] over under on h = tt
  none_far (q ∷ earlier) over under on h = ((λ c. h.0 (far_near q over under on.0 c)), none_far earlier over under on.1 h.1)

  more_on : (earlier : List (ℕ × ℕ)) (p : ℕ × ℕ) → AllByRecursion OnEdge earlier → OnEdge p → AllByRecursion OnEdge (earlier ++ p ∷ [])
  more_on [] p h on = (on, tt)
  more_on (q ∷ earlier) p h on = (h.0, more_on earlier p h.1 on)

  probes_far : (earlier probes : List (ℕ × ℕ)) → AllByRecursion OnEdge earlier → ProbesFrom near claims earlier probes → ProbesFrom far claims earlier probes
  probes_far earlier [] on h = tt
  probes_far earlier (p ∷ probes) on h =
      let i = h.0 in
      let own : OnEdge p = probe_on p i.over i.under i.reached (other_on i.claim i.claimed i.over i.under i.other) in (
        record {
          consistent = λ y z c d. i.consistent y z (far_near p y z own c) (far_near p z y own d);
          claim = i.claim;
          claimed = i.claimed;
          is_open = i.is_open;
          over = i.over;
          under = i.under;
          other = i.other;
          reached = near_far p.0 p.1 i.over i.under i.reached;
          new = All-from_recursion (λ (q : ℕ × ℕ). Closure far q.0 q.1 i.over i.under → ⊥) earlier
              (none_far earlier i.over i.under on (recursion_from_All (λ (q : ℕ × ℕ). Closure near q.0 q.1 i.over i.under → ⊥) earlier i.new));
        },
        probes_far (earlier ++ p ∷ []) probes (more_on earlier p on own) h.1,
      )

pub given_marks_law : GivenMarksLaw
given_marks_law givens paths n numbers rows A are same below among claims whys probes on_edges m =
    let served : paths_of (rows ++ A) ≡ returns paths givens ++ paths_of A =
    map-append (λ (p : ℕ × List ℕ). p.1) rows A ∙ ap (λ (l : List (List ℕ)). l ++ paths_of A) same in
    let marks = subst (λ ps. All (IsBorneOut ps m.orders probes) claims) served m.marks in
    let serve = subst (λ ps. ProbesFrom ps claims [] probes) served m.probes_serve in
    record {
      orders = m.orders;
      shown = show_on givens n numbers rows are A below [] whys m.orders m.shown;
      marks = All-weaker (IsBorneOut (returns paths givens ++ paths_of A) m.orders probes) (IsBorneOut (served_with givens (paths_of A)) m.orders probes)
          (borne_far givens paths (paths_of A) among claims on_edges m.orders probes) claims marks;
      probes_serve = probes_far givens paths (paths_of A) among claims on_edges [] probes tt serve;
    }
