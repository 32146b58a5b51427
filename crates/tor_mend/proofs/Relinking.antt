-- Why the walk of a path that was lost by one triple alone refutes each later path with this triple.
use Rattle.std.proofs.Common.{◌≡◌, ◌≢◌, ℕ, zero, suc, ◌+◌, ◌-◌, ◌<◌, ◌≤◌, ◌⊎◌, inl, inr, List, [], ◌∷◌, ◌++◌, Some, length, map, get_or, refl, sym, ap, ◌∙◌, subst, arith, append_assoc, All, Contains, eq-eqb, ne_eqb}
use Rattle.std.proofs.Common.{length-append, append-nil, IfSome, IsTrue}
use Rattle.std.specs.Prelude.{Option, slice_get}
use Rattle.std.proofs.lemmas.Bool.{cases_eq}
use Rattle.relationships.specs.declared.walk.Link.{Link}
use Rattle.relationships.specs.declared.walk.Walk.{Walk}
use Rattle.relationships.specs.declared.fate.Fate.{Fate}
use Rattle.relationships.specs.Fates.{walk_of, is_kept}
use Rattle.relationships.specs.Graph.{Edge, edges}
use Rattle.relationships.specs.Evidence.{NeighboursDiffer, Numbered, StandAt, TripleAt, Fits, IsLinked, Refutes}
use Rattle.relationships.proofs.Places.{index-from_StandAt}
use Rattle.tor_arena.proofs.Gets.{slice_get-push_old, slice_get-push_last, slice_get-push_cases, slice_get-set_cases}
use Rattle.as_graph.specs.EdgeSteps.{EdgeStep}
use Rattle.as_graph.specs.Steps.{IsStep, AreStepsFrom, AreSteps}
use Rattle.as_graph.specs.Paths.{path_at}
use Rattle.tor_clauses.specs.Literals.{lit_of, Says}
use Rattle.tor_clauses.specs.Formulas.{numbered, IsLinkOf}
use Rattle.tor_clauses.proofs.Members.{In, In-append_left, In-append_right, In-append_cases, In-map, map-In, Contains-In, In-Contains}
use Rattle.tor_clauses.proofs.Adding.{get_from_or}
use Rattle.tor_clauses.proofs.LiteralLemmas.{lit_of_node}
use Rattle.tor_clauses.proofs.Overs.{Says-one}
use Rattle.relationships.proofs.WalkLemmas.{apart_at, apart_next}
use Rattle.tor_mend.specs.declared.refusals.Refusal.{Refusal}
use Rattle.tor_mend.specs.declared.refusals.Met.{Met}
use Rattle.tor_mend.specs.Refusals.{node_at, relink, relinked, NamesOnly, HasTriple, RefutesTriple, IsRefusalOf, AreRefused, HasRefusedTriple, IsOfPath}
use Rattle.tor_mend.specs.Refusals.{IsMetWith, IsSameTriple, UsesAt, IsPut, Remembers}
use Rattle.tor_clauses.proofs.Ways.{some_same}

-- ---- one place of a path, one triple

stand_one : (path : List ℕ) (at x y z a b c : ℕ) → StandAt path at x y z → StandAt path at a b c → (x ≡ a) × (y ≡ b) × (z ≡ c)
stand_one path at x y z a b c s t =
    let i = index-from_StandAt path at x y z s in
    let j = index-from_StandAt path at a b c t in
    (sym i.2 ∙ j.2, sym i.3 ∙ j.3, sym i.4 ∙ j.4)

-- the second is the first or its reverse
abbrev IsOneOf : ℕ → ℕ → ℕ → ℕ → ℕ → ℕ → Type 0
IsOneOf x y z a b c = ((x ≡ a) × (y ≡ b) × (z ≡ c)) ⊎ ((x ≡ c) × (y ≡ b) × (z ≡ a))

triple_one : (path : List ℕ) (at x y z a b c : ℕ) → TripleAt path at x y z → TripleAt path at a b c → IsOneOf x y z a b c
triple_one path at x y z a b c (inl s) (inl t) = inl (stand_one path at x y z a b c s t)
triple_one path at x y z a b c (inl s) (inr t) = inr (stand_one path at x y z c b a s t)
triple_one path at x y z a b c (inr s) (inl t) = let e = stand_one path at z y x a b c s t in inr (e.2, e.1, e.0)
triple_one path at x y z a b c (inr s) (inr t) = let e = stand_one path at z y x c b a s t in inl (e.2, e.1, e.0)

-- ---- the path of a number

numbered_at : (graph : List (List ℕ)) (paths : List ℕ) (n : ℕ) (path : List ℕ) → Contains (numbered graph paths) (n, path) →
    (q : ℕ) × In q paths × (q + 1 ≡ n) × (path_at graph q ≡ path)
numbered_at graph paths n path c =
    let r = map-In (λ q. (q + 1, path_at graph q)) (n, path) paths (Contains-In (n, path) (numbered graph paths) c) in
    (r.0, r.1, ap (λ (p : ℕ × List ℕ). p.0) r.2, ap (λ (p : ℕ × List ℕ). p.1) r.2)

at_numbered : (graph : List (List ℕ)) (paths : List ℕ) (q : ℕ) → In q paths → Contains (numbered graph paths) (q + 1, path_at graph q)
at_numbered graph paths q h = In-Contains (q + 1, path_at graph q) (numbered graph paths) (In-map (λ q. (q + 1, path_at graph q)) q paths h)

named_by : (graph : List (List ℕ)) (paths : List ℕ) (own n : ℕ) (path : List ℕ) → n ≡ own + 1 → Contains (numbered graph paths) (n, path) → path_at graph own ≡ path
named_by graph paths own n path is c =
    let r = numbered_at graph paths n path c in
    let same : own ≡ r.0 = omega (arith, is, r.2) in
    ap (path_at graph) same ∙ r.3

-- ---- another link in the place of each into the path

fits_reversed : (A : Numbered) (link : Link) (x y z : ℕ) → Fits A link x y z → Fits A link z y x
fits_reversed A link x y z (path, there, inl s) = (path, there, inr s)
fits_reversed A link x y z (path, there, inr s) = (path, there, inl s)

fits_same : (A : Numbered) (link : Link) (x y z a b c : ℕ) → x ≡ a → y ≡ b → z ≡ c → Fits A link a b c → Fits A link x y z
fits_same A link x y z a b c p q r f =
    subst (λ n. Fits A link n y z) (sym p) (subst (λ n. Fits A link a n z) (sym q) (subst (λ n. Fits A link a b n) (sym r) f))

fits_either : (A : Numbered) (link : Link) (x y z a b c : ℕ) → IsOneOf x y z a b c → Fits A link a b c → Fits A link x y z
fits_either A link x y z a b c (inl e) f = fits_same A link x y z a b c e.0 e.1 e.2 f
fits_either A link x y z a b c (inr e) f = fits_same A link x y z c b a e.0 e.1 e.2 (fits_reversed A link a b c f)

module _ (graph : List (List ℕ)) (kept : List ℕ) (path at first second : ℕ) (has : IsLinkOf graph (kept ++ path ∷ []) (record { path = path + 1; at = at }) first second)
    (more : List ℕ) (link : Link) (is : IsLinkOf graph (kept ++ more) link first second) where
  abbrev A : Numbered
  A = numbered graph (kept ++ path ∷ [])

  abbrev B : Numbered
  B = numbered graph (kept ++ more)

  -- the literals say one triple
  said : Fits B link has.x has.y has.z
  said =
      let t = Says-one (edges graph) (lit_of first) has.x has.y is.x is.y has.tail is.tail in
      let h = Says-one (edges graph) (lit_of second) has.y has.z is.y is.z has.head is.head in
      fits_same B link has.x has.y has.z is.x is.y is.z t.0 t.1 h.1 is.fits

  -- a link into the path names this triple
  own_fits : (k : Link) (x y z : ℕ) → k.path ≡ path + 1 → k.at ≡ at → Fits A k x y z → Fits B link x y z
  own_fits k x y z own named (p, there, t) =
      let here : TripleAt (path_at graph path) at x y z =
      subst (λ q. TripleAt q at x y z) (sym (named_by graph (kept ++ path ∷ []) path k.path p own there)) (subst (λ n. TripleAt p n x y z) named t) in
      let its : TripleAt (path_at graph path) at has.x has.y has.z =
      subst (λ q. TripleAt q at has.x has.y has.z) (sym (named_by graph (kept ++ path ∷ []) path (path + 1) has.fits.0 refl has.fits.1)) has.fits.2 in
      fits_either B link x y z has.x has.y has.z (triple_one (path_at graph path) at x y z has.x has.y has.z here its) said

  kept_still : (q n : ℕ) → q + 1 ≡ n → n ≢ path + 1 → In q (kept ++ path ∷ []) → In q (kept ++ more)
  kept_still q n is other h = elim (In-append_cases q kept (path ∷ []) h) [
    | inl k ↦ In-append_left q kept more k
    | inr k ↦ absurd (not_own k)
  ]
    where
      not_own : (path ≡ q) ⊎ In q [] → ⊥
      not_own (inl e) = other (omega (arith, e, is))
      not_own (inr none) = none

  other_fits : (k : Link) (x y z : ℕ) → k.path ≢ path + 1 → Fits A k x y z → Fits B k x y z
  other_fits k x y z other (p, there, t) =
      let r = numbered_at graph (kept ++ path ∷ []) k.path p there in
      let still = at_numbered graph (kept ++ more) r.0 (kept_still r.0 k.path r.2 other r.1) in
      (p, subst (λ n. Contains B (n, p)) r.2 (subst (λ q. Contains B (r.0 + 1, q)) r.3 still), t)

  fits_again : (k : Link) (x y z : ℕ) → (k.path ≡ path + 1 → k.at ≡ at) → Fits A k x y z → Fits B (relink (path + 1) link k) x y z
  fits_again k x y z named f = elim (cases_eq k.path (path + 1)) [
    | inl own ↦ rw (eq-eqb k.path (path + 1) own) (own_fits k x y z own (named own) f)
    | inr other ↦ rw (ne_eqb k.path (path + 1) other) (other_fits k x y z other f)
  ]

  linked_again : (ases : List ℕ) (links : List Link) → NamesOnly (path + 1) at links → IsLinked A ases links → IsLinked B ases (map (relink (path + 1) link) links)
  linked_again [] links alone h = absurd h
  linked_again (x ∷ []) links alone h = absurd h
  linked_again (x ∷ y ∷ []) [] alone h = tt
  linked_again (x ∷ y ∷ []) (k ∷ links) alone h = absurd h
  linked_again (x ∷ y ∷ z ∷ ases) [] alone h = absurd h
  linked_again (x ∷ y ∷ z ∷ ases) (k ∷ links) alone h =
      (fits_again k x y z (λ own. alone 0 k refl own) h.0, linked_again (y ∷ z ∷ ases) links (λ i l there own. alone (suc i) l there own) h.1)

  pub refutes_again : (w : Walk) → NamesOnly (path + 1) at w.links → Refutes A w → Refutes B (relinked (path + 1) link w)
  refutes_again w alone r = record {
    x = r.x;
    y = r.y;
    two = r.two;
    walk = linked_again w.ases w.links alone r.walk;
    begins = r.begins;
    flips = r.flips;
    ends = r.ends;
  }

-- ---- a triple of a path, its steps and its link

link_of : (graph : List (List ℕ)) (path : ℕ) (paths : List ℕ) (at first second : ℕ) → In path paths → HasTriple graph path at first second →
    IsLinkOf graph paths (record { path = path + 1; at = at }) first second
link_of graph path paths at first second h (x, y, z, stand, tail, head) = record {
  x = x;
  y = y;
  z = z;
  tail = tail;
  head = head;
  fits = (path_at graph path, at_numbered graph paths path h, inl stand);
}

-- three ASes, and the steps between them
abbrev AreStepsAt : List Edge → List ℕ → ℕ → EdgeStep → EdgeStep → Type 0
AreStepsAt es path at s t = (x y z : ℕ) × StandAt path at x y z × IsStep es x y s × IsStep es y z t

steps_stand : (es : List Edge) (before : List ℕ) (x : ℕ) (rest : List ℕ) (steps : List EdgeStep) (k : ℕ) (s t : EdgeStep) (at : ℕ) → AreStepsFrom es x rest steps →
    slice_get steps k ≡ Some s → slice_get steps (suc k) ≡ Some t → at ≡ length before + k + 2 → AreStepsAt es (before ++ (x ∷ rest)) at s t
steps_stand es before x rest [] k s t at are h g is = absurd (cc h)
steps_stand es before x [] (u ∷ steps) k s t at are h g is = absurd are
steps_stand es before x (y ∷ []) (u ∷ []) zero s t at are h g is = absurd (cc g)
steps_stand es before x (y ∷ []) (u ∷ v ∷ steps) zero s t at are h g is = absurd are.1
steps_stand es before x (y ∷ z ∷ rest) (u ∷ []) zero s t at are h g is = absurd are.1
steps_stand es before x (y ∷ z ∷ rest) (u ∷ v ∷ steps) zero s t at are h g is = (
  x,
  y,
  z,
  record { before = before; after = rest; whole = refl; place = omega (arith, is) },
  subst (IsStep es x y) (some_same h) are.0,
  subst (IsStep es y z) (some_same g) are.1.0,
)
steps_stand es before x (y ∷ rest) (u ∷ steps) (suc k) s t at are h g is =
    let more = length-append before (x ∷ []) in
    subst (λ p. AreStepsAt es p at s t) (append_assoc before (x ∷ []) (y ∷ rest))
    (steps_stand es (before ++ (x ∷ [])) y rest steps k s t at are.1 h g (omega (arith, is, more)))

all_steps : (es : List Edge) (path : List ℕ) (steps : List EdgeStep) (k : ℕ) (s t : EdgeStep) (at : ℕ) → AreSteps es path steps →
    slice_get steps k ≡ Some s → slice_get steps (suc k) ≡ Some t → 2 + k ≡ at → AreStepsAt es path at s t
all_steps es [] steps k s t at are h g is = absurd (cc (are, h))
all_steps es (x ∷ rest) steps k s t at are h g is = steps_stand es [] x rest steps k s t at are h g (omega (arith, is))

says_at : (es : List Edge) (x y : ℕ) (s : EdgeStep) → x ≢ y → IsStep es x y s → Says es (lit_of (node_at s)) x y
says_at es x y s two is =
    subst (λ l. Says es l x y) (sym (lit_of_node (record { edge = s.edge; over = s.left }))) (record { edge = is.0; end = is.1; two = two })

-- two steps of a path, one behind the other
pub step_triple : (graph : List (List ℕ)) (path : ℕ) (steps : List EdgeStep) (k : ℕ) (s t : EdgeStep) (at : ℕ) → All NeighboursDiffer graph → path < length graph →
    AreSteps (edges graph) (path_at graph path) steps → slice_get steps k ≡ Some s → slice_get steps (suc k) ≡ Some t → 2 + k ≡ at →
    HasTriple graph path at (node_at s) (node_at t)
step_triple graph path steps k s t at apart lt are here next is =
    let (x, y, z, stand, one, two) = all_steps (edges graph) (path_at graph path) steps k s t at are here next is in
    let distinct : NeighboursDiffer (stand.before ++ (x ∷ y ∷ z ∷ stand.after)) = subst NeighboursDiffer stand.whole (apart path [] lt) in (
      x,
      y,
      z,
      stand,
      says_at (edges graph) x y s (apart_at stand.before x y (z ∷ stand.after) distinct) one,
      says_at (edges graph) y z t (apart_next stand.before x y z stand.after distinct) two,
    )

-- so for the steps before and at a place, as they are read
pub triple_before : (graph : List (List ℕ)) (path : ℕ) (steps : List EdgeStep) (next : ℕ) (s t : EdgeStep) → All NeighboursDiffer graph → path < length graph →
    AreSteps (edges graph) (path_at graph path) steps → 1 ≤ next → next < length steps → s ≡ get_or steps (next - 1) s → t ≡ get_or steps next t →
    HasTriple graph path (next + 1) (node_at s) (node_at t)
triple_before graph path steps next s t apart lt are from within at-s at-t =
    let k = next - 1 in
    let is : suc k ≡ next = omega (arith, from) in
    let here : slice_get steps k ≡ Some s = get_from_or steps k s (omega (arith, from, within)) at-s in
    let there : slice_get steps (suc k) ≡ Some t = get_from_or steps (suc k) t (omega (arith, is, within)) (subst (λ n. t ≡ get_or steps n t) (sym is) at-t) in
    step_triple graph path steps k s t (next + 1) apart lt are here there (omega (arith, from))

-- so it has that of a refusal of these nodes
pub hit_triple : (graph : List (List ℕ)) (path : ℕ) (refusals : List Refusal) (at : ℕ) (s t : EdgeStep) (met : Met) → HasTriple graph path at (node_at s) (node_at t) →
    IsMetWith refusals (node_at s) (node_at t) at met → HasRefusedTriple graph path refusals met
hit_triple graph path refusals at s t met has (r, there, first, second, place) = (
  r,
  there,
  subst (λ n. HasTriple graph path n r.first r.second) (sym place)
      (subst (λ n. HasTriple graph path at n r.second) (sym first) (subst (HasTriple graph path at (node_at s)) (sym second) has)),
)

pub one_of_two : (P : Met → Type 0) (before here now : Option Met) → (now ≡ before) ⊎ (now ≡ here) → IfSome before P → IfSome here P → IfSome now P
one_of_two P before here now (inl is) first second = subst (λ o. IfSome o P) (sym is) first
one_of_two P before here now (inr is) first second = subst (λ o. IfSome o P) (sym is) second

-- ---- refusals, as paths are kept and lost

pub none_refused : (graph : List (List ℕ)) (kept : List ℕ) (fates : List Fate) (refusals : List Refusal) → refusals ≡ [] → AreRefused graph kept fates refusals
none_refused graph kept fates refusals none k r at = absurd (let bad = sym at ∙ ap (λ (l : List Refusal). slice_get l k) none in cc)

module _ (graph : List (List ℕ)) (kept : List ℕ) where
  -- what refuses, refuses also when more paths are kept
  refuses_more : (first second own : ℕ) (w : Walk) (later : List ℕ) → RefutesTriple graph kept first second own w → RefutesTriple graph (kept ++ later) first second own w
  refuses_more first second own w later r more link is =
      let e : (kept ++ later) ++ more ≡ kept ++ (later ++ more) = append_assoc kept later more in
      subst (λ paths. Refutes (numbered graph paths) (relinked own link w)) (sym e) (r (later ++ more) link (subst (λ paths. IsLinkOf graph paths link first second) e is))

  refused_more : (fates : List Fate) (fate : Fate) (later : List ℕ) (r : Refusal) → IsRefusalOf graph kept fates r → IsRefusalOf graph (kept ++ later) (fates ++ fate ∷ []) r
  refused_more fates fate later r (w, lost, counted, refuses) =
      (w, slice_get-push_old fates (fate ∷ []) r.path (Fate.Lost w) lost, counted, refuses_more r.first r.second (r.path + 1) w later refuses)

  all_more : (fates : List Fate) (fate : Fate) (later : List ℕ) (refusals : List Refusal) → AreRefused graph kept fates refusals → AreRefused graph (kept ++ later) (fates ++ fate ∷ []) refusals
  all_more fates fate later refusals all k r there = refused_more fates fate later r (all k r there)

  -- a path that meets a refusal is lost by the walk of its path
  pub met_refutes : (path lost : ℕ) (fates : List Fate) (refusals : List Refusal) (met : Met) (walk : Walk) → AreRefused graph kept fates refusals →
      HasRefusedTriple graph path refusals met → IsOfPath refusals met.refusal lost →
      ((w : Walk) → slice_get fates lost ≡ Some (Fate.Lost w) → walk ≡ relinked (lost + 1) (record { path = path + 1; at = met.at }) w) →
      Refutes (numbered graph (kept ++ path ∷ [])) walk
  met_refutes path lost fates refusals met walk all (r, there, has) of again =
      let same : of.0 ≡ r = some_same (sym of.1 ∙ there) in
      let is : r.path ≡ lost = ap (λ (q : Refusal). q.path) (sym same) ∙ of.2 in
      let (w, was, counted, refuses) = all met.refusal r there in
      let link = link_of graph path (kept ++ path ∷ []) met.at r.first r.second (In-append_right path kept (path ∷ []) (inl refl)) has in
      let by : Refutes (numbered graph (kept ++ path ∷ [])) (relinked (lost + 1) (record { path = path + 1; at = met.at }) w) =
      subst (λ n. Refutes (numbered graph (kept ++ path ∷ [])) (relinked (n + 1) (record { path = path + 1; at = met.at }) w)) is
      (refuses (path ∷ []) (record { path = path + 1; at = met.at }) link) in
      subst (Refutes (numbered graph (kept ++ path ∷ []))) (sym (again w (subst (λ n. slice_get fates n ≡ Some (Fate.Lost w)) is was))) by

  -- what is counted of a refusal is no part of why it refutes
  same_triple : (fates : List Fate) (r s : Refusal) → IsSameTriple r s → IsRefusalOf graph kept fates r → IsRefusalOf graph kept fates s
  same_triple fates r s same (w, lost, counted, refuses) = (
    w,
    subst (λ n. slice_get fates n ≡ Some (Fate.Lost w)) (sym same.path) lost,
    same.links ∙ counted,
    subst (λ n. RefutesTriple graph kept s.first s.second (n + 1) w) (sym same.path)
        (subst (λ n. RefutesTriple graph kept s.first n (r.path + 1) w) (sym same.second)
        (subst (λ n. RefutesTriple graph kept n r.second (r.path + 1) w) (sym same.first) refuses)),
  )

  pub still_refused : (fates : List Fate) (place : ℕ) (old new : List Refusal) → AreRefused graph kept fates old → UsesAt place old new → AreRefused graph kept fates new
  still_refused fates place old new all (r, s, there, same, is) k q at =
      elim (slice_get-set_cases old place s k q (ap (λ (l : List Refusal). slice_get l k) (sym is) ∙ at)) [
        | inl h ↦ subst (IsRefusalOf graph kept fates) (sym h.1) (same_triple fates r s same (all place r there))
        | inr h ↦ all k q h.1
      ]

  -- where a refusal is put, each is this one or was there
  put_cases : (r : Refusal) (old new : List Refusal) (k : ℕ) (q : Refusal) → IsPut r old new → slice_get new k ≡ Some q → (slice_get old k ≡ Some q) ⊎ (q ≡ r)
  put_cases r old new k q (inl is) at =
      elim (slice_get-push_cases old r k q (ap (λ (l : List Refusal). slice_get l k) (sym is) ∙ at)) [ inl h ↦ inl h | inr h ↦ inr h.1 ]
  put_cases r old new k q (inr (place, is)) at =
      elim (slice_get-set_cases old place r k q (ap (λ (l : List Refusal). slice_get l k) (sym is) ∙ at)) [ inl h ↦ inr h.1 | inr h ↦ inl h.1 ]

  -- a path is lost, and its triple is remembered
  module _ (path : ℕ) (fates : List Fate) (w : Walk) (next : length fates ≡ path)
      (refutes : Refutes (numbered graph (kept ++ path ∷ [])) w) (old new : List Refusal) (all : AreRefused graph kept fates old) where
    one_refuses : (at : ℕ) (r : Refusal) → r.path ≡ path → r.links ≡ length w.links → NamesOnly (path + 1) at w.links → HasTriple graph path at r.first r.second →
        IsRefusalOf graph kept (fates ++ Fate.Lost w ∷ []) r
    one_refuses at r named counted only has =
        let here = link_of graph path (kept ++ path ∷ []) at r.first r.second (In-append_right path kept (path ∷ []) (inl refl)) has in
        let last : slice_get (fates ++ Fate.Lost w ∷ []) r.path ≡ Some (Fate.Lost w) =
        ap (slice_get (fates ++ Fate.Lost w ∷ [])) (named ∙ sym next) ∙ slice_get-push_last fates (Fate.Lost w) in (
          w,
          last,
          counted,
          subst (λ n. RefutesTriple graph kept r.first r.second (n + 1) w) (sym named)
              (λ more link is. refutes_again graph kept path at r.first r.second here more link is w only refutes),
        )

    still : (r : Refusal) → IsRefusalOf graph kept fates r → IsRefusalOf graph kept (fates ++ Fate.Lost w ∷ []) r
    still r (v, lost, counted, refuses) = (v, slice_get-push_old fates (Fate.Lost w ∷ []) r.path (Fate.Lost v) lost, counted, refuses)

    lost_too : Remembers graph path (Fate.Lost w) old new → AreRefused graph kept (fates ++ Fate.Lost w ∷ []) new
    lost_too (inl same) k r there = still r (all k r (ap (λ (l : List Refusal). slice_get l k) (sym same) ∙ there))
    lost_too (inr puts) k r there = elim (put_cases puts.refusal old new k r puts.put there) [
      | inl h ↦ still r (all k r h)
      | inr h ↦ subst (IsRefusalOf graph kept (fates ++ Fate.Lost w ∷ [])) (sym h) (one_refuses puts.at puts.refusal puts.named puts.counted puts.alone puts.triple)
    ]

  -- what becomes of a path is remembered
  pub offered : (path : ℕ) (fates : List Fate) (fate : Fate) (now : List ℕ) (old new : List Refusal) → length fates ≡ path →
      (IsTrue (is_kept fate) → now ≡ kept ++ path ∷ []) → IfSome (walk_of fate) (λ walk. now ≡ kept) → IfSome (walk_of fate) (Refutes (numbered graph (kept ++ path ∷ []))) →
      AreRefused graph kept fates old → Remembers graph path fate old new → AreRefused graph now (fates ++ fate ∷ []) new
  offered path fates Fate.Kept now old new next is lost refutes all same =
      subst (λ paths. AreRefused graph paths (fates ++ Fate.Kept ∷ []) new) (sym (is refl))
      (all_more fates Fate.Kept (path ∷ []) new (subst (AreRefused graph kept fates) (sym same) all))
  offered path fates (Fate.Lost w) now old new next is lost refutes all remembers =
      subst (λ paths. AreRefused graph paths (fates ++ Fate.Lost w ∷ []) new) (sym lost) (lost_too path fates w next refutes old new all remembers)

  -- a path that is lost again adds nothing
  pub lost_again : (fates : List Fate) (w : Walk) (refusals : List Refusal) → AreRefused graph kept fates refusals → AreRefused graph kept (fates ++ Fate.Lost w ∷ []) refusals
  lost_again fates w refusals all =
      subst (λ paths. AreRefused graph paths (fates ++ Fate.Lost w ∷ []) refusals) (append-nil kept) (all_more fates (Fate.Lost w) [] refusals all)
