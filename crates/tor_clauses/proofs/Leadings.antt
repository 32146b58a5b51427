-- Steps of a walk under way.
use Rattle.std.proofs.Common.{◌≡◌, ◌≢◌, ℕ, ◌+◌, ◌<◌, ◌≤◌, ◌⊎◌, min, max, inl, inr, List, [], ◌∷◌, ◌++◌, Some, refl, sym, ap, ◌∙◌, subst, arith, append_assoc, lt-ltb, le-ltb}
use Rattle.std.specs.Prelude.{slice_get}
use Rattle.std.proofs.lemmas.Bool.{cases_lt}
use Rattle.std.proofs.lemmas.Option.{some_pair_parts, slice_get_within}
use Rattle.relationships.specs.Steps.{end_left}
use Rattle.tor_digraph.specs.Walks.{IsArc}
use Rattle.tor_arena.proofs.Gets.{slice_get-some}
use Rattle.relationships.specs.declared.label.End.{End}
use Rattle.relationships.specs.declared.walk.Link.{Link}
use Rattle.relationships.specs.declared.walk.Walk.{Walk}
use Rattle.relationships.specs.Graph.{Edge, edges}
use Rattle.relationships.specs.Evidence.{Numbered, Fits, IsLinked, HasPair, Refutes}
use Rattle.relationships.proofs.Ranks.{joined}
use Rattle.tor_clauses.specs.Literals.{Literal, lit_of, Says}
use Rattle.tor_clauses.specs.Formulas.{numbered, IsLinkOf}
use Rattle.tor_clauses.specs.Leading.{Leads, LeadsTo, IsPlainWay}

-- the walk of two ASes
pub leads_start : (A : Numbered) (a b : ℕ) → Leads A (record { ases = a ∷ b ∷ []; links = [] }) a b a b
leads_start A a b = record { walk = tt; begins = ([], refl); ends = ([], refl) }

-- the walk with one more AS
abbrev pub with_step : Walk → ℕ → Link → Walk
with_step w z link = record { ases = w.ases ++ (z ∷ []); links = w.links ++ (link ∷ []) }

pub leads_step : (A : Numbered) (w : Walk) (a b x y z : ℕ) (link : Link) → Leads A w a b x y → Fits A link x y z → Leads A (with_step w z link) a b y z
leads_step A w a b x y z link h fit =
    let before = h.ends.0 in
    let whole : w.ases ++ (z ∷ []) ≡ before ++ (x ∷ y ∷ z ∷ []) = ap (λ l. l ++ (z ∷ [])) h.ends.1 ∙ append_assoc before (x ∷ y ∷ []) (z ∷ []) in
    record {
      walk = subst (λ l. IsLinked A l (w.links ++ (link ∷ []))) (sym whole)
          (joined A before x y (z ∷ []) w.links (link ∷ []) (subst (λ l. IsLinked A l w.links) h.ends.1 h.walk) (fit, tt));
      begins = (h.begins.0 ++ (z ∷ []), ap (λ l. l ++ (z ∷ [])) h.begins.1);
      ends = (before ++ (x ∷ []), whole ∙ sym (append_assoc before (x ∷ []) (y ∷ z ∷ [])));
    }

-- two neighbours of a list stay neighbours when it grows
pub HasPair-more : (ases more : List ℕ) (u v : ℕ) → HasPair ases u v → HasPair (ases ++ more) u v
HasPair-more ases more u v p = (p.0, p.1 ++ more, ap (λ l. l ++ more) p.2 ∙ append_assoc p.0 (u ∷ v ∷ p.1) more)

-- a walk that comes back to its start by the opposite refutes
pub refutes : (A : Numbered) (w : Walk) (x y : ℕ) → x ≢ y → Leads A w x y x y → HasPair w.ases y x → Refutes A w
refutes A w x y two h flips = record { x = x; y = y; two = two; walk = h.walk; begins = h.begins; flips = flips; ends = h.ends }

-- ---- along arcs

pub left_low : (x y : ℕ) → x < y → end_left x y ≡ End.Low
left_low x y lt = rw (lt-ltb x y lt)

pub left_high : (x y : ℕ) → y ≤ x → end_left x y ≡ End.High
left_high x y le = rw (le-ltb x y le)

-- a literal says one order
says_one : (es : List Edge) (lit : Literal) (x y u v : ℕ) → Says es lit x y → Says es lit u v → (x ≡ u) × (y ≡ v)
says_one es lit x y u v s t = both (cases_lt x y) (cases_lt u v)
  where
    same : ◌≡◌ {A = ℕ × ℕ} (min x y, max x y) (min u v, max u v)
    same = let e = sym s.edge ∙ t.edge in cc

    ends : end_left x y ≡ end_left u v
    ends = sym s.end ∙ t.end

    low : min x y ≡ min u v
    low = ap (λ (e : Edge). e.0) same

    high : max x y ≡ max u v
    high = ap (λ (e : Edge). e.1) same

    both : (x < y) ⊎ (y ≤ x) → (u < v) ⊎ (v ≤ u) → (x ≡ u) × (y ≡ v)
    both (inl p) (inl q) = (omega (arith, low, high, p, q), omega (arith, low, high, p, q))
    both (inl p) (inr q) = let e = left_low x y p in let f = left_high u v q in absurd (cc (e, f, ends))
    both (inr p) (inl q) = let e = left_high x y p in let f = left_low u v q in absurd (cc (e, f, ends))
    both (inr p) (inr q) = (omega (arith, low, high, p, q), omega (arith, low, high, p, q))

-- one arc further
pub leads_arc : (graph : List (List ℕ)) (paths : List ℕ) (w : Walk) (a b l m over under : ℕ) (link : Link) → IsLinkOf graph paths link l m →
    Says (edges graph) (lit_of m) over under → LeadsTo (numbered graph paths) (edges graph) w a b l →
    LeadsTo (numbered graph paths) (edges graph) (with_step w under link) a b m
leads_arc graph paths w a b l m over under link r says h y z said =
    let A = numbered graph paths in
    let here = says_one (edges graph) (lit_of m) r.y r.z y z r.head said in
    let there = says_one (edges graph) (lit_of m) y z over under said says in
    let further = leads_step A w a b r.x r.y r.z link (h r.x r.y r.tail) r.fits in
    subst (λ u. Leads A (with_step w u link) a b y z) there.1
    (subst (λ u. Leads A (with_step w z link) a b u z) here.0 (subst (λ u. Leads A (with_step w u link) a b r.y u) here.1 further))

-- the same where code has made the lists
pub leads_made : (graph : List (List ℕ)) (paths : List ℕ) (arcs : List (ℕ × ℕ)) (k : ℕ) (ends : ℕ × ℕ) (w : Walk) (a b l m over under : ℕ) (link : Link)
    (ases : List ℕ) (links : List Link) → IsLinkOf graph paths link l m → IsArc arcs k l m → slice_get arcs k ≡ Some ends →
    Says (edges graph) (lit_of ends.1) over under → ases ≡ w.ases ++ under ∷ [] → links ≡ w.links ++ link ∷ [] →
    LeadsTo (numbered graph paths) (edges graph) w a b l → LeadsTo (numbered graph paths) (edges graph) (record { ases = ases; links = links }) a b m
leads_made graph paths arcs k ends w a b l m over under link ases links r arc at says e f h =
    let parts = some_pair_parts l ends.0 m ends.1 (sym arc ∙ at) in
    let A = numbered graph paths in
    let es = edges graph in
    let made = leads_arc graph paths w a b l m over under link r (subst (λ n. Says es (lit_of n) over under) (sym parts.1) says) h in
    subst (λ l. LeadsTo A es (record { ases = l; links = links }) a b m) (sym e)
    (subst (λ l. LeadsTo A es (record { ases = w.ases ++ under ∷ []; links = l }) a b m) (sym f) made)

-- ---- along ways

-- a step of a way is an arc between its two nodes
pub way_arc : (arcs : List (ℕ × ℕ)) (from to : ℕ) (nodes steps : List ℕ) (k s : ℕ) → IsPlainWay arcs from to nodes steps → slice_get steps k ≡ Some s →
    (u v : ℕ) × (slice_get nodes k ≡ Some u) × (slice_get nodes (k + 1) ≡ Some v) × IsArc arcs s u v
way_arc arcs from to nodes steps k s way at =
    let lt = slice_get_within steps k s at in
    let many = way.one_more in
    let u = slice_get-some nodes k (omega (arith, lt, many)) in
    let v = slice_get-some nodes (k + 1) (omega (arith, lt, many)) in
    (u.0, v.0, u.1, v.1, way.between k s u.0 v.0 at u.1 v.1)

-- ---- round

pub says_opposite : (es : List Edge) (edge x y : ℕ) → Says es (record { edge = edge; over = End.Low }) x y → Says es (record { edge = edge; over = End.High }) y x
says_opposite es edge x y s =
    let lt : x < y = less (cases_lt x y) in
    let low : min y x ≡ min x y = omega arith in
    let high : max y x ≡ max x y = omega arith in
    record {
      edge = s.edge ∙ ap (λ (e : Edge). Some e) (pair (sym low) (sym high));
      end = sym (left_high y x (omega (arith, lt)));
      two = λ e. s.two (sym e);
    }
  where
    less : (x < y) ⊎ (y ≤ x) → x < y
    less (inl lt) = lt
    less (inr le) = let e = s.end ∙ left_high x y le in absurd (cc e)

    pair : {a b c d : ℕ} → a ≡ c → b ≡ d → ◌≡◌ {A = Edge} (a, b) (c, d)
    pair e f = cc

-- the walk of the two ASes of an order leads to it
pub begun : (A : Numbered) (es : List Edge) (node x y : ℕ) (w : Walk) → Says es (lit_of node) x y → w ≡ record { ases = x ∷ y ∷ []; links = [] } →
    (a b : ℕ) → Says es (lit_of node) a b → LeadsTo A es w a b node
begun A es node x y w says begin a b here u v s =
    let one = says_one es (lit_of node) x y u v says s in
    let two = says_one es (lit_of node) x y a b says here in
    subst (λ n. Leads A w n b u v) two.0 (subst (λ n. Leads A w x n u v) two.1
    (subst (λ n. Leads A w x y n v) one.0 (subst (λ n. Leads A w x y x n) one.1 (subst (λ z. Leads A z x y x y) (sym begin) (leads_start A x y)))))

-- a walk of two ASes that goes on to their opposite order, and then to their order again, refutes
pub round : (A : Numbered) (es : List Edge) (edge low high x y : ℕ) (w there back : Walk) → lit_of low ≡ record { edge = edge; over = End.Low } →
    lit_of high ≡ record { edge = edge; over = End.High } → Says es (lit_of low) x y → w ≡ record { ases = x ∷ y ∷ []; links = [] } →
    ((a b : ℕ) → LeadsTo A es w a b low → LeadsTo A es there a b high) → ((a b : ℕ) → LeadsTo A es there a b high → LeadsTo A es back a b low) →
    ((u v : ℕ) → HasPair there.ases u v → HasPair back.ases u v) → Refutes A back
round A es edge low high x y w there back is_low is_high says begin onward homeward kept =
    let first = begun A es low x y w says begin x y says in
    let opposite : Says es (lit_of high) y x =
    subst (λ l. Says es l y x) (sym is_high) (says_opposite es edge x y (subst (λ l. Says es l x y) is_low says)) in
    let middle = onward x y first in
    let flip = middle y x opposite in
    let end = homeward x y middle x y says in
    refutes A back x y says.two end (kept y x (flip.ends.0, [], flip.ends.1))

-- two ASes as code begins a walk
pub made_walk : (x y : ℕ) (none one two : List ℕ) (links : List Link) → none ≡ [] → one ≡ none ++ x ∷ [] → two ≡ one ++ y ∷ [] → links ≡ [] →
    ◌≡◌ {A = Walk} (record { ases = two; links = links }) (record { ases = x ∷ y ∷ []; links = [] })
made_walk x y none one two links e f g h = both (g ∙ ap (λ l. l ++ y ∷ []) (f ∙ ap (λ l. l ++ x ∷ []) e)) h
  where
    both : {ases : List ℕ} {links : List Link} → ases ≡ x ∷ y ∷ [] → links ≡ [] → ◌≡◌ {A = Walk} (record { ases = ases; links = links }) (record { ases = x ∷ y ∷ []; links = [] })
    both e h = cc
