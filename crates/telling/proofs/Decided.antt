-- Whether one order leads to another along the triples of paths, decided arc by arc.
use Rattle.std.proofs.Common.{◌≡◌, ℕ, zero, suc, ◌+◌, ◌<◌, ◌⊎◌, inl, inr, List, [], ◌∷◌, ◌++◌, length, get_or, refl, sym, ap, subst, arith, ◌==◌}
use Rattle.std.proofs.lemmas.Bool.{cases_Bool, eqb-true, eq-eqb}
use Rattle.relationships.specs.Evidence.{StandAt, TripleAt, IsTriple, Closure, start, imply}

-- the arc from "x over y" to "y over z"
abbrev pub Arc : Type 0
Arc = ℕ × ℕ × ℕ

abbrev pub In : ℕ → ℕ → ℕ → List Arc → Type 0
In x y z [] = ⊥
In x y z (e ∷ es) = ((e.0 ≡ x) × (e.1 ≡ y) × (e.2 ≡ z)) ⊎ In x y z es

In-right : (x y z : ℕ) (es fs : List Arc) → In x y z fs → In x y z (es ++ fs)
In-right x y z [] fs h = h
In-right x y z (e ∷ es) fs h = inr (In-right x y z es fs h)

In-left : (x y z : ℕ) (es fs : List Arc) → In x y z es → In x y z (es ++ fs)
In-left x y z [] fs h = absurd h
In-left x y z (e ∷ es) fs (inl h) = inl h
In-left x y z (e ∷ es) fs (inr h) = inr (In-left x y z es fs h)

In-split : (x y z : ℕ) (es fs : List Arc) → In x y z (es ++ fs) → In x y z es ⊎ In x y z fs
In-split x y z [] fs h = inr h
In-split x y z (e ∷ es) fs (inl h) = inl (inl h)
In-split x y z (e ∷ es) fs (inr h) = elim (In-split x y z es fs h) [ inl k ↦ inl (inr k) | inr k ↦ inr k ]

-- ---- the arcs of the paths

-- the first three ASes of a path, in both directions
abbrev first_arcs : List ℕ → List Arc
first_arcs (x ∷ y ∷ z ∷ path) = (x, y, z) ∷ (z, y, x) ∷ []
first_arcs _ = []

abbrev arcs_on : List ℕ → List Arc
arcs_on [] = []
arcs_on (x ∷ path) = first_arcs (x ∷ path) ++ arcs_on path

abbrev pub arcs_of : List (List ℕ) → List Arc
arcs_of [] = []
arcs_of (path ∷ paths) = arcs_on path ++ arcs_of paths

has_stand : (before : List ℕ) (x y z : ℕ) (after : List ℕ) →
    In x y z (arcs_on (before ++ (x ∷ y ∷ z ∷ after))) × In z y x (arcs_on (before ++ (x ∷ y ∷ z ∷ after)))
has_stand [] x y z after = (inl (refl, refl, refl), inr (inl (refl, refl, refl)))
has_stand (a ∷ before) x y z after =
    let path = before ++ (x ∷ y ∷ z ∷ after) in
    let h = has_stand before x y z after in
    (In-right x y z (first_arcs (a ∷ path)) (arcs_on path) h.0, In-right z y x (first_arcs (a ∷ path)) (arcs_on path) h.1)

has_triple : (path : List ℕ) (at x y z : ℕ) → TripleAt path at x y z → In x y z (arcs_on path)
has_triple path at x y z (inl s) = subst (λ l. In x y z (arcs_on l)) (sym s.whole) (has_stand s.before x y z s.after).0
has_triple path at x y z (inr s) = subst (λ l. In x y z (arcs_on l)) (sym s.whole) (has_stand s.before z y x s.after).1

first_triple : (path : List ℕ) (x y z : ℕ) → In x y z (first_arcs path) → TripleAt path 2 x y z
first_triple [] x y z h = absurd h
first_triple (a ∷ []) x y z h = absurd h
first_triple (a ∷ b ∷ []) x y z h = absurd h
first_triple (a ∷ b ∷ c ∷ path) x y z (inl (e, f, g)) = inl (record { before = []; after = path; whole = cc; place = refl })
first_triple (a ∷ b ∷ c ∷ path) x y z (inr (inl (e, f, g))) = inr (record { before = []; after = path; whole = cc; place = refl })
first_triple (a ∷ b ∷ c ∷ path) x y z (inr (inr h)) = absurd h

one_later : (a : ℕ) (path : List ℕ) (at x y z : ℕ) → StandAt path at x y z → StandAt (a ∷ path) (at + 1) x y z
one_later a path at x y z s =
    record { before = a ∷ s.before; after = s.after; whole = ap (λ (l : List ℕ). a ∷ l) s.whole; place = omega (arith, s.place) }

is_triple_on : (path : List ℕ) (x y z : ℕ) → In x y z (arcs_on path) → (at : ℕ) × TripleAt path at x y z
is_triple_on [] x y z h = absurd h
is_triple_on (a ∷ path) x y z h = elim (In-split x y z (first_arcs (a ∷ path)) (arcs_on path) h) [
  | inl k ↦ (2, first_triple (a ∷ path) x y z k)
  | inr k ↦ later (is_triple_on path x y z k)
]
  where
    later : (at : ℕ) × TripleAt path at x y z → (at : ℕ) × TripleAt (a ∷ path) at x y z
    later (at, inl s) = (at + 1, inl (one_later a path at x y z s))
    later (at, inr s) = (at + 1, inr (one_later a path at z y x s))

has_arc_at : (paths : List (List ℕ)) (k : ℕ) (path : List ℕ) (x y z : ℕ) → k < length paths → get_or paths k path ≡ path → In x y z (arcs_on path) → In x y z (arcs_of paths)
has_arc_at [] k path x y z lt e h = absurd (omega arith)
has_arc_at (p ∷ paths) zero path x y z lt e h = In-left x y z (arcs_on p) (arcs_of paths) (subst (λ l. In x y z (arcs_on l)) (sym e) h)
has_arc_at (p ∷ paths) (suc k) path x y z lt e h = In-right x y z (arcs_on p) (arcs_of paths) (has_arc_at paths k path x y z (omega arith) e h)

-- each triple of the paths is among their arcs
pub has_arc : (paths : List (List ℕ)) (x y z : ℕ) → IsTriple paths x y z → In x y z (arcs_of paths)
has_arc paths x y z t = has_arc_at paths t.1.0 t.0 x y z t.1.1 t.1.2 (has_triple t.0 t.2.0 x y z t.2.1)

-- and each of their arcs is a triple
pub is_triple : (paths : List (List ℕ)) (x y z : ℕ) → In x y z (arcs_of paths) → IsTriple paths x y z
is_triple [] x y z h = absurd h
is_triple (p ∷ paths) x y z h = elim (In-split x y z (arcs_on p) (arcs_of paths) h) [
  | inl k ↦ (p, (0, omega arith, refl), is_triple_on p x y z k)
  | inr k ↦ later (is_triple paths x y z k)
]
  where
    later : IsTriple paths x y z → IsTriple (p ∷ paths) x y z
    later (path, (k, lt, e), t) = (path, (suc k, omega arith, e), t)

-- ---- walks of these arcs

-- from "a over b" some of these arcs lead to "y over z": without the first arc, or once along it
abbrev Via : List Arc → ℕ → ℕ → ℕ → ℕ → Type 0
Via [] a b y z = (a ≡ y) × (b ≡ z)
Via (e ∷ es) a b y z = Via es a b y z ⊎ (Via es a b e.0 e.1 × Via es e.1 e.2 y z)

via_start : (es : List Arc) (a b : ℕ) → Via es a b a b
via_start [] a b = (refl, refl)
via_start (e ∷ es) a b = inl (via_start es a b)

via_moved : (es : List Arc) (a b : ℕ) {y z y' z' : ℕ} → y ≡ y' → z ≡ z' → Via es a b y z → Via es a b y' z'
via_moved es a b {y = y} {z = z} {y' = y'} {z' = z'} e f v =
    subst (λ u. Via es a b y' u) f (subst (λ u. Via es a b u z) e v)

via_step : (es : List Arc) (a b x y z : ℕ) → In x y z es → Via es a b x y → Via es a b y z
via_step [] a b x y z h v = absurd h
via_step (e ∷ es) a b x y z (inr h) (inl v) = inl (via_step es a b x y z h v)
via_step (e ∷ es) a b x y z (inr h) (inr (v, w)) = inr (v, via_step es e.1 e.2 x y z h w)
via_step (e ∷ es) a b x y z (inl (p, q, r)) (inl v) = inr (via_moved es a b (sym p) (sym q) v, via_moved es e.1 e.2 q r (via_start es e.1 e.2))
via_step (e ∷ es) a b x y z (inl (p, q, r)) (inr (v, w)) = inr (v, via_moved es e.1 e.2 q r (via_start es e.1 e.2))

via_decided : (es : List Arc) (a b y z : ℕ) → Via es a b y z ⊎ (Via es a b y z → ⊥)
via_decided [] a b y z = both (same a y) (same b z)
  where
    same : (m n : ℕ) → (m ≡ n) ⊎ (m ≡ n → ⊥)
    same m n = elim (cases_Bool (m == n)) [ inl t ↦ inl (eqb-true m n t) | inr f ↦ inr (λ e. cc (f, eq-eqb m n e)) ]

    both : (a ≡ y) ⊎ (a ≡ y → ⊥) → (b ≡ z) ⊎ (b ≡ z → ⊥) → ((a ≡ y) × (b ≡ z)) ⊎ ((a ≡ y) × (b ≡ z) → ⊥)
    both (inl e) (inl f) = inl (e, f)
    both (inl e) (inr n) = inr (λ p. n p.1)
    both (inr n) d = inr (λ p. n p.0)
via_decided (e ∷ es) a b y z = one_of (via_decided es a b y z) (via_decided es a b e.0 e.1) (via_decided es e.1 e.2 y z)
  where
    one_of : {P Q R : Type 0} → P ⊎ (P → ⊥) → Q ⊎ (Q → ⊥) → R ⊎ (R → ⊥) → (P ⊎ (Q × R)) ⊎ (P ⊎ (Q × R) → ⊥)
    one_of (inl p) d d' = inl (inl p)
    one_of (inr n) (inl q) (inl r) = inl (inr (q, r))
    one_of (inr n) (inl q) (inr n') = inr (λ h. elim h [ inl p ↦ n p | inr k ↦ n' k.1 ])
    one_of (inr n) (inr n') d = inr (λ h. elim h [ inl p ↦ n p | inr k ↦ n' k.0 ])

-- ---- and closures

joined : (paths : List (List ℕ)) (a b c d : ℕ) {y z : ℕ} → Closure paths a b c d → Closure paths c d y z → Closure paths a b y z
joined paths a b c d h start = h
joined paths a b c d h (imply k t) = imply (joined paths a b c d h k) t

via_closure : (paths : List (List ℕ)) (es : List Arc) → ((x y z : ℕ) → In x y z es → IsTriple paths x y z) → (a b y z : ℕ) → Via es a b y z → Closure paths a b y z
via_closure paths [] triples a b y z (e, f) = subst (λ u. Closure paths a b y u) f (subst (λ u. Closure paths a b u b) e start)
via_closure paths (e ∷ es) triples a b y z (inl v) = via_closure paths es (λ x y z h. triples x y z (inr h)) a b y z v
via_closure paths (e ∷ es) triples a b y z (inr (v, w)) =
    let rest : (x y z : ℕ) → In x y z es → IsTriple paths x y z = λ x y z h. triples x y z (inr h) in
    joined paths a b e.1 e.2
    (imply (via_closure paths es rest a b e.0 e.1 v) (triples e.0 e.1 e.2 (inl (refl, refl, refl))))
    (via_closure paths es rest e.1 e.2 y z w)

closure_via : (paths : List (List ℕ)) (a b : ℕ) {y z : ℕ} → Closure paths a b y z → Via (arcs_of paths) a b y z
closure_via paths a b start = via_start (arcs_of paths) a b
closure_via paths a b (imply {x = x} {y = y} {z = z} c t) =
    via_step (arcs_of paths) a b x y z (has_arc paths x y z t) (closure_via paths a b c)

-- a closure is decided
pub decided : (paths : List (List ℕ)) (a b y z : ℕ) → Closure paths a b y z ⊎ (Closure paths a b y z → ⊥)
decided paths a b y z = elim (via_decided (arcs_of paths) a b y z) [
  | inl v ↦ inl (via_closure paths (arcs_of paths) (is_triple paths) a b y z v)
  | inr n ↦ inr (λ c. n (closure_via paths a b c))
]
