-- Distinct edges can be put in settling order.
use Rattle.std.proofs.Common.{◌≡◌, ◌≢◌, ◌⊎◌, inl, inr, ℕ, zero, suc, ◌<◌, true, false, List, [], ◌∷◌, length, get_or, refl, sym, ap, ◌∙◌, subst, arith, Contains, eq-eqb}
use Rattle.std.specs.List.{AllByRecursion}
use Rattle.std.proofs.lemmas.Bool.{false≢true, cases_order, cases_lt}
use Rattle.std.proofs.lemmas.List.Elements.{All-contains_itself, All-contains, All-from_recursion, All-weaker, recursion_from_All, Contains-append_right}
use Rattle.std.proofs.lemmas.List.Sums.{fails_before_first, passes_at_first}
use Rattle.relationships.specs.Graph.{Edge, is_same}
use Rattle.relationships.specs.Preference.{IsSettlingOrder, place}
use Rattle.relationships.proofs.Checked.{Once}
use Rattle.relationships.proofs.Deciding.{PairsByRecursion, AllPairs-from_recursion}
use Rattle.relationships.proofs.Edges.{same_edge}

-- ---- members

pub behind_first : {X : Type 0} (x : X) (xs : List X) (y : X) → Contains xs y → Contains (x ∷ xs) y
behind_first x xs y c = Contains-append_right (x ∷ []) xs y c

pub first_one : {X : Type 0} (x : X) (xs : List X) (y : X) → x ≡ y → Contains (x ∷ xs) y
first_one x xs y is = (zero, omega arith, is)

pub first_or_behind : {X : Type 0} (x : X) (xs : List X) (y : X) → Contains (x ∷ xs) y → (x ≡ y) ⊎ Contains xs y
first_or_behind x xs y (zero, lt, is) = inl is
first_or_behind x xs y (suc k, lt, is) = inr (k, omega (arith, lt), is)

pub none_there : {X : Type 0} (x : X) → Contains [] x → ⊥
none_there x c = omega (arith, c.1)

pub each_member : (P : Edge → Type 0) (es : List Edge) → ((e : Edge) → Contains es e → P e) → AllByRecursion P es
each_member P es h = recursion_from_All P es (All-weaker (Contains es) P h es (All-contains_itself es))

pub same_itself : (e : Edge) → is_same e e ≡ true
same_itself e = rw (eq-eqb e.0 e.0 refl, eq-eqb e.1 e.1 refl) refl

pub apart_if : (e f : Edge) → is_same e f ≡ false → e ≢ f
apart_if e f n is = false≢true (sym n ∙ subst (λ (g : Edge). is_same e g ≡ true) is (same_itself e))

-- ---- an order of edges

module _ (lead : Edge → ℕ) (es : List Edge) where
  abbrev pub Settles : Edge → Edge → Type 0
  Settles e f = (lead f < lead e) ⊎ ((lead f ≡ lead e) × (place es e < place es f))

  goes_on : (e f g : Edge) → Settles e f → Settles f g → Settles e g
  goes_on e f g (inl h) (inl k) = inl (omega (arith, h, k))
  goes_on e f g (inl h) (inr k) = inl (omega (arith, h, k.0))
  goes_on e f g (inr h) (inl k) = inl (omega (arith, h.0, k))
  goes_on e f g (inr h) (inr k) = inr (omega (arith, h.0, k.0), omega (arith, h.1, k.1))

  within : (e : Edge) → Contains es e → place es e < length es
  within e c = elim (cases_lt (place es e) (length es)) [
    | inl lt ↦ lt
    | inr le ↦
        let not = fails_before_first (is_same e) es c.0 e (omega (arith, le, c.1)) in
        absurd (false≢true (sym not ∙ subst (λ (f : Edge). is_same e f ≡ true) (sym c.2) (same_itself e)))
  ]

  at_place : (e d : Edge) → Contains es e → e ≡ get_or es (place es e) d
  at_place e d c = same_edge e (get_or es (place es e) d) (passes_at_first (is_same e) es d (within e c))

  one_place : (e f : Edge) → Contains es e → Contains es f → place es e ≡ place es f → e ≡ f
  one_place e f c c' same = at_place e e c ∙ ap (λ k. get_or es k e) same ∙ sym (at_place f e c')

  one_way : (e f : Edge) → Contains es e → Contains es f → e ≢ f → Settles e f ⊎ Settles f e
  one_way e f c c' apart = elim (cases_order (lead e) (lead f)) [
    | inl same ↦ elim (cases_order (place es e) (place es f)) [
      | inl one ↦ absurd (apart (one_place e f c c' one))
      | inr o ↦ elim o [ inl lt ↦ inl (inr (sym same, lt)) | inr lt ↦ inr (inr (same, lt)) ]
    ]
    | inr o ↦ elim o [ inl lt ↦ inr (inl lt) | inr lt ↦ inl (inl lt) ]
  ]

  -- these edges and no others, each before those after it
  record Sorted (some : List Edge) : Type 0 where
    order : List Edge
    there : (e : Edge) → Contains some e → Contains order e
    back : (e : Edge) → Contains order e → Contains some e
    pairs : PairsByRecursion Settles order

  put_in : (e : Edge) (order : List Edge) → Contains es e → ((f : Edge) → Contains order f → Contains es f × (e ≢ f)) → PairsByRecursion Settles order → Sorted (e ∷ order)
  put_in e [] c others pairs = record { order = e ∷ []; there = λ f i. i; back = λ f i. i; pairs = (tt, tt) }
  put_in e (y ∷ ys) c others pairs =
      let own = others y (first_one y ys y refl) in
      elim (one_way e y c own.0 own.1) [
        | inl before ↦ record {
          order = e ∷ y ∷ ys;
          there = λ f i. i;
          back = λ f i. i;
          pairs = ((before, each_member (Settles e) ys (λ f i. goes_on e y f before (All-contains (Settles y) ys f (All-from_recursion (Settles y) ys pairs.0) i))), pairs);
        }
        | inr behind ↦ later behind (put_in e ys c (λ f i. others f (behind_first y ys f i)) pairs.1)
      ]
    where
      later : Settles y e → Sorted (e ∷ ys) → Sorted (e ∷ y ∷ ys)
      later behind r = record {
        order = y ∷ r.order;
        there = λ f i. elim (first_or_behind e (y ∷ ys) f i) [
          | inl is ↦ behind_first y r.order f (r.there f (first_one e ys f is))
          | inr j ↦ elim (first_or_behind y ys f j) [
            | inl is ↦ first_one y r.order f is
            | inr k ↦ behind_first y r.order f (r.there f (behind_first e ys f k))
          ]
        ];
        back = λ f i. elim (first_or_behind y r.order f i) [
          | inl is ↦ behind_first e (y ∷ ys) f (first_one y ys f is)
          | inr j ↦ elim (first_or_behind e ys f (r.back f j)) [
            | inl is ↦ first_one e (y ∷ ys) f is
            | inr k ↦ behind_first e (y ∷ ys) f (behind_first y ys f k)
          ]
        ];
        pairs = (
          each_member (Settles y) r.order (λ f i. elim (first_or_behind e ys f (r.back f i)) [
            | inl is ↦ subst (Settles y) is behind
            | inr k ↦ All-contains (Settles y) ys f (All-from_recursion (Settles y) ys pairs.0) k
          ]),
          r.pairs,
        );
      }

  sorted : (some : List Edge) → ((e : Edge) → Contains some e → Contains es e) → Once some → Sorted some
  sorted [] sub once = record { order = []; there = λ f i. i; back = λ f i. i; pairs = tt }
  sorted (e ∷ some) sub once = with_rest (sorted some (λ f i. sub f (behind_first e some f i)) once.1)
    where
      with_rest : Sorted some → Sorted (e ∷ some)
      with_rest r = moved (put_in e r.order (sub e (first_one e some e refl))
          (λ f i. (
            sub f (behind_first e some f (r.back f i)),
            apart_if e f (All-contains (λ f. is_same e f ≡ false) some f (All-from_recursion (λ f. is_same e f ≡ false) some once.0) (r.back f i)),
          ))
          r.pairs)
        where
          moved : Sorted (e ∷ r.order) → Sorted (e ∷ some)
          moved s = record {
            order = s.order;
            there = λ f i. elim (first_or_behind e some f i) [
              | inl is ↦ s.there f (first_one e r.order f is)
              | inr j ↦ s.there f (behind_first e r.order f (r.there f j))
            ];
            back = λ f i. elim (first_or_behind e r.order f (s.back f i)) [
              | inl is ↦ first_one e some f is
              | inr j ↦ behind_first e some f (r.back f j)
            ];
            pairs = s.pairs;
          }

pub some_settling : (lead : Edge → ℕ) (es : List Edge) → Once es → (order : List Edge) × IsSettlingOrder lead es order
some_settling lead es once =
    let s = sorted lead es es (λ e i. i) once in
    (s.order, record { each = λ e. (s.there e, s.back e); falling = AllPairs-from_recursion (Settles lead es) s.order s.pairs })
