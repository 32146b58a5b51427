-- What the givens of the top are: the laws.
use Rattle.std.proofs.Common.{◌≡◌, ◌≢◌, ◌↔◌, ℕ, zero, suc, ◌+◌, ◌<◌, ◌≤◌, inl, inr, Bool, true, false, not, ◌||◌, ◌&&◌, if◌then◌else◌, List, [], ◌∷◌, ◌++◌, length, sum_by, get_or, map, filter, flat_map, refl, sym, ap, ap₂, ◌∙◌, subst, arith}
use Rattle.std.proofs.Common.{append_assoc, All, Contains, length-append}
use Rattle.std.specs.List.{list_any, AllPairs}
use Rattle.std.proofs.lemmas.Bool.{cases_Bool, both_ways, or_parts, or_left, or_right, false_from_ne_true, not_from_false, and_parts, and_from}
use Rattle.std.proofs.lemmas.List.{map-append, length-map, get_or-map}
use Rattle.std.proofs.lemmas.List.Concat.{flat_map-append}
use Rattle.std.proofs.lemmas.List.Kept.{AllPairs-cons, AllPairs-filter}
use Rattle.std.proofs.lemmas.List.Elements.{All-append, All-contains, All-contains_itself, All-filter, All-from_recursion, recursion_from_All, Contains-get_or, filter-append, filter_agree, filter_passes}
use Rattle.tor_arena.proofs.Gets.{has-from_Contains, slice_get-unmap, Contains-from_has, Contains-map, Contains-none}
use Rattle.relationships.specs.declared.given.Given.{Given}
use Rattle.relationships.specs.Givens.{NameTwo, NameOnce}
use Rattle.relationships.specs.Graph.{Edge, edge_of, is_same, edges_on, distinct, edges}
use Rattle.relationships.proofs.Edges.{same_edge}
use Rattle.relationships.proofs.FewReturns.{same-equivalence}
use Rattle.relationships.proofs.GivenLemmas.{any_there}
use Rattle.relationships.proofs.Neighbours.{distinct-apart}
use Rattle.top_givens.specs.TopGivens.{is_top, has_one_top, given_over, top_given, is_paired, is_bound, top_givens, given_pairs, top_givens_behind}
use Rattle.top_givens.specs.Laws.{IsOfTop, TopMembersLaw, TopSoundLaw, FewTopLaw, SameTopLaw, NoneEarlierLaw, ResumedTopLaw}
use Rattle.top_givens.proofs.EdgeFacts.{IsEdge, or_false, any_distinct, are_edges, all_distinct, few_chosen, none_chosen}
use Rattle.top_givens.proofs.Tops.{one_of_two, given_of_two, given_edge, paired_append, paired_edges}

-- ---- lists

pub unmapped : {X Y : Type 0} (f : X → Y) (xs : List X) (y : Y) → Contains (map f xs) y → (x : X) × Contains xs x × (f x ≡ y)
unmapped f xs y c =
    let h = has-from_Contains (map f xs) y c in
    let u = slice_get-unmap f xs h.0 y h.1 in
    (u.0, Contains-from_has xs u.0 (h.0, u.1), u.2)

pub in_filter : {X : Type 0} (p : X → Bool) (xs : List X) (x : X) → Contains xs x → p x ≡ true → Contains (filter p xs) x
in_filter p [] x c t = absurd (Contains-none x c)
in_filter p (y ∷ xs) x (zero, lt, is) t =
    let same : p y ≡ true = ap p is ∙ t in rw same (0, omega arith, is)
in_filter p (y ∷ xs) x (suc k, lt, is) t =
    let rest = in_filter p xs x (k, omega (arith, lt), is) t in
    elim (cases_Bool (p y)) [ inl s ↦ rw s (suc rest.0, omega (arith, rest.1), rest.2) | inr f ↦ rw f rest ]

pub all_by : {X : Type 0} (P : X → Type 0) (xs : List X) → ((x : X) → Contains xs x → P x) → All P xs
all_by P xs f = λ k d lt. f (get_or xs k d) (Contains-get_or xs k d lt)

map_agree : {X Y : Type 0} (f g : X → Y) → ((x : X) → f x ≡ g x) → (xs : List X) → map f xs ≡ map g xs
map_agree f g h [] = refl
map_agree f g h (x ∷ xs) = ap₂ (λ y ys. y ∷ ys) (h x) (map_agree f g h xs)

-- ---- the givens one by one

pub listed_edge : (paths : List (List ℕ)) (e : Edge) → Contains (edges paths) e → IsEdge e
listed_edge paths e c =
    All-contains IsEdge (edges paths) e (All-from_recursion IsEdge (edges paths) (all_distinct IsEdge (flat_map edges_on paths) (are_edges paths))) c

module _ (top : List ℕ) (named : List (ℕ × ℕ)) (paths : List (List ℕ)) where
  of_edge : (e : Edge) → Contains (edges paths) e → is_bound top named e ≡ true → IsOfTop top named paths (top_given top e)
  of_edge e c t =
      let parts = and_parts (has_one_top top e) (not (is_paired named e)) t in
      let is = given_edge top e (listed_edge paths e c) in
      let ends = by (is_top top e.0) refl parts.0 in
      record {
        over = ends.0;
        under = ends.1;
        edge = subst (Contains (edges paths)) (sym is) c;
        new = subst (λ f. is_paired named f ≡ false) (sym is) (unnot (is_paired named e) parts.1);
      }
    where
      unnot : (b : Bool) → not b ≡ true → b ≡ false
      unnot true h = sym h
      unnot false h = refl

      by : (b : Bool) → is_top top e.0 ≡ b → has_one_top top e ≡ true → (is_top top (top_given top e).over ≡ true) × (is_top top (top_given top e).under ≡ false)
      by true is one = let other : is_top top e.1 ≡ false = unnot (is_top top e.1) (rw is at one) in rw is (is, other)
      by false is one = let other : is_top top e.1 ≡ true = rw is at one in rw is (other, is)

  pub members : (g : Given) → Contains (top_givens top named paths) g ↔ IsOfTop top named paths g
  members g = (
    λ c.
        let u = unmapped (top_given top) (filter (is_bound top named) (edges paths)) g c in
        let there = All-contains (Contains (edges paths)) (filter (is_bound top named) (edges paths)) u.0
        (All-filter (is_bound top named) (Contains (edges paths)) (edges paths) (All-contains_itself (edges paths))) u.1 in
        let passes = All-contains (λ e. is_bound top named e ≡ true) (filter (is_bound top named) (edges paths)) u.0 (filter_passes (is_bound top named) (edges paths)) u.1 in
        subst (IsOfTop top named paths) u.2 (of_edge u.0 there passes),
    λ h.
        let e = edge_of g.over g.under in
        let one : has_one_top top e ≡ true = one_of_two top g.over g.under ∙ rw (h.over, h.under) refl in
        let is : is_bound top named e ≡ true = and_from (has_one_top top e) (not (is_paired named e)) one (not_from_false (is_paired named e) h.new) in
        subst (Contains (top_givens top named paths)) (given_of_two top g.over g.under h.over h.under)
        (Contains-map (top_given top) (filter (is_bound top named) (edges paths)) e (in_filter (is_bound top named) (edges paths) e h.edge is)),
  )

  -- no two are of the same edge
  pub apart : NameOnce (top_givens top named paths)
  apart i j d lt within =
      let es = filter (is_bound top named) (edges paths) in
      let count = length-map es (top_given top) in
      let below : j < length es = omega (arith, within, count) in
      let dist = AllPairs-filter ◌≢◌ (is_bound top named) (edges paths) (distinct-apart (flat_map edges_on paths)) in
      let none : Edge = (0, 0) in
      let first = get_or-map (top_given top) es i none d (omega (arith, lt, below)) in
      let second = get_or-map (top_given top) es j none d below in
      let edge_at = λ (k : ℕ) (inside : k < length es). given_edge top (get_or es k none) (All-contains IsEdge es (get_or es k none)
      (All-filter (is_bound top named) IsEdge (edges paths) (all_by IsEdge (edges paths) (listed_edge paths))) (Contains-get_or es k none inside)) in
      λ same. dist i j none lt below
      (sym (edge_at i (omega (arith, lt, below))) ∙ ap (λ (h : Given). edge_of h.over h.under) (sym first) ∙ same ∙ ap (λ (h : Given). edge_of h.over h.under) second ∙ edge_at j below)

pub top_members_law : TopMembersLaw
top_members_law = members

-- ---- behind other givens

two_apart : (top : List ℕ) (a b : ℕ) → is_top top a ≡ true → is_top top b ≡ false → a ≢ b
two_apart top a b is isnt same = both_ways (is_top top b) isnt (subst (λ c. is_top top c ≡ true) same is)

once_joined : (R : Given → Given → Type 0) (xs ys : List Given) → AllPairs R xs → AllPairs R ys → ((x : Given) → Contains xs x → All (R x) ys) → AllPairs R (xs ++ ys)
once_joined R [] ys h k cross = k
once_joined R (x ∷ xs) ys h k cross =
    AllPairs-cons R x (xs ++ ys)
    (All-append (R x) xs ys (λ j d within. h 0 (suc j) d (omega arith) (omega (arith, within))) (cross x (0, omega arith, refl)))
    (once_joined R xs ys (λ i j d lt within. h (suc i) (suc j) d (omega (arith, lt)) (omega (arith, within))) k (λ z c. cross z (suc c.0, omega (arith, c.1), c.2)))

pub top_sound_law : TopSoundLaw
top_sound_law top named paths givens there = (
  λ two. All-append (λ g. g.over ≢ g.under) givens tops two
      (all_by (λ g. g.over ≢ g.under) tops (λ g c. let h = (members top named paths g).0 c in two_apart top g.over g.under h.over h.under)),
  λ once. once_joined (λ g h. edge_of g.over g.under ≢ edge_of h.over h.under) givens tops once (apart top named paths)
      (λ g c. all_by (λ h. edge_of g.over g.under ≢ edge_of h.over h.under) tops
      (λ h d same. both_ways (is_paired named (edge_of h.over h.under)) ((members top named paths h).0 d).new (subst (λ e. is_paired named e ≡ true) same (there g c)))),
)
  where
    tops : List Given
    tops = top_givens top named paths

pub few_top_law : FewTopLaw
few_top_law top named paths =
    let n = length-map (filter (is_bound top named) (edges paths)) (top_given top) in let few = few_chosen (is_bound top named) paths in omega (arith, n, few)

-- ---- what they depend on

pub same_top_law : SameTopLaw
same_top_law top top' named named' paths same_top same_named =
    ap (map (top_given top)) (filter_agree (is_bound top named) (is_bound top' named') bound (edges paths)) ∙
    map_agree (top_given top) (top_given top') given (filter (is_bound top' named') (edges paths))
  where
    one : (e : Edge) → has_one_top top e ≡ has_one_top top' e
    one e = ap₂ (λ s t. if s then not t else t) (same_top e.0) (same_top e.1)

    bound : (e : Edge) → is_bound top named e ≡ is_bound top' named' e
    bound e =
        elim (cases_Bool (has_one_top top e)) [
          | inl t ↦ ap₂ (λ s t. s && not t) (one e) (same_named e t)
          | inr f ↦ (let f' : has_one_top top' e ≡ false = sym (one e) ∙ f in rw (f, f') refl)
        ]

    given : (e : Edge) → top_given top e ≡ top_given top' e
    given e = ap (λ b. if b then given_over e.0 e.1 else given_over e.1 e.0) (same_top e.0)

-- ---- on top of earlier paths

pub listed_paired : (paths : List (List ℕ)) (e : Edge) → is_paired (edges paths) e ≡ list_any (is_same e) (edges paths)
listed_paired paths e = paired_edges (edges paths) e (all_distinct IsEdge (flat_map edges_on paths) (are_edges paths))

pub none_earlier_law : NoneEarlierLaw
none_earlier_law top givens earlier paths g c there =
    let e = edge_of g.over g.under in
    let h = (members top (given_pairs givens ++ edges earlier) paths g).0 c in
    let parts = or_parts (is_paired (given_pairs givens) e) (is_paired (edges earlier) e) (sym (paired_append (given_pairs givens) (edges earlier) e) ∙ h.new) in
    both_ways (is_paired (edges earlier) e) parts.1 (listed_paired earlier e ∙ any_there (edges earlier) e there)

-- the edges of more paths are those of the first, and behind them those that aren't among these
filter_twice : (x : Edge) (es fs : List Edge) →
    filter (λ f. not (is_same x f)) (filter (λ f. not (list_any (is_same f) es)) fs) ≡ filter (λ f. not (list_any (is_same f) (x ∷ es))) fs
filter_twice x es [] = refl
filter_twice x es (f ∷ fs) = by (is_same f x) refl (list_any (is_same f) es) refl (same-equivalence.symm x f) (filter_twice x es fs)
  where
    by : (s : Bool) → is_same f x ≡ s → (t : Bool) → list_any (is_same f) es ≡ t → is_same x f ≡ is_same f x →
        filter (λ g. not (is_same x g)) (filter (λ g. not (list_any (is_same g) es)) fs) ≡ filter (λ g. not (list_any (is_same g) (x ∷ es))) fs →
        filter (λ g. not (is_same x g)) (filter (λ g. not (list_any (is_same g) es)) (f ∷ fs)) ≡ filter (λ g. not (list_any (is_same g) (x ∷ es))) (f ∷ fs)
    by true s true t back ih = rw (s, t) ih
    by true s false t back ih = rw (s, t, back ∙ s) ih
    by false s true t back ih = rw (s, t) ih
    by false s false t back ih = rw (s, t, back ∙ s) (ap (λ (l : List Edge). f ∷ l) ih)

distinct_joined : (es fs : List Edge) → distinct (es ++ fs) ≡ distinct es ++ filter (λ f. not (list_any (is_same f) es)) (distinct fs)
distinct_joined [] fs = sym (passes (distinct fs))
  where
    passes : (gs : List Edge) → filter (λ f. true) gs ≡ gs
    passes [] = refl
    passes (g ∷ gs) = ap (λ (l : List Edge). g ∷ l) (passes gs)
distinct_joined (e ∷ es) fs =
    ap (λ (l : List Edge). e ∷ l)
    (ap (filter (λ f. not (is_same e f))) (distinct_joined es fs) ∙ filter-append (λ f. not (is_same e f)) (distinct es) (filter (λ f. not (list_any (is_same f) es)) (distinct fs)) ∙
    ap (λ l. filter (λ f. not (is_same e f)) (distinct es) ++ l) (filter_twice e es (distinct fs)))

filter_when : (n p q : Edge → Bool) → ((e : Edge) → n e ≡ true → p e ≡ q e) → (es : List Edge) → filter p (filter n es) ≡ filter q (filter n es)
filter_when n p q h [] = refl
filter_when n p q h (e ∷ es) =
    elim (cases_Bool (n e)) [
      | inl t ↦ rw (t, h e t) (elim (cases_Bool (q e)) [ inl s ↦ rw s (ap (λ (l : List Edge). e ∷ l) (filter_when n p q h es)) | inr f ↦ rw f (filter_when n p q h es) ])
      | inr f ↦ rw f (filter_when n p q h es)
    ]

-- a pair of givens is that of one of them
pub paired_given : (gs : List Given) (e : Edge) → is_paired (given_pairs gs) e ≡ true → (g : Given) × Contains gs g × (edge_of g.over g.under ≡ e)
paired_given [] e t = absurd (cc t)
paired_given (g ∷ gs) e t =
    elim (cases_Bool (is_same e (edge_of g.over g.under))) [
      | inl s ↦ (g, (0, omega arith, refl), sym (same_edge e (edge_of g.over g.under) s))
      | inr f ↦ (let rest = paired_given gs e (rw f at t) in (rest.0, (suc rest.1.0, omega (arith, rest.1.1), rest.1.2), rest.2))
    ]

pub resumed_top_law : ResumedTopLaw
resumed_top_law top givens named earlier later same_named =
    append_assoc givens first (top_givens_behind top known earlier (earlier ++ later)) ∙ ap (λ gs. givens ++ gs) (ap (λ gs. first ++ gs) second ∙ sym whole)
  where
    first : List Given
    first = top_givens top named earlier

    known : List Given
    known = givens ++ first

    E : List Edge
    E = flat_map edges_on earlier

    F : List Edge
    F = flat_map edges_on later

    new : Edge → Bool
    new f = not (list_any (is_same f) E)

    behind : List Edge
    behind = filter new (distinct F)

    listed : edges (earlier ++ later) ≡ edges earlier ++ behind
    listed = ap distinct (flat_map-append edges_on earlier later) ∙ distinct_joined E F

    p : Edge → Bool
    p e = is_bound top named e

    p' : Edge → Bool
    p' e = is_bound top (given_pairs known ++ edges earlier) e

    chosen : (q : Edge → Bool) → map (top_given top) (filter q (edges (earlier ++ later))) ≡ map (top_given top) (filter q (edges earlier)) ++ map (top_given top) (filter q behind)
    chosen q =
        ap (λ es. map (top_given top) (filter q es)) listed ∙ ap (map (top_given top)) (filter-append q (edges earlier) behind) ∙
        map-append (top_given top) (filter q (edges earlier)) (filter q behind)

    -- an edge of the earlier paths isn't bound again
    old : (e : Edge) → list_any (is_same e) E ≡ true → p' e ≡ false
    old e t =
        let there : is_paired (edges earlier) e ≡ true = listed_paired earlier e ∙ any_distinct (is_same e) E ∙ t in
        let named' : is_paired (given_pairs known ++ edges earlier) e ≡ true =
        paired_append (given_pairs known) (edges earlier) e ∙ or_right (is_paired (given_pairs known) e) (is_paired (edges earlier) e) there in
        rw named' (elim (cases_Bool (has_one_top top e)) [ inl t ↦ rw t refl | inr f ↦ rw f refl ])

    none : filter p' (edges earlier) ≡ []
    none =
        none_chosen p' E (recursion_from_All (λ e. p' e ≡ false) E (all_by (λ e. p' e ≡ false) E (λ e c. old e (any_there E e c))))

    -- the givens of the earlier paths name edges of these alone
    unnamed : (e : Edge) → new e ≡ true → is_paired (given_pairs first) e ≡ false
    unnamed e is = false_from_ne_true (is_paired (given_pairs first) e) (λ t.
        let g = paired_given first e t in
        let h = (members top named earlier g.0).0 g.1 in
        let there : list_any (is_same e) E ≡ true = sym (any_distinct (is_same e) E) ∙ any_there (edges earlier) e (subst (Contains (edges earlier)) g.2 h.edge) in
        both_ways (new e) (rw there refl) is)

    agree : (e : Edge) → new e ≡ true → p' e ≡ p e
    agree e is =
        elim (cases_Bool (has_one_top top e)) [
          | inr f ↦ rw f refl
          | inl t ↦
              let apart_E : list_any (is_same e) E ≡ false = unnot (list_any (is_same e) E) is in
              let far : is_paired (edges earlier) e ≡ false = listed_paired earlier e ∙ any_distinct (is_same e) E ∙ apart_E in
              let pairs : is_paired (given_pairs known) e ≡ is_paired (given_pairs givens) e =
              ap (λ ps. is_paired ps e) (map-append (λ (g : Given). (g.over, g.under)) givens first) ∙ paired_append (given_pairs givens) (given_pairs first) e ∙
              ap (λ b. is_paired (given_pairs givens) e || b) (unnamed e is) ∙ or_false (is_paired (given_pairs givens) e) in
              let all : is_paired (given_pairs known ++ edges earlier) e ≡ is_paired named e =
              paired_append (given_pairs known) (edges earlier) e ∙ ap₂ (λ s t. s || t) pairs far ∙ or_false (is_paired (given_pairs givens) e) ∙ sym (same_named e t) in
              ap (λ b. has_one_top top e && not b) all
        ]
      where
        unnot : (b : Bool) → not b ≡ true → b ≡ false
        unnot true h = sym h
        unnot false h = refl

    second : top_givens_behind top known earlier (earlier ++ later) ≡ map (top_given top) (filter p behind)
    second =
        chosen p' ∙ ap (λ es. map (top_given top) es ++ map (top_given top) (filter p' behind)) none ∙ ap (map (top_given top)) (filter_when new p' p agree (distinct F))

    whole : top_givens top named (earlier ++ later) ≡ first ++ map (top_given top) (filter p behind)
    whole = chosen p

-- ---- what follows for all givens

pub given_paired : (givens : List Given) (more : List (ℕ × ℕ)) (g : Given) → Contains givens g → is_paired (given_pairs givens ++ more) (edge_of g.over g.under) ≡ true
given_paired givens more g c = paired_append (given_pairs givens) more (edge_of g.over g.under) ∙ or_left _ _ (there givens c)
  where
    there : (gs : List Given) → Contains gs g → is_paired (given_pairs gs) (edge_of g.over g.under) ≡ true
    there [] c = absurd (Contains-none g c)
    there (h ∷ gs) (zero, lt, is) =
        (let same : is_same (edge_of g.over g.under) (edge_of h.over h.under) ≡ true =
        ap (λ (x : Given). is_same (edge_of g.over g.under) (edge_of x.over x.under)) is ∙ same-equivalence.refl (edge_of g.over g.under) in rw same refl)
    there (h ∷ gs) (suc k, lt, is) =
        or_right (is_same (edge_of g.over g.under) (edge_of h.over h.under)) (is_paired (given_pairs gs) (edge_of g.over g.under)) (there gs (k, omega (arith, lt), is))

module _ (top : List ℕ) (givens all : List Given) (more : List (ℕ × ℕ)) (paths : List (List ℕ)) (is : all ≡ givens ++ top_givens top (given_pairs givens ++ more) paths) where
  pub two_stay : NameTwo givens → NameTwo all
  two_stay two = subst NameTwo (sym is) ((top_sound_law top (given_pairs givens ++ more) paths givens (given_paired givens more)).0 two)

  pub once_stay : NameOnce givens → NameOnce all
  once_stay once = subst NameOnce (sym is) ((top_sound_law top (given_pairs givens ++ more) paths givens (given_paired givens more)).1 once)

  pub few_stay : length all ≤ length givens + sum_by length paths
  few_stay =
      let n = length-append givens (top_givens top (given_pairs givens ++ more) paths) in
      let few = few_top_law top (given_pairs givens ++ more) paths in
      let same = ap length is in
      omega (arith, n, few, same)
