-- How edges are settled and bound one after the other.
use Rattle.std.proofs.Common.{◌≡◌, ℕ, zero, suc, ◌+◌, ◌-◌, ◌<◌, ◌≤◌, inl, inr, Bool, true, false, not, ◌||◌, List, [], ◌∷◌, ◌++◌, length, map, take, filter, flat_map, get_or, refl, sym, ap, ap₂, ◌∙◌, subst, arith, append_assoc, append-nil}
use Rattle.std.specs.Prelude.{OnOk, Result, Ok, Err, slice_get, Some}
use Rattle.std.specs.List.{list_any, AllByRecursion}
use Rattle.std.proofs.lemmas.Bool.{cases_Bool, both_ways, or_right, or_parts, false_from_ne_true}
use Rattle.std.proofs.lemmas.List.{map-append, take_more}
use Rattle.std.proofs.lemmas.List.Concat.{flat_map-append}
use Rattle.std.proofs.lemmas.List.Elements.{filter-append, recursion_from_All, Contains-get_or}
use Rattle.relationships.specs.declared.given.Given.{Given}
use Rattle.relationships.specs.Graph.{Edge, edge_of, is_same, edges_on, distinct, edges}
use Rattle.relationships.proofs.Edges.{same_edge}
use Rattle.relationships.proofs.GivenLemmas.{any_there}
use Rattle.relationships.proofs.Places.{distinct-push_new, distinct-push_old}
use Rattle.tor_arena.proofs.Gets.{take_get}
use Rattle.tor_numbers.specs.Edges.{with_edge}
use Rattle.top_givens.specs.TopGivens.{has_one_top, top_given, is_paired, is_bound, given_pairs, top_givens}
use Rattle.top_givens.specs.Binding.{HaveSameTop, StandSettled, AreBound, SettlesMore, BindsMore}
use Rattle.top_givens.proofs.EdgeFacts.{or_false, or_assoc, any_append, any_with_edge, any_distinct, none_chosen, are_edges, edges_on-more}
use Rattle.top_givens.proofs.Tops.{paired_append, paired_edges, paired_edge}
use Rattle.top_givens.proofs.Members.{same_top_law}

-- an edge with one end in the top differs from one without
differ : (top : List ℕ) (e f : Edge) → has_one_top top e ≡ true → has_one_top top f ≡ false → is_same e f ≡ false
differ top e f one none =
    false_from_ne_true (is_same e f) (λ same. both_ways (has_one_top top f) none (subst (λ (g : Edge). has_one_top top g ≡ true) (same_edge e f same) one))

-- ---- settled

module _ (top : List ℕ) where
  pub settles_none : (es : List Edge) → SettlesMore top [] es es
  settles_none es pairs h = subst (λ ps. StandSettled top ps es) (sym (append-nil pairs)) h

  pub settles_then : (more then : List (ℕ × ℕ)) (es fs gs : List Edge) → SettlesMore top more es fs → SettlesMore top then fs gs → SettlesMore top (more ++ then) es gs
  settles_then more then es fs gs first second pairs h =
      subst (λ ps. StandSettled top ps gs) (append_assoc pairs more then) (second (pairs ++ more) (first pairs h))

  pub settles_same : (more more' : List (ℕ × ℕ)) (es fs : List Edge) → ((e : Edge) → is_paired more e ≡ is_paired more' e) → SettlesMore top more es fs → SettlesMore top more' es fs
  settles_same more more' es fs same settles pairs h = record {
    same = λ e one.
        (settles pairs h).same e one ∙ paired_append pairs more e ∙ ap (λ b. is_paired pairs e || b) (same e) ∙ sym (paired_append pairs more' e);
  }

  -- the edge of a pair that has exactly one end in the top was added
  pub settles_one : (a b : ℕ) (es : List Edge) → SettlesMore top ((a, b) ∷ []) es (with_edge es (edge_of a b))
  settles_one a b es pairs h = record {
    same = λ e one.
        any_with_edge es (edge_of a b) e ∙ ap₂ (λ s t. s || t) (h.same e one) (sym (or_false (is_same e (edge_of a b)))) ∙ sym (paired_append pairs ((a, b) ∷ []) e);
  }

  -- the edge of another pair is never asked for
  pub settles_other : (a b : ℕ) (es : List Edge) → has_one_top top (edge_of a b) ≡ false → SettlesMore top ((a, b) ∷ []) es es
  settles_other a b es none pairs h = record {
    same = λ e one.
        let apart = differ top e (edge_of a b) one none in
        h.same e one ∙ sym (paired_append pairs ((a, b) ∷ []) e ∙ ap (λ b. is_paired pairs e || (b || false)) apart ∙ or_false (is_paired pairs e));
  }

  -- a step on a path more
  pub settles_step : (path more : List Edge) (a b : ℕ) (es fs gs : List Edge) → more ≡ path ++ edge_of a b ∷ [] → SettlesMore top path es fs →
      SettlesMore top ((a, b) ∷ []) fs gs → SettlesMore top more es gs
  settles_step path more a b es fs gs is first second =
      subst (λ ps. SettlesMore top ps es gs) (sym is)
      (settles_then path (edge_of a b ∷ []) es fs gs first (settles_same ((a, b) ∷ []) (edge_of a b ∷ []) fs gs (paired_edge a b) second))

-- ---- bound

module _ (top : List ℕ) where
  pub binds_none : (es : List Edge) (givens : List Given) → BindsMore top [] es givens es givens
  binds_none settled givens named start es h = subst (λ fs. AreBound top named start fs settled givens) (sym (append-nil es)) h

  pub binds_then : (more then settled settled' settled'' : List Edge) (givens givens' givens'' : List Given) → BindsMore top more settled givens settled' givens' →
      BindsMore top then settled' givens' settled'' givens'' → BindsMore top (more ++ then) settled givens settled'' givens''
  binds_then more then settled settled' settled'' givens givens' givens'' first second named start es h =
      subst (λ fs. AreBound top named start fs settled'' givens'') (append_assoc es more then) (second named start (es ++ more) (first named start es h))

  -- an edge more that is not bound
  chosen_same : (p : Edge → Bool) (es : List Edge) (e : Edge) → (p e ≡ true → list_any (is_same e) es ≡ true) → filter p (distinct (es ++ e ∷ [])) ≡ filter p (distinct es)
  chosen_same p es e h =
      elim (cases_Bool (list_any (is_same e) es)) [
        | inl t ↦ ap (filter p) (distinct-push_old es e t)
        | inr f ↦
            let out : p e ≡ false = false_from_ne_true (p e) (λ t. both_ways (list_any (is_same e) es) f (h t)) in
            ap (filter p) (distinct-push_new es e f) ∙ filter-append p (distinct es) (e ∷ []) ∙ rw out (append-nil (filter p (distinct es)))
      ]

  -- an edge more that is bound
  chosen_more : (p : Edge → Bool) (es : List Edge) (e : Edge) → p e ≡ true → list_any (is_same e) es ≡ false → filter p (distinct (es ++ e ∷ [])) ≡ filter p (distinct es) ++ e ∷ []
  chosen_more p es e is new =
      ap (filter p) (distinct-push_new es e new) ∙ filter-append p (distinct es) (e ∷ []) ∙ rw is refl

  any_more : (named : List (ℕ × ℕ)) (es : List Edge) (e f : Edge) → ((is_paired named e || list_any (is_same e) es) || is_same e f) ≡ (is_paired named e || list_any (is_same e) (es ++ f ∷ []))
  any_more named es e f =
      or_assoc (is_paired named e) (list_any (is_same e) es) (is_same e f) ∙
      ap (λ b. is_paired named e || b) (ap (λ b. list_any (is_same e) es || b) (sym (or_false (is_same e f))) ∙ sym (any_append (is_same e) es (f ∷ [])))

  -- exactly one end has to be in the top
  pub binds_other : (e : Edge) (settled : List Edge) (givens : List Given) → has_one_top top e ≡ false → BindsMore top (e ∷ []) settled givens settled givens
  binds_other e settled givens none named start es h = record {
    settled = λ f one.
        let apart = differ top f e one none in
        h.settled f one ∙ sym (sym (any_more named es f e) ∙ ap (λ b. (is_paired named f || list_any (is_same f) es) || b) apart ∙ or_false (is_paired named f || list_any (is_same f) es));
    bound = h.bound ∙ ap (λ (fs : List Edge). start ++ map (top_given top) fs) (sym (chosen_same (is_bound top named) es e (λ t. absurd (both_ways (has_one_top top e) none (first_part t)))));
  }
    where
      first_part : is_bound top named e ≡ true → has_one_top top e ≡ true
      first_part t = elim (cases_Bool (has_one_top top e)) [ inl s ↦ s | inr f ↦ absurd (both_ways (is_bound top named e) (rw f refl) t) ]

  -- the edge is settled already
  pub binds_settled : (e : Edge) (settled : List Edge) (givens : List Given) → has_one_top top e ≡ true → list_any (is_same e) settled ≡ true →
      BindsMore top (e ∷ []) settled givens (with_edge settled e) givens
  binds_settled e settled givens one there named start es h = record {
    settled = λ f one. any_with_edge settled e f ∙ ap (λ b. b || is_same f e) (h.settled f one) ∙ any_more named es f e;
    bound = h.bound ∙ ap (λ (fs : List Edge). start ++ map (top_given top) fs) (sym (chosen_same (is_bound top named) es e seen));
  }
    where
      seen : is_bound top named e ≡ true → list_any (is_same e) es ≡ true
      seen t =
          elim (cases_Bool (is_paired named e)) [
            | inl s ↦ absurd (both_ways (is_bound top named e) (rw (one, s) refl) t)
            | inr f ↦ (let both : (is_paired named e || list_any (is_same e) es) ≡ true = sym (h.settled e one) ∙ there in rw f at both)
          ]

  -- the edge is new
  pub binds_new : (e : Edge) (settled : List Edge) (givens : List Given) → has_one_top top e ≡ true → list_any (is_same e) settled ≡ false →
      BindsMore top (e ∷ []) settled givens (with_edge settled e) (givens ++ top_given top e ∷ [])
  binds_new e settled givens one new named start es h =
      let out = or_parts (is_paired named e) (list_any (is_same e) es) (sym (h.settled e one) ∙ new) in
      let is : is_bound top named e ≡ true = rw (one, out.0) refl in
      record {
        settled = λ f one. any_with_edge settled e f ∙ ap (λ b. b || is_same f e) (h.settled f one) ∙ any_more named es f e;
        bound =
            ap (λ gs. gs ++ top_given top e ∷ []) h.bound ∙ append_assoc start (map (top_given top) (filter (is_bound top named) (distinct es))) (top_given top e ∷ []) ∙
            ap (λ gs. start ++ gs) (sym (ap (map (top_given top)) (chosen_more (is_bound top named) es e is out.1) ∙
            map-append (top_given top) (filter (is_bound top named) (distinct es)) (e ∷ [])));
      }

-- ---- where a step was taken

pub negated : (b : Bool) → not b ≡ false → b ≡ true
negated true h = refl
negated false h = sym h

pub unnegated : (b : Bool) → not b ≡ true → b ≡ false
unnegated true h = sym h
unnegated false h = refl

pub in_place : (top : List ℕ) (e : Edge) (settled table : List Edge) (givens more : List Given) (g : Given) {T E : Type 0} (r : Result T E) → table ≡ with_edge settled e →
    top_given top e ≡ g → OnOk r (more ≡ givens ++ g ∷ []) → BindsMore top (e ∷ []) settled givens (with_edge settled e) (givens ++ top_given top e ∷ []) →
    OnOk r (BindsMore top (e ∷ []) settled givens table more)
in_place top e settled table givens more g (Err x) added is pushed binds = tt
in_place top e settled table givens more g (Ok x) added is pushed binds =
    let same : givens ++ top_given top e ∷ [] ≡ more = ap (λ h. givens ++ h ∷ []) is ∙ sym pushed in
    subst (λ gs. BindsMore top (e ∷ []) settled givens table gs) same
    (subst (λ (es : List Edge). BindsMore top (e ∷ []) settled givens es (givens ++ top_given top e ∷ [])) (sym added) binds)

-- ---- from the pairs that are named to the edges of all paths

all_there : (es : List Edge) → AllByRecursion (λ e. list_any (is_same e) es ≡ true) es
all_there es = recursion_from_All (λ e. list_any (is_same e) es ≡ true) es (λ k d lt. any_there es (get_or es k d) (Contains-get_or es k d lt))

-- what is settled at first
pub begins : (top : List ℕ) (pairs more : List (ℕ × ℕ)) (paths : List (List ℕ)) (first second third : List Edge) → SettlesMore top pairs [] first →
    SettlesMore top more first second → SettlesMore top (flat_map edges_on paths) second third →
    StandSettled top ((pairs ++ more) ++ flat_map edges_on paths) third
begins top pairs more paths first second third one two three =
    three (pairs ++ more) (two pairs (one [] (record { same = λ e is. refl })))

-- so edges are bound from there on
pub bound_first : (top : List ℕ) (pairs : List (ℕ × ℕ)) (paths : List (List ℕ)) (table : List Edge) (start : List Given) →
    StandSettled top (pairs ++ flat_map edges_on paths) table → AreBound top (pairs ++ flat_map edges_on paths) start (flat_map edges_on paths) table start
bound_first top pairs paths table start h = record {
  settled = λ e one. h.same e one ∙ paired e ∙ twice (is_paired pairs e) (list_any (is_same e) E) ∙ ap (λ b. b || list_any (is_same e) E) (sym (paired e));
  bound = sym (ap (λ (es : List Edge). start ++ map (top_given top) es) none ∙ append-nil start);
}
  where
    E : List Edge
    E = flat_map edges_on paths

    paired : (e : Edge) → is_paired (pairs ++ E) e ≡ (is_paired pairs e || list_any (is_same e) E)
    paired e = paired_append pairs E e ∙ ap (λ b. is_paired pairs e || b) (paired_edges E e (are_edges paths))

    twice : (a b : Bool) → (a || b) ≡ ((a || b) || b)
    twice true b = refl
    twice false true = refl
    twice false false = refl

    out : (es : List Edge) → AllByRecursion (λ e. list_any (is_same e) E ≡ true) es → AllByRecursion (λ e. is_bound top (pairs ++ E) e ≡ false) es
    out [] h = tt
    out (e ∷ es) h =
        let named : is_paired (pairs ++ E) e ≡ true = paired e ∙ or_right (is_paired pairs e) (list_any (is_same e) E) h.0 in
        (rw named (elim (cases_Bool (has_one_top top e)) [ inl t ↦ rw t refl | inr f ↦ rw f refl ]), out es h.1)

    none : filter (is_bound top (pairs ++ E)) (distinct E) ≡ []
    none = none_chosen (is_bound top (pairs ++ E)) E (out E (all_there E))

-- the pairs of the first paths may as well be their edges
pub pairs_listed : (pairs : List (ℕ × ℕ)) (paths : List (List ℕ)) (e : Edge) → is_paired (pairs ++ flat_map edges_on paths) e ≡ is_paired (pairs ++ edges paths) e
pairs_listed pairs paths e =
    paired_append pairs (flat_map edges_on paths) e ∙ ap (λ b. is_paired pairs e || b) (sym (any_distinct (λ f. is_same e (edge_of f.0 f.1)) (flat_map edges_on paths))) ∙
    sym (paired_append pairs (edges paths) e)

-- ---- one item more

module _ (top : List ℕ) where
  pub settles_given : (givens : List Given) (k : ℕ) (d : Given) (es fs gs : List Edge) → k < length givens → SettlesMore top (given_pairs (take k givens)) es fs →
      SettlesMore top (((get_or givens k d).over, (get_or givens k d).under) ∷ []) fs gs → SettlesMore top (given_pairs (take (k + 1) givens)) es gs
  settles_given givens k d es fs gs lt first second =
      let pair : Given → ℕ × ℕ = λ (g : Given). (g.over, g.under) in
      let next : given_pairs (take (k + 1) givens) ≡ given_pairs (take k givens) ++ pair (get_or givens k d) ∷ [] =
      ap given_pairs (take_more givens k d lt) ∙ map-append pair (take k givens) (get_or givens k d ∷ []) in
      subst (λ ps. SettlesMore top ps es gs) (sym next) (settles_then top (given_pairs (take k givens)) (pair (get_or givens k d) ∷ []) es fs gs first second)

  pub settles_listed : (pairs : List (ℕ × ℕ)) (k : ℕ) (d : ℕ × ℕ) (es fs gs : List Edge) → k < length pairs → SettlesMore top (take k pairs) es fs →
      SettlesMore top (get_or pairs k d ∷ []) fs gs → SettlesMore top (take (k + 1) pairs) es gs
  settles_listed pairs k d es fs gs lt first second =
      subst (λ ps. SettlesMore top ps es gs) (sym (take_more pairs k d lt)) (settles_then top (take k pairs) (get_or pairs k d ∷ []) es fs gs first second)

  -- the step of a path that ends in this place
  step_taken : (path : List ℕ) (k : ℕ) → 1 ≤ k → k < length path →
      edges_on (take (k + 1) path) ≡ edges_on (take k path) ++ edge_of (get_or path (k - 1) 0) (get_or path k 0) ∷ []
  step_taken path zero some lt = absurd (omega (arith, some))
  step_taken path (suc k) some lt =
      let e : suc k + 1 ≡ suc (suc k) = omega arith in
      let back : suc k - 1 ≡ k = omega arith in
      rw (e, back) (edges_on-more path k lt)

  pub settles_path : (path : List ℕ) (k : ℕ) (es fs gs : List Edge) → 1 ≤ k → k < length path → SettlesMore top (edges_on (take k path)) es fs →
      SettlesMore top ((get_or path (k - 1) 0, get_or path k 0) ∷ []) fs gs → SettlesMore top (edges_on (take (k + 1) path)) es gs
  settles_path path k es fs gs some lt first second =
      settles_step top (edges_on (take k path)) (edges_on (take (k + 1) path)) (get_or path (k - 1) 0) (get_or path k 0) es fs gs (step_taken path k some lt) first second

  pub binds_path : (path : List ℕ) (k : ℕ) (es fs gs : List Edge) (givens more most : List Given) → 1 ≤ k → k < length path → BindsMore top (edges_on (take k path)) es givens fs more →
      BindsMore top (edge_of (get_or path (k - 1) 0) (get_or path k 0) ∷ []) fs more gs most → BindsMore top (edges_on (take (k + 1) path)) es givens gs most
  binds_path path k es fs gs givens more most some lt first second =
      subst (λ ps. BindsMore top ps es givens gs most) (sym (step_taken path k some lt))
      (binds_then top (edges_on (take k path)) (edge_of (get_or path (k - 1) 0) (get_or path k 0) ∷ []) es fs gs givens more most first second)

  -- the edges of one path more
  path_taken : (paths : List (List ℕ)) (k : ℕ) (path : List ℕ) → slice_get paths k ≡ Some path → flat_map edges_on (take (k + 1) paths) ≡ flat_map edges_on (take k paths) ++ edges_on path
  path_taken paths k path at =
      ap (flat_map edges_on) (take_get paths k path at) ∙ flat_map-append edges_on (take k paths) (path ∷ []) ∙
      ap (λ (es : List Edge). flat_map edges_on (take k paths) ++ es) (append-nil (edges_on path))

  pub settles_paths : (paths : List (List ℕ)) (k : ℕ) (path : List ℕ) (es fs gs : List Edge) → slice_get paths k ≡ Some path → SettlesMore top (flat_map edges_on (take k paths)) es fs →
      SettlesMore top (edges_on path) fs gs → SettlesMore top (flat_map edges_on (take (k + 1) paths)) es gs
  settles_paths paths k path es fs gs at first second =
      subst (λ ps. SettlesMore top ps es gs) (sym (path_taken paths k path at)) (settles_then top (flat_map edges_on (take k paths)) (edges_on path) es fs gs first second)

  pub binds_paths : (paths : List (List ℕ)) (k : ℕ) (path : List ℕ) (fs gs : List Edge) (more most : List Given) (named : List (ℕ × ℕ)) (start : List Given) →
      slice_get paths k ≡ Some path → AreBound top named start (flat_map edges_on (take k paths)) fs more → BindsMore top (edges_on path) fs more gs most →
      AreBound top named start (flat_map edges_on (take (k + 1) paths)) gs most
  binds_paths paths k path fs gs more most named start at first second =
      subst (λ es. AreBound top named start es gs most) (sym (path_taken paths k path at)) (second named start (flat_map edges_on (take k paths)) first)

-- ---- what is bound in all

pub all_bound : (top members : List ℕ) (pairs : List (ℕ × ℕ)) (earlier paths : List (List ℕ)) (table : List Edge) (start givens : List Given) → HaveSameTop top members →
    AreBound members (pairs ++ flat_map edges_on earlier) start (flat_map edges_on paths) table givens →
    givens ≡ start ++ top_givens top (pairs ++ edges earlier) paths
all_bound top members pairs earlier paths table start givens same h =
    h.bound ∙ ap (λ gs. start ++ gs) (same_top_law members top (pairs ++ flat_map edges_on earlier) (pairs ++ edges earlier) paths (λ a. sym (same.same a)) (λ e t. pairs_listed pairs earlier e))

pub bound_behind : (top : List ℕ) (givens slice more : List Given) (others : List (ℕ × ℕ)) (paths : List (List ℕ)) (first : ℕ) (none one two three four : List Edge) {T E : Type 0} (r : Result T E) →
    slice ≡ givens → none ≡ [] → SettlesMore top (given_pairs slice) none one → SettlesMore top others one two → SettlesMore top (flat_map edges_on (take first paths)) two three →
    OnOk r ((named : List (ℕ × ℕ)) (start : List Given) → AreBound top named start (flat_map edges_on (take first paths)) three givens →
    AreBound top named start (flat_map edges_on paths) four more) →
    OnOk r (more ≡ givens ++ top_givens top ((given_pairs givens ++ others) ++ edges (take first paths)) paths)
bound_behind top givens slice more others paths first none one two three four (Err x) same empty a b c binds = tt
bound_behind top givens slice more others paths first none one two three four (Ok x) same empty a b c binds =
    let a' : SettlesMore top (given_pairs givens) [] one = subst (λ es. SettlesMore top (given_pairs givens) es one) empty (subst (λ gs. SettlesMore top (given_pairs gs) none one) same a) in
    let stand = begins top (given_pairs givens) others (take first paths) one two three a' b c in
    all_bound top top (given_pairs givens ++ others) (take first paths) paths four givens more (record { same = λ a. refl })
    (binds ((given_pairs givens ++ others) ++ flat_map edges_on (take first paths)) givens (bound_first top (given_pairs givens ++ others) (take first paths) three givens stand))

-- whatever the order in which the ASes stand
pub bound_by_any : (top members : List ℕ) (named : List (ℕ × ℕ)) (paths : List (List ℕ)) (givens more : List Given) → HaveSameTop top members →
    more ≡ givens ++ top_givens members named paths → more ≡ givens ++ top_givens top named paths
bound_by_any top members named paths givens more same is =
    is ∙ ap (λ gs. givens ++ gs) (same_top_law members top named named paths (λ a. sym (same.same a)) (λ e t. refl))

pub bound_tops : (top : List ℕ) (givens more : List Given) (others : List (ℕ × ℕ)) (edges_before : List (ℕ × ℕ)) (paths : List (List ℕ)) →
    more ≡ givens ++ top_givens top ((given_pairs givens ++ others) ++ edges_before) paths → more ≡ givens ++ top_givens top (given_pairs givens ++ (others ++ edges_before)) paths
bound_tops top givens more others before paths is = is ∙ ap (λ ps. givens ++ top_givens top ps paths) (append_assoc (given_pairs givens) others before)
