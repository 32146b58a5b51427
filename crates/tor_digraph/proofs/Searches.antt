-- Between what is kept of a finished search, and a search under way.
use Rattle.std.proofs.Common.{◌≡◌, ℕ, zero, suc, ◌+◌, ◌<◌, ◌≤◌, ◌⊎◌, inl, inr, List, [], ◌∷◌, ◌++◌, Option, Some, None, Ok, Err, length, set, take, refl, sym, ◌∙◌, ap, subst, arith, length-append}
use Rattle.std.specs.Prelude.{slice_get, replicate, ◌↔◌, Result, OnOk, OnErr, IfOk, Contains}
use Rattle.std.proofs.lemmas.List.{length-replicate}
use Rattle.std.proofs.lemmas.Option.{same_Some, slice_get_within}
use Rattle.tor_digraph.specs.Walks.{HasArc, Reaches, here, along, IsWay}
use Rattle.tor_digraph.specs.Links.{IsLatest}
use Rattle.tor_digraph.specs.Closing.{Has}
use Rattle.tor_digraph.specs.Found.{IsSeen, IsFound, IsRoot, IsForest, IsTree, LeadsFromRoot}
use Rattle.tor_digraph.specs.Search.{IsSearch, IsGrowth}
use Rattle.tor_digraph.specs.Reached.{Reach, AreSeen, IsSearched, IsGrown, IsReach, IsBlank, LeadsFromStart, LeadsFromSome}
use Rattle.tor_digraph.specs.declared.found.Found.{Found}
use Rattle.tor_digraph.specs.declared.found.Found.TheVariants.{No, Start, Along}
use Rattle.tor_digraph.specs.declared.found.Open.{Open}
use Rattle.tor_digraph.specs.declared.way.Way.{Way}
use Rattle.tor_arena.proofs.Gets.{has-from_Contains, Contains-from_has, slice_get-some, slice_get-set_cases, slice_get-set_same, slice_get-take, slice_get-replicate, slice_get-append_cases}
use Rattle.tor_digraph.proofs.Few.{few}
use Rattle.tor_digraph.proofs.Steps.{search-open, seen-not_no, has-cases}

pub length-copies : {X : Type 0} (xs : List X) (n m : ℕ) (x : X) → length xs + n ≡ m → length (xs ++ replicate n x) ≡ m
length-copies xs n m x h = omega (arith, length-append xs (replicate n x), length-replicate n x, h)

module _ {N A : Type 0} (place : N → ℕ) (spot : A → ℕ) (one : (u v : N) → place u ≡ place v → u ≡ v) (arcs : List (N × N)) where
  pub search-start : (found : List (Found N A)) (nodes : List N) (s : N) (r : Option A) → IsSearch place spot arcs found nodes [] →
      slice_get found (place s) ≡ Some No → IsLatest spot arcs s (length arcs) r → (found' : List (Found N A)) (empty stack : List (Open N A)) →
      found' ≡ set found (place s) Start → empty ≡ [] → stack ≡ empty ++ (record { node = s; next = r }) ∷ [] →
      IsSearch place spot arcs found' nodes stack
  search-start found nodes s r w absent latest found' empty stack e-found e-empty e =
      subst (λ z. IsSearch place spot arcs z nodes stack) (sym e-found)
      (subst (λ z. IsSearch place spot arcs (set found (place s) Start) nodes z) (sym (e ∙ ap (λ z. z ++ (record { node = s; next = r }) ∷ []) e-empty))
      (search-open place spot one arcs found nodes [] s Start r w absent tt refl (λ i o at. (let bad : None ≡ Some o = at in cc)) latest (λ t a d q. (let bad : Start ≡ Along t a d = q in cc))))

  pub kept-search : (found : List (Found N A)) (nodes : List N) (count : ℕ) (v : Reach N A) → AreSeen place nodes found →
      record { nodes = nodes; found = found } ≡ v → IsSearched place spot count arcs v → IsSearch place spot arcs found nodes []
  kept-search found nodes count v k e searched = let s = subst (λ z. IsSearched place spot count arcs z) (sym e) searched in record {
    seen = λ x f. inl (k.seen x f);
    nodes_seen = k.nodes_seen;
    depths = λ i o at. (let bad : None ≡ Some o = at in cc);
    apart = λ i o at. (let bad : None ≡ Some o = at in cc);
    path = λ i j o p lt at. (let bad : None ≡ Some o = at in cc);
    once = λ i j o p lt at. (let bad : None ≡ Some o = at in cc);
    heads = λ x y h arc. k.nodes_seen y (has-from_Contains nodes y (s.heads x y (Contains-from_has nodes x h) arc));
    scanned = λ i o at. (let bad : None ≡ Some o = at in cc);
    next = λ i o a at. (let bad : None ≡ Some o = at in cc);
    order = s.order;
    tree = s.forest.along;
  }

  pub search-kept : (found : List (Found N A)) (nodes : List N) → IsSearch place spot arcs found nodes [] → AreSeen place nodes found
  search-kept found nodes s = record {
    seen = λ x f. elim (s.seen x f) [ inl h ↦ h | inr h ↦ (let bad : None ≡ Some h.1 = h.2 in cc) ];
    nodes_seen = s.nodes_seen;
    once = s.order.once;
    falls = λ x t a d at. (s.tree x t a d at).1;
  }

  pub search-searched : (found : List (Found N A)) (nodes : List N) (count : ℕ) → IsSearch place spot arcs found nodes [] → length found ≡ count →
      IsSearched place spot count arcs (record { nodes = nodes; found = found })
  search-searched found nodes count s many = let k = search-kept found nodes s in record {
    inside = λ x h. (let f = k.nodes_seen x (has-from_Contains nodes x h) in subst (λ n. place x < n) many (slice_get_within found (place x) f.0 f.1));
    heads = λ x y h arc. Contains-from_has nodes y (k.seen y (s.heads x y (has-from_Contains nodes x h) arc));
    order = s.order;
    forest = record { many = many; along = s.tree };
  }

  pub growth-grown : (start : N) (old nodes : List N) (found : List (Found N A)) → IsSearch place spot arcs found nodes [] →
      IsGrowth {A = A} arcs start old nodes [] → IsFound place found start → IsGrown arcs start old nodes
  growth-grown start old nodes found s w f = record { kept = w.kept; more = w.more; has_start = Contains-from_has nodes start ((search-kept found nodes s).seen start f) }

module _ {N A : Type 0} (arcs : List (N × N)) where
  pub growth-start : (nodes : List N) (s : N) (r : Option A) (empty stack : List (Open N A)) → empty ≡ [] → stack ≡ empty ++ (record { node = s; next = r }) ∷ [] → IsGrowth arcs s nodes nodes stack
  growth-start nodes s r empty stack e-empty e = subst (λ z. IsGrowth arcs s nodes nodes z) (sym (e ∙ ap (λ z. z ++ (record { node = s; next = r }) ∷ []) e-empty)) (record {
    kept = λ k x at. at;
    more = λ k x le at. (let below : k < length nodes = slice_get_within nodes k x at in absurd (omega arith));
    waiting = one-node;
  })
    where
      one-node : (k : ℕ) (o : Open N A) → slice_get ((record { node = s; next = r }) ∷ []) k ≡ Some o → Reaches arcs s o.node
      one-node zero o at = subst (λ z. Reaches arcs s z) (ap (λ z. z.node) (same_Some (record { node = s; next = r }) o at)) here
      one-node (suc k) o at = cc

module _ {N : Type 0} (arcs : List (N × N)) where
  pub grown-none : (start : N) (nodes : List N) → Contains nodes start → IsGrown arcs start nodes nodes
  grown-none start nodes h = record { kept = λ k x at. at; more = λ k x le at. (let below : k < length nodes = slice_get_within nodes k x at in absurd (omega arith)); has_start = h }

module _ {N A : Type 0} (place : N → ℕ) where
  pub start-found : (found found' : List (Found N A)) (s : N) → slice_get found (place s) ≡ Some No → found' ≡ set found (place s) Start → IsFound place found' s
  start-found found found' s absent e = (Start, rw e (slice_get-set_same found (place s) Start (slice_get_within found (place s) No absent)), tt)

  pub start-starts : (one : (u v : N) → place u ≡ place v → u ≡ v) (found found' : List (Found N A)) (s : N) → found' ≡ set found (place s) Start →
      (x : N) → slice_get found' (place x) ≡ Some Start → (slice_get found (place x) ≡ Some Start) ⊎ (x ≡ s)
  start-starts one found found' s e x at =
      elim (slice_get-set_cases found (place s) Start (place x) Start (subst (λ z. slice_get z (place x) ≡ Some Start) e at))
      [ inl p ↦ inr (one x s p.0) | inr p ↦ inl p.1 ]

  seen-same : (f e : Found N A) → f ≡ e → IsSeen e → f ≡ No → ⊥
  seen-same f e p s q = subst IsSeen (sym p ∙ q) s

  pub kept-has : (found : List (Found N A)) (nodes : List N) (v : Reach N A) (x : N) (f : Found N A) → AreSeen place nodes found →
      record { nodes = nodes; found = found } ≡ v → slice_get found (place x) ≡ Some f → (f ≡ No → ⊥) ↔ Contains v.nodes x
  kept-has found nodes v x f k e at = subst (λ z. (f ≡ No → ⊥) ↔ Contains z.nodes x) e
      ((λ h. Contains-from_has nodes x (k.seen x (f, at, seen-not_no f h))), (λ h. (let w = k.nodes_seen x (has-from_Contains nodes x h) in seen-same f w.0 (same_Some f w.0 (sym at ∙ w.1)) w.2)))

  pub kept-has_not : (found : List (Found N A)) (nodes : List N) (v : Reach N A) (x : N) → AreSeen place nodes found →
      record { nodes = nodes; found = found } ≡ v → length found ≤ place x → Contains v.nodes x → ⊥
  kept-has_not found nodes v x k e le h = let w = k.nodes_seen x (has-from_Contains nodes x (subst (λ z. Contains z.nodes x) (sym e) h)) in
      let below : place x < length found = slice_get_within found (place x) w.0 w.1 in omega arith

  no-or-seen : (f : Found N A) → (f ≡ No) ⊎ IsSeen f
  no-or-seen No = inl refl
  no-or-seen Start = inr tt
  no-or-seen (Along t a d) = inr tt

  pub kept-absent : (found : List (Found N A)) (nodes : List N) (v : Reach N A) (x : N) → AreSeen place nodes found →
      record { nodes = nodes; found = found } ≡ v → place x < length found → (Has v.nodes x → ⊥) → slice_get found (place x) ≡ Some No
  kept-absent found nodes v x k e lt h = let w = slice_get-some found (place x) lt in elim (no-or-seen w.0) [
    | inl q ↦ w.1 ∙ ap Some q
    | inr q ↦ absurd (h (subst (λ z. Has z.nodes x) e (k.seen x (w.0, w.1, q))))
  ]

  pub kept-nothing : (found : List (Found N A)) (nodes : List N) → found ≡ [] → nodes ≡ [] → AreSeen place nodes found
  kept-nothing found nodes e-found e-nodes = rw (e-found, e-nodes) (record {
    seen = λ x f. (let bad : None ≡ Some f.0 = f.1 in cc);
    nodes_seen = λ x h. (let bad : None ≡ Some x = h.1 in cc);
    once = λ i j x at. (let bad : None ≡ Some x = at in cc);
    falls = λ x t a d at. (let bad : None ≡ Some (Along t a d) = at in cc);
  })

  pub blank-pop : (one : (u v : N) → place u ≡ place v → u ≡ v) (found found' : List (Found N A)) (nodes rest : List N) (x : N) →
      nodes ≡ rest ++ x ∷ [] → found' ≡ set found (place x) No → ((y : N) → IsFound place found y → Has nodes y) → (y : N) → IsFound place found' y →
      Has rest y
  blank-pop one found found' nodes rest x e e-found seen y f = elim (slice_get-set_cases found (place x) No (place y) f.0 (subst (λ z. slice_get z (place y) ≡ Some f.0) e-found f.1)) [
    | inl p ↦ absurd (subst IsSeen p.1 f.2)
    | inr p ↦ elim (has-cases rest x y (subst (λ z. Has z y) e (seen y (f.0, p.1, f.2)))) [
      | inl h ↦ h
      | inr q ↦ absurd (p.0 (ap place q))
    ]
  ]

  pub blank-more : (found : List (Found N A)) (n : ℕ) → ((x : N) → IsFound place found x → ⊥) → (x : N) → IsFound place (found ++ replicate n No) x → ⊥
  blank-more found n none x f = elim (slice_get-append_cases found (replicate n No) (place x) f.0 f.1) [
    | inl p ↦ none x (f.0, p, f.2)
    | inr p ↦ subst IsSeen (slice_get-replicate n No p.0 f.0 p.2) f.2
  ]

  pub blank-cut : (found : List (Found N A)) (m : ℕ) → ((x : N) → IsFound place found x → ⊥) → (x : N) → IsFound place (take m found) x → ⊥
  blank-cut found m none x f = none x (f.0, (slice_get-take m found (place x) f.0 f.1).1, f.2)

  pub blank-kept : (found : List (Found N A)) (nodes : List N) → nodes ≡ [] → ((x : N) → IsFound place found x → ⊥) → AreSeen place nodes found
  blank-kept found nodes e none = rw e (record {
    seen = λ x f. absurd (none x f);
    nodes_seen = λ x h. (let bad : None ≡ Some x = h.1 in cc);
    once = λ i j x at. (let bad : None ≡ Some x = at in cc);
    falls = λ x t a d at. absurd (none x (Along t a d, at, tt));
  })

  pub blank-seen : (found : List (Found N A)) (nodes : List N) → found ≡ [] → nodes ≡ [] → AreSeen place nodes found
  blank-seen found nodes none e = blank-kept found nodes e
      (λ x f. (let bad : None ≡ Some f.0 = subst (λ z. slice_get z (place x) ≡ Some f.0) none f.1 in cc))

  pub blank-done : (found : List (Found N A)) (nodes : List N) → nodes ≡ [] → ((y : N) → IsFound place found y → Has nodes y) → (x : N) → IsFound place found x → ⊥
  blank-done found nodes e seen x f = let h = subst (λ z. Has z x) e (seen x f) in let bad : None ≡ Some x = h.1 in cc

  pub blank-copies : {T E : Type 0} (r : Result T E) (found new : List (Found N A)) (n : ℕ) → OnOk r (new ≡ found ++ replicate n No) →
      OnErr r (new ≡ found) → ((x : N) → IsFound place found x → ⊥) → (x : N) → IsFound place new x → ⊥
  blank-copies (Ok t) found new n ok err none = rw ok (blank-more found n none)
  blank-copies (Err e) found new n ok err none = rw err none

module _ {N A : Type 0} (place : N → ℕ) (spot : A → ℕ) (arcs : List (N × N)) where
  pub blank-searched : (count : ℕ) (v : Reach N A) → IsBlank place count v → IsSearched place spot count arcs v
  blank-searched count v b = record {
    inside = λ x h. absurd (none x (has-from_Contains v.nodes x h));
    heads = λ x y h. absurd (none x (has-from_Contains v.nodes x h));
    order = record { once = λ i j x at. absurd (none x (i, at)); exits = λ k x at. absurd (none x (k, at)) };
    forest = record { many = b.many; along = λ x t a d at. absurd (b.not_found x (Along t a d, at, tt)) };
  }
    where
      none : (x : N) → Has v.nodes x → ⊥
      none x h = let bad : None ≡ Some x = subst (λ z. slice_get z h.0 ≡ Some x) b.none h.1 in cc

  pub searched-closed : (count : ℕ) (v : Reach N A) → IsSearched place spot count arcs v → (x y : N) → Has v.nodes x → HasArc arcs x y → Has v.nodes y
  searched-closed count v s x y h arc = has-from_Contains v.nodes y (s.heads x y (Contains-from_has v.nodes x h) arc)

  searched-walk : (count : ℕ) (v : Reach N A) → IsSearched place spot count arcs v → {x y : N} → Contains v.nodes x → Reaches arcs x y → Contains v.nodes y
  searched-walk count v s h here = h
  searched-walk count v s h (along {b} {c} p arc) = s.heads b c (searched-walk count v s h p) arc

  pub grown-reach : (count : ℕ) (start : N) (old new : Reach N A) → IsBlank place count old → IsSearched place spot count arcs new →
      IsGrown arcs start old.nodes new.nodes → ((x : N) → slice_get new.found (place x) ≡ Some Start → (slice_get old.found (place x) ≡ Some Start) ⊎
      (x ≡ start)) → IsReach place spot arcs start new
  grown-reach count start old new b s w root = record {
    exact = λ x. ((λ h. (let at = has-from_Contains new.nodes x h in w.more at.0 x (rw b.none (omega arith)) at.1)), (λ r. searched-walk count new s w.has_start r));
    once = s.order.once;
    tree = record { along = s.forest.along; root = λ x at. elim (root x at) [ inl p ↦ absurd (b.not_found x (Start, p, tt)) | inr p ↦ p ] };
  }

  pub grown-reach_ok : {T E : Type 0} (r : Result T E) (count : ℕ) (start : N) (old new : Reach N A) → IsBlank place count old →
      OnOk r (IsSearched place spot count arcs new) → OnOk r (IsGrown arcs start old.nodes new.nodes) →
      OnOk r ((x : N) → slice_get new.found (place x) ≡ Some Start → (slice_get old.found (place x) ≡ Some Start) ⊎ (x ≡ start)) →
      OnOk r (IsReach place spot arcs start new)
  grown-reach_ok (Ok t) count start old new b s w root = grown-reach count start old new b s w root
  grown-reach_ok (Err e) count start old new b s w root = s

module _ {N A : Type 0} (place : N → ℕ) (spot : A → ℕ) (found : List (Found N A)) (nodes : List N) (v : Reach N A) (x : N) (way : Way N A) where
  pub way-start_of : record { nodes = nodes; found = found } ≡ v → LeadsFromRoot place spot found x way.nodes way.arcs → LeadsFromStart place spot v x way
  way-start_of e w arcs start r =
      let tree = subst (λ (z : Reach N A). IsTree place spot arcs start z.found) (sym e) r.tree in
      subst (λ s. IsWay spot arcs s x way.nodes way.arcs) (tree.root w.0 w.1) (w.2 arcs tree.along)

  pub way-some_of : record { nodes = nodes; found = found } ≡ v → LeadsFromRoot place spot found x way.nodes way.arcs → LeadsFromSome place spot v x way
  way-some_of e w count arcs r =
      let forest = subst (λ (z : Reach N A). IsForest place spot count arcs z.found) (sym e) r.forest in
      (w.0, subst (λ (z : Reach N A). IsRoot place z.found w.0) e w.1, w.2 arcs forest.along)

pub if_ok_weaker : {T E : Type 0} {P Q : T → Type 0} (r : Result T E) → ((x : T) → P x → Q x) → IfOk r P → IfOk r Q
if_ok_weaker (Ok x) f h = f x h
if_ok_weaker (Err e) f h = h

-- there are at most as many nodes as places
pub kept-few : {N A : Type 0} (place : N → ℕ) → ((u v : N) → place u ≡ place v → u ≡ v) → (found : List (Found N A)) (nodes : List N) → AreSeen place nodes found → length nodes ≤ length found
kept-few place one found nodes k =
    few place nodes (length found) (λ i j x y lt a b e. (let same : i ≡ j = k.once i j x a (b ∙ ap Some (sym (one x y e))) in omega arith))
    (λ i x at. (let w = k.nodes_seen x (i, at) in slice_get_within found (place x) w.0 w.1))
