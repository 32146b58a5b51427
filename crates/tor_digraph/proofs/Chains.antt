-- The chains of arcs stay right as arcs and nodes come and go.
use Rattle.std.proofs.Common.{◌≡◌, ◌≢◌, ℕ, zero, suc, ◌+◌, ◌<◌, ◌≤◌, inl, inr, List, [], ◌∷◌, ◌++◌, Option, Some, None, length, take, set, refl, sym, ◌∙◌, ap, ap₂, subst, arith, length-append, length-set}
use Rattle.std.specs.Prelude.{slice_get, replicate, option_map, IfSome}
use Rattle.std.proofs.lemmas.List.{length_push, length-take-le}
use Rattle.std.proofs.lemmas.Option.{slice_get_within}
use Rattle.std.proofs.Math.Seq.{take-length}
use Rattle.tor_digraph.specs.Walks.{Net, IsArc, IsInside}
use Rattle.tor_digraph.specs.Links.{IsLatest, IsChained}
use Rattle.tor_arena.proofs.Gets.{slice_get-push_old, slice_get-push_cases, slice_get-push_last, slice_get-take, slice_get-take_back, slice_get-set_cases, slice_get-replicate, slice_get-append_cases}

abbrev net_with : {N : Type 0} → ℕ → List (N × N) → Net N
net_with nodes arcs = record { nodes = nodes; arcs = arcs }

pub same-net : {N : Type 0} (a b : Net N) → a.nodes ≡ b.nodes → a.arcs ≡ b.arcs → a ≡ b
same-net a b nodes arcs = ap₂ net_with nodes arcs

take-fewer : {X : Type 0} (m n : ℕ) (xs : List X) → m ≤ n → take m (take n xs) ≡ take m xs
take-fewer zero n xs le = refl
take-fewer (suc m) zero xs le = absurd (omega arith)
take-fewer (suc m) (suc n) [] le = refl
take-fewer (suc m) (suc n) (x ∷ xs) le = ap (λ z. x ∷ z) (take-fewer m n xs (omega arith))

module _ {N A : Type 0} (spot : A → ℕ) where
  latest-old : (arcs : List (N × N)) (e : N × N) (u : N) (high : ℕ) (r : Option A) → high ≤ length arcs → IsLatest spot arcs u high r → IsLatest spot (arcs ++ e ∷ []) u high r
  latest-old arcs e u high None le l = λ k v lo hi is. elim (slice_get-push_cases arcs e k (u, v) is) [ inl q ↦ l k v lo hi q | inr q ↦ omega arith ]
  latest-old arcs e u high (Some a) le l = (
    l.0,
    (l.1.0, slice_get-push_old arcs (e ∷ []) (spot a) (u, l.1.0) l.1.1),
    λ k v lo hi is. elim (slice_get-push_cases arcs e k (u, v) is) [ inl q ↦ l.2 k v lo hi q | inr q ↦ omega arith ],
  )

  latest-more : (arcs : List (N × N)) (t h : N) (u : N) (high : ℕ) (r : Option A) → high ≡ length arcs + 1 → (u ≡ t → ⊥) →
      IsLatest spot arcs u (length arcs) r → IsLatest spot (arcs ++ (t, h) ∷ []) u high r
  latest-more arcs t h u high None is-high ne l =
      λ k v lo hi is. elim (slice_get-push_cases arcs (t, h) k (u, v) is) [
        | inl q ↦ l k v lo (slice_get_within arcs k (u, v) q) q
        | inr q ↦
            ne (ap (λ p. p.0) q.1)
      ]
  latest-more arcs t h u high (Some a) is-high ne l = (
    omega arith,
    (l.1.0, slice_get-push_old arcs ((t, h) ∷ []) (spot a) (u, l.1.0) l.1.1),
    λ k v lo hi is. elim (slice_get-push_cases arcs (t, h) k (u, v) is) [
      | inl q ↦ l.2 k v lo (slice_get_within arcs k (u, v) q) q
      | inr q ↦
          ne (ap (λ p. p.0) q.1)
    ],
  )

  latest-cut : (m : ℕ) (arcs : List (N × N)) (u : N) (high : ℕ) (r : Option A) → high ≤ m → IsLatest spot arcs u high r → IsLatest spot (take m arcs) u high r
  latest-cut m arcs u high None le l = λ k v lo hi is. l k v lo hi (slice_get-take m arcs k (u, v) is).1
  latest-cut m arcs u high (Some a) le l = let below : spot a < high = l.0 in (
    l.0,
    (l.1.0, slice_get-take_back m arcs (spot a) (u, l.1.0) (omega arith) l.1.1),
    λ k v lo hi is. l.2 k v lo hi (slice_get-take m arcs k (u, v) is).1,
  )

  -- the latest arc is not the last of all, so it is the latest of those before
  latest-less : (m : ℕ) (arcs : List (N × N)) (t h u : N) (r : Option A) → length arcs ≡ m + 1 → IsArc arcs m t h → (u ≡ t → ⊥) → IsLatest spot arcs u (length arcs) r → IsLatest spot arcs u m r
  latest-less m arcs t h u None n last ne l = λ k v lo hi is. l k v lo (omega arith) is
  latest-less m arcs t h u (Some a) n last ne l =
      let other : spot a ≢ m = λ q. ne (ap (λ p. p.0) (same-arc q)) in
      let below : spot a < length arcs = l.0 in
      (omega arith, l.1, λ k v lo hi is. l.2 k v lo (omega arith) is)
    where
      same-arc : spot a ≡ m → ◌≡◌ {A = N × N} (u, l.1.0) (t, h)
      same-arc q = let at : slice_get arcs m ≡ Some (u, l.1.0) = subst (λ i. slice_get arcs i ≡ Some (u, l.1.0)) q l.1.1 in cc

-- what the latest arc is by its place, it is by its index
module _ {N A : Type 0} (spot : A → ℕ) where
  latest-named : (arcs : List (N × N)) (u : N) (high : ℕ) (r : Option A) → IsLatest (λ k. k) arcs u high (option_map spot r) → IsLatest spot arcs u high r
  latest-named arcs u high None l = l
  latest-named arcs u high (Some a) l = l

  pub latest-by_index : (arcs : List (N × N)) (u : N) (high : ℕ) (at : Option ℕ) (r : Option A) → option_map spot r ≡ at → IsLatest (λ k. k) arcs u high at
      → IsLatest spot arcs u high r
  latest-by_index arcs u high at r is l = latest-named arcs u high r (subst (λ z. IsLatest (λ k. k) arcs u high z) (sym is) l)

-- its place has an index
pub latest-below : {N : Type 0} (arcs : List (N × N)) (u : N) (high most : ℕ) (at : Option ℕ) → high ≤ most → IsLatest (λ k. k) arcs u high at → IfSome at (λ k. k < most)
latest-below arcs u high most None le l = tt
latest-below arcs u high most (Some k) le l = let below : k < high = l.0 in omega (arith, below, le)

module _ {N A : Type 0} (place : N → ℕ) (spot : A → ℕ) (one : (u v : N) → place u ≡ place v → u ≡ v) (first : List (Option A)) (arcs : List (N × N)) (links : List (Option A)) where
  pub linked-add : (t h : N) (a : A) (r : Option A) → IsChained place spot first arcs links → place t < length first → place h < length first →
      spot a ≡ length arcs → slice_get first (place t) ≡ Some r → IsChained place spot (set first (place t) (Some a)) (arcs ++ (t, h) ∷ [])
      (links ++ r ∷ [])
  linked-add t h a r l t-in h-in a-is was = record {
    as_many = grind (arith, length_push (arcs) (t, h), length_push links r, l.as_many);
    tails = λ k u v is. rw (length-set first (place t) (Some a))
        (elim (slice_get-push_cases arcs (t, h) k (u, v) is) [
          | inl q ↦ l.tails k u v q
          | inr q ↦
              subst (λ x. place x < length first) (sym (ap (λ p. p.0) q.1)) t-in
        ]);
    heads = λ k u v is. rw (length-set first (place t) (Some a))
        (elim (slice_get-push_cases arcs (t, h) k (u, v) is) [
          | inl q ↦ l.heads k u v q
          | inr q ↦
              subst (λ x. place x < length first) (sym (ap (λ p. p.1) q.1)) h-in
        ]);
    latest = λ u r' is. elim (slice_get-set_cases first (place t) (Some a) (place u) r' is) [
      | inl q ↦ subst (λ x. IsLatest spot (arcs ++ (t, h) ∷ []) x (length (arcs ++ (t, h) ∷ [])) r') (sym (one u t q.0))
          (subst (λ x. IsLatest spot (arcs ++ (t, h) ∷ []) t (length (arcs ++ (t, h) ∷ [])) x) (sym q.1) newest)
      | inr q ↦ latest-more spot arcs t h u (length (arcs ++ (t, h) ∷ [])) r' (length_push arcs (t, h)) (λ e. q.0 (ap place e)) (l.latest u r' q.1)
    ];
    before = λ k u v r' is at. elim (slice_get-push_cases links r k r' at) [
      | inl q ↦ older k u v r' is q
      | inr q ↦ newer k u v r' is q.0 q.1
    ];
  }
    where
      newest : IsLatest spot (arcs ++ (t, h) ∷ []) t (length (arcs ++ (t, h) ∷ [])) (Some a)
      newest = let n : length (arcs ++ (t, h) ∷ []) ≡ length arcs + 1 = length_push arcs (t, h) in
          (omega arith, (h, rw a-is (slice_get-push_last arcs (t, h))), λ k v lo hi is. omega arith)

      older : (k : ℕ) (u v : N) (r' : Option A) → IsArc (arcs ++ (t, h) ∷ []) k u v → slice_get links k ≡ Some r' → IsLatest spot (arcs ++ (t, h) ∷ []) u k r'
      older k u v r' is at =
          let in-links : k < length links = slice_get_within links k r' at in
          let many : length links ≡ length arcs = l.as_many in
          latest-old spot arcs (t, h) u k r' (omega arith) (l.before k u v r' (elim (slice_get-push_cases arcs (t, h) k (u, v) is) [ inl q ↦ q | inr q ↦ absurd (omega arith) ]) at)

      newer : (k : ℕ) (u v : N) (r' : Option A) → IsArc (arcs ++ (t, h) ∷ []) k u v → k ≡ length links → r' ≡ r → IsLatest spot (arcs ++ (t, h) ∷ []) u k r'
      newer k u v r' is at same =
          let many : length links ≡ length arcs = l.as_many in
          let k-is : k ≡ length arcs = omega arith in
          elim (slice_get-push_cases arcs (t, h) k (u, v) is) [
            | inl q ↦ (let below : k < length arcs = slice_get_within arcs k (u, v) q in absurd (omega arith))
            | inr q ↦ subst (λ x. IsLatest spot (arcs ++ (t, h) ∷ []) x k r') (sym (ap (λ p. p.0) q.1))
                (subst (λ x. IsLatest spot (arcs ++ (t, h) ∷ []) t k x) (sym same)
                (subst (λ i. IsLatest spot (arcs ++ (t, h) ∷ []) t i r) (sym k-is)
                (latest-old spot arcs (t, h) t (length arcs) r (omega arith) (l.latest t r was))))
          ]

  -- the same, of lists that were made step by step
  pub linked-add_made : (t h : N) (a : A) (r : Option A) → IsChained place spot first arcs links → place t < length first → place h < length first
      → (arcs' : List (N × N)) (links' : List (Option A)) → arcs' ≡ arcs → links' ≡ links → spot a ≡ length arcs' → slice_get first (place t) ≡ Some r
      → (first'' : List (Option A)) (arcs'' : List (N × N)) (links'' : List (Option A)) → first'' ≡ set first (place t) (Some a) →
      arcs'' ≡ arcs' ++ (t, h) ∷ [] → links'' ≡ links' ++ r ∷ [] → IsChained place spot first'' arcs'' links''
  linked-add_made t h a r l t-in h-in arcs' links' e-arcs e-links a-is was first'' arcs'' links'' e-first'' e-arcs'' e-links'' =
      rw (e-first'', e-arcs'', e-links'', e-arcs, e-links) (linked-add t h a r l t-in h-in (a-is ∙ ap length e-arcs) was)

  pub linked-drop : (m : ℕ) (t h : N) (r : Option A) → IsChained place spot first arcs links → length arcs ≡ m + 1 → IsArc arcs m t h →
      slice_get links m ≡ Some r → IsChained place spot (set first (place t) r) (take m arcs) (take m links)
  linked-drop m t h r l n last at = record {
    as_many = (let many : length links ≡ length arcs = l.as_many in let a : length (take m arcs) ≡ m = length-take-le m arcs (omega arith) in
        let b : length (take m links) ≡ m = length-take-le m links (omega arith) in omega arith);
    tails = λ k u v is. rw (length-set first (place t) r) (l.tails k u v (slice_get-take m arcs k (u, v) is).1);
    heads = λ k u v is. rw (length-set first (place t) r) (l.heads k u v (slice_get-take m arcs k (u, v) is).1);
    latest = λ u r' is. rw (length-take-le m arcs (omega arith)) (elim (slice_get-set_cases first (place t) r (place u) r' is) [
      | inl q ↦ subst (λ x. IsLatest spot (take m arcs) x m r') (sym (one u t q.0))
          (subst (λ x. IsLatest spot (take m arcs) t m x) (sym q.1) (latest-cut spot m arcs t m r (omega arith) (l.before m t h r last at)))
      | inr q ↦ latest-cut spot m arcs u m r' (omega arith) (latest-less spot m arcs t h u r' n last (λ e. q.0 (ap place e)) (l.latest u r' q.1))
    ]);
    before = λ k u v r' is at'. (let is' : (k < m) × IsArc arcs k u v = slice_get-take m arcs k (u, v) is in
        latest-cut spot m arcs u k r' (omega arith) (l.before k u v r' is'.1 (slice_get-take m links k r' at').1));
  }

  -- the last of the first m + 1 arcs is taken away, its tail knows the one before it again
  pub linked-drop_made : (n m : ℕ) (t h : N) (r : Option A) (all : List (N × N)) (rest : List (Option A)) → n ≡ m + 1 → n ≤ length all →
      arcs ≡ take n all → links ≡ take n rest → IsChained place spot first arcs links → IsArc all m t h → slice_get rest m ≡ Some r
      → (first' : List (Option A)) → first' ≡ set first (place t) r → IsChained place spot first' (take m all) (take m rest)
  linked-drop_made n m t h r all rest is-n le e-arcs e-links l last at first' e-first = rw e-first
      (subst (λ z. IsChained place spot (set first (place t) r) z (take m rest)) (ap (take m) e-arcs ∙ take-fewer m n all (omega arith))
      (subst (λ z. IsChained place spot (set first (place t) r) (take m arcs) z) (ap (take m) e-links ∙ take-fewer m n rest (omega arith))
      (linked-drop m t h r l (ap length e-arcs ∙ length-take-le n all le ∙ is-n)
      (rw e-arcs (slice_get-take_back n all m (t, h) (omega arith) last))
      (rw e-links (slice_get-take_back n rest m r (omega arith) at)))))

  pub linked-more_nodes : (n : ℕ) → IsChained place spot first arcs links → IsChained place spot (first ++ replicate n None) arcs links
  linked-more_nodes n l = record {
    as_many = l.as_many;
    tails = λ k u v is. (let old : place u < length first = l.tails k u v is in rw (length-append first (replicate n None)) (omega arith));
    heads = λ k u v is. (let old : place v < length first = l.heads k u v is in rw (length-append first (replicate n None)) (omega arith));
    latest = λ u r is. elim (slice_get-append_cases first (replicate n None) (place u) r is) [
      | inl q ↦ l.latest u r q
      | inr q ↦ subst (λ x. IsLatest spot arcs u (length arcs) x) (sym (slice_get-replicate n None q.0 r q.2))
          (λ k v lo hi at. (let old : place u < length first = l.tails k u v at in let is-at : place u ≡ length first + q.0 = q.1 in omega arith))
    ];
    before = l.before;
  }

  pub linked-more_nodes_made : (n : ℕ) (x : Option A) → IsChained place spot first arcs links → x ≡ None →
      (first' : List (Option A)) → first' ≡ first ++ replicate n x → IsChained place spot first' arcs links
  linked-more_nodes_made n x l is first' e = rw (e, is) (linked-more_nodes n l)

  pub linked-fewer_nodes : (m : ℕ) → IsChained place spot first arcs links → m ≤ length first → IsInside place (record { nodes = m; arcs = arcs }) → IsChained place spot (take m first) arcs links
  linked-fewer_nodes m l le inside = record {
    as_many = l.as_many;
    tails = λ k u v is. rw (length-take-le m first le) (inside.tails k u v is);
    heads = λ k u v is. rw (length-take-le m first le) (inside.heads k u v is);
    latest = λ u r is. l.latest u r (slice_get-take m first (place u) r is).1;
    before = l.before;
  }

module _ {N A : Type 0} (place : N → ℕ) (spot : A → ℕ) (one : (u v : N) → place u ≡ place v → u ≡ v) where
  -- the first arcs alone are chained, so nodes without them can go too
  pub linked-undo : (first first' : List (Option A)) (arcs arcs' was : List (N × N)) (links links' : List (Option A)) (left n m : ℕ) → left ≡ n →
      IsChained place spot first (take left arcs) (take left links) → m ≤ length first → arcs ≡ was →
      IsInside place (record { nodes = m; arcs = take n was })
      → first' ≡ take m first → arcs' ≡ take n arcs → links' ≡ take n links → IsChained place spot first' arcs' links'
  linked-undo first first' arcs arcs' was links links' left n m is-n l le e-was inside e-first e-arcs e-links = rw (e-first, e-arcs, e-links)
      (linked-fewer_nodes place spot one first (take n arcs) (take n links) m (subst (λ k. IsChained place spot first (take k arcs) (take k links)) is-n l) le
      (subst (λ z. IsInside place (record { nodes = m; arcs = take n z })) (sym e-was) inside))

  -- all arcs are the first ones, so many as there are
  pub linked-whole : (first : List (Option A)) (arcs : List (N × N)) (links : List (Option A)) (n : ℕ) → n ≡ length arcs →
      IsChained place spot first arcs links → IsChained place spot first (take n arcs) (take n links)
  linked-whole first arcs links n e l = subst (λ z. IsChained place spot first z (take n links)) (sym (ap (λ k. take k arcs) e ∙ take-length arcs))
      (subst (λ z. IsChained place spot first arcs z) (sym (ap (λ k. take k links) (e ∙ sym l.as_many) ∙ take-length links)) l)
