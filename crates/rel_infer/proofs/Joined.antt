-- What is said of the first paths, and of those behind them, is said of all.
use Rattle.std.proofs.Common.{◌≡◌, ℕ, suc, ◌+◌, true, false, Bool, List, [], ◌∷◌, ◌++◌, length, map, is_none, Option, Some, None, refl, sym, ap, ◌∙◌, subst, arith, append_assoc, append-nil}
use Rattle.relationships.specs.declared.given.Given.{Given}
use Rattle.relationships.specs.declared.fate.Fate.{Fate}
use Rattle.relationships.specs.declared.fate.Fate.TheVariants.{Kept, Lost}
use Rattle.relationships.specs.declared.walk.Walk.{Walk}
use Rattle.relationships.specs.Evidence.{Numbered, paths_of, kept_from}
use Rattle.relationships.specs.Fates.{walk_of}
use Rattle.relationships.specs.Selection.{KeepsFrom}
use Rattle.relationships.specs.GivenEvidence.{LostFromWith}

pub kept_joined : (n : ℕ) (ps qs : List (List ℕ)) (ks ls : List Bool) → length ks ≡ length ps → kept_from n (ps ++ qs) (ks ++ ls) ≡ kept_from n ps ks ++ kept_from (n + length ps) qs ls
kept_joined n [] qs [] ls e = let z : n ≡ n + 0 = omega arith in ap (λ m. kept_from m qs ls) z
kept_joined n [] qs (k ∷ ks) ls e = absurd (omega (arith, e))
kept_joined n (p ∷ ps) qs [] ls e = absurd (omega (arith, e))
kept_joined n (p ∷ ps) qs (true ∷ ks) ls e =
    let z : n + 1 + length ps ≡ n + suc (length ps) = omega arith in
    ap (λ (l : Numbered). (n, p) ∷ l) (kept_joined (n + 1) ps qs ks ls (omega (arith, e)) ∙ ap (λ m. kept_from (n + 1) ps ks ++ kept_from m qs ls) z)
kept_joined n (p ∷ ps) qs (false ∷ ks) ls e =
    let z : n + 1 + length ps ≡ n + suc (length ps) = omega arith in
    kept_joined (n + 1) ps qs ks ls (omega (arith, e)) ∙ ap (λ m. kept_from (n + 1) ps ks ++ kept_from m qs ls) z

pub keeps_joined : (kept ps qs : List (List ℕ)) (n : ℕ) (ks ls : List Bool) → KeepsFrom kept ps ks → KeepsFrom (kept ++ paths_of (kept_from n ps ks)) qs ls →
    KeepsFrom kept (ps ++ qs) (ks ++ ls)
keeps_joined kept [] qs n [] ls h k = subst (λ some. KeepsFrom some qs ls) (append-nil kept) k
keeps_joined kept [] qs n (keep ∷ ks) ls h k = absurd h
keeps_joined kept (p ∷ ps) qs n [] ls h k = absurd h
keeps_joined kept (p ∷ ps) qs n (true ∷ ks) ls h k =
    (h.0, keeps_joined (kept ++ p ∷ []) ps qs (n + 1) ks ls h.1 (subst (λ some. KeepsFrom some qs ls) (sym (append_assoc kept (p ∷ []) (paths_of (kept_from (n + 1) ps ks)))) k))
keeps_joined kept (p ∷ ps) qs n (false ∷ ks) ls h k = (h.0, keeps_joined kept ps qs (n + 1) ks ls h.1 k)

module _ (givens : List Given) where
  pub lost_joined : (n : ℕ) (A : Numbered) (ps qs : List (List ℕ)) (ws vs : List (Option Walk)) → LostFromWith givens n A ps ws →
      LostFromWith givens (n + length ps) (A ++ kept_from n ps (map is_none ws)) qs vs → LostFromWith givens n A (ps ++ qs) (ws ++ vs)
  lost_joined n A [] qs [] vs h k =
      let z : n + 0 ≡ n = omega arith in subst (λ (B : Numbered). LostFromWith givens n B qs vs) (append-nil A) (subst (λ m. LostFromWith givens m (A ++ []) qs vs) z k)
  lost_joined n A [] qs (w ∷ ws) vs h k = absurd h
  lost_joined n A (p ∷ ps) qs [] vs h k = absurd h
  lost_joined n A (p ∷ ps) qs (None ∷ ws) vs h k =
      let z : n + suc (length ps) ≡ n + 1 + length ps = omega arith in
      let rest = kept_from (n + 1) ps (map is_none ws) in
      lost_joined (n + 1) (A ++ (n, p) ∷ []) ps qs ws vs h
      (subst (λ (B : Numbered). LostFromWith givens (n + 1 + length ps) B qs vs) (sym (append_assoc A ((n, p) ∷ []) rest))
      (subst (λ m. LostFromWith givens m (A ++ ((n, p) ∷ rest)) qs vs) z k))
  lost_joined n A (p ∷ ps) qs (Some w ∷ ws) vs h k =
      let z : n + suc (length ps) ≡ n + 1 + length ps = omega arith in
      (h.0, lost_joined (n + 1) A ps qs ws vs h.1 (subst (λ m. LostFromWith givens m (A ++ kept_from (n + 1) ps (map is_none ws)) qs vs) z k))

-- what becomes of a path is its walk
fate_same : (f g : Fate) → walk_of f ≡ walk_of g → f ≡ g
fate_same Kept Kept e = refl
fate_same Kept (Lost w) e = absurd (cc e)
fate_same (Lost v) Kept e = absurd (cc e)
fate_same (Lost v) (Lost w) e = let same : v ≡ w = cc in ap (λ (w : Walk). Lost w) same

pub fates_same : (fs gs : List Fate) → map walk_of fs ≡ map walk_of gs → fs ≡ gs
fates_same [] [] e = refl
fates_same [] (g ∷ gs) e = absurd cc
fates_same (f ∷ fs) [] e = absurd cc
fates_same (f ∷ fs) (g ∷ gs) e =
    let first : walk_of f ≡ walk_of g = cc in
    let rest : map walk_of fs ≡ map walk_of gs = cc in
    both (fate_same f g first) (fates_same fs gs rest)
  where
    both : {f g : Fate} {fs gs : List Fate} → f ≡ g → fs ≡ gs → f ∷ fs ≡ g ∷ gs
    both e h = cc
