-- What lines that meet the rules on lost walks and on why walks give together.
use Rattle.std.proofs.Common.{◌≡◌, ℕ, zero, suc, ◌+◌, List, [], ◌∷◌, ◌++◌, map, take, Option, Some, is_none, slice_get, refl, sym, ap, ◌∙◌, subst, arith, append_assoc, append-nil}
use Rattle.std.proofs.lemmas.Option.{slice_get_within}
use Rattle.std.proofs.lemmas.List.{take-map}
use Rattle.relationships.specs.declared.walk.Walk.{Walk}
use Rattle.relationships.specs.declared.given.Given.{Given}
use Rattle.relationships.specs.Evidence.{Numbered, kept_from, EndsWith}
use Rattle.relationships.specs.GivenEvidence.{RefutesWith, ShowsWith, ShowFromWith, LostFromWith}
use Rattle.relationships.specs.declared.fate.Fate.{Fate}
use Rattle.relationships.specs.declared.fate.Fate.TheVariants.{Kept, Lost}
use Rattle.result_text.specs.declared.file.PathLine.{PathLine}
use Rattle.result_text.specs.declared.file.ResultFile.{ResultFile}
use Rattle.relationships.specs.Fates.{walk_of}
use Rattle.result_rules.specs.File.{its_givens, its_paths, its_walks, its_kept, last_two, shown_orders}
use Rattle.result_rules.specs.declared.rule.Rule.TheVariants.{LostRefuted, OrdersShown}
use Rattle.result_rules.specs.Rules.{IsMet}

abbrev pub paths_in : List PathLine → List (List ℕ)
paths_in lines = map (λ (p : PathLine). p.path) lines

abbrev pub walks_in : List PathLine → List (Option Walk)
walks_in lines = map (λ (p : PathLine). walk_of p.fate) lines

-- the kept ones of these lines, numbered from n with the others
abbrev pub kept_lines : ℕ → List PathLine → Numbered
kept_lines n lines = kept_from n (paths_in lines) (map is_none (walks_in lines))

-- ---- lost lines

module _ (givens : List Given) where
  -- each lost line of these, numbered from n and behind those that are kept, is refuted
  abbrev EachRefuted : ℕ → Numbered → List PathLine → Type 0
  EachRefuted n kept lines =
      (k : ℕ) (line : PathLine) (walk : Walk) → slice_get lines k ≡ Some line → line.fate ≡ Lost walk →
      RefutesWith givens (kept ++ (kept_lines n (take k lines) ++ (n + k, line.path) ∷ [])) walk

  number_on : (n k : ℕ) → n + suc k ≡ n + 1 + k
  number_on n k = omega arith

  kept_on : (n : ℕ) (kept : Numbered) (line : PathLine) (lines : List PathLine) → line.fate ≡ Kept → EachRefuted n kept (line ∷ lines) →
      EachRefuted (n + 1) (kept ++ (n, line.path) ∷ []) lines
  kept_on n kept line lines is h k other walk at lost =
      let r = h (suc k) other walk at lost in
      subst (λ A. RefutesWith givens A walk) (same line.fate is) r
    where
      same : (fate : Fate) → fate ≡ Kept →
          kept ++ (kept_from n (line.path ∷ paths_in (take k lines)) (is_none (walk_of fate) ∷ map is_none (walks_in (take k lines))) ++ (n + suc k, other.path) ∷ []) ≡
          (kept ++ (n, line.path) ∷ []) ++ (kept_lines (n + 1) (take k lines) ++ (n + 1 + k, other.path) ∷ [])
      same Kept e = rw (number_on n k) (sym (append_assoc kept ((n, line.path) ∷ []) (kept_lines (n + 1) (take k lines) ++ (n + 1 + k, other.path) ∷ [])))
      same (Lost w) e = absurd cc

  lost_on : (n : ℕ) (kept : Numbered) (line : PathLine) (lines : List PathLine) (lost : Walk) → line.fate ≡ Lost lost → EachRefuted n kept (line ∷ lines) →
      EachRefuted (n + 1) kept lines
  lost_on n kept line lines lost is h k other walk at other_lost =
      let r = h (suc k) other walk at other_lost in
      subst (λ A. RefutesWith givens A walk) (same line.fate is) r
    where
      same : (fate : Fate) → fate ≡ Lost lost →
          kept ++ (kept_from n (line.path ∷ paths_in (take k lines)) (is_none (walk_of fate) ∷ map is_none (walks_in (take k lines))) ++ (n + suc k, other.path) ∷ []) ≡
          kept ++ (kept_lines (n + 1) (take k lines) ++ (n + 1 + k, other.path) ∷ [])
      same Kept e = absurd cc
      same (Lost w) e = rw (number_on n k) refl

  lost_from : (n : ℕ) (kept : Numbered) (lines : List PathLine) → EachRefuted n kept lines → LostFromWith givens n kept (paths_in lines) (walks_in lines)
  lost_from n kept [] h = tt
  lost_from n kept (line ∷ lines) h =
      go line.fate refl (λ is. lost_from (n + 1) (kept ++ (n, line.path) ∷ []) lines (kept_on n kept line lines is h))
      (λ walk is. lost_from (n + 1) kept lines (lost_on n kept line lines walk is h))
    where
      first : (walk : Walk) → line.fate ≡ Lost walk → RefutesWith givens (kept ++ (n, line.path) ∷ []) walk
      first walk is = let e : n + 0 ≡ n = omega arith in let r = h zero line walk refl is in rw e at r

      go : (fate : Fate) → line.fate ≡ fate → (line.fate ≡ Kept → LostFromWith givens (n + 1) (kept ++ (n, line.path) ∷ []) (paths_in lines) (walks_in lines)) →
          ((walk : Walk) → line.fate ≡ Lost walk → LostFromWith givens (n + 1) kept (paths_in lines) (walks_in lines)) →
          LostFromWith givens n kept (line.path ∷ paths_in lines) (walk_of fate ∷ walks_in lines)
      go Kept is rest rest' = rest is
      go (Lost walk) is rest rest' = (first walk is, rest' walk is)

pub lost_are_refuted : (file : ResultFile) → IsMet file LostRefuted → LostFromWith (its_givens file) 1 [] (its_paths file) (its_walks file)
lost_are_refuted file met = lost_from (its_givens file) 1 [] file.paths (λ k line walk at lost.
    let within = slice_get_within file.paths k line at in
    let r = met k within line at walk lost in
    let e : k + 1 ≡ 1 + k = omega arith in
    let paths = take-map (λ (p : PathLine). p.path) k file.paths in
    let walks = take-map (λ (p : PathLine). walk_of p.fate) k file.paths in
    rw (e, paths, walks) at r)

-- ---- shown orders

pub last_two-from_end : (before : List ℕ) (a b : ℕ) → last_two (before ++ (a ∷ b ∷ [])) ≡ (a, b) ∷ []
last_two-from_end [] a b = refl
last_two-from_end (c ∷ []) a b = refl
last_two-from_end (c ∷ d ∷ []) a b = refl
last_two-from_end (c ∷ d ∷ e ∷ before) a b = last_two-from_end (d ∷ e ∷ before) a b

pub last_two-from_ends : (ases : List ℕ) (a b : ℕ) → EndsWith ases a b → last_two ases ≡ (a, b) ∷ []
last_two-from_ends ases a b e = ap last_two e.1 ∙ last_two-from_end e.0 a b

module _ (givens : List Given) where
  abbrev EachShown : Numbered → List (ℕ × ℕ) → List Walk → Type 0
  EachShown A shown walks =
      (k : ℕ) (walk : Walk) → slice_get walks k ≡ Some walk → (a b : ℕ) × ShowsWith givens A (shown ++ shown_orders (take k walks)) walk a b

  show_from : (A : Numbered) (shown : List (ℕ × ℕ)) (walks : List Walk) → EachShown A shown walks → ShowFromWith givens A shown walks (shown_orders walks)
  show_from A shown [] h = tt
  show_from A shown (w ∷ walks) h =
      let (a, b, s) = h zero w refl in
      let last = last_two-from_ends w.ases a b s.ends in
      let rest = show_from A (shown ++ (a, b) ∷ []) walks (λ k walk at.
      let r = h (suc k) walk at in
      let same : shown ++ (last_two w.ases ++ shown_orders (take k walks)) ≡ (shown ++ (a, b) ∷ []) ++ shown_orders (take k walks) =
      ap (λ l. shown ++ (l ++ shown_orders (take k walks))) last ∙ sym (append_assoc shown ((a, b) ∷ []) (shown_orders (take k walks))) in
      subst (λ l. (a b : ℕ) × ShowsWith givens A l walk a b) same r) in
      let first = subst (λ l. ShowsWith givens A l w a b) (append-nil shown) s in
      subst (ShowFromWith givens A shown (w ∷ walks)) (sym (ap (λ l. l ++ shown_orders walks) last)) (first, rest)

pub orders_are_shown : (file : ResultFile) → IsMet file OrdersShown → ShowFromWith (its_givens file) (its_kept file) [] file.whys (shown_orders file.whys)
orders_are_shown file met = show_from (its_givens file) (its_kept file) [] file.whys (λ k walk at. met k (slice_get_within file.whys k walk at) walk at)
