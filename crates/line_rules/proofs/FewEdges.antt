-- There are no more edges than numbers on the paths.
use Rattle.std.proofs.Common.{◌≡◌, inl, inr, ℕ, suc, ◌+◌, ◌≤◌, Bool, not, List, [], ◌∷◌, length, map, filter, flat_map, take, sum_by, refl, ap, subst, arith, length-append, get_or}
use Rattle.std.proofs.lemmas.Bool.{cases_Bool}
use Rattle.std.proofs.lemmas.List.Sums.{sum_by-cons}
use Rattle.std.proofs.lemmas.List.{take_all}
use Rattle.std.proofs.lemmas.Option.{slice_get-get_or}
use Rattle.tor_arena.specs.Limits.{max_numbers}
use Rattle.relationships.specs.Graph.{Edge, is_same, edges_from, edges_on, distinct, edges}
use Rattle.result_text.specs.declared.file.ResultFile.{ResultFile}
use Rattle.result_text.specs.declared.file.PathLine.{PathLine}
use Rattle.result_rules.specs.File.{its_paths}
use Rattle.result_rules.specs.declared.rule.Rule.TheVariants.{PathsCleaned}
use Rattle.result_rules.specs.Rules.{IsMet}
use Rattle.result_rules.proofs.Accepted.{same_length}

filter_shorter : (p : Edge → Bool) (es : List Edge) → length (filter p es) ≤ length es
filter_shorter p [] = omega arith
filter_shorter p (e ∷ es) =
    let rest = filter_shorter p es in
    elim (cases_Bool (p e)) [ inl t ↦ rw t (omega (arith, rest)) | inr f ↦ rw f (omega (arith, rest)) ]

distinct_shorter : (es : List Edge) → length (distinct es) ≤ length es
distinct_shorter [] = omega arith
distinct_shorter (e ∷ es) =
    let rest = distinct_shorter es in
    let kept = filter_shorter (λ f. not (is_same e f)) (distinct es) in
    omega (arith, rest, kept)

steps_from : (a : ℕ) (path : List ℕ) → length (edges_from a path) ≡ length path
steps_from a [] = refl
steps_from a (b ∷ path) = ap suc (steps_from b path)

steps_on : (path : List ℕ) → length (edges_on path) ≤ length path
steps_on [] = omega arith
steps_on (a ∷ path) = let same = steps_from a path in omega (arith, same)

steps_in_all : (paths : List (List ℕ)) → length (flat_map edges_on paths) ≤ sum_by length paths
steps_in_all [] = omega arith
steps_in_all (path ∷ paths) =
    let rest = steps_in_all paths in
    let first = steps_on path in
    let sum = sum_by-cons length path paths in
    let whole = length-append (edges_on path) (flat_map edges_on paths) in
    omega (arith, rest, first, sum, whole)

pub few_edges : (paths : List (List ℕ)) → length (edges paths) ≤ sum_by length paths
few_edges paths = let a = distinct_shorter (flat_map edges_on paths) in let b = steps_in_all paths in omega (arith, a, b)

-- clean paths have few edges
pub few_listed : (file : ResultFile) → IsMet file PathsCleaned → length (edges (its_paths file)) ≤ max_numbers
few_listed file met = by_paths file.paths refl
  where
    by_paths : (lines : List PathLine) → file.paths ≡ lines → length (edges (its_paths file)) ≤ max_numbers
    by_paths [] is = let none = few_edges (its_paths file) in let e : sum_by length (its_paths file) ≡ 0 = ap (λ (l : List PathLine). sum_by length (map (λ (p : PathLine). p.path) l)) is in
        omega (arith, none, e)
    by_paths (line ∷ lines) is =
        let count : length file.paths ≡ suc (length lines) = ap length is in
        let last = slice_get-get_or file.paths (length lines) line (omega (arith, count)) in
        let sound = met (length lines) (omega (arith, count)) (get_or file.paths (length lines) line) last in
        let same = same_length (λ (p : PathLine). p.path) file.paths in
        let all : take (length lines + 1) (its_paths file) ≡ its_paths file = take_all (length lines + 1) (its_paths file) (omega (arith, count, same)) in
        let sum : sum_by length (its_paths file) ≤ max_numbers = subst (λ (l : List (List ℕ)). sum_by length l ≤ max_numbers) all sound.numbers in
        let few = few_edges (its_paths file) in
        omega (arith, sum, few)
