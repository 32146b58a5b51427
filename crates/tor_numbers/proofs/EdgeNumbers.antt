-- Edges as numbers.
use Rattle.std.proofs.Common.{◌≡◌, ℕ, ◌+◌, ◌-◌, ◌/◌, ◌%◌, ◌<◌, ◌≤◌, inl, inr, List, [], ◌∷◌, ◌++◌, Some, map, option_map, sym, ap, ◌∙◌, subst, arith}
use Rattle.std.specs.Prelude.{◌^◌, slice_get, All, Contains}
use Rattle.std.proofs.lemmas.List.{map-append}
use Rattle.std.proofs.lemmas.List.Elements.{All-contains, All-push}
use Rattle.std.proofs.lemmas.Option.{slice_get-map}
use Rattle.tor_numbers.specs.EdgeNumbers.{number_of_edge, edge_numbered, IsEdgeNumber}
use Rattle.tor_numbers.specs.Places.{GoesLastIfNew}
use Rattle.tor_arena.proofs.Gets.{has-from_Contains, Contains-from_has, slice_get-unmap}

-- ---- one number

pub numbered : (low high : ℕ) → low ≤ high → high < 2 ^ 32 → edge_numbered (number_of_edge (low, high)) ≡ (low, high)
numbered low high le lt = pair (omega (arith, le, lt)) (omega (arith, le, lt))
  where
    pair : {a b c d : ℕ} → a ≡ c → b ≡ d → ◌≡◌ {A = ℕ × ℕ} (a, b) (c, d)
    pair e f = cc

pub same_number : (m n : ℕ) → 2 ≤ m → 2 ≤ n → edge_numbered m ≡ edge_numbered n → m ≡ n
same_number m n h k e =
    let first : (m - 2) / 2 ^ 32 ≡ (n - 2) / 2 ^ 32 = ap (λ (f : ℕ × ℕ). f.0) e in
    let second : (m - 2) / 2 ^ 32 + (m - 2) % 2 ^ 32 ≡ (n - 2) / 2 ^ 32 + (n - 2) % 2 ^ 32 = ap (λ (f : ℕ × ℕ). f.1) e in
    omega (arith, h, k, first, second)

-- ---- the edges of a list of numbers

pub edge_got : (numbers : List ℕ) (k n : ℕ) (e : ℕ × ℕ) → edge_numbered n ≡ e → slice_get numbers k ≡ Some n → slice_get (map edge_numbered numbers) k ≡ Some e
edge_got numbers k n e is at = slice_get-map edge_numbered numbers k ∙ ap (option_map edge_numbered) at ∙ ap (λ (f : ℕ × ℕ). Some f) is

-- an edge is there exactly where its number is
pub edge_there : (numbers : List ℕ) (n : ℕ) (e : ℕ × ℕ) → edge_numbered n ≡ e → Contains numbers n → Contains (map edge_numbered numbers) e
edge_there numbers n e is c =
    let at = has-from_Contains numbers n c in Contains-from_has (map edge_numbered numbers) e (at.0, edge_got numbers at.0 n e is at.1)

pub number_there : (numbers : List ℕ) (n : ℕ) (e : ℕ × ℕ) → All IsEdgeNumber numbers → 2 ≤ n → edge_numbered n ≡ e → Contains (map edge_numbered numbers) e → Contains numbers n
number_there numbers n e all h is c =
    let at = has-from_Contains (map edge_numbered numbers) e c in
    let w = slice_get-unmap edge_numbered numbers at.0 e at.1 in
    let its = All-contains IsEdgeNumber numbers w.0 all (Contains-from_has numbers w.0 (at.0, w.1)) in
    Contains-from_has numbers n (at.0, w.1 ∙ ap (λ m. Some m) (same_number w.0 n its.0 h (w.2 ∙ sym is)))

-- the edge of a number that is put goes last
pub edges_pushed : (old new : List ℕ) (n : ℕ) (e : ℕ × ℕ) → edge_numbered n ≡ e → new ≡ old ++ n ∷ [] → map edge_numbered new ≡ map edge_numbered old ++ e ∷ []
edges_pushed old new n e is put = ap (map edge_numbered) put ∙ map-append edge_numbered old (n ∷ []) ∙ ap (λ (f : ℕ × ℕ). map edge_numbered old ++ f ∷ []) is

pub numbers_put : (old new : List ℕ) (n : ℕ) → All IsEdgeNumber old → IsEdgeNumber n → GoesLastIfNew n old new → All IsEdgeNumber new
numbers_put old new n all its (inl there) = subst (All IsEdgeNumber) (sym there.1) all
numbers_put old new n all its (inr put) = subst (All IsEdgeNumber) (sym put.1) (All-push IsEdgeNumber old n all its)
