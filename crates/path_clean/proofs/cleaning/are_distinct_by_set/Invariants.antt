use Rattle.std.proofs.Common.{◌≡◌, ◌≤◌, ℕ, true, length, drop, nat_eq}
use Rattle.std.specs.List.{list_any}
use Rattle.std.specs.Ordering.{nat_cmp}
use Rattle.std.specs.BTreeSet.{contains}
use Rattle.tor_arena.specs.Distinct.{is_distinct}
use Rattle.path_clean.proofs.cleaning.are_distinct_by_set.Given as goal

-- the set has the numbers from here on, and none of them stands there twice
abbrev pub invariant-numbers : goal.invariant-numbers
invariant-numbers l =
    (l.at ≤ length l.path) × (is_distinct (drop l.at l.path) ≡ true)
    × ((q : ℕ) → contains nat_cmp l.seen q ≡ list_any (λ y. nat_eq y q) (drop l.at l.path))

abbrev pub decreases-numbers : goal.decreases-numbers
decreases-numbers l = l.at
