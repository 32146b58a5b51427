use Rattle.std.proofs.Common.{◌≡◌, ◌≤◌, true, false, length, drop}
use Rattle.std.specs.List.{list_any}
use Rattle.tor_arena.specs.Distinct.{is_distinct}
use Rattle.path_clean.specs.Paths.{is_reserved}
use Rattle.path_clean.proofs.Distinct.{AreMarked}
use Rattle.path_clean.proofs.cleaned.is_plainly_sound.Given as goal

-- the numbers from here on are sound, and marked
abbrev pub invariant-numbers : goal.invariant-numbers
invariant-numbers l = record {
  within : l.at ≤ length l.path;
  many : length l.marks ≡ 128;
  distinct : is_distinct (drop l.at l.path) ≡ true;
  reserved : list_any is_reserved (drop l.at l.path) ≡ false;
  marked : AreMarked (drop l.at l.path) l.marks;
}

abbrev pub decreases-numbers : goal.decreases-numbers
decreases-numbers l = l.at
