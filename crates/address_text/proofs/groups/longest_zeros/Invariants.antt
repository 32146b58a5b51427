use Rattle.std.proofs.Common.{◌≡◌, ◌+◌, ◌≤◌, length, drop}
use Rattle.std.specs.Net.Text.{zero_run, longest_zero_run}
use Rattle.address_text.proofs.groups.longest_zeros.Given as goal

abbrev pub invariant-loop-place : goal.invariant-loop-place
invariant-loop-place l =
    (l.run ≡ zero_run (drop l.place l.groups)) × (l.len ≡ (longest_zero_run (drop l.place l.groups)).1)
    × (l.start ≡ l.place + (longest_zero_run (drop l.place l.groups)).0)
    × (l.place + l.run ≤ length l.groups) × (l.start + l.len ≤ length l.groups)
