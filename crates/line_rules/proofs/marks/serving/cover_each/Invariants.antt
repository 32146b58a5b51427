use Rattle.std.proofs.Common.{◌≡◌, length, take}
use Rattle.result_rules.specs.File.{its_probes}
use Rattle.line_rules.specs.Searching.{IsRoundClosed}
use Rattle.line_rules.specs.Flipping.{flipped_orders, served_lines}
use Rattle.line_rules.specs.Serving.{IsCovered, GainsAt}
use Rattle.line_rules.specs.Breaches.{First}
use Rattle.line_rules.proofs.marks.serving.cover_each.Given as goal

abbrev pub invariant-loop-k : goal.invariant-loop-k
invariant-loop-k l = record {
  many : length l.rounds.items ≡ length l.file.edges;
  closed : IsRoundClosed l.flips.implied l.rounds.items 1;
  covered : IsCovered (served_lines l.file) (flipped_orders l.file.edges) (take l.k (its_probes l.file)) l.rounds.items 1;
  idle : First (GainsAt l.file) l.k l.idle;
}
