use Rattle.std.proofs.Common.{◌++◌, take}
use Rattle.relationships.specs.Evidence.{IsTriple}
use Rattle.result_rules.specs.File.{its_returns}
use Rattle.line_rules.specs.Flipping.{flipped_orders, AreNoted, IsBuilt, kept_lines}
use Rattle.line_rules.proofs.marks.flipping.Flips.note_file.Given as goal

abbrev pub invariant-loop-place : goal.invariant-loop-place
invariant-loop-place l = record {
  built : IsBuilt (flipped_orders l.file.edges) (IsTriple (its_returns l.file ++ kept_lines (take l.place l.file.paths))) l.self.implied l.self.conflicting;
  noted : AreNoted l.file.edges l.noted l.self.implied l.self.conflicting;
}
