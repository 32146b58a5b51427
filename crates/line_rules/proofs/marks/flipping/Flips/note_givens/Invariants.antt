use Rattle.std.proofs.Common.{take}
use Rattle.relationships.specs.Evidence.{IsTriple}
use Rattle.line_rules.specs.Flipping.{flipped_orders, AreNoted, IsBuilt, returns_on}
use Rattle.line_rules.specs.EdgeLines.{edges_of}
use Rattle.line_rules.proofs.marks.flipping.Flips.note_givens.Given as goal

abbrev pub invariant-loop-given : goal.invariant-loop-given
invariant-loop-given l = record {
  built : IsBuilt (flipped_orders l.labels) (IsTriple (returns_on (edges_of l.labels) (take l.given-index l.givens))) l.self.implied l.self.conflicting;
  noted : AreNoted l.labels l.noted l.self.implied l.self.conflicting;
}
