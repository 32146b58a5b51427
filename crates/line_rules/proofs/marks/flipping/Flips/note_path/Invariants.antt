use Rattle.std.proofs.Common.{◌≡◌, ℕ, List, length}
use Rattle.relationships.specs.Evidence.{IsTriple}
use Rattle.line_rules.specs.Flipping.{flipped_orders, AreNoted, IsBuilt, TripleBefore}
use Rattle.line_rules.proofs.marks.flipping.Flips.note_path.Given as goal

abbrev pub invariant-loop-at : goal.invariant-loop-at
invariant-loop-at l = record {
  implied : length l.self.implied ≡ length l.labels;
  conflicting : length l.self.conflicting ≡ length l.labels;
  noted : AreNoted l.labels l.noted l.self.implied l.self.conflicting;
  built : (paths : List (List ℕ)) → IsBuilt (flipped_orders l.labels) (IsTriple paths) l.fn.self.implied l.fn.self.conflicting
      → IsBuilt (flipped_orders l.labels) (TripleBefore paths l.path l.at) l.self.implied l.self.conflicting;
}
