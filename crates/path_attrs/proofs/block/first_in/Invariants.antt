use Rattle.std.proofs.Common.{◌≡◌, length, true, is_ok}
use Rattle.path_attrs.specs.Attributes.{attributes_of, attributes_in, first_value}
use Rattle.path_attrs.proofs.block.first_in.Given as goal

-- the rest is a list of whole attributes, and none before it has the code
abbrev pub invariant-attributes : goal.invariant-attributes
invariant-attributes l = (is_ok (attributes_of l.rest) ≡ true) × (first_value l.code (attributes_in l.rest) ≡ first_value l.code (attributes_in l.block))

abbrev pub decreases-attributes : goal.decreases-attributes
decreases-attributes l = length l.rest
