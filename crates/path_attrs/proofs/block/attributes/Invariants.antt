use Rattle.std.proofs.Common.{◌≡◌, length, is_ok}
use Rattle.path_attrs.specs.Attributes.{attributes_of}
use Rattle.path_attrs.proofs.block.attributes.Given as goal

-- the rest is a list of whole attributes exactly if the block is
abbrev pub invariant-attributes : goal.invariant-attributes
invariant-attributes l = is_ok (attributes_of l.rest) ≡ is_ok (attributes_of l.block)

abbrev pub decreases-attributes : goal.decreases-attributes
decreases-attributes l = length l.rest
