use Rattle.std.proofs.Common.{◌≡◌, length, is_ok, true}
use Rattle.path_attrs.specs.Attributes.{as_path, attributes_of, attributes_in, first_value}
use Rattle.path_attrs.proofs.block.path_in.Given as goal

-- the rest is a list of whole attributes exactly if the block is, and then the first AS_PATH of the block is that of the rest
abbrev pub invariant-attributes : goal.invariant-attributes
invariant-attributes l =
    (is_ok (attributes_of l.rest) ≡ is_ok (attributes_of l.block))
    × (is_ok (attributes_of l.block) ≡ true → first_value as_path (attributes_in l.rest) ≡ first_value as_path (attributes_in l.block))

abbrev pub decreases-attributes : goal.decreases-attributes
decreases-attributes l = length l.rest
