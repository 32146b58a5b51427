use Rattle.std.proofs.Common.{rules}
use Rattle.path_table.specs.Chains.{path_hash}
use Rattle.path_table.proofs.hashing.hash_of.Goals as goal

pub returns : goal.returns
unfolding path_hash
returns c = search rules
