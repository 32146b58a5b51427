use Rattle.path_attrs.proofs.Blocks
use Rattle.path_attrs.proofs.laws.block_law.Goals as goal

pub returns : goal.returns
returns c = Blocks.block_law
