use Rattle.top_givens.proofs.Members
use Rattle.top_givens.proofs.laws.top_sound_law.Goals as goal

pub returns : goal.returns
returns c = Members.top_sound_law
