use Rattle.drawing.proofs.SomePicture as pictures
use Rattle.drawing.proofs.laws.picture_law.Goals as goal

pub returns : goal.returns
returns c = pictures.picture_law
