use Rattle.showing_run.proofs.Viewings.{can_lead}
use Rattle.showing_run.proofs.picture.picture_of.Goals as goal

pub svg_of-requires-clause-leading : goal.svg_of-requires-clause-leading
svg_of-requires-clause-leading c = can_lead c.args.settings.now.link c.requires.within.leading
