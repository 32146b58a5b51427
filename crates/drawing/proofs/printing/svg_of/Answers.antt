use Rattle.std.proofs.Common.{◌∙◌, ◌++◌, ap, codes, subst, sym}
use Rattle.std.proofs.lemmas.Option.{same_Some}
use Rattle.drawing.specs.Svg.{svg_text}
use Rattle.drawing.specs.Xml.{IsDocument}
use Rattle.drawing.proofs.Leads.{picture_shows_links}
use Rattle.drawing.proofs.Marks.{picture_shows_marks}
use Rattle.drawing.proofs.WellFormed.{picture_well_formed}
use Rattle.drawing.proofs.printing.svg_of.Goals as goal

pub returns-in-Ok-clause-text : goal.returns-in-Ok-clause-text
returns-in-Ok-clause-text c =
    c.into_list.ensures ∙ same_Some _ _ c.in-Ok.ensures ∙ ap (λ xs. xs ++ svg_text c.args.link.now c.args.drawing.now) c.new-sink.ensures

pub returns-in-Ok-clause-well_formed : goal.returns-in-Ok-clause-well_formed
returns-in-Ok-clause-well_formed c = subst (IsDocument (codes "svg")) (sym (returns-in-Ok-clause-text c)) (picture_well_formed c.args.link.now c.requires.leading c.args.drawing.now)

pub returns-in-Ok-clause-marks : goal.returns-in-Ok-clause-marks
returns-in-Ok-clause-marks c = picture_shows_marks c.args.link.now c.args.drawing.now

pub returns-in-Err-clause-marks : goal.returns-in-Err-clause-marks
returns-in-Err-clause-marks c = picture_shows_marks c.args.link.now c.args.drawing.now

pub returns-in-Ok-clause-links : goal.returns-in-Ok-clause-links
returns-in-Ok-clause-links c = picture_shows_links c.args.link.now c.args.drawing.now

pub returns-in-Err-clause-links : goal.returns-in-Err-clause-links
returns-in-Err-clause-links c = picture_shows_links c.args.link.now c.args.drawing.now
