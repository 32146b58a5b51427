-- What holds of pictures whatever the edges are.
use Rattle.std.specs.Prelude.{ℕ, List, Option, codes}
use Rattle.result_text.specs.declared.file.EdgeLine.{EdgeLine}
use Rattle.drawing.specs.declared.drawing.Drawing.{Drawing}
use Rattle.drawing.specs.Picture.{IsDrawingOf}
use Rattle.drawing.specs.Svg.{CanLead, ShowsLinks, ShowsMarks, svg_text}
use Rattle.drawing.specs.Tidy.{IsTidy}
use Rattle.drawing.specs.Xml.{IsDocument}

-- with any link the text of the picture is well formed, takes nothing open for certain, and leads nowhere else
abbrev pub AreSoundTexts : Drawing → Type 0
AreSoundTexts d = (link : Option (List ℕ)) → CanLead link → IsDocument (codes "svg") (svg_text link d) × ShowsMarks link d × ShowsLinks link d

-- after any edges, of any AS, and with any bounds there is a picture, which is tidy and has such texts
abbrev pub PictureLaw : Type 0
PictureLaw = (edges : List EdgeLine) (a most depth : ℕ) → (d : Drawing) × IsDrawingOf edges a most depth d × IsTidy d × AreSoundTexts d
