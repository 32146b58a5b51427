-- What `torview` asks of a result: the picture of one AS with its neighbours.
use Rattle.std.specs.Prelude.{◌≡◌, ◌⊎◌, ℕ, List, [], ◌∷◌, ◌++◌, Option, Some, None, Contains, codes, decimal}
use Rattle.result_text.specs.declared.file.EdgeLine.{EdgeLine}
use Rattle.result_text.specs.declared.file.ResultFile.{ResultFile}
use Rattle.drawing.specs.declared.drawing.Drawing.{Drawing}
use Rattle.drawing.specs.Picture.{IsDrawingOf}
use Rattle.drawing.specs.Svg.{ShowsLinks, ShowsMarks, svg_text}
use Rattle.drawing.specs.Tidy.{IsTidy}
use Rattle.drawing.specs.Xml.{IsDocument}
use Rattle.tor_words.specs.declared.view_settings.ViewSettings.{ViewSettings}
use Rattle.tor_words.specs.ViewGiven.{view_settings_given}
use Rattle.showing_run.specs.Asking.{Asking}
use Rattle.showing_run.specs.declared.picture.Picture.{Picture}

-- one of the edges has this AS
abbrev pub HasEdge : List EdgeLine → ℕ → Type 0
HasEdge edges a = (line : EdgeLine) × Contains edges line × ((line.low ≡ a) ⊎ (line.high ≡ a))

-- the note that none has
abbrev pub absent_note : ℕ → List ℕ
absent_note a = codes "absent|" ++ decimal a ++ 10 ∷ []

-- the text is that of the picture that is asked for, after these edges; the picture is tidy, takes nothing open for certain and leads only
-- where the link says, and the text is well formed
abbrev pub IsPictureOf : ViewSettings → List EdgeLine → List ℕ → Type 0
IsPictureOf settings edges text =
    (d : Drawing) × IsDrawingOf edges settings.asked settings.most settings.depth d × IsTidy d × ShowsMarks settings.link d ×
    ShowsLinks settings.link d × (text ≡ svg_text settings.link d) × IsDocument (codes "svg") text

-- the text is that of the picture after the edges of the result; or no edge has the AS
abbrev pub IsSeen : ViewSettings → ResultFile → Option (List ℕ) → Type 0
IsSeen settings file None = HasEdge file.edges settings.asked → ⊥
IsSeen settings file (Some text) = HasEdge file.edges settings.asked × IsPictureOf settings file.edges text

-- what `torview` asks
abbrev pub viewing : Asking ViewSettings
viewing = record {
  given = view_settings_given;
  result = λ settings. settings.result;
  IsAnswer = IsSeen;
  absent = λ settings. absent_note settings.asked;
}

-- the result after which it is drawn
abbrev pub its_result : Picture → ResultFile
its_result picture = picture.file
