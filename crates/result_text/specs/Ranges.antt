-- The values that the types of a result can hold: every result of the code is in range.
use Rattle.std.specs.Prelude.{ℕ, List}
use Rattle.std.specs.List.{AllByRecursion}
use Rattle.text_fields.specs.Fields.{IsU32, IsU64}
use Rattle.relationships.specs.declared.given.Given.{Given}
use Rattle.relationships.specs.declared.walk.Link.{Link}
use Rattle.relationships.specs.declared.walk.Walk.{Walk}
use Rattle.path_clean.specs.Counts.{CauseCounts}
use Rattle.relationships.specs.declared.fate.Fate.{Fate}
use Rattle.relationships.specs.declared.fate.Fate.TheVariants as fate
use Rattle.result_text.specs.declared.file.PathLine.{PathLine}
use Rattle.result_text.specs.declared.file.EdgeLine.{EdgeLine}
use Rattle.relationships.specs.declared.mark.Probe.{Probe}
use Rattle.result_text.specs.declared.file.Totals.{Totals}
use Rattle.result_text.specs.declared.file.ResultFile.{ResultFile}
use Rattle.result_text.specs.declared.line.Line.{Line}
use Rattle.result_text.specs.declared.line.Line.TheVariants as line
use Rattle.result_text.specs.Text.{its_givens}

abbrev pub AreU32 : List ℕ → Type 0
AreU32 ns = AllByRecursion IsU32 ns

abbrev pub LinkFits : Link → Type 0
LinkFits l = IsU32 l.path × IsU32 l.at

abbrev pub WalkFits : Walk → Type 0
WalkFits w = AreU32 w.ases × AllByRecursion LinkFits w.links

abbrev pub FateFits : Fate → Type 0
FateFits fate.Kept = Unit {0}
FateFits (fate.Lost w) = WalkFits w

-- of a given
abbrev pub GivenFits : Given → Type 0
GivenFits g = IsU32 g.over × IsU32 g.under

abbrev pub PathFits : PathLine → Type 0
PathFits p = IsU64 p.times × AreU32 p.path × FateFits p.fate

abbrev pub EdgeFits : EdgeLine → Type 0
EdgeFits e = IsU32 e.low × IsU32 e.high × IsU64 e.support

abbrev pub ProbeFits : Probe → Type 0
ProbeFits p = IsU32 p.over × IsU32 p.under

abbrev pub TotalsFit : Totals → Type 0
TotalsFit t = IsU64 t.kept × IsU64 t.lost × IsU64 t.edges × IsU64 t.forced × IsU64 t.peers

abbrev pub CountsFit : CauseCounts → Type 0
CountsFit c = IsU64 c.no_path × IsU64 c.bad_segments × IsU64 c.confed × IsU64 c.sets × IsU64 c.reserved × IsU64 c.loop × IsU64 c.short

abbrev pub LineFits : Line → Type 0
LineFits (line.Version v) = Unit {0}
LineFits (line.Sets s) = Unit {0}
LineFits (line.Ratio n) = IsU32 n
LineFits (line.Aside c n) = IsU64 n
LineFits (line.Given g) = GivenFits g
LineFits (line.Path p) = PathFits p
LineFits (line.Edge e) = EdgeFits e
LineFits (line.Why w) = WalkFits w
LineFits (line.Probe p) = ProbeFits p
LineFits (line.End t) = TotalsFit t

pub record IsInRange (file : ResultFile) : Type 0 where
  pub ratio : IsU32 file.ratio
  pub asides : CountsFit file.asides
  pub givens : AllByRecursion GivenFits (its_givens file)
  pub paths : AllByRecursion PathFits file.paths
  pub edges : AllByRecursion EdgeFits file.edges
  pub whys : AllByRecursion WalkFits file.whys
  pub probes : AllByRecursion ProbeFits file.probes
  pub totals : TotalsFit file.totals
