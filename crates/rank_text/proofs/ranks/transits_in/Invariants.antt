use Rattle.std.proofs.Common.{◌≡◌, take}
use Rattle.std.specs.Prelude.{count_by}
use Rattle.rank_text.specs.RankText.{is_transit_line}
use Rattle.rank_text.proofs.ranks.transits_in.Given as goal

abbrev pub invariant-loop-line : goal.invariant-loop-line
invariant-loop-line l = l.count ≡ count_by is_transit_line (take l.line-index l.lines)
