-- What the last line of a result counts.
use Rattle.std.specs.Prelude.{Bool, true, false, List, count_by, length, not}
use Rattle.relationships.specs.declared.label.Label.{Label}
use Rattle.relationships.specs.declared.label.Label.TheVariants as label
use Rattle.relationships.specs.declared.fate.Fate.{Fate}
use Rattle.relationships.specs.Fates.{is_kept}
use Rattle.relationships.specs.Marking.{is_forced}
use Rattle.result_text.specs.declared.file.EdgeLine.{EdgeLine}
use Rattle.result_text.specs.declared.file.Totals.{Totals}

abbrev pub is_peer : Label → Bool
is_peer label.Low = false
is_peer label.High = false
is_peer label.Peer = true

-- of paths with these fates and of these edge lines
abbrev pub totals_by : List Fate → List EdgeLine → Totals
totals_by fates lines = record {
  kept = count_by is_kept fates;
  lost = count_by (λ fate. not (is_kept fate)) fates;
  edges = length lines;
  forced = count_by (λ line. is_forced line.mark) lines;
  peers = count_by (λ line. is_peer line.label) lines;
}
