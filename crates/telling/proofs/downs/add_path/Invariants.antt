use Rattle.std.proofs.Common.{◌≤◌, ◌-◌}
use Rattle.result_rules.specs.File.{its_labels}
use Rattle.telling.specs.Downs.{IsPlaceIn, step_edge, StillHas, AreDowns}
use Rattle.telling.proofs.DownLemmas.{HasDownsTo}
use Rattle.telling.proofs.downs.add_path.Given as goal

-- the arcs about the places so far are there, and the edge in front of this one has its place
abbrev pub invariant-loop-at : goal.invariant-loop-at
invariant-loop-at l =
    (2 ≤ l.at) × AreDowns l.file l.all.edges l.downs.graph l.downs.links × StillHas l.fn.downs.graph.arcs l.downs.graph.arcs ×
    HasDownsTo (its_labels l.file) l.all.edges l.path l.downs.graph.arcs l.at ×
    IsPlaceIn l.all.edges (step_edge l.path (l.at - 2) (l.at - 1)) l.first
