use Rattle.std.proofs.Common.{◌++◌, ◌∙◌, ◌-◌, List, ℕ, ap, length}
use Rattle.path_order.specs.Entries.{paths_left, row_places, times_left}
use Rattle.path_order.proofs.SizeLemmas.{all_left, short_behind_kept}
use Rattle.path_order.proofs.ordering.short_behind.Goals as goal

pub add_others-requires-clause-left : goal.add_others-requires-clause-left
add_others-requires-clause-left c = all_left c.args.kept c.args.rows.now c.args.times.now c.requires.same c.requires.kept c.requires.once c.requires.several

pub returns : goal.returns
returns c =
    let rows = c.args.rows.now in
    let times = c.args.times.now in
    let kept = c.args.kept in
    let behind = short_behind_kept kept rows times c.requires.same c.requires.kept in
    record {
      paths =
          c.in_ok-add_others.ensures.paths
          ∙ ap (λ (paths : List (List ℕ)). paths ++ paths_left rows times (row_places kept (length rows - kept))) c.in_ok-paths.ensures ∙ behind.paths_are;
      times =
          c.in_ok-add_others.ensures.times
          ∙ ap (λ (ordered : List ℕ). ordered ++ times_left rows times (row_places kept (length rows - kept))) c.in_ok-ordered.ensures ∙ behind.times_are;
    }
