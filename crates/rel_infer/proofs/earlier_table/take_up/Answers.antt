use Rattle.std.proofs.Common.{◌≤◌, ◌∙◌, ℕ, List, length, sum_by, All, IsTrue, sym, subst}
use Rattle.std.specs.List.{list_all}
use Rattle.tor_arena.specs.Limits.{max_numbers}
use Rattle.path_clean.specs.Paths.{is_cleaned}
use Rattle.path_table.specs.Rows.{none_twice}
use Rattle.rel_infer.proofs.EarlierRows.{sound_paths, rows_of_lines}
use Rattle.rel_infer.proofs.earlier_table.take_up.Goals as goal

pub from_rows-requires-clause-clean : goal.from_rows-requires-clause-clean
from_rows-requires-clause-clean c =
    subst (λ (ps : List (List ℕ)). IsTrue (list_all is_cleaned ps)) (sym c.parts_of-parts.ensures.paths) (sound_paths c.args.file c.requires.cleaned c.requires.distinct).clean

pub from_rows-requires-clause-once : goal.from_rows-requires-clause-once
from_rows-requires-clause-once c =
    subst (λ (ps : List (List ℕ)). IsTrue (none_twice ps)) (sym c.parts_of-parts.ensures.paths) (sound_paths c.args.file c.requires.cleaned c.requires.distinct).once

pub from_rows-requires-clause-numbers : goal.from_rows-requires-clause-numbers
from_rows-requires-clause-numbers c =
    subst (λ (ps : List (List ℕ)). sum_by length ps ≤ max_numbers) (sym c.parts_of-parts.ensures.paths) (sound_paths c.args.file c.requires.cleaned c.requires.distinct).numbers

pub from_rows-requires-clause-seen : goal.from_rows-requires-clause-seen
from_rows-requires-clause-seen c =
    subst (λ (ns : List ℕ). All (λ n. 1 ≤ n) ns) (sym c.parts_of-parts.ensures.times) (sound_paths c.args.file c.requires.cleaned c.requires.distinct).seen

pub returns-in-Ok-clause-rows : goal.returns-in-Ok-clause-rows
returns-in-Ok-clause-rows c =
    rows_of_lines c.in-Ok.table.rows c.args.file.paths (c.in-Ok.ensures.paths ∙ c.parts_of-parts.ensures.paths) (c.in-Ok.ensures.times ∙ c.parts_of-parts.ensures.times)
