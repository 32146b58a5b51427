use Rattle.std.proofs.Common.{◌≡◌, Err, List, None, Some, ℕ, length, take, ap, ◌∙◌, subst, arith}
use Rattle.std.specs.Prelude.{◌⊎◌, IfErr, OnOk}
use Rattle.path_table.specs.declared.table.AddRefused.{AddRefused}
use Rattle.path_table.specs.Rows.{row_paths}
use Rattle.result_rules.specs.declared.rule.Rule.TheVariants.{PathsDistinct}
use Rattle.route_leaks.specs.Leaks.{limit_beside}
use Rattle.route_leaks.proofs.Assembling.{few_paths, its_all_paths, its_row_paths}
use Rattle.route_leaks.proofs.leaks.leaks_of.Goals as goal

pub take_up-requires-clause-distinct : goal.take_up-requires-clause-distinct
take_up-requires-clause-distinct c = c.requires.accepted PathsDistinct

pub unreachable-requires : goal.unreachable-requires
unreachable-requires c =
    let many = c.take_up.ensures.too_many.0 (c.in-Err-TooManyPaths.is ∙ ap (λ e. Err e) c.in-Err-TooManyPaths.field-0-is) in
    let few = few_paths c.args.file c.requires.accepted in
    omega (arith, many, few)

pub leaks_beside-requires-clause-begins : goal.leaks_beside-requires-clause-begins
leaks_beside-requires-clause-begins c =
    let file = c.args.file in
    record {
      file = file;
      left = c.in-Ok.ensures.rest;
      accepted = c.requires.accepted;
      begins = ap (λ (ps : List (List ℕ)). take (length file.paths) ps) (ap row_paths c.in-Ok.ensures.rows ∙ its_row_paths file) ∙ its_all_paths file;
    }

pub returns-in-Ok-clause-room : goal.returns-in-Ok-clause-room
returns-in-Ok-clause-room c =
    let paths = ap row_paths c.in-Ok.ensures.rows ∙ its_row_paths c.args.file in
    subst (λ (ps : List (List ℕ)). OnOk c.leaks_beside.result (limit_beside ps (row_paths c.args.seen) ≡ None)) paths c.leaks_beside.ensures.room

pub returns-in-Ok-clause-limit_met : goal.returns-in-Ok-clause-limit_met
returns-in-Ok-clause-limit_met c =
    let paths = ap row_paths c.in-Ok.ensures.rows ∙ its_row_paths c.args.file in
    subst (λ (ps : List (List ℕ)). IfErr c.leaks_beside.result (λ why. (why ≡ AddRefused.NoMemory) ⊎ (limit_beside ps (row_paths c.args.seen) ≡ Some why))) paths
    c.leaks_beside.ensures.limit_met
