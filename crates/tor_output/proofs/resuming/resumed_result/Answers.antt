use Rattle.std.proofs.Common.{List, sym, subst, arith}
use Rattle.path_table.specs.Rows.{Counted, row_paths}
use Rattle.rel_infer.specs.Earlier.{BeginsWithPathsOf}
use Rattle.tor_output.proofs.Orderings.{begin_too, few_begin}
use Rattle.tor_output.proofs.Resumings.{fates_left, joined_paths, resumed_is}
use Rattle.tor_output.proofs.resuming.resumed_result.Goals as goal

pub paths_behind-requires : goal.paths_behind-requires
paths_behind-requires c =
    let begun = c.requires.begins in
    let few = few_begin begun.file c.args.taken.table.rows begun.begins in
    omega (arith, few, fates_left begun.file c.args.earlier begun.left, c.len.ensures)

pub result_on-requires-clause-begins : goal.result_on-requires-clause-begins
result_on-requires-clause-begins c =
    let begun = c.requires.begins in
    let same = joined_paths c.args.settings.now begun.file c.args.earlier c.args.taken c.len.result c.in-Ok.paths c.len.ensures c.in-Ok.ensures begun.left in
    record {
      file = begun.file;
      left = begun.left;
      accepted = begun.accepted;
      begins = subst (λ (rows : List Counted). BeginsWithPathsOf (row_paths rows) begun.file) (sym same)
          (begin_too c.args.settings.now.order begun.file c.args.taken.table.rows begun.begins);
    }

pub returns-in-Ok : goal.returns-in-Ok
returns-in-Ok c =
    resumed_is c.args.settings.now c.args.earlier c.args.taken c.len.result c.in-Ok.paths c.result_on.result c.len.ensures c.in-Ok.ensures c.result_on.ensures
