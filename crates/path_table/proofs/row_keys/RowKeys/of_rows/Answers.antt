use Rattle.std.proofs.Common.{◌∙◌, ap}
use Rattle.path_table.specs.RowKeys.{short_hash}
use Rattle.path_table.proofs.KeyLemmas.{keyed-next}
use Rattle.path_table.proofs.row_keys.RowKeys.of_rows.Goals as goal

pub loop-place-preserved : goal.loop-place-preserved
loop-place-preserved c =
    keyed-next c.args.seed c.args.rows.now c.loop-place.row_keys c.add.new.self c.loop-place.place c.short_hash_of.result c.loop-place.invariant.0 c.loop-place.invariant.1
    (c.short_hash_of.ensures ∙ ap (short_hash c.args.seed) c.row_of.ensures) c.in_ok-add.ensures.ok
