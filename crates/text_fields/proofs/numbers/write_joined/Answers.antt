use Rattle.std.proofs.Common.{◌∙◌, ◌++◌, ℕ, List, length-set, take, ap, arith}
use Rattle.std.specs.Fmt.{decimal}
use Rattle.std.proofs.lemmas.List.{take_more_set}
use Rattle.text_fields.proofs.Joins.{member_written}
use Rattle.text_fields.proofs.numbers.write_joined.Goals as goal

pub loop-place-preserved : goal.loop-place-preserved
loop-place-preserved c =
    let so_far = c.loop-place.invariant in
    let wrote = c.write_number-end-in-loop-place in
    let lt = c.loop-place-test.true in
    record {
      begun = omega (arith, so_far.begun);
      within = omega (arith, so_far.within, wrote.ensures.within);
      length = wrote.ensures.length ∙ length-set c.loop-place.bytes c.loop-place.end c.args.byte ∙ so_far.length;
      digits = member_written c.args.byte c.args.numbers.now c.loop-place.place c.from-in-loop-place.result (take c.args.at c.args.bytes.now) (take c.loop-place.end c.loop-place.bytes) _
          so_far.begun lt c.from-in-loop-place.ensures so_far.digits
          (wrote.ensures.digits ∙ ap (λ (t : List ℕ). t ++ decimal c.from-in-loop-place.result)
          (take_more_set c.loop-place.bytes c.loop-place.end c.args.byte (omega (arith, so_far.within, so_far.length, lt, c.requires))));
    }
