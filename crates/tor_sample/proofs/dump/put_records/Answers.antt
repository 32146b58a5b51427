use Rattle.std.proofs.Common.{◌++◌, ap, ◌∙◌}
use Rattle.tor_sample.specs.Records.{sample_record, sample_rib}
use Rattle.tor_sample.proofs.Octets.{puts-none, puts-next}
use Rattle.tor_sample.proofs.dump.put_records.Goals as goal

pub loop-number-init : goal.loop-number-init
loop-number-init c = puts-none c.args.networks.now c.args.draws.now.state c.args.out.now

pub loop-number-preserved : goal.loop-number-preserved
loop-number-preserved c =
    puts-next c.args.networks.now c.args.draws.now.state c.loop-number.number c.loop-number.draws.state c.path_of-path.new.draws.state c.args.out.now c.loop-number.out c.put_record.new.out
    c.path_of-path.result.items c.loop-number.invariant c.path_of-path.ensures
    (c.in_ok-put_record.ensures ∙ ap (λ path. c.loop-number.out ++ sample_record 2 (sample_rib c.loop-number.number path)) c.as_slice.ensures.value)
