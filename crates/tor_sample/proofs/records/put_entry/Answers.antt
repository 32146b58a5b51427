use Rattle.std.proofs.Common.{sym, ap, ◌∙◌}
use Rattle.std.specs.Int.{w16, to_be_bytes}
use Rattle.std.proofs.lemmas.Result.{on_ok_weaker}
use Rattle.tor_sample.specs.Records.{sample_attributes}
use Rattle.tor_sample.proofs.Octets.{three_put, length-attributes}
use Rattle.tor_sample.proofs.records.put_entry.Goals as goal

pub returns : goal.returns
returns c =
    let length_octets = c.to_be_bytes.ensures ∙ ap (to_be_bytes w16) (sym (length-attributes c.args.path.now)) in
    on_ok_weaker c.put_attributes.result
    (λ last. three_put _ _ _ _ _ _ (sample_attributes c.args.path.now) c.in_ok-extend_from_slice.ensures.ok (rw length_octets at c.in_ok-extend_from_slice-2.ensures.ok) last)
    c.put_attributes.ensures
