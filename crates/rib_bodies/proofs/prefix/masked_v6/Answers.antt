use Rattle.std.proofs.Common.{◌∙◌}
use Rattle.rib_bodies.proofs.MaskLemmas.{eight_pairs}
use Rattle.rib_bodies.proofs.prefix.masked_v6.Goals as goal

pub returns : goal.returns
returns c =
    c.new.ensures ∙ eight_pairs c.args.bits c.args.field.now _ _ _ _ _ _ _ _ c.masked_segment.ensures c.masked_segment-2.ensures c.masked_segment-3.ensures
    c.masked_segment-4.ensures c.masked_segment-5.ensures c.masked_segment-6.ensures c.masked_segment-7.ensures c.masked_segment-8.ensures
