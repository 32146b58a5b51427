use Rattle.std.proofs.Common.{◌∙◌, arith}
use Rattle.reach_counts.specs.Masks.{from_base}
use Rattle.reach_counts.proofs.MaskLemmas.{before-none}
use Rattle.reach_counts.proofs.masks.spread_bits.Goals as goal

pub returns-clause-bits : goal.returns-clause-bits
returns-clause-bits c =
    let many = c.begin.ensures.many ∙ c.requires.many in
    c.pass_all.ensures.bits (from_base c.args.base)
    (before-none c.args.rows.now (from_base c.args.base) c.requires.rising c.args.base c.begin.new.masks (λ j lane there. omega arith)
    (λ k j lt lane there. c.begin.ensures.own k j (omega (arith, lt, many)) lane))
