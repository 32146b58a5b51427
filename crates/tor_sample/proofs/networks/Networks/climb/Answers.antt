use Rattle.std.proofs.Common.{sym, subst, arith}
use Rattle.tor_sample.proofs.Upward.{Climbs, climbs-none, climbs-next, climbs-end}
use Rattle.tor_sample.proofs.networks.Networks.climb.Goals as goal

pub loop-at-init : goal.loop-at-init
loop-at-init c =
    subst (λ items. Climbs c.args.self.now (c.args.network, c.args.draws.now.state) items (c.args.network, c.args.draws.now.state)) (sym c.new-climb.ensures)
    (climbs-none c.args.self.now c.args.network c.args.draws.now.state c.requires.there)

pub loop-at-preserved : goal.loop-at-preserved
loop-at-preserved c =
    climbs-next c.args.self.now (c.args.network, c.args.draws.now.state) c.loop-at.climb.items c.push.new.self.items c.loop-at.at c.provider_of-at.result
    c.loop-at.draws.state c.provider_of-at.new.draws.state c.loop-at.invariant c.loop-at-test.true c.provider_of-at.ensures.drawn c.provider_of-at.ensures.above c.push.ensures.items

pub returns-clause-drawn : goal.returns-clause-drawn
returns-clause-drawn c =
    climbs-end c.args.self.now (c.args.network, c.args.draws.now.state) c.loop-at.climb.items c.push-2.new.self.items c.loop-at.at c.loop-at.draws.state
    c.loop-at.invariant (omega (arith, c.loop-at-test.false)) c.push-2.ensures.items
