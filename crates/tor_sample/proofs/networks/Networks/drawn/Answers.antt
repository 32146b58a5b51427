use Rattle.std.proofs.Common.{sym, subst, rules}
use Rattle.tor_sample.proofs.Upward.{Grows, grows-none, grows-next}
use Rattle.tor_sample.proofs.networks.Networks.drawn.Goals as goal

pub loop-network-init : goal.loop-network-init
loop-network-init c = subst (λ nets. Grows c.args.draws.now.state 10 nets c.args.draws.now.state) (sym c.new-providers.ensures) (grows-none c.args.draws.now.state)

pub loop-network-preserved : goal.loop-network-preserved
loop-network-preserved c =
    grows-next c.args.draws.now.state c.loop-network.network c.loop-network.draws.state c.providers_of.new.draws.state c.loop-network.providers c.push.new.self c.providers_of.result
    c.loop-network.invariant c.providers_of.ensures.drawn c.providers_of.ensures.first c.providers_of.ensures.second (search rules)
