use Rattle.std.proofs.Common.{◌≡◌, ◌+◌, ◌-◌, ◌%◌, ◌∙◌, ap, arith}
use Rattle.as_ranks.specs.Cones.{FoundCone}
use Rattle.as_ranks.specs.declared.cones.ConeNet.{ConeNet}
use Rattle.as_ranks.specs.declared.cones.Cones.TheInside.{Inside}
use Rattle.as_ranks.proofs.LotLemmas.{cone-of-node, node-cone-same}
use Rattle.as_ranks.proofs.cones.Cones.find.Goals as goal
use Rattle.as_ranks.proofs.cones.Cones.find.Goals.{then-base-self, else-base-self}

pub returns-clause-cone : goal.returns-clause-cone
returns-clause-cone c = λ rel a net at.
    let place = c.args.place in
    let was = c.self.inside in
    let is = c.if-base-self.self-inside in
    let same : is.net.now ≡ was.net.now = elim c.if-base-self.branch [
      | then-base-self w ↦ ap (λ (i : Inside). i.net.now) w.self-inside-is
      | else-base-self w ↦ ap (λ (i : Inside). i.net.now) w.self-inside-is
    ] in
    let ases : is.net.now.net.ases.items ≡ c.args.self.now.ases = ap (λ (n : ConeNet). n.net.ases.items) same ∙ ap (λ (f : FoundCone). f.ases) c.self.view_is in
    let graph : is.net.now.net.graph ≡ c.args.self.now.graph = ap (λ (n : ConeNet). n.net.graph) same ∙ ap (λ (f : FoundCone). f.graph) c.self.view_is in
    let whole : place - (place % 64) + (place % 64) ≡ place = omega arith in
    cone-of-node rel c.args.self.now.ases c.args.self.now.graph place a c.find_in.new.lot.row.items net at
    (node-cone-same ases graph whole c.find_in.ensures.row)
