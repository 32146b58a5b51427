use Rattle.std.proofs.Common.{◌<◌, ◌∙◌, length, map, sym, ap, subst}
use Rattle.std.specs.Prelude.{All, slice_index}
use Rattle.std.proofs.lemmas.Result.{IfOk-weaker}
use Rattle.as_rel.proofs.customers.ases_from.Goals as goal

pub ases_at-requires : goal.ases_at-requires
ases_at-requires c =
    let within = c.requires.within c.in_ok-reached.reached.nodes c.in_ok-reached.ensures.exact in
    subst (λ ns. All (λ n. n < length c.args.ases.now) ns) (sym c.nodes.ensures.nodes) within

pub returns : goal.returns
returns c =
    IfOk-weaker c.ases_at.result _ _
    (λ members is. (c.in_ok-reached.reached.nodes, c.in_ok-reached.ensures.exact, is ∙ ap (map (slice_index c.args.ases.now)) c.nodes.ensures.nodes))
    c.ases_at.ensures
