use Rattle.std.proofs.Common.{◌<◌, ◌∙◌, length, map, sym, ap, subst}
use Rattle.std.specs.Prelude.{All, Contains, ◌↔◌, slice_index}
use Rattle.std.proofs.lemmas.Result.{IfOk-weaker}
use Rattle.as_rel.specs.Cone.{InCone}
use Rattle.as_rel.proofs.ConeLemmas.{nodes_within, nodes_members}
use Rattle.as_rel.proofs.customers.members_of.Goals as goal

pub ases_from-requires-clause-within : goal.ases_from-requires-clause-within
ases_from-requires-clause-within c = λ nodes exact.
    let ases = c.add_net.new.ases in
    let within = nodes_within c.args.lines.now ases c.add_net.new.graph c.args.of c.in_ok-start.start c.in_ok-start.ensures.net c.in_ok-start.ensures.node nodes exact in
    subst (λ l. All (λ n. n < length l) nodes) (sym c.ases-numbers.ensures.ases) within

pub returns : goal.returns
returns c =
    let ases = c.add_net.new.ases in
    IfOk-weaker c.ases_from.result _ _
    (λ members found b.
    let is = found.2 ∙ ap (λ l. map (slice_index l) found.0) c.ases-numbers.ensures.ases in
    let exact = nodes_members c.args.lines.now ases c.add_net.new.graph c.args.of c.in_ok-start.start c.in_ok-start.ensures.net c.in_ok-start.ensures.node c.ases-numbers.ensures.once found.0 found.1
    b in
    subst (λ l. Contains l b ↔ InCone c.args.lines.now c.args.of b) (sym is) exact)
    c.ases_from.ensures
