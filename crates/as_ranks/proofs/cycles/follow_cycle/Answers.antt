use Rattle.std.proofs.Common.{◌≡◌, ◌+◌, ◌∙◌, get_or, Some, sym, ap, subst, arith}
use Rattle.std.specs.Prelude.{slice_get, Contains}
use Rattle.std.proofs.lemmas.Option.{slice_get-get_or}
use Rattle.reach_counts.proofs.Batching.{on_ok}
use Rattle.reach_counts.proofs.CycleLemmas.{linked-on}
use Rattle.as_ranks.specs.Linking.{AreLinesLinked}
use Rattle.as_ranks.proofs.CycleLemmas.{first-contained}
use Rattle.as_ranks.proofs.LinkLemmas.{cycle-linked}
use Rattle.as_ranks.proofs.cycles.follow_cycle.Goals as goal

pub node_of-requires-clause-there : goal.node_of-requires-clause-there
node_of-requires-clause-there c =
    let row = c.args.ases.now in
    subst (λ l. Contains l (get_or row 0 0)) (sym c.deref.ensures.value)
    (first-contained c.args.lines.now c.args.net.now.ases.items c.args.net.now.graph c.requires.net row c.requires.cycle)

pub follow-requires-clause-on : goal.follow-requires-clause-on
follow-requires-clause-on c = λ y r at.
    let links = c.requires.links in
    linked-on links.of (c.args.parts.now.count + 1) c.args.links.now.first.items c.args.links.now.next.items links.linked y r (ap (λ l. slice_get l y) (sym c.deref-2.ensures.value) ∙ at)

pub returns : goal.returns
returns c =
    let lines = c.args.lines.now in
    let net = c.args.net.now in
    let parts = c.args.parts.now in
    let row = c.args.ases.now in
    let links = c.requires.links in
    let first = c.args.links.now.first.items in
    let class = c.class_of-class.result in
    let many = c.requires.cycle.many in
    let begins = slice_get-get_or row 0 0 (omega (arith, many)) in
    let at : slice_get net.ases.items c.node_of.result ≡ Some (get_or row 0 0) = ap (λ l. slice_get l c.node_of.result) (sym c.deref.ensures.value) ∙ c.node_of.ensures.at in
    let below = c.requires.parts.below c.node_of.result class c.class_of-class.ensures in
    let classes = links.linked.classes in
    let start = c.index-start.result.now in
    let starts : slice_get first class ≡ Some start = slice_get-get_or first class start (omega (arith, below, classes)) ∙ ap (λ z. Some z) (sym c.index-start.ensures) in
    on_ok c.follow.result (λ h. h row (subst (AreLinesLinked lines row start) (sym c.deref-2.ensures.value)
    (cycle-linked lines net.ases.items net.graph parts c.requires.net c.requires.parts row c.requires.cycle (get_or row 0 0) class begins
    (c.node_of.result, at, c.class_of-class.ensures) links.of links.classes first c.args.links.now.next.items start links.linked starts))) c.follow.ensures
