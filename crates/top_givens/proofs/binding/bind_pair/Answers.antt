use Rattle.std.proofs.Common.{◌≡◌, ◌∙◌, ◌∷◌, [], List, if◌then◌else◌, ap, subst, sym}
use Rattle.std.specs.List.{list_any}
use Rattle.relationships.specs.Graph.{Edge, edge_of, is_same}
use Rattle.top_givens.specs.TopGivens.{top_given, given_over}
use Rattle.top_givens.specs.Binding.{BindsMore}
use Rattle.top_givens.proofs.Tops.{none_of_two, some_of_two, given_tested}
use Rattle.top_givens.proofs.Bindings.{binds_other, binds_settled, binds_new, in_place, unnegated, negated}
use Rattle.top_givens.proofs.binding.bind_pair.Goals as goal

pub returns-then-left_top-holds : goal.returns-then-left_top-holds
returns-then-left_top-holds c =
    binds_other c.args.top.now (edge_of c.args.left c.args.right) c.args.settled.now c.args.givens.now
    (none_of_two c.args.top.now c.args.left c.args.right c.holds-left_top.result c.holds.result c.holds-left_top.ensures c.holds.ensures c.if-left_top-holds.true)

pub returns-then-not-branch : goal.returns-then-not-branch
returns-then-not-branch c =
    let top = c.args.top.now in
    let e = edge_of c.args.left c.args.right in
    let one = some_of_two top c.args.left c.args.right c.holds-left_top.result c.holds.result c.holds-left_top.ensures c.holds.ensures c.if-left_top-holds.false in
    let there = negated (list_any (is_same e) c.args.settled.now) (sym c.in_ok-add.ensures.is_new ∙ c.if-not-branch.true) in
    subst (λ (es : List Edge). BindsMore top (e ∷ []) c.args.settled.now c.args.givens.now es c.args.givens.now) (sym c.in_ok-add.ensures.ok)
    (binds_settled top e c.args.settled.now c.args.givens.now one there)

pub returns-then-left_top : goal.returns-then-left_top
returns-then-left_top c =
    let top = c.args.top.now in
    let e = edge_of c.args.left c.args.right in
    let one = some_of_two top c.args.left c.args.right c.holds-left_top.result c.holds.result c.holds-left_top.ensures c.holds.ensures c.if-left_top-holds.false in
    let new = unnegated (list_any (is_same e) c.args.settled.now) (sym c.in_ok-add.ensures.is_new ∙ c.if-not-branch.false) in
    let given = given_tested top c.args.left c.args.right c.holds-left_top.result c.holds.result c.holds-left_top.ensures c.holds.ensures c.if-left_top-holds.false in
    let is : top_given top e ≡ c.given_over.result = given ∙ ap (λ b. if b then given_over c.args.left c.args.right else given_over c.args.right c.args.left) c.if-left_top.true ∙ sym c.given_over.ensures in
    in_place top e c.args.settled.now c.add.new.self c.args.givens.now c.push.new.self c.given_over.result c.push.result c.in_ok-add.ensures.ok is c.push.ensures.ok
    (binds_new top e c.args.settled.now c.args.givens.now one new)

pub returns-else-left_top : goal.returns-else-left_top
returns-else-left_top c =
    let top = c.args.top.now in
    let e = edge_of c.args.left c.args.right in
    let one = some_of_two top c.args.left c.args.right c.holds-left_top.result c.holds.result c.holds-left_top.ensures c.holds.ensures c.if-left_top-holds.false in
    let new = unnegated (list_any (is_same e) c.args.settled.now) (sym c.in_ok-add.ensures.is_new ∙ c.if-not-branch.false) in
    let given = given_tested top c.args.left c.args.right c.holds-left_top.result c.holds.result c.holds-left_top.ensures c.holds.ensures c.if-left_top-holds.false in
    let is : top_given top e ≡ c.given_over-else-left_top.result =
    given ∙ ap (λ b. if b then given_over c.args.left c.args.right else given_over c.args.right c.args.left) c.if-left_top.false ∙ sym c.given_over-else-left_top.ensures in
    in_place top e c.args.settled.now c.add.new.self c.args.givens.now c.push-else-left_top.new.self c.given_over-else-left_top.result c.push-else-left_top.result
    c.in_ok-add.ensures.ok is c.push-else-left_top.ensures.ok
    (binds_new top e c.args.settled.now c.args.givens.now one new)
