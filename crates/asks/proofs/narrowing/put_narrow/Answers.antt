use Rattle.std.proofs.Common.{arith}
use Rattle.asks.proofs.Opens.{before_few}
use Rattle.asks.proofs.Narrowings.{narrow_below}
use Rattle.asks.proofs.narrowing.put_narrow.Goals as goal

pub narrow_node_of-requires-clause-small : goal.narrow_node_of-requires-clause-small
narrow_node_of-requires-clause-small c = λ place n at.
    let le = before_few c.args.marks.now place in let is = c.requires.before.each place n at in let few = c.requires.few in omega (arith, le, is, few)

pub narrow_node_of-requires-2-clause-small : goal.narrow_node_of-requires-2-clause-small
narrow_node_of-requires-2-clause-small c = λ place n at.
    let le = before_few c.args.marks.now place in let is = c.requires.before.each place n at in let few = c.requires.few in omega (arith, le, is, few)

pub add_arc-requires-clause-tail : goal.add_arc-requires-clause-tail
add_arc-requires-clause-tail c =
    let marks = c.args.marks.now in
    let is = c.narrow_node_of.ensures marks c.requires.before in
    let lt = narrow_below marks c.args.tail (c.is_open_node.ensures.0 c.if-not-is_open_node.false) in
    let nodes = c.requires.nodes in
    omega (arith, is, lt, nodes)

pub add_arc-requires-clause-head : goal.add_arc-requires-clause-head
add_arc-requires-clause-head c =
    let marks = c.args.marks.now in
    let is = c.narrow_node_of-2.ensures marks c.requires.before in
    let lt = narrow_below marks c.args.head (c.is_open_node-2.ensures.0 c.if-not-is_open_node-2.false) in
    let nodes = c.requires.nodes in
    omega (arith, is, lt, nodes)
