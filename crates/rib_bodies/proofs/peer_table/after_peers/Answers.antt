use Rattle.std.proofs.Common.{arith}
use Rattle.std.proofs.lemmas.Result.{err_from_is_err_and}
use Rattle.rib_bodies.specs.PeerTable.{behind_peers}
use Rattle.rib_bodies.proofs.Loops.{peers-step, peers-fault, peers-end}
use Rattle.rib_bodies.proofs.peer_table.after_peers.Goals as goal

pub peers-preserved : goal.peers-preserved
peers-preserved c =
    peers-step c.args.count c.peers.counter c.peers.rest.now c.in_ok-rest.rest.now (behind_peers c.args.count c.args.bytes.now) c.peers-test.true c.in_ok-rest.ensures.gives c.peers.invariant

pub returns-in_err-rest-clause-gives : goal.returns-in_err-rest-clause-gives
returns-in_err-rest-clause-gives c =
    let p = err_from_is_err_and c.from_residual.result c.from_residual.ensures.1 in
    rw (p.1, p.2) (peers-fault c.args.count c.peers.counter c.peers.rest.now c.in_err-rest.field-0.0
    (behind_peers c.args.count c.args.bytes.now) c.peers-test.true c.in_err-rest.ensures.gives c.peers.invariant)

pub returns-clause-gives : goal.returns-clause-gives
returns-clause-gives c = peers-end c.args.count c.peers.counter c.peers.rest.now (behind_peers c.args.count c.args.bytes.now) (omega arith) c.peers.invariant
