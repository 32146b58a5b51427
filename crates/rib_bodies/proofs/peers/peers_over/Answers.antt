use Rattle.std.proofs.Common.{◌≡◌, ◌+◌, ◌++◌, ◌∷◌, [], length, is_ok, sym, ap, ◌∙◌, arith}
use Rattle.std.proofs.lemmas.List.{length-append}
use Rattle.rib_bodies.specs.Peers.{peers_at}
use Rattle.rib_bodies.proofs.PeerLoops.{named-step, named-fault, named-end, named-tail, whole_peers, peers_of_count-is}
use Rattle.rib_bodies.proofs.peers.peers_over.Goals as goal

pub peers-preserved : goal.peers-preserved
peers-preserved c =
    let all = peers_at c.args.count c.args.bytes.now in
    let before = c.peers.invariant.0 in
    let one = c.in-Ok.field-0-0 in (
      before ++ one ∷ [],
      length-append before (one ∷ []) ∙ ap (λ n. n + 1) c.peers.invariant.1,
      named-step c.args.count c.peers.counter c.peers.rest.now c.in-Ok.behind.now one before all c.peers-test.true c.in-Ok.ensures c.peers.invariant.2,
    )

pub returns-in-Err-clause-peers : goal.returns-in-Err-clause-peers
returns-in-Err-clause-peers c =
    let all = peers_at c.args.count c.args.bytes.now in
    sym (named-fault c.args.count c.peers.counter c.peers.rest.now c.in-Err.fault c.peers.invariant.0 all c.peers-test.true c.in-Err.ensures c.peers.invariant.2)

pub returns-then-not-is_empty-clause-peers : goal.returns-then-not-is_empty-clause-peers
returns-then-not-is_empty-clause-peers c =
    let all = peers_at c.args.count c.args.bytes.now in
    sym (named-tail c.args.count c.peers.counter c.peers.rest.now c.peers.invariant.0 all (omega arith) (sym c.is_empty.ensures ∙ c.if-not-is_empty.true)
    c.peers.invariant.2)

pub invariant_of-result : goal.invariant_of-result
invariant_of-result c =
    let all = peers_at c.args.count c.args.bytes.now in
    ap is_ok (named-end c.args.count c.peers.counter c.peers.rest.now c.peers.invariant.0 all (omega arith) (sym c.is_empty.ensures ∙ c.if-not-is_empty.false)
    c.peers.invariant.2)

pub returns-clause-few : goal.returns-clause-few
returns-clause-few c =
    let all = peers_at c.args.count c.args.bytes.now in
    let before = c.peers.invariant.0 in
    let end = named-end c.args.count c.peers.counter c.peers.rest.now before all (omega arith) (sym c.is_empty.ensures ∙ c.if-not-is_empty.false) c.peers.invariant.2 in
    let turns : c.peers.counter ≡ c.args.count = omega arith in
    ap length (peers_of_count-is c.args.count c.args.bytes.now before end) ∙ c.peers.invariant.1 ∙ turns

pub returns-clause-peers : goal.returns-clause-peers
returns-clause-peers c =
    let all = peers_at c.args.count c.args.bytes.now in
    let end = named-end c.args.count c.peers.counter c.peers.rest.now c.peers.invariant.0 all (omega arith) (sym c.is_empty.ensures ∙ c.if-not-is_empty.false)
    c.peers.invariant.2 in
    whole_peers c.args.count c.args.bytes.now (ap is_ok end)
