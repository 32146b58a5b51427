use Rattle.std.proofs.Common.{◌≡◌, ◌+◌, ◌++◌, ◌∷◌, [], length, is_ok, sym, ap, ◌∙◌, arith}
use Rattle.std.proofs.lemmas.List.{length-append}
use Rattle.rib_bodies.specs.Rib.{entries_of}
use Rattle.rib_bodies.proofs.Loops.{entries-step, entries-fault, entries-end, entries-tail, whole, in-is}
use Rattle.rib_bodies.proofs.rib.entries_over.Goals as goal

pub entries-preserved : goal.entries-preserved
entries-preserved c =
    let all = entries_of c.args.form c.args.peers.now.count c.args.count c.args.bytes.now in
    let before = c.entries.invariant.0 in
    let one = c.in-Ok.field-0-0 in (
      before ++ one ∷ [],
      length-append before (one ∷ []) ∙ ap (λ n. n + 1) c.entries.invariant.1,
      entries-step c.args.form c.args.peers.now.count c.args.count c.entries.counter c.entries.rest.now c.in-Ok.behind.now one before all
          c.entries-test.true c.in-Ok.ensures c.entries.invariant.2,
    )

pub returns-in-Err-clause-entries : goal.returns-in-Err-clause-entries
returns-in-Err-clause-entries c =
    let all = entries_of c.args.form c.args.peers.now.count c.args.count c.args.bytes.now in
    sym (entries-fault c.args.form c.args.peers.now.count c.args.count c.entries.counter c.entries.rest.now c.in-Err.fault c.entries.invariant.0 all c.entries-test.true c.in-Err.ensures
    c.entries.invariant.2)

pub returns-then-not-is_empty-clause-entries : goal.returns-then-not-is_empty-clause-entries
returns-then-not-is_empty-clause-entries c =
    let all = entries_of c.args.form c.args.peers.now.count c.args.count c.args.bytes.now in
    sym (entries-tail c.args.form c.args.peers.now.count c.args.count c.entries.counter c.entries.rest.now c.entries.invariant.0 all (omega arith) (sym c.is_empty.ensures
    ∙ c.if-not-is_empty.true) c.entries.invariant.2)

pub invariant_of-result : goal.invariant_of-result
invariant_of-result c =
    let all = entries_of c.args.form c.args.peers.now.count c.args.count c.args.bytes.now in
    ap is_ok (entries-end c.args.form c.args.peers.now.count c.args.count c.entries.counter c.entries.rest.now c.entries.invariant.0 all (omega arith) (sym c.is_empty.ensures
    ∙ c.if-not-is_empty.false) c.entries.invariant.2)

pub returns-clause-few : goal.returns-clause-few
returns-clause-few c =
    let all = entries_of c.args.form c.args.peers.now.count c.args.count c.args.bytes.now in
    let before = c.entries.invariant.0 in
    let end = entries-end c.args.form c.args.peers.now.count c.args.count c.entries.counter c.entries.rest.now before all (omega arith) (sym c.is_empty.ensures
    ∙ c.if-not-is_empty.false) c.entries.invariant.2 in
    let turns : c.entries.counter ≡ c.args.count = omega arith in
    ap length (in-is c.args.form c.args.peers.now.count c.args.count c.args.bytes.now before end) ∙ c.entries.invariant.1 ∙ turns

pub returns-clause-entries : goal.returns-clause-entries
returns-clause-entries c =
    let all = entries_of c.args.form c.args.peers.now.count c.args.count c.args.bytes.now in
    let end = entries-end c.args.form c.args.peers.now.count c.args.count c.entries.counter c.entries.rest.now c.entries.invariant.0 all (omega arith) (sym c.is_empty.ensures
    ∙ c.if-not-is_empty.false)
    c.entries.invariant.2 in
    whole c.args.form c.args.peers.now.count c.args.count c.args.bytes.now (ap is_ok end)
