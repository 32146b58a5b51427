use Rattle.std.proofs.Common.{rules, ◌≡◌, inr, length, sym, subst}
use Rattle.std.proofs.lemmas.Result.{IfOk-from_err}
use Rattle.forced_edges.specs.Batches.{AreNodesOf, IsBatchSettled}
use Rattle.forced_edges.proofs.Batching.{settling_next, settling_done}
use Rattle.forced_edges.proofs.batches.settle_batches.Goals as goal

pub loop-alloc-init : goal.loop-alloc-init
loop-alloc-init c = record {
  settling = c.in_ok-waiting.ensures.settling;
  under_way = settling_next c.args.problem.now c.args.nodes.now c.args.settling.now.shown c.settle_batch.new.settling.shown c.args.nodes.now c.in_ok-waiting.waiting
      (record { shown_so = c.requires.settling.shown; settled = λ n h. inr h; inside = c.requires.inside }) c.in_ok-waiting.ensures.batch;
}

pub loop-alloc-preserved : goal.loop-alloc-preserved
loop-alloc-preserved c =
    let now = c.in_ok-waiting-2 in
    let made = c.settle_batch-in-loop-alloc.new.settling.shown in
    record {
      settling = now.ensures.settling;
      under_way = settling_next c.args.problem.now c.args.nodes.now c.loop-alloc.settling.shown made c.loop-alloc.waiting now.waiting c.loop-alloc.invariant.under_way
          (subst (λ l. IsBatchSettled c.args.problem.now l c.loop-alloc.settling.shown made now.waiting) c.as_slice.ensures now.ensures.batch);
    }

pub settle_batch-requires : goal.settle_batch-requires
settle_batch-requires c = record { inside = c.requires.inside; settling = c.requires.settling }

pub returns-in_err-waiting : goal.returns-in_err-waiting
returns-in_err-waiting c =
    let r = c.from_residual.result in
    let is = c.from_residual.ensures.0 in
    record { settling = IfOk-from_err r _ is; settled = IfOk-from_err r _ is }

pub settle_batch-requires-in-loop-alloc : goal.settle_batch-requires-in-loop-alloc
settle_batch-requires-in-loop-alloc c = record {
  inside = subst (λ nodes. AreNodesOf c.args.problem.now nodes) (sym c.as_slice.ensures) c.loop-alloc.invariant.under_way.inside;
  settling = c.loop-alloc.invariant.settling;
}

pub returns-clause-settled : goal.returns-clause-settled
returns-clause-settled c =
    let none : length c.loop-alloc.waiting ≡ 0 = search rules in
    settling_done c.args.problem.now c.args.nodes.now c.loop-alloc.settling.shown c.loop-alloc.waiting c.loop-alloc.invariant.under_way none
