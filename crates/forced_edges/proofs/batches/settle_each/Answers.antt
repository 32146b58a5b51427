use Rattle.std.proofs.Common.{◌<◌, refl, arith}
use Rattle.std.proofs.lemmas.List.Elements.{All-contains}
use Rattle.std.proofs.lemmas.Result.{IfOk-from_err}
use Rattle.tor_arena.proofs.Gets.{Contains-from_has}
use Rattle.tor_digraph.proofs.Members.{read-at}
use Rattle.forced_edges.proofs.Batching.{batch_begins, batch_next, batch_done}
use Rattle.forced_edges.proofs.batches.settle_each.Goals as goal

pub loop-place-init : goal.loop-place-init
loop-place-init c = record {
  batch = batch_begins c.args.problem.now c.args.nodes.now c.args.settling.now.shown c.args.settling.now.together c.args.waiting.now c.requires.settling.shown
      c.requires.settling.count c.requires.none c.requires.empty;
  trial = c.requires.settling.trial;
}

pub loop-place-preserved : goal.loop-place-preserved
loop-place-preserved c =
    let nodes = c.args.nodes.now in
    let place = c.loop-place.place in
    let test = c.loop-place-test.true in
    let end = c.loop-place.auto.place-end in
    let node = c.index-nodes-place.result in
    let at = read-at nodes nodes place node refl c.index-nodes-place.is (omega (arith, test, end)) in
    let below = All-contains (λ n. n < c.args.problem.now.formula.net.nodes) nodes node c.requires.inside (Contains-from_has nodes node (place, at)) in
    record {
      batch = batch_next c.args.problem.now nodes c.args.settling.now.shown place c.loop-place.settling c.settle.new.self c.loop-place.waiting c.let_wait.new.waiting node
          c.in_ok-done.done c.loop-place.invariant.batch at below c.in_ok-done.ensures c.in_ok-let_wait.ensures;
      trial = c.in_ok-done.ensures.trial;
    }

pub settle-requires : goal.settle-requires
settle-requires c =
    let nodes = c.args.nodes.now in
    let place = c.loop-place.place in
    let test = c.loop-place-test.true in
    let end = c.loop-place.auto.place-end in
    let node = c.index-nodes-place.result in
    let at = read-at nodes nodes place node refl c.index-nodes-place.is (omega (arith, test, end)) in
    let so = c.loop-place.invariant.batch in
    record {
      there = All-contains (λ n. n < c.args.problem.now.formula.net.nodes) nodes node c.requires.inside (Contains-from_has nodes node (place, at));
      together = so.together_so;
      trial = c.loop-place.invariant.trial;
      shown = so.shown_so;
    }

pub returns-in_err-done : goal.returns-in_err-done
returns-in_err-done c =
    let r = c.from_residual.result in
    let is = c.from_residual.ensures.0 in
    record { settling = IfOk-from_err r _ is; batch = IfOk-from_err r _ is }

pub returns-in_err-let_wait : goal.returns-in_err-let_wait
returns-in_err-let_wait c =
    let r = c.from_residual-in_err-let_wait.result in
    let is = c.from_residual-in_err-let_wait.ensures.0 in
    record { settling = IfOk-from_err r _ is; batch = IfOk-from_err r _ is }

pub returns : goal.returns
returns c =
    let so = c.loop-place.invariant.batch in
    let test = c.loop-place-test.false in
    let end = c.loop-place.auto.place-end in
    record {
      settling = record { shown = so.shown_so; count = so.together_so.count; trial = c.loop-place.invariant.trial };
      batch = batch_done c.args.problem.now c.args.nodes.now c.args.settling.now.shown c.loop-place.place c.loop-place.settling.together c.loop-place.settling.shown
          c.loop-place.waiting c.loop-place.invariant.batch (omega (arith, test, end));
    }
