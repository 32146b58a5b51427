use Rattle.std.proofs.Common.{ℕ, sym, subst}
use Rattle.std.proofs.lemmas.Result.{IfOk-from_err}
use Rattle.std.specs.Prelude.{Contains}
use Rattle.order_trials.specs.declared.showing.Shown.{Shown}
use Rattle.order_trials.specs.Showing.{IsFullyShown}
use Rattle.order_trials.specs.Settling.{IsSettled}
use Rattle.forced_edges.proofs.batches.settle_all.Goals as goal

pub returns-in_err-settling : goal.returns-in_err-settling
returns-in_err-settling c =
    let r = c.from_residual.result in
    let is = c.from_residual.ensures.0 in
    record { shown = IfOk-from_err r _ is; settled = IfOk-from_err r _ is }

pub settle_batches-requires : goal.settle_batches-requires
settle_batches-requires c = record { inside = c.requires.inside; settling = c.in_ok-settling.ensures }

pub returns-in-Ok : goal.returns-in-Ok
returns-in-Ok c =
    let posed = c.args.problem.now in
    let same = sym c.into_shown.ensures in
    record {
      shown = subst (IsFullyShown posed) same c.in-Ok.ensures.settling.shown;
      settled = subst (λ (s : Shown). (n : ℕ) → Contains c.args.nodes.now n → IsSettled posed s.nodes.items n) same c.in-Ok.ensures.settled;
    }

pub returns-in-Err : goal.returns-in-Err
returns-in-Err c = record { shown = tt; settled = tt }
