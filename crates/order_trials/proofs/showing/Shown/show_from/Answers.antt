use Rattle.std.proofs.Common.{arith}
use Rattle.tor_arena.proofs.Gets.{Contains-from_has}
use Rattle.order_trials.proofs.Showings.{closed_next, closed_all}
use Rattle.order_trials.proofs.showing.Shown.show_from.Goals as goal

pub loop-at-init : goal.loop-at-init
loop-at-init c = record { showing = c.requires.showing; closed = c.requires.closed; kept = λ k x at. at }

pub show_heads-requires-clause-tail : goal.show_heads-requires-clause-tail
show_heads-requires-clause-tail c = Contains-from_has c.loop-at.self.nodes.items c.get-tail.result (c.loop-at.at, c.get-tail.ensures.node)

pub loop-at-preserved : goal.loop-at-preserved
loop-at-preserved c = record {
  showing = c.in_ok-show_heads.ensures.showing;
  closed = closed_next c.args.problem.now c.loop-at.self.nodes.items c.show_heads.new.self.nodes.items c.loop-at.at c.get-tail.result c.loop-at.invariant.closed
      c.get-tail.ensures.node c.in_ok-show_heads.ensures.kept c.in_ok-show_heads.ensures.heads;
  kept = λ k x at. c.in_ok-show_heads.ensures.kept k x (c.loop-at.invariant.kept k x at);
}

pub returns-clause-shown : goal.returns-clause-shown
returns-clause-shown c =
    let test = c.loop-at-test.false in
    let len = c.len.ensures in
    record {
      showing = c.loop-at.invariant.showing;
      closed = closed_all c.args.problem.now c.loop-at.self.nodes.items c.loop-at.at c.loop-at.invariant.closed (omega (arith, test, len));
    }
