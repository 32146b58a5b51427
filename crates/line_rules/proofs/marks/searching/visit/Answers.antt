use Rattle.std.proofs.lemmas.Result.{on_ok_weaker}
use Rattle.line_rules.proofs.Rounds.{rounds-new}
use Rattle.line_rules.proofs.marks.searching.visit.Goals as goal

pub returns : goal.returns
returns c =
    on_ok_weaker c.push.result
    (λ e. rounds-new c.args.round c.args.edge c.get.result.now c.args.rounds.now.items c.put.new.self.items c.args.found.now c.push.new.self c.get.ensures c.if-get-round.false c.put.ensures.items e)
    c.push.ensures.ok
