use Rattle.std.proofs.Common.{sym, ap, ◌∙◌, arith}
use Rattle.relationships.specs.declared.label.Label.{Label}
use Rattle.telling.specs.Told.{going_of}
use Rattle.telling.proofs.SlopeLemmas.{strictly, peer_flat, low_down, low_up, high_up, high_down, upward, downward}
use Rattle.telling.proofs.goings.going_by.Goals as goal

pub returns-in-Peer : goal.returns-in-Peer
returns-in-Peer c L ne e = ap going_of (sym (peer_flat L c.args.from c.args.to ne (e ∙ c.in-Peer.is)))

pub returns-then-from-to : goal.returns-then-from-to
returns-then-from-to c L ne e =
    ap going_of (sym (low_down L c.args.from c.args.to c.if-from-to.true (upward L c.args.from c.args.to Label.Low c.if-from-to.true (e ∙ c.in-Low.is))))

pub returns-else-from-to : goal.returns-else-from-to
returns-else-from-to c L ne e =
    let lt = strictly c.args.from c.args.to (omega (arith, c.if-from-to.false)) ne in
    ap going_of (sym (low_up L c.args.from c.args.to lt (downward L c.args.from c.args.to Label.Low lt (e ∙ c.in-Low.is))))

pub returns-then-from-to-2 : goal.returns-then-from-to-2
returns-then-from-to-2 c L ne e =
    ap going_of (sym (high_up L c.args.from c.args.to c.if-from-to-2.true (upward L c.args.from c.args.to Label.High c.if-from-to-2.true (e ∙ c.in-High.is))))

pub returns-else-from-to-2 : goal.returns-else-from-to-2
returns-else-from-to-2 c L ne e =
    let lt = strictly c.args.from c.args.to (omega (arith, c.if-from-to-2.false)) ne in
    ap going_of (sym (high_down L c.args.from c.args.to lt (downward L c.args.from c.args.to Label.High lt (e ∙ c.in-High.is))))
