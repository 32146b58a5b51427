use Rattle.std.proofs.Common.{length, ap, arith}
use Rattle.asks.proofs.Opens.{opens_few}
use Rattle.asks.proofs.asking.open_asks.Goals as goal

pub numbered_over-asks-requires-clause-few : goal.numbered_over-asks-requires-clause-few
numbered_over-asks-requires-clause-few c =
    let is = ap length c.requires.places in let le = opens_few 0 c.args.marks.now in let few = c.requires.few in
    omega (arith, is, le, few)
