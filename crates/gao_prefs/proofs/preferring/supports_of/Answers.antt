use Rattle.std.proofs.Common.{◌≤◌, ◌^◌, get_or, arith}
use Rattle.relationships.specs.declared.label.End.{End}
use Rattle.gao_prefs.proofs.preferring.supports_of.Goals as goal

pub overflow_add-ends : goal.overflow_add-ends
overflow_add-ends c =
    let i = c.loop-ends.ends-index in
    let low : (get_or c.args.votes.now i (record { low = 0; high = 0 })).low ≤ 2 ^ 26 = c.requires.small i End.Low in
    let high : (get_or c.args.votes.now i (record { low = 0; high = 0 })).high ≤ 2 ^ 26 = c.requires.small i End.High in omega (arith, low, high)
