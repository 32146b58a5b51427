use Rattle.std.proofs.Common.{◌≡◌, ◌-◌, count_by, not, arith}
use Rattle.relationships.specs.Fates.{is_kept}
use Rattle.result_rules.proofs.Counting.{count_with_others, totals_are}
use Rattle.result_rules.proofs.totals.totals_of.Goals as goal

pub returns : goal.returns
returns c =
    let fates = c.args.fates.now in
    let kept = c.kept_paths-kept.ensures in
    let lost : c.len.result - c.kept_paths-kept.result ≡ count_by (λ fate. not (is_kept fate)) fates = omega (arith, count_with_others is_kept fates, c.len.ensures, kept) in
    totals_are _ _ _ _ _ _ _ _ _ kept lost c.forced_lines.ensures c.peer_lines.ensures
