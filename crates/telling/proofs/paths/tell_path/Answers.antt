use Rattle.std.proofs.Common.{◌≡◌, ◌+◌, Some, slice_get, refl, sym, ◌∙◌, arith}
use Rattle.std.proofs.lemmas.Option.{slice_get_within}
use Rattle.result_rules.specs.declared.rule.Rule.TheVariants.{LostRefuted}
use Rattle.telling.proofs.PathLemmas.{lost_walk}
use Rattle.telling.proofs.paths.tell_path.Goals as goal

pub returns-then-not-is_kept : goal.returns-then-not-is_kept
returns-then-not-is_kept c =
    let file = c.args.file.now in
    let k = c.in-Some.path in
    let line = c.get-line.result in
    let lost = lost_walk line.fate (sym c.is_kept.ensures ∙ c.if-not-is_kept.true) in
    let at : slice_get file.paths k ≡ Some line = c.get-line.ensures in
    let number : c.args.number ≡ k + 1 = omega (arith, c.in-Some.ensures.some, c.if-number-eq0.false) in
    (k, number, (refl, (line, at, (lost.0, lost.1, c.requires.accepted LostRefuted k (slice_get_within file.paths k line at) line at lost.0 lost.1))))
