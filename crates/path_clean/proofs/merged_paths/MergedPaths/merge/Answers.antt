use Rattle.std.proofs.Common.{◌≡◌, ◌∙◌, ◌∷◌, ◌++◌, [], length, ap, subst, arith}
use Rattle.tor_arena.specs.RowLists.{rows_from}
use Rattle.path_clean.specs.Clean.{merged_of}
use Rattle.path_clean.specs.Behind.{IsMergedBehind}
use Rattle.path_clean.proofs.MergedLemmas.{merged-last, parted-last}
use Rattle.path_clean.proofs.merged_paths.MergedPaths.merge.Goals as goal

pub invariant_of-self-in-Ok : goal.invariant_of-self-in-Ok
invariant_of-self-in-Ok c =
    let old = c.self.inside.numbers.items in
    let ends = c.self.inside.ends.items in
    let new = c.merge_behind.new.numbers.items in
    let many : c.len.result ≡ length new = omega (arith, c.len.ensures) in
    let end : c.push_reserved.new.self.items ≡ ends ++ length new ∷ [] =
    c.push_reserved.ensures.items ∙ ap (λ es. es ++ c.len.result ∷ []) c.reserve.ensures.items ∙ ap (λ e. ends ++ e ∷ []) many in
    parted-last old ends new c.push_reserved.new.self.items (merged_of c.args.sets c.args.width c.args.attrs.now) c.in-Ok.cause c.in-Ok.ensures end c.self.invariant

pub returns-in-Ok-clause-merged : goal.returns-in-Ok-clause-merged
returns-in-Ok-clause-merged c =
    let old = c.self.inside.numbers.items in
    let ends = c.self.inside.ends.items in
    let new = c.merge_behind.new.numbers.items in
    let ends' = c.push_reserved.new.self.items in
    let merged = merged_of c.args.sets c.args.width c.args.attrs.now in
    let many : c.len.result ≡ length new = omega (arith, c.len.ensures) in
    let end : ends' ≡ ends ++ length new ∷ [] =
    c.push_reserved.ensures.items ∙ ap (λ es. es ++ c.len.result ∷ []) c.reserve.ensures.items ∙ ap (λ e. ends ++ e ∷ []) many in
    subst (λ rows. IsMergedBehind rows (rows_from new 0 ends') merged c.in-Ok.cause) c.self.view_is
    (merged-last old ends new ends' merged c.in-Ok.cause c.in-Ok.ensures end c.self.invariant)
