use Rattle.std.proofs.Common.{◌≡◌, ◌∙◌, Some, None, sym, subst, length, arith}
use Rattle.path_merge.specs.Merging.{MergesOnto}
use Rattle.path_clean.specs.Behind.{IsPutBehind}
use Rattle.path_clean.specs.Clean.{merge_segments}
use Rattle.path_clean.proofs.CauseLemmas.{merged_by}
use Rattle.path_clean.proofs.cleaning.merge_segments.Goals as goal

pub returns-in-None : goal.returns-in-None
returns-in-None c =
    let segments = c.args.segments in
    let old = c.args.numbers.now.items in
    let new = c.append_segments.new.numbers.items in
    let appended = c.in_ok-append_segments.ensures in
    let many : c.len.result ≡ length old = omega (arith, c.len.ensures) in
    let merges : MergesOnto (length old) old segments new = subst (λ start. MergesOnto start old segments new) many appended.path in
    merged_by c.args.sets segments old new None (sym c.in-None.is ∙ appended.oddity) appended.behind merges

pub returns-in-Some : goal.returns-in-Some
returns-in-Some c =
    let segments = c.args.segments in
    let old = c.args.numbers.now.items in
    let new = c.append_segments.new.numbers.items in
    let appended = c.in_ok-append_segments.ensures in
    let many : c.len.result ≡ length old = omega (arith, c.len.ensures) in
    let merges : MergesOnto (length old) old segments new = subst (λ start. MergesOnto start old segments new) many appended.path in
    subst (IsPutBehind old new (merge_segments c.args.sets segments)) (sym c.cause_of.ensures)
    (merged_by c.args.sets segments old new (Some c.in-Some.oddity) (sym c.in-Some.is ∙ appended.oddity) appended.behind merges)
