use Rattle.std.proofs.Common.{None, sym, ap, subst}
use Rattle.path_clean.specs.Clean.{merge_path}
use Rattle.path_clean.specs.Behind.{IsPutBehind}
use Rattle.path_clean.proofs.CauseLemmas.{plain-merged}
use Rattle.path_clean.proofs.cleaning.merge_behind.Goals as goal

pub returns-in_ok-append_merged-in-Some : goal.returns-in_ok-append_merged-in-Some
returns-in_ok-append_merged-in-Some c =
    let old = c.args.numbers.now.items in
    let new = c.append_merged.new.numbers.items in
    subst (λ merged. IsPutBehind old new merged None) (sym (ap (merge_path c.args.sets) c.in-Some.ensures))
    (plain-merged c.args.sets c.in-Some.ases old new c.in_ok-append_merged-in-Some.ensures)
