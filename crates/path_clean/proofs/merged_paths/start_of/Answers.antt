use Rattle.std.proofs.Common.{◌≡◌, ◌∙◌, ◌-◌, ◌<◌, suc, take, length, ap, sym, arith}
use Rattle.tor_arena.specs.RowLists.{last_end}
use Rattle.path_clean.proofs.MergedLemmas.{begins-at}
use Rattle.path_clean.proofs.merged_paths.start_of.Goals as goal

pub returns-else-place-eq0 : goal.returns-else-place-eq0
returns-else-place-eq0 c =
    let ends = c.args.ends.now in
    let place = c.args.place in
    let some = c.if-place-eq0.false in
    let next : suc (place - 1) ≡ place = omega (arith, some) in
    let there = c.requires in
    let within : place - 1 < length ends = omega (arith, there) in
    sym (begins-at 0 ends (place - 1) within) ∙ ap (λ k. last_end 0 (take k ends)) next
