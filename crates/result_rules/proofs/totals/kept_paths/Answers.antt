use Rattle.std.proofs.Common.{rules, ◌≡◌, ◌∙◌, ◌+◌, cond, take, count_by, Some, option_map, slice_get, ap, subst, arith}
use Rattle.relationships.specs.Fates.{is_kept}
use Rattle.result_rules.proofs.Counting.{count_more}
use Rattle.result_rules.proofs.totals.kept_paths.Goals as goal
use Rattle.result_rules.proofs.totals.kept_paths.Goals.{then-is_kept, else-is_kept}

pub loop-place-preserved : goal.loop-place-preserved
loop-place-preserved c =
    let fates = c.args.fates.now in
    let place = c.loop-place.place in
    let same : c.unwrap.result ≡ place = search rules in
    let more = count_more fates place c.is_kept.result (subst (λ k. option_map is_kept (slice_get fates k) ≡ Some c.is_kept.result) same c.is_kept.ensures) in
    let so = c.loop-place.invariant.0 in
    let le = c.loop-place.invariant.1 in
    elim c.if-is_kept.branch [
      | then-is_kept w ↦
          let yes : count_by is_kept (take (place + 1) fates) ≡ count_by is_kept (take place fates) + 1 = more ∙ ap (λ b. count_by is_kept (take place fates) + cond b 1 0) w.if-is_kept.true in
          let is = w.count-is in
          (omega (arith, yes, so, is), omega (arith, le, is))
      | else-is_kept w ↦
          let no : count_by is_kept (take (place + 1) fates) ≡ count_by is_kept (take place fates) + 0 = more ∙ ap (λ b. count_by is_kept (take place fates) + cond b 1 0) w.if-is_kept.false in
          let is = w.count-is in
          (omega (arith, no, so, is), omega (arith, le, is))
    ]
