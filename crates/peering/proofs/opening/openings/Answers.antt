use Rattle.std.proofs.Common.{◌≡◌, ◌≤◌, ◌+◌, inl, length, take, refl, sym, subst, arith, Contains}
use Rattle.std.proofs.lemmas.List.{take_all}
use Rattle.peering.proofs.Besides.{AreOpenedTo, opened_more, nothing_paired}
use Rattle.peering.proofs.opening.openings.Goals as goal
use Rattle.peering.proofs.opening.openings.Goals.{then-open_along+in_ok-add_pairs, else-open_along}

pub loop-path-preserved : goal.loop-path-preserved
loop-path-preserved c =
    let paths = c.args.graph.now in
    let kept = c.args.kept.now in
    let excluded = c.args.excluded.now in
    let index = c.loop-path.path-index in
    let new = c.open_along.new.opened.items in
    let lists = c.loop-path.partners in
    let steps = c.steps-steps.result.now in
    elim c.if-open_along.branch [
      | then-open_along+in_ok-add_pairs w ↦
          subst (AreOpenedTo paths kept excluded (index + 1) new) (sym w.partners-is)
          (opened_more paths kept excluded index c.path-item.result steps c.loop-path-test.true (sym c.path-item.is) c.steps-steps.ensures.steps c.steps-steps.ensures.inside c.requires.excluded
          c.loop-path.opened.items new lists w.add_pairs.new.partners c.open_along.ensures.long c.open_along.ensures.opened
          w.in_ok-add_pairs.ensures.length w.in_ok-add_pairs.ensures.stay w.in_ok-add_pairs.ensures.inside w.in_ok-add_pairs.ensures.all c.loop-path.invariant)
      | else-open_along w ↦
          subst (AreOpenedTo paths kept excluded (index + 1) new) (sym w.partners-is)
          (opened_more paths kept excluded index c.path-item.result steps c.loop-path-test.true (sym c.path-item.is) c.steps-steps.ensures.steps c.steps-steps.ensures.inside c.requires.excluded
          c.loop-path.opened.items new lists lists c.open_along.ensures.long c.open_along.ensures.opened
          refl (λ k p among. among) (λ k p among. inl among)
          (λ a b on f g. absurd (nothing_paired excluded steps (c.open_along.ensures.none w.if-open_along.false) a b on f)) c.loop-path.invariant)
    ]

pub returns-clause-all_opened : goal.returns-clause-all_opened
returns-clause-all_opened c = λ edge place lt f among holds.
    let test = c.loop-path-test.false in
    let le : length c.args.kept.now ≤ c.loop-path.path-index = omega (arith, test) in
    let all : take c.loop-path.path-index c.args.kept.now ≡ c.args.kept.now = take_all c.loop-path.path-index c.args.kept.now le in
    c.loop-path.invariant.all edge place lt f (subst (λ l. Contains l place) (sym all) among) holds

pub returns-clause-all_beside : goal.returns-clause-all_beside
returns-clause-all_beside c = λ place a b steps among are on f g.
    let test = c.loop-path-test.false in
    let le : length c.args.kept.now ≤ c.loop-path.path-index = omega (arith, test) in
    let all : take c.loop-path.path-index c.args.kept.now ≡ c.args.kept.now = take_all c.loop-path.path-index c.args.kept.now le in
    c.loop-path.invariant.all_beside place a b steps (subst (λ l. Contains l place) (sym all) among) are on f g
