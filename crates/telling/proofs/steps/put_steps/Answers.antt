use Rattle.std.proofs.Common.{suc, ◌+◌, ◌<◌, ◌≤◌, ◌⊎◌, inl, inr, length, ap, arith}
use Rattle.std.proofs.lemmas.List.{take_all}
use Rattle.relationships.specs.Telling.{steps_of}
use Rattle.telling.specs.WalkText.{names_of, steps_text}
use Rattle.telling.proofs.NamingLemmas.{naming_as, naming_none, naming_step}
use Rattle.telling.proofs.WalkTextLemmas.{lesser, step_in, few_steps}
use Rattle.telling.proofs.steps.put_steps.Goals as goal

pub loop-at-init : goal.loop-at-init
loop-at-init g c = naming_none _ c.args.named.now

pub loop-at-preserved : goal.loop-at-preserved
loop-at-preserved g c =
    let ases = c.args.ases.now in
    let links = c.args.links.now in
    let at = c.loop-at.at in
    let least = lesser (length links) c.saturating_sub.result c.min-count.ensures in
    let low : at < length links = omega (arith, c.loop-at-test.true, least.0) in
    let in_front : at + 2 < length ases = omega (arith, c.loop-at-test.true, least.1, c.saturating_sub.ensures) in
    naming_step c.args.file.now (steps_of ases links) at _ (step_in ases links at _ low in_front) c.loop-at.invariant c.put_step.ensures

pub returns : goal.returns
returns g c =
    let ases = c.args.ases.now in
    let links = c.args.links.now in
    let at = c.loop-at.at in
    let least = lesser (length links) c.saturating_sub.result c.min-count.ensures in
    let all : (length links ≤ at) ⊎ (length ases ≤ suc (suc at)) = elim least.2 [
      | inl l ↦ inl (omega (arith, l, c.loop-at-test.false))
      | inr l ↦ inr (omega (arith, l, c.loop-at-test.false, c.saturating_sub.ensures))
    ] in
    let whole = take_all at (steps_of ases links) (few_steps ases links at all) in
    naming_as c.loop-at.invariant (λ before. ap (steps_text c.args.file.now before) whole) (ap names_of whole)
