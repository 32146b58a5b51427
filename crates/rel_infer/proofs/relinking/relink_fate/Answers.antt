use Rattle.std.proofs.Common.{Some, None, refl, map, ap, ap₂, ◌∙◌}
use Rattle.std.proofs.lemmas.Result.{on_ok_weaker}
use Rattle.relationships.specs.declared.fate.Fate.TheVariants.{Kept, Lost}
use Rattle.relationships.specs.Flat.{walk_with}
use Rattle.relationships.specs.GivenEvidence.{given_link}
use Rattle.rel_infer.proofs.Relinked.{fate_more}
use Rattle.rel_infer.proofs.relinking.relink_fate.Goals as goal

pub returns-in-None : goal.returns-in-None
returns-in-None c =
    on_ok_weaker c.push_kept.result
    (λ added.
    fate_more c.args.paths c.args.numbers.now c.args.fates.now c.args.path c.args.path None c.args.relinked.now c.push_kept.new.self Kept refl c.in-None.ensures
    c.requires.before added refl)
    c.push_kept.ensures.added

pub returns-in_ok-relink-in-Some : goal.returns-in_ok-relink-in-Some
returns-in_ok-relink-in-Some c =
    let links = c.as_slice.ensures ∙ c.in_ok-relink-in-Some.ensures ∙ ap (map (given_link c.args.paths c.args.numbers.now)) c.links.ensures in
    on_ok_weaker c.push_lost.result
    (λ added.
    fate_more c.args.paths c.args.numbers.now c.args.fates.now c.args.path c.args.path (Some c.in-Some.walk) c.args.relinked.now c.push_lost.new.self
    (Lost (walk_with c.ases.result.now c.as_slice.result.now)) refl c.in-Some.ensures c.requires.before added (ap Some (ap₂ walk_with c.ases.ensures links)))
    c.push_lost.ensures.added
