use Rattle.std.proofs.Common.{◌+◌, ◌∷◌, [], ◌++◌, List, ℕ, take, refl, sym, ap, ◌∙◌, subst}
use Rattle.tor_arena.proofs.Gets.{take_item}
use Rattle.relationships.specs.declared.fate.Fate.{Fate}
use Rattle.path_offer.specs.Choices.{Choice}
use Rattle.route_leaks.specs.declared.meeting.Sighting.{Sighting}
use Rattle.route_leaks.specs.Inside.{AreTriedFates, IsTriedFate, fate_named}
use Rattle.route_leaks.proofs.Behind.{zip_push}
use Rattle.route_leaks.proofs.trying.try_all.Goals as goal

pub loop-path-preserved : goal.loop-path-preserved
loop-path-preserved c =
    let graph = c.args.graph.now in
    let kept = c.args.selector.now.formula.paths in
    let naming = c.args.naming.now in
    let item = c.path-item.result in
    let i = c.loop-path.path-index in
    let R = λ (m : Sighting) (fate : Fate). IsTriedFate graph kept naming m.place fate in
    let same = ap (λ (choice : Choice). choice.formula.paths) c.loop-path.invariant.same in
    let number = ap (λ (n : ℕ). n + 1) c.place.ensures.place in
    let named = c.in_ok-add_named.ensures ∙ ap (λ (n : ℕ). c.loop-path.fates ++ fate_named naming n c.in_ok-fate.fate ∷ []) number in
    record {
      same = c.in_ok-fate.ensures.same ∙ c.loop-path.invariant.same;
      tried = subst (AreTriedFates graph kept naming (take (i + 1) c.args.met.now)) (sym named)
          (subst (λ (met : List Sighting). AreTriedFates graph kept naming met (c.loop-path.fates ++ fate_named naming (item.place + 1) c.in_ok-fate.fate ∷ []))
          (sym (take_item c.args.met.now i item c.loop-path-test.true c.path-item.is))
          (zip_push R (take i c.args.met.now) c.loop-path.fates item (fate_named naming (item.place + 1) c.in_ok-fate.fate) c.loop-path.invariant.tried
          (c.loop-path.selector, same, (c.in_ok-fate.fate, c.in_ok-fate.ensures.tried, refl))));
    }
