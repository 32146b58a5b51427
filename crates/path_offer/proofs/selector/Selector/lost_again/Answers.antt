use Rattle.std.proofs.Common.{◌≡◌, ◌+◌, ◌∙◌, Some, length, ap, subst, arith}
use Rattle.std.proofs.lemmas.Option.{slice_get_within}
use Rattle.std.proofs.lemmas.Result.{IfOk-from_err}
use Rattle.std.specs.Prelude.{slice_get, IfSome}
use Rattle.relationships.specs.declared.walk.Walk.{Walk}
use Rattle.relationships.specs.declared.fate.Fate.{Fate}
use Rattle.tor_mend.specs.Refusals.{HasRefusedTriple, IsOfPath, relinked}
use Rattle.tor_mend.proofs.Relinking.{met_refutes, still_refused}
use Rattle.path_offer.proofs.selector.Selector.lost_again.Goals as goal

pub find-requires : goal.find-requires
find-requires c =
    let many = ap length (c.as_slice-ends.ensures ∙ c.orientation.ensures.ends) in
    record { there = c.requires.there; ends = omega (arith, many, c.orientation.ensures.many, c.requires.fits.nodes) }

pub returns-in_default : goal.returns-in_default
returns-in_default c = record { refused = c.requires.refused; walk = tt }

pub use_again-requires : goal.use_again-requires
use_again-requires c =
    let old = c.args.refusals.now.items.items in
    let is = subst (λ o. IfSome o (HasRefusedTriple c.args.graph.now c.args.path old)) c.in-Some.is c.find.ensures in
    record { there = slice_get_within old c.in-Some.met.refusal is.0 is.1 }

pub returns-in_default-use_again : goal.returns-in_default-use_again
returns-in_default-use_again c = record {
  refused = still_refused c.args.graph.now c.args.self.now.formula.paths c.args.fates.now c.in-Some.met.refusal c.args.refusals.now.items.items c.use_again.new.self.items.items
      c.requires.refused c.use_again.ensures.uses;
  walk = tt;
}

pub overflow_cast-link : goal.overflow_cast-link
overflow_cast-link c = record { fits = omega (arith, c.place.ensures.below) }

pub overflow_add-link : goal.overflow_add-link
overflow_add-link c = record { fits = omega (arith, c.place.ensures.below) }

pub walk_again-requires : goal.walk_again-requires
walk_again-requires c =
    let fates = c.args.fates.now in
    let lost = c.in-Some-use_again.lost in
    let of = subst (λ o. IfSome o (IsOfPath c.args.refusals.now.items.items c.in-Some.met.refusal)) c.in-Some-use_again.is c.use_again.ensures.lost in
    let was = c.requires.refused c.in-Some.met.refusal of.0 of.1 in
    (was.0, subst (λ k. slice_get fates k ≡ Some (Fate.Lost was.0)) of.2 was.1)

pub returns-in_err-walk : goal.returns-in_err-walk
returns-in_err-walk c = record {
  refused = still_refused c.args.graph.now c.args.self.now.formula.paths c.args.fates.now c.in-Some.met.refusal c.args.refusals.now.items.items c.use_again.new.self.items.items
      c.requires.refused c.use_again.ensures.uses;
  walk = IfOk-from_err c.from_residual.result _ c.from_residual.ensures.0;
}

pub returns : goal.returns
returns c =
    let graph = c.args.graph.now in
    let path = c.args.path in
    let old = c.args.refusals.now.items.items in
    let met = c.in-Some.met in
    let lost = c.in-Some-use_again.lost in
    let is = subst (λ o. IfSome o (HasRefusedTriple graph path old)) c.in-Some.is c.find.ensures in
    let of = subst (λ o. IfSome o (IsOfPath old met.refusal)) c.in-Some-use_again.is c.use_again.ensures.lost in
    let again : (w : Walk) → slice_get c.args.fates.now lost ≡ Some (Fate.Lost w) → c.in_ok-walk.walk ≡ relinked (lost + 1) (record { path = path + 1; at = met.at }) w =
    λ w there. subst (λ n. c.in_ok-walk.walk ≡ relinked (lost + 1) (record { path = n + 1; at = met.at }) w) c.place.ensures.place (c.in_ok-walk.ensures w there) in
    record {
      refused = still_refused c.args.graph.now c.args.self.now.formula.paths c.args.fates.now c.in-Some.met.refusal c.args.refusals.now.items.items c.use_again.new.self.items.items
          c.requires.refused c.use_again.ensures.uses;
      walk = met_refutes graph c.args.self.now.formula.paths path lost c.args.fates.now old met c.in_ok-walk.walk c.requires.refused is of again;
    }
