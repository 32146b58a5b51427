use Rattle.std.proofs.Common.{◌≡◌, List, IfSome, refl, ap, subst}
use Rattle.std.proofs.lemmas.Bool.{false≢true}
use Rattle.relationships.specs.Evidence.{Refutes}
use Rattle.relationships.specs.declared.fate.Fate.{Fate}
use Rattle.relationships.specs.Fates.{walk_of}
use Rattle.tor_clauses.specs.Formulas.{numbered}
use Rattle.path_offer.specs.Choices.{Choice, with_offered}
use Rattle.path_offer.proofs.Keepings.{not_servable}
use Rattle.tor_mend.proofs.Relinking.{offered, lost_again}
use Rattle.path_select.proofs.selecting.offer.Goals as goal

same_paths : (fate : Fate) (new old : Choice) → IfSome (walk_of fate) (λ walk. new ≡ old) → IfSome (walk_of fate) (λ walk. new.formula.paths ≡ old.formula.paths)
same_paths Fate.Kept new old lost = tt
same_paths (Fate.Lost walk) new old lost = ap (λ (c : Choice). c.formula.paths) lost

pub returns-in_default-clause-refused : goal.returns-in_default-clause-refused
returns-in_default-clause-refused c =
    offered c.args.graph.now c.args.selector.now.formula.paths c.args.path c.args.fates.now Fate.Kept c.keep.new.self.formula.paths c.args.refusals.now.items.items
    c.args.refusals.now.items.items c.requires.next (λ kept. c.in_ok-keep.ensures.kept) tt tt c.requires.refused refl

pub returns-in-Some-2-clause-offered : goal.returns-in-Some-2-clause-offered
returns-in-Some-2-clause-offered c =
    let graph = c.args.graph.now in
    let paths : List _ = with_offered c.args.selector.now c.args.path in
    let refutes = subst (λ o. IfSome o (Refutes (numbered graph paths))) c.in-Some-2.is c.in_ok-walk.ensures.walk in
    record {
      fits = c.requires.fits;
      exact = (
        λ kept. absurd (false≢true kept),
        λ can. absurd (not_servable graph paths c.in-Some-2.walk c.refuting_law.ensures refutes can),
      );
      kept = λ kept. absurd (false≢true kept);
      lost = refl;
      walk = refutes;
      same = λ serves. refl;
      changed = λ x held not. absurd (not held);
    }

pub returns-in-Some-2-clause-refused : goal.returns-in-Some-2-clause-refused
returns-in-Some-2-clause-refused c =
    lost_again c.args.graph.now c.args.selector.now.formula.paths c.args.fates.now c.in-Some-2.walk c.lost_again.new.refusals.items.items c.lost_again.ensures.refused

pub returns-clause-refused : goal.returns-clause-refused
returns-clause-refused c =
    let e = c.in_ok-fate.ensures.offered in
    let fate = c.in_ok-fate.fate in
    offered c.args.graph.now c.args.selector.now.formula.paths c.args.path c.args.fates.now fate c.offer_new.new.self.formula.paths c.lost_again.new.refusals.items.items
    c.remember.new.self.items.items c.requires.next e.kept (same_paths fate c.offer_new.new.self c.args.selector.now e.lost) e.walk c.lost_again.ensures.refused c.in_ok-remember.ensures.remembers
