use Rattle.tor_output.proofs.Openings.{past_opens}
use Rattle.std.proofs.Common.{◌≤◌, ◌+◌, List, length, refl, sym, subst, arith}
use Rattle.std.proofs.lemmas.Result.{IfOk-weaker as asked_if, IfErr-weaker as refused_if}
use Rattle.relationships.specs.declared.given.Given.{Given}
use Rattle.tor_arena.specs.Limits.{max_numbers}
use Rattle.rel_infer.specs.GivenInference.{max_givens}
use Rattle.rel_infer.proofs.Acceptance.{same_givens}
use Rattle.tor_output.proofs.Resumings.{joined_reach, past_calm, past_reach, past_refused}
use Rattle.tor_output.proofs.resuming.output_on.Goals as goal

pub returns-in-Err-clause-refused : goal.returns-in-Err-clause-refused
returns-in-Err-clause-refused g c =
    let shelf = g.H.Shelf in
    past_refused c.args.settings.now c.args.earlier c.in-Err.refusal c.in-Err.ensures.refused (shelf.files c.args.shelf.now) (shelf.steady c.args.shelf.now)

pub returns-in-Err-clause-reach : goal.returns-in-Err-clause-reach
returns-in-Err-clause-reach g c =
    let shelf = g.H.Shelf in
    past_reach c.args.settings.now c.args.earlier c.in-Err.refusal c.in-Err.ensures.refused (shelf.files c.args.shelf.now) (shelf.left c.args.shelf.now) c.requires.resumes c.requires.read

pub returns-in-Err-clause-reads_shelf : goal.returns-in-Err-clause-reads_shelf
returns-in-Err-clause-reads_shelf g c = record {
  keeps = record { files = refl; steady = λ held. held; later = omega arith };
  rose = λ failed. absurd (past_calm c.args.settings.now c.args.earlier c.in-Err.refusal c.in-Err.ensures.refused failed);
  quiet = λ no. refl;
}

pub joined_output-requires-clause-begun : goal.joined_output-requires-clause-begun
joined_output-requires-clause-begun g c = (c.args.earlier, c.requires.accepted, c.in-Ok.ensures.begun)

pub joined_output-requires-clause-few : goal.joined_output-requires-clause-few
joined_output-requires-clause-few g c =
    let same = same_givens c.args.earlier c.in-Ok.begun.rest.givens (sym c.in-Ok.ensures.begun.left.givens) in
    let few = c.requires.few in
    subst (λ (gs : List Given). length gs + max_numbers ≤ max_givens) (sym same) few

pub returns-in-Ok-clause-output : goal.returns-in-Ok-clause-output
returns-in-Ok-clause-output g c = asked_if c.joined_output.result _ _ (λ output made. made c.args.earlier c.in-Ok.ensures.begun) c.joined_output.ensures.output

pub returns-in-Ok-clause-of_some : goal.returns-in-Ok-clause-of_some
returns-in-Ok-clause-of_some g c = asked_if c.joined_output.result _ _ (λ output made. made c.args.earlier c.in-Ok.ensures.begun) c.joined_output.ensures.of_some

pub returns-in-Ok-clause-refused : goal.returns-in-Ok-clause-refused
returns-in-Ok-clause-refused g c = refused_if c.joined_output.result _ _ (λ refusal made. made c.args.earlier c.in-Ok.ensures.begun) c.joined_output.ensures.refused

pub returns-in-Err-clause-opens_stop : goal.returns-in-Err-clause-opens_stop
returns-in-Err-clause-opens_stop g c = past_opens c.args.dumps.now c.in-Err.refusal (g.H.Shelf.opens c.args.shelf.now) c.in-Err.ensures.refused

pub returns-in-Ok-clause-reach : goal.returns-in-Ok-clause-reach
returns-in-Ok-clause-reach g c =
    let shelf = g.H.Shelf in
    refused_if c.joined_output.result _ _ (λ r h.
    joined_reach c.args.settings.now c.args.dumps.now (shelf.files c.args.shelf.now) (shelf.left c.joined_output.new.shelf) r c.requires.dumps h) c.joined_output.ensures.reach
