use Rattle.std.proofs.Common.{◌≤◌, ◌++◌, List, length, refl, subst, sym, ap, ◌∙◌, arith, take}
use Rattle.std.proofs.lemmas.List.{length-map, take_all}
use Rattle.relationships.specs.Evidence.{IsTriple}
use Rattle.result_text.specs.declared.file.PathLine.{PathLine}
use Rattle.result_rules.specs.File.{its_edges, its_returns}
use Rattle.line_rules.specs.Flipping.{flipped, flipped_orders, IsBuilt, kept_lines}
use Rattle.line_rules.specs.EdgeLines.{edges_of}
use Rattle.line_rules.specs.PathSteps.{AreCodedSteps}
use Rattle.tor_arena.proofs.Gets.{take_get}
use Rattle.line_rules.proofs.Returns.{returns_of_file, served_more}
use Rattle.line_rules.proofs.StepLemmas.{many_rows, steps-here}
use Rattle.line_rules.proofs.marks.flipping.Flips.note_file.Goals as goal

pub steps_at-requires : goal.steps_at-requires
steps_at-requires c =
    let file = c.args.file.now in
    omega (arith, many_rows file (its_edges file) c.args.steps.now c.requires.steps, c.loop-place-test.true, c.len-place-end.ensures.length)

pub loop-place-init : goal.loop-place-init
loop-place-init c =
    let file = c.args.file.now in
    let self = c.note_givens.new.self in
    let built = rw c.requires.labels at c.in_ok-note_givens.ensures.built in
    record {
      built = subst (λ ps. IsBuilt (flipped_orders file.edges) (IsTriple ps) self.implied self.conflicting)
          (returns_of_file file file.edges c.givens_of.result.now refl c.givens_of.ensures c.requires.whole) built;
      noted = rw c.requires.labels at c.in_ok-note_givens.ensures.noted;
    }

pub note_line-requires-clause-steps : goal.note_line-requires-clause-steps
note_line-requires-clause-steps c =
    let file = c.args.file.now in
    let line = c.path_line_at-line.result in
    subst (λ ls. AreCodedSteps (edges_of ls) line.path c.steps_at.result.now) (sym c.requires.labels)
    (steps-here file (its_edges file) c.args.steps.now c.loop-place.place line c.steps_at.result.now c.requires.steps c.path_line_at-line.ensures c.steps_at.ensures)

pub note_line-requires-clause-noted : goal.note_line-requires-clause-noted
note_line-requires-clause-noted c = rw c.requires.labels c.loop-place.invariant.noted

pub loop-place-preserved : goal.loop-place-preserved
loop-place-preserved c =
    let file = c.args.file.now in
    let i = c.loop-place.place in
    let line = c.path_line_at-line.result in
    let self = c.note_line.new.self in
    let built = rw c.requires.labels at c.in_ok-note_line.ensures.built in
    record {
      built = subst (λ ps. IsBuilt (flipped_orders file.edges) (IsTriple ps) self.implied self.conflicting)
          (served_more (its_returns file) (take i file.paths) line ∙ ap (λ (ls : List PathLine). its_returns file ++ kept_lines ls) (sym (take_get file.paths i line c.path_line_at-line.ensures)))
          (built (its_returns file ++ kept_lines (take i file.paths)) c.loop-place.invariant.built);
      noted = rw c.requires.labels at c.in_ok-note_line.ensures.noted;
    }

pub returns : goal.returns
returns c =
    let file = c.args.file.now in
    let i = c.loop-place.place in
    let all : length file.paths ≤ i = omega (arith, c.loop-place-test.false, c.len-place-end.ensures.length) in
    subst (λ (ls : List PathLine). IsBuilt (flipped_orders file.edges) (IsTriple (its_returns file ++ kept_lines ls)) c.loop-place.self.implied c.loop-place.self.conflicting)
    (take_all i file.paths all) c.loop-place.invariant.built

pub note_givens-requires-clause-few : goal.note_givens-requires-clause-few
note_givens-requires-clause-few c = rw c.requires.labels c.requires.few

pub note_givens-requires-clause-proper : goal.note_givens-requires-clause-proper
note_givens-requires-clause-proper c = rw c.requires.labels c.requires.proper

pub note_givens-requires-clause-table : goal.note_givens-requires-clause-table
note_givens-requires-clause-table c = rw c.requires.labels c.requires.table

pub note_givens-requires-clause-noted : goal.note_givens-requires-clause-noted
note_givens-requires-clause-noted c = rw c.requires.labels c.requires.noted

pub note_givens-requires-clause-none : goal.note_givens-requires-clause-none
note_givens-requires-clause-none c = rw c.requires.labels c.requires.none

pub note_line-requires-clause-few : goal.note_line-requires-clause-few
note_line-requires-clause-few c = rw c.requires.labels c.requires.few

pub note_line-requires-clause-proper : goal.note_line-requires-clause-proper
note_line-requires-clause-proper c = rw c.requires.labels c.requires.proper

pub note_line-requires-clause-implied : goal.note_line-requires-clause-implied
note_line-requires-clause-implied c = rw c.requires.labels (c.loop-place.invariant.built.implied_many ∙ length-map c.args.file.now.edges flipped)

pub note_line-requires-clause-conflicting : goal.note_line-requires-clause-conflicting
note_line-requires-clause-conflicting c = rw c.requires.labels (c.loop-place.invariant.built.conflicting_many ∙ length-map c.args.file.now.edges flipped)

pub path_line_at-line-requires : goal.path_line_at-line-requires
path_line_at-line-requires c = omega (arith, c.loop-place-test.true, c.len-place-end.ensures.length)
