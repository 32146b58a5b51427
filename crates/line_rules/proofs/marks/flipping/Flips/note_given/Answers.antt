use Rattle.std.proofs.Common.{◌∙◌, sym, subst}
use Rattle.std.proofs.lemmas.Result.{on_ok_weaker}
use Rattle.relationships.specs.Evidence.{IsTriple}
use Rattle.line_rules.specs.Flipping.{flipped_orders, IsBuilt}
use Rattle.line_rules.specs.EdgeLines.{edges_of}
use Rattle.line_rules.proofs.Returns.{return_there, is_none, return_absent, return_steps}
use Rattle.line_rules.proofs.marks.flipping.Flips.note_given.Goals as goal

pub note_path-requires-clause-steps : goal.note_path-requires-clause-steps
note_path-requires-clause-steps c =
    return_steps (edges_of c.args.labels.now) c.args.given.now c.in-Some.place c.new-up.result c.new-down.result (rw c.requires.table at c.in-Some.ensures.found) c.new-up.ensures.place
    (c.new-up.ensures.left ∙ c.end_left.ensures) c.new-down.ensures.place (c.new-down.ensures.left ∙ c.end_left-2.ensures)

pub returns : goal.returns
returns c =
    let lines = c.args.labels.now in
    let self = c.note_path.new.self in
    let at = rw c.requires.table at c.in-Some.ensures.found in
    record {
      implied = c.note_path.ensures.implied;
      conflicting = c.note_path.ensures.conflicting;
      noted = c.note_path.ensures.noted;
      built = on_ok_weaker c.note_path.result
          (λ built paths b. subst (λ ps. IsBuilt (flipped_orders lines) (IsTriple ps) self.implied self.conflicting)
          (sym (return_there (edges_of lines) paths c.args.given.now c.in-Some.place at)) (built paths b))
          c.note_path.ensures.built;
    }

pub returns-in_default : goal.returns-in_default
returns-in_default c =
    let lines = c.args.labels.now in
    let self = c.args.self.now in
    let none = rw c.requires.table at c.place.ensures.none.0 (is_none c.place.result c.in_default.not-Some) in
    record {
      implied = c.requires.implied;
      conflicting = c.requires.conflicting;
      noted = c.requires.noted;
      built = λ paths b. subst (λ ps. IsBuilt (flipped_orders lines) (IsTriple ps) self.implied self.conflicting)
          (sym (return_absent (edges_of lines) paths c.args.given.now none)) b;
    }

pub note_path-requires-clause-few : goal.note_path-requires-clause-few
note_path-requires-clause-few c = c.requires.few

pub note_path-requires-clause-proper : goal.note_path-requires-clause-proper
note_path-requires-clause-proper c = c.requires.proper

pub note_path-requires-clause-implied : goal.note_path-requires-clause-implied
note_path-requires-clause-implied c = c.requires.implied

pub note_path-requires-clause-conflicting : goal.note_path-requires-clause-conflicting
note_path-requires-clause-conflicting c = c.requires.conflicting

pub note_path-requires-clause-noted : goal.note_path-requires-clause-noted
note_path-requires-clause-noted c = c.requires.noted
