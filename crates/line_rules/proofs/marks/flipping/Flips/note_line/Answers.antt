use Rattle.std.proofs.Common.{◌∙◌, ◌++◌, ◌∷◌, [], sym, ap, subst}
use Rattle.std.proofs.lemmas.Result.{on_ok_weaker}
use Rattle.relationships.specs.Evidence.{IsTriple}
use Rattle.line_rules.specs.Flipping.{flipped_orders, IsBuilt}
use Rattle.line_rules.specs.EdgeLines.{edges_of}
use Rattle.line_rules.specs.PathSteps.{AreCodedSteps}
use Rattle.line_rules.proofs.KeptLines.{with_kept-kept, with_kept-lost}
use Rattle.line_rules.proofs.marks.flipping.Flips.note_line.Goals as goal

pub note_path-requires-clause-steps : goal.note_path-requires-clause-steps
note_path-requires-clause-steps c = subst (λ path. AreCodedSteps (edges_of c.args.labels.now) path c.args.steps.now) (sym c.path.ensures) c.requires.steps

pub returns-then-is_kept-clause-built : goal.returns-then-is_kept-clause-built
returns-then-is_kept-clause-built c =
    on_ok_weaker c.note_path.result
    (λ built paths b.
    subst (λ ps. IsBuilt (flipped_orders c.args.labels.now) (IsTriple ps) c.note_path.new.self.implied c.note_path.new.self.conflicting)
    (ap (λ path. paths ++ path ∷ []) c.path.ensures ∙ sym (with_kept-kept paths c.args.line.now.path c.args.line.now.fate (sym c.is_kept.ensures ∙ c.if-is_kept.true)))
    (built paths b))
    c.note_path.ensures.built

pub returns-else-is_kept-clause-built : goal.returns-else-is_kept-clause-built
returns-else-is_kept-clause-built c = λ paths b.
    subst (λ ps. IsBuilt (flipped_orders c.args.labels.now) (IsTriple ps) c.args.self.now.implied c.args.self.now.conflicting)
    (sym (with_kept-lost paths c.args.line.now.path c.args.line.now.fate (sym c.is_kept.ensures ∙ c.if-is_kept.false))) b

pub note_path-requires-clause-few : goal.note_path-requires-clause-few
note_path-requires-clause-few c = c.requires.few

pub note_path-requires-clause-proper : goal.note_path-requires-clause-proper
note_path-requires-clause-proper c = c.requires.proper

pub note_path-requires-clause-implied : goal.note_path-requires-clause-implied
note_path-requires-clause-implied c = c.requires.implied

pub note_path-requires-clause-conflicting : goal.note_path-requires-clause-conflicting
note_path-requires-clause-conflicting c = c.requires.conflicting

pub note_path-requires-clause-noted : goal.note_path-requires-clause-noted
note_path-requires-clause-noted c = c.requires.noted

pub returns-then-is_kept-clause-implied : goal.returns-then-is_kept-clause-implied
returns-then-is_kept-clause-implied c = c.note_path.ensures.implied

pub returns-then-is_kept-clause-conflicting : goal.returns-then-is_kept-clause-conflicting
returns-then-is_kept-clause-conflicting c = c.note_path.ensures.conflicting

pub returns-then-is_kept-clause-noted : goal.returns-then-is_kept-clause-noted
returns-then-is_kept-clause-noted c = c.note_path.ensures.noted

pub returns-else-is_kept-clause-implied : goal.returns-else-is_kept-clause-implied
returns-else-is_kept-clause-implied c = c.requires.implied

pub returns-else-is_kept-clause-conflicting : goal.returns-else-is_kept-clause-conflicting
returns-else-is_kept-clause-conflicting c = c.requires.conflicting

pub returns-else-is_kept-clause-noted : goal.returns-else-is_kept-clause-noted
returns-else-is_kept-clause-noted c = c.requires.noted
