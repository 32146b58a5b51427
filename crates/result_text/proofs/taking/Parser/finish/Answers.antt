use Rattle.std.proofs.Common.{◌≡◌, [], true, false, length, sym, ap, ◌∙◌}
use Rattle.std.proofs.lemmas.Bool.{eqb-false, eqb-true}
use Rattle.std.proofs.lemmas.List.{nil_from_length}
use Rattle.result_text.specs.Order.{finished}
use Rattle.result_text.proofs.Pieces.{knows, is_bad, ends_bad, ends_early, ends_well}
use Rattle.result_text.proofs.taking.Parser.finish.Goals as goal
use Rattle.result_text.proofs.taking.Parser.finish.Goals.{then-self-via-then-self, then-self-via-else-self+then-not-is_empty}

pub returns-then-self-clause-refused : goal.returns-then-self-clause-refused
returns-then-self-clause-refused c = λ octets taken.
    let p = c.args.self in
    elim c.then-self.branch [
      | then-self-via-then-self w ↦ is_bad p.line octets (knows p true octets w.if-self.true taken)
      | then-self-via-else-self+then-not-is_empty w ↦
          let at = knows p false octets w.if-self.false taken in
          ends_bad p.line p.draft octets p.start at.0 at.1 (eqb-false (length p.start) 0 (sym w.if-not-is_empty.ensures))
    ]

pub returns-in-Some-clause-text : goal.returns-in-Some-clause-text
returns-in-Some-clause-text c = λ octets taken.
    let p = c.args.self in
    let at = knows p false octets c.if-self.false taken in
    let none : p.start ≡ [] = nil_from_length p.start (eqb-true (length p.start) 0 (sym c.if-not-is_empty.ensures)) in
    ends_well p.line p.draft octets p.start c.in-Some.file at.0 none (ap finished (sym c.into_draft.ensures) ∙ sym c.in-Some.ensures)

pub returns-in-None-clause-refused : goal.returns-in-None-clause-refused
returns-in-None-clause-refused c = λ octets taken.
    let p = c.args.self in
    let at = knows p false octets c.if-self.false taken in
    let none : p.start ≡ [] = nil_from_length p.start (eqb-true (length p.start) 0 (sym c.if-not-is_empty.ensures)) in
    ends_early p.line p.draft octets p.start at.0 none (ap finished (sym c.into_draft.ensures) ∙ sym c.in-None.ensures)
