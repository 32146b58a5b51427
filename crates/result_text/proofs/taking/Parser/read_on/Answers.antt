use Rattle.std.proofs.Common.{◌≡◌, [], ◌++◌, length, sym, subst, ◌∙◌}
use Rattle.std.proofs.lemmas.Bool.{eqb-true}
use Rattle.std.proofs.lemmas.List.{nil_from_length}
use Rattle.result_text.specs.Taking.{AreWhole, IsAt}
use Rattle.result_text.proofs.Pieces.{whole_joined, goes_further}
use Rattle.result_text.proofs.taking.Parser.read_on.Goals as goal

pub returns-then-is_empty-clause-come : goal.returns-then-is_empty-clause-come
returns-then-is_empty-clause-come c = λ before at.
    let p = c.args.self.now in
    let none : p.start ≡ [] = nil_from_length p.start (eqb-true (length p.start) 0 (sym c.if-is_empty.ensures)) in
    let further = goes_further p.line p.draft before p.start c.args.octets.now at in
    c.read_lines.ensures (before ++ c.args.octets.now) (subst (λ start. IsAt p.line p.draft (before ++ c.args.octets.now) (start ++ c.args.octets.now)) none further)

pub read_lines-done-requires : goal.read_lines-done-requires
read_lines-done-requires c =
    let p = c.args.self.now in
    let lines : c.as_slice.result.now ≡ p.start ++ c.args.octets.now = c.as_slice.ensures ∙ c.replace-lines.ensures.value ∙ c.in_ok-extend_from_slice.ensures.ok in
    record { whole = subst AreWhole (sym lines) (whole_joined p.start c.args.octets.now c.requires.some c.requires.whole) }

pub returns-clause-come : goal.returns-clause-come
returns-clause-come c = λ before at.
    let p = c.args.self.now in
    let lines : c.as_slice.result.now ≡ p.start ++ c.args.octets.now = c.as_slice.ensures ∙ c.replace-lines.ensures.value ∙ c.in_ok-extend_from_slice.ensures.ok in
    let further = goes_further p.line p.draft before p.start c.args.octets.now at in
    c.read_lines-done.ensures (before ++ c.args.octets.now) (subst (IsAt p.line p.draft (before ++ c.args.octets.now)) (sym lines) further)

pub read_long-done-requires-clause-whole : goal.read_long-done-requires-clause-whole
read_long-done-requires-clause-whole c =
    let p = c.args.self.now in
    let lines : c.replace-lines.result ≡ p.start ++ c.args.octets.now = c.replace-lines.ensures.value ∙ c.in_ok-extend_from_slice.ensures.ok in
    subst AreWhole (sym lines) (whole_joined p.start c.args.octets.now c.requires.some c.requires.whole)

pub returns-then-long-clause-come : goal.returns-then-long-clause-come
returns-then-long-clause-come c = λ before at.
    let p = c.args.self.now in
    let lines : c.replace-lines.result ≡ p.start ++ c.args.octets.now = c.replace-lines.ensures.value ∙ c.in_ok-extend_from_slice.ensures.ok in
    let further = goes_further p.line p.draft before p.start c.args.octets.now at in
    c.read_long-done.ensures (before ++ c.args.octets.now) (subst (IsAt p.line p.draft (before ++ c.args.octets.now)) (sym lines) further)
