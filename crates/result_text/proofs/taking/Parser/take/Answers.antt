use Rattle.std.proofs.Common.{◌++◌, true, false, ap, subst, ◌∙◌, take}
use Rattle.std.proofs.lemmas.Result.{on_ok_weaker}
use Rattle.tor_io.proofs.Known.{rest_from}
use Rattle.result_text.specs.Taking.{HasTaken}
use Rattle.result_text.proofs.Pieces.{knows, known_again, in_two, stays_bad_behind, stays_bad_in_two, read_whole}
use Rattle.result_text.proofs.taking.Parser.take.Goals as goal

pub returns-then-self : goal.returns-then-self
returns-then-self c = λ before taken.
    let p = c.args.self.now in
    known_again p true (before ++ c.args.octets.now) c.if-self.true
    (stays_bad_behind p.line before c.args.octets.now (knows p true before c.if-self.true taken))

pub returns-in-Ok : goal.returns-in-Ok
returns-in-Ok c =
    let p = c.args.self.now in
    let whole = c.whole_lines-whole.result in
    on_ok_weaker c.wait_for-in-Ok.result (λ waits before taken.
    let at = knows p false before c.if-self.false taken in
    let read = read_whole c.read_on.new.self (before ++ take whole c.args.octets.now) (c.in-Ok.ensures.course ∙ c.if-self.false) c.in-Ok.ensures.read (c.in-Ok.ensures.come before at.0) in
    let taken_in_two = waits (before ++ take whole c.args.octets.now) read in
    subst (HasTaken c.wait_for-in-Ok.new.self)
    (ap (λ rest. (before ++ take whole c.args.octets.now) ++ rest) (rest_from whole c.args.octets.now) ∙ in_two before c.args.octets.now whole) taken_in_two)
    c.wait_for-in-Ok.ensures

pub returns-in-Err-Bad : goal.returns-in-Err-Bad
returns-in-Err-Bad c = λ before taken.
    let at = knows c.args.self.now false before c.if-self.false taken in
    stays_bad_in_two c.read_on.new.self.line before c.args.octets.now c.whole_lines-whole.result (rw c.in-Err-Bad.field-0-is at (c.in-Err-Bad.ensures.come before at.0))
