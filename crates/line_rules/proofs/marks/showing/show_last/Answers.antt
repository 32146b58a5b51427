use Rattle.std.proofs.Common.{ℕ, ◌-◌, Bool, List, slice_index, ◌≡◌, ◌≤◌, ◌++◌, ◌∷◌, [], length, sym, ap, ◌∙◌, subst, arith, append-nil}
use Rattle.result_text.specs.declared.file.EdgeLine.{EdgeLine}
use Rattle.result_rules.specs.File.{last_two}
use Rattle.line_rules.specs.Serving.{IsShownBy}
use Rattle.line_rules.proofs.Showings.{last_two-few, last_two-is}
use Rattle.line_rules.proofs.marks.showing.show_last.Goals as goal

-- the order of the last two
shown_last : (lines : List EdgeLine) (ases ases' : List ℕ) (shown : List Bool) (orders : List (ℕ × ℕ)) → ases' ≡ ases → 2 ≤ length ases' →
    IsShownBy lines (orders ++ (slice_index ases' (length ases' - 2), slice_index ases' (length ases' - 1)) ∷ []) shown → IsShownBy lines (orders ++ last_two ases) shown
shown_last lines ases ases' shown orders e le h =
    subst (λ l. IsShownBy lines (orders ++ last_two l) shown) e (subst (λ l. IsShownBy lines (orders ++ l) shown) (sym (last_two-is ases' le)) h)

pub returns-then-count-ge2-clause-shown : goal.returns-then-count-ge2-clause-shown
returns-then-count-ge2-clause-shown c = λ orders h.
    shown_last c.args.lines.now c.args.walk.now.ases c.ases-ases.result.now c.show.new.shown.items orders c.ases-ases.ensures c.if-count-ge2.true (c.show.ensures.shown orders h)

pub returns-else-count-ge2-clause-shown : goal.returns-else-count-ge2-clause-shown
returns-else-count-ge2-clause-shown c = λ orders h.
    let none = last_two-few c.args.walk.now.ases (omega (arith, c.if-count-ge2.false, ap length c.ases-ases.ensures)) in
    subst (λ l. IsShownBy c.args.lines.now l c.args.shown.now.items) (sym (ap (λ l. orders ++ l) none ∙ append-nil orders)) h

pub show-requires-clause-table : goal.show-requires-clause-table
show-requires-clause-table c = c.requires.table

pub show-requires-clause-few : goal.show-requires-clause-few
show-requires-clause-few c = c.requires.few

pub show-requires-clause-apart : goal.show-requires-clause-apart
show-requires-clause-apart c = c.requires.apart

pub show-requires-clause-many : goal.show-requires-clause-many
show-requires-clause-many c = c.requires.many

pub returns-then-count-ge2-clause-many : goal.returns-then-count-ge2-clause-many
returns-then-count-ge2-clause-many c = c.show.ensures.many

pub returns-else-count-ge2-clause-many : goal.returns-else-count-ge2-clause-many
returns-else-count-ge2-clause-many c = c.requires.many
