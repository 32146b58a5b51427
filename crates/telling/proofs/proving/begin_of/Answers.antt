use Rattle.std.proofs.Common.{ℕ, ◌-◌, ◌∷◌, [], length, get_or, sym, ap, ap₂, ◌∙◌, subst}
use Rattle.relationships.specs.Evidence.{BeginsWith}
use Rattle.result_rules.specs.File.{last_two}
use Rattle.telling.proofs.Chains.{last_two-few, last_two-read, begins_read, same_pair}
use Rattle.telling.proofs.proving.begin_of.Goals as goal
use Rattle.telling.proofs.proving.begin_of.Goals.{then-a-over-via-then-a-over, then-a-over-via-else-a-over+then-b-under}

pub returns-in_default-clause-none : goal.returns-in_default-clause-none
returns-in_default-clause-none c e =
    let few = last_two-few c.ases-ases.result.now c.in_default.len_below in
    let same = rw c.ases-ases.ensures at few in
    absurd (cc (sym same ∙ e))

pub returns-then-a-over-clause-none : goal.returns-then-a-over-clause-none
returns-then-a-over-clause-none c e =
    let read = last_two-read c.ases-ases.result.now c.in-len2-up.len_at_least in
    let ases = c.ases-ases.result.now in
    let is = ap last_two c.ases-ases.ensures ∙ e in
    let both = same_pair (get_or ases (length ases - 2) 0) (get_or ases (length ases - 1) 0) c.args.over c.args.under (sym read ∙ is) in
    elim c.then-a-over.branch [
      | then-a-over-via-then-a-over w ↦ w.if-a-over.true both.0
      | then-a-over-via-else-a-over+then-b-under w ↦ w.if-b-under.true both.1
    ]

pub returns-clause-some : goal.returns-clause-some
returns-clause-some c =
    let ases = c.ases-ases.result.now in
    let begins = begins_read ases c.in-len2-up.len_at_least in
    let read = last_two-read ases c.in-len2-up.len_at_least in (
      subst (λ l. BeginsWith l (get_or ases 0 0) (get_or ases 1 0)) c.ases-ases.ensures begins,
      ap last_two (sym c.ases-ases.ensures) ∙ read ∙ ap₂ (λ (p q : ℕ). (p, q) ∷ []) c.if-a-over.false c.if-b-under.false,
    )
