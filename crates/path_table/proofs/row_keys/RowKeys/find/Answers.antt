use Rattle.std.proofs.Common.{rules, ◌∙◌, ap, sym, inl, inr}
use Rattle.std.proofs.lemmas.Bool.{both_ways}
use Rattle.std.proofs.lemmas.Slice.Eq.{bytes_eq-Decides}
use Rattle.path_table.specs.RowKeys.{is_key, place_of_key}
use Rattle.path_table.proofs.KeyLemmas.{absent-by, no_key, number-next, passes-more}
use Rattle.path_table.proofs.row_keys.RowKeys.find.Goals as goal

pub returns-in_default-clause-absent : goal.returns-in_default-clause-absent
returns-in_default-clause-absent c =
    let keyed = c.requires.keys in
    let steps = c.keys.counter in
    let free = no_key c.place.result (is_key c.args.self.now c.keys.number) c.place.ensures.key c.in_default.not-Some in
    absent-by keyed.0 c.args.rows.now c.args.self.now c.args.path.now c.args.hash steps keyed.1 keyed.2 c.keys.invariant.1
    (inl (ap (is_key c.args.self.now) (sym c.keys.invariant.0) ∙ free))

pub returns-clause-absent : goal.returns-clause-absent
returns-clause-absent c =
    let keyed = c.requires.keys in
    absent-by keyed.0 c.args.rows.now c.args.self.now c.args.path.now c.args.hash c.keys.counter keyed.1 keyed.2 c.keys.invariant.1 (inr (search rules))

pub keys-preserved : goal.keys-preserved
keys-preserved c =
    let decides = bytes_eq-Decides c.row_of.result.now c.args.path.now in (
      number-next c.args.hash c.keys.counter c.keys.number c.keys.invariant.0,
      passes-more c.args.rows.now c.args.self.now c.args.hash c.args.path.now c.keys.counter c.in-Some.place c.keys.invariant.1
          (ap (place_of_key c.args.self.now) (sym c.keys.invariant.0) ∙ sym c.place.ensures.place ∙ c.in-Some.is)
          (λ e. both_ways c.eq.result c.if-eq.false (c.eq.ensures ∙ decides.1 (c.row_of.ensures ∙ e))),
    )

pub returns-then-eq : goal.returns-then-eq
returns-then-eq c =
    let decides = bytes_eq-Decides c.row_of.result.now c.args.path.now in
    record { found = (search rules, sym c.row_of.ensures ∙ decides.0 (sym c.eq.ensures ∙ c.if-eq.true)); absent = tt }
