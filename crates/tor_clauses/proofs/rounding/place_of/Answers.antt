use Rattle.std.proofs.Common.{rules, ◌≢◌, ◌∙◌, inl, inr, sym, ap, arith}
use Rattle.std.specs.Prelude.{slice_get}
use Rattle.std.proofs.lemmas.Bool.{cases_eq}
use Rattle.std.proofs.lemmas.Option.{slice_get_within}
use Rattle.tor_arena.proofs.Gets.{has-from_Contains}
use Rattle.tor_clauses.proofs.Ways.{some_same}
use Rattle.tor_clauses.proofs.rounding.place_of.Goals as goal

pub loop-place-preserved : goal.loop-place-preserved
loop-place-preserved c = λ j lt s. elim (cases_eq j c.loop-place.place) [
  | inl same ↦ (
      let apart : c.get.result ≢ c.args.node = search rules in
      apart (some_same (sym c.get.ensures.node ∙ ap (slice_get c.args.visited.now.items) (sym same) ∙ s))
      )
  | inr other ↦ c.loop-place.invariant j (omega (arith, lt, other)) s
]

pub unreachable-requires : goal.unreachable-requires
unreachable-requires c =
    let h = has-from_Contains c.args.visited.now.items c.args.node c.requires in
    let lt = slice_get_within c.args.visited.now.items h.0 c.args.node h.1 in
    c.loop-place.invariant h.0 (omega (arith, lt, c.loop-place-test.false)) h.1
