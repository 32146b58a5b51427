use Rattle.std.proofs.Common.{get_or, subst, sym, ◌∙◌, arith, Contains}
use Rattle.std.proofs.lemmas.Option.{same_Some}
use Rattle.std.proofs.lemmas.List.Elements.{Contains-get_or}
use Rattle.line_rules.proofs.marks.batch.conflicts_visited.Goals as goal

pub has_visited-requires : goal.has_visited-requires
has_visited-requires c = λ k d lt.
    let within = c.requires.inside c.args.edge (get_or c.of.result.now k d) (c.of.result.now, c.of.ensures, Contains-get_or c.of.result.now k d lt) in
    omega (arith, within, c.requires.many)

pub returns : goal.returns
returns c = (
  λ t. let w = c.has_visited.ensures.0 t in (w.1, (c.of.result.now, c.of.ensures, (w.0, w.2, w.3)), w.4),
  λ h.
      let same = same_Some h.1.0 c.of.result.now (sym h.1.1 ∙ c.of.ensures) in
      let stands = subst (λ l. Contains l h.0) same h.1.2 in
      c.has_visited.ensures.1 (stands.0, h.0, stands.1, stands.2, h.2),
)
