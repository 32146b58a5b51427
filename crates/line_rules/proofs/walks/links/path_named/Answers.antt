use Rattle.std.proofs.Common.{◌≡◌, ◌∙◌, ◌-◌, take, get_or, sym, arith}
use Rattle.std.proofs.lemmas.List.{length-take-le, get_or-take}
use Rattle.std.proofs.lemmas.Option.{get_or_from_slice_get}
use Rattle.std.specs.Option.{option_copied}
use Rattle.line_rules.proofs.Naming.{named_within, named_next, named_by, fate_path, fate_path-if_kept}
use Rattle.line_rules.proofs.walks.links.path_named.Goals as goal

pub returns-then-number-eq0 : goal.returns-then-number-eq0
returns-then-number-eq0 c path = (
  λ k. let r = named_within (take c.args.count c.args.lines.now) (option_copied c.args.next) c.args.number path k in absurd (omega (arith, r.0)),
  λ e. absurd cc,
)

pub returns-then-place-count : goal.returns-then-place-count
returns-then-place-count c path =
    let n = length-take-le c.args.count c.args.lines.now c.requires in
    let k = named_next (take c.args.count c.args.lines.now) (option_copied c.args.next) c.args.number path (omega (arith, n)) in
    (λ m. c.path_of.ensures ∙ k.0 m, λ e. k.1 (sym c.path_of.ensures ∙ e))

pub returns-then-place-count-2 : goal.returns-then-place-count-2
returns-then-place-count-2 c path = (
  λ k.
      let n = length-take-le c.args.count c.args.lines.now c.requires in
      let r = named_within (take c.args.count c.args.lines.now) (option_copied c.args.next) c.args.number path k in absurd (omega (arith, n, r.1)),
  λ e. absurd cc,
)

pub returns : goal.returns
returns c path =
    let lines = c.args.lines.now in
    let line = c.path_line_at.result in
    let n = length-take-le c.args.count lines c.requires in
    let at : line ≡ get_or (take c.args.count lines) (c.args.number - 1) line =
    sym (get_or_from_slice_get lines (c.args.number - 1) line line c.path_line_at.ensures) ∙ sym (get_or-take c.args.count lines (c.args.number - 1) line (omega arith)) in
    let k = named_by (take c.args.count lines) (option_copied c.args.next) c.args.number line path (omega arith) (omega (arith, n)) at in
    let is : option_copied c.kept_path.result ≡ fate_path line line.fate = c.kept_path.ensures ∙ fate_path-if_kept line in
    (λ m. is ∙ k.0 m, λ e. k.1 (sym is ∙ e))
