use Rattle.std.proofs.Common.{sym, length}
use Rattle.std.proofs.lemmas.Bool.{eqb-true}
use Rattle.std.proofs.lemmas.List.{nil_from_length}
use Rattle.as_rel.proofs.FirstLines.{is_said}
use Rattle.as_rel.proofs.LineLemmas.{read_all}
use Rattle.as_rel.proofs.parsing.parse_rel.Goals as goal

pub returns-clause-said : goal.returns-clause-said
returns-clause-said c =
    let none = nil_from_length c.lines.rest.now (eqb-true (length c.lines.rest.now) 0 (sym c.lines-test.ensures)) in
    is_said c.args.bytes.now c.lines.rel (read_all c.lines.read c.lines.rel c.lines.rest.now c.args.bytes.now c.lines.invariant none)
