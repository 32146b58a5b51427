use Rattle.std.proofs.Common.{◌≡◌, Some, sym}
use Rattle.std.proofs.lemmas.Bool.{eqb-true, eq-eqb, false≢true}
use Rattle.path_table.specs.Table.{place_of}
use Rattle.path_table.proofs.TableLemmas.{found-within}
use Rattle.any_order.proofs.Lackings.{is_there, times_are, is_found}
use Rattle.any_order.proofs.checking.has_row.Goals as goal

pub times-requires : goal.times-requires
times-requires c = found-within c.args.table.now.rows c.args.path.now c.in-Some.id (sym c.in-Some.ensures)

pub returns-in-Some : goal.returns-in-Some
returns-in-Some c =
    let place : place_of c.args.table.now.rows c.args.path.now ≡ Some c.in-Some.id = sym c.in-Some.ensures in (
      λ t. is_there c.args.table.now.rows c.facts.ensures.once c.args.path.now c.args.times c.in-Some.id c.times.result place c.times.ensures.times (eqb-true c.times.result c.args.times t),
      λ there. eq-eqb c.times.result c.args.times
          (times_are c.args.table.now.rows c.facts.ensures.once c.args.path.now c.args.times c.in-Some.id c.times.result place c.times.ensures.times there),
    )

pub returns-in-None : goal.returns-in-None
returns-in-None c = (
  λ t. absurd (false≢true t),
  λ there. absurd (is_found c.args.table.now.rows c.facts.ensures.once c.args.path.now c.args.times (sym c.in-None.ensures) there),
)
