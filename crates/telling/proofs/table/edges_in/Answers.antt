use Rattle.std.proofs.Common.{◌≤◌, ◌+◌, ◌∙◌, length, sym, ap, subst, arith}
use Rattle.std.proofs.lemmas.Bool.{false≢true}
use Rattle.tor_arena.proofs.Gets.{Contains-from_has, none-in, read_of}
use Rattle.telling.proofs.DownLemmas.{HasEdgesOf, edges_next, edges_passed, edges_all}
use Rattle.telling.proofs.table.edges_in.Goals as goal
use Rattle.telling.proofs.table.edges_in.Goals.{then-eq+in-Ok, else-eq}

pub loop-line-init : goal.loop-line-init
loop-line-init c = (λ k line lt at is. absurd (omega (arith, lt)), λ e there. absurd (none-in c.new-table.ensures there))

pub loop-line-preserved : goal.loop-line-preserved
loop-line-preserved c =
    let file = c.args.file.now in
    let i = c.loop-line.line-index in
    let items = c.as_slice-line-items.result.now in
    let at = read_of items file.edges i _ c.as_slice-line-items.ensures c.loop-line-test.true in
    elim c.if-eq.branch [
      | then-eq+in-Ok w ↦
          subst (HasEdgesOf file (i + 1)) (sym w.table-is)
          (edges_next file c.requires.accepted c.loop-line.table w.add.new.self i _ at w.in-Ok.ensures.ok
          (Contains-from_has w.add.new.self _ (w.in-Ok.field-0.place, w.in-Ok.ensures.place)) c.loop-line.invariant)
      | else-eq w ↦
          let forced = sym w.if-eq.false ∙ c.eq.ensures in
          subst (HasEdgesOf file (i + 1)) (sym w.table-is) (edges_passed file c.loop-line.table i _ at (λ is. false≢true (rw is at forced)) c.loop-line.invariant)
    ]

pub returns-clause-opens : goal.returns-clause-opens
returns-clause-opens c =
    let le : length c.args.file.now.edges ≤ c.loop-line.line-index = omega (arith, c.loop-line-test.false, ap length c.as_slice-line-items.ensures) in
    edges_all c.args.file.now c.loop-line.table c.loop-line.line-index le c.loop-line.invariant

pub returns-clause-only : goal.returns-clause-only
returns-clause-only c = c.loop-line.invariant.1
