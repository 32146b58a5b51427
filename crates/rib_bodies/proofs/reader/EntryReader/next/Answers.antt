use Rattle.std.proofs.Common.{◌≡◌, ◌<◌, ◌+◌, ◌-◌, ap, sym, ◌∙◌, arith}
use Rattle.std.proofs.lemmas.Result.{err_from_is_err_and}
use Rattle.rib_bodies.specs.Reading.{Reading}
use Rattle.rib_bodies.proofs.Loops.{entries-next, entries-broken, entries-done, entries-more}
use Rattle.rib_bodies.proofs.reader.EntryReader.next.Goals as goal
use Rattle.rib_bodies.proofs.reader.EntryReader.next.Goals.{then-is_empty, else-is_empty}

pub returns-then-self-eq0 : goal.returns-then-self-eq0
returns-then-self-eq0 c =
    let r = c.self.inside in
    let seen = ap (λ (n : Reading). n.entries) (sym c.self.view_is) in
    elim c.if-is_empty.branch [
      | then-is_empty w ↦ rw w.result-is (seen ∙ entries-done r.form r.peers.count r.count r.rest.now c.if-self-eq0.true (sym c.is_empty.ensures ∙ w.if-is_empty.true))
      | else-is_empty w ↦ rw w.result-is (seen ∙ entries-more r.form r.peers.count r.count r.rest.now c.if-self-eq0.true (sym c.is_empty.ensures ∙ w.if-is_empty.false))
    ]

pub returns-in_err-entry : goal.returns-in_err-entry
returns-in_err-entry c =
    let r = c.self.inside in
    let some : 0 < r.count = omega (arith, c.if-self-eq0.false) in
    let p = err_from_is_err_and c.from_residual.result c.from_residual.ensures.1 in
    rw (p.1, p.2) (ap (λ (n : Reading). n.entries) (sym c.self.view_is)
    ∙ entries-broken r.form r.peers.count r.count r.rest.now c.in_err-entry.field-0.0 some c.in_err-entry.ensures)

pub returns : goal.returns
returns c =
    let r = c.self.inside in
    let some : 0 < r.count = omega (arith, c.if-self-eq0.false) in
    let left : r.count ≡ r.count - 1 + 1 = omega (arith, some) in (
      ap (λ (n : Reading). n.left) (sym c.self.view_is) ∙ left,
      ap (λ (n : Reading). n.entries) (sym c.self.view_is)
          ∙ entries-next r.form r.peers.count r.count r.rest.now c.in_ok-entry.rest.now c.in_ok-entry.entry some c.in_ok-entry.ensures,
    )
