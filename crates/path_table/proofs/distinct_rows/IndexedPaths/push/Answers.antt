use Rattle.std.proofs.Common.{◌∙◌, length, ap, sym, subst, arith}
use Rattle.path_table.specs.RowKeys.{short_hash, Indexed, TakesKey, IsIndexed}
use Rattle.path_table.proofs.KeyLemmas.{indexed-more}
use Rattle.path_table.proofs.distinct_rows.IndexedPaths.push.Goals as goal

pub invariant_of-self-in-Ok-add : goal.invariant_of-self-in-Ok-add
invariant_of-self-in-Ok-add c =
    let seed = c.self.inside.seed in
    let path = c.args.path.now in
    let old = c.self.inside.row_keys in
    let room = c.requires.room in
    let many = ap (λ (p : Indexed). length p.rows) c.self.view_is in
    let hash = c.requires.hash ∙ sym (ap (λ (p : Indexed). short_hash p.seed path) c.self.view_is) in
    let takes = subst (λ h. TakesKey h old c.add.new.self) hash c.in-Ok-add.ensures.ok in
    subst (λ rows. IsIndexed seed rows c.add.new.self) (sym c.in-Ok.ensures.added)
    (indexed-more seed c.self.inside.rows old c.add.new.self path c.self.invariant takes (omega (arith, room, many)))
