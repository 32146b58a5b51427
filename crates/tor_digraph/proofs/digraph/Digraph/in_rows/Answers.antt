use Rattle.std.proofs.Common.{◌≡◌, Some, length, ap, ◌∙◌, subst}
use Rattle.std.specs.Prelude.{slice_get}
use Rattle.tor_digraph.proofs.digraph.Digraph.in_rows.Goals as goal

pub fill-requires-clause-many : goal.fill-requires-clause-many
fill-requires-clause-many g c = ap length c.deref_mut.ensures.value ∙ c.in_ok-starts.ensures.many

pub fill-requires-clause-ends : goal.fill-requires-clause-ends
fill-requires-clause-ends g c = λ u end at. c.in_ok-starts.ensures.ends u end (subst (λ l. slice_get l u ≡ Some end) c.deref_mut.ensures.value at)

pub fill-requires-clause-rows : goal.fill-requires-clause-rows
fill-requires-clause-rows g c = ap length c.deref_mut-2.ensures.value ∙ c.in-Ok.ensures
