use Rattle.std.proofs.Common.{inl, inr, refl, sym, ap, ◌∙◌, length}
use Rattle.std.proofs.lemmas.Bool.{false≢true}
use Rattle.std.proofs.lemmas.List.{length-set}
use Rattle.tor_digraph.specs.declared.found.Found.TheVariants.{Along}
use Rattle.tor_digraph.proofs.Traces.{absent_of}
use Rattle.tor_digraph.proofs.flood.meet.Goals as goal

pub returns-then-is_seen-clause-met : goal.returns-then-is_seen-clause-met
returns-then-is_seen-clause-met g c = inl (inl (c.is_seen.ensures.0 c.if-is_seen.true), refl, refl)

pub returns-then-has-clause-met : goal.returns-then-has-clause-met
returns-then-has-clause-met g c = inl (inr (c.has.ensures.0 c.if-has.true), refl, refl)

pub returns-clause-met : goal.returns-clause-met
returns-clause-met g c = inr (
  absent_of g.N.Index.place_of c.args.found.now.items c.args.head c.requires.head (λ h. false≢true (sym c.if-is_seen.false ∙ c.is_seen.ensures.1 h)),
  c.put.ensures.items,
  c.in_ok-push.ensures.ok,
)

pub returns-clause-many : goal.returns-clause-many
returns-clause-many g c =
    ap length c.put.ensures.items ∙ length-set c.args.found.now.items (g.N.Index.place_of c.args.head) (Along c.args.tail c.args.arc c.args.depth)
