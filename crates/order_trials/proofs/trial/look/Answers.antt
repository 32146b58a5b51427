use Rattle.std.proofs.Common.{inl, inr, sym, ◌∙◌, subst, arith, Contains}
use Rattle.std.proofs.lemmas.Bool.{false≢true}
use Rattle.std.proofs.lemmas.Option.{slice_get_within}
use Rattle.tor_arena.proofs.Gets.{Contains-from_has}
use Rattle.tor_digraph.proofs.Trails.{trail_visits, visits_there}
use Rattle.order_trials.proofs.Trying.{passed_in}
use Rattle.order_trials.proofs.trial.look.Goals as goal

pub visit-requires-clause-place : goal.visit-requires-clause-place
visit-requires-clause-place c = let lt = slice_get_within c.args.trail.now.nodes.items c.args.place c.requires.tail.0 c.requires.tail.2 in omega (arith, lt)

pub returns-then-has-clause-looked : goal.returns-then-has-clause-looked
returns-then-has-clause-looked c =
    let nodes = c.args.trail.now.nodes.items in (
      c.requires.tail.0,
      c.args.head,
      c.requires.tail.1,
      Contains-from_has nodes c.requires.tail.0 (c.args.place, c.requires.tail.2),
      subst (λ s. Contains nodes s) c.negation_node.ensures (c.has.ensures.0 c.if-has.true),
    )

pub returns-clause-trial : goal.returns-clause-trial
returns-clause-trial c =
    trail_visits c.args.problem.now.formula.net.arcs c.args.head c.args.place c.args.arc c.args.trail.now c.visit.new.self c.in_ok-visit.field-0 c.requires.tail
    c.in_ok-visit.ensures.visited

pub returns-clause-looked : goal.returns-clause-looked
returns-clause-looked c =
    let old = c.args.trail.now in
    let new = c.visit.new.self in
    let apart = subst (λ s. Contains old.nodes.items s → ⊥) c.negation_node.ensures (λ h. false≢true (sym c.if-has.false ∙ c.has.ensures.1 h)) in
    passed_in c.args.problem.now.formula.net.arcs c.args.problem.now.held c.args.past.now.items old.nodes.items new.nodes.items c.args.place c.requires.tail.0 c.args.head c.requires.tail.2
    c.visit.ensures.stays apart
    (inl (visits_there c.args.head c.args.place c.args.arc old new c.in_ok-visit.field-0 c.in_ok-visit.ensures.visited))

pub returns-then-has-2-clause-looked : goal.returns-then-has-2-clause-looked
returns-then-has-2-clause-looked c =
    let nodes = c.args.trail.now.nodes.items in
    let apart = subst (λ s. Contains nodes s → ⊥) c.negation_node.ensures (λ h. false≢true (sym c.if-has.false ∙ c.has.ensures.1 h)) in
    let in_held = subst (λ l. Contains l c.args.head) c.held.ensures.nodes (c.has-2.ensures.0 c.if-has-2.true) in
    passed_in c.args.problem.now.formula.net.arcs c.args.problem.now.held c.args.past.now.items nodes nodes c.args.place c.requires.tail.0 c.args.head c.requires.tail.2
    (λ k x at. at) apart (inr (inl in_held))

pub returns-then-has-3-clause-looked : goal.returns-then-has-3-clause-looked
returns-then-has-3-clause-looked c =
    let nodes = c.args.trail.now.nodes.items in
    let apart = subst (λ s. Contains nodes s → ⊥) c.negation_node.ensures (λ h. false≢true (sym c.if-has.false ∙ c.has.ensures.1 h)) in
    passed_in c.args.problem.now.formula.net.arcs c.args.problem.now.held c.args.past.now.items nodes nodes c.args.place c.requires.tail.0 c.args.head c.requires.tail.2 (λ k x at. at) apart
    (inr (inr (c.has-3.ensures.0 c.if-has-3.true)))
