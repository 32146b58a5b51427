use Rattle.std.proofs.Common.{◌≡◌, inl, inr, refl, sym, ap, ◌∙◌, ℕ, length, subst, Contains}
use Rattle.std.specs.Prelude.{IfSome, IfNone}
use Rattle.std.proofs.lemmas.Bool.{false≢true}
use Rattle.std.proofs.lemmas.Bool.Decides.{eqb_tells}
use Rattle.tor_arena.proofs.Gets.{none-in}
use Rattle.tor_digraph.specs.Walks.{Net}
use Rattle.tor_digraph.specs.Reached.{IsGrown}
use Rattle.tor_digraph.proofs.Closings.{no_arc, reaches_itself}
use Rattle.tor_clauses.specs.Literals.{opposite_node}
use Rattle.tor_clauses.proofs.LiteralLemmas.{opposite_node-other}
use Rattle.tor_digraph.specs.Spreading.{IsClosed}
use Rattle.tor_clauses.specs.Rounds.{IsClash}
use Rattle.order_trials.specs.Trials.{AreAllPassed}
use Rattle.order_trials.proofs.Helds.{held_along}
use Rattle.order_trials.proofs.Showings.{grown-cases}
use Rattle.order_trials.proofs.Settlings.{together_more, together_kept}
use Rattle.order_trials.proofs.Trying.{clash_leads, no_way}
use Rattle.order_trials.proofs.settling.Settling.settle.Goals as goal

pub returns-then-is_empty : goal.returns-then-is_empty
returns-then-is_empty c =
    let arcs = c.args.problem.now.formula.net.arcs in
    let row = c.row.result.now in
    let empty : length row ≡ 0 = elim (eqb_tells (length row) 0) [ inl p ↦ p.1 | inr p ↦ absurd (false≢true (sym p.0 ∙ sym c.is_empty.ensures ∙ c.if-is_empty.true)) ] in
    let none = no_arc (λ a. a) arcs c.args.node row c.row.ensures empty in
    record {
      shown = c.requires.shown;
      keeps = λ n h. h;
      together = c.requires.together;
      trial = c.requires.trial;
      settled = λ t r. absurd (opposite_node-other c.args.node (reaches_itself none r));
      first = λ e. refl;
    }

pub returns-then-has : goal.returns-then-has
returns-then-has c = record {
  shown = c.requires.shown;
  keeps = λ n h. h;
  together = c.requires.together;
  trial = c.requires.trial;
  settled = λ t r. subst (λ s. Contains c.args.self.now.shown.nodes.items s) c.negation_node-other.ensures (c.has.ensures.0 c.if-has.true);
  first = λ e. refl;
}

pub returns-then-has-2 : goal.returns-then-has-2
returns-then-has-2 c = record {
  shown = c.requires.shown;
  keeps = λ n h. h;
  together = c.requires.together;
  trial = c.requires.trial;
  settled = λ t r. absurd (c.requires.together.free c.args.node (c.has-2.ensures.0 c.if-has-2.true) r);
  first = λ e. refl;
}

pub returns-then-has-3 : goal.returns-then-has-3
returns-then-has-3 c = record {
  shown = c.requires.shown;
  keeps = λ n h. h;
  together = c.requires.together;
  trial = c.requires.trial;
  settled = λ t r. absurd (false≢true t);
  first = λ e. absurd (none-in e (c.has-3.ensures.0 c.if-has-3.true));
}

pub show_opposite-requires-clause-back : goal.show_opposite-requires-clause-back
show_opposite-requires-clause-back c =
    let arcs = c.args.problem.now.formula.net.arcs in
    let trial = c.search.new.trail in
    clash_leads arcs c.facts.ensures.partners trial c.args.node c.in-Some.clash c.in_ok-clash.ensures.trial
    (subst (λ o. IfSome o (IsClash arcs trial.nodes.items)) c.in-Some.is c.in_ok-clash.ensures.clash)

pub spread-requires-clause-closed : goal.spread-requires-clause-closed
spread-requires-clause-closed c =
    subst (λ (n : Net ℕ). IsClosed n.arcs c.args.self.now.shown.nodes.items c.args.self.now.together.items) (sym c.rows.ensures) c.requires.together.closed

pub returns-in-Some : goal.returns-in-Some
returns-in-Some c =
    let old = c.args.self.now.together in
    let more = c.show_opposite.new.self.nodes.items in
    let done = c.in_ok-show_opposite.ensures in
    record {
      shown = done.shown;
      keeps = done.keeps;
      together = together_kept c.args.problem.now c.args.self.now.shown.nodes.items more old old c.requires.together done.keeps c.requires.together.count refl;
      trial = c.search.ensures.count;
      settled = λ t r. done.added;
      first = λ e. refl;
    }

pub returns-then-alone : goal.returns-then-alone
returns-then-alone c =
    let f = c.args.problem.now in
    let facts = c.facts.ensures in
    let shown = c.args.self.now.shown.nodes.items in
    let old = c.args.self.now.together.items in
    let kept = held_along f.graph f.labels facts.posed.labelled f.formula facts.apart facts.posed.fits facts.posed.served in
    let apart = subst (λ s. Contains old s → ⊥) c.negation_node-other.ensures (λ h. false≢true (sym c.if-has-3.false ∙ c.has-3.ensures.1 h)) in
    let unshown = subst (λ s. Contains shown s → ⊥) c.negation_node-other.ensures (λ h. false≢true (sym c.if-has.false ∙ c.has.ensures.1 h)) in
    let passed = subst (λ o. IfNone o (AreAllPassed f.formula.net.arcs f.held old c.search.new.trail.nodes.items)) c.in_default.is c.in_ok-clash.ensures.passed in
    record {
      shown = c.requires.shown;
      keeps = λ n h. h;
      together = c.requires.together;
      trial = c.search.ensures.count;
      settled = λ t r. absurd (no_way f facts.partners kept facts.posed.only shown old c.args.node c.search.new.trail c.requires.shown.closed unshown
          c.requires.together.closed apart c.in_ok-clash.ensures.trial passed r);
      first = λ e. refl;
    }

pub returns : goal.returns
returns c =
    let node = c.args.node in
    let f = c.args.problem.now in
    let facts = c.facts.ensures in
    let shown = c.args.self.now.shown.nodes.items in
    let old = c.args.self.now.together in
    let new = c.spread.new.found in
    let trial = c.search.new.trail in
    let kept = held_along f.graph f.labels facts.posed.labelled f.formula facts.apart facts.posed.fits facts.posed.served in
    let apart = subst (λ s. Contains old.items s → ⊥) c.negation_node-other.ensures (λ h. false≢true (sym c.if-has-3.false ∙ c.has-3.ensures.1 h)) in
    let unshown = subst (λ s. Contains shown s → ⊥) c.negation_node-other.ensures (λ h. false≢true (sym c.if-has.false ∙ c.has.ensures.1 h)) in
    let passed = subst (λ o. IfNone o (AreAllPassed f.formula.net.arcs f.held old.items trial.nodes.items)) c.in_default.is c.in_ok-clash.ensures.passed in
    let free = no_way f facts.partners kept facts.posed.only shown old.items node trial c.requires.shown.closed unshown c.requires.together.closed apart
    c.in_ok-clash.ensures.trial passed in
    let near = subst (λ (n : Net ℕ). IsClosed n.arcs shown new.items) c.rows.ensures c.in_ok-spread.ensures.closed in
    let grown = subst (λ (n : Net ℕ). IsGrown n.arcs node old.items new.items) c.rows.ensures c.in_ok-spread.ensures.grown in
    let none : Contains new.items (opposite_node node) → ⊥ = λ h. elim (grown-cases f.formula.net.arcs node old.items new.items grown (opposite_node node) h) [
      | inl was ↦ apart was
      | inr r ↦ free r
    ] in
    let count = c.spread.ensures.count ∙ ap (λ (n : Net ℕ). n.nodes) c.rows.ensures in
    record {
      shown = c.requires.shown;
      keeps = λ n h. h;
      together = together_more f facts.partners shown node old new c.requires.shown.closed unshown c.requires.together count near grown none;
      trial = c.search.ensures.count;
      settled = λ t r. absurd (free r);
      first = λ e. refl;
    }
