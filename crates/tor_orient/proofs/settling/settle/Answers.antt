use Rattle.std.proofs.Common.{◌≡◌, inl, inr, length, sym, ap, ◌∙◌, subst, Contains}
use Rattle.std.specs.Prelude.{IfSome}
use Rattle.std.proofs.lemmas.Bool.{false≢true}
use Rattle.std.proofs.lemmas.Bool.Decides.{eqb_tells}
use Rattle.tor_digraph.specs.Reached.{IsGrown}
use Rattle.tor_digraph.proofs.Closings.{no_arc}
use Rattle.tor_clauses.specs.Literals.{node_of}
use Rattle.tor_orient.specs.Steps.{IsFailing, IsSettledBy}
use Rattle.tor_orient.proofs.Settled.{alone_closed, alone_settled}
use Rattle.std.proofs.lemmas.Result.{on_ok_weaker}
use Rattle.tor_orient.proofs.Findings.{closed_past_none, none_leads_out}
use Rattle.tor_orient.proofs.settling.settle.Goals as goal

pub returns-then-is_empty-clause-closed : goal.returns-then-is_empty-clause-closed
returns-then-is_empty-clause-closed c =
    let arcs = c.args.rows.now.arcs in
    let row = c.row.result.now in
    let empty : length row ≡ 0 = elim (eqb_tells (length row) 0) [ inl p ↦ p.1 | inr p ↦ absurd (false≢true (sym p.0 ∙ sym c.is_empty.ensures ∙ c.if-is_empty.true)) ] in
    let none = no_arc (λ a. a) arcs c.node-node.result row c.row.ensures.row empty in
    alone_closed arcs c.node-node.result c.in_ok-add.field-0 c.args.settled.now.items c.add.new.self.items none c.requires.closed c.in_ok-add.ensures.added

pub returns-then-is_empty-clause-settled : goal.returns-then-is_empty-clause-settled
returns-then-is_empty-clause-settled c =
    let arcs = c.args.rows.now.arcs in
    let old = c.args.settled.now.items in
    let node = c.node-node.result in
    let row = c.row.result.now in
    let empty : length row ≡ 0 = elim (eqb_tells (length row) 0) [ inl p ↦ p.1 | inr p ↦ absurd (false≢true (sym p.0 ∙ sym c.is_empty.ensures ∙ c.if-is_empty.true)) ] in
    let none = no_arc (λ a. a) arcs node row c.row.ensures.row empty in
    let unwanted : Contains old node → ⊥ = λ h. false≢true (sym c.if-has.false ∙ c.has.ensures.1 h) in
    let unsettled = subst (λ n. Contains old n → ⊥) c.negation_node.ensures (λ h. false≢true (sym c.if-has-2.false ∙ c.has-2.ensures.1 h)) in
    subst (λ n. IsSettledBy arcs n old c.add.new.self.items) (c.node-node.ensures.node ∙ ap node_of c.new.ensures)
    (alone_settled arcs node c.in_ok-add.field-0 old c.add.new.self.items none c.requires.closed c.in_ok-add.ensures.added unwanted unsettled)

pub spread-requires-clause-closed : goal.spread-requires-clause-closed
spread-requires-clause-closed c = closed_past_none c.args.rows.now.arcs c.clear.new.self.items c.args.settled.now.items c.requires.closed

pub returns-in-Some-clause-closed : goal.returns-in-Some-clause-closed
returns-in-Some-clause-closed c =
    on_ok_weaker c.spread.result (none_leads_out c.args.rows.now.arcs c.clear.new.self.items c.spread.new.found.items c.clear.ensures.none) c.spread.ensures.closed

pub returns-in-Some-clause-settled : goal.returns-in-Some-clause-settled
returns-in-Some-clause-settled c =
    let arcs = c.args.rows.now.arcs in
    let old = c.args.settled.now.items in
    let new = c.spread.new.found.items in
    let node = c.node-node.result in
    let last = c.in-Some.last in
    let unwanted : Contains old node → ⊥ = λ h. false≢true (sym c.if-has.false ∙ c.has.ensures.1 h) in
    let unsettled = subst (λ n. Contains old n → ⊥) c.negation_node.ensures (λ h. false≢true (sym c.if-has-2.false ∙ c.has-2.ensures.1 h)) in
    let failing = subst (λ o. IfSome o (IsFailing arcs node)) c.in-Some.is c.in_ok-failing.ensures.some in
    on_ok_weaker c.spread.result
    (λ grown. subst (λ n. IsSettledBy arcs n old new) (c.node-node.ensures.node ∙ ap node_of c.new.ensures)
    (inr (unwanted, unsettled, inr (last, failing, subst (λ n. IsGrown arcs n old new) c.negation_node-other.ensures grown)))) c.spread.ensures.grown
