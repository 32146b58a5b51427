use Rattle.std.proofs.Common.{◌≡◌, ◌↔◌, List, ℕ, true, ap, sym, ◌∙◌, subst}
use Rattle.std.specs.Prelude.{IfSome}
use Rattle.std.specs.declared.option.Option.{Option}
use Rattle.tor_clauses.specs.Triples.{is_among}
use Rattle.tor_clauses.specs.Tables.{Implications, HasArc, AreTripleKeys, triples_at, key_of_arc, number_of_pair}
use Rattle.tor_clauses.proofs.HeldArcs.{held_arc}
use Rattle.tor_clauses.proofs.Knowns.{is_known, key-arc, key_number}
use Rattle.tor_clauses.proofs.triple_table.TripleTable.holds.Goals as goal

pub returns-in-Some : goal.returns-in-Some
returns-in-Some c = λ t nodes same.
    let ts = triples_at c.self.inside.places.items c.self.inside.digraph.arcs in
    let number : c.key.result ≡ key_number t = c.key.ensures ∙ ap number_of_pair (ap key_of_arc (sym same) ∙ key-arc t) in
    let has = subst (λ (set : Option (List ℕ)). IfSome set (λ numbers. numbers ≡ c.self.invariant.known)) c.in-Some.is c.self.invariant.has in
    let is = is_known t c.key.result _ ts nodes (subst (λ (l : List ℕ). AreTripleKeys l ts) (sym has) c.self.invariant.standing.keys) number in
    subst (λ (i : Implications). (c.holds.result ≡ true) ↔ (is_among i.triples t ≡ true)) c.self.view_is
    ((λ yes. is.0 (c.holds.ensures.0 yes)), (λ there. c.holds.ensures.1 (is.1 there)))

pub returns-in-None : goal.returns-in-None
returns-in-None c = λ t nodes same.
    let arcs = c.self.inside.digraph.arcs in
    let is = held_arc c.self.invariant.known c.self.inside.places.items arcs t c.self.invariant.standing in
    subst (λ (i : Implications). (c.has_arc.result ≡ true) ↔ (is_among i.triples t ≡ true)) c.self.view_is
    ((λ yes. is.0 (subst (HasArc arcs) (sym same) (c.has_arc.ensures.0 yes))), (λ there. c.has_arc.ensures.1 (subst (HasArc arcs) same (is.1 there))))
