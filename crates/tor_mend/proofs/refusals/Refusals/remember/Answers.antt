use Rattle.std.proofs.Common.{◌≡◌, ◌≤◌, ◌+◌, ◌-◌, ℕ, suc, inl, inr, Some, Result, Ok, Err, length, get_or, refl, sym, ap, ◌∙◌, subst, arith}
use Rattle.std.specs.Prelude.{slice_get, OnOk, IfSome}
use Rattle.tor_clauses.proofs.Adding.{get_from_or}
use Rattle.tor_clauses.specs.Literals.{node_of}
use Rattle.tor_mend.specs.declared.refusals.Refusal.{Refusal}
use Rattle.tor_mend.specs.Refusals.{node_at, NamesOnly, HasTriple, IsPut, Puts, Remembers}
use Rattle.tor_mend.proofs.Relinking.{step_triple}
use Rattle.tor_mend.proofs.refusals.Refusals.remember.Goals as goal

on_ok : {X E P Q : Type 0} → (r : Result X E) → (P → Q) → OnOk r P → OnOk r Q
on_ok (Ok x) f h = f h
on_ok (Err e) f h = h

pub returns : goal.returns
returns c =
    let graph = c.args.graph.now in
    let steps = c.steps-steps.result.now in
    let s = c.index-steps-at.result in
    let t = c.index-steps-at-2.result in
    let at : ℕ = c.in-Some.at in
    let k = at - 2 in
    let two : 2 ≤ at = omega (arith, c.if-at-lt2.false) in
    let within : at ≤ length steps = omega (arith, c.if-at-steps.false) in
    let next : suc k ≡ at - 1 = omega (arith, two) in
    let here : slice_get steps k ≡ Some s = get_from_or steps k s (omega (arith, two, within)) c.index-steps-at.is in
    let there : slice_get steps (suc k) ≡ Some t = get_from_or steps (suc k) t (omega (arith, next, two, within)) (subst (λ n. t ≡ get_or steps n t) (sym next) c.index-steps-at-2.is) in
    let r : Refusal = record { first = c.node-first.result; second = c.node-second.result; path = c.args.path; links = c.len.result; written = 0; wait = 0 } in
    let has = step_triple graph c.args.path steps k s t at c.facts.ensures.apart c.requires c.steps-steps.ensures.steps here there (omega (arith, two)) in
    let first : r.first ≡ node_at s = c.node-first.ensures.node ∙ ap node_of c.of_step.ensures in
    let second : r.second ≡ node_at t = c.node-second.ensures.node ∙ ap node_of c.of_step-2.ensures in
    let triple : HasTriple graph c.args.path at r.first r.second =
    subst (λ n. HasTriple graph c.args.path at n r.second) (sym first) (subst (HasTriple graph c.args.path at (node_at s)) (sym second) has) in
    let named = subst (λ o. IfSome o (λ at. NamesOnly (c.place.result + 1) at c.as_slice.result.now)) c.in-Some.is c.only_place.ensures in
    let links = subst (NamesOnly (c.place.result + 1) at) c.as_slice.ensures named in
    let alone = subst (λ n. NamesOnly (n + 1) at c.in-Lost.walk.links) c.place.ensures.place links in
    let one : IsPut r c.args.self.now.items.items c.put.new.self.items.items → Puts graph c.args.path c.in-Lost.walk c.args.self.now.items.items c.put.new.self.items.items =
    λ put. record { refusal = r; put = put; named = refl; counted = c.len.ensures; at = at; alone = alone; triple = triple } in
    record {
      remembers = on_ok c.put.result (λ either. subst (λ f. Remembers graph c.args.path f c.args.self.now.items.items c.put.new.self.items.items) (sym c.in-Lost.is)
          (elim either [ inl same ↦ inl same | inr put ↦ inr (one put) ])) c.put.ensures.put;
      shorter = c.put.ensures.shorter;
    }
