use Rattle.std.proofs.Common.{◌≡◌, ◌<◌, ◌≤◌, ℕ, List, All, Some, length, subst, sym, ◌∙◌, refl, arith}
use Rattle.std.specs.Prelude.{slice_get}
use Rattle.std.proofs.lemmas.Bool.{false≢true}
use Rattle.std.proofs.lemmas.List.{take_all}
use Rattle.tor_arena.proofs.Gets.{slice_get-some, All-get}
use Rattle.tor_clauses.specs.Literals.{Literal}
use Rattle.tor_clauses.specs.declared.triple.Triple.{Triple}
use Rattle.tor_clauses.specs.Tables.{IsSatisfied}
use Rattle.tor_clauses.proofs.Members.{All-take_get}
use Rattle.tor_clauses.proofs.PlacedTriples.{satisfied_by, satisfied-holds}
use Rattle.tor_clauses.proofs.triple_table.TripleTable.are_satisfied.Goals as goal

there : (ts : List Triple) (k n : ℕ) → k < n → n ≡ length ts → (t : Triple) × (slice_get ts k ≡ Some t)
there ts k n lt e = slice_get-some ts k (omega (arith, lt, e))

both : (c : goal.After-literals-first) → (c.literals-first.result.0.edge < length c.args.ends.now) × (c.literals-first.result.1.edge < length c.args.ends.now)
both c =
    let t = there c.args.self.now.triples c.loop-place.place c.len.result c.loop-place-test.true c.len.ensures.len in
    let are = c.literals-first.ensures t.0 t.1 in
    let w = All-get (λ (t : Triple). (t.first.edge < length c.args.ends.now) × (t.second.edge < length c.args.ends.now)) c.args.self.now.triples c.loop-place.place t.0 c.requires t.1 in
    (subst (λ (l : Literal). l.edge < length c.args.ends.now) (sym are.0) w.0, subst (λ (l : Literal). l.edge < length c.args.ends.now) (sym are.1) w.1)

pub is_satisfied-requires-clause-first : goal.is_satisfied-requires-clause-first
is_satisfied-requires-clause-first c = (both c).0

pub is_satisfied-requires-clause-second : goal.is_satisfied-requires-clause-second
is_satisfied-requires-clause-second c = (both c).1

pub returns-then-not-is_satisfied : goal.returns-then-not-is_satisfied
returns-then-not-is_satisfied c =
    let t = there c.args.self.now.triples c.loop-place.place c.len.result c.loop-place-test.true c.len.ensures.len in
    let ends = c.args.ends.now in (
      (λ no. absurd (false≢true no)),
      (λ all. sym c.if-not-is_satisfied.true ∙ c.is_satisfied.ensures.1
          (satisfied-holds ends t.0 c.literals-first.result.0 c.literals-first.result.1 (c.literals-first.ensures t.0 t.1)
          (All-get (IsSatisfied ends) c.args.self.now.triples c.loop-place.place t.0 all t.1))),
    )

pub loop-place-preserved : goal.loop-place-preserved
loop-place-preserved c =
    let t = there c.args.self.now.triples c.loop-place.place c.len.result c.loop-place-test.true c.len.ensures.len in
    let ends = c.args.ends.now in
    All-take_get (IsSatisfied ends) c.args.self.now.triples c.loop-place.place t.0 t.1 c.loop-place.invariant
    (satisfied_by ends t.0 c.literals-first.result.0 c.literals-first.result.1 (c.literals-first.ensures t.0 t.1) (c.is_satisfied.ensures.0 c.if-not-is_satisfied.false))

pub returns : goal.returns
returns c =
    let past : length c.args.self.now.triples ≤ c.loop-place.place = omega (arith, c.loop-place-test.false, c.len.ensures.len) in
    ((λ t. subst (All (IsSatisfied c.args.ends.now)) (take_all c.loop-place.place c.args.self.now.triples past) c.loop-place.invariant), (λ a. refl))
