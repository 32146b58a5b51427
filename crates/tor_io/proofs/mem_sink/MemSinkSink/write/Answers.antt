use Rattle.std.proofs.Common.{◌≡◌, ◌<◌, ◌≤◌, ◌-◌, min, length, inl, inr, true≢false, refl, sym, ap, ◌∙◌, subst, arith}
use Rattle.std.proofs.lemmas.Bool.{eqb-true}
use Rattle.std.proofs.lemmas.List.{append-nil}
use Rattle.tor_io.specs.Counts.{Rose}
use Rattle.tor_io.specs.FaultPlan.{FailsNext, after_fault}
use Rattle.tor_io.specs.MemSink.{IsFull, taken_of}
use Rattle.tor_io.proofs.ShelfLemmas.{room, unwritten}
use Rattle.tor_io.proofs.mem_sink.MemSinkSink.write.Goals as goal

pub returns-then-is_empty : goal.returns-then-is_empty
returns-then-is_empty c =
    let none : length c.args.piece.now ≡ 0 = eqb-true (length c.args.piece.now) 0 (sym c.is_empty.ensures ∙ c.if-is_empty.true) in
    let never : 0 < length c.args.piece.now → ⊥ = λ some. omega (arith, none, some) in record {
      bound = omega arith;
      gained = sym (append-nil c.args.self.now.held);
      progress = λ some. absurd (never some);
      nothing = λ _. refl;
      unchanged = tt;
      cause = record { later = omega arith; failed = tt; quiet = refl };
      fails = (λ e. absurd (true≢false (sym e)), λ p. absurd (never p.0));
      takes = omega (arith, none);
      empty = λ _. refl;
      ok = λ some. absurd (never some);
      err = tt;
    }

pub returns-in-Err : goal.returns-in-Err
returns-in-Err c =
    let some : 0 < length c.args.piece.now = room (length c.args.piece.now) c.is_empty.result c.is_empty.ensures c.if-is_empty.false in
    let plan = ap (λ s. s.plan) c.self.view_is in
    let cause = c.in-Err.ensures.cause in record {
      bound = tt;
      gained = tt;
      progress = λ _. tt;
      nothing = λ none. absurd (omega (arith, some, none));
      unchanged = ap (λ s. s.held) c.self.view_is;
      cause = record {
        later = subst (λ p. p.faults ≤ c.call.new.self.faults) plan cause.later;
        failed = subst (λ p. Rose p.faults c.call.new.self.faults) plan cause.failed;
        quiet = tt;
      };
      fails = (λ _. (some, inl (subst FailsNext plan (c.in-Err.ensures.fails.0 refl))), λ _. refl);
      takes = tt;
      empty = λ none. absurd (omega (arith, some, none));
      ok = λ _. tt;
      err = unwritten _ c.args.self.now c.call.new.self c.self.view_is c.in-Err.ensures.err;
    }

pub returns-then-count-eq0 : goal.returns-then-count-eq0
returns-then-count-eq0 c =
    let some : 0 < length c.args.piece.now = room (length c.args.piece.now) c.is_empty.result c.is_empty.ensures c.if-is_empty.false in
    let plan = ap (λ s. s.plan) c.self.view_is in
    let full : c.self.inside.room ≤ length c.self.inside.held.items =
    omega (arith, some, c.self.invariant.2, c.min.ensures, c.min-count.ensures, c.if-count-eq0.true, c.len.ensures, c.self.inside.held.ok.0) in
    let failed = c.fault.ensures.after ∙ ap after_fault c.in_default.ensures.ok in
    let faults = ap (λ p. p.faults) plan in record {
      bound = tt;
      gained = tt;
      progress = λ _. tt;
      nothing = λ none. absurd (omega (arith, some, none));
      unchanged = ap (λ s. s.held) c.self.view_is;
      cause = record {
        later = omega (arith, c.fault.ensures.later, c.in_default.ensures.cause.quiet, faults);
        failed = omega (arith, ap (λ p. p.faults) failed, faults);
        quiet = tt;
      };
      fails = (λ _. (some, inr (subst IsFull c.self.view_is full)), λ _. refl);
      takes = tt;
      empty = λ none. absurd (omega (arith, some, none));
      ok = λ _. tt;
      err = unwritten _ c.args.self.now c.fault.new.self c.self.view_is failed;
    }

pub returns-clause-bound : goal.returns-clause-bound
returns-clause-bound c = omega (arith, c.min.ensures, c.min-count.ensures)

pub returns-clause-nothing : goal.returns-clause-nothing
returns-clause-nothing c =
    let some : 0 < length c.args.piece.now = room (length c.args.piece.now) c.is_empty.result c.is_empty.ensures c.if-is_empty.false in
    λ none. absurd (omega (arith, some, none))

pub returns-clause-cause : goal.returns-clause-cause
returns-clause-cause c =
    let quiet = c.in_default.ensures.cause.quiet ∙ ap (λ s. s.plan.faults) c.self.view_is in
    record { later = omega (arith, quiet); failed = tt; quiet = quiet }

pub returns-clause-fails : goal.returns-clause-fails
returns-clause-fails c =
    let plan = ap (λ s. s.plan) c.self.view_is in (
      λ e. absurd (true≢false (sym e)),
      λ p. absurd (elim p.1 [
        | inl next ↦ true≢false (sym (c.in_default.ensures.fails.1 (subst FailsNext (sym plan) next)))
        | inr full ↦ (let left : c.self.inside.room ≤ length c.self.inside.held.items = subst IsFull (sym c.self.view_is) full in
            omega (arith, left, c.min-count.ensures, c.if-count-eq0.false, c.len.ensures, c.self.inside.held.ok.0))
      ]),
    )

pub returns-clause-takes : goal.returns-clause-takes
returns-clause-takes c =
    let inside = c.self.inside in
    c.min-count.ensures ∙ ap (λ m. min m (inside.room - c.len.result)) c.min.ensures
    ∙ ap (λ n. min (min (length c.args.piece.now) inside.most) (inside.room - n)) (c.len.ensures ∙ inside.held.ok.0)
    ∙ ap (λ s. taken_of s c.args.piece.now) c.self.view_is

pub returns-clause-empty : goal.returns-clause-empty
returns-clause-empty c =
    let some : 0 < length c.args.piece.now = room (length c.args.piece.now) c.is_empty.result c.is_empty.ensures c.if-is_empty.false in
    λ none. absurd (omega (arith, some, none))
