use Rattle.std.proofs.Common.{◌≡◌, ◌≤◌, [], ◌∷◌, ◌++◌, IsOk, IsErr, IfSome, Some, None, inl, inr, true≢false, refl, sym, ap, ◌∙◌, subst, arith}
use Rattle.tor_io.specs.Counts.{Rose}
use Rattle.tor_io.specs.FaultPlan.{FailsNext, IsSteady, after_call, after_fault}
use Rattle.tor_io.specs.MemShelf.{files_in}
use Rattle.tor_io.proofs.ShelfLemmas.{named, opened, closed, closed_behind, at_err, at_ok, ok_or_err, is_fine, is_gone, is_open, some_or_none}
use Rattle.tor_io.proofs.mem_shelf.MemShelfShelf.open_file.Goals as goal

pub returns-then-is_err : goal.returns-then-is_err
returns-then-is_err c =
    let err : IsErr c.call.result = sym c.is_err.ensures.value ∙ c.if-is_err.true in
    let plan = ap (λ s. s.plan) c.self.view_is in
    let more : c.add.new.self.names ≡ c.self.inside.opens.names ++ c.args.name.now ∷ [] = named _ _ _ _ c.add.ensures c.as_bytes.ensures.value in
    let opens = more ∙ ap (λ s. s.opens ++ c.args.name.now ∷ []) c.self.view_is in
    let cause = c.call.ensures.cause in
    let rose = at_err c.call.result (Rose c.self.inside.plan.faults c.call.new.self.faults) err cause.failed in record {
      files = ap files_in c.self.view_is;
      opened = tt;
      refused = refl;
      opens = opens;
      later = subst (λ p. p.faults ≤ c.call.new.self.faults) plan cause.later;
      quiet = tt;
      failed = λ _. subst (λ p. Rose p.faults c.call.new.self.faults) plan rose;
      memory = λ e. absurd (is_gone e);
      steady = λ s. c.call.ensures.steady (subst IsSteady (sym plan) s);
      steady_failed = λ s _. absurd (ok_or_err c.call.result (c.call.ensures.steady_ok (subst IsSteady (sym plan) s)) err);
      fails = (λ _. inl (subst FailsNext plan (c.call.ensures.fails.0 err)), λ _. refl);
      no_memory = is_gone;
      ok = tt;
      err = closed _ c.args.self.now c.call.new.self c.args.name.now _ c.self.view_is (at_err c.call.result (c.call.new.self ≡ after_fault (after_call c.self.inside.plan)) err c.call.ensures.err) more;
    }

pub returns-then-stand_before : goal.returns-then-stand_before
returns-then-stand_before c =
    let ok : IsOk c.call.result = is_fine c.call.result c.is_err.result c.is_err.ensures.value c.if-is_err.false in
    let plan = ap (λ s. s.plan) c.self.view_is in
    let more : c.add.new.self.names ≡ c.self.inside.opens.names ++ c.args.name.now ∷ [] = named _ _ _ _ c.add.ensures c.as_bytes.ensures.value in
    let opens = more ∙ ap (λ s. s.opens ++ c.args.name.now ∷ []) c.self.view_is in
    let after = c.stand_before.ensures.after in
    let same = at_ok c.call.result (c.call.new.self.faults ≡ c.self.inside.plan.faults) ok c.call.ensures.cause.quiet in
    let quiet = ap (λ s. s.plan.faults) after ∙ same ∙ ap (λ p. p.faults) plan in
    let found : files_in c.args.self.now c.args.name.now ≡ Some c.stand_before.new.self.unread =
    sym (ap (λ s. files_in s c.args.name.now) c.self.view_is) ∙ c.stand_before.ensures.found c.if-stand_before.true in
    let then = at_ok c.call.result (c.call.new.self ≡ after_call c.self.inside.plan) ok c.call.ensures.ok in record {
      files = ap files_in after ∙ ap files_in c.self.view_is;
      opened = found;
      refused = tt;
      opens = ap (λ s. s.opens) after ∙ opens;
      later = omega (arith, quiet);
      quiet = quiet;
      failed = λ e. absurd (is_open _ e);
      memory = λ _. quiet;
      steady = λ s. subst IsSteady (sym (ap (λ s. s.plan) after)) (c.call.ensures.steady (subst IsSteady (sym plan) s));
      steady_failed = λ _ e. absurd (is_open _ e);
      fails = (
        λ e. absurd (true≢false (sym e)),
        λ f. absurd (elim f [
          | inl next ↦ ok_or_err c.call.result ok (c.call.ensures.fails.1 (subst FailsNext (sym plan) next))
          | inr none ↦ some_or_none (sym found ∙ none)
        ]),
      );
      no_memory = is_open _;
      ok = subst (λ o. IfSome o (λ bytes. c.stand_before.new.self ≡ record c.args.self.now { unread = bytes; plan = after_call c.args.self.now.plan; opens = c.args.self.now.opens ++ c.args.name.now ∷ [] }))
          (sym found) (after ∙ opened _ c.args.self.now c.call.new.self c.stand_before.new.self.unread c.args.name.now _ c.self.view_is then more);
      err = tt;
    }

pub returns : goal.returns
returns c =
    let ok : IsOk c.call.result = is_fine c.call.result c.is_err.result c.is_err.ensures.value c.if-is_err.false in
    let plan = ap (λ s. s.plan) c.self.view_is in
    let more : c.add.new.self.names ≡ c.self.inside.opens.names ++ c.args.name.now ∷ [] = named _ _ _ _ c.add.ensures c.as_bytes.ensures.value in
    let opens = more ∙ ap (λ s. s.opens ++ c.args.name.now ∷ []) c.self.view_is in
    let after = c.self-2.view_is ∙ c.stand_before.ensures.after in
    let absent = c.stand_before.ensures.absent c.if-stand_before.false in
    let none : files_in c.args.self.now c.args.name.now ≡ None = sym (ap (λ s. files_in s c.args.name.now) c.self.view_is) ∙ absent.0 in
    let called = c.fault.ensures.after ∙ ap after_fault (ap (λ s. s.plan) after) in
    let then = called ∙ ap after_fault (at_ok c.call.result (c.call.new.self ≡ after_call c.self.inside.plan) ok c.call.ensures.ok) in
    let faults = ap (λ p. p.faults) then ∙ ap (λ p. (after_fault p).faults) plan in
    let same = at_ok c.call.result (c.call.new.self.faults ≡ c.self.inside.plan.faults) ok c.call.ensures.cause.quiet in
    let quiet = ap (λ s. s.plan.faults) after ∙ same ∙ ap (λ p. p.faults) plan in record {
      files = ap files_in after ∙ ap files_in c.self.view_is;
      opened = tt;
      refused = ap (λ s. s.unread) c.self-2.view_is ∙ absent.1;
      opens = ap (λ s. s.opens) after ∙ opens;
      later = omega (arith, c.fault.ensures.later, quiet);
      quiet = tt;
      failed = λ _. omega (arith, faults);
      memory = λ e. absurd (is_gone e);
      steady = λ s. subst IsSteady (sym called) (c.call.ensures.steady (subst IsSteady (sym plan) s));
      steady_failed = λ _ _. none;
      fails = (λ _. inr none, λ _. refl);
      no_memory = is_gone;
      ok = tt;
      err = closed_behind _ c.args.self.now _ c.call.new.self c.fault.new.self c.stand_before.new.self.unread c.args.name.now _ c.self.view_is after absent.1 then more;
    }
