-- Texts that are put one behind the other.
use Rattle.std.proofs.Common.{◌≡◌, ℕ, ◌≤◌, true, false, List, [], ◌++◌, Option, Some, None, Result, Ok, Err, refl, sym, ◌∙◌, subst}
use Rattle.std.specs.Prelude.{OnOk, OnErr}
use Rattle.std.specs.Io.KnownBytes.{append_known}
use Rattle.tor_io.specs.Contents.{GainsPrefix}
use Rattle.tor_io.specs.Counts.{HasCause, Rose}
use Rattle.tor_io.specs.Outflow.{State, state, Puts, Finishes}
use Rattle.tor_io.proofs.Passing.{all_flushed, flush_stops, none_passed, one_and_another, one_and_prefix, prefix_of_one}

none_put : (held : Option (List ℕ)) (faults : ℕ) (waiting : Option (List ℕ)) → Puts (state held faults waiting) (state held faults waiting) []
none_put held faults None = record { done = refl }
none_put held faults (Some waiting) = record { done = record { passed = none_passed held waiting; quiet = refl } }

-- nothing was put yet
pub puts_none : (a : State) → Puts a a []
puts_none a = none_put a.held a.faults a.waiting

both_put : (h₁ : Option (List ℕ)) (n₁ : ℕ) (w₁ : Option (List ℕ)) (h₂ : Option (List ℕ)) (n₂ : ℕ) (w₂ : Option (List ℕ)) (h₃ : Option (List ℕ)) (n₃ : ℕ) (w₃ : Option (List ℕ))
    (text more : List ℕ) → Puts (state h₁ n₁ w₁) (state h₂ n₂ w₂) text → Puts (state h₂ n₂ w₂) (state h₃ n₃ w₃) more → Puts (state h₁ n₁ w₁) (state h₃ n₃ w₃) (text ++ more)
both_put h₁ n₁ None h₂ n₂ w₂ h₃ n₃ w₃ text more first second =
    let same : Puts (state h₁ n₁ None) (state h₃ n₃ w₃) more = subst (λ s. Puts s (state h₃ n₃ w₃) more) first.done second in
    record { done = same.done }
both_put h₁ n₁ (Some before) h₂ n₂ None h₃ n₃ w₃ text more first second =
    let stopped : Puts (state h₁ n₁ (Some before)) (state h₂ n₂ None) (text ++ more) =
    record { done = record { prefix = prefix_of_one h₁ h₂ before text more first.done.prefix; later = first.done.later; rose = first.done.rose } } in
    subst (λ s. Puts (state h₁ n₁ (Some before)) s (text ++ more)) (sym second.done) stopped
both_put h₁ n₁ (Some before) h₂ n₂ (Some waiting) h₃ n₃ None text more first second = record {
  done = record {
    prefix = one_and_prefix h₁ h₂ h₃ before waiting text more first.done.passed second.done.prefix;
    later = subst (λ n. n ≤ n₃) first.done.quiet second.done.later;
    rose = subst (λ n. Rose n n₃) first.done.quiet second.done.rose;
  };
}
both_put h₁ n₁ (Some before) h₂ n₂ (Some waiting) h₃ n₃ (Some after) text more first second = record {
  done = record {
    passed = one_and_another h₁ h₂ h₃ before waiting after text more first.done.passed second.done.passed;
    quiet = second.done.quiet ∙ first.done.quiet;
  };
}

-- one text, and then another
pub puts_then : {a b c : State} {text more : List ℕ} → Puts a b text → Puts b c more → Puts a c (text ++ more)
puts_then {a} {b} {c} {text} {more} first second =
    both_put a.held a.faults a.waiting b.held b.faults b.waiting c.held c.faults c.waiting text more first second

-- the same text
pub puts_as : {a b : State} {text same : List ℕ} → Puts a b text → text ≡ same → Puts a b same
puts_as {a} {b} put is = subst (Puts a b) is put

-- ---- what waits is written at the end

module _ {T E : Type 0} where
  all_out : (r : Result T E) (old : Option (List ℕ)) (before : ℕ) (h : Option (List ℕ)) (n : ℕ) (w : Option (List ℕ)) (new : Option (List ℕ)) (now : ℕ) (text : List ℕ)
      → Puts (state old before (Some [])) (state h n w) text → Finishes (state h n w) new now r → OnOk r (new ≡ append_known old text)
  all_out (Ok x) old before h n None new now text put finish = let no : false ≡ true = finish.0 in absurd cc
  all_out (Err e) old before h n None new now text put finish = tt
  all_out r old before h n (Some waiting) new now text put finish = all_flushed r old h new waiting text put.done.passed finish.0

  prefix_out : (r : Result T E) (old : Option (List ℕ)) (before : ℕ) (h : Option (List ℕ)) (n : ℕ) (w : Option (List ℕ)) (new : Option (List ℕ)) (now : ℕ) (text : List ℕ)
      → Puts (state old before (Some [])) (state h n w) text → Finishes (state h n w) new now r → OnErr r (GainsPrefix old new text)
  prefix_out (Ok x) old before h n None new now text put finish = tt
  prefix_out (Err e) old before h n None new now text put finish = subst (λ known. GainsPrefix old known text) (sym finish.1) put.done.prefix
  prefix_out r old before h n (Some waiting) new now text put finish = flush_stops r old h new waiting text put.done.passed finish.1

  cause_out : (r : Result T E) (old : Option (List ℕ)) (before : ℕ) (h : Option (List ℕ)) (n : ℕ) (w : Option (List ℕ)) (new : Option (List ℕ)) (now : ℕ) (text : List ℕ)
      → Puts (state old before (Some [])) (state h n w) text → Finishes (state h n w) new now r → HasCause before now r
  cause_out (Ok x) old before h n None new now text put finish = let no : false ≡ true = finish.0 in absurd cc
  cause_out (Err e) old before h n None new now text put finish =
      record { later = subst (λ k. before ≤ k) (sym finish.2) put.done.later; failed = subst (λ k. Rose before k) (sym finish.2) put.done.rose; quiet = tt }
  cause_out r old before h n (Some waiting) new now text put finish = subst (λ k. HasCause k now r) put.done.quiet finish.2

  pub all_finished : (r : Result T E) (a b : State) (new : Option (List ℕ)) (now : ℕ) (text : List ℕ) → a.waiting ≡ Some [] → Puts a b text → Finishes b new now r
      → OnOk r (new ≡ append_known a.held text) × OnErr r (GainsPrefix a.held new text) × HasCause a.faults now r
  all_finished r a b new now text empty put finish =
      let from : Puts (state a.held a.faults (Some [])) b text = subst (λ w. Puts (state a.held a.faults w) b text) empty put in (
        all_out r a.held a.faults b.held b.faults b.waiting new now text from finish,
        prefix_out r a.held a.faults b.held b.faults b.waiting new now text from finish,
        cause_out r a.held a.faults b.held b.faults b.waiting new now text from finish,
      )
