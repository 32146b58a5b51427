-- Answers that are an error, and those that are none.
use Rattle.std.proofs.Common.{◌≡◌, Bool, true, false, Option, Some, None, Result, Ok, Err, IfSome, sym, ap, subst, ◌∙◌}
use Rattle.std.specs.Prelude.{IfNone}
use Rattle.mrt_frame.specs.declared.header.At.{At}
use Rattle.mrt_frame.specs.declared.error.FrameError.{FrameError}
use Rattle.mrt_frame.specs.declared.error.FrameError.TheVariants as errors
use Rattle.mrt_frame.specs.Frames.{end_of_error}
use Rattle.mrt_frame.specs.Records.{RecordsEnd, BodyCut, TooManyBytes}

pub no_error : {T : Type 0} (x : T) (e : FrameError) → ◌≡◌ {A = Result T FrameError} (Ok x) (Err e) → ⊥
no_error x e is = absurd cc

pub no_answer : {T : Type 0} (e : FrameError) (x : T) → ◌≡◌ {A = Result T FrameError} (Err e) (Ok x) → ⊥
no_answer e x is = absurd cc

pub false_not_true : ◌≡◌ {A = Result Bool FrameError} (Ok false) (Ok true) → ⊥
false_not_true is = absurd cc

pub same_error : {T : Type 0} (e f : FrameError) → ◌≡◌ {A = Result T FrameError} (Err e) (Err f) → e ≡ f
same_error e f is = cc

-- the same error, answered by another call
pub error_on : {T S : Type 0} (e f : FrameError) → ◌≡◌ {A = Result T FrameError} (Err e) (Err f) → ◌≡◌ {A = Result S FrameError} (Err e) (Err f)
error_on e f is = ap (λ (x : FrameError). Err x) (same_error e f is)

-- an error that names an end of the file is none of reading
pub no_fault : (e : FrameError) (end : RecordsEnd) → end_of_error e ≡ Some end → e ≡ errors.ReadFault → ⊥
no_fault e end names is = let none : None ≡ Some end = sym (ap end_of_error is) ∙ names in absurd cc

pub cut_not_long : (at : At) → ◌≡◌ {A = RecordsEnd} TooManyBytes (BodyCut at) → ⊥
cut_not_long at is = absurd cc

pub head_not_long : (at : At) → ◌≡◌ {A = FrameError} (errors.HeadCut at) errors.TooManyBytes → ⊥
head_not_long at is = absurd cc

pub oversize_not_long : (at : At) → ◌≡◌ {A = FrameError} (errors.Oversize at) errors.TooManyBytes → ⊥
oversize_not_long at is = absurd cc

-- what holds by cases, where the case is known
pub at_none : {T : Type 0} (o : Option T) (P : Type 0) → o ≡ None → IfNone o P → P
at_none o P is h = subst (λ x. IfNone x P) is h

pub at_some : {T : Type 0} (o : Option T) (x : T) (P : T → Type 0) → o ≡ Some x → IfSome o P → P x
at_some o x P is h = subst (λ y. IfSome y P) is h

pub memory_not_long : ◌≡◌ {A = FrameError} errors.NoMemory errors.TooManyBytes → ⊥
memory_not_long is = absurd cc

pub memory_not_fault : ◌≡◌ {A = FrameError} errors.NoMemory errors.ReadFault → ⊥
memory_not_fault is = absurd cc
