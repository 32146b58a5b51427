-- Notes, and what the words and the files give.
use Rattle.std.proofs.Common.{◌≡◌, ◌≢◌, inl, inr, ℕ, List, Result, Ok, Err, sym, ◌∙◌}
use Rattle.std.specs.Prelude.{IfOk, OnErr}
use Rattle.run_base.specs.declared.status.Status.{Status}
use Rattle.run_base.specs.declared.answer.Answer.{Answer}
use Rattle.run_base.specs.Answers.{IsNoMemory, AnswersWith, note_in}

-- the note was made, or memory ran out for it
pub says : {T E : Type 0} (r : Result T E) (bytes : T → List ℕ) (s : Status) (note : List ℕ) (answer : Answer) → IfOk r (λ t. bytes t ≡ note)
    → IfOk r (λ t. (answer.status ≡ s) × (note_in answer ≡ bytes t)) → OnErr r (IsNoMemory answer) → AnswersWith s note answer
says (Ok t) bytes s note answer made said memory = inl (said.0, said.1 ∙ made)
says (Err e) bytes s note answer made said memory = inr memory

-- an answer for want of memory, or with this status, has no other status
