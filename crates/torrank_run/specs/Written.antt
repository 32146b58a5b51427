-- What a run answers where relationships are known.
use Rattle.std.specs.Prelude.{◌≡◌, ◌⊎◌, ℕ, List}
use Rattle.std.specs.Io.KnownBytes.{append_known}
use Rattle.tor_io.specs.Contents.{GainsPrefix}
use Rattle.tor_io.specs.declared.sink.Sink as sink
use Rattle.run_base.specs.declared.answer.Answer.{Answer}
use Rattle.run_base.specs.declared.answer.Note.TheVariants.{Plain}
use Rattle.run_base.specs.declared.status.Status.TheVariants.{Done, WriteFault, NoMemory}
use Rattle.run_base.specs.Frames.{RunLeavesOut}

-- such a text was written whole
pub record WritesWhole {O : Type 0} (o : sink.Ghosts O) (IsText : List ℕ → Type 0) (answer : Answer) (old new : O) : Type 0 where
  pub status : answer.status ≡ Done
  pub text : List ℕ
  pub is_text : IsText text
  pub whole : o.held new ≡ append_known (o.held old) text

-- a write failed, and out took a prefix of such a text
pub record WritesPrefix {O : Type 0} (o : sink.Ghosts O) (IsText : List ℕ → Type 0) (answer : Answer) (old new : O) : Type 0 where
  pub status : answer.status ≡ WriteFault
  pub text : List ℕ
  pub is_text : IsText text
  pub prefix : GainsPrefix (o.held old) (o.held new) text

-- memory ran out, and nothing was written
pub record WritesNone {O : Type 0} (answer : Answer) (old new : O) : Type 0 where
  pub status : answer.status ≡ NoMemory
  pub same : new ≡ old

-- one of these, without a note of its own
pub record WritesSuch {O : Type 0} (o : sink.Ghosts O) (IsText : List ℕ → Type 0) (answer : Answer) (old new : O) : Type 0 where
  pub ends : WritesWhole o IsText answer old new ⊎ (WritesPrefix o IsText answer old new ⊎ WritesNone answer old new)
  pub note : answer.note ≡ Plain
  pub leaves_out : RunLeavesOut o answer.status old new
