-- What a run writes.
use Rattle.std.specs.Prelude.{ℕ, List, [], ◌++◌}
use Rattle.result_text.specs.Text as result
use Rattle.tor_output.specs.Listing.{listing}
use Rattle.tor_output.specs.declared.output.Output.{Output}
use Rattle.tor_output.specs.declared.output.Output.TheVariants.{Text, Paths, Result}

-- a text, which goes to out, and behind it a note, which goes to err
pub record Written : Type 0 where
  pub text : List ℕ
  pub note : List ℕ

-- a text in memory as it is; of paths what waits in the buffer, and then their list, without a note; of a result what waits in the buffer,
-- and then its text, and the note as it is
abbrev pub written : Output → Written
written (Text text note) = record { text = text; note = note }
written (Paths paths buffer) = record { text = buffer ++ listing paths; note = [] }
written (Result file buffer note) = record { text = buffer ++ result.text file; note = note }
