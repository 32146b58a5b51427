-- What clap makes of the words of a command line.
use Rattle.std.specs.Prelude.{◌≡◌, true, List, []}
use Rattle.clap.specs.Words.{App, Row, Text, fault_of, is_simple, is_simple_and_free, matches_of}

-- a command of which clap's clauses say everything
pub record IsPlain (command : App) : Type 0 where
  pub simple : is_simple command ≡ true
  pub free : is_simple_and_free command ≡ true

-- the command takes the words, and what it finds in them is in these rows
pub record IsTaken (command : App) (words : List Text) (rows : List Row) : Type 0 where
  pub faultless : fault_of command words ≡ []
  pub found : rows ≡ matches_of command words
