-- An AS as a word names it.
use Rattle.std.specs.Prelude.{◌==◌, ℕ, Option, drop, if◌then◌else◌, codes}
use Rattle.std.specs.List.{starts_with}
use Rattle.clap.specs.Words.{Text}
use Rattle.tor_words.specs.Given.{short_number}

-- a number, maybe with AS in capitals before it
abbrev pub as_named : Text → Option ℕ
as_named text = if starts_with (λ a b. a == b) text (codes "AS") then short_number (drop 2 text) else short_number text
