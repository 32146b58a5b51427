-- The rules of options and operands, and commands that are made of them.
use Rattle.std.specs.Prelude.{ℕ, List, [], ◌∷◌, Some, true}
use Rattle.clap.specs.Words.{App, Rule, Text, new_app, new_rule, with_rule}
use Rattle.clap.specs.Simple.{on_top}
use Rattle.clap.specs.Lexer.{usize_max}
use Rattle.clap.specs.declared.builder.value_parser.ValueParser.TheVariants as vp
use Rattle.clap.specs.declared.builder.action.ArgAction.TheVariants.{Set, SetTrue}
use Rattle.tor_words.specs.declared.entries.Entry.{Entry}
use Rattle.tor_words.specs.declared.entries.Entry.TheVariants.{Flag, Choice, Number, Needed, Rest}

-- an option with one value
abbrev pub option_rule : Text → Rule
option_rule name = record (new_rule name) { long = Some name; action = Some Set }

-- an option whose value is a number within these bounds
abbrev pub number_rule : Text → ℕ → ℕ → Rule
number_rule name low high = record (option_rule name) { parser = Some (vp.Unsigned low high) }

abbrev pub flag_rule : Text → Rule
flag_rule name = record (new_rule name) { long = Some name; action = Some SetTrue }

-- a word that has to be there
abbrev pub needed_rule : Text → Rule
needed_rule name = record (new_rule name) { required = true }

-- the last words, of which there may be any number
abbrev pub rest_rule : Text → Rule
rest_rule name = record (new_rule name) {
  range = Some (record { start_inclusive = 1; end_inclusive = usize_max });
}

-- what an entry of a table says
abbrev pub rule_for : Entry → Rule
rule_for (Flag name help) = flag_rule name.now
rule_for (Choice name help) = option_rule name.now
rule_for (Number name low high help) = number_rule name.now low high
rule_for (Needed name help) = needed_rule name.now
rule_for (Rest name help) = rest_rule name.now

-- the command with these rules, in their order, behind those that it has
abbrev pub with_rules : App → List Rule → App
with_rules app [] = app
with_rules app (rule ∷ rules) = with_rules (with_rule app rule) rules

-- the command of this name with these rules, among whose words is no name of a program
abbrev pub command_of : Text → List Rule → App
command_of name rules = with_rules (on_top (λ s. record s { no_binary_name = true }) (new_app name)) rules
