-- The text of what would settle most: a line for each open edge, in order, and a last line with their number.
use Rattle.std.specs.Prelude.{ℕ, List, [], ◌∷◌, ◌++◌, length, flat_map, codes}
use Rattle.std.specs.Fmt.{decimal}
use Rattle.text_fields.specs.Fields.{fields}
use Rattle.asks.specs.declared.table.AskLine.{AskLine}

-- fields, joined by a bar, and a line feed
abbrev pub asks_line : List (List ℕ) → List ℕ
asks_line parts = fields parts ++ 10 ∷ []

-- an open edge by its two ASes, and how many open edges are forced if the lower number is the provider, and if the higher is
abbrev pub ask_text : AskLine → List ℕ
ask_text l = asks_line (codes "ask" ∷ decimal l.low ∷ decimal l.high ∷ decimal l.if_low ∷ decimal l.if_high ∷ [])

abbrev pub ask_texts : List AskLine → List ℕ
ask_texts lines = flat_map ask_text lines

-- how many open edges there are
abbrev pub ask_count_text : List AskLine → List ℕ
ask_count_text lines = asks_line (codes "asks" ∷ decimal (length lines) ∷ [])

abbrev pub asks_text : List AskLine → List ℕ
asks_text lines = ask_texts lines ++ ask_count_text lines
