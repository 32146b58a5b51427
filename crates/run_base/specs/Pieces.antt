-- Texts in pieces.
use Rattle.std.specs.Prelude.{ℕ, List, map, flat_map, decimal}
use Rattle.std.specs.List.{join_with_byte}
use Rattle.run_base.specs.declared.pieces.Piece.{Piece}
use Rattle.run_base.specs.declared.pieces.Piece.TheVariants.{Word, Number, Numbers}

-- numbers with a space between two
abbrev pub numbers_text : List ℕ → List ℕ
numbers_text numbers = join_with_byte 32 (map decimal numbers)

abbrev pub piece_text : Piece → List ℕ
piece_text (Word octets) = octets.now
piece_text (Number number) = decimal number
piece_text (Numbers numbers) = numbers_text numbers.now

abbrev pub pieces_text : List Piece → List ℕ
pieces_text pieces = flat_map piece_text pieces
