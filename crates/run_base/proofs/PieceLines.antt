-- The pieces of a text, one more at a time.
use Rattle.std.proofs.Common.{◌≡◌, ℕ, ◌+◌, ◌<◌, List, [], ◌∷◌, ◌++◌, length, get_or, take, drop, Option, sym, ap, ◌∙◌, subst, append_assoc}
use Rattle.std.proofs.lemmas.Grind.{flat_map-append}
use Rattle.std.proofs.lemmas.List.{append-nil, take-append-drop, take_more}
use Rattle.tor_io.specs.Contents.{GainsPrefix, PassesOn}
use Rattle.tor_io.proofs.Passing.{longer, one_and_another, one_and_prefix}
use Rattle.run_base.specs.declared.pieces.Piece.{Piece}
use Rattle.run_base.specs.Pieces.{piece_text, pieces_text}

pub pieces_more : (pieces : List Piece) (i : ℕ) (d : Piece) → i < length pieces
    → pieces_text (take (i + 1) pieces) ≡ pieces_text (take i pieces) ++ piece_text (get_or pieces i d)
pieces_more pieces i d lt =
    ap pieces_text (take_more pieces i d lt) ∙ flat_map-append piece_text (take i pieces) (get_or pieces i d ∷ [])
    ∙ ap (λ (t : List ℕ). pieces_text (take i pieces) ++ t) (append-nil (piece_text (get_or pieces i d)))

-- the pieces so far are a first part of all
pub pieces_stop : (pieces : List Piece) (i : ℕ) (old new : Option (List ℕ)) (before : List ℕ) → GainsPrefix old new (before ++ pieces_text (take i pieces))
    → GainsPrefix old new (before ++ pieces_text pieces)
pieces_stop pieces i old new before gain =
    subst (λ t. GainsPrefix old new (before ++ t)) (sym (flat_map-append piece_text (take i pieces) (drop i pieces)) ∙ ap pieces_text (take-append-drop i pieces))
    (subst (GainsPrefix old new) (append_assoc before (pieces_text (take i pieces)) (pieces_text (drop i pieces)))
    (longer old new (before ++ pieces_text (take i pieces)) (pieces_text (drop i pieces)) gain))

pub piece_passed : (pieces : List Piece) (i : ℕ) (d : Piece) (old between new : Option (List ℕ)) (before waiting after : List ℕ) → i < length pieces
    → PassesOn old between waiting (before ++ pieces_text (take i pieces)) → PassesOn between new after (waiting ++ piece_text (get_or pieces i d))
    → PassesOn old new after (before ++ pieces_text (take (i + 1) pieces))
piece_passed pieces i d old between new before waiting after lt first second =
    subst (λ t. PassesOn old new after (before ++ t)) (sym (pieces_more pieces i d lt))
    (one_and_another old between new before waiting after (pieces_text (take i pieces)) (piece_text (get_or pieces i d)) first second)

pub piece_stopped : (pieces : List Piece) (i : ℕ) (d : Piece) (old between new : Option (List ℕ)) (before waiting : List ℕ) → i < length pieces
    → PassesOn old between waiting (before ++ pieces_text (take i pieces)) → GainsPrefix between new (waiting ++ piece_text (get_or pieces i d))
    → GainsPrefix old new (before ++ pieces_text pieces)
piece_stopped pieces i d old between new before waiting lt first second =
    pieces_stop pieces (i + 1) old new before
    (subst (λ t. GainsPrefix old new (before ++ t)) (sym (pieces_more pieces i d lt))
    (one_and_prefix old between new before waiting (pieces_text (take i pieces)) (piece_text (get_or pieces i d)) first second))
