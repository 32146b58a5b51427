-- What the steps of a telling print of the paths that they name. A path of at most 64 ASes is printed whole, at the first step that names
-- it; of a longer one each step prints its own part. So a telling is no longer than its steps allow.
use Rattle.std.specs.Prelude.{◌≡◌, ℕ, ◌+◌, ◌-◌, ◌<◌, ◌≤◌, ◌==◌, ◌&&◌, Bool, false, List, [], ◌∷◌, ◌++◌, length, take, drop, get_or}
use Rattle.std.specs.Prelude.{nat_le, nat_lt, if◌then◌else◌, codes}
use Rattle.std.specs.List.{list_any}
use Rattle.tor_io.specs.Outflow.{State, Puts}
use Rattle.result_text.specs.Text.{numbers_text}

-- a path of so many ASes is printed whole
abbrev pub is_short_path : List ℕ → Bool
is_short_path path = nat_le (length path) 64

-- the ASes from eight before a place, which counts from 1, to eight behind it
abbrev pub near_place : List ℕ → ℕ → List ℕ
near_place path at = take (at + 8 - (at - 9)) (drop (at - 9) path)

-- the ASes of a path that are printed for a place
abbrev pub ases_shown : List ℕ → ℕ → List ℕ
ases_shown path at = if is_short_path path then path else near_place path at

-- two dots in front of them, or behind them, where some are left out
abbrev pub dots_before : List ℕ → ℕ → List ℕ
dots_before path at = if is_short_path path then [] else (if nat_lt 9 at then codes ".. " else [])

abbrev pub dots_behind : List ℕ → ℕ → List ℕ
dots_behind path at = if is_short_path path then [] else (if nat_lt (at + 8) (length path) then codes " .." else [])

abbrev pub excerpt : List ℕ → ℕ → List ℕ
excerpt path at = dots_before path at ++ (numbers_text (ases_shown path at) ++ dots_behind path at)

-- nothing is printed of a short path that an earlier step has named
abbrev pub is_left_out : (named : Bool) → List ℕ → Bool
is_left_out named path = named && is_short_path path

-- what stands behind the link of a step by a path, which an earlier step has named or not
abbrev pub path_text : (named : Bool) → List ℕ → ℕ → List ℕ
path_text named path at = if is_left_out named path then [] else 124 ∷ excerpt path at

-- a line has no more ASes of a path than this
abbrev pub ShortLinesLaw : Type 0
ShortLinesLaw = (path : List ℕ) (at : ℕ) → length (ases_shown path at) ≤ 64

-- ---- which paths earlier steps have named

abbrev pub was_named : List ℕ → ℕ → Bool
was_named before number = list_any (λ n. n == number) before

-- each path has its flag, the first one that of number 1
pub record AreFlagged (before : List ℕ) (flags : List Bool) : Type 0 where
  pub each : (k : ℕ) → k < length flags → get_or flags k false ≡ was_named before (k + 1)

-- whatever was named before, this text was put, and now these are named too
pub record PutsNaming (old new : State) (was is : List Bool) (text : List ℕ → List ℕ) (names : List ℕ) : Type 0 where
  pub puts : (before : List ℕ) → AreFlagged before was → Puts old new (text before)
  pub named : (before : List ℕ) → AreFlagged before was → AreFlagged (before ++ names) is
  pub many : length is ≡ length was
