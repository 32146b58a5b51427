-- What a step is seen as, and the number that stands for it.
use Rattle.std.specs.Prelude.{ℕ, ◌+◌, ◌*◌, ◌/◌, ◌%◌, ◌==◌, if◌then◌else◌}
use Rattle.relationships.specs.declared.label.End.{End}

-- a step along the edge of this place, from this end of it to the other
pub record EdgeStep : Type 0 where
  pub edge : ℕ
  pub left : End

abbrev pub side : End → ℕ
side End.Low = 0
side End.High = 1

abbrev pub end_of : ℕ → End
end_of n = if n == 0 then End.Low else End.High

-- the place of a step among the two along each edge
abbrev pub place_of_step : EdgeStep → ℕ
place_of_step step = step.edge * 2 + side step.left

-- the step of a place
abbrev pub step_of_place : ℕ → EdgeStep
step_of_place n = record { edge = n / 2; left = end_of (n % 2) }
