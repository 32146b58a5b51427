use Rattle.std.proofs.Common.{◌≡◌, ◌++◌, map, take}
use Rattle.std.specs.List.{enumerate_from}
use Rattle.drawing.specs.Picture.{high_band}
use Rattle.drawing.proofs.drawing.put_high_bands.Given as goal

abbrev pub invariant-loop-place : goal.invariant-loop-place
invariant-loop-place l = l.bands.items ≡ l.fn.bands.items ++ map (high_band l.plan) (take l.place (enumerate_from 0 l.sizes))
