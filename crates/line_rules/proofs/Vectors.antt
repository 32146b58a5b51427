-- The number of two steps that was worked by hand: up along the edges in the places 0 and 1, and the same the other way round.
use Rattle.std.proofs.Common.{◌≡◌, refl}
use Rattle.line_rules.specs.Flipping.{number_of_steps}

up_twice : number_of_steps (record { code = 1 }) (record { code = 3 }) ≡ 4294967301
up_twice = refl

down_twice : number_of_steps (record { code = 2 }) (record { code = 0 }) ≡ 4294967301
down_twice = refl
