-- Two pairs with the same parts.
use Rattle.std.proofs.Common.{◌≡◌}

pub pair_with : {X Y : Type 0} {a c : X} {b d : Y} → a ≡ c → b ≡ d → ◌≡◌ {A = X × Y} (a, b) (c, d)
pair_with e f = cc
