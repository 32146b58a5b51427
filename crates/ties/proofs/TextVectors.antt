-- Texts that were worked by hand.
use Rattle.std.proofs.Common.{◌≡◌, ℕ, [], ◌∷◌, refl}
use Rattle.std.specs.Prelude.{codes}
use Rattle.std.specs.Fmt.{digits}
use Rattle.ties.specs.declared.tie.Side.{Side}
use Rattle.ties.specs.declared.table.TieLine.{TieLine}
use Rattle.ties.specs.TiesText.{ties_text}

abbrev tie : ℕ → ℕ → ℕ → Side → TieLine
tie low high class side = record { low = low; high = high; class = class; side = side }

-- a class with both sides: paths 10 20 30, 20 30 10 and 30 10 20
one_class : ties_text (tie 10 20 1 Side.With ∷ tie 20 30 1 Side.With ∷ tie 10 30 1 Side.Against ∷ []) ≡
    codes "tie|10|20|1|with\ntie|20|30|1|with\ntie|10|30|1|against\nties|3|1\n"
unfolding digits
one_class = refl

two_classes : ties_text (tie 30 40 1 Side.With ∷ tie 20 40 2 Side.With ∷ tie 20 30 1 Side.Against ∷ []) ≡
    codes "tie|30|40|1|with\ntie|20|40|2|with\ntie|20|30|1|against\nties|3|2\n"
unfolding digits
two_classes = refl

no_open_edge : ties_text [] ≡ codes "ties|0|0\n"
unfolding digits
no_open_edge = refl
