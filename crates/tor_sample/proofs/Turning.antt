-- The path of a route, from its parts.
use Rattle.std.proofs.Common.{◌≡◌, ℕ, ◌==◌, List, if◌then◌else◌, ap, ◌∙◌}
use Rattle.tor_sample.specs.declared.networks.Providers.{Providers}
use Rattle.tor_sample.specs.Draws.{Drawn, ◌>>=◌, just, draw_on, draw}
use Rattle.tor_sample.specs.Networks.{climb}
use Rattle.tor_sample.specs.Paths.{path_between, prepended, route_path}

-- what is made of the path between the climbs, and what of the parts before
abbrev of_path : List ℕ → Drawn (List ℕ)
of_path path = draw 8 >>= (λ eighth. just (if eighth == 0 then prepended path else path))

abbrev of_down : List Providers → ℕ → ℕ → List ℕ → List ℕ → Drawn (List ℕ)
of_down nets k from up down = path_between nets k from up down >>= of_path

abbrev of_up : List Providers → ℕ → ℕ → ℕ → List ℕ → Drawn (List ℕ)
of_up nets k from to up = climb nets to >>= of_down nets k from up

abbrev of_to : List Providers → ℕ → ℕ → ℕ → Drawn (List ℕ)
of_to nets k from to = climb nets from >>= of_up nets k from to

abbrev of_from : List Providers → ℕ → ℕ → Drawn (List ℕ)
of_from nets k from = draw 2000 >>= of_to nets k from

pub path_of-is :
    (nets : List Providers) (k from to eighth s a b c d e z : ℕ) (up down path : List ℕ)
    → draw 2000 s ≡ (from, a) → draw 2000 a ≡ (to, b) → climb nets from b ≡ (up, c) → climb nets to c ≡ (down, d)
    → path_between nets k from up down d ≡ (path, e) → draw 8 e ≡ (eighth, z)
    → route_path nets k s ≡ (if eighth == 0 then prepended path else path, z)
unfolding route_path
path_of-is nets k from to eighth s a b c d e z up down path h1 h2 h3 h4 h5 h6 =
    ap (draw_on (of_from nets k)) h1 ∙ ap (draw_on (of_to nets k from)) h2 ∙ ap (draw_on (of_up nets k from to)) h3
    ∙ ap (draw_on (of_down nets k from up)) h4 ∙ ap (draw_on of_path) h5 ∙ ap (draw_on (λ eighth. just (if eighth == 0 then prepended path else path))) h6
