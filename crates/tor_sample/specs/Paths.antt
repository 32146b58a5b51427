-- The networks of a route: up from one network and down to another, but on each fiftieth route down and then up.
use Rattle.std.specs.Prelude.{ℕ, ◌-◌, ◌%◌, ◌==◌, List, [], ◌∷◌, ◌++◌, length, drop, take, reverse, get_or, if◌then◌else◌}
use Rattle.tor_sample.specs.declared.networks.Providers.{Providers}
use Rattle.tor_sample.specs.Draws.{Drawn, ◌>>=◌, just, draw}
use Rattle.tor_sample.specs.Networks.{climb}

abbrev pub last : List ℕ → ℕ
last networks = get_or networks (length networks - 1) 0

-- all but the last
abbrev pub but_last : List ℕ → List ℕ
but_last networks = take (length networks - 1) networks

-- up the one climb and down the other; where both end at one network, it is written once
abbrev pub over_top : List ℕ → List ℕ → List ℕ
over_top up down = up ++ reverse (if last up == last down then but_last down else down)

-- down one climb of a network and up another, the network itself written once
abbrev pub through_valley : List ℕ → List ℕ → List ℕ
through_valley down up = reverse down ++ drop 1 up

-- the last network twice more
abbrev pub prepended : List ℕ → List ℕ
prepended path = path ++ last path ∷ last path ∷ []

-- the path of route k between two climbs, the first of which begins at `from`; each fiftieth route, from 49 on, is a valley
abbrev pub path_between : List Providers → ℕ → ℕ → List ℕ → List ℕ → Drawn (List ℕ)
path_between nets k from up down =
    if k % 50 == 49 then climb nets from >>= (λ again. just (through_valley up again)) else just (over_top up down)

-- the path of route k, counted from 0
unfoldable pub route_path : List Providers → ℕ → Drawn (List ℕ)
route_path nets k = do
  from ← draw 2000
  to ← draw 2000
  up ← climb nets from
  down ← climb nets to
  path ← path_between nets k from up down
  eighth ← draw 8
  just (if eighth == 0 then prepended path else path)
