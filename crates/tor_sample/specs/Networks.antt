-- Networks, each but the first ten with two providers. There are four levels: 0 to 9, 10 to 49, 50 to 199 and 200 to 1999.
use Rattle.std.specs.Prelude.{ℕ, zero, suc, ◌+◌, ◌-◌, ◌==◌, nat_lt, List, [], ◌∷◌, ◌++◌, get_or, if◌then◌else◌}
use Rattle.tor_sample.specs.declared.networks.Level.{Level}
use Rattle.tor_sample.specs.declared.networks.Providers.{Providers}
use Rattle.tor_sample.specs.Draws.{Drawn, ◌>>=◌, just, draw}

-- the level above a network's own, from which its providers are drawn
abbrev pub level_above : ℕ → Level
level_above network =
    if nat_lt network 50 then record { least = 0; size = 10 }
    else if nat_lt network 200 then record { least = 10; size = 40 }
    else record { least = 50; size = 150 }

-- a network of a level
abbrev pub drawn_from : Level → Drawn ℕ
drawn_from level = do
  n ← draw level.size
  just (level.least + n)

-- the first provider of a network, and then the second, which may be the same
abbrev pub providers_of : ℕ → Drawn Providers
providers_of network = do
  first ← drawn_from (level_above network)
  second ← drawn_from (level_above network)
  just (record { first = first; second = second })

-- the providers of the networks 10, 11 and so on, of n networks
unfoldable pub networks : ℕ → Drawn (List Providers)
networks zero = just []
networks (suc n) = do
  before ← networks n
  last ← providers_of (10 + n)
  just (before ++ last ∷ [])

-- the providers of a network; what stands for those of the first ten is never read
abbrev pub providers_in : List Providers → ℕ → Providers
providers_in nets network = get_or nets (network - 10) (record { first = 0; second = 0 })

-- the provider with which a climb goes on from a network: the first at 0, and the second at 1
abbrev pub provider_of : List Providers → ℕ → Drawn ℕ
provider_of nets network = do
  coin ← draw 2
  just (if coin == 0 then (providers_in nets network).first else (providers_in nets network).second)

-- from a network to a provider of it and so on, to one of the first ten, by at most n steps
unfoldable pub climb_within : ℕ → List Providers → ℕ → Drawn (List ℕ)
climb_within zero nets network = just (network ∷ [])
climb_within (suc n) nets network =
    if nat_lt network 10 then just (network ∷ []) else do
      above ← provider_of nets network
      others ← climb_within n nets above
      just (network ∷ others)

-- a climb has at most three steps, since each of them goes one level up
abbrev pub climb : List Providers → ℕ → Drawn (List ℕ)
climb nets network = climb_within 3 nets network
