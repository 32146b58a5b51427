-- Providers stand one level above.
use Rattle.std.specs.Prelude.{ℕ, ◌+◌, ◌<◌, ◌≤◌, List, length, get_or}
use Rattle.tor_sample.specs.declared.networks.Providers.{Providers}
use Rattle.tor_sample.specs.Networks.{level_above}

-- the second network is one of the level above that of the first
abbrev pub IsAbove : ℕ → ℕ → Type 0
IsAbove network above =
    ((level_above network).least ≤ above) × (above < (level_above network).least + (level_above network).size)

-- the providers of each network, from the network 10 on, are of the level above its own
abbrev pub LeadUp : List Providers → Type 0
LeadUp nets =
    (k : ℕ) (other : Providers) → k < length nets →
    IsAbove (10 + k) (get_or nets k other).first × IsAbove (10 + k) (get_or nets k other).second
