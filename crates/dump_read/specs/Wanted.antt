-- Which routes of dumps count: those of a family that is wanted, and of a peer with an AS that is.
use Rattle.std.specs.Prelude.{◌≡◌, ℕ, ◌==◌, ◌&&◌, Bool, true, false, List, filter, Option, Some, None}
use Rattle.std.specs.List.{list_any}
use Rattle.path_clean.specs.declared.cleaned.Sets.{Sets}
use Rattle.mrt_header.specs.declared.record_kind.Family.{Family}
use Rattle.mrt_header.specs.declared.record_kind.Family.TheVariants.{Ipv4, Ipv6}
use Rattle.dump_read.specs.declared.wanted.Families.{Families}
use Rattle.dump_read.specs.declared.wanted.Families.TheVariants.{Both, Only}
use Rattle.dump_read.specs.Routes.{Route}
use Rattle.dump_read.specs.Reading.{file_reading}
pub use Rattle.dump_read.specs.declared.wanted.Wanted.{Wanted}

-- the family is one of these
abbrev pub family_counts : Families → Family → Bool
family_counts Both family = true
family_counts (Only Ipv4) Ipv4 = true
family_counts (Only Ipv4) Ipv6 = false
family_counts (Only Ipv6) Ipv4 = false
family_counts (Only Ipv6) Ipv6 = true

-- the AS is one of the list, where there is a list
abbrev pub peer_counts : Option (List ℕ) → ℕ → Bool
peer_counts None as_number = true
peer_counts (Some ases) as_number = list_any (λ listed. listed == as_number) ases

-- a route counts by its family and the AS of its peer
abbrev pub counts : Wanted → Route → Bool
counts wanted route = family_counts wanted.families route.family && peer_counts wanted.from route.peer

-- those of the routes that count, in order
abbrev pub which_count : Wanted → List Route → List Route
which_count wanted routes = filter (counts wanted) routes

-- those of a file: how it is read, and how its reading ends, is the same whatever counts
abbrev pub file_routes : Wanted → List ℕ → List Route
file_routes wanted octets = which_count wanted (file_reading octets).routes

-- all routes are wanted
abbrev pub all_wanted : Sets → Wanted
all_wanted sets = record { sets = sets; families = Both; from = None }

-- and then they are the routes that count
abbrev pub AllCountLaw : Type 0
AllCountLaw = (sets : Sets) (routes : List Route) → which_count (all_wanted sets) routes ≡ routes
