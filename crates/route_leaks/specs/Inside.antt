-- Words of the crate's own, which no reader of a public clause needs.
use Rattle.std.specs.Prelude.{◌≡◌, ◌≤◌, ℕ, ◌+◌, ◌==◌, Bool, not, List, length, map, filter, take, sum_by, if◌then◌else◌}
use Rattle.std.specs.List.{AllZip}
use Rattle.tor_arena.specs.Limits.{max_paths, max_numbers}
use Rattle.relationships.specs.declared.fate.Fate.{Fate}
use Rattle.relationships.specs.declared.walk.Link.{Link}
use Rattle.relationships.specs.declared.walk.Walk.{Walk}
use Rattle.relationships.specs.Evidence.{paths_of}
use Rattle.relationships.specs.Checking.{kept_of}
use Rattle.relationships.specs.Fates.{walk_of}
use Rattle.relationships.specs.GivenEvidence.{given_link}
use Rattle.path_table.specs.Rows.{Counted}
use Rattle.path_offer.specs.Choices.{Choice}
use Rattle.path_offer.specs.Offers.{IsTried}
use Rattle.route_leaks.specs.declared.meeting.Sighting.{Sighting}
use Rattle.route_leaks.specs.declared.naming.Naming.{Naming}
use Rattle.route_leaks.specs.Leaks.{is_one_of}

-- ---- paths beside those of a result

-- the path is a kept one of the first paths, which have these fates
abbrev pub is_kept_in : List (List ℕ) → List Fate → List ℕ → Bool
is_kept_in paths fates path = is_one_of (paths_of (kept_of (take (length fates) paths) (map walk_of fates))) path

-- the rows whose paths are no kept ones of these
abbrev pub not_kept_in : List (List ℕ) → List Fate → List Counted → List Counted
not_kept_in paths fates rows = filter (λ row. not (is_kept_in paths fates row.path)) rows

-- paths pass no limit
abbrev pub FitLimits : List (List ℕ) → Type 0
FitLimits paths = (length paths ≤ max_paths) × (sum_by length paths ≤ max_numbers)

-- ---- links

-- a link into the path of the one number names it by the other
abbrev pub renumbered : ℕ → ℕ → Link → Link
renumbered from to link = if link.path == from then record { path = to; at = link.at } else link

-- a link into a row of a return names a given, and one into the path of this number the path itself
abbrev pub link_named : Naming → ℕ → Link → Link
link_named naming from link = renumbered from naming.own (given_link naming.rows naming.numbers link)

abbrev pub walk_named : Naming → ℕ → Walk → Walk
walk_named naming from walk = record { ases = walk.ases; links = map (link_named naming from) walk.links }

abbrev pub fate_named : Naming → ℕ → Fate → Fate
fate_named naming from Fate.Kept = Fate.Kept
fate_named naming from (Fate.Lost walk) = Fate.Lost (walk_named naming from walk)

-- ---- fates

-- the fate says what offering the path at this place behind the kept ones and taking it back comes to, its links so named
abbrev pub IsTriedFate : List (List ℕ) → List ℕ → Naming → ℕ → Fate → Type 0
IsTriedFate graph kept naming place fate =
    (choice : Choice) × (choice.formula.paths ≡ kept) ×
    ((tried : Fate) × IsTried graph place choice tried × (fate ≡ fate_named naming (place + 1) tried))

-- one for each path that was met, in order
abbrev pub AreTriedFates : List (List ℕ) → List ℕ → Naming → List Sighting → List Fate → Type 0
AreTriedFates graph kept naming met fates = AllZip (λ path fate. IsTriedFate graph kept naming path.place fate) met fates
