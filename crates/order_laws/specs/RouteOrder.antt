-- What routes give in whatever order they come, and however they are cut into records and dumps.
use Rattle.std.specs.Prelude.{◌≡◌, ◌↔◌, ◌-◌, ◌^◌, ◌++◌, ℕ, min, List, Err}
use Rattle.std.specs.List.Sorted.{IsPermutation}
use Rattle.path_clean.specs.declared.cleaned.Sets.{Sets}
use Rattle.path_clean.specs.declared.cleaned.Cause.{Cause}
use Rattle.path_clean.specs.Counts.{cause_count}
use Rattle.path_table.specs.Table.{counted}
use Rattle.path_order.specs.declared.choice.Order.TheVariants.{Short}
use Rattle.path_order.specs.Orders.{ordered}
use Rattle.path_order.specs.Laws.{StandAsOften}
use Rattle.dump_read.specs.declared.error.LimitKind.{LimitKind}
use Rattle.dump_read.specs.Routes.{Route}
use Rattle.dump_read.specs.declared.wanted.Wanted.{Wanted}
use Rattle.dump_read.specs.Laws.{cleaned_paths, set_aside, routes_in_files, IsTakenOf, IsEmpty, Fit}
use Rattle.dump_read.specs.declared.taking.Taken.{Taken}
use Rattle.dump_read.specs.Taking.{take_routes, Takes}

-- these routes and those are cleaned to the same paths, each as often, and as many of them are set aside for each cause
pub record GiveSame (sets : Sets) (routes others : List Route) : Type 0 where
  pub paths : StandAsOften (cleaned_paths sets routes) (cleaned_paths sets others)
  pub asides : (cause : Cause) → set_aside sets cause routes ≡ set_aside sets cause others

-- the same of all routes of dumps that count
abbrev pub DumpsGiveSame : Wanted → (dumps others : List (List ℕ)) → Type 0
DumpsGiveSame wanted dumps others = GiveSame wanted.sets (routes_in_files wanted dumps) (routes_in_files wanted others)

-- what these routes give is taken in, as if they had come in some order
pub record IsTakenInAnyOrder (sets : Sets) (routes : List Route) (taken : Taken) : Type 0 where
  pub rows : IsPermutation taken.table.rows (counted (cleaned_paths sets routes))
  pub asides : (cause : Cause) → cause_count cause taken.counts ≡ min (set_aside sets cause routes) (2 ^ 64 - 1)

-- the same paths with their times, which are one list in the order `Short`, and the same counts
pub record AreSameInShort (taken other : Taken) : Type 0 where
  pub rows : IsPermutation taken.table.rows other.table.rows
  pub order : ordered Short taken.table.rows ≡ ordered Short other.table.rows
  pub counts : taken.counts ≡ other.counts

-- routes in another order do, and so do dumps
pub record MovedRoutesLaw : Type 0 where
  pub routes : (sets : Sets) (routes others : List Route) → IsPermutation routes others → GiveSame sets routes others
  pub dumps : (wanted : Wanted) (dumps others : List (List ℕ)) → IsPermutation dumps others → DumpsGiveSame wanted dumps others

-- what is taken in from nothing on; behind paths that stand in any order; and of routes that give the same
pub record OneOrderOfRoutesLaw : Type 0 where
  pub of_routes : (sets : Sets) (routes : List Route) (taken : Taken) → IsTakenOf sets routes taken → IsTakenInAnyOrder sets routes taken
  pub further : (sets : Sets) (before routes : List Route) (old new : Taken) →
      IsTakenInAnyOrder sets before old → Takes sets old routes new → IsTakenInAnyOrder sets (before ++ routes) new
  pub same : (sets : Sets) (routes others : List Route) (taken other : Taken) → GiveSame sets routes others →
      IsTakenInAnyOrder sets routes taken → IsTakenInAnyOrder sets others other → AreSameInShort taken other

-- whether all can be taken in under a limit
abbrev pub FitTogetherLaw : Type 0
FitTogetherLaw = (sets : Sets) (limit : ℕ) (routes others : List Route) → GiveSame sets routes others →
    Fit limit (cleaned_paths sets routes) ↔ Fit limit (cleaned_paths sets others)

-- where one taking meets a limit, so does the other
abbrev pub TakenTogetherLaw : Type 0
TakenTogetherLaw = (sets : Sets) (routes others : List Route) (old old' : Taken) (kind : LimitKind) → GiveSame sets routes others →
    IsEmpty old → IsEmpty old' → old'.table.limit ≡ old.table.limit → take_routes sets old routes ≡ Err kind →
    (other : LimitKind) × (take_routes sets old' others ≡ Err other)
