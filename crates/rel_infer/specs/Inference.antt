-- What is inferred from distinct paths, as one value.
use Rattle.std.specs.Prelude.{◌≡◌, ℕ, List, length, map}
use Rattle.relationships.specs.declared.given.Given.{Given}
use Rattle.relationships.specs.Fates.{walk_of}
use Rattle.relationships.specs.Marking.{orders_of}
use Rattle.rel_infer.specs.declared.inferring.Inferred.{Inferred}
use Rattle.rel_infer.specs.GivenInference.{IsInferredWith, PeerEitherWayWith, LeaveNoneOutWith}

pub record AreInferredWith (givens : List Given) (ratio : ℕ) (paths : List (List ℕ)) (i : Inferred) : Type 0 where
  pub many : length i.fates ≡ length paths
  pub inferred : IsInferredWith givens ratio paths (map walk_of i.fates) i.found.edges i.found.whys (orders_of i.found.probes)
  pub either_way : PeerEitherWayWith givens paths (map walk_of i.fates) i.found.edges
  pub none_left_out : LeaveNoneOutWith givens ratio paths (map walk_of i.fates) i.found.edges
