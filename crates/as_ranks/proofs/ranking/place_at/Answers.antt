use Rattle.std.proofs.Common.{arith}
use Rattle.as_ranks.specs.declared.rank.Rank.{Rank}
use Rattle.as_ranks.proofs.PlaceLemmas.{place-else}
use Rattle.as_ranks.proofs.ranking.place_at.Goals as goal
use Rattle.as_ranks.proofs.ranking.place_at.Goals.{else-place-gt0-via-then-place-gt0+else-ranks-place, else-place-gt0-via-else-place-gt0}

abbrev none : Rank
none = record { place = 0; number = 0; cone = 0; providers = 0; peers = 0; customers = 0 }

pub returns-else-place-gt0 : goal.returns-else-place-gt0
returns-else-place-gt0 c = λ old s up placed at.
    place-else old c.args.ranks.now c.args.place none s up placed at c.requires.place
    (λ some. elim c.else-place-gt0.branch [
      | else-place-gt0-via-then-place-gt0+else-ranks-place w ↦ w.if-ranks-place.false
      | else-place-gt0-via-else-place-gt0 w ↦ (let first = w.if-place-gt0.false in absurd (omega (arith, some, first)))
    ])
