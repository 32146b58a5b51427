-- Worked texts, by computation.
use Rattle.std.proofs.Common.{◌≡◌, ◌∷◌, [], codes, refl}
use Rattle.std.specs.Fmt.{digits}
use Rattle.relationships.specs.declared.mark.Mark.TheVariants as mark
use Rattle.neighbour_text.specs.NeighbourText.{neighbourhood_text}

-- a provider, two peers and a customer that stands on lost paths alone
four : neighbourhood_text (record {
  providers = record { number = 30; mark = mark.Forced; support = 12 } ∷ [];
  peers = record { number = 7; mark = mark.Open; support = 3 } ∷ record { number = 9; mark = mark.Open; support = 3 } ∷ [];
  customers = record { number = 4; mark = mark.Forced; support = 0 } ∷ [];
})
    ≡ codes "provider|30|forced|12\npeer|7|open|3\npeer|9|open|3\ncustomer|4|forced|0\nneighbours|1|2|1\n"
unfolding digits
four = refl

none : neighbourhood_text (record { providers = []; peers = []; customers = [] }) ≡ codes "neighbours|0|0|0\n"
unfolding digits
none = refl
