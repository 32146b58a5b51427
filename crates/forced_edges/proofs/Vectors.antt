-- What marks say of the edges of three paths, worked by hand.
use Rattle.std.proofs.Common.{◌≡◌, ℕ, Bool, true, false, List, [], ◌∷◌, refl}
use Rattle.relationships.specs.declared.label.Label.{Label}
use Rattle.relationships.specs.Graph.{edges}
use Rattle.relationships.specs.Checking.{Claim}
use Rattle.relationships.specs.declared.mark.Mark.{Mark}
use Rattle.relationships.specs.declared.mark.Probe.{Probe}
use Rattle.relationships.specs.Marking.{claims_of, orders_of}

abbrev three : List (List ℕ)
three = (30 ∷ 40 ∷ 20 ∷ 10 ∷ 50 ∷ 60 ∷ []) ∷ (10 ∷ 20 ∷ 30 ∷ 40 ∷ []) ∷ (50 ∷ 60 ∷ 10 ∷ 20 ∷ []) ∷ []

abbrev labels : List Label
labels = Label.High ∷ Label.Peer ∷ Label.High ∷ Label.Low ∷ Label.Low ∷ Label.High ∷ Label.Low ∷ []

abbrev marks : List Mark
marks = Mark.Open ∷ Mark.Open ∷ Mark.Forced ∷ Mark.Forced ∷ Mark.Forced ∷ Mark.Open ∷ Mark.Open ∷ []

abbrev claim : ℕ → ℕ → Label → Bool → Claim
claim low high label forced = record { low = low; high = high; label = label; forced = forced }

their_claims : claims_of (edges three) labels marks ≡
    claim 30 40 Label.High false ∷ claim 20 40 Label.Peer false ∷ claim 10 20 Label.High true ∷ claim 10 50 Label.Low true ∷
    claim 50 60 Label.Low true ∷ claim 20 30 Label.High false ∷ claim 10 60 Label.Low false ∷ []
their_claims = refl

-- as far as there are marks
two_claims : claims_of (edges three) labels (Mark.Open ∷ Mark.Open ∷ []) ≡ claim 30 40 Label.High false ∷ claim 20 40 Label.Peer false ∷ []
two_claims = refl

abbrev probe : ℕ → ℕ → Probe
probe over under = record { over = over; under = under }

their_orders : orders_of (probe 20 30 ∷ probe 60 10 ∷ []) ≡ (20, 30) ∷ (60, 10) ∷ []
their_orders = refl
