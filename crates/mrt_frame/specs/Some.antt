-- What was read of a file, also where nothing is known of its octets.
use Rattle.std.specs.Prelude.{◌≡◌, ℕ, List, ◌++◌, length, Option, Some}
use Rattle.std.specs.Io.KnownBytes.{prepend_known}
use Rattle.record_counts.specs.Counting.{Counts}
use Rattle.mrt_frame.specs.declared.header.At.{At}
use Rattle.mrt_header.specs.declared.header.Header.{Header}
use Rattle.mrt_frame.specs.Counting.{CountsOn, CountsAll}
use Rattle.mrt_frame.specs.Frames.{FindsNext, StopsWith}
use Rattle.mrt_frame.specs.Part.{TakesHeader}
use Rattle.mrt_frame.specs.Records.{Record, Well, place_behind}

-- some octets were read, of which this holds, and what is behind them is left
abbrev pub HasRead : (before left : Option (List ℕ)) → (List ℕ → Type 0) → Type 0
HasRead before left P = (octets : List ℕ) × (before ≡ prepend_known octets left) × P octets

-- some octets were read, so many
abbrev pub HasReadSo : ℕ → (before left : Option (List ℕ)) → Type 0
HasReadSo n before left = HasRead before left (λ octets. length octets ≡ n)

-- whatever stands behind these octets, this is the header that they are
abbrev pub AreHeader : At → Header → List ℕ → Type 0
AreHeader at header octets = (rest : List ℕ) → TakesHeader at (octets ++ rest) header (Some rest)

-- whatever stands behind these octets, from this place on this is the first record of them that is read, and they are counted
abbrev pub GiveRecord : At → Counts → Record → Counts → List ℕ → Type 0
GiveRecord at first r second octets =
    (rest : List ℕ) → FindsNext at (octets ++ rest) r (Some rest) × CountsOn (Some (octets ++ rest)) at first (Some rest) (place_behind r)
    second

-- from this place on these octets have no record that is read, and end well, and they are counted
abbrev pub GiveEnd : At → Counts → Counts → List ℕ → Type 0
GiveEnd at first second octets = StopsWith at octets Well × CountsAll (Some octets) at first second
