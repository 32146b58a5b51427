-- What files hold together: the law of their counts.
use Rattle.std.specs.Prelude.{◌≡◌, ℕ, List, map, flat_map, length, sum_by}
use Rattle.record_counts.specs.Counting.{capped}
use Rattle.mrt_frame.specs.Counted.{AreCountsOf}
use Rattle.mrt_frame.specs.Records.{Record, cut}
use Rattle.dump_read.specs.Files.{FileCounts, file_counts, peers_listed, together}
use Rattle.dump_read.specs.Wanted.{Wanted, file_routes}

-- the records of these files, in order
abbrev pub records_of_all : List (List ℕ) → List Record
records_of_all files = flat_map (λ octets. (cut octets).records) files

-- how many routes of these files count
abbrev pub routes_of_all : Wanted → List (List ℕ) → ℕ
routes_of_all wanted files = sum_by (λ octets. length (file_routes wanted octets)) files

-- the records of all these files are counted by type, and their peer entries and the routes that count, up to 2 ^ 64 - 1
pub record HoldTogether (wanted : Wanted) (files : List (List ℕ)) (counts : FileCounts) : Type 0 where
  pub types : AreCountsOf (records_of_all files) counts.records
  pub listed : counts.peers ≡ capped (sum_by peers_listed (records_of_all files))
  pub read : counts.routes ≡ capped (routes_of_all wanted files)

-- what files hold together is what all of them hold
abbrev pub TogetherLaw : Type 0
TogetherLaw = (wanted : Wanted) (files : List (List ℕ)) → HoldTogether wanted files (together (map (file_counts wanted) files))
