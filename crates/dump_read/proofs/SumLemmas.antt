-- What files hold together is what all of them hold.
use Rattle.std.proofs.Common.{◌≡◌, ℕ, ◌+◌, List, [], ◌∷◌, ◌++◌, map, length, sum_by, refl, sym, ap, subst, ◌∙◌, arith}
use Rattle.std.proofs.Common.{append_assoc, append-nil}
use Rattle.std.proofs.lemmas.List.Sums.{sum_by-cons, sum_by-append}
use Rattle.record_counts.specs.Counting.{capped}
use Rattle.mrt_frame.specs.Counted.{AreCountsOf}
use Rattle.mrt_frame.specs.Records.{Record, cut}
use Rattle.mrt_frame.specs.Counting.{with_records}
use Rattle.mrt_frame.proofs.CountedLemmas.{counts_of, file_counts_law, counts_together_law}
use Rattle.dump_read.specs.Files.{FileCounts, file_counts, peers_listed, no_file_counts, with_counts, with_all}
use Rattle.dump_read.specs.FileLaws.{records_of_all, routes_of_all, TogetherLaw}
use Rattle.dump_read.specs.Wanted.{Wanted, file_routes}

-- these are the counts of so many records and routes
record Hold (records : List Record) (routes : ℕ) (counts : FileCounts) : Type 0 where
  types : AreCountsOf records counts.records
  listed : counts.peers ≡ capped (sum_by peers_listed records)
  read : counts.routes ≡ capped routes

abbrev its_records : List ℕ → List Record
its_records octets = (cut octets).records

abbrev its_routes : Wanted → List ℕ → ℕ
its_routes wanted octets = length (file_routes wanted octets)

-- with one file more
with_one_more : (wanted : Wanted) (octets : List ℕ) (records : List Record) (routes : ℕ) (all : FileCounts) → Hold records routes all
    → Hold (records ++ its_records octets) (routes + its_routes wanted octets) (with_counts all (file_counts wanted octets))
with_one_more wanted octets records routes all h = record {
  types = counts_together_law records (its_records octets) all.records (file_counts wanted octets).records h.types (file_counts_law octets);
  listed =
      let before = h.listed in
      let peers = sum_by-append peers_listed records (its_records octets) in
      omega (arith, before, peers);
  read = let before = h.read in omega (arith, before);
}

-- with all files of a list
with_others : (wanted : Wanted) (files : List (List ℕ)) (records : List Record) (routes : ℕ) (all : FileCounts) → Hold records routes all
    → Hold (records ++ records_of_all files) (routes + routes_of_all wanted files) (with_all all (map (file_counts wanted) files))
unfolding with_all
with_others wanted [] records routes all h = record {
  types = subst (λ l. AreCountsOf l all.records) (sym (append-nil records)) h.types;
  listed = h.listed ∙ ap (λ l. capped (sum_by peers_listed l)) (sym (append-nil records));
  read = let before = h.read in omega (arith, before);
}
with_others wanted (octets ∷ files) records routes all h =
    let next = with_counts all (file_counts wanted octets) in
    let here = with_one_more wanted octets records routes all h in
    let later = with_others wanted files (records ++ its_records octets) (routes + its_routes wanted octets) next here in
    let in_order : (records ++ its_records octets) ++ records_of_all files ≡ records ++ records_of_all (octets ∷ files) =
    append_assoc records (its_records octets) (records_of_all files) in
    let more : routes_of_all wanted (octets ∷ files) ≡ its_routes wanted octets + routes_of_all wanted files = sum_by-cons (its_routes wanted) octets files in
    record {
      types = subst (λ l. AreCountsOf l (with_all next (map (file_counts wanted) files)).records) in_order later.types;
      listed = later.listed ∙ ap (λ l. capped (sum_by peers_listed l)) in_order;
      read = let so_far = later.read in omega (arith, so_far, more);
    }

none_counted : AreCountsOf [] []
unfolding with_records
none_counted = counts_of []

nothing : Hold [] 0 no_file_counts
nothing = record { types = none_counted; listed = refl; read = refl }

pub together_law : TogetherLaw
together_law wanted files =
    let all = with_others wanted files [] 0 no_file_counts nothing in
    let routes : 0 + routes_of_all wanted files ≡ routes_of_all wanted files = omega arith in
    record { types = all.types; listed = all.listed; read = all.read ∙ ap capped routes }
