-- What a file holds is counted record by record.
use Rattle.std.proofs.Common.{◌≡◌, false, ℕ, ◌+◌, ◌≤◌, ◌^◌, ◌-◌, List, [], ◌∷◌, ◌++◌, length, Option, Some, None, IfSome, Result, Ok, Err, refl, sym, ap, ap₂, subst, ◌∙◌, arith}
use Rattle.std.specs.Prelude.{sum_by, is_some, OnErr}
use Rattle.dump_read.specs.Wanted.{Wanted, counts as it_counts, which_count, file_routes}
use Rattle.rib_bodies.specs.declared.peers.Peer.{Peer}
use Rattle.dump_read.specs.Seen.{of_octets}
use Rattle.dump_read.specs.Taking.{Taken}
use Rattle.std.proofs.lemmas.List.{length-append}
use Rattle.std.proofs.lemmas.List.Elements.{filter-append}
use Rattle.std.proofs.lemmas.List.Sums.{sum_by-cons}
use Rattle.record_counts.specs.Counting.{Counts, capped}
use Rattle.mrt_frame.specs.declared.header.At.{At}
use Rattle.mrt_header.specs.declared.record_kind.RecordKind.{RecordKind}
use Rattle.mrt_frame.specs.Counting.{with_records, records_in, CountsOn, CountsAll}
use Rattle.mrt_header.specs.Kinds.{kind_of}
use Rattle.mrt_frame.specs.Records.{Record, Cut, Well, place_behind, onto, cut, cut_from, start}
use Rattle.mrt_frame.specs.Frames.{Passes, FindsNext, StopsWith}
use Rattle.mrt_frame.proofs.Cuts.{any_fuel, cut_onto, cut_ends}
use Rattle.mrt_frame.proofs.Passing.{NoneIsRead, with_before, passes_over}
use Rattle.dump_read.specs.Files.{FileCounts, file_counts, with_file, listed_in, peers_listed, many, with_one}
use Rattle.dump_read.specs.Routes.{Route, routes_of, peers_behind}
use Rattle.dump_read.specs.Reading.{Reading, file_end, routes_onto as reading_onto, reading_from}
use Rattle.dump_read.proofs.Goings.{at_end, skipped, through}

-- ---- sums that stop

capped_again : (a b c : ℕ) → capped (capped (a + b) + c) ≡ capped (a + (b + c))
capped_again a b c = omega arith

capped_twice : (n : ℕ) → n ≤ 2 ^ 64 - 1 → capped (n + 0) ≡ n
capped_twice n le = omega (arith, le)

below_cap : (n : ℕ) → capped n ≤ 2 ^ 64 - 1
below_cap n = omega arith

-- ---- records that are passed over hold nothing

nothing_listed : (kind : Option RecordKind) (body : List ℕ) → is_some kind ≡ false → listed_in kind body ≡ 0
nothing_listed None body unread = refl
nothing_listed (Some kind) body unread = absurd cc

none_listed : (records : List Record) (more : List Record) → NoneIsRead records → sum_by peers_listed (records ++ more) ≡ sum_by peers_listed more
none_listed [] more none = refl
none_listed (r ∷ records) more none =
    sum_by-cons peers_listed r (records ++ more)
    ∙ ap₂ (λ (a b : ℕ). a + b) (nothing_listed (kind_of r.kind r.subtype) r.body none.0) (none_listed records more none.1)
    ∙ omega arith

all_skipped : (peers : Option (List Peer)) (records : List Record) (c : Cut) → NoneIsRead records → reading_from peers (with_before records c) ≡ reading_from peers c
all_skipped peers [] c none = refl
all_skipped peers (r ∷ records) c none = skipped peers r (with_before records c) none.0 ∙ all_skipped peers records c none.1

-- from a place on records stand that are passed over, and then what stands there
record PassedTo (at : At) (octets : List ℕ) (place : At) (reached : List ℕ) : Type 0 where
  records : List Record
  none : NoneIsRead records
  same : cut_from at octets ≡ with_before records (cut_from place reached)

passed_to : (at : At) (octets : List ℕ) (place : At) (reached : List ℕ) → Passes at octets place reached → PassedTo at octets place reached
passed_to at octets place reached passes =
    let on = passes_over (length octets) at octets place reached passes (omega arith) in
    record {
      records = on.records;
      none = on.none;
      same = on.same ∙ ap (with_before on.records) (any_fuel on.fuel_left place reached on.enough);
    }

-- ---- the counts so far

-- where the octets of the file are known: what was counted so far comes with what is left to what the file holds
pub record CountsSoFar (wanted : Wanted) (octets : List ℕ) (left : Option (List ℕ)) (at : At) (peers : Option (List Peer)) (file : FileCounts) : Type 0 where
  pub rest : List ℕ
  pub is_left : left ≡ Some rest
  pub records : with_records (cut_from at rest).records file.records ≡ records_in octets
  pub listed : capped (file.peers + sum_by peers_listed (cut_from at rest).records) ≡ capped (sum_by peers_listed (cut octets).records)
  pub routes : capped (file.routes + length (which_count wanted (reading_from peers (cut_from at rest)).routes)) ≡ capped (length (file_routes wanted octets))
  pub few_peers : file.peers ≤ 2 ^ 64 - 1
  pub few_routes : file.routes ≤ 2 ^ 64 - 1

abbrev pub CountsOf : Wanted → Option (List ℕ) → Option (List ℕ) → At → Option (List Peer) → FileCounts → Type 0
CountsOf wanted None left at peers file = Unit {0}
CountsOf wanted (Some octets) left at peers file = CountsSoFar wanted octets left at peers file

pub nothing_counted : (wanted : Wanted) (left : Option (List ℕ)) → CountsOf wanted left left start None (record { records = []; peers = 0; routes = 0 })
nothing_counted wanted None = tt
nothing_counted wanted (Some octets) = record {
  rest = octets;
  is_left = refl;
  records = refl;
  listed = ap capped (zero_before (sum_by peers_listed (cut octets).records));
  routes = ap capped (zero_before (length (file_routes wanted octets)));
  few_peers = omega arith;
  few_routes = omega arith;
}
  where
    zero_before : (n : ℕ) → 0 + n ≡ n
    zero_before n = omega arith

-- the counts with those of the records in place of theirs
abbrev pub recounted : FileCounts → Counts → FileCounts
recounted file counts = record file { records = counts }

-- one record that is read, and those that were passed over before it
pub counted_one : (wanted : Wanted) (left₀ left left' : Option (List ℕ)) (at : At) (peers peers' : Option (List Peer)) (r : Record) (file new : FileCounts) (counts : Counts) (routes : List Route)
    → CountsOf wanted left₀ left at peers file → IfSome left (λ octets. FindsNext at octets r left') → CountsOn left at file.records left' (place_behind r) counts
    → routes_of peers r ≡ Ok routes → peers' ≡ peers_behind peers r → new ≡ with_one wanted peers r (recounted file counts) → CountsOf wanted left₀ left' (place_behind r) peers' new
counted_one wanted None left left' at peers peers' r file new counts routes so_far finds on read after is = tt
counted_one wanted (Some octets) left left' at peers peers' r file new counts routes so_far finds on read after is =
    let f : FindsNext at so_far.rest r left' = subst (λ o. IfSome o (λ b. FindsNext at b r left')) so_far.is_left finds in
    let p = passed_to at so_far.rest r.at f.reached f.passes in
    let more = cut_from (place_behind r) f.rest in
    let whole : cut_from at so_far.rest ≡ with_before p.records (onto r more) = p.same ∙ ap (with_before p.records) (cut_onto r.at f.reached r f.rest f.stands) in
    let sum : sum_by peers_listed (cut_from at so_far.rest).records ≡ peers_listed r + sum_by peers_listed more.records =
    ap (λ c. sum_by peers_listed c.records) whole ∙ none_listed p.records (r ∷ more.records) p.none ∙ sum_by-cons peers_listed r more.records in
    let further = reading_from (peers_behind peers r) more in
    let reading : reading_from peers (cut_from at so_far.rest) ≡ record { routes = routes ++ further.routes; end = further.end } =
    ap (reading_from peers) whole ∙ all_skipped peers p.records (onto r more) p.none ∙ through peers r more ∙ ap (λ x. reading_onto r.at x further) read in
    let gained : many wanted (routes_of peers r) ≡ length (which_count wanted routes) = ap (many wanted) read in
    let on_left : CountsOn (Some so_far.rest) at file.records (Some f.rest) (place_behind r) counts =
    subst (λ o. CountsOn (Some so_far.rest) at file.records o (place_behind r) counts) f.leaves (subst (λ o. CountsOn o at file.records left' (place_behind r) counts) so_far.is_left on) in
    subst (λ (x : FileCounts). CountsSoFar wanted octets left' (place_behind r) peers' x) (sym is) (record {
      rest = f.rest;
      is_left = f.leaves;
      records = on_left ∙ so_far.records;
      listed = capped_again file.peers (peers_listed r) (sum_by peers_listed more.records) ∙ ap (λ n. capped (file.peers + n)) (sym sum) ∙ so_far.listed;
      routes = ap (λ (q : Option (List Peer)). capped (capped (file.routes + many wanted (routes_of peers r)) + length (which_count wanted (reading_from q more).routes))) after
          ∙ capped_again file.routes (many wanted (routes_of peers r)) (length (which_count wanted further.routes))
          ∙ ap (λ n. capped (file.routes + (n + length (which_count wanted further.routes)))) gained
          ∙ ap (λ n. capped (file.routes + n)) (sym (length-append (which_count wanted routes) (which_count wanted further.routes)))
          ∙ ap (λ (t : List Route). capped (file.routes + length t)) (sym (filter-append (it_counts wanted) routes further.routes))
          ∙ ap (λ (x : Reading). capped (file.routes + length (which_count wanted x.routes))) (sym reading) ∙ so_far.routes;
      few_peers = below_cap (file.peers + peers_listed r);
      few_routes = below_cap (file.routes + many wanted (routes_of peers r));
    })

-- at the end of the file it is all that it holds
pub all_counted : (wanted : Wanted) (left₀ left : Option (List ℕ)) (at : At) (peers : Option (List Peer)) (file : FileCounts) (counts : Counts) → CountsOf wanted left₀ left at peers file
    → IfSome left (λ octets. StopsWith at octets Well) → CountsAll left at file.records counts → IfSome left₀ (λ octets. recounted file counts ≡ file_counts wanted octets)
all_counted wanted None left at peers file counts so_far stops all = tt
all_counted wanted (Some octets) left at peers file counts so_far stops all =
    let s : StopsWith at so_far.rest Well = subst (λ o. IfSome o (λ b. StopsWith at b Well)) so_far.is_left stops in
    let p = passed_to at so_far.rest s.place s.reached s.passes in
    let none : Cut = record { records = []; end = Well } in
    let whole : cut_from at so_far.rest ≡ with_before p.records none = p.same ∙ ap (with_before p.records) (cut_ends s.place s.reached Well s.stands) in
    let sum : sum_by peers_listed (cut_from at so_far.rest).records ≡ 0 = ap (λ c. sum_by peers_listed c.records) whole ∙ none_listed p.records [] p.none in
    let reading : reading_from peers (cut_from at so_far.rest) ≡ record { routes = []; end = file_end Well } =
    ap (reading_from peers) whole ∙ all_skipped peers p.records none p.none ∙ at_end peers Well in
    let counted : counts ≡ with_records (cut_from at so_far.rest).records file.records = subst (λ o. CountsAll o at file.records counts) so_far.is_left all in
    let listed : file.peers ≡ capped (sum_by peers_listed (cut octets).records) =
    sym (capped_twice file.peers so_far.few_peers) ∙ ap (λ n. capped (file.peers + n)) (sym sum) ∙ so_far.listed in
    let routes : file.routes ≡ capped (length (file_routes wanted octets)) =
    sym (capped_twice file.routes so_far.few_routes) ∙ ap (λ (x : Reading). capped (file.routes + length (which_count wanted x.routes))) (sym reading) ∙ so_far.routes in
    λ i. record { records = (counted ∙ so_far.records) i; peers = listed i; routes = routes i }

-- what was kept at the end of the file
pub read_to_end : (wanted : Wanted) (d : ℕ) (left₀ : Option (List ℕ)) (old mid new : Taken) (file : FileCounts) → new ≡ record mid { files = mid.files ++ file ∷ [] }
    → IfSome left₀ (λ octets. of_octets wanted d old octets ≡ Ok (with_file wanted octets mid)) → IfSome left₀ (λ octets. file ≡ file_counts wanted octets)
    → IfSome left₀ (λ octets. of_octets wanted d old octets ≡ Ok new)
read_to_end wanted d None old mid new file kept read held = tt
read_to_end wanted d (Some octets) old mid new file kept read held =
    read ∙ ap (λ (f : FileCounts). Ok (record mid { files = mid.files ++ f ∷ [] })) (sym held) ∙ ap (λ (t : Taken). Ok t) (sym kept)

-- what follows where a result is an error
pub on_err : {T E : Type 0} (result : Result T E) {P Q : Type 0} → OnErr result P → (P → Q) → OnErr result Q
on_err (Ok x) p f = tt
on_err (Err e) p f = f p
