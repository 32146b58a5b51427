-- How far the last of some dumps was read, where all were read to their ends.
use Rattle.std.proofs.Common.{◌≡◌, ◌≤◌, ◌<◌, ◌+◌, ◌-◌, ◌↔◌, ◌++◌, ◌∷◌, [], ℕ, zero, suc, List, length, get_or, Option, None, Some, Result, Ok, Err, refl, sym, ap, ◌∙◌, arith, append-nil}
use Rattle.std.specs.Prelude.{IfSome, IsSome, IsSomeAnd}
use Rattle.std.specs.Io.KnownBytes.{IsAtEnd}
use Rattle.path_attrs.specs.Fields.{◌>>=◌}
use Rattle.path_attrs.specs.declared.fault.RibFault.{RibFault}
use Rattle.rib_bodies.specs.declared.peers.Peer.{Peer}
use Rattle.mrt_frame.specs.Limits.{max_file}
use Rattle.mrt_frame.specs.Reach.{ReadsUpTo, max_read}
use Rattle.mrt_frame.specs.Records.{Record, RecordsEnd, Well, HeadCut, TooManyBytes, Oversize, BodyCut, cut}
use Rattle.mrt_frame.proofs.Reaches.{reach_law}
use Rattle.mrt_frame.specs.declared.header.At.{At}
use Rattle.dump_read.specs.declared.error.LimitKind.{LimitKind}
use Rattle.dump_read.specs.declared.taking.Taken.{Taken}
use Rattle.dump_read.specs.Files.{with_file}
use Rattle.dump_read.specs.Reach.{ReadsBounded}
use Rattle.dump_read.specs.Reading.{FileEnd, Reading, Whole, Broken, TooLong, file_end, file_reading, reading_of, routes_onto}
use Rattle.dump_read.specs.Routes.{Route, peers_behind, routes_of}
use Rattle.dump_read.specs.Seen.{DumpsEnd, of_end, of_file, of_octets, of_taking}
use Rattle.dump_read.specs.Taking.{take_routes}
use Rattle.dump_read.specs.declared.wanted.Wanted.{Wanted}
use Rattle.dump_read.specs.Wanted.{file_routes}
use Rattle.tor_io.specs.Contents.{Files}
use Rattle.run_base.specs.Reading.{name_of_dump, seen_from}

-- ---- a dump that is read to its end has at most 2 ^ 40 octets

well : (end : RecordsEnd) → file_end end ≡ Whole → end ≡ Well
well Well is = refl
well (HeadCut at) is = absurd cc
well TooManyBytes is = absurd cc
well (Oversize at) is = absurd cc
well (BodyCut at) is = absurd cc

onto_end : (at : At) (routes : Result (List Route) RibFault) (rest : Reading) (end : RecordsEnd) → (rest.end ≡ Whole → end ≡ Well) → (routes_onto at routes rest).end ≡ Whole → end ≡ Well
onto_end at (Ok routes) rest end further is = further is
onto_end at (Err broken) rest end further is = absurd cc

whole_end : (peers : Option (List Peer)) (records : List Record) (end : RecordsEnd) → (reading_of peers records end).end ≡ Whole → end ≡ Well
unfolding reading_of
whole_end peers [] end is = well end is
whole_end peers (r ∷ records) end is =
    onto_end r.at (routes_of peers r) (reading_of (peers_behind peers r) records end) end (whole_end (peers_behind peers r) records end) is

taken_whole : (wanted : Wanted) (dump : ℕ) (octets : List ℕ) (taking : Result Taken LimitKind) (end : FileEnd) (new : Taken) →
    (of_taking dump taking >>= λ all. of_end dump end (with_file wanted octets all)) ≡ Ok new → end ≡ Whole
taken_whole wanted dump octets (Ok taken) Whole new is = refl
taken_whole wanted dump octets (Ok taken) (Broken at fault) new is = absurd cc
taken_whole wanted dump octets (Ok taken) TooLong new is = absurd cc
taken_whole wanted dump octets (Err kind) end new is = absurd cc

few_octets : (wanted : Wanted) (dump : ℕ) (old new : Taken) (octets : List ℕ) → of_octets wanted dump old octets ≡ Ok new → length octets ≤ max_file
few_octets wanted dump old new octets is =
    let whole = taken_whole wanted dump octets (take_routes wanted.sets old (file_routes wanted octets)) (file_reading octets).end new is in
    let end = whole_end None (cut octets).records (cut octets).end whole in
    let reach = reach_law octets in
    omega (arith, reach.0, reach.1 end)

-- ---- the last of dumps

few_there : (wanted : Wanted) (dump : ℕ) (old new : Taken) (file : Option (List ℕ)) → of_file wanted dump old file ≡ Ok new → IsSomeAnd file (λ octets. length octets ≤ max_file)
few_there wanted dump old new None is = absurd cc
few_there wanted dump old new (Some octets) is = few_octets wanted dump old new octets is

abbrev IsThere : Option (List ℕ) → Type 0
IsThere file = IsSomeAnd file (λ octets. length octets ≤ max_file)

-- the first of some dumps that are all read to their ends
first_there : (wanted : Wanted) (dump : ℕ) (old new : Taken) (file : Option (List ℕ)) (read : Result Taken DumpsEnd) (behind : Taken → Result Taken DumpsEnd) → of_file wanted dump old file ≡ read
    → (read >>= behind) ≡ Ok new → IsThere file
first_there wanted dump old new file (Ok further) behind same is = few_there wanted dump old further file same
first_there wanted dump old new file (Err end) behind same is = absurd cc

-- what holds of those behind it, once it is read
rest_there : {A : Type 0} (read : Result Taken DumpsEnd) (behind : Taken → Result Taken DumpsEnd) (new : Taken) → ((further : Taken) → behind further ≡ Ok new → A) → (read >>= behind) ≡ Ok new → A
rest_there (Ok further) behind new there is = there further is
rest_there (Err end) behind new there is = absurd cc

last_there : (wanted : Wanted) (dump : ℕ) (old new : Taken) (names : List (List ℕ)) (files : Files) (k : ℕ) → suc k ≡ length names → seen_from wanted dump old names files ≡ Ok new →
    IsThere (files (get_or names k []))
last_there wanted dump old new [] files k many is = absurd (omega (arith, many))
last_there wanted dump old new (name ∷ []) files zero many is =
    first_there wanted dump old new (files name) (of_file wanted dump old (files name)) (λ further. seen_from wanted (dump + 1) further [] files) refl is
last_there wanted dump old new (name ∷ []) files (suc k) many is = absurd (omega (arith, many))
last_there wanted dump old new (name ∷ (next ∷ names)) files zero many is = absurd (omega (arith, many))
last_there wanted dump old new (name ∷ (next ∷ names)) files (suc k) many is =
    rest_there (of_file wanted dump old (files name)) (λ further. seen_from wanted (dump + 1) further (next ∷ names) files) new
    (λ further more. last_there wanted (dump + 1) further new (next ∷ names) files k (omega (arith, many)) more) is

-- ---- it is read to its end

nothing_more : (octets : List ℕ) (left : Option (List ℕ)) → IsSome left → IsAtEnd left → length octets ≤ max_file → ReadsUpTo 0 max_read (Some octets) left
nothing_more octets None there end few = absurd cc
nothing_more octets (Some rest) there end few = (octets, omega (arith, few), ap (λ (more : List ℕ). Some more) (sym (ap (λ (more : List ℕ). octets ++ more) end ∙ append-nil octets)))

file_bounded : (file : Option (List ℕ)) (left : Option (List ℕ)) → IsSome left → IsAtEnd left → IsSomeAnd file (λ octets. length octets ≤ max_file) →
    IsSomeAnd file (λ octets. ReadsUpTo 0 max_read (Some octets) left)
file_bounded None left there end few = few
file_bounded (Some octets) left there end few = nothing_more octets left there end few

pub last_bounded : (known : Option Files) (left : Option (List ℕ)) (wanted : Wanted) (old new : Taken) (names : List (List ℕ)) → (IsSome known ↔ IsSome left) → IsAtEnd left → 0 < length names →
    IfSome known (λ files. seen_from wanted 1 old names files ≡ Ok new) → ReadsBounded (name_of_dump names (length names)) known left
last_bounded None left wanted old new names together end some read = tt
last_bounded (Some files) left wanted old new names together end some read =
    file_bounded (files (name_of_dump names (length names))) left (together.0 refl) end
    (last_there wanted 1 old new names files (length names - 1) (omega (arith, some)) read)
