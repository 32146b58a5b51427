-- The records of a file, whose routes are taken in one after the other.
use Rattle.std.proofs.Common.{◌≡◌, false, length-append, ℕ, zero, suc, ◌+◌, ◌≤◌, List, [], ◌∷◌, ◌++◌, length, take, Option, Some, None, IfSome, Result, Ok, Err, refl, sym, ap, ap₂, subst, ◌∙◌, arith}
use Rattle.std.proofs.Common.{append_assoc}
use Rattle.std.proofs.lemmas.List.{append-nil, take-append-le}
use Rattle.std.proofs.lemmas.List.Elements.{filter-append}
use Rattle.std.proofs.Math.Seq.{take-append-add}
use Rattle.mrt_frame.specs.declared.header.At.{At}
use Rattle.mrt_header.specs.Kinds.{kind_of, is_read}
use Rattle.mrt_header.specs.declared.record_kind.RecordKind.{RecordKind}
use Rattle.std.specs.Prelude.{is_some}
use Rattle.mrt_frame.specs.Records.{Record, Cut, RecordsEnd, Well, HeadCut, TooManyBytes, Oversize, BodyCut, Ends, Holds, place_behind, next_of, start, cut_within}
use Rattle.mrt_frame.specs.declared.error.FrameError.{FrameError}
use Rattle.mrt_frame.specs.declared.error.FrameError.TheVariants as frame
use Rattle.mrt_frame.specs.Frames.{PassesOver, FindsNext, StopsWith, end_of_error}
use Rattle.mrt_frame.proofs.Cuts.{shorter, unrolled, ends_with}
use Rattle.tor_io.specs.Contents.{Files}
use Rattle.path_attrs.specs.Fields.{◌>>=◌}
use Rattle.path_clean.specs.declared.cleaned.Sets.{Sets}
use Rattle.path_attrs.specs.declared.fault.RibFault.{RibFault}
use Rattle.dump_read.specs.declared.error.LimitKind.{LimitKind}
use Rattle.dump_read.specs.Routes.{Route, routes_in, routes_of, peers_after, peers_behind}
use Rattle.dump_read.specs.declared.error.Fault.TheVariants as fault
use Rattle.dump_read.specs.declared.records.Unread.{Unread}
use Rattle.dump_read.specs.declared.records.Unread.TheVariants as unread
use Rattle.dump_read.specs.declared.taking.Untaken.TheVariants as untaken
use Rattle.dump_read.specs.Wanted.{Wanted, counts, which_count, file_routes}
use Rattle.dump_read.specs.Files.{with_file}
use Rattle.rib_bodies.specs.declared.peers.Peer.{Peer}
use Rattle.dump_read.specs.Seen.{of_end, of_taking, of_octets, end_named}
use Rattle.dump_read.specs.Refusals.{TakesRead, TakesSomeRead, IsUnread, of_frame, of_unread}
use Rattle.dump_read.specs.Reading.{Reading, FileEnd, Broken, file_end, routes_onto, reading_of, reading_from, file_reading}
use Rattle.dump_read.specs.Taking.{Taken, take_route, take_routes, Takes, TakesSome}
use Rattle.dump_read.proofs.Takings.{take_routes-append, no_entry}

-- where the octets of the file are known: the routes that were taken in so far, and those of the records that are left
pub record Goes (wanted : Wanted) (octets : List ℕ) (left : Option (List ℕ)) (at : At) (peers : Option (List Peer)) (old new : Taken) : Type 0 where
  pub fuel : ℕ
  pub rest : List ℕ
  pub prefix : List Route
  pub is_left : left ≡ Some rest
  pub enough : length rest ≤ fuel
  pub so_far : Takes wanted.sets old prefix new
  pub routes : file_routes wanted octets ≡ prefix ++ which_count wanted (reading_from peers (cut_within fuel at rest)).routes
  pub end : (file_reading octets).end ≡ (reading_from peers (cut_within fuel at rest)).end

abbrev pub GoesOf : Wanted → Option (List ℕ) → Option (List ℕ) → At → Option (List Peer) → Taken → Taken → Type 0
GoesOf wanted None left at peers old new = Unit {0}
GoesOf wanted (Some octets) left at peers old new = Goes wanted octets left at peers old new

pub starts : (wanted : Wanted) (left : Option (List ℕ)) (old : Taken) → GoesOf wanted left left start None old old
starts wanted None old = tt
starts wanted (Some octets) old = record { fuel = length octets; rest = octets; prefix = []; is_left = refl; enough = omega arith; so_far = no_entry wanted.sets old; routes = refl; end = refl }

-- ---- records that aren't read give nothing

-- a reading from so many peers on, through one record
pub through : (peers : Option (List Peer)) (r : Record) (c : Cut) → reading_from peers (record { records = r ∷ c.records; end = c.end })
    ≡ routes_onto r.at (routes_of peers r) (reading_from (peers_behind peers r) c)
unfolding reading_of
through peers r c = refl

none_in : (kind : Option RecordKind) (peers : Option (List Peer)) (body : List ℕ) → is_some kind ≡ false → routes_in kind peers body ≡ Ok []
none_in None peers body unread = refl
none_in (Some kind) peers body unread = absurd cc

same_peers : (kind : Option RecordKind) (peers : Option (List Peer)) (body : List ℕ) → is_some kind ≡ false → peers_after kind peers body ≡ peers
same_peers None peers body unread = refl
same_peers (Some kind) peers body unread = absurd cc

-- a record that isn't read changes nothing of the reading
pub skipped : (peers : Option (List Peer)) (r : Record) (c : Cut) → is_read r.kind r.subtype ≡ false
    → reading_from peers (record { records = r ∷ c.records; end = c.end }) ≡ reading_from peers c
skipped peers r c unread =
    through peers r c
    ∙ ap (λ read. routes_onto r.at read (reading_from (peers_behind peers r) c)) (none_in (kind_of r.kind r.subtype) peers r.body unread)
    ∙ ap (λ p. reading_from p c) (same_peers (kind_of r.kind r.subtype) peers r.body unread)

-- where the records from a place on were passed over up to another, the reading is the same from there
record Passed (peers : Option (List Peer)) (whole : Reading) (place : At) (reached : List ℕ) : Type 0 where
  fuel : ℕ
  enough : length reached ≤ fuel
  same : whole ≡ reading_from peers (cut_within fuel place reached)

passes_over : (peers : Option (List Peer)) (records : List Record) (fuel : ℕ) (at : At) (octets : List ℕ) (place : At) (reached : List ℕ) → PassesOver records at octets place reached → length octets ≤ fuel
    → Passed peers (reading_from peers (cut_within fuel at octets)) place reached
passes_over peers [] fuel at octets place reached over le = record {
  fuel = fuel;
  enough = subst (λ (t : List ℕ). length t ≤ fuel) (sym over.1) le;
  same = ap₂ (λ a (t : List ℕ). reading_from peers (cut_within fuel a t)) (sym over.0) (sym over.1);
}
passes_over peers (r ∷ records) zero at octets place reached over le = absurd (omega (arith, shorter at octets r over.0 over.1))
passes_over peers (r ∷ records) (suc fuel) at octets place reached over le =
    let further = passes_over peers records fuel (place_behind r) over.0 place reached over.3 (omega (arith, shorter at octets r over.0 over.1)) in
    record {
      fuel = further.fuel;
      enough = further.enough;
      same = ap (reading_from peers) (unrolled fuel at octets r over.0 over.1) ∙ skipped peers r (cut_within fuel (place_behind r) over.0) over.2 ∙ further.same;
    }

-- ---- the next record

-- the reading goes on with this record, and behind it with what is left
record Found (peers : Option (List Peer)) (whole : Reading) (r : Record) (left : Option (List ℕ)) : Type 0 where
  fuel : ℕ
  rest : List ℕ
  is_left : left ≡ Some rest
  enough : length rest ≤ fuel
  same : whole ≡ routes_onto r.at (routes_of peers r) (reading_from (peers_behind peers r) (cut_within fuel (place_behind r) rest))

found_behind : (peers : Option (List Peer)) (whole : Reading) (fuel : ℕ) (reached : List ℕ) (r : Record) (rest : List ℕ) (left : Option (List ℕ)) → next_of r.at reached ≡ Holds r rest → left ≡ Some rest
    → length reached ≤ fuel → whole ≡ reading_from peers (cut_within fuel r.at reached) → Found peers whole r left
found_behind peers whole zero reached r rest left stands leaves le same = absurd (omega (arith, shorter r.at reached r rest stands))
found_behind peers whole (suc fuel) reached r rest left stands leaves le same = record {
  fuel = fuel;
  rest = rest;
  is_left = leaves;
  enough = omega (arith, shorter r.at reached r rest stands);
  same = same ∙ ap (reading_from peers) (unrolled fuel r.at reached r rest stands) ∙ through peers r (cut_within fuel (place_behind r) rest);
}

found : (peers : Option (List Peer)) (fuel : ℕ) (at : At) (octets : List ℕ) (r : Record) (left : Option (List ℕ)) → FindsNext at octets r left → length octets ≤ fuel
    → Found peers (reading_from peers (cut_within fuel at octets)) r left
found peers fuel at octets r left finds le =
    let passed = passes_over peers finds.passes.0 fuel at octets r.at finds.reached finds.passes.1 le in
    found_behind peers (reading_from peers (cut_within fuel at octets)) passed.fuel finds.reached r finds.rest left finds.stands finds.leaves passed.enough passed.same

pub goes_on : (wanted : Wanted) (left₀ left left' : Option (List ℕ)) (at : At) (peers peers' : Option (List Peer)) (r : Record) (old mid new : Taken) → GoesOf wanted left₀ left at peers old mid
    → IfSome left (λ octets. FindsNext at octets r left') → TakesRead wanted mid (routes_of peers r) new → peers' ≡ peers_behind peers r → GoesOf wanted left₀ left' (place_behind r) peers' old new
goes_on wanted None left left' at peers peers' r old mid new goes finds takes after = tt
goes_on wanted (Some octets) left left' at peers peers' r old mid new goes finds takes after =
    let finds' : FindsNext at goes.rest r left' = subst (λ o. IfSome o (λ b. FindsNext at b r left')) goes.is_left finds in
    let f = found peers goes.fuel at goes.rest r left' finds' goes.enough in
    let further = reading_from (peers_behind peers r) (cut_within f.fuel (place_behind r) f.rest) in
    let same : reading_from peers (cut_within goes.fuel at goes.rest) ≡ record { routes = takes.0 ++ further.routes; end = further.end } =
    f.same ∙ ap (λ read. routes_onto r.at read further) takes.1 in
    record {
      fuel = f.fuel;
      rest = f.rest;
      prefix = goes.prefix ++ which_count wanted takes.0;
      is_left = f.is_left;
      enough = f.enough;
      so_far = take_routes-append wanted.sets old mid goes.prefix (which_count wanted takes.0) goes.so_far ∙ takes.2;
      routes = goes.routes ∙ ap (λ reading. goes.prefix ++ which_count wanted reading.routes) same
          ∙ ap (λ (t : List Route). goes.prefix ++ t) (filter-append (counts wanted) takes.0 further.routes)
          ∙ sym (append_assoc goes.prefix (which_count wanted takes.0) (which_count wanted further.routes))
          ∙ ap (λ p. (goes.prefix ++ which_count wanted takes.0) ++ which_count wanted (reading_from p (cut_within f.fuel (place_behind r) f.rest)).routes) (sym after);
      end = goes.end ∙ ap (λ reading. reading.end) same ∙ ap (λ p. (reading_from p (cut_within f.fuel (place_behind r) f.rest)).end) (sym after);
    }

-- ---- the end

ended : (fuel : ℕ) (place : At) (reached : List ℕ) (end : RecordsEnd) → length reached ≤ fuel → next_of place reached ≡ Ends end → cut_within fuel place reached ≡ record { records = []; end = end }
unfolding cut_within
ended zero place [] end le stands = ap (λ e. record { records = []; end = e }) (well end stands)
  where
    well : (e : RecordsEnd) → Ends Well ≡ Ends e → Well ≡ e
    well e is = cc
ended zero place (octet ∷ octets) end le stands = absurd (omega arith)
ended (suc fuel) place reached end le stands = ends_with fuel place reached end stands

pub at_end : (peers : Option (List Peer)) (end : RecordsEnd) → reading_from peers (record { records = []; end = end }) ≡ record { routes = []; end = file_end end }
unfolding reading_of
at_end peers end = refl

-- all routes were taken in, and the reading ends so
all_taken : (wanted : Wanted) (d : ℕ) (old new : Taken) (octets : List ℕ) (end : FileEnd) → Takes wanted.sets old (file_routes wanted octets) new → (file_reading octets).end ≡ end
    → of_octets wanted d old octets ≡ of_end d end (with_file wanted octets new)
all_taken wanted d old new octets end takes is =
    ap (λ taking. of_taking d taking >>= λ all. of_end d (file_reading octets).end (with_file wanted octets all)) takes ∙ ap (λ e. of_end d e (with_file wanted octets new)) is

pub ends : (wanted : Wanted) (d : ℕ) (left₀ left : Option (List ℕ)) (at : At) (peers : Option (List Peer)) (old new : Taken) (end : RecordsEnd) → GoesOf wanted left₀ left at peers old new
    → IfSome left (λ octets. StopsWith at octets end) → IfSome left₀ (λ octets. of_octets wanted d old octets ≡ of_end d (file_end end) (with_file wanted octets new))
ends wanted d None left at peers old new end goes stops = tt
ends wanted d (Some octets) left at peers old new end goes stops =
    let s : StopsWith at goes.rest end = subst (λ o. IfSome o (λ b. StopsWith at b end)) goes.is_left stops in
    let passed = passes_over peers s.passes.0 goes.fuel at goes.rest s.place s.reached s.passes.1 goes.enough in
    let same : reading_from peers (cut_within goes.fuel at goes.rest) ≡ record { routes = []; end = file_end end } =
    passed.same ∙ ap (reading_from peers) (ended passed.fuel s.place s.reached end passed.enough s.stands) ∙ at_end peers end in
    all_taken wanted d old new octets (file_end end)
    (ap (take_routes wanted.sets old) (goes.routes ∙ ap (λ reading. goes.prefix ++ which_count wanted reading.routes) same ∙ append-nil goes.prefix) ∙ goes.so_far)
    (goes.end ∙ ap (λ reading. reading.end) same)

-- ---- a record that is not taken in

stops_in : (sets : Sets) (old : Taken) (routes rest : List Route) (kind : LimitKind) → take_routes sets old routes ≡ Err kind → take_routes sets old (routes ++ rest) ≡ Err kind
unfolding take_routes
stops_in sets old [] rest kind is = absurd cc
stops_in sets old (route ∷ routes) rest kind is = by (take_route sets old route) is (λ further. stops_in sets further routes rest kind)
  where
    by : (one : Result Taken LimitKind) → (one >>= λ further. take_routes sets further routes) ≡ Err kind
        → ((further : Taken) → take_routes sets further routes ≡ Err kind → take_routes sets further (routes ++ rest) ≡ Err kind)
        → (one >>= λ further. take_routes sets further (routes ++ rest)) ≡ Err kind
    by (Ok further) is ih = ih further is
    by (Err k) is ih = is

pub breaks : (wanted : Wanted) (d : ℕ) (left₀ left left' : Option (List ℕ)) (at : At) (peers : Option (List Peer)) (r : Record) (old mid : Taken) (why : Unread) → GoesOf wanted left₀ left at peers old mid
    → IfSome left (λ octets. FindsNext at octets r left') → IsUnread wanted mid (routes_of peers r) why
    → IfSome (end_named d (of_unread d r.at why)) (λ end. IfSome left₀ (λ octets. of_octets wanted d old octets ≡ Err end))
breaks wanted d None left left' at peers r old mid (unread.Fault broken) goes finds is = tt
breaks wanted d None left left' at peers r old mid (unread.Untaken (untaken.Limit kind)) goes finds is = tt
breaks wanted d None left left' at peers r old mid (unread.Untaken untaken.NoMemory) goes finds is = tt
breaks wanted d (Some octets) left left' at peers r old mid (unread.Fault broken) goes finds is =
    let finds' : FindsNext at goes.rest r left' = subst (λ o. IfSome o (λ b. FindsNext at b r left')) goes.is_left finds in
    let f = found peers goes.fuel at goes.rest r left' finds' goes.enough in
    let further = reading_from (peers_behind peers r) (cut_within f.fuel (place_behind r) f.rest) in
    let same = f.same ∙ ap (λ read. routes_onto r.at read further) is in
    all_taken wanted d old mid octets (Broken r.at (fault.Rib broken))
    (ap (take_routes wanted.sets old) (goes.routes ∙ ap (λ reading. goes.prefix ++ which_count wanted reading.routes) same ∙ append-nil goes.prefix) ∙ goes.so_far)
    (goes.end ∙ ap (λ reading. reading.end) same)
breaks wanted d (Some octets) left left' at peers r old mid (unread.Untaken (untaken.Limit kind)) goes finds is =
    let finds' : FindsNext at goes.rest r left' = subst (λ o. IfSome o (λ b. FindsNext at b r left')) goes.is_left finds in
    let f = found peers goes.fuel at goes.rest r left' finds' goes.enough in
    let further = reading_from (peers_behind peers r) (cut_within f.fuel (place_behind r) f.rest) in
    let same = f.same ∙ ap (λ read. routes_onto r.at read further) is.1 in
    ap (λ taking. of_taking d taking >>= λ all. of_end d (file_reading octets).end (with_file wanted octets all))
    (ap (take_routes wanted.sets old) (goes.routes ∙ ap (λ reading. goes.prefix ++ which_count wanted reading.routes) same
    ∙ ap (λ (t : List Route). goes.prefix ++ t) (filter-append (counts wanted) is.0 further.routes))
    ∙ take_routes-append wanted.sets old mid goes.prefix (which_count wanted is.0 ++ which_count wanted further.routes) goes.so_far
    ∙ stops_in wanted.sets mid (which_count wanted is.0) (which_count wanted further.routes) kind is.2)
breaks wanted d (Some octets) left left' at peers r old mid (unread.Untaken untaken.NoMemory) goes finds is = tt

-- ---- what was taken in of a file that was not read to its end

prefix_of : (sets : Sets) (old new : Taken) (prefix more : List Route) (n : ℕ) → n ≤ length more → Takes sets old (prefix ++ take n more) new → TakesSome sets old (prefix ++ more) new
prefix_of sets old new prefix more n le takes = (
  length prefix + n,
  omega (arith, length-append prefix more),
  ap (take_routes sets old) (take-append-add prefix more n) ∙ takes,
)

pub some_so_far : (wanted : Wanted) (left₀ left : Option (List ℕ)) (at : At) (peers : Option (List Peer)) (old new : Taken) → GoesOf wanted left₀ left at peers old new
    → IfSome left₀ (λ octets. TakesSome wanted.sets old (file_routes wanted octets) new)
some_so_far wanted None left at peers old new goes = tt
some_so_far wanted (Some octets) left at peers old new goes =
    subst (λ (routes : List Route). TakesSome wanted.sets old routes new) (sym goes.routes)
    (prefix_of wanted.sets old new goes.prefix (which_count wanted (reading_from peers (cut_within goes.fuel at goes.rest)).routes) 0 (omega arith)
    (ap (take_routes wanted.sets old) (append-nil goes.prefix) ∙ goes.so_far))

some_of : (wanted : Wanted) (old mid new : Taken) (prefix : List Route) (at : At) (read : Result (List Route) RibFault) (further : Reading) → Takes wanted.sets old prefix mid
    → TakesSomeRead wanted mid read new → TakesSome wanted.sets old (prefix ++ which_count wanted (routes_onto at read further).routes) new
some_of wanted old mid new prefix at (Ok routes) further so_far some =
    let first = which_count wanted routes in
    let behind = which_count wanted further.routes in
    subst (λ (t : List Route). TakesSome wanted.sets old (prefix ++ t) new) (sym (filter-append (counts wanted) routes further.routes))
    (prefix_of wanted.sets old new prefix (first ++ behind) some.0 (omega (arith, some.1, length-append first behind))
    (ap (λ (t : List Route). take_routes wanted.sets old (prefix ++ t)) (take-append-le some.0 first behind some.1)
    ∙ take_routes-append wanted.sets old mid prefix (take some.0 first) so_far ∙ some.2))
some_of wanted old mid new prefix at (Err broken) further so_far some =
    prefix_of wanted.sets old new prefix [] 0 (omega arith) (ap (take_routes wanted.sets old) (append-nil prefix) ∙ so_far ∙ ap (λ (t : Taken). Ok t) (sym some))

pub some_with : (wanted : Wanted) (left₀ left left' : Option (List ℕ)) (at : At) (peers : Option (List Peer)) (r : Record) (old mid new : Taken) → GoesOf wanted left₀ left at peers old mid
    → IfSome left (λ octets. FindsNext at octets r left') → TakesSomeRead wanted mid (routes_of peers r) new → IfSome left₀ (λ octets. TakesSome wanted.sets old (file_routes wanted octets) new)
some_with wanted None left left' at peers r old mid new goes finds some = tt
some_with wanted (Some octets) left left' at peers r old mid new goes finds some =
    let finds' : FindsNext at goes.rest r left' = subst (λ o. IfSome o (λ b. FindsNext at b r left')) goes.is_left finds in
    let f = found peers goes.fuel at goes.rest r left' finds' goes.enough in
    let further = reading_from (peers_behind peers r) (cut_within f.fuel (place_behind r) f.rest) in
    subst (λ (routes : List Route). TakesSome wanted.sets old routes new) (sym (goes.routes ∙ ap (λ reading. goes.prefix ++ which_count wanted reading.routes) f.same))
    (some_of wanted old mid new goes.prefix r.at (routes_of peers r) further goes.so_far some)

-- an error that names an end of the records names the end of the dump
pub frame_named : (wanted : Wanted) (d : ℕ) (left₀ left : Option (List ℕ)) (at : At) (peers : Option (List Peer)) (old new : Taken) (e : FrameError) → GoesOf wanted left₀ left at peers old new
    → IfSome (end_of_error e) (λ end. IfSome left (λ octets. StopsWith at octets end))
    → IfSome (end_named d (of_frame d e)) (λ end. IfSome left₀ (λ octets. of_octets wanted d old octets ≡ Err end))
frame_named wanted d left₀ left at peers old new (frame.HeadCut a) goes stops = ends wanted d left₀ left at peers old new (HeadCut a) goes stops
frame_named wanted d left₀ left at peers old new (frame.BodyCut a) goes stops = ends wanted d left₀ left at peers old new (BodyCut a) goes stops
frame_named wanted d left₀ left at peers old new (frame.Oversize a) goes stops = ends wanted d left₀ left at peers old new (Oversize a) goes stops
frame_named wanted d left₀ left at peers old new frame.TooManyBytes goes stops = ends wanted d left₀ left at peers old new TooManyBytes goes stops
frame_named wanted d left₀ left at peers old new frame.ReadFault goes stops = tt
frame_named wanted d left₀ left at peers old new frame.NoMemory goes stops = tt

-- before any route
pub none_so_far : (wanted : Wanted) (old : Taken) (known : Option Files) (name : List ℕ)
    → IfSome known (λ files. IfSome (files name) (λ octets. TakesSome wanted.sets old (file_routes wanted octets) old))
none_so_far wanted old None name = tt
none_so_far wanted old (Some files) name = by (files name)
  where
    by : (file : Option (List ℕ)) → IfSome file (λ octets. TakesSome wanted.sets old (file_routes wanted octets) old)
    by None = tt
    by (Some octets) = (0, omega arith, no_entry wanted.sets old)
