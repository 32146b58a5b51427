-- What was taken in of a file, also where nothing is known of its octets: each lemma of known files is used for all octets that may stand behind.
use Rattle.std.proofs.Common.{◌≡◌, ℕ, List, [], ◌++◌, Option, Some, None, IfSome, refl, sym, ap, subst, ◌∙◌, append_assoc}
use Rattle.std.specs.Io.KnownBytes.{prepend_known}
use Rattle.record_counts.specs.Counting.{Counts}
use Rattle.mrt_frame.specs.declared.header.At.{At}
use Rattle.mrt_frame.specs.Records.{Record, Well, place_behind, start}
use Rattle.mrt_frame.specs.Counting.{CountsOn}
use Rattle.mrt_frame.specs.Frames.{FindsNext}
use Rattle.mrt_frame.specs.Some.{HasRead, GiveRecord, GiveEnd}
use Rattle.mrt_frame.proofs.Somes.{prepend_more, prepend_none}
use Rattle.dump_read.specs.Wanted.{Wanted}
use Rattle.rib_bodies.specs.declared.peers.Peer.{Peer}
use Rattle.dump_read.specs.declared.last_peers.LastPeers.{LastPeers}
use Rattle.dump_read.specs.LastPeers.{IsLastTable, Whichever}
use Rattle.dump_read.specs.Files.{FileCounts, no_file_counts, with_one}
use Rattle.dump_read.specs.Refusals.{TakesRead}
use Rattle.dump_read.specs.Routes.{routes_of, peers_behind}
use Rattle.dump_read.specs.Seen.{IsOfSomeHolding}
use Rattle.dump_read.specs.Taking.{Taken}
use Rattle.dump_read.proofs.Countings.{first_table}
use Rattle.dump_read.proofs.FileLemmas.{CountsOf, nothing_counted, counted_one, all_counted, recounted}
use Rattle.dump_read.proofs.Goings.{GoesOf, starts, goes_on, ends}

-- whatever stands behind these octets, this was taken in of them, and counted
abbrev pub AreTaken : Wanted → At → Option (List Peer) → (old new : Taken) → FileCounts → List ℕ → Type 0
AreTaken wanted at peers old new file octets =
    (rest : List ℕ) → GoesOf wanted (Some (octets ++ rest)) (Some rest) at peers old new × CountsOf wanted (Some (octets ++ rest)) (Some rest) at peers file

pub none_taken : (known : Option (List ℕ)) (wanted : Wanted) (old : Taken) → HasRead known known (AreTaken wanted start None old old no_file_counts)
none_taken known wanted old = ([], prepend_none known, λ rest. (starts wanted (Some rest) old, nothing_counted wanted (Some rest)))

pub taken_more : (before left after : Option (List ℕ)) (wanted : Wanted) (at : At) (peers peers' : Option (List Peer)) (r : Record) (old mid new : Taken) (file more : FileCounts) (counts : Counts)
    → HasRead before left (AreTaken wanted at peers old mid file) → HasRead left after (GiveRecord at file.records r counts) → TakesRead wanted mid (routes_of peers r) new
    → peers' ≡ peers_behind peers r → more ≡ with_one wanted peers r (recounted file counts) → HasRead before after (AreTaken wanted (place_behind r) peers' old new more)
taken_more before left after wanted at peers peers' r old mid new file more counts p g takes behind_it is = (
  p.0 ++ g.0,
  p.1 ∙ ap (prepend_known p.0) g.1 ∙ prepend_more p.0 g.0 after,
  λ rest.
      let so_far = p.2 (g.0 ++ rest) in
      let found = g.2 rest in
      let all = p.0 ++ (g.0 ++ rest) in
      subst (λ (t : List ℕ). GoesOf wanted (Some t) (Some rest) (place_behind r) peers' old new × CountsOf wanted (Some t) (Some rest) (place_behind r) peers' more) (sym (append_assoc p.0 g.0 rest)) (
        goes_on wanted (Some all) (Some (g.0 ++ rest)) (Some rest) at peers peers' r old mid new so_far.0 found.0 takes behind_it,
        counted_one wanted (Some all) (Some (g.0 ++ rest)) (Some rest) at peers peers' r file more counts takes.0 so_far.1 found.0 found.1 takes.1 behind_it is,
      ),
)

pub all_taken : (before left after : Option (List ℕ)) (wanted : Wanted) (d : ℕ) (at : At) (peers : Option (List Peer)) (old new : Taken) (file : FileCounts) (counts : Counts)
    → HasRead before left (AreTaken wanted at peers old new file) → HasRead left after (GiveEnd at file.records counts)
    → IsOfSomeHolding wanted d old new (recounted file counts)
all_taken before left after wanted d at peers old new file counts p g =
    let all = p.0 ++ g.0 in
    let so_far = p.2 g.0 in (
      all,
      ends wanted d (Some all) (Some g.0) at peers old new Well so_far.0 g.2.0,
      all_counted wanted (Some all) (Some g.0) at peers file counts so_far.1 g.2.0 g.2.1,
    )

-- what was taken in and counted so far, where the last peer table names these peers
pub record Standing (wanted : Wanted) (before left : Option (List ℕ)) (at : At) (last : LastPeers) (old new : Taken) (file : FileCounts) : Type 0 where
  pub named : Option (List Peer)
  pub kept : IsLastTable wanted named last
  pub goes : GoesOf wanted before left at named old new
  pub counted : CountsOf wanted before left at named file
  pub some : HasRead before left (AreTaken wanted at named old new file)

pub first_standing : (wanted : Wanted) (known : Option (List ℕ)) (old : Taken)
    → Standing wanted known known start (record { table = None; marks = [] }) old old no_file_counts
first_standing wanted known old = record {
  named = None;
  kept = first_table wanted;
  goes = starts wanted known old;
  counted = nothing_counted wanted known;
  some = none_taken known wanted old;
}

-- one record more
pub next_standing : (wanted : Wanted) (before left after : Option (List ℕ)) (at : At) (last last' : LastPeers) (r : Record) (old mid new : Taken) (file more : FileCounts) (counts : Counts)
    → (stands : Standing wanted before left at last old mid file) → IfSome left (λ octets. FindsNext at octets r after)
    → CountsOn left at file.records after (place_behind r) counts → HasRead left after (GiveRecord at file.records r counts)
    → Whichever wanted last (λ named. TakesRead wanted mid (routes_of named r) new) → Whichever wanted last (λ named. IsLastTable wanted (peers_behind named r) last')
    → Whichever wanted last (λ named. more ≡ with_one wanted named r (recounted file counts)) → Standing wanted before after (place_behind r) last' old new more
next_standing wanted before left after at last last' r old mid new file more counts stands finds on gives takes kept is =
    let took = takes stands.named stands.kept in
    record {
      named = peers_behind stands.named r;
      kept = kept stands.named stands.kept;
      goes = goes_on wanted before left after at stands.named (peers_behind stands.named r) r old mid new stands.goes finds took refl;
      counted = counted_one wanted before left after at stands.named (peers_behind stands.named r) r file more counts took.0 stands.counted finds on took.1 refl
          (is stands.named stands.kept);
      some = taken_more before left after wanted at stands.named (peers_behind stands.named r) r old mid new file more counts stands.some gives took refl
          (is stands.named stands.kept);
    }
