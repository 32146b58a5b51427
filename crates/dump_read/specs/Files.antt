-- What a file holds, by count: its records, peer entries and routes.
use Rattle.std.specs.Prelude.{ℕ, ◌+◌, List, [], ◌∷◌, ◌++◌, length, sum_by, option_map, unwrap_or, Option, Some, None, Result, Ok, Err}
use Rattle.std.specs.Result.{result_ok}
use Rattle.path_attrs.specs.declared.fault.RibFault.{RibFault}
use Rattle.record_counts.specs.Counting.{capped, counts_together as records_together}
use Rattle.rib_bodies.specs.PeerTable.{peers_of}
use Rattle.mrt_frame.specs.Counting.{records_in}
use Rattle.mrt_header.specs.Kinds.{kind_of}
use Rattle.mrt_frame.specs.Records.{Record, cut}
use Rattle.mrt_header.specs.declared.record_kind.RecordKind.{RecordKind}
use Rattle.mrt_header.specs.declared.record_kind.RecordKind.TheVariants.{TableDump, PeerTable, Rib}
use Rattle.dump_read.specs.declared.taking.Taken.{Taken}
use Rattle.dump_read.specs.Routes.{Route, routes_of}
use Rattle.dump_read.specs.Wanted.{Wanted, which_count, file_routes}
use Rattle.rib_bodies.specs.declared.peers.Peer.{Peer}
pub use Rattle.dump_read.specs.declared.file_counts.FileCounts.{FileCounts}

-- how many peers a body lists: a peer table its entries, and all others none
abbrev pub listed_in : Option RecordKind → (body : List ℕ) → ℕ
listed_in (Some (TableDump family)) body = 0
listed_in (Some PeerTable) body = unwrap_or (option_map (λ table. table.count) (result_ok (peers_of body))) 0
listed_in (Some (Rib form)) body = 0
listed_in None body = 0

abbrev pub peers_listed : Record → ℕ
peers_listed r = listed_in (kind_of r.kind r.subtype) r.body

-- what a file of these octets holds, where these routes are wanted
abbrev pub file_counts : Wanted → List ℕ → FileCounts
file_counts wanted octets = record {
  records = records_in octets;
  peers = capped (sum_by peers_listed (cut octets).records);
  routes = capped (length (file_routes wanted octets));
}

-- the same behind what was taken in of the files before
abbrev pub with_file : Wanted → List ℕ → Taken → Taken
with_file wanted octets taken = record taken { files = taken.files ++ file_counts wanted octets ∷ [] }

-- ---- several files

-- nothing
abbrev pub no_file_counts : FileCounts
no_file_counts = record { records = []; peers = 0; routes = 0 }

-- the counts with those of another file besides
abbrev pub with_counts : FileCounts → FileCounts → FileCounts
with_counts all file = record {
  records = records_together all.records file.records;
  peers = capped (all.peers + file.peers);
  routes = capped (all.routes + file.routes);
}

unfoldable pub with_all : FileCounts → List FileCounts → FileCounts
with_all all [] = all
with_all all (file ∷ files) = with_all (with_counts all file) files

-- what files hold together
abbrev pub together : List FileCounts → FileCounts
together files = with_all no_file_counts files

-- ---- one record

-- how many of the routes that were read count
abbrev pub many : Wanted → Result (List Route) RibFault → ℕ
many wanted (Ok routes) = length (which_count wanted routes)
many wanted (Err fault) = 0

-- the counts with the peer entries and the routes of a record, where the last peer table before it names these peers
abbrev pub with_one : Wanted → Option (List Peer) → Record → FileCounts → FileCounts
with_one wanted peers r file = record file {
  peers = capped (file.peers + peers_listed r);
  routes = capped (file.routes + many wanted (routes_of peers r));
}
