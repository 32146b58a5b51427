-- The routes of a file, in order, and how its reading ends.
use Rattle.std.specs.Prelude.{ℕ, List, [], ◌∷◌, ◌++◌, Option, None, Result, Ok, Err}
use Rattle.path_attrs.specs.declared.fault.RibFault.{RibFault}
use Rattle.rib_bodies.specs.declared.peers.Peer.{Peer}
use Rattle.mrt_frame.specs.declared.header.At.{At}
use Rattle.mrt_frame.specs.Records.{Record, Cut, RecordsEnd, Well, HeadCut, TooManyBytes, Oversize, BodyCut, cut}
use Rattle.dump_read.specs.declared.error.Fault.{Fault}
use Rattle.dump_read.specs.declared.error.Fault.TheVariants as fault
use Rattle.dump_read.specs.Routes.{Route, routes_of, peers_behind}

-- the file is read to its end; a record has a fault; or the file has too many octets
pub data FileEnd : Type 0 where
  Whole : FileEnd
  Broken : At → Fault → FileEnd
  TooLong : FileEnd

pub record Reading : Type 0 where
  pub routes : List Route
  pub end : FileEnd

abbrev pub file_end : RecordsEnd → FileEnd
file_end Well = Whole
file_end (HeadCut at) = Broken at fault.HeadCut
file_end TooManyBytes = TooLong
file_end (Oversize at) = Broken at fault.Oversize
file_end (BodyCut at) = Broken at fault.BodyCut

-- the routes of a record stand before those behind it; at its fault the reading ends, and none of its routes counts
abbrev pub routes_onto : At → Result (List Route) RibFault → Reading → Reading
routes_onto at (Ok routes) rest = record { routes = routes ++ rest.routes; end = rest.end }
routes_onto at (Err broken) rest = record { routes = []; end = Broken at (fault.Rib broken) }

-- the routes of records, each read with the last peer table before it
unfoldable pub reading_of : Option (List Peer) → List Record → RecordsEnd → Reading
reading_of peers [] end = record { routes = []; end = file_end end }
reading_of peers (r ∷ records) end = routes_onto r.at (routes_of peers r) (reading_of (peers_behind peers r) records end)

-- from records on, where the last peer table before them names these peers
abbrev pub reading_from : Option (List Peer) → Cut → Reading
reading_from peers c = reading_of peers c.records c.end

-- a file starts without a peer table
abbrev pub file_reading : List ℕ → Reading
file_reading octets = reading_from None (cut octets)
