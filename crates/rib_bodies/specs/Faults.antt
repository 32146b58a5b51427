-- Which fault a body has, and the laws that each reading of a body tells it so. The faults are those of docs/FORMATS.md.
use Rattle.std.specs.Prelude.{◌≡◌, ◌≢◌, ◌↔◌, ℕ, ◌<◌, List, ◌++◌, length, replicate, Option, Some, Result, Err}
use Rattle.mrt_header.specs.declared.record_kind.Family.{Family}
use Rattle.mrt_header.specs.declared.record_kind.RibForm.{RibForm}
use Rattle.path_attrs.specs.declared.fault.RibFault.{RibFault}
use Rattle.path_attrs.specs.declared.fault.RibFault.TheVariants.{Cut, Tail}
use Rattle.rib_bodies.specs.PeerTable.{peers_of}
use Rattle.rib_bodies.specs.Rib.{rib_of}
use Rattle.rib_bodies.specs.TableDump.{route_of}
use Rattle.rib_bodies.specs.Encoding.{IsPeerTable, IsRib}
use Rattle.rib_bodies.specs.TableDumpEncoding.{IsTableDump}

-- a proper prefix of the body encodes a value
pub record HasTail {A : Type 0} (Encodes : List ℕ → A → Type 0) (body : List ℕ) : Type 0 where
  pub first : List ℕ
  pub behind : List ℕ
  pub value : A
  pub encoded : Encodes first value
  pub more : 0 < length behind
  pub parts : body ≡ first ++ behind

-- the fault is Tail exactly if a proper prefix of the body encodes a value
abbrev pub TellsTail : {A : Type 0} → (List ℕ → Result A RibFault) → (List ℕ → A → Type 0) → Type 0
TellsTail read Encodes = (body : List ℕ) → (read body ≡ Err Tail) ↔ HasTail Encodes body

-- behind a body that is cut, enough zeros give another answer; every other fault stays, whatever follows
pub record TellsCut {A : Type 0} (read : List ℕ → Result A RibFault) : Type 0 where
  pub goes_on : (body : List ℕ) → read body ≡ Err Cut → (zeros : ℕ) × (read (body ++ replicate zeros 0) ≢ Err Cut)
  pub stays : (body more : List ℕ) (fault : RibFault) → read body ≡ Err fault → fault ≢ Cut → read (body ++ more) ≡ Err fault

-- the bodies of TABLE_DUMP records, peer tables and RIBs
pub record TailFaultLaw : Type 0 where
  pub table_dump : (family : Family) → TellsTail (route_of family) (IsTableDump family)
  pub peer_table : TellsTail peers_of IsPeerTable
  pub rib : (form : RibForm) (peers : ℕ) → TellsTail (rib_of form (Some peers)) (IsRib form peers)

pub record CutFaultLaw : Type 0 where
  pub table_dump : (family : Family) → TellsCut (route_of family)
  pub peer_table : TellsCut peers_of
  pub rib : (form : RibForm) (peers : Option ℕ) → TellsCut (rib_of form peers)
