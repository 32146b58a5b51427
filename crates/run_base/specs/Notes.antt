-- The exit status of each status, and the notes, which go to the error stream.
use Rattle.std.specs.Prelude.{ℕ, List, [], ◌∷◌, ◌++◌, codes, decimal}
use Rattle.run_base.specs.declared.status.Status.{Status}
use Rattle.run_base.specs.declared.status.Status.TheVariants.{Done, No, Usage, Malformed, ReadFault, WriteFault, Limit, NoMemory}
use Rattle.path_attrs.specs.declared.fault.RibFault.{RibFault}
use Rattle.path_attrs.specs.declared.fault.RibFault.TheVariants as rib
use Rattle.dump_read.specs.declared.error.Place.{Place}
use Rattle.dump_read.specs.declared.error.Fault.{Fault}
use Rattle.dump_read.specs.declared.error.Fault.TheVariants as fault
use Rattle.dump_read.specs.declared.error.LimitKind.{LimitKind}
use Rattle.dump_read.specs.declared.error.LimitKind.TheVariants.{Paths, Numbers, Bytes}
use Rattle.run_base.specs.declared.notes.FirstFile.{FirstFile}
use Rattle.run_base.specs.declared.notes.FirstFile.TheVariants as first

abbrev pub exit_code : Status → ℕ
exit_code Done = 0
exit_code No = 1
exit_code Usage = 2
exit_code Malformed = 3
exit_code ReadFault = 4
exit_code WriteFault = 5
exit_code Limit = 6
exit_code NoMemory = 7

-- the note of a status whose note has no part of its own
abbrev pub plain_note : Status → List ℕ
plain_note WriteFault = codes "write-fault" ++ 10 ∷ []
plain_note NoMemory = codes "no-memory" ++ 10 ∷ []
plain_note Done = []
plain_note No = []
plain_note Usage = []
plain_note Malformed = []
plain_note ReadFault = []
plain_note Limit = []

abbrev pub rib_word : RibFault → List ℕ
rib_word rib.Cut = codes "cut"
rib_word rib.Tail = codes "tail"
rib_word rib.PrefixLong = codes "prefix-long"
rib_word rib.NoPeerTable = codes "no-peer-table"
rib_word rib.PeerRange = codes "peer-range"
rib_word rib.AttrCut = codes "attr-cut"

abbrev pub fault_word : Fault → List ℕ
fault_word fault.HeadCut = codes "head-cut"
fault_word fault.BodyCut = codes "body-cut"
fault_word fault.Oversize = codes "oversize"
fault_word (fault.Rib broken) = rib_word broken

abbrev pub limit_word : LimitKind → List ℕ
limit_word Paths = codes "paths"
limit_word Numbers = codes "numbers"
limit_word Bytes = codes "bytes"

-- the dump, the record, the offset of its header and the kind of the fault
abbrev pub malformed_note : Place → Fault → List ℕ
malformed_note place broken =
    codes "malformed|" ++ decimal place.dump ++ codes "|" ++ decimal place.at.number ++ codes "|" ++ decimal
    place.at.offset ++ codes "|" ++ fault_word broken ++ 10 ∷ []

-- the quantity and the dump
abbrev pub limit_note : LimitKind → ℕ → List ℕ
limit_note kind dump = codes "limit|" ++ limit_word kind ++ codes "|" ++ decimal dump ++ 10 ∷ []

-- ---- notes on a file that is read whole, before any dump

-- what a note calls it
abbrev pub first_word : FirstFile → List ℕ
first_word first.Given = codes "given"
first_word first.Result = codes "result"
first_word first.Rel = codes "rel"

-- its first bad line
abbrev pub bad_line_note : FirstFile → ℕ → List ℕ
bad_line_note file line = codes "malformed|0|" ++ decimal line ++ codes "|0|" ++ first_word file ++ 10 ∷ []

-- it has too many octets
abbrev pub too_long_note : FirstFile → List ℕ
too_long_note file = codes "limit|" ++ first_word file ++ codes "|0" ++ 10 ∷ []

-- ---- a failed read

-- of the dump of this number, or at 0 of the file that is read before any dump
abbrev pub read_fault_note : ℕ → List ℕ
read_fault_note dump = codes "read-fault|" ++ decimal dump ++ 10 ∷ []

-- ---- a broken rule

-- of a result: this line is the first that breaks this rule, the least
abbrev pub broken_note : ℕ → ℕ → List ℕ
broken_note line rule = codes "no|" ++ decimal line ++ codes "|" ++ decimal rule ++ 10 ∷ []
