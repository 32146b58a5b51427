-- The kinds of record that are read, and their types and subtypes.
use Rattle.std.proofs.Common.{◌≡◌, ℕ, ◌==◌, Bool, true, false, cond, Option, Some, None, is_some, refl, ap, subst}
use Rattle.std.proofs.lemmas.Bool.{eqb-true}
use Rattle.mrt_header.specs.declared.record_kind.Family.{Family}
use Rattle.mrt_header.specs.declared.record_kind.Family.TheVariants.{Ipv4, Ipv6}
use Rattle.mrt_header.specs.declared.record_kind.EntryForm.{EntryForm}
use Rattle.mrt_header.specs.declared.record_kind.EntryForm.TheVariants.{Plain, WithPathId}
use Rattle.mrt_header.specs.declared.record_kind.RecordKind.{RecordKind}
use Rattle.mrt_header.specs.declared.record_kind.RecordKind.TheVariants.{TableDump, PeerTable, Rib}
use Rattle.mrt_header.specs.Kinds.{rib, table_dump, table_dump_v2, kind_of, is_read, type_of, rib_subtype, subtype_of}

-- by its numbers the kind is found again
pub kind_again : (kind : RecordKind) → kind_of (type_of kind) (subtype_of kind) ≡ Some kind
kind_again (TableDump Ipv4) = refl
kind_again (TableDump Ipv6) = refl
kind_again PeerTable = refl
kind_again (Rib form) = rib_again form.family form.entries
  where
    rib_again : (family : Family) (entries : EntryForm) → kind_of 13 (rib_subtype family entries) ≡ Some (rib family entries)
    rib_again Ipv4 Plain = refl
    rib_again Ipv6 Plain = refl
    rib_again Ipv4 WithPathId = refl
    rib_again Ipv6 WithPathId = refl

pub read_kind : (kind : RecordKind) → is_read (type_of kind) (subtype_of kind) ≡ true
read_kind kind = ap is_some (kind_again kind)

-- a kind is that of these numbers alone
abbrev Numbered : ℕ → ℕ → RecordKind → Type 0
Numbered number subtype kind = (number ≡ type_of kind) × (subtype ≡ subtype_of kind)

abbrev IsNumbered : ℕ → ℕ → Option RecordKind → Type 0
IsNumbered number subtype found = (kind : RecordKind) → found ≡ Some kind → Numbered number subtype kind

none_numbered : (number subtype : ℕ) → IsNumbered number subtype None
none_numbered number subtype kind is = absurd cc

some_numbered : (number subtype : ℕ) (k : RecordKind) → Numbered number subtype k → IsNumbered number subtype (Some k)
some_numbered number subtype k numbered kind is = let same : k ≡ kind = cc in subst (Numbered number subtype) same numbered

-- one test more
one_test : (number subtype wanted : ℕ) (k : RecordKind) (others : Option RecordKind) → number ≡ type_of k → wanted ≡ subtype_of k → IsNumbered number subtype others
    → IsNumbered number subtype (cond (subtype == wanted) (Some k) others)
one_test number subtype wanted k others type same behind = by (subtype == wanted) refl
  where
    by : (b : Bool) → (subtype == wanted) ≡ b → IsNumbered number subtype (cond b (Some k) others)
    by true t = let is = eqb-true subtype wanted t in some_numbered number subtype k (type, rw is same)
    by false t = behind

table_dump_numbered : (number subtype : ℕ) → number ≡ 12 → IsNumbered number subtype (table_dump subtype)
table_dump_numbered number subtype type =
    one_test number subtype 1 (TableDump Ipv4) _ type refl
    (one_test number subtype 2 (TableDump Ipv6) None type refl (none_numbered number subtype))

table_dump_v2_numbered : (number subtype : ℕ) → number ≡ 13 → IsNumbered number subtype (table_dump_v2 subtype)
table_dump_v2_numbered number subtype type =
    one_test number subtype 1 PeerTable _ type refl
    (one_test number subtype 2 (rib Ipv4 Plain) _ type refl
    (one_test number subtype 4 (rib Ipv6 Plain) _ type refl
    (one_test number subtype 8 (rib Ipv4 WithPathId) _ type refl
    (one_test number subtype 10 (rib Ipv6 WithPathId) None type refl (none_numbered number subtype)))))

pub numbers_of : (number subtype : ℕ) (kind : RecordKind) → kind_of number subtype ≡ Some kind → (number ≡ type_of kind) × (subtype ≡ subtype_of kind)
numbers_of number subtype kind is = by (number == 12) (number == 13) refl refl kind is
  where
    by : (a b : Bool) → (number == 12) ≡ a → (number == 13) ≡ b → IsNumbered number subtype (cond a (table_dump subtype) (cond b (table_dump_v2 subtype) None))
    by true b ta tb = table_dump_numbered number subtype (eqb-true number 12 ta)
    by false true ta tb = table_dump_v2_numbered number subtype (eqb-true number 13 tb)
    by false false ta tb = none_numbered number subtype
