-- The loops over peers and over entries.
use Rattle.std.proofs.Common.{◌≡◌, ℕ, suc, ◌+◌, ◌-◌, ◌<◌, ◌≤◌, ◌==◌, Bool, true, false, List, [], ◌∷◌, ◌++◌, length, Some, None, Result, Ok, Err, is_ok, refl, sym, ap, ap₂, ◌∙◌, arith}
use Rattle.std.specs.Result.{result_unwrap_or}
use Rattle.std.proofs.lemmas.List.{append_assoc, append-nil}
use Rattle.path_attrs.specs.declared.fault.RibFault.{RibFault}
use Rattle.path_attrs.specs.declared.fault.RibFault.TheVariants.{Tail, NoPeerTable}
use Rattle.path_attrs.specs.declared.fault.RibFault.TheVariants as faults
use Rattle.path_attrs.specs.declared.block.AttrCut.{AttrCut}
use Rattle.path_attrs.specs.Fields.{◌>>=◌, fault_unless, or_fault}
use Rattle.path_attrs.specs.Attributes.{Attribute, attributes_of, attributes_in}
use Rattle.mrt_header.specs.declared.record_kind.RibForm.{RibForm}
use Rattle.mrt_header.specs.declared.record_kind.EntryForm.{EntryForm}
use Rattle.rib_bodies.specs.declared.rib.Entry.{Entry}
use Rattle.rib_bodies.specs.PeerTable.{behind_peer, behind_peers}
use Rattle.rib_bodies.specs.Rib.{Fields, head, entry, entry_fields, entries_of, entries_in, rib_of}
use Rattle.rib_bodies.specs.Reading.{with_first}

one_less : (count i : ℕ) → i < count → count - i ≡ suc (count - (i + 1))
one_less count i lt = omega arith

none_left : (count i : ℕ) → count ≤ i → count - i ≡ 0
none_left count i le = omega arith

-- one peer more
pub peers-step : (count i : ℕ) (bytes rest : List ℕ) (all : Result (List ℕ) RibFault) → i < count → behind_peer bytes ≡ Ok rest → behind_peers (count - i) bytes ≡ all
    → behind_peers (count - (i + 1)) rest ≡ all
unfolding behind_peers
peers-step count i bytes rest all lt is same =
    sym (ap (λ k. behind_peers k bytes) (one_less count i lt) ∙ ap (λ (r : Result (List ℕ) RibFault). r >>= behind_peers (count - (i + 1))) is) ∙ same

pub peers-fault : (count i : ℕ) (bytes : List ℕ) (fault : RibFault) (all : Result (List ℕ) RibFault) → i < count → behind_peer bytes ≡ Err fault
    → behind_peers (count - i) bytes ≡ all → all ≡ Err fault
unfolding behind_peers
peers-fault count i bytes fault all lt is same =
    sym same ∙ ap (λ k. behind_peers k bytes) (one_less count i lt) ∙ ap (λ (r : Result (List ℕ) RibFault). r >>= behind_peers (count - (i + 1))) is

pub peers-end : (count i : ℕ) (bytes : List ℕ) (all : Result (List ℕ) RibFault) → count ≤ i → behind_peers (count - i) bytes ≡ all → all ≡ Ok bytes
unfolding behind_peers
peers-end count i bytes all le same = sym same ∙ ap (λ k. behind_peers k bytes) (none_left count i le)

-- the entries so far, and those that are read
abbrev pub with_head : List Entry → Result (List Entry) RibFault → Result (List Entry) RibFault
with_head before read = read >>= λ others. Ok (before ++ others)

pub from_none : (read : Result (List Entry) RibFault) → with_head [] read ≡ read
from_none (Ok entries) = refl
from_none (Err fault) = refl

pub entries-step : (form : EntryForm) (peers count i : ℕ) (bytes rest : List ℕ) (first : Entry) (before : List Entry) (all : Result (List Entry) RibFault) → i < count →
    entry form peers bytes ≡ Ok (first, rest)
    → with_head before (entries_of form peers (count - i) bytes) ≡ all → with_head (before ++ first ∷ []) (entries_of form peers (count - (i + 1)) rest) ≡ all
unfolding entries_of
entries-step form peers count i bytes rest first before all lt is same =
    regroup (entries_of form peers (count - (i + 1)) rest)
    ∙ sym (ap (λ k. with_head before (entries_of form peers k bytes)) (one_less count i lt)
    ∙ ap (λ (r : Result (Entry × List ℕ) RibFault). with_head before (r >>= λ f. entries_of form peers (count - (i + 1)) f.1 >>= λ others. Ok (f.0 ∷ others))) is)
    ∙ same
  where
    regroup : (read : Result (List Entry) RibFault) → with_head (before ++ first ∷ []) read ≡ with_head before (read >>= λ others. Ok (first ∷ others))
    regroup (Ok others) = ap (λ l. Ok l) (append_assoc before (first ∷ []) others)
    regroup (Err fault) = refl

pub entries-fault : (form : EntryForm) (peers count i : ℕ) (bytes : List ℕ) (fault : RibFault) (before : List Entry) (all : Result (List Entry) RibFault) → i < count →
    entry form peers bytes ≡ Err fault
    → with_head before (entries_of form peers (count - i) bytes) ≡ all → all ≡ Err fault
unfolding entries_of
entries-fault form peers count i bytes fault before all lt is same =
    sym same ∙ ap (λ k. with_head before (entries_of form peers k bytes)) (one_less count i lt)
    ∙ ap (λ (r : Result (Entry × List ℕ) RibFault). with_head before (r >>= λ f. entries_of form peers (count - (i + 1)) f.1 >>= λ others. Ok (f.0 ∷ others))) is

pub entries-end : (form : EntryForm) (peers count i : ℕ) (bytes : List ℕ) (before : List Entry) (all : Result (List Entry) RibFault) → count ≤ i → (length bytes == 0) ≡ true
    → with_head before (entries_of form peers (count - i) bytes) ≡ all → all ≡ Ok before
unfolding entries_of
entries-end form peers count i bytes before all le none same =
    sym same ∙ ap (λ k. with_head before (entries_of form peers k bytes)) (none_left count i le)
    ∙ ap (λ b. with_head before (fault_unless Tail b >>= λ end. Ok [])) none ∙ ap (λ l. Ok l) (append-nil before)

pub entries-tail : (form : EntryForm) (peers count i : ℕ) (bytes : List ℕ) (before : List Entry) (all : Result (List Entry) RibFault) → count ≤ i → (length bytes == 0) ≡ false
    → with_head before (entries_of form peers (count - i) bytes) ≡ all → all ≡ Err Tail
unfolding entries_of
entries-tail form peers count i bytes before all le more same =
    sym same ∙ ap (λ k. with_head before (entries_of form peers k bytes)) (none_left count i le)
    ∙ ap (λ b. with_head before (fault_unless Tail b >>= λ end. Ok [])) more

-- ---- entries that are known to be whole

pub whole : (form : EntryForm) (peers count : ℕ) (bytes : List ℕ) → is_ok (entries_of form peers count bytes) ≡ true → Ok (entries_in form peers count bytes) ≡ entries_of form peers count bytes
unfolding entries_in
whole form peers count bytes ok = by (entries_of form peers count bytes) ok
  where
    by : (read : Result (List Entry) RibFault) → is_ok read ≡ true → Ok (result_unwrap_or read []) ≡ read
    by (Ok entries) t = refl
    by (Err fault) t = absurd cc

abbrev at_end : Bool → Result (List Entry) RibFault
at_end b = fault_unless Tail b >>= λ end. Ok []

pub none_in : (form : EntryForm) (peers count : ℕ) (bytes : List ℕ) → count ≡ 0 → entries_in form peers count bytes ≡ []
unfolding entries_of entries_in
none_in form peers count bytes none = ap (λ n. entries_in form peers n bytes) none ∙ by (length bytes == 0)
  where
    by : (b : Bool) → result_unwrap_or (at_end b) [] ≡ []
    by true = refl
    by false = refl

-- the first entry by its fields, and those behind it
pub record First (form : EntryForm) (peers count : ℕ) (bytes : List ℕ) (f : Fields) : Type 0 where
  pub block : is_ok (attributes_of f.block) ≡ true
  pub rest : is_ok (entries_of form peers (count - 1) f.rest) ≡ true
  pub all : entries_in form peers count bytes ≡ record { peer = f.peer; attrs = attributes_in f.block } ∷ entries_in form peers (count - 1) f.rest

abbrev with_attrs : Fields → List Attribute → Result (Entry × List ℕ) RibFault
with_attrs f attrs = Ok (record { peer = f.peer; attrs = attrs }, f.rest)

abbrev entry_by : Fields → Result (List Attribute) AttrCut → Result (Entry × List ℕ) RibFault
entry_by f read = or_fault faults.AttrCut read >>= with_attrs f

abbrev then_others : EntryForm → (peers k : ℕ) → Entry × List ℕ → Result (List Entry) RibFault
then_others form peers k first = entries_of form peers k first.1 >>= λ others. Ok (first.0 ∷ others)

abbrev behind_first : EntryForm → (peers k : ℕ) → Fields → Result (List Attribute) AttrCut → Result (List Entry) RibFault
behind_first form peers k f read = entry_by f read >>= then_others form peers k

abbrev by_read : EntryForm → (peers k : ℕ) → Result Fields RibFault → Result (List Entry) RibFault
by_read form peers k read = (read >>= λ f. entry_by f (attributes_of f.block)) >>= then_others form peers k

unrolled : (form : EntryForm) (peers k : ℕ) (bytes : List ℕ) → entries_of form peers (suc k) bytes ≡ by_read form peers k (entry_fields form peers bytes)
unfolding entry entries_of
unrolled form peers k bytes = refl

by_fields : (form : EntryForm) (peers count : ℕ) (bytes : List ℕ) (read : Result Fields RibFault) → 0 < count → entry_fields form peers bytes ≡ read →
    entries_of form peers count bytes ≡ by_read form peers (count - 1) read
by_fields form peers count bytes read lt is =
    let e : count ≡ suc (count - 1) = omega (arith, lt) in
    ap (λ n. entries_of form peers n bytes) e ∙ unrolled form peers (count - 1) bytes ∙ ap (by_read form peers (count - 1)) is

pub first_in : (form : EntryForm) (peers count : ℕ) (bytes : List ℕ) (f : Fields) → 0 < count → entry_fields form peers bytes ≡ Ok f → is_ok (entries_of form peers count bytes) ≡ true →
    First form peers count bytes f
unfolding entries_in attributes_in
first_in form peers count bytes f lt is ok = by (attributes_of f.block) (entries_of form peers (count - 1) f.rest) refl refl
  where
    first : entries_of form peers count bytes ≡ behind_first form peers (count - 1) f (attributes_of f.block)
    first = by_fields form peers count bytes (Ok f) lt is

    one : List Attribute → Entry
    one attrs = record { peer = f.peer; attrs = attrs }

    by : (attrs : Result (List Attribute) AttrCut) (others : Result (List Entry) RibFault) → attributes_of f.block ≡ attrs → entries_of form peers (count - 1) f.rest ≡ others →
        First form peers count bytes f
    by (Ok attrs) (Ok entries) ea eo =
        let all : entries_of form peers count bytes ≡ Ok (one attrs ∷ entries) =
        first ∙ ap (behind_first form peers (count - 1) f) ea ∙ ap (λ (r : Result (List Entry) RibFault). r >>= λ others. Ok (one attrs ∷ others)) eo in
        record {
          block = ap is_ok ea;
          rest = ap is_ok eo;
          all = ap (λ r. result_unwrap_or r []) all
              ∙ sym (ap₂ (λ (a : List Attribute) (es : List Entry). one a ∷ es) (ap (λ r. result_unwrap_or r []) ea) (ap (λ r. result_unwrap_or r []) eo));
        }
    by (Ok attrs) (Err fault) ea eo =
        absurd (let none = sym ok ∙ ap is_ok (first ∙ ap (behind_first form peers (count - 1) f) ea
        ∙ ap (λ (r : Result (List Entry) RibFault). r >>= λ others. Ok (one attrs ∷ others)) eo) in cc)
    by (Err fault) others ea eo = absurd (let none = sym ok ∙ ap is_ok (first ∙ ap (behind_first form peers (count - 1) f) ea) in cc)

pub no_fault : (form : EntryForm) (peers count : ℕ) (bytes : List ℕ) (fault : RibFault) → 0 < count → entry_fields form peers bytes ≡ Err fault → is_ok (entries_of form peers count bytes) ≡ true → ⊥
no_fault form peers count bytes fault lt is ok = let none = sym ok ∙ ap is_ok (by_fields form peers count bytes (Err fault) lt is) in absurd cc

pub in-is : (form : EntryForm) (peers count : ℕ) (bytes : List ℕ) (entries : List Entry) → entries_of form peers count bytes ≡ Ok entries → entries_in form peers count bytes ≡ entries
unfolding entries_in
in-is form peers count bytes entries is = ap (λ r. result_unwrap_or r []) is

-- a RIB by its head
pub no_table : (form : RibForm) (body : List ℕ) → rib_of form None body ≡ Err NoPeerTable
unfolding rib_of
no_table form body = refl

pub head-fault : (form : RibForm) (peers : ℕ) (body : List ℕ) (fault : RibFault) → head form.family body ≡ Err fault → rib_of form (Some peers) body ≡ Err fault
unfolding rib_of
head-fault form peers body fault is = ap (λ (r : Result (ℕ × List ℕ) RibFault). r >>= λ count. entries_of form.entries peers count.0 count.1) is

pub head-then : (form : RibForm) (peers count : ℕ) (body rest : List ℕ) → head form.family body ≡ Ok (count, rest) → rib_of form (Some peers) body ≡ entries_of form.entries peers count rest
unfolding rib_of
head-then form peers count body rest is = ap (λ (r : Result (ℕ × List ℕ) RibFault). r >>= λ c. entries_of form.entries peers c.0 c.1) is

-- ---- entries that are read one by one

-- the next entry, and those behind it
pub entries-next : (form : EntryForm) (peers count : ℕ) (bytes rest : List ℕ) (first : Entry) → 0 < count → entry form peers bytes ≡ Ok (first, rest)
    → entries_of form peers count bytes ≡ with_first first (entries_of form peers (count - 1) rest)
unfolding entries_of
entries-next form peers count bytes rest first some is =
    let e : count ≡ suc (count - 1) = omega (arith, some) in
    ap (λ n. entries_of form peers n bytes) e
    ∙ ap (λ (r : Result (Entry × List ℕ) RibFault). r >>= λ f. entries_of form peers (count - 1) f.1 >>= λ others. Ok (f.0 ∷ others)) is

pub entries-broken : (form : EntryForm) (peers count : ℕ) (bytes : List ℕ) (fault : RibFault) → 0 < count → entry form peers bytes ≡ Err fault → entries_of form peers count bytes ≡ Err fault
unfolding entries_of
entries-broken form peers count bytes fault some is =
    let e : count ≡ suc (count - 1) = omega (arith, some) in
    ap (λ n. entries_of form peers n bytes) e
    ∙ ap (λ (r : Result (Entry × List ℕ) RibFault). r >>= λ f. entries_of form peers (count - 1) f.1 >>= λ others. Ok (f.0 ∷ others)) is

pub entries-done : (form : EntryForm) (peers count : ℕ) (bytes : List ℕ) → count ≡ 0 → (length bytes == 0) ≡ true → entries_of form peers count bytes ≡ Ok []
unfolding entries_of
entries-done form peers count bytes zero_left none = ap (λ n. entries_of form peers n bytes) zero_left ∙ ap (λ b. fault_unless Tail b >>= λ end. Ok []) none

pub entries-more : (form : EntryForm) (peers count : ℕ) (bytes : List ℕ) → count ≡ 0 → (length bytes == 0) ≡ false → entries_of form peers count bytes ≡ Err Tail
unfolding entries_of
entries-more form peers count bytes zero_left some = ap (λ n. entries_of form peers n bytes) zero_left ∙ ap (λ b. fault_unless Tail b >>= λ end. Ok []) some
