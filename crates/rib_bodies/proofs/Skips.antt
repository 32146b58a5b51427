-- Fields that are passed over as one.
use Rattle.std.proofs.Common.{◌≡◌, ℕ, ◌+◌, ◌*◌, ◌<◌, ◌≤◌, Bool, true, false, cond, ltb, leb, List, length, take, drop, Result, Ok, Err, refl, sym, ap, ◌∙◌, length-drop, drop-drop, arith}
use Rattle.std.proofs.lemmas.Bool.{ltb-true, ltb-false, lt-ltb, le-ltb, le-leb, lt-leb}
use Rattle.mrt_header.specs.declared.record_kind.Family.{Family}
use Rattle.mrt_header.specs.Kinds.{address_octets}
use Rattle.path_attrs.specs.declared.fault.RibFault.{RibFault}
use Rattle.path_attrs.specs.declared.fault.RibFault.TheVariants.{Cut, PrefixLong}
use Rattle.path_attrs.specs.Fields.{◌>>=◌, octets, number, fault_unless}
use Rattle.rib_bodies.specs.TableDump.{behind_route_fields, behind_fields}
use Rattle.rib_bodies.specs.PeerTable.{behind_peer as behind_one}
use Rattle.rib_bodies.specs.Encoding.{octets_of_ip, octets_of_as}

-- so many octets, and those behind them, or the fault
abbrev taken : {E : Type 0} → E → ℕ → List ℕ → Bool → Result (List ℕ × List ℕ) E
taken fault n bytes b = cond b (Err fault) (Ok (take n bytes, drop n bytes))

-- two fields that are read one behind the other, of which only the rest is wanted
pub skip_two : {B E : Type 0} (fault : E) (n m : ℕ) (bytes : List ℕ) (f : List ℕ → Result B E)
    → (octets fault n bytes >>= λ x. (octets fault m x.1 >>= λ y. f y.1)) ≡ (octets fault (n + m) bytes >>= λ x. f x.1)
skip_two {B} {E} fault n m bytes f = by (ltb (length bytes) n) refl
  where
    both : Result B E
    both = octets fault (n + m) bytes >>= λ x. f x.1

    stops : length bytes < n + m → Err fault ≡ both
    stops less = sym (ap (λ b. taken fault (n + m) bytes b >>= λ x. f x.1) (lt-ltb (length bytes) (n + m) less))

    goes : n + m ≤ length bytes → f (drop m (drop n bytes)) ≡ both
    goes fits =
        ap f (drop-drop m n bytes)
        ∙ sym (ap (λ b. taken fault (n + m) bytes b >>= λ x. f x.1) (le-ltb (length bytes) (n + m) fits))

    behind : n ≤ length bytes → (b : Bool) → ltb (length (drop n bytes)) m ≡ b
        → (taken fault m (drop n bytes) b >>= λ y. f y.1) ≡ both
    behind first true is = stops (omega (arith, first, ltb-true (length (drop n bytes)) m is, length-drop n bytes))
    behind first false is = goes (omega (arith, first, ltb-false (length (drop n bytes)) m is, length-drop n bytes))

    by : (b : Bool) → ltb (length bytes) n ≡ b
        → (taken fault n bytes b >>= λ x. (octets fault m x.1 >>= λ y. f y.1)) ≡ both
    by true is = stops (omega (arith, ltb-true (length bytes) n is))
    by false is = behind (ltb-false (length bytes) n is) (ltb (length (drop n bytes)) m) refl

-- ---- a TABLE_DUMP body, whose addresses have so many octets

abbrev behind_length : Family → ℕ × List ℕ → Result (List ℕ) RibFault
behind_length family len = fault_unless PrefixLong (leb len.0 (8 * address_octets family)) >>= λ fits. behind_route_fields family len.1

-- view, sequence and prefix are one field
head_is : (family : Family) (a : ℕ) (body : List ℕ) → a ≡ address_octets family
    → behind_fields family body ≡ (octets Cut (4 + a) body >>= λ prefix. (number Cut 1 prefix.1 >>= behind_length family))
unfolding behind_fields
head_is family a body is =
    skip_two Cut 2 2 body (λ rest. octets Cut (address_octets family) rest >>= λ prefix. (number Cut 1 prefix.1 >>= behind_length family))
    ∙ skip_two Cut 4 (address_octets family) body (λ rest. number Cut 1 rest >>= behind_length family)
    ∙ ap (λ n. octets Cut (4 + n) body >>= λ prefix. (number Cut 1 prefix.1 >>= behind_length family)) (sym is)

-- status, time, and the address and the AS number of the peer are one
peer_is : (family : Family) (a : ℕ) (fields : List ℕ) → a ≡ address_octets family
    → behind_route_fields family fields ≡ (octets Cut (7 + a) fields >>= λ peer. Ok peer.1)
peer_is family a fields is =
    let n = address_octets family in
    let sum : 5 + n + 2 ≡ 7 + a = omega (arith, is) in
    skip_two Cut 1 4 fields (λ rest. octets Cut n rest >>= λ ip. (octets Cut 2 ip.1 >>= λ as_number. Ok as_number.1))
    ∙ skip_two Cut 5 n fields (λ rest. octets Cut 2 rest >>= λ as_number. Ok as_number.1)
    ∙ skip_two Cut (5 + n) 2 fields (λ rest. Ok rest)
    ∙ ap (λ k. octets Cut k fields >>= λ peer. Ok peer.1) sum

module _ (family : Family) (a : ℕ) (body : List ℕ) (octets_are : a ≡ address_octets family) where
  pub head_cut : octets Cut (4 + a) body ≡ Err Cut → behind_fields family body ≡ Err Cut
  head_cut is =
      head_is family a body octets_are ∙ ap (λ (r : Result (List ℕ × List ℕ) RibFault). r >>= λ prefix. (number Cut 1 prefix.1 >>= behind_length family)) is

  behind_head : (skipped rest : List ℕ) → octets Cut (4 + a) body ≡ Ok (skipped, rest) → behind_fields family body ≡ (number Cut 1 rest >>= behind_length family)
  behind_head skipped rest is =
      head_is family a body octets_are ∙ ap (λ (r : Result (List ℕ × List ℕ) RibFault). r >>= λ prefix. (number Cut 1 prefix.1 >>= behind_length family)) is

  pub length_cut : (skipped rest : List ℕ) → octets Cut (4 + a) body ≡ Ok (skipped, rest) → number Cut 1 rest ≡ Err Cut → behind_fields family body ≡ Err Cut
  length_cut skipped rest first is = behind_head skipped rest first ∙ ap (λ (r : Result (ℕ × List ℕ) RibFault). r >>= behind_length family) is

  behind_number : (skipped rest : List ℕ) (len : ℕ) (fields : List ℕ) → octets Cut (4 + a) body ≡ Ok (skipped, rest) → number Cut 1 rest ≡ Ok (len, fields)
      → behind_fields family body ≡ behind_length family (len, fields)
  behind_number skipped rest len fields first is = behind_head skipped rest first ∙ ap (λ (r : Result (ℕ × List ℕ) RibFault). r >>= behind_length family) is

  pub prefix_long : (skipped rest : List ℕ) (len : ℕ) (fields : List ℕ) → octets Cut (4 + a) body ≡ Ok (skipped, rest) → number Cut 1 rest ≡ Ok (len, fields)
      → 8 * a < len → behind_fields family body ≡ Err PrefixLong
  prefix_long skipped rest len fields first second long =
      behind_number skipped rest len fields first second
      ∙ ap (λ b. fault_unless PrefixLong b >>= λ fits. behind_route_fields family fields) (lt-leb len (8 * address_octets family) (omega (arith, octets_are, long)))

  pub behind_peer : (skipped rest : List ℕ) (len : ℕ) (fields : List ℕ) → octets Cut (4 + a) body ≡ Ok (skipped, rest) → number Cut 1 rest ≡ Ok (len, fields)
      → len ≤ 8 * a → behind_fields family body ≡ (octets Cut (7 + a) fields >>= λ peer. Ok peer.1)
  behind_peer skipped rest len fields first second fits =
      behind_number skipped rest len fields first second
      ∙ ap (λ b. fault_unless PrefixLong b >>= λ fits. behind_route_fields family fields) (le-leb len (8 * address_octets family) (omega (arith, octets_are, fits)))
      ∙ peer_is family a fields octets_are

-- ---- a peer of a peer table

abbrev behind_type : ℕ × List ℕ → Result (List ℕ) RibFault
behind_type kind =
    octets Cut 4 kind.1 >>= λ bgp_id. (octets Cut (octets_of_ip kind.0) bgp_id.1 >>= λ ip. (octets Cut (octets_of_as kind.0) ip.1 >>= λ as_number. Ok as_number.1))

pub no_type : (bytes : List ℕ) → number Cut 1 bytes ≡ Err Cut → behind_one bytes ≡ Err Cut
unfolding behind_one
no_type bytes is = ap (λ (r : Result (ℕ × List ℕ) RibFault). r >>= behind_type) is

-- BGP identifier, address and AS number are one field
pub at_once : (bytes rest : List ℕ) (kind n : ℕ) → number Cut 1 bytes ≡ Ok (kind, rest) → n ≡ 4 + octets_of_ip kind + octets_of_as kind
    → behind_one bytes ≡ (octets Cut n rest >>= λ fields. Ok fields.1)
unfolding behind_one
at_once bytes rest kind n is many =
    let ip = octets_of_ip kind in
    let as_number = octets_of_as kind in
    ap (λ (r : Result (ℕ × List ℕ) RibFault). r >>= behind_type) is
    ∙ skip_two Cut 4 ip rest (λ more. octets Cut as_number more >>= λ last. Ok last.1)
    ∙ skip_two Cut (4 + ip) as_number rest (λ more. Ok more)
    ∙ ap (λ k. octets Cut k rest >>= λ fields. Ok fields.1) (sym many)
