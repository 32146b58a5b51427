-- The fields of a header are read from its twelve octets alone.
use Rattle.std.proofs.Common.{◌≡◌, ℕ, zero, suc, ◌+◌, ◌*◌, ◌^◌, ◌≤◌, List, ◌++◌, length, take, drop, refl, sym, ap, ◌∙◌, arith}
use Rattle.std.proofs.Math.Path.{ap₂}
use Rattle.std.proofs.lemmas.List.{drop-append-le, get_or_append_left, take-append-drop, length-take, length-drop}
use Rattle.byteorder.specs.Endian.{big_from, big_number}
use Rattle.mrt_header.specs.Headers.{kind_in, subtype_in, length_in}

prefix_from : (n i : ℕ) (prefix rest : List ℕ) → i + n ≤ length prefix → big_from i n (prefix ++ rest) ≡ big_from i n prefix
prefix_from zero i prefix rest le = refl
prefix_from (suc n) i prefix rest le =
    ap₂ (λ (d m : ℕ). d * 256 ^ n + m) (get_or_append_left prefix rest 0 i (omega arith)) (prefix_from n (suc i) prefix rest (omega arith))

field_of_prefix : (k n : ℕ) (prefix rest : List ℕ) → k + n ≤ length prefix → big_number n (drop k (prefix ++ rest)) ≡ big_number n (drop k prefix)
field_of_prefix k n prefix rest le =
    ap (big_number n) (drop-append-le k prefix rest (omega arith)) ∙ prefix_from n 0 (drop k prefix) rest (omega (arith, length-drop k prefix))

-- the fields of the octets that begin with these twelve
pub record SameFields (octets header : List ℕ) : Type 0 where
  pub kind : kind_in octets ≡ kind_in header
  pub subtype : subtype_in octets ≡ subtype_in header
  pub len : length_in octets ≡ length_in header

pub fields_of_prefix : (header rest : List ℕ) → 12 ≤ length header → SameFields (header ++ rest) header
fields_of_prefix header rest le = record {
  kind = field_of_prefix 4 2 header rest (omega arith);
  subtype = field_of_prefix 6 2 header rest (omega arith);
  len = field_of_prefix 8 4 header rest (omega arith);
}

pub fields_of_take : (octets : List ℕ) → 12 ≤ length octets → SameFields octets (take 12 octets)
fields_of_take octets le =
    let whole : take 12 octets ++ drop 12 octets ≡ octets = take-append-drop 12 octets in
    let same = fields_of_prefix (take 12 octets) (drop 12 octets) (omega (arith, length-take 12 octets)) in
    record {
      kind = ap kind_in (sym whole) ∙ same.kind;
      subtype = ap subtype_in (sym whole) ∙ same.subtype;
      len = ap length_in (sym whole) ∙ same.len;
    }
