-- The attributes of a block, one behind the other.
use Rattle.std.proofs.Common.{◌≡◌, ℕ, zero, suc, ◌+◌, ◌<◌, ◌≤◌, cond, true, false, List, [], ◌∷◌, ◌++◌, length, take, drop, Some, None, Result, Ok, Err, is_ok, refl, sym, ap, subst, ◌∙◌, arith}
use Rattle.std.specs.Result.{result_unwrap_or}
use Rattle.std.proofs.lemmas.Bool.{eq-eqb, ne_eqb}
use Rattle.std.proofs.lemmas.List.{take-append-drop, length-take-le, length-append, append_assoc}
use Rattle.byteorder.specs.Endian.{big_number}
use Rattle.path_attrs.specs.declared.block.AttrCut.{AttrCut}
use Rattle.path_attrs.specs.Fields.{◌>>=◌, octets, number}
use Rattle.path_attrs.specs.Attributes.{Attribute, attr_cut, length_octets, attribute, attributes_within, attributes_of, attributes_in, first_value, IsEncoded, AreEncoded, BlockLaw}
use Rattle.path_attrs.proofs.Reading.{number_at, number_encoded, octets_encoded, octets_then, number_then, apart, ok_same}
use Rattle.path_attrs.proofs.Encodings.{big_number-take, big_number-one, one_octet}

-- the octets begin with an attribute's encoding
record Begins (a : Attribute) (rest bytes : List ℕ) : Type 0 where
  prefix : List ℕ
  encoded : IsEncoded a prefix
  parts : bytes ≡ prefix ++ rest

-- an attribute of fields that are whole
four_fields : (bytes : List ℕ) → 1 ≤ length bytes → 1 ≤ length (drop 1 bytes)
    → let flags = big_number 1 bytes in let code = big_number 1 (drop 1 bytes) in let k = length_octets flags in let b2 = drop 1 (drop 1 bytes) in
    k ≤ length b2 → big_number k b2 ≤ length (drop k b2)
    → Begins (record { code = code; value = take (big_number k b2) (drop k b2) }) (drop (big_number k b2) (drop k b2)) bytes
four_fields bytes h1 h2 h3 h4 =
    let flags = big_number 1 bytes in
    let code = big_number 1 (drop 1 bytes) in
    let k = length_octets flags in
    let b2 = drop 1 (drop 1 bytes) in
    let b3 = drop k b2 in
    let len = big_number k b2 in
    record {
      prefix = flags ∷ code ∷ (take k b2 ++ take len b3);
      encoded = record {
        flags = flags;
        len = take k b2;
        width = length-take-le k b2 h3;
        counts = big_number-take k b2 h3 ∙ sym (length-take-le len b3 h4);
        parts = refl;
      };
      parts = one_octet bytes h1 ∙ ap (λ r. flags ∷ r) (one_octet (drop 1 bytes) h2 ∙ ap (λ r. code ∷ r)
          (sym (take-append-drop k b2) ∙ ap (λ r. take k b2 ++ r) (sym (take-append-drop len b3)) ∙ sym (append_assoc (take k b2) (take len b3) (drop len b3))));
    }

-- the steps of an attribute
after_len : ℕ → ℕ × List ℕ → Result (Attribute × List ℕ) AttrCut
after_len code len = octets attr_cut len.0 len.1 >>= λ value. Ok (record { code = code; value = value.0 }, value.1)

after_code : ℕ → ℕ × List ℕ → Result (Attribute × List ℕ) AttrCut
after_code flags code = number attr_cut (length_octets flags) code.1 >>= after_len code.0

after_flags : ℕ × List ℕ → Result (Attribute × List ℕ) AttrCut
after_flags flags = number attr_cut 1 flags.1 >>= after_code flags.0

attribute_back : (bytes : List ℕ) (a : Attribute) (rest : List ℕ) → attribute bytes ≡ Ok (a, rest) → Begins a rest bytes
unfolding attribute after_len after_code after_flags
attribute_back bytes a rest is =
    let s1 = number_then attr_cut 1 bytes after_flags (a, rest) is in
    let b1 = drop 1 bytes in
    let s2 = number_then attr_cut 1 b1 (after_code (big_number 1 bytes)) (a, rest) s1.1 in
    let b2 = drop 1 b1 in
    let k = length_octets (big_number 1 bytes) in
    let s3 = number_then attr_cut k b2 (after_len (big_number 1 b1)) (a, rest) s2.1 in
    let b3 = drop k b2 in
    let l = big_number k b2 in
    let s4 = octets_then attr_cut l b3 (λ value. Ok (record { code = big_number 1 b1; value = value.0 }, value.1)) (a, rest) s3.1 in
    let same = ok_same (record { code = big_number 1 b1; value = take l b3 }, drop l b3) (a, rest) s4.1 in
    subst (λ (x : Attribute × List ℕ). Begins x.0 x.1 bytes) same (four_fields bytes s1.0 s2.0 s3.0 s4.0)

-- read from its encoding
attribute_at : (a : Attribute) (prefix rest : List ℕ) → IsEncoded a prefix → attribute (prefix ++ rest) ≡ Ok (a, rest)
unfolding attribute after_len after_code after_flags
attribute_at a prefix rest s =
    let behind = a.value ++ rest in
    let k = length_octets s.flags in
    let all : prefix ++ rest ≡ s.flags ∷ a.code ∷ (s.len ++ behind) = ap (λ f. f ++ rest) s.parts ∙ ap (λ t. s.flags ∷ a.code ∷ t) (append_assoc s.len a.value rest) in
    let flags : number attr_cut 1 (s.flags ∷ a.code ∷ (s.len ++ behind)) ≡ Ok (s.flags, a.code ∷ (s.len ++ behind)) =
    number_at attr_cut 1 (s.flags ∷ a.code ∷ (s.len ++ behind)) (omega arith) ∙ ap (λ x. Ok (x, a.code ∷ (s.len ++ behind))) (big_number-one s.flags (a.code ∷ (s.len ++ behind))) in
    let code : number attr_cut 1 (a.code ∷ (s.len ++ behind)) ≡ Ok (a.code, s.len ++ behind) =
    number_at attr_cut 1 (a.code ∷ (s.len ++ behind)) (omega arith) ∙ ap (λ x. Ok (x, s.len ++ behind)) (big_number-one a.code (s.len ++ behind)) in
    let len = number_encoded attr_cut k s.len behind (length a.value) s.width s.counts in
    let value = octets_encoded attr_cut a.value rest in
    ap attribute all ∙ ap (λ r. r >>= after_flags) flags ∙ ap (λ r. r >>= after_code s.flags) code ∙ ap (λ r. r >>= after_len a.code) len
    ∙ ap (λ (r : Result (List ℕ × List ℕ) AttrCut). r >>= λ v. Ok (record { code = a.code; value = v.0 }, v.1)) value

pub shorter : (bytes : List ℕ) (a : Attribute) (rest : List ℕ) → attribute bytes ≡ Ok (a, rest) → length rest < length bytes
shorter bytes a rest is =
    let b = attribute_back bytes a rest is in
    let two : 2 ≤ length b.prefix = omega (arith, ap length b.encoded.parts) in
    let all : length bytes ≡ length b.prefix + length rest = ap length b.parts ∙ length-append b.prefix rest in
    omega arith

-- the bound does not matter where it is great enough
same_within : (n m : ℕ) (bytes : List ℕ) → length bytes ≤ n → length bytes ≤ m → attributes_within n bytes ≡ attributes_within m bytes
unfolding attributes_within
same_within n m [] hn hm = refl
same_within zero m (x ∷ xs) hn hm = absurd (omega arith)
same_within (suc n) zero (x ∷ xs) hn hm = absurd (omega arith)
same_within (suc n) (suc m) (x ∷ xs) hn hm =
    of_first (attribute (x ∷ xs)) refl (λ rest h. same_within n m rest (omega arith) (omega arith))
  where
    of_first : (read : Result (Attribute × List ℕ) AttrCut) → attribute (x ∷ xs) ≡ read → ((rest : List ℕ) → length rest < length (x ∷ xs) → attributes_within n rest ≡ attributes_within m rest)
        → (read >>= λ first. attributes_within n first.1 >>= λ others. Ok (first.0 ∷ others)) ≡ (read >>= λ first. attributes_within m first.1 >>= λ others. Ok (first.0 ∷ others))
    of_first (Ok first) is same = ap (λ (r : Result (List Attribute) AttrCut). r >>= λ others. Ok (first.0 ∷ others)) (same first.1 (shorter (x ∷ xs) first.0 first.1 is))
    of_first (Err e) is same = refl

-- one attribute, and those behind it
pub attributes_of-next : (bytes : List ℕ) (a : Attribute) (rest : List ℕ) → attribute bytes ≡ Ok (a, rest) → attributes_of bytes ≡ (attributes_of rest >>= λ others. Ok (a ∷ others))
unfolding attributes_of attributes_within
attributes_of-next [] a rest is = absurd (let h = shorter [] a rest is in omega arith)
attributes_of-next (x ∷ xs) a rest is =
    let h = shorter (x ∷ xs) a rest is in
    ap (λ (r : Result (Attribute × List ℕ) AttrCut). r >>= λ first. attributes_within (length xs) first.1 >>= λ others. Ok (first.0 ∷ others)) is
    ∙ ap (λ (r : Result (List Attribute) AttrCut). r >>= λ others. Ok (a ∷ others)) (same_within (length xs) (length rest) rest (omega arith) (omega arith))

pub attributes_of-cut : (bytes : List ℕ) (e : AttrCut) → 0 < length bytes → attribute bytes ≡ Err e → attributes_of bytes ≡ Err e
unfolding attributes_of attributes_within
attributes_of-cut [] e lt is = absurd (omega arith)
attributes_of-cut (x ∷ xs) e lt is = ap (λ (r : Result (Attribute × List ℕ) AttrCut). r >>= λ first. attributes_within (length xs) first.1 >>= λ others. Ok (first.0 ∷ others)) is

pub attributes_of-none : attributes_of [] ≡ Ok []
unfolding attributes_of attributes_within
attributes_of-none = refl

-- what one attribute at the prefix changes
consed_is_ok : (a : Attribute) (read : Result (List Attribute) AttrCut) → is_ok (read >>= λ others. Ok (a ∷ others)) ≡ is_ok read
consed_is_ok a (Ok others) = refl
consed_is_ok a (Err e) = refl

pub is_ok-next : (bytes : List ℕ) (a : Attribute) (rest : List ℕ) → attribute bytes ≡ Ok (a, rest) → is_ok (attributes_of bytes) ≡ is_ok (attributes_of rest)
is_ok-next bytes a rest is = ap is_ok (attributes_of-next bytes a rest is) ∙ consed_is_ok a (attributes_of rest)

pub attributes_in-next : (bytes : List ℕ) (a : Attribute) (rest : List ℕ) → attribute bytes ≡ Ok (a, rest) → is_ok (attributes_of bytes) ≡ true
    → (is_ok (attributes_of rest) ≡ true) × (attributes_in bytes ≡ a ∷ attributes_in rest)
unfolding attributes_in
attributes_in-next bytes a rest is ok =
    let whole : is_ok (attributes_of rest) ≡ true = sym (is_ok-next bytes a rest is) ∙ ok in
    (whole, ap (λ r. result_unwrap_or r []) (attributes_of-next bytes a rest is) ∙ consed (attributes_of rest) whole)
  where
    consed : (read : Result (List Attribute) AttrCut) → is_ok read ≡ true → result_unwrap_or (read >>= λ others. Ok (a ∷ others)) [] ≡ a ∷ result_unwrap_or read []
    consed (Ok others) h = refl
    consed (Err e) h = absurd cc

-- where no attribute is at the prefix, there is none, or the block is cut
pub attributes_in-end : (bytes : List ℕ) (e : AttrCut) → attribute bytes ≡ Err e → attributes_in bytes ≡ []
unfolding attributes_in
attributes_in-end [] e is = ap (λ r. result_unwrap_or r []) attributes_of-none
attributes_in-end (x ∷ xs) e is = ap (λ r. result_unwrap_or r []) (attributes_of-cut (x ∷ xs) e (omega arith) is)

pub attributes_in-whole : (bytes : List ℕ) → is_ok (attributes_of bytes) ≡ true → Ok (attributes_in bytes) ≡ attributes_of bytes
unfolding attributes_in
attributes_in-whole bytes ok = at (attributes_of bytes) ok
  where
    at : (read : Result (List Attribute) AttrCut) → is_ok read ≡ true → Ok (result_unwrap_or read []) ≡ read
    at (Ok attrs) h = refl
    at (Err e) h = absurd cc

-- the law of blocks
encoded_within : (n : ℕ) (bytes : List ℕ) (attrs : List Attribute) → attributes_within n bytes ≡ Ok attrs → AreEncoded attrs bytes
unfolding attributes_within
encoded_within n [] attrs is = subst (λ l. AreEncoded l []) (ok_same {E = AttrCut} [] attrs is) refl
encoded_within zero (x ∷ xs) attrs is = absurd (apart attr_cut attrs is)
encoded_within (suc n) (x ∷ xs) attrs is = of_first (attribute (x ∷ xs)) refl is (λ rest others h. encoded_within n rest others h)
  where
    of_others : (first : Attribute × List ℕ) (read : Result (List Attribute) AttrCut) → attribute (x ∷ xs) ≡ Ok first → attributes_within n first.1 ≡ read
        → (read >>= λ others. Ok (first.0 ∷ others)) ≡ Ok attrs
        → ((rest : List ℕ) (others : List Attribute) → attributes_within n rest ≡ Ok others → AreEncoded others rest) → AreEncoded attrs (x ∷ xs)
    of_others first (Ok others) prefix behind h hyp =
        let b = attribute_back (x ∷ xs) first.0 first.1 prefix in
        subst (λ l. AreEncoded l (x ∷ xs)) (ok_same {E = AttrCut} (first.0 ∷ others) attrs h) (b.prefix, first.1, b.encoded, hyp first.1 others behind, b.parts)
    of_others first (Err e) prefix behind h hyp = absurd (apart e attrs h)

    of_first : (read : Result (Attribute × List ℕ) AttrCut) → attribute (x ∷ xs) ≡ read → (read >>= λ first. attributes_within n first.1 >>= λ others. Ok (first.0 ∷ others)) ≡ Ok attrs
        → ((rest : List ℕ) (others : List Attribute) → attributes_within n rest ≡ Ok others → AreEncoded others rest) → AreEncoded attrs (x ∷ xs)
    of_first (Ok first) prefix h hyp = of_others first (attributes_within n first.1) prefix refl h hyp
    of_first (Err e) prefix h hyp = absurd (apart e attrs h)

of_encoding : (attrs : List Attribute) (bytes : List ℕ) → AreEncoded attrs bytes → attributes_of bytes ≡ Ok attrs
of_encoding [] bytes s = ap attributes_of s ∙ attributes_of-none
of_encoding (a ∷ attrs) bytes s =
    attributes_of-next bytes a s.1 (ap attribute s.4 ∙ attribute_at a s.0 s.1 s.2) ∙ ap (λ (r : Result (List Attribute) AttrCut). r >>= λ others. Ok (a ∷ others)) (of_encoding attrs s.1 s.3)

pub block_law : BlockLaw
unfolding attributes_of
block_law block attrs = (encoded_within (length block) block attrs, of_encoding attrs block)

-- the ways out of the loop over a block
pub cut_block : (block rest : List ℕ) (e given : AttrCut) → 0 < length rest → attribute rest ≡ Err e → is_ok (attributes_of rest) ≡ is_ok (attributes_of block) → Err given ≡ attributes_of block
cut_block block rest e given lt is same = at (attributes_of block) (sym same ∙ ap is_ok (attributes_of-cut rest e lt is))
  where
    at : (read : Result (List Attribute) AttrCut) → is_ok read ≡ false → Err given ≡ read
    at (Ok attrs) h = absurd cc
    at (Err e) h = refl

pub whole_block : (block rest : List ℕ) → rest ≡ [] → is_ok (attributes_of rest) ≡ is_ok (attributes_of block) → is_ok (attributes_of block) ≡ true
whole_block block rest none same = sym same ∙ ap (λ r. is_ok (attributes_of r)) none ∙ ap is_ok attributes_of-none

-- the first attribute of a code: at the prefix, behind it, or nowhere
pub first_here : (code : ℕ) (bytes : List ℕ) (a : Attribute) (rest : List ℕ) → attribute bytes ≡ Ok (a, rest) → is_ok (attributes_of bytes) ≡ true → a.code ≡ code
    → Some a.value ≡ first_value code (attributes_in bytes)
first_here code bytes a rest is ok same =
    ap (λ b. cond b (Some a.value) (first_value code (attributes_in rest))) (sym (eq-eqb a.code code same)) ∙ sym (ap (first_value code) (attributes_in-next bytes a rest is ok).1)

pub first_behind : (code : ℕ) (bytes : List ℕ) (a : Attribute) (rest : List ℕ) → attribute bytes ≡ Ok (a, rest) → is_ok (attributes_of bytes) ≡ true → (a.code ≡ code → ⊥)
    → (is_ok (attributes_of rest) ≡ true) × (first_value code (attributes_in rest) ≡ first_value code (attributes_in bytes))
first_behind code bytes a rest is ok other =
    let next = attributes_in-next bytes a rest is ok in
    (next.0, ap (λ b. cond b (Some a.value) (first_value code (attributes_in rest))) (sym (ne_eqb a.code code other)) ∙ sym (ap (first_value code) next.1))

pub first_none : (code : ℕ) (bytes : List ℕ) (e : AttrCut) → attribute bytes ≡ Err e → None ≡ first_value code (attributes_in bytes)
first_none code bytes e is = ap (first_value code) (sym (attributes_in-end bytes e is))
