-- The segments of a value, one behind the other.
use Rattle.std.proofs.Common.{◌≡◌, ℕ, zero, suc, ◌+◌, ◌*◌, ◌<◌, ◌≤◌, ◌==◌, ◌&&◌, Bool, cond, true, false, ltb, leb, List, [], ◌∷◌, ◌++◌, length, take, drop, Option, Some, None, is_some, unwrap_or}
use Rattle.std.proofs.Common.{◌-◌, get_or, option_map, option_and_then, refl, sym, ap, ap₂, subst, ◌∙◌, arith, length-drop}
use Rattle.std.proofs.lemmas.Bool.{ltb-true, lt-ltb, leb-true, le-leb, eqb-true, and_parts, and_from}
use Rattle.std.proofs.lemmas.List.{take-append-drop, length-take-le, length-append, append_assoc, take_all, drop_all}
use Rattle.std.proofs.Math.Seq.{drop-append_seam, take-add}
use Rattle.byteorder.specs.Endian.{big_number}
use Rattle.path_segments.specs.declared.as_path.Width.{Width}
use Rattle.path_segments.specs.declared.as_path.Width.TheVariants.{Four}
use Rattle.path_segments.specs.declared.as_path.SegKind.{SegKind}
use Rattle.path_segments.specs.declared.as_path.SegKind.TheVariants.{Set, Sequence, ConfedSequence, ConfedSet}
use Rattle.path_segments.specs.declared.as_path.Segment.{Segment}
use Rattle.path_segments.specs.Segments.{octets_in, code_of, segment_kind, big_numbers, segment_of, segment, segments_within, segments_of, segments_in, NumbersAreEncoded, SegmentIsEncoded}
use Rattle.path_segments.specs.Segments.{SegmentsAreEncoded, ValueLaw}
use Rattle.path_attrs.proofs.Encodings.{big_number-append, big_number-take}

-- numbers and their octets
numbers-back : (n count : ℕ) (bytes : List ℕ) → n * count ≤ length bytes → NumbersAreEncoded n (big_numbers n count bytes) (take (n * count) bytes)
numbers-back n zero bytes h = let e : n * 0 ≡ 0 = omega arith in ap (λ k. take k bytes) e
numbers-back n (suc count) bytes h =
    let e : n * suc count ≡ n + n * count = omega arith in (
      take n bytes,
      take (n * count) (drop n bytes),
      length-take-le n bytes (omega arith),
      big_number-take n bytes (omega arith),
      numbers-back n count (drop n bytes) (omega (arith, length-drop n bytes)),
      ap (λ k. take k bytes) e ∙ take-add n (n * count) bytes,
    )

pub numbers-length : (n count : ℕ) (bytes : List ℕ) → length (big_numbers n count bytes) ≡ count
numbers-length n zero bytes = refl
numbers-length n (suc count) bytes = ap suc (numbers-length n count (drop n bytes))

pub numbers-at : (n : ℕ) (xs octets rest : List ℕ) → NumbersAreEncoded n xs octets → (length octets ≡ n * length xs) × (big_numbers n (length xs) (octets ++ rest) ≡ xs)
numbers-at n [] octets rest s = (ap length s ∙ (let e : 0 ≡ n * 0 = omega arith in e), refl)
numbers-at n (x ∷ xs) octets rest s =
    let prefix = s.0 in
    let more = s.1 in
    let behind = numbers-at n xs more rest s.4 in
    let all : octets ++ rest ≡ prefix ++ (more ++ rest) = ap (λ o. o ++ rest) s.5 ∙ append_assoc prefix more rest in
    let first : big_number n (octets ++ rest) ≡ x = ap (big_number n) all ∙ big_number-append n prefix (more ++ rest) (omega (arith, s.2)) ∙ s.3 in
    let left : drop n (octets ++ rest) ≡ more ++ rest = ap (drop n) all ∙ subst (λ k. drop k (prefix ++ (more ++ rest)) ≡ more ++ rest) s.2 (drop-append_seam prefix (more ++ rest)) in
    (omega (arith, ap length s.5, length-append prefix more, s.2, behind.0), ap₂ (λ y ys. y ∷ ys) first (ap (big_numbers n (length xs)) left ∙ behind.1))

-- the kinds and their codes
kind-back : (code : ℕ) (kind : SegKind) → segment_kind code ≡ Some kind → code_of kind ≡ code
kind-back code kind is = by1 (code == 1) refl is
  where
    chosen : (k : SegKind) → code_of k ≡ code → ◌≡◌ {A = Option SegKind} (Some k) (Some kind) → code_of kind ≡ code
    chosen k e h = let same : k ≡ kind = cc in subst (λ x. code_of x ≡ code) same e

    none : ◌≡◌ {A = Option SegKind} None (Some kind) → code_of kind ≡ code
    none h = absurd cc

    by4 : (b : Bool) → (code == 4) ≡ b → cond b (Some ConfedSet) None ≡ Some kind → code_of kind ≡ code
    by4 true t h = chosen ConfedSet (sym (eqb-true code 4 t)) h
    by4 false t h = none h

    by3 : (b : Bool) → (code == 3) ≡ b → cond b (Some ConfedSequence) (cond (code == 4) (Some ConfedSet) None) ≡ Some kind → code_of kind ≡ code
    by3 true t h = chosen ConfedSequence (sym (eqb-true code 3 t)) h
    by3 false t h = by4 (code == 4) refl h

    by2 : (b : Bool) → (code == 2) ≡ b → cond b (Some Sequence) (cond (code == 3) (Some ConfedSequence) (cond (code == 4) (Some ConfedSet) None)) ≡ Some kind → code_of kind ≡ code
    by2 true t h = chosen Sequence (sym (eqb-true code 2 t)) h
    by2 false t h = by3 (code == 3) refl h

    by1 : (b : Bool) → (code == 1) ≡ b → cond b (Some Set) (cond (code == 2) (Some Sequence)
        (cond (code == 3) (Some ConfedSequence) (cond (code == 4) (Some ConfedSet) None))) ≡ Some kind → code_of kind ≡ code
    by1 true t h = chosen Set (sym (eqb-true code 1 t)) h
    by1 false t h = by2 (code == 2) refl h

kind-at : (kind : SegKind) → segment_kind (code_of kind) ≡ Some kind
kind-at Set = refl
kind-at Sequence = refl
kind-at ConfedSequence = refl
kind-at ConfedSet = refl

-- the octets begin with a segment's encoding
record Begins (width : Width) (s : Segment) (rest bytes : List ℕ) : Type 0 where
  prefix : List ℕ
  encoded : SegmentIsEncoded width s prefix
  parts : bytes ≡ prefix ++ rest

same_pair : (x y : Segment × List ℕ) → ◌≡◌ {A = Option (Segment × List ℕ)} (Some x) (Some y) → x ≡ y
same_pair x y h = cc

none_apart : {A : Type 0} (x : A) → ◌≡◌ {A = Option A} None (Some x) → ⊥
none_apart x h = cc

kind_then : (width : Width) (code count : ℕ) (octets : List ℕ) (s : Segment) (rest : List ℕ) (k : Option SegKind) → segment_kind code ≡ k → 0 < count → octets_in width * count ≤ length octets
    → option_map (segment_of width count octets) k ≡ Some (s, rest) → Begins width s rest (code ∷ count ∷ octets)
kind_then width code count octets s rest None t some fits h = absurd (none_apart (s, rest) h)
kind_then width code count octets s rest (Some kind) t some fits h =
    let len = numbers-length (octets_in width) count octets in
    let n = octets_in width * count in
    subst (λ (x : Segment × List ℕ). Begins width x.0 x.1 (code ∷ count ∷ octets)) (same_pair (segment_of width count octets kind) (s, rest) h)
    (record {
      prefix = code ∷ count ∷ take n octets;
      encoded = record {
        octets = take n octets;
        some = omega arith;
        ases = numbers-back (octets_in width) count octets fits;
        parts = ap₂ (λ a b. a ∷ b ∷ take n octets) (sym (kind-back code kind t)) (sym len);
      };
      parts = ap (λ o. code ∷ count ∷ o) (sym (take-append-drop n octets));
    })

segment-back : (width : Width) (bytes : List ℕ) (s : Segment) (rest : List ℕ) → segment width bytes ≡ Some (s, rest) → Begins width s rest bytes
unfolding segment
segment-back width [] s rest is = absurd (none_apart (s, rest) is)
segment-back width (code ∷ []) s rest is = absurd (none_apart (s, rest) is)
segment-back width (code ∷ count ∷ octets) s rest is = by_test (ltb 0 count && leb (octets_in width * count) (length octets)) refl is
  where
    by_test : (b : Bool) → (ltb 0 count && leb (octets_in width * count) (length octets)) ≡ b → cond b (option_map (segment_of width count octets) (segment_kind code)) None ≡ Some (s, rest)
        → Begins width s rest (code ∷ count ∷ octets)
    by_test true t h =
        let p = and_parts (ltb 0 count) (leb (octets_in width * count) (length octets)) t in
        kind_then width code count octets s rest (segment_kind code) refl (ltb-true 0 count p.0) (leb-true (octets_in width * count) (length octets) p.1) h
    by_test false t h = absurd (none_apart (s, rest) h)

-- read from its encoding
segment-at : (width : Width) (s : Segment) (prefix rest : List ℕ) → SegmentIsEncoded width s prefix → segment width (prefix ++ rest) ≡ Some (s, rest)
unfolding segment
segment-at width s prefix rest sp =
    let w = octets_in width in
    let count = length s.ases in
    let behind = sp.octets ++ rest in
    let read = numbers-at w s.ases sp.octets rest sp.ases in
    let fits : w * count ≤ length behind = omega (arith, length-append sp.octets rest, read.0) in
    let test : (ltb 0 count && leb (w * count) (length behind)) ≡ true = and_from (ltb 0 count) (leb (w * count) (length behind)) (lt-ltb 0 count sp.some) (le-leb (w * count) (length behind) fits) in
    let left : drop (w * count) behind ≡ rest = subst (λ k. drop k behind ≡ rest) read.0 (drop-append_seam sp.octets rest) in
    ap (λ f. segment width (f ++ rest)) sp.parts
    ∙ ap (λ b. cond b (option_map (segment_of width count behind) (segment_kind (code_of s.kind))) None) test
    ∙ ap (option_map (segment_of width count behind)) (kind-at s.kind)
    ∙ ap₂ (λ ases t. Some (record { kind = s.kind; ases = ases }, t)) read.1 left

shorter : (width : Width) (bytes : List ℕ) (s : Segment) (rest : List ℕ) → segment width bytes ≡ Some (s, rest) → length rest < length bytes
shorter width bytes s rest is =
    let b = segment-back width bytes s rest is in
    let two : 2 ≤ length b.prefix = omega (arith, ap length b.encoded.parts) in
    let all : length bytes ≡ length b.prefix + length rest = ap length b.parts ∙ length-append b.prefix rest in
    omega arith

-- the bound does not matter where it is great enough
same_within : (n m : ℕ) (width : Width) (bytes : List ℕ) → length bytes ≤ n → length bytes ≤ m → segments_within n width bytes ≡ segments_within m width bytes
unfolding segments_within
same_within n m width [] hn hm = refl
same_within zero m width (x ∷ xs) hn hm = absurd (omega arith)
same_within (suc n) zero width (x ∷ xs) hn hm = absurd (omega arith)
same_within (suc n) (suc m) width (x ∷ xs) hn hm = of_first (segment width (x ∷ xs)) refl (λ rest h. same_within n m width rest (omega arith) (omega arith))
  where
    of_first : (read : Option (Segment × List ℕ)) → segment width (x ∷ xs) ≡ read → ((rest : List ℕ) → length rest < length (x ∷ xs) → segments_within n width rest ≡ segments_within m width rest)
        → option_and_then (λ (first : Segment × List ℕ). option_map (λ others. first.0 ∷ others) (segments_within n width first.1)) read
        ≡ option_and_then (λ (first : Segment × List ℕ). option_map (λ others. first.0 ∷ others) (segments_within m width first.1)) read
    of_first (Some first) is same = ap (option_map (λ others. first.0 ∷ others)) (same first.1 (shorter width (x ∷ xs) first.0 first.1 is))
    of_first None is same = refl

-- one segment, and those behind it
pub segments_of-next : (width : Width) (bytes : List ℕ) (s : Segment) (rest : List ℕ) → segment width bytes ≡ Some (s, rest)
    → segments_of width bytes ≡ option_map (λ others. s ∷ others) (segments_of width rest)
unfolding segments_of segments_within
segments_of-next width [] s rest is = absurd (let h = shorter width [] s rest is in omega arith)
segments_of-next width (x ∷ xs) s rest is =
    let h = shorter width (x ∷ xs) s rest is in
    ap (option_and_then (λ (first : Segment × List ℕ). option_map (λ others. first.0 ∷ others) (segments_within (length xs) width first.1))) is
    ∙ ap (option_map (λ others. s ∷ others)) (same_within (length xs) (length rest) width rest (omega arith) (omega arith))

pub segments_of-malformed : (width : Width) (bytes : List ℕ) → 0 < length bytes → segment width bytes ≡ None → segments_of width bytes ≡ None
unfolding segments_of segments_within
segments_of-malformed width [] lt is = absurd (omega arith)
segments_of-malformed width (x ∷ xs) lt is = ap (option_and_then (λ (first : Segment × List ℕ). option_map (λ others. first.0 ∷ others) (segments_within (length xs) width first.1))) is

pub segments_of-none : (width : Width) → segments_of width [] ≡ Some []
unfolding segments_of segments_within
segments_of-none width = refl

-- the law of values
encoded_within : (n : ℕ) (width : Width) (bytes : List ℕ) (found : List Segment) → segments_within n width bytes ≡ Some found → SegmentsAreEncoded width found bytes
unfolding segments_within
encoded_within n width [] found is = let same : [] ≡ found = cc in subst (λ l. SegmentsAreEncoded width l []) same refl
encoded_within zero width (x ∷ xs) found is = absurd cc
encoded_within (suc n) width (x ∷ xs) found is = of_first (segment width (x ∷ xs)) refl is (λ rest others h. encoded_within n width rest others h)
  where
    of_others : (first : Segment × List ℕ) (read : Option (List Segment)) → segment width (x ∷ xs) ≡ Some first → segments_within n width first.1 ≡ read
        → option_map (λ others. first.0 ∷ others) read ≡ Some found
        → ((rest : List ℕ) (others : List Segment) → segments_within n width rest ≡ Some others → SegmentsAreEncoded width others rest) → SegmentsAreEncoded width found (x ∷ xs)
    of_others first (Some others) prefix behind h hyp =
        let b = segment-back width (x ∷ xs) first.0 first.1 prefix in
        let same : first.0 ∷ others ≡ found = cc in
        subst (λ l. SegmentsAreEncoded width l (x ∷ xs)) same (b.prefix, first.1, b.encoded, hyp first.1 others behind, b.parts)
    of_others first None prefix behind h hyp = absurd cc

    of_first : (read : Option (Segment × List ℕ)) → segment width (x ∷ xs) ≡ read
        → option_and_then (λ (first : Segment × List ℕ). option_map (λ others. first.0 ∷ others) (segments_within n width first.1)) read ≡ Some found
        → ((rest : List ℕ) (others : List Segment) → segments_within n width rest ≡ Some others → SegmentsAreEncoded width others rest) → SegmentsAreEncoded width found (x ∷ xs)
    of_first (Some first) prefix h hyp = of_others first (segments_within n width first.1) prefix refl h hyp
    of_first None prefix h hyp = absurd cc

of_encoding : (width : Width) (found : List Segment) (bytes : List ℕ) → SegmentsAreEncoded width found bytes → segments_of width bytes ≡ Some found
of_encoding width [] bytes sp = ap (segments_of width) sp ∙ segments_of-none width
of_encoding width (s ∷ more) bytes sp =
    segments_of-next width bytes s sp.1 (ap (segment width) sp.4 ∙ segment-at width s sp.0 sp.1 sp.2) ∙ ap (option_map (λ others. s ∷ others)) (of_encoding width more sp.1 sp.3)

pub value_law : ValueLaw
unfolding segments_of
value_law width value found = (encoded_within (length value) width value found, of_encoding width found value)

-- ---- a value that is known to be well formed

is_some-map : {A B : Type 0} (f : A → B) (read : Option A) → is_some (option_map f read) ≡ is_some read
is_some-map f None = refl
is_some-map f (Some x) = refl

pub is_some-next : (width : Width) (bytes : List ℕ) (s : Segment) (rest : List ℕ) → Some (s, rest) ≡ segment width bytes
    → is_some (segments_of width bytes) ≡ is_some (segments_of width rest)
is_some-next width bytes s rest is =
    ap is_some (segments_of-next width bytes s rest (sym is)) ∙ is_some-map (λ others. s ∷ others) (segments_of width rest)

pub next_in : (width : Width) (bytes : List ℕ) (s : Segment) (rest : List ℕ) → Some (s, rest) ≡ segment width bytes → is_some (segments_of width bytes) ≡ true
    → segments_in width bytes ≡ s ∷ segments_in width rest
unfolding segments_in
next_in width bytes s rest is some = by (segments_of width rest) refl
  where
    next : segments_of width bytes ≡ option_map (λ others. s ∷ others) (segments_of width rest)
    next = segments_of-next width bytes s rest (sym is)

    by : (read : Option (List Segment)) → segments_of width rest ≡ read → unwrap_or (segments_of width bytes) [] ≡ s ∷ unwrap_or (segments_of width rest) []
    by (Some more) e = ap (λ r. unwrap_or r []) (next ∙ ap (option_map (λ others. s ∷ others)) e) ∙ sym (ap (λ r. s ∷ unwrap_or r []) e)
    by None e = absurd (let none = ap is_some (next ∙ ap (option_map (λ others. s ∷ others)) e) in cc)

pub none_in : (width : Width) (bytes : List ℕ) → None ≡ segment width bytes → is_some (segments_of width bytes) ≡ true → segments_in width bytes ≡ []
unfolding segments_in
none_in width [] is some = ap (λ r. unwrap_or r []) (segments_of-none width)
none_in width (x ∷ xs) is some = absurd (let none = ap is_some (segments_of-malformed width (x ∷ xs) (omega arith) (sym is)) in cc)

pub malformed_value : (width : Width) (value rest : List ℕ) → 0 < length rest → None ≡ segment width rest → is_some (segments_of width rest) ≡ is_some (segments_of width value)
    → None ≡ segments_of width value
malformed_value width value rest lt is same = by (segments_of width value) (sym same ∙ ap is_some (segments_of-malformed width rest lt (sym is)))
  where
    by : (read : Option (List Segment)) → is_some read ≡ false → None ≡ read
    by None e = refl
    by (Some found) e = absurd cc

pub whole_value : (width : Width) (value rest : List ℕ) → rest ≡ [] → is_some (segments_of width rest) ≡ is_some (segments_of width value) → is_some (segments_of width value) ≡ true
whole_value width value rest none same = sym same ∙ ap (λ b. is_some (segments_of width b)) none ∙ ap is_some (segments_of-none width)

pub segments_in-whole : (width : Width) (value : List ℕ) → is_some (segments_of width value) ≡ true → Some (segments_in width value) ≡ segments_of width value
unfolding segments_in
segments_in-whole width value some = by (segments_of width value) some
  where
    by : (read : Option (List Segment)) → is_some read ≡ true → Some (unwrap_or read []) ≡ read
    by None e = absurd cc
    by (Some found) e = refl

-- a value that is one AS_SEQUENCE with numbers of four octets
sole_sequence : (code count : ℕ) (octets : List ℕ) → code ≡ 2 → 0 < count → length octets ≡ 4 * count
    → segments_of Four (code ∷ count ∷ octets) ≡ Some (record { kind = Sequence; ases = big_numbers 4 count octets } ∷ [])
unfolding segment
sole_sequence code count octets two some whole =
    let one : Segment = record { kind = Sequence; ases = big_numbers 4 count octets } in
    let left : drop (4 * count) octets ≡ [] = drop_all (4 * count) octets (omega (arith, whole)) in
    let test : (ltb 0 count && leb (4 * count) (length octets)) ≡ true =
    and_from (ltb 0 count) (leb (4 * count) (length octets)) (lt-ltb 0 count some) (le-leb (4 * count) (length octets) (omega (arith, whole))) in
    let first : segment Four (code ∷ count ∷ octets) ≡ Some (one, drop (4 * count) octets) =
    ap (λ b. cond b (option_map (segment_of Four count octets) (segment_kind code)) None) test
    ∙ ap (λ k. option_map (segment_of Four count octets) (segment_kind k)) two in
    segments_of-next Four (code ∷ count ∷ octets) one (drop (4 * count) octets) first
    ∙ ap (λ rest. option_map (λ others. one ∷ others) (segments_of Four rest)) left
    ∙ ap (option_map (λ others. one ∷ others)) (segments_of-none Four)

-- the same where the octets behind the first two are read, and their count of numbers twice
pub sole_sequence_in : (value : List ℕ) (n m : ℕ) → 2 ≤ length value → get_or value 0 0 ≡ 2 → 0 < get_or value 1 0 → n ≡ get_or value 1 0 → m ≡ get_or value 1 0
    → length (take (length value - 2) (drop 2 value)) ≡ 4 * n
    → segments_of Four value ≡ Some (record { kind = Sequence; ases = big_numbers 4 m (take (length value - 2) (drop 2 value)) } ∷ [])
sole_sequence_in [] n m two code some n_is m_is whole = absurd (omega arith)
sole_sequence_in (x ∷ []) n m two code some n_is m_is whole = absurd (omega arith)
sole_sequence_in (x ∷ count ∷ octets) n m two code some n_is m_is whole =
    let same : take (length (x ∷ count ∷ octets) - 2) octets ≡ octets = take_all (length (x ∷ count ∷ octets) - 2) octets (omega arith) in
    sole_sequence x count octets code some (ap length (sym same) ∙ whole ∙ ap (λ k. 4 * k) n_is)
    ∙ ap₂ (λ (k : ℕ) (os : List ℕ). Some (record { kind = Sequence; ases = big_numbers 4 k os } ∷ [])) (sym m_is) (sym same)
