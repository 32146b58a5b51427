-- The segments of a path that is merged.
use Rattle.std.proofs.Common.{◌≡◌, ℕ, zero, suc, ◌+◌, ◌-◌, ◌*◌, ◌&&◌, ◌<◌, ◌≤◌, min, Bool, true, false, cond, leb, not, List, [], ◌∷◌, ◌++◌, length, take, drop, filter, Option, Some, None, IfSome}
use Rattle.std.proofs.Common.{option_map, option_and_then, refl, sym, ap, subst, ◌∙◌, arith}
use Rattle.std.proofs.lemmas.Bool.{lt-leb, le-leb, leb-true, leb-false}
use Rattle.std.proofs.lemmas.List.{length-append, length-take-le}
use Rattle.byteorder.specs.Endian.{big_number}
use Rattle.path_segments.specs.declared.as_path.Width.{Width}
use Rattle.path_segments.specs.declared.as_path.Width.TheVariants.{Two, Four}
use Rattle.path_segments.specs.declared.as_path.SegKind.{SegKind}
use Rattle.path_segments.specs.declared.as_path.SegKind.TheVariants.{Set, Sequence, ConfedSequence, ConfedSet}
use Rattle.path_segments.specs.declared.as_path.Segment.{Segment}
use Rattle.path_segments.specs.Segments.{octets_in, big_numbers, segments_of, SegmentIsEncoded, SegmentsAreEncoded}
use Rattle.path_attrs.specs.Attributes.{Attribute, first_value}
use Rattle.path_segments.specs.PathOf.{as4_path, is_confed, is_outside, has_no_confed, as4_segments, is_aggregated_anew, count_by, count_in, ases_in, cut_to, leading, merged, merged_with, MergeLaw}
use Rattle.path_segments.proofs.Values.{numbers-length, numbers-at, value_law}

-- ---- one segment

pub sequence_counts : (width : Width) (kind : SegKind) (count : ℕ) (octets : List ℕ) → kind ≡ Sequence
    → count ≡ count_in (record { kind = kind; ases = big_numbers (octets_in width) count octets })
sequence_counts width kind count octets is =
    sym (ap (λ k. count_by k (length (big_numbers (octets_in width) count octets))) is ∙ numbers-length (octets_in width) count octets)

take-none : (m : ℕ) → take {A = ℕ} m [] ≡ []
take-none zero = refl
take-none (suc m) = refl

pub numbers-cut : (n count most fewer : ℕ) (octets : List ℕ) → fewer ≡ min count most → big_numbers n fewer octets ≡ take most (big_numbers n count octets)
numbers-cut n zero most fewer octets is = let none : fewer ≡ 0 = omega (arith, is) in ap (λ k. big_numbers n k octets) none ∙ sym (take-none most)
numbers-cut n (suc count) zero fewer octets is = let none : fewer ≡ 0 = omega (arith, is) in ap (λ k. big_numbers n k octets) none
numbers-cut n (suc count) (suc most) zero octets is = absurd (omega (arith, is))
numbers-cut n (suc count) (suc most) (suc fewer) octets is = ap (λ t. big_number n octets ∷ t) (numbers-cut n count most fewer (drop n octets) (omega (arith, is)))

-- ---- the first segments

pub leading-none : (n : ℕ) (segments : List Segment) → n ≡ 0 → leading n segments ≡ []
leading-none zero [] is = refl
leading-none zero (s ∷ segments) is = refl
leading-none (suc n) segments is = absurd (omega (arith, is))

pub leading-cut : (n : ℕ) (s : Segment) (segments : List Segment) → 0 < n → n < count_in s → leading n (s ∷ segments) ≡ cut_to n s ∷ leading 0 segments
leading-cut zero s segments some cut = absurd (omega arith)
leading-cut (suc n) s segments some cut =
    ap (λ b. cond b (s ∷ leading (suc n - count_in s) segments) (cut_to (suc n) s ∷ [])) (lt-leb (count_in s) (suc n) cut)
    ∙ ap (λ t. cut_to (suc n) s ∷ t) (sym (leading-none 0 segments refl))

-- ---- no more ASes count than there are octets

counts-within : (kind : SegKind) (members : ℕ) → 0 < members → count_by kind members ≤ members
counts-within Set members some = omega arith
counts-within Sequence members some = omega arith
counts-within ConfedSequence members some = omega arith
counts-within ConfedSet members some = omega arith

wide_enough : (width : Width) (members octets : ℕ) → octets ≡ octets_in width * members → members ≤ octets
wide_enough Two members octets is = omega (arith, is)
wide_enough Four members octets is = omega (arith, is)

one_counts : (width : Width) (s : Segment) (octets : List ℕ) → SegmentIsEncoded width s octets → count_in s ≤ length octets
one_counts width s octets e =
    let numbers_are = (numbers-at (octets_in width) s.ases e.octets [] e.ases).0 in
    let within = counts-within s.kind (length s.ases) e.some in
    let wide = wide_enough width (length s.ases) (length e.octets) numbers_are in
    omega (arith, within, wide, ap length e.parts)

all_count : (width : Width) (found : List Segment) (octets : List ℕ) → SegmentsAreEncoded width found octets → ases_in found ≤ length octets
all_count width [] octets e = omega arith
all_count width (s ∷ more) octets e =
    omega (arith, one_counts width s e.0 e.2, all_count width more e.1 e.3, ap length e.4, length-append e.0 e.1)

pub count_fits : (width : Width) (value : List ℕ) (found : List Segment) → segments_of width value ≡ Some found → ases_in found ≤ length value
count_fits width value found is = all_count width found value ((value_law width value found).0 is)

pub few_count : (width : Width) (value : List ℕ) (found : Option (List Segment)) → found ≡ segments_of width value → length value ≤ 65535 → IfSome found (λ segments. ases_in segments ≤ 65535)
few_count width value None is few = tt
few_count width value (Some segments) is few = omega (arith, few, count_fits width value segments (sym is))

-- ---- the law of the merge

-- a segment that counts more than so many ASes is a sequence
cut-counts : (n : ℕ) (s : Segment) → 0 < n → n < count_in s → count_in (cut_to n s) ≡ n
cut-counts n s some long = by s.kind refl
  where
    by : (kind : SegKind) → s.kind ≡ kind → count_by s.kind (length (take n s.ases)) ≡ n
    by Sequence e =
        let members : n < length s.ases = subst (λ k. n < count_by k (length s.ases)) e long in
        ap (λ k. count_by k (length (take n s.ases))) e ∙ length-take-le n s.ases (omega (arith, members))
    by Set e = absurd (let one : n < 1 = subst (λ k. n < count_by k (length s.ases)) e long in omega (arith, one, some))
    by ConfedSequence e = absurd (let none : n < 0 = subst (λ k. n < count_by k (length s.ases)) e long in omega (arith, none))
    by ConfedSet e = absurd (let none : n < 0 = subst (λ k. n < count_by k (length s.ases)) e long in omega (arith, none))

leading-counts : (n : ℕ) (segments : List Segment) → n ≤ ases_in segments → ases_in (leading n segments) ≡ n
leading-counts n [] few = omega (arith, few)
leading-counts zero (s ∷ segments) few = refl
leading-counts (suc n) (s ∷ segments) few = by (leb (count_in s) (suc n)) refl (leading-counts (suc n - count_in s) segments (omega (arith, few)))
  where
    by : (b : Bool) → leb (count_in s) (suc n) ≡ b → ases_in (leading (suc n - count_in s) segments) ≡ suc n - count_in s
        → ases_in (cond b (s ∷ leading (suc n - count_in s) segments) (cut_to (suc n) s ∷ [])) ≡ suc n
    by true t ih = let whole = leb-true (count_in s) (suc n) t in omega (arith, ih, whole)
    by false t ih = let part = cut-counts (suc n) s (omega arith) (leb-false (count_in s) (suc n) t) in omega (arith, part)

count_of-append : (segments others : List Segment) → ases_in (segments ++ others) ≡ ases_in segments + ases_in others
count_of-append [] others = omega arith
count_of-append (s ∷ segments) others = omega (arith, count_of-append segments others)

pub merge_law : MergeLaw
merge_law segments as4 few =
    let n = ases_in segments - ases_in as4 in
    let before = leading-counts n segments (omega arith) in
    (omega (arith, few, before, count_of-append (leading n segments) as4), (leading n segments, refl))

-- ---- the four conditions

none_more : (n : ℕ) → n ≡ 0 + n
none_more n = omega arith

-- confederation segments don't count
outside-counts : (segments : List Segment) → ases_in (filter is_outside segments) ≡ ases_in segments
outside-counts [] = refl
outside-counts (s ∷ segments) = by s.kind refl (outside-counts segments)
  where
    by : (kind : SegKind) → s.kind ≡ kind → ases_in (filter is_outside segments) ≡ ases_in segments
        → ases_in (cond (not (is_confed s.kind)) (s ∷ filter is_outside segments) (filter is_outside segments)) ≡ count_by s.kind (length s.ases) + ases_in segments
    by Set e ih = rw e (ap (λ n. 1 + n) ih)
    by Sequence e ih = rw e (ap (λ n. length s.ases + n) ih)
    by ConfedSequence e ih = rw e (ih ∙ none_more (ases_in segments))
    by ConfedSet e ih = rw e (ih ∙ none_more (ases_in segments))

abbrev all_hold : (plain anew few : Bool) → Bool
all_hold plain anew few = true && plain && not anew && few

not_few : (plain anew : Bool) → all_hold plain anew false ≡ false
not_few true true = refl
not_few true false = refl
not_few false true = refl
not_few false false = refl

-- AS4_PATH as it lies, and without its confederation segments
found_outside : (attrs : List Attribute) (as4 : List Segment) → Some as4 ≡ option_and_then (segments_of Four) (first_value as4_path attrs) → as4_segments attrs ≡ Some (filter is_outside as4)
found_outside attrs as4 is = ap (option_map (filter is_outside)) (sym is)

merged-by : (attrs : List Attribute) (segments as4 : List Segment) (plain anew few : Bool) → Some as4 ≡ option_and_then (segments_of Four) (first_value as4_path attrs)
    → has_no_confed segments ≡ plain → is_aggregated_anew attrs ≡ anew → leb (ases_in as4) (ases_in segments) ≡ few
    → merged_with Two attrs segments (as4_segments attrs) ≡ cond (all_hold plain anew few) (merged segments (filter is_outside as4)) segments
merged-by attrs segments as4 plain anew few is h a l =
    ap (merged_with Two attrs segments) (found_outside attrs as4 is)
    ∙ ap (λ p. cond (all_hold p (is_aggregated_anew attrs) (leb (ases_in (filter is_outside as4)) (ases_in segments))) (merged segments (filter is_outside as4)) segments) h
    ∙ ap (λ n. cond (all_hold plain n (leb (ases_in (filter is_outside as4)) (ases_in segments))) (merged segments (filter is_outside as4)) segments) a
    ∙ ap (λ f. cond (all_hold plain anew f) (merged segments (filter is_outside as4)) segments) (ap (λ n. leb n (ases_in segments)) (outside-counts as4) ∙ l)

pub too_long : (attrs : List Attribute) (segments as4 : List Segment) → Some as4 ≡ option_and_then (segments_of Four) (first_value as4_path attrs)
    → ases_in segments < ases_in as4 → segments ≡ merged_with Two attrs segments (as4_segments attrs)
too_long attrs segments as4 is long =
    sym (merged-by attrs segments as4 (has_no_confed segments) (is_aggregated_anew attrs) false is refl refl (lt-leb (ases_in as4) (ases_in segments) long)
    ∙ ap (λ b. cond b (merged segments (filter is_outside as4)) segments) (not_few (has_no_confed segments) (is_aggregated_anew attrs)))

pub merges : (attrs : List Attribute) (segments as4 : List Segment) (n : ℕ) → Some as4 ≡ option_and_then (segments_of Four) (first_value as4_path attrs)
    → has_no_confed segments ≡ true → is_aggregated_anew attrs ≡ false → ases_in as4 ≤ ases_in segments → n ≡ ases_in segments - ases_in as4
    → leading n segments ++ filter is_outside as4 ≡ merged_with Two attrs segments (as4_segments attrs)
merges attrs segments as4 n is plain old few len =
    ap (λ k. leading k segments ++ filter is_outside as4) (len ∙ ap (λ k. ases_in segments - k) (sym (outside-counts as4)))
    ∙ sym (merged-by attrs segments as4 true false true is plain old (le-leb (ases_in as4) (ases_in segments) few))
