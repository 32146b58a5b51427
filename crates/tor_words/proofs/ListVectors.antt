-- Lists of AS numbers that were read by hand.
use Rattle.std.proofs.Common.{◌≡◌, [], ◌∷◌, Some, None, refl}
use Rattle.std.specs.Prelude.{codes}
use Rattle.text_fields.specs.Reading.{digit_at, digits_at, u64_at, u32_at}
use Rattle.tor_words.specs.AsLists.{as_list}

one : as_list (codes "10") ≡ Some (10 ∷ [])
unfolding u32_at u64_at digit_at digits_at
one = refl

three : as_list (codes "701,1299,0") ≡ Some (701 ∷ 1299 ∷ 0 ∷ [])
unfolding u32_at u64_at digit_at digits_at
three = refl

twice : as_list (codes "10,20,10") ≡ Some (10 ∷ 20 ∷ 10 ∷ [])
unfolding u32_at u64_at digit_at digits_at
twice = refl

greatest : as_list (codes "4294967295") ≡ Some (4294967295 ∷ [])
unfolding u32_at u64_at digit_at digits_at
greatest = refl

too_great : as_list (codes "4294967296") ≡ None
unfolding u32_at u64_at digit_at digits_at
too_great = refl

far_too_great : as_list (codes "18446744073709551616") ≡ None
unfolding u32_at u64_at digit_at digits_at
far_too_great = refl

empty : as_list (codes "") ≡ None
unfolding u32_at u64_at digit_at digits_at
empty = refl

comma_alone : as_list (codes ",") ≡ None
unfolding u32_at u64_at digit_at digits_at
comma_alone = refl

comma_last : as_list (codes "10,") ≡ None
unfolding u32_at u64_at digit_at digits_at
comma_last = refl

comma_first : as_list (codes ",10") ≡ None
unfolding u32_at u64_at digit_at digits_at
comma_first = refl

two_commas : as_list (codes "10,,20") ≡ None
unfolding u32_at u64_at digit_at digits_at
two_commas = refl

plus : as_list (codes "+10") ≡ None
unfolding u32_at u64_at digit_at digits_at
plus = refl

minus : as_list (codes "-10") ≡ None
unfolding u32_at u64_at digit_at digits_at
minus = refl

blank : as_list (codes "10, 20") ≡ None
unfolding u32_at u64_at digit_at digits_at
blank = refl

leading_zero : as_list (codes "010") ≡ None
unfolding u32_at u64_at digit_at digits_at
leading_zero = refl

two_zeros : as_list (codes "00") ≡ None
unfolding u32_at u64_at digit_at digits_at
two_zeros = refl

prefixed : as_list (codes "AS10") ≡ None
unfolding u32_at u64_at digit_at digits_at
prefixed = refl

other_joint : as_list (codes "10;20") ≡ None
unfolding u32_at u64_at digit_at digits_at
other_joint = refl
