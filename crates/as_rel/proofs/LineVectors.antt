-- Texts that were worked by hand.
use Rattle.std.proofs.Common.{◌≡◌, ℕ, List, [], ◌∷◌, Result, Ok, Err, refl}
use Rattle.std.specs.Prelude.{codes}
use Rattle.std.specs.Fmt.{digits}
use Rattle.text_fields.specs.Reading.{digit_at, digits_at, u64_at, u32_at}
use Rattle.as_rel.specs.declared.line.RelKind.TheVariants.{Transit, Peering}
use Rattle.as_rel.specs.declared.line.RelLine.{RelLine}
use Rattle.as_rel.specs.Givens.{givens_in}
use Rattle.as_rel.specs.Serial.{rel_line, kind_at, said, rel_in, rel_text}

abbrev worked : List RelLine
worked = rel_line 20 10 Transit ∷ rel_line 20 30 Transit ∷ rel_line 30 40 Peering ∷ rel_line 10 50 Transit ∷ []

worked_text : rel_in (codes "20|10|-1\n20|30|-1\n30|40|0\n10|50|-1\n") ≡ Ok worked
unfolding kind_at said digit_at digits_at u64_at u32_at
worked_text = refl

worked_form : rel_text worked ≡ codes "20|10|-1\n20|30|-1\n30|40|0\n10|50|-1\n"
unfolding digits
worked_form = refl

-- the peering between 30 and 40 gives nothing
worked_givens : givens_in worked ≡ record { over = 20; under = 10 } ∷ record { over = 20; under = 30 } ∷ record { over = 10; under = 50 } ∷ []
worked_givens = refl

-- the second line is of another form
worked_bad : rel_in (codes "20|10|-1\n10|20\n30|40|0\n10|50|-1\n") ≡ Err 2
unfolding kind_at said digit_at digits_at u64_at u32_at
worked_bad = refl

-- comments, no last line feed, the same again, and the other way round
said_again : rel_in (codes "# a|b\n1|2|-1\n3|4|0\n#\n1|2|-1\n4|3|0") ≡ Ok (rel_line 1 2 Transit ∷ rel_line 3 4 Peering ∷ [])
unfolding kind_at said digit_at digits_at u64_at u32_at
said_again = refl

other_way_round : rel_in (codes "1|2|-1\n2|1|-1\n") ≡ Err 2
unfolding kind_at said digit_at digits_at u64_at u32_at
other_way_round = refl

peers_after_transit : rel_in (codes "1|2|-1\n\n") ≡ Err 2
unfolding kind_at said digit_at digits_at u64_at u32_at
peers_after_transit = refl

-- what three labels say, the provider first, with the greatest number
said_of_labels : rel_in (codes "40|30|-1\n10|20|0\n7|4294967295|-1\n") ≡ Ok (rel_line 40 30 Transit ∷ rel_line 10 20 Peering ∷ rel_line 7 4294967295 Transit ∷ [])
unfolding kind_at said digit_at digits_at u64_at u32_at
said_of_labels = refl

-- ---- what is said by a text, as a text

abbrev again : List ℕ → Result (List ℕ) ℕ
again text = elim (rel_in text) [ Ok rel ↦ Ok (rel_text rel) | Err n ↦ Err n ]

no_octets : again (codes "") ≡ Ok (codes "")
unfolding kind_at said digit_at digits_at u64_at u32_at digits
no_octets = refl

-- the last line has no line feed
no_last_line_feed : again (codes "1|2|0") ≡ Ok (codes "1|2|0\n")
unfolding kind_at said digit_at digits_at u64_at u32_at digits
no_last_line_feed = refl

-- comments, as files of serial-1 begin
comments_first : again (codes "# source:topology|BGP|20240101\n# input clique: 174 209 286\n# IXP ASes: 1200 4635\n#\n1|11537|0\n1|21616|-1\n") ≡ Ok (codes "1|11537|0\n1|21616|-1\n")
unfolding kind_at said digit_at digits_at u64_at u32_at digits
comments_first = refl

-- a comment between others, and one that ends the text
comments_between : again (codes "1|2|0\n#|-1\n3|4|-1\n#") ≡ Ok (codes "1|2|0\n3|4|-1\n")
unfolding kind_at said digit_at digits_at u64_at u32_at digits
comments_between = refl

-- a comment has '#' first
blank_before_a_comment : again (codes "1|2|0\n # a\n") ≡ Err 2
unfolding kind_at said digit_at digits_at u64_at u32_at
blank_before_a_comment = refl

-- a carriage return behind a line and behind a comment
carriage_return : again (codes "# a\r\n1|2|0\r\n") ≡ Err 2
unfolding kind_at said digit_at digits_at u64_at u32_at
carriage_return = refl

-- an empty line
empty_line : again (codes "1|2|0\n\n3|4|0\n") ≡ Err 2
unfolding kind_at said digit_at digits_at u64_at u32_at
empty_line = refl

empty_line_alone : again (codes "\n") ≡ Err 1
unfolding kind_at said digit_at digits_at u64_at u32_at
empty_line_alone = refl

-- a fourth field, as in serial-2
fourth_field : again (codes "# a\n1|2|-1|bgp\n") ≡ Err 2
unfolding kind_at said digit_at digits_at u64_at u32_at
fourth_field = refl

-- the same again
transit_again_and_peers : again (codes "1|2|-1\n1|2|-1\n2|1|0\n") ≡ Err 3
unfolding kind_at said digit_at digits_at u64_at u32_at
transit_again_and_peers = refl

all_again : again (codes "1|2|-1\n3|4|0\n1|2|-1\n4|3|0\n3|4|0") ≡ Ok (codes "1|2|-1\n3|4|0\n")
unfolding kind_at said digit_at digits_at u64_at u32_at digits
all_again = refl

-- the peers in the order of their first line
peers_in_order : again (codes "4|3|0\n3|4|0\n") ≡ Ok (codes "4|3|0\n")
unfolding kind_at said digit_at digits_at u64_at u32_at digits
peers_in_order = refl

-- a peering, and then transit
transit_after_peers : again (codes "1|2|0\n1|2|-1\n") ≡ Err 2
unfolding kind_at said digit_at digits_at u64_at u32_at
transit_after_peers = refl

transit_after_peers_turned_round : again (codes "2|1|0\n1|2|-1") ≡ Err 2
unfolding kind_at said digit_at digits_at u64_at u32_at
transit_after_peers_turned_round = refl

-- one AS twice
one_as_twice : again (codes "7|7|0\n") ≡ Err 1
unfolding kind_at said digit_at digits_at u64_at u32_at
one_as_twice = refl

-- a leading zero, and zero itself
leading_zero : again (codes "01|2|0\n") ≡ Err 1
unfolding kind_at said digit_at digits_at u64_at u32_at
leading_zero = refl

zero_and_the_greatest : again (codes "0|4294967295|0\n") ≡ Ok (codes "0|4294967295|0\n")
unfolding kind_at said digit_at digits_at u64_at u32_at digits
zero_and_the_greatest = refl

-- 2 ^ 32
number_of_33_bits : again (codes "1|4294967296|0\n") ≡ Err 1
unfolding kind_at said digit_at digits_at u64_at u32_at
number_of_33_bits = refl

-- 2 ^ 64 and more
number_of_65_bits : again (codes "18446744073709551617|2|0\n") ≡ Err 1
unfolding kind_at said digit_at digits_at u64_at u32_at
number_of_65_bits = refl

-- other kinds
kind_1 : again (codes "1|2|1\n") ≡ Err 1
unfolding kind_at said digit_at digits_at u64_at u32_at
kind_1 = refl

kind_of_minus_10 : again (codes "1|2|-10\n") ≡ Err 1
unfolding kind_at said digit_at digits_at u64_at u32_at
kind_of_minus_10 = refl

kind_00 : again (codes "1|2|00\n") ≡ Err 1
unfolding kind_at said digit_at digits_at u64_at u32_at
kind_00 = refl

-- a sign
number_with_a_sign : again (codes "1|2|0\n+1|3|0\n") ≡ Err 2
unfolding kind_at said digit_at digits_at u64_at u32_at
number_with_a_sign = refl
