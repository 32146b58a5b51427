-- A file is cut into the records that it encodes.
use Rattle.std.proofs.Common.{◌≡◌, ℕ, zero, suc, ◌≤◌, ◌<◌, List, [], ◌∷◌, ◌++◌, length, refl, sym, ap, subst, ◌∙◌, arith}
use Rattle.std.proofs.lemmas.List.{length-append}
use Rattle.mrt_frame.specs.declared.header.At.{At}
use Rattle.mrt_frame.specs.Records.{Record, Cut, RecordsEnd, Next, Ends, Holds, Well, HeadCut, TooManyBytes, Oversize, BodyCut, next_of, cut_within, cut_from, place_behind, onto, start}
use Rattle.mrt_frame.specs.Encoding.{Encodes, IsEnd, EncodeRecords, EncodingLaw, OneReadingLaw}
use Rattle.mrt_frame.proofs.Nexts.{StandsAt, IsNext, next_is, is_next}

-- the octets behind a record are fewer
fewer : (octets : List ℕ) (r : Record) (rest : List ℕ) → Encodes octets r rest → length rest < length octets
fewer octets r rest s =
    omega (arith, ap length s.encoded, length-append (s.header ++ r.body) rest, length-append s.header r.body, s.is_header.octets)

pub shorter : (at : At) (octets : List ℕ) (r : Record) (rest : List ℕ) → next_of at octets ≡ Holds r rest → length rest < length octets
shorter at octets r rest is = let stands : StandsAt at octets r rest = subst (IsNext at octets) is (next_is at octets) in fewer octets r rest stands.encoded

-- nothing but the end stands where no octet is
no_octet : (at : At) (end : RecordsEnd) → IsEnd at [] end → Well ≡ end
no_octet at Well is = refl
no_octet at (HeadCut a) is = absurd (omega (arith, is.1))
no_octet at TooManyBytes is = absurd (omega (arith, is.0))
no_octet at (Oversize a) is = absurd (omega (arith, is.1.header))
no_octet at (BodyCut a) is = absurd (omega (arith, is.1.header))

pub unrolled : (n : ℕ) (at : At) (octets : List ℕ) (r : Record) (rest : List ℕ) → next_of at octets ≡ Holds r rest → cut_within (suc n) at octets ≡ onto r (cut_within n (place_behind r) rest)
unfolding cut_within
unrolled n at octets r rest is = rw (is, cut_within) refl

pub ends_with : (n : ℕ) (at : At) (octets : List ℕ) (end : RecordsEnd) → next_of at octets ≡ Ends end → cut_within (suc n) at octets ≡ record { records = []; end = end }
unfolding cut_within
ends_with n at octets end is = rw (is, cut_within) refl

abbrev AreOf : At → List ℕ → Cut → Type 0
AreOf at octets c = EncodeRecords at octets c.records c.end

-- what is cut is encoded
cut_is : (n : ℕ) (at : At) (octets : List ℕ) → length octets ≤ n → AreOf at octets (cut_within n at octets)
unfolding cut_within
cut_is zero at [] le = refl
cut_is zero at (octet ∷ octets) le = absurd (omega arith)
cut_is (suc n) at octets le = by_next (next_of at octets) refl (next_is at octets) (λ a o h. cut_is n a o h)
  where
    by_next : (next : Next) → next_of at octets ≡ next → IsNext at octets (next_of at octets) → ((a : At) (o : List ℕ) → length o ≤ n → AreOf a o (cut_within n a o))
        → AreOf at octets (cut_within (suc n) at octets)
    by_next (Ends end) is there later = subst (AreOf at octets) (sym (ends_with n at octets end is)) (subst (IsNext at octets) is there)
    by_next (Holds r rest) is there later =
        let s : StandsAt at octets r rest = subst (IsNext at octets) is there in
        subst (AreOf at octets) (sym (unrolled n at octets r rest is)) (rest, s.placed, s.within, s.encoded, later (place_behind r) rest (omega (arith, fewer octets r rest s.encoded)))

-- what is encoded is cut so
is_cut : (n : ℕ) (at : At) (octets : List ℕ) (records : List Record) (end : RecordsEnd) → length octets ≤ n → EncodeRecords at octets records end
    → cut_within n at octets ≡ record { records = records; end = end }
unfolding cut_within
is_cut zero at (octet ∷ octets) records end le is = absurd (omega arith)
is_cut zero at [] [] end le is = ap (λ (e : RecordsEnd). record { records = []; end = e }) (no_octet at end is)
is_cut zero at [] (r ∷ records) end le is = absurd (omega (arith, fewer [] r is.0 is.3))
is_cut (suc n) at octets [] end le is = ends_with n at octets end (is_next at octets (Ends end) is)
is_cut (suc n) at octets (r ∷ records) end le is =
    unrolled n at octets r is.0 (is_next at octets (Holds r is.0) (record { placed = is.1; within = is.2; encoded = is.3 }))
    ∙ ap (onto r) (is_cut n (place_behind r) is.0 records end (omega (arith, fewer octets r is.0 is.3)) is.4)

-- with any number of steps that is enough the cut is the same
pub any_fuel : (n : ℕ) (at : At) (octets : List ℕ) → length octets ≤ n → cut_within n at octets ≡ cut_from at octets
any_fuel n at octets le = is_cut n at octets (cut_from at octets).records (cut_from at octets).end le (cut_is (length octets) at octets (omega arith))

-- a whole record stands first, and then those behind it
pub cut_onto : (at : At) (octets : List ℕ) (r : Record) (rest : List ℕ) → next_of at octets ≡ Holds r rest → cut_from at octets ≡ onto r (cut_from (place_behind r) rest)
cut_onto at octets r rest is =
    sym (any_fuel (suc (length octets)) at octets (omega arith)) ∙ unrolled (length octets) at octets r rest is
    ∙ ap (onto r) (any_fuel (length octets) (place_behind r) rest (omega (arith, shorter at octets r rest is)))

pub cut_ends : (at : At) (octets : List ℕ) (end : RecordsEnd) → next_of at octets ≡ Ends end → cut_from at octets ≡ record { records = []; end = end }
cut_ends at octets end is = sym (any_fuel (suc (length octets)) at octets (omega arith)) ∙ ends_with (length octets) at octets end is

pub encoding_law : EncodingLaw
encoding_law octets records end = (
  (λ is. subst (AreOf start octets) is (cut_is (length octets) start octets (omega arith))),
  is_cut (length octets) start octets records end (omega arith),
)

pub one_reading_law : OneReadingLaw
one_reading_law octets records others end other first second =
    let both : ◌≡◌ {A = Cut} (record { records = records; end = end }) (record { records = others; end = other }) =
    sym (is_cut (length octets) start octets records end (omega arith) first) ∙ is_cut (length octets) start octets others other (omega arith) second in (
      ap (λ (c : Cut). c.records) both,
      ap (λ (c : Cut). c.end) both,
    )
