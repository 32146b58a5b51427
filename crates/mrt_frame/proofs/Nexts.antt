-- What stands next at a place, both ways: by the five tests, and by what is encoded there.
use Rattle.std.proofs.Common.{◌≡◌, ℕ, ◌+◌, ◌^◌, ◌≤◌, ◌<◌, Bool, true, false, cond, ltb, ◌&&◌, List, [], ◌∷◌, ◌++◌, length, take, drop, refl, sym, ap, ◌∙◌, append_assoc, arith}
use Rattle.std.specs.Prelude.{IsTrue}
use Rattle.std.proofs.lemmas.Bool.{lt-ltb, ltb-true, le-ltb, ltb-false, and_parts, and_from}
use Rattle.std.proofs.lemmas.List.{take-append-drop, length-take, length-drop, length-append, drop_at}
use Rattle.std.proofs.Math.Seq.{take-append_seam, drop-append_seam}
use Rattle.mrt_frame.specs.declared.header.At.{At}
use Rattle.mrt_header.specs.Kinds.{is_read}
use Rattle.mrt_header.specs.Headers.{kind_in, subtype_in, length_in}
use Rattle.mrt_frame.specs.Records.{Record, Next, Ends, Holds, Well, HeadCut, TooManyBytes, Oversize, BodyCut, next_of, next_body}
use Rattle.mrt_frame.specs.Encoding.{IsHeader, Encodes, IsWithin, IsEnd}
use Rattle.mrt_frame.proofs.HeaderFields.{fields_of_prefix, fields_of_take}

-- this record stands at this place, before the rest
pub record StandsAt (at : At) (octets : List ℕ) (r : Record) (rest : List ℕ) : Type 0 where
  pub placed : r.at ≡ at
  pub within : IsWithin r
  pub encoded : Encodes octets r rest

abbrev pub IsNext : At → List ℕ → Next → Type 0
IsNext at octets (Ends end) = IsEnd at octets end
IsNext at octets (Holds r rest) = StandsAt at octets r rest

pub whole_header : (at : At) (octets : List ℕ) → 12 ≤ length octets → next_of at octets ≡ next_body at (kind_in octets) (subtype_in octets) (length_in octets) (drop 12 octets)
whole_header at [] le = absurd (omega arith)
whole_header at (octet ∷ octets) le = rw (le-ltb (length (octet ∷ octets)) 12 le) refl

not_both : (a b : Bool) → (a && b) ≡ false → a ≡ true → b ≡ false
not_both false b is first = absurd cc
not_both true b is first = is

-- what a record has behind its header
holds_is : (at : At) (octets : List ℕ) → 12 ≤ length octets → at.offset + 12 + length_in octets ≤ 2 ^ 40
    → (IsTrue (is_read (kind_in octets) (subtype_in octets)) → length_in octets ≤ 2 ^ 26) → length_in octets ≤ length (drop 12 octets)
    → StandsAt at octets (record { at = at; kind = kind_in octets; subtype = subtype_in octets; body = take (length_in octets) (drop 12 octets) }) (drop (length_in octets) (drop 12 octets))
holds_is at octets whole near small fits =
    let len = length_in octets in
    let behind = drop 12 octets in
    let body : length (take len behind) ≡ len = omega (arith, length-take len behind) in
    let same = fields_of_take octets whole in
    record {
      placed = refl;
      within = record { file = omega arith; body = λ read. omega (arith, small read) };
      encoded = record {
        header = take 12 octets;
        is_header = record {
          octets = omega (arith, length-take 12 octets);
          kind = sym same.kind;
          subtype = sym same.subtype;
          len = sym same.len ∙ sym body;
        };
        encoded = sym (append_assoc (take 12 octets) (take len behind) (drop len behind) ∙ ap (λ (t : List ℕ). take 12 octets ++ t) (take-append-drop len behind) ∙ take-append-drop 12 octets);
      };
    }

body_is : (at : At) (octets : List ℕ) → 12 ≤ length octets → IsNext at octets (next_body at (kind_in octets) (subtype_in octets) (length_in octets) (drop 12 octets))
body_is at octets whole =
    by_tests (ltb (2 ^ 40) (at.offset + 12 + length_in octets)) (is_read (kind_in octets) (subtype_in octets) && ltb (2 ^ 26) (length_in octets))
    (ltb (length (drop 12 octets)) (length_in octets)) refl refl refl
  where
    by_tests : (far long short : Bool) → ltb (2 ^ 40) (at.offset + 12 + length_in octets) ≡ far
        → (is_read (kind_in octets) (subtype_in octets) && ltb (2 ^ 26) (length_in octets)) ≡ long → ltb (length (drop 12 octets)) (length_in octets) ≡ short
        → IsNext at octets (cond far (Ends TooManyBytes) (cond long (Ends (Oversize at))
        (cond short (Ends (BodyCut at)) (Holds (record { at = at; kind = kind_in octets; subtype = subtype_in octets; body = take (length_in octets) (drop 12 octets) })
        (drop (length_in octets) (drop 12 octets))))))
    by_tests true long short f l s = (whole, ltb-true _ _ f)
    by_tests false true short f l s =
        let p = and_parts (is_read (kind_in octets) (subtype_in octets)) (ltb (2 ^ 26) (length_in octets)) l in
        (refl, record { header = whole; file = ltb-false _ _ f }, p.0, ltb-true _ _ p.1)
    by_tests false false true f l s =
        let cut : length (drop 12 octets) < length_in octets = ltb-true _ _ s in (
          refl,
          record { header = whole; file = ltb-false _ _ f },
          (λ read. ltb-false _ _
              (not_both (is_read (kind_in octets) (subtype_in octets)) (ltb (2 ^ 26) (length_in octets)) l read)),
          omega (arith, length-drop 12 octets),
        )
    by_tests false false false f l s =
        holds_is at octets whole (ltb-false _ _ f) (λ read. ltb-false _ _ (not_both (is_read (kind_in octets) (subtype_in octets)) (ltb (2 ^ 26) (length_in octets)) l read)) (ltb-false _ _ s)

pub next_is : (at : At) (octets : List ℕ) → IsNext at octets (next_of at octets)
next_is at [] = refl
next_is at (octet ∷ octets) = by_test (ltb (length (octet ∷ octets)) 12) refl
  where
    by_test : (cut : Bool) → ltb (length (octet ∷ octets)) 12 ≡ cut
        → IsNext at (octet ∷ octets) (cond cut (Ends (HeadCut at)) (next_body at (kind_in (octet ∷ octets)) (subtype_in (octet ∷ octets)) (length_in (octet ∷ octets)) (drop 12 (octet ∷ octets))))
    by_test true c = (refl, omega arith, ltb-true _ _ c)
    by_test false c = body_is at (octet ∷ octets) (ltb-false _ _ c)

-- the other way: the tests, by what stands there

pub head_cut : (at a : At) (octets : List ℕ) → a ≡ at → 0 < length octets → length octets < 12 → next_of at octets ≡ Ends (HeadCut a)
head_cut at a [] is some few = absurd (omega arith)
head_cut at a (octet ∷ octets) is some few = rw (lt-ltb (length (octet ∷ octets)) 12 few) (ap (λ (p : At). Ends (HeadCut p)) (sym is))

-- where a record that is read is not too long, the second test is false
pub small_enough : (kind subtype len : ℕ) → (IsTrue (is_read kind subtype) → len ≤ 2 ^ 26) → (is_read kind subtype && ltb (2 ^ 26) len) ≡ false
small_enough kind subtype len small = by_test (is_read kind subtype) small
  where
    by_test : (read : Bool) → (IsTrue read → len ≤ 2 ^ 26) → (read && ltb (2 ^ 26) len) ≡ false
    by_test true h = le-ltb (2 ^ 26) len (h refl)
    by_test false h = refl

whole_body : (at : At) (kind subtype : ℕ) (body rest : List ℕ) → at.offset + 12 + length body ≤ 2 ^ 40 → (IsTrue (is_read kind subtype) → length body ≤ 2 ^ 26)
    → next_body at kind subtype (length body) (body ++ rest) ≡ Holds (record { at = at; kind = kind; subtype = subtype; body = body }) rest
whole_body at kind subtype body rest near small =
    rw (
      le-ltb (2 ^ 40) (at.offset + 12 + length body) near,
      small_enough kind subtype (length body) small,
      le-ltb (length (body ++ rest)) (length body)
          (omega (arith, length-append body rest)),
      take-append_seam body rest,
      drop-append_seam body rest,
    ) refl

holds_next : (at : At) (r : Record) (header rest : List ℕ) → r.at ≡ at → IsWithin r → IsHeader header r → next_of at (header ++ r.body ++ rest) ≡ Holds r rest
holds_next at r header rest placed within h =
    let octets = header ++ r.body ++ rest in
    let grouped : octets ≡ header ++ (r.body ++ rest) = append_assoc header r.body rest in
    let whole : 12 ≤ length header = omega (arith, h.octets) in
    let same = fields_of_prefix header (r.body ++ rest) whole in
    ap (next_of at) grouped
    ∙ whole_header at (header ++ (r.body ++ rest)) (omega (arith, length-append header (r.body ++ rest)))
    ∙ ap (λ k. next_body at k (subtype_in (header ++ (r.body ++ rest))) (length_in (header ++ (r.body ++ rest))) (drop 12 (header ++ (r.body ++ rest)))) (same.kind ∙ h.kind)
    ∙ ap (λ s. next_body at r.kind s (length_in (header ++ (r.body ++ rest))) (drop 12 (header ++ (r.body ++ rest)))) (same.subtype ∙ h.subtype)
    ∙ ap (λ n. next_body at r.kind r.subtype n (drop 12 (header ++ (r.body ++ rest)))) (same.len ∙ h.len)
    ∙ ap (λ (t : List ℕ). next_body at r.kind r.subtype (length r.body) t) (drop_at header (r.body ++ rest) 12 h.octets)
    ∙ ap (λ (a : At). next_body a r.kind r.subtype (length r.body) (r.body ++ rest)) (sym placed)
    ∙ whole_body r.at r.kind r.subtype r.body rest within.file within.body

pub is_next : (at : At) (octets : List ℕ) (next : Next) → IsNext at octets next → next_of at octets ≡ next
is_next at octets (Ends Well) is = ap (next_of at) is
is_next at octets (Ends (HeadCut a)) is = head_cut at a octets is.0 is.1 is.2
is_next at octets (Ends TooManyBytes) is = whole_header at octets is.0 ∙ rw (lt-ltb (2 ^ 40) (at.offset + 12 + length_in octets) is.1) refl
is_next at octets (Ends (Oversize a)) is =
    whole_header at octets is.1.header
    ∙ rw (
      le-ltb (2 ^ 40) (at.offset + 12 + length_in octets) is.1.file,
      and_from (is_read (kind_in octets) (subtype_in octets)) (ltb (2 ^ 26) (length_in octets)) is.2
          (lt-ltb (2 ^ 26) (length_in octets) is.3),
    ) (ap (λ (p : At). Ends (Oversize p)) (sym is.0))
is_next at octets (Ends (BodyCut a)) is =
    let short : length (drop 12 octets) < length_in octets = omega (arith, length-drop 12 octets) in
    whole_header at octets is.1.header
    ∙ rw (
      le-ltb (2 ^ 40) (at.offset + 12 + length_in octets) is.1.file,
      small_enough (kind_in octets) (subtype_in octets) (length_in octets) is.2,
      lt-ltb (length (drop 12 octets))
          (length_in octets) short,
    ) (ap (λ (p : At). Ends (BodyCut p)) (sym is.0))
is_next at octets (Holds r rest) is = ap (next_of at) is.encoded.encoded ∙ holds_next at r is.encoded.header rest is.placed is.within is.encoded.is_header
