-- Lines that say something are no more than a sixth of the octets, and the pairs that they name are those of givens and peerings.
use Rattle.std.proofs.Common.{◌≡◌, ◌≤◌, ◌<◌, ◌==◌, ◌+◌, ◌*◌, ◌^◌, ◌||◌, ℕ, suc, Bool, true, false, not, inl, inr, List, [], ◌∷◌, ◌++◌, length, map, filter, Option, Some, None, refl, sym, ap, ◌∙◌, subst, arith, length-append}
use Rattle.std.specs.Fmt.{decimal}
use Rattle.std.specs.List.{list_any}
use Rattle.std.proofs.lemmas.Bool.{cases_Bool, false≢true}
use Rattle.std.proofs.lemmas.List.{length-map}
use Rattle.text_fields.proofs.Readers.{starts_with_digit, first_digit}
use Rattle.relationships.specs.Graph.{is_same}
use Rattle.as_rel.specs.declared.line.RelKind.{RelKind}
use Rattle.as_rel.specs.declared.line.RelKind.TheVariants.{Transit, Peering}
use Rattle.as_rel.specs.declared.line.RelLine.{RelLine}
use Rattle.as_rel.specs.Givens.{is_transit, given_by, givens_in, both_of, peer_pairs, NamedPairsLaw, FewLinesLaw}
use Rattle.as_rel.specs.Good.{said_by, firsts}
use Rattle.as_rel.specs.Serial.{IsProperLine, kind_text, rel_line_text, pair_of, lines, onto_first, is_comment, said}
use Rattle.as_rel.proofs.FirstLines.{firsts_law}
use Rattle.as_rel.proofs.ReadLemmas.{said_takes}

-- ---- how long a line is

some_digits : (n : ℕ) → n < 2 ^ 64 → 1 ≤ length (decimal n)
some_digits n fits = by (decimal n) (first_digit n [] fits)
  where
    by : (ds : List ℕ) → starts_with_digit (ds ++ []) ≡ true → 1 ≤ length ds
    by [] h = absurd (false≢true h)
    by (d ∷ ds) h = omega arith

kind_long : (k : RelKind) → 1 ≤ length (kind_text k)
kind_long Transit = omega arith
kind_long Peering = omega arith

line_long : (l : RelLine) → IsProperLine l → 5 ≤ length (rel_line_text l)
line_long l fits =
    let first = fits.first in
    let second = fits.second in
    let a = some_digits l.first (omega (arith, first)) in
    let b = some_digits l.second (omega (arith, second)) in
    let k = kind_long l.kind in
    let whole = length-append (decimal l.first) (124 ∷ (decimal l.second ++ (124 ∷ kind_text l.kind))) in
    let rest = length-append (decimal l.second) (124 ∷ kind_text l.kind) in
    omega (arith, a, b, k, whole, rest)

-- the octets of lines, with a line feed each
abbrev size : List (List ℕ) → ℕ
size [] = 0
size (line ∷ ls) = suc (length line) + size ls

onto_size : (b : ℕ) (ls : List (List ℕ)) (n : ℕ) → size ls ≤ n + 1 → size (onto_first b ls) ≤ suc n + 1
onto_size b [] n le = omega arith
onto_size b (l ∷ ls) n le = omega (arith, le)

lines_size : (bytes : List ℕ) → size (lines bytes) ≤ length bytes + 1
lines_size [] = omega arith
lines_size (b ∷ bytes) = by (b == 10) refl (lines_size bytes)
  where
    by : (c : Bool) → (b == 10) ≡ c → size (lines bytes) ≤ length bytes + 1 → size (lines (b ∷ bytes)) ≤ suc (length bytes) + 1
    by true e ih = rw e (omega (arith, ih))
    by false e ih = rw e (onto_size b (lines bytes) (length bytes) ih)

said_size : (ls : List (List ℕ)) → 6 * length (said_by ls) ≤ size ls
said_size [] = omega arith
said_size (line ∷ ls) = by (said_size ls) (is_comment line) refl (said line) refl
  where
    by : 6 * length (said_by ls) ≤ size ls → (b : Bool) → is_comment line ≡ b → (s : Option RelLine) → said line ≡ s → 6 * length (said_by (line ∷ ls)) ≤ suc (length line) + size ls
    by ih true e s is = rw e (omega (arith, ih))
    by ih false e None is = rw (e, is) (omega (arith, ih))
    by ih false e (Some l) is =
        let takes = said_takes line l is in
        let long = line_long l takes.0 in
        let same = ap length takes.1 in
        rw (e, is) (omega (arith, ih, long, same))

shorter : (p : RelLine → Bool) (ls : List RelLine) → length (filter p ls) ≤ length ls
shorter p [] = omega arith
shorter p (l ∷ ls) = let ih = shorter p ls in elim (cases_Bool (p l)) [ inl t ↦ rw t (omega (arith, ih)) | inr f ↦ rw f (omega (arith, ih)) ]

firsts_short : (ls : List RelLine) → length (firsts ls) ≤ length ls
firsts_short [] = omega arith
firsts_short (l ∷ ls) =
    let ih = firsts_short ls in let kept = shorter (λ m. not (is_same (pair_of l) (pair_of m))) (firsts ls) in omega (arith, ih, kept)

pub few_lines_law : FewLinesLaw
few_lines_law bytes rel is =
    let all = said_by (lines bytes) in
    let few : length rel ≤ length all = subst (λ (r : List RelLine). length r ≤ length all) (sym (firsts_law bytes rel is)) (firsts_short all) in
    let a = said_size (lines bytes) in
    let b = lines_size bytes in
    omega (arith, few, a, b)

pub few_givens_in : (bytes : List ℕ) (rel : List RelLine) → 6 * length rel ≤ length bytes + 1 → 6 * length (givens_in rel) ≤ length bytes + 1
few_givens_in bytes rel few =
    let n = length-map (filter (λ (l : RelLine). is_transit l.kind) rel) given_by in let kept = shorter (λ l. is_transit l.kind) rel in omega (arith, n, kept, few)

-- ---- which pairs lines name

swapped : (a b c : Bool) → (a || (b || c)) ≡ (b || (a || c))
swapped true true c = refl
swapped true false c = refl
swapped false b c = refl

module _ (p : ℕ × ℕ → Bool) where
  moved : (xs ys : List (ℕ × ℕ)) (x : ℕ × ℕ) → list_any p (xs ++ x ∷ ys) ≡ (p x || list_any p (xs ++ ys))
  moved [] ys x = refl
  moved (z ∷ xs) ys x = ap (λ b. p z || b) (moved xs ys x) ∙ swapped (p z) (p x) (list_any p (xs ++ ys))

  abbrev named : List RelLine → Bool
  named rel = list_any p (map (λ g. (g.over, g.under)) (givens_in rel) ++ peer_pairs rel)

  by_kind : (l : RelLine) (rel : List RelLine) (k : RelKind) → l.kind ≡ k → named (l ∷ rel) ≡ (p (both_of l) || named rel)
  by_kind l rel Transit e = rw e refl
  by_kind l rel Peering e = rw e (moved (map (λ g. (g.over, g.under)) (givens_in rel)) (peer_pairs rel) (both_of l))

pub named_pairs_law : NamedPairsLaw
named_pairs_law p [] = refl
named_pairs_law p (l ∷ rel) = by_kind p l rel l.kind refl ∙ ap (λ b. p (both_of l) || b) (named_pairs_law p rel)
