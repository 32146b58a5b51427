-- What a file of known relationships says is sound.
use Rattle.std.proofs.Common.{◌≡◌, ◌≢◌, ℕ, suc, Bool, true, false, not, List, [], ◌∷◌, filter, All, Option, Some, None, Ok, refl, sym, subst, arith}
use Rattle.std.proofs.lemmas.Bool.{both_ways}
use Rattle.std.proofs.lemmas.List.Elements.{All-nil, All-cons, All-filter}
use Rattle.std.proofs.lemmas.List.Kept.{AllPairs-cons, AllPairs-filter}
use Rattle.relationships.specs.Givens.{NameTwo, NameOnce}
use Rattle.relationships.specs.Graph.{Edge, is_same}
use Rattle.as_rel.specs.declared.line.RelLine.{RelLine}
use Rattle.as_rel.specs.Givens.{SaysKnown}
use Rattle.as_rel.specs.declared.givens.KnownLines.{KnownLines}
use Rattle.as_rel.specs.Good.{said_by, firsts}
use Rattle.as_rel.specs.Serial.{IsProperLine, NamesPairsOnce, pair_of, lines, rel_in, is_comment, said}
use Rattle.as_rel.proofs.Finding.{is_same-self}
use Rattle.as_rel.proofs.FirstLines.{firsts_law}
use Rattle.as_rel.proofs.GivenLines.{name_two, name_once}
use Rattle.as_rel.proofs.ReadLemmas.{said_takes}

-- ---- lines name two ASes, and no two of them the same two

abbrev Differs : RelLine → RelLine → Type 0
Differs l m = pair_of l ≢ pair_of m

others_differ : (l : RelLine) (ms : List RelLine) → All (Differs l) (filter (λ m. not (is_same (pair_of l) (pair_of m))) ms)
others_differ l [] = All-nil (Differs l)
others_differ l (m ∷ ms) = by (others_differ l ms) (is_same (pair_of l) (pair_of m)) refl
  where
    by : All (Differs l) (filter (λ x. not (is_same (pair_of l) (pair_of x))) ms) → (b : Bool) → is_same (pair_of l) (pair_of m) ≡ b →
        All (Differs l) (filter (λ x. not (is_same (pair_of l) (pair_of x))) (m ∷ ms))
    by ih true e = rw e ih
    by ih false e =
        rw e (All-cons (Differs l) m (filter (λ x. not (is_same (pair_of l) (pair_of x))) ms)
        (λ same. both_ways (is_same (pair_of l) (pair_of m)) e (subst (λ (p : Edge). is_same (pair_of l) p ≡ true) same (is_same-self (pair_of l)))) ih)

firsts_once : (ls : List RelLine) → All IsProperLine ls → NamesPairsOnce (firsts ls)
firsts_once [] h = record { proper = All-nil IsProperLine; apart = λ i j d lt within. absurd (omega (arith, within)) }
firsts_once (l ∷ ls) h =
    let rest = firsts_once ls (tail ls h) in
    let other = λ (m : RelLine). not (is_same (pair_of l) (pair_of m)) in
    record {
      proper = All-cons IsProperLine l (filter other (firsts ls)) (head ls h) (All-filter other IsProperLine (firsts ls) rest.proper);
      apart = AllPairs-cons Differs l (filter other (firsts ls)) (others_differ l (firsts ls)) (AllPairs-filter Differs other (firsts ls) rest.apart);
    }
  where
    head : (xs : List RelLine) → All IsProperLine (l ∷ xs) → IsProperLine l
    head xs all = all 0 l (omega arith)

    tail : (xs : List RelLine) → All IsProperLine (l ∷ xs) → All IsProperLine xs
    tail xs all = λ i d lt. all (suc i) d (omega (arith, lt))

all_proper : (ls : List (List ℕ)) → All IsProperLine (said_by ls)
all_proper [] = All-nil IsProperLine
all_proper (line ∷ ls) = by (all_proper ls) (is_comment line) refl (said line) refl
  where
    by : All IsProperLine (said_by ls) → (b : Bool) → is_comment line ≡ b → (s : Option RelLine) → said line ≡ s → All IsProperLine (said_by (line ∷ ls))
    by ih true e s is = rw e ih
    by ih false e None is = rw (e, is) ih
    by ih false e (Some l) is = rw (e, is) (All-cons IsProperLine l (said_by ls) (said_takes line l is).0 ih)

names_once : (bytes : List ℕ) (rel : List RelLine) → rel_in bytes ≡ Ok rel → NamesPairsOnce rel
names_once bytes rel is = subst NamesPairsOnce (sym (firsts_law bytes rel is)) (firsts_once (said_by (lines bytes)) (all_proper (lines bytes)))

pub says_sound : (bytes : List ℕ) (said : KnownLines) → SaysKnown bytes said → NameTwo said.givens × NameOnce said.givens
says_sound bytes said says =
    let once = names_once bytes says.rel says.said in
    (subst NameTwo (sym says.givens) (name_two says.rel once), subst NameOnce (sym says.givens) (name_once says.rel once))
