-- What octets say that tell one thing more.
use Rattle.std.proofs.Common.{◌≡◌, ◌↔◌, ◌⊎◌, inl, inr, ℕ, zero, suc, ◌+◌, min, max, Bool, true, false, eqb, List, [], ◌∷◌, ◌++◌, Option, Some, None, Ok, filter}
use Rattle.std.proofs.Common.{refl, sym, ap, ap₂, ◌∙◌, subst, arith, append_assoc, append-nil, Contains}
use Rattle.std.proofs.lemmas.Bool.{cases_Bool, eqb-true, or_right}
use Rattle.std.proofs.lemmas.Option.{same_Some}
use Rattle.std.proofs.lemmas.List.Elements.{All-contains, All-contains_itself, All-filter, Contains-append_cases, Contains-append_left, Contains-append_right, filter_passes}
use Rattle.tor_arena.proofs.Gets.{Contains-map, Contains-none, Contains-one}
use Rattle.relationships.specs.declared.given.Given.{Given}
use Rattle.relationships.specs.Graph.{Edge, edge_of, is_same}
use Rattle.relationships.proofs.Edges.{same_edge}
use Rattle.tor_arena.proofs.Gets.{Contains-from_has}
use Rattle.top_givens.specs.TopGivens.{is_paired}
use Rattle.top_givens.proofs.Members.{in_filter, unmapped}
use Rattle.as_rel.specs.declared.line.RelKind.{RelKind}
use Rattle.as_rel.specs.declared.line.RelKind.TheVariants.{Transit, Peering}
use Rattle.as_rel.specs.declared.line.RelLine.{RelLine}
use Rattle.as_rel.specs.Givens.{is_transit, given_by, givens_in, pairs_in}
use Rattle.as_rel.specs.Good.{Spells, said_by}
use Rattle.as_rel.specs.Serial.{is_comment, lines, rel_line, pair_of, said, names_pair, line_between, agree_in, agrees, after_line, rel_from, rel_in}
use Rattle.as_rel.proofs.Finding.{is_same-self, with_line_none, with_line_some}
use Rattle.as_rel.proofs.LineLemmas.{goes_on, is_refused}
use Rattle.as_rel.proofs.ReadLemmas.{said_again, line_no_comment, after_comment, after_said, after_unsaid}
use Rattle.run_laws.specs.AskRuns.{StandsForPeers, TellMore}

-- ---- what lines say

said_comment : (line : List ℕ) (more : List (List ℕ)) → is_comment line ≡ true → said_by (line ∷ more) ≡ said_by more
said_comment line more c = rw c refl

said_unread : (line : List ℕ) (more : List (List ℕ)) → is_comment line ≡ false → said line ≡ None → said_by (line ∷ more) ≡ said_by more
said_unread line more c e = rw (c, e) refl

said_more : (line : List ℕ) (l : RelLine) (more : List (List ℕ)) → is_comment line ≡ false → said line ≡ Some l → said_by (line ∷ more) ≡ l ∷ said_by more
said_more line l more c e = rw (c, e) refl

said_append : (xs ys : List (List ℕ)) → said_by (xs ++ ys) ≡ said_by xs ++ said_by ys
said_append [] ys = refl
said_append (x ∷ xs) ys = by (said_append xs ys) (is_comment x) refl (said x) refl
  where
    by : said_by (xs ++ ys) ≡ said_by xs ++ said_by ys → (b : Bool) → is_comment x ≡ b → (s : Option RelLine) → said x ≡ s → said_by (x ∷ (xs ++ ys)) ≡ said_by (x ∷ xs) ++ said_by ys
    by ih true c s e = said_comment x (xs ++ ys) c ∙ ih ∙ ap (λ ls. ls ++ said_by ys) (sym (said_comment x xs c))
    by ih false c None e = said_unread x (xs ++ ys) c e ∙ ih ∙ ap (λ ls. ls ++ said_by ys) (sym (said_unread x xs c e))
    by ih false c (Some l) e = said_more x l (xs ++ ys) c e ∙ ap (λ ls. l ∷ ls) ih ∙ ap (λ ls. ls ++ said_by ys) (sym (said_more x l xs c e))

spelled : (line : List ℕ) (l : RelLine) (more : List (List ℕ)) → Spells line l → said_by (line ∷ more) ≡ l ∷ said_by more
spelled line l more s = said_more line l more (ap is_comment s.form ∙ line_no_comment l s.fits) (ap said s.form ∙ said_again l s.fits)

-- what is found between two ASes is a line that names them
found_between : (ls : List RelLine) (a b : ℕ) (m : RelLine) → line_between ls a b ≡ Some m → Contains ls m × (pair_of m ≡ edge_of a b)
found_between [] a b m e = absurd (cc e)
found_between (l ∷ ls) a b m e =
    elim (cases_Bool (names_pair l a b)) [
      | inl t ↦
          let is : l ≡ m = same_Some l m (rw t at e) in
          (Contains-from_has (l ∷ ls) m (0, ap (λ (x : RelLine). Some x) is), subst (λ (x : RelLine). pair_of x ≡ edge_of a b) is (same_edge (pair_of l) (edge_of a b) t))
      | inr f ↦ let rest = found_between ls a b m (rw f at e) in (Contains-append_right (l ∷ []) ls m rest.0, rest.1)
    ]

-- ---- that some of them says this

abbrev SomeLine : (RelLine → Type 0) → List RelLine → Type 0
SomeLine P ls = (l : RelLine) × Contains ls l × P l

module _ (P : RelLine → Type 0) where
  some_left : (xs ys : List RelLine) → SomeLine P xs → SomeLine P (xs ++ ys)
  some_left xs ys s = (s.0, Contains-append_left xs ys s.0 s.1, s.2)

  some_right : (xs ys : List RelLine) → SomeLine P ys → SomeLine P (xs ++ ys)
  some_right xs ys s = (s.0, Contains-append_right xs ys s.0 s.1, s.2)

  some_cases : (xs ys : List RelLine) → SomeLine P (xs ++ ys) → SomeLine P xs ⊎ SomeLine P ys
  some_cases xs ys s = elim (Contains-append_cases xs ys s.0 s.1) [ inl h ↦ inl (s.0, h, s.2) | inr h ↦ inr (s.0, h, s.2) ]

  one_some : (l : RelLine) → P l → SomeLine P (l ∷ [])
  one_some l p = (l, Contains-from_has (l ∷ []) l (0, refl), p)

  some_one : (l : RelLine) → SomeLine P (l ∷ []) → P l
  some_one l s = subst P (sym (Contains-one l s.0 s.1)) s.2

  -- where of two lines of the same two ASes that say the same both say it, what is read says it exactly if some line does
  module _ (same : (r l : RelLine) → pair_of r ≡ pair_of l → agrees r l ≡ true → P l → P r) where
    known_again : (rel more : List RelLine) (l r : RelLine) → line_between rel l.first l.second ≡ Some r → agrees r l ≡ true →
        SomeLine P (rel ++ (l ∷ more)) → SomeLine P (rel ++ more)
    known_again rel more l r there t s =
        elim (some_cases rel (l ∷ more) s) [
          | inl h ↦ some_left rel more h
          | inr h ↦ elim (some_cases (l ∷ []) more h) [
            | inl p ↦
                let found = found_between rel l.first l.second r there in
                some_left rel more (r, found.0, same r l found.1 t (some_one l p))
            | inr k ↦ some_right rel more k
          ]
        ]

    one_more : (rel more : List RelLine) (l : RelLine) → SomeLine P (rel ++ more) → SomeLine P (rel ++ (l ∷ more))
    one_more rel more l s =
        elim (some_cases rel more s) [ inl h ↦ some_left rel (l ∷ more) h | inr h ↦ some_right rel (l ∷ more) (some_right (l ∷ []) more h) ]

    abbrev IsReadSo : List RelLine → List RelLine → List (List ℕ) → Type 0
    IsReadSo rel out all = SomeLine P out ↔ SomeLine P (rel ++ said_by all)

    read_some : (n : ℕ) (rel out : List RelLine) (all : List (List ℕ)) → rel_from n rel all ≡ Ok out → IsReadSo rel out all
    read_some n rel out [] e =
        let is : rel ≡ out = cc in
        let whole : out ≡ rel ++ [] = sym is ∙ sym (append-nil rel) in (
          λ s. subst (SomeLine P) whole s,
          λ s. subst (SomeLine P) (sym whole) s,
        )
    read_some n rel out (line ∷ more) e = by_comment (λ next is. read_some (n + 1) next out more (sym (goes_on n rel next line more is) ∙ e)) (is_comment line) refl
      where
        Goes : Type 0
        Goes = (next : List RelLine) → after_line rel line ≡ Some next → IsReadSo next out more

        as_said : (ls : List RelLine) → said_by (line ∷ more) ≡ ls → (SomeLine P out ↔ SomeLine P (rel ++ ls)) → IsReadSo rel out (line ∷ more)
        as_said ls is h = subst (λ xs. SomeLine P out ↔ SomeLine P (rel ++ xs)) (sym is) h

        by_agreement : Goes → (l r : RelLine) → is_comment line ≡ false → said line ≡ Some l → line_between rel l.first l.second ≡ Some r → (b : Bool) → agrees r l ≡ b →
            IsReadSo rel out (line ∷ more)
        by_agreement on l r c s there true t =
            let h = on rel (after_said rel line l c s ∙ with_line_some rel l r true there t) in
            as_said (l ∷ said_by more) (said_more line l more c s)
            (λ p. one_more rel (said_by more) l (h.0 p), λ p. h.1 (known_again rel (said_by more) l r there t p))
        by_agreement on l r c s there false t = absurd (cc (sym (is_refused n rel line more (after_said rel line l c s ∙ with_line_some rel l r false there t)) ∙ e))

        by_found : Goes → (l : RelLine) → is_comment line ≡ false → said line ≡ Some l → (o : Option RelLine) → line_between rel l.first l.second ≡ o → IsReadSo rel out (line ∷ more)
        by_found on l c s (Some r) there = by_agreement on l r c s there (agrees r l) refl
        by_found on l c s None there =
            as_said (l ∷ said_by more) (said_more line l more c s)
            (subst (λ xs. SomeLine P out ↔ SomeLine P xs) (append_assoc rel (l ∷ []) (said_by more)) (on (rel ++ l ∷ []) (after_said rel line l c s ∙ with_line_none rel l there)))

        by_said : Goes → is_comment line ≡ false → (o : Option RelLine) → said line ≡ o → IsReadSo rel out (line ∷ more)
        by_said on c (Some l) s = by_found on l c s (line_between rel l.first l.second) refl
        by_said on c None s = absurd (cc (sym (is_refused n rel line more (after_unsaid rel line c s)) ∙ e))

        by_comment : Goes → (b : Bool) → is_comment line ≡ b → IsReadSo rel out (line ∷ more)
        by_comment on true c = as_said (said_by more) (said_comment line more c) (on rel (after_comment rel line c))
        by_comment on false c = by_said on c (said line) refl

-- ---- of two lines that say the same

kinds_agree : (j k : RelKind) (b : Bool) → agree_in j k b ≡ true → k ≡ Transit → (j ≡ Transit) × (b ≡ true)
kinds_agree Transit Transit b t is = (refl, t)
kinds_agree Transit Peering b t is = absurd (cc is)
kinds_agree Peering Transit b t is = absurd (cc t)
kinds_agree Peering Peering b t is = absurd (cc is)

-- the line says that one AS is the provider of the other, as the given does
abbrev Gives : Given → RelLine → Type 0
Gives g l = (l.kind ≡ Transit) × (given_by l ≡ g)

gives_too : (g : Given) (r l : RelLine) → pair_of r ≡ pair_of l → agrees r l ≡ true → Gives g l → Gives g r
gives_too g r l e t gives =
    let both = kinds_agree r.kind l.kind (eqb r.first l.first) t gives.0 in
    let first : r.first ≡ l.first = eqb-true r.first l.first both.1 in
    let low : min r.first r.second ≡ min l.first l.second = ap (λ (p : Edge). p.0) e in
    let high : max r.first r.second ≡ max l.first l.second = ap (λ (p : Edge). p.1) e in
    let second : r.second ≡ l.second = omega (arith, low, high, first) in
    let same : given_by r ≡ given_by l = ap₂ (λ a b. record { over = a; under = b }) first second in
    (both.0, same ∙ gives.1)

-- it names the two of the edge
abbrev Names : Edge → RelLine → Type 0
Names f l = pair_of l ≡ f

-- ---- givens and pairs

transit_is : (k : RelKind) → is_transit k ≡ true → k ≡ Transit
transit_is Transit t = refl
transit_is Peering t = absurd (cc t)

pub given_some : (rel : List RelLine) (g : Given) → Contains (givens_in rel) g ↔ SomeLine (Gives g) rel
given_some rel g = (
  λ c.
      let u = unmapped given_by some g c in
      let all = All-filter p (Contains rel) rel (All-contains_itself rel) in (
        u.0,
        All-contains (Contains rel) some u.0 all u.1,
        (transit_is (u.0).kind (All-contains (λ l. p l ≡ true) some u.0 (filter_passes p rel) u.1), u.2),
      ),
  λ s. subst (Contains (givens_in rel)) s.2.1 (Contains-map given_by some s.0 (in_filter p rel s.0 s.1 (ap is_transit s.2.0))),
)
  where
    p : RelLine → Bool
    p l = is_transit l.kind

    some : List RelLine
    some = filter p rel

pub paired_some : (rel : List RelLine) (f : Edge) → (is_paired (pairs_in rel) f ≡ true) ↔ SomeLine (Names f) rel
paired_some rel f = (there rel, λ s. back rel s.0 s.1 s.2)
  where
    there : (ls : List RelLine) → is_paired (pairs_in ls) f ≡ true → SomeLine (Names f) ls
    there [] t = absurd (cc t)
    there (l ∷ ls) t =
        elim (cases_Bool (is_same f (pair_of l))) [
          | inl s ↦ some_left (Names f) (l ∷ []) ls (one_some (Names f) l (sym (same_edge f (pair_of l) s)))
          | inr n ↦ some_right (Names f) (l ∷ []) ls (there ls (rw n at t))
        ]

    back : (ls : List RelLine) (m : RelLine) → Contains ls m → Names f m → is_paired (pairs_in ls) f ≡ true
    back [] m c e = absurd (Contains-none m c)
    back (l ∷ ls) m (zero, lt, is) e =
        let same : is_same f (pair_of l) ≡ true = ap (λ (x : RelLine). is_same f (pair_of x)) is ∙ ap (is_same f) e ∙ is_same-self f in rw same refl
    back (l ∷ ls) m (suc k, lt, is) e =
        or_right (is_same f (pair_of l)) (is_paired (pairs_in ls) f) (back ls m (k, omega (arith, lt), is) e)

-- ---- octets that tell more

module _ (given : Given) (bytes more : List ℕ) (tells : TellMore given bytes more) where
  abbrev told : RelLine
  told = rel_line given.over given.under Transit

  abbrev old : List RelLine
  old = said_by (lines bytes)

  abbrev new : List RelLine
  new = said_by (lines more)

  abbrev Stands : Type 0
  Stands = StandsForPeers given tells.line (lines bytes) (lines more)

  behind : lines more ≡ lines bytes ++ tells.line ∷ [] → new ≡ old ++ told ∷ []
  behind e = ap said_by e ∙ said_append (lines bytes) (tells.line ∷ []) ∙ ap (λ ls. old ++ ls) (spelled tells.line told [] tells.says)

  before_it : (s : Stands) → old ≡ said_by s.before ++ (s.peers ∷ said_by s.after)
  before_it s = ap said_by s.was ∙ said_append s.before (s.other ∷ s.after) ∙ ap (λ ls. said_by s.before ++ ls) (spelled s.other s.peers s.after s.says)

  in_place : (s : Stands) → new ≡ said_by s.before ++ (told ∷ said_by s.after)
  in_place s = ap said_by s.is ∙ said_append s.before (tells.line ∷ s.after) ∙ ap (λ ls. said_by s.before ++ ls) (spelled tells.line told s.after tells.says)

  module _ (P : RelLine → Type 0) where
    told_said : P told → SomeLine P new
    told_said p =
        elim tells.stands [
          | inl e ↦ subst (SomeLine P) (sym (behind e)) (some_right P old (told ∷ []) (one_some P told p))
          | inr s ↦ subst (SomeLine P) (sym (in_place s))
              (some_right P (said_by s.before) (told ∷ said_by s.after) (some_left P (told ∷ []) (said_by s.after) (one_some P told p)))
        ]

    old_or_told : SomeLine P new → SomeLine P old ⊎ P told
    old_or_told h =
        elim tells.stands [
          | inl e ↦ elim (some_cases P old (told ∷ []) (subst (SomeLine P) (behind e) h)) [ inl k ↦ inl k | inr k ↦ inr (some_one P told k) ]
          | inr s ↦
              let first = said_by s.before in
              let last = said_by s.after in
              elim (some_cases P first (told ∷ last) (subst (SomeLine P) (in_place s) h)) [
                | inl k ↦ inl (subst (SomeLine P) (sym (before_it s)) (some_left P first (s.peers ∷ last) k))
                | inr k ↦ elim (some_cases P (told ∷ []) last k) [
                  | inl p ↦ inr (some_one P told p)
                  | inr m ↦ inl (subst (SomeLine P) (sym (before_it s)) (some_right P first (s.peers ∷ last) (some_right P (s.peers ∷ []) last m)))
                ]
              ]
        ]

    -- what was said still is, where it isn't that the two are peers
    old_said : ((m : RelLine) → m.kind ≡ Peering → pair_of m ≡ edge_of given.over given.under → P m → ⊥) → SomeLine P old → SomeLine P new
    old_said never h =
        elim tells.stands [
          | inl e ↦ subst (SomeLine P) (sym (behind e)) (some_left P old (told ∷ []) h)
          | inr s ↦
              let first = said_by s.before in
              let last = said_by s.after in
              subst (SomeLine P) (sym (in_place s))
              (elim (some_cases P first (s.peers ∷ last) (subst (SomeLine P) (before_it s) h)) [
                | inl k ↦ some_left P first (told ∷ last) k
                | inr k ↦ elim (some_cases P (s.peers ∷ []) last k) [
                  | inl p ↦ absurd (never s.peers s.kind s.two (some_one P s.peers p))
                  | inr m ↦ some_right P first (told ∷ last) (some_right P (told ∷ []) last m)
                ]
              ])
        ]

  module _ (rel next : List RelLine) (reads : rel_in bytes ≡ Ok rel) (reads_more : rel_in more ≡ Ok next) where
    -- they say what was said and the given
    pub with_given : (g : Given) → Contains (givens_in next) g ↔ (Contains (givens_in rel) g ⊎ (g ≡ given))
    with_given g =
        let was = given_some rel g in
        let is = given_some next g in
        let old_reading = read_some (Gives g) (gives_too g) 0 [] rel (lines bytes) reads in
        let reading = read_some (Gives g) (gives_too g) 0 [] next (lines more) reads_more in (
          λ c. elim (old_or_told (Gives g) (reading.0 (is.0 c))) [ inl s ↦ inl (was.1 (old_reading.1 s)) | inr p ↦ inr (sym p.1) ],
          λ h. is.1 (reading.1 (elim h [
            | inl c ↦ old_said (Gives g) (λ m kind two gives. no_peering (sym kind ∙ gives.0)) (old_reading.0 (was.0 c))
            | inr e ↦ told_said (Gives g) (refl, sym e)
          ])),
        )
      where
        no_peering : Peering ≡ Transit → ⊥
        no_peering e = cc e

    names_too : (f : Edge) (r l : RelLine) → pair_of r ≡ pair_of l → agrees r l ≡ true → Names f l → Names f r
    names_too f r l e t is = e ∙ is

    -- they name its two
    pub names_its : is_paired (pairs_in next) (edge_of given.over given.under) ≡ true
    names_its =
        let f = edge_of given.over given.under in
        (paired_some next f).1 ((read_some (Names f) (names_too f) 0 [] next (lines more) reads_more).1 (told_said (Names f) refl))

    -- and of other edges those that were named
    pub names_others : (f : Edge) → is_same f (edge_of given.over given.under) ≡ false → is_paired (pairs_in rel) f ≡ is_paired (pairs_in next) f
    names_others f apart =
        let was = paired_some rel f in
        let is = paired_some next f in
        let old_reading = read_some (Names f) (names_too f) 0 [] rel (lines bytes) reads in
        let reading = read_some (Names f) (names_too f) 0 [] next (lines more) reads_more in
        as_well (is_paired (pairs_in rel) f) (is_paired (pairs_in next) f)
        (λ t. is.1 (reading.1 (old_said (Names f) (λ m kind two same. other (sym two ∙ same)) (old_reading.0 (was.0 t)))))
        (λ t. elim (old_or_told (Names f) (reading.0 (is.0 t))) [ inl s ↦ was.1 (old_reading.1 s) | inr e ↦ absurd (other e) ])
      where
        other : edge_of given.over given.under ≡ f → ⊥
        other e = let t : is_same f (edge_of given.over given.under) ≡ true = ap (is_same f) e ∙ is_same-self f in cc (sym apart ∙ t)

        as_well : (a b : Bool) → (a ≡ true → b ≡ true) → (b ≡ true → a ≡ true) → a ≡ b
        as_well true b h k = sym (h refl)
        as_well false true h k = k refl
        as_well false false h k = refl
