-- Open edges by their places, and how many stand before each.
use Rattle.std.proofs.Common.{◌≡◌, ℕ, zero, suc, ◌+◌, ◌<◌, ◌≤◌, List, [], ◌∷◌, ◌++◌, Some, None, length, drop, refl, sym, ap, ◌∙◌, subst, arith, append_assoc, append-nil, inl, inr}
use Rattle.std.specs.Prelude.{slice_get}
use Rattle.std.proofs.lemmas.Option.{slice_get_within, same_Some}
use Rattle.tor_arena.proofs.Gets.{slice_get-push_cases}
use Rattle.relationships.specs.declared.mark.Mark.{Mark}
use Rattle.ties.specs.Tied.{open_from}
use Rattle.ties.specs.Parts.{IsOpen}
use Rattle.asks.specs.Narrowing.{opens_before, one_if_open}

nothing : {X : Type 0} {x : X} → None ≡ Some x → ⊥
nothing e = cc

forced_open : Some Mark.Forced ≡ Some Mark.Open → ⊥
forced_open e = cc

-- an open edge stands among the open ones behind those before it
open_at : (n : ℕ) (marks : List Mark) (place : ℕ) → IsOpen marks place → slice_get (open_from n marks) (opens_before marks place) ≡ Some (n + place)
open_at n [] place o = absurd (nothing o)
open_at n (Mark.Forced ∷ marks) zero o = absurd (forced_open o)
open_at n (Mark.Open ∷ marks) zero o = let e : n ≡ n + 0 = omega arith in ap (λ k. Some k) e
open_at n (Mark.Forced ∷ marks) (suc place) o = let e : n + 1 + place ≡ n + suc place = omega arith in open_at (n + 1) marks place o ∙ ap (λ k. Some k) e
open_at n (Mark.Open ∷ marks) (suc place) o = let e : n + 1 + place ≡ n + suc place = omega arith in open_at (n + 1) marks place o ∙ ap (λ k. Some k) e

-- what stands among them is open
open_back : (n : ℕ) (marks : List Mark) (k place : ℕ) → slice_get (open_from n marks) k ≡ Some place →
    (j : ℕ) × (place ≡ n + j) × IsOpen marks j × (opens_before marks j ≡ k)
open_back n [] k place e = absurd (nothing e)
open_back n (Mark.Forced ∷ marks) k place e = let r = open_back (n + 1) marks k place e in let is = r.1 in (suc r.0, omega (arith, is), r.2, r.3)
open_back n (Mark.Open ∷ marks) zero place e = let is : n ≡ place = same_Some n place e in (0, omega (arith, is), refl, refl)
open_back n (Mark.Open ∷ marks) (suc k) place e = let r = open_back (n + 1) marks k place e in let is = r.1 in (suc r.0, omega (arith, is), r.2, ap suc r.3)

pub place_of_open : (marks : List Mark) (place : ℕ) → IsOpen marks place → slice_get (open_from 0 marks) (opens_before marks place) ≡ Some place
place_of_open marks place o = let e : 0 + place ≡ place = omega arith in open_at 0 marks place o ∙ ap (λ k. Some k) e

pub open_of_place : (marks : List Mark) (k place : ℕ) → slice_get (open_from 0 marks) k ≡ Some place → IsOpen marks place × (opens_before marks place ≡ k)
open_of_place marks k place e =
    let r = open_back 0 marks k place e in let is = r.1 in
    let same : r.0 ≡ place = omega (arith, is) in (subst (IsOpen marks) same r.2, ap (opens_before marks) (sym same) ∙ r.3)

pub before_below : (marks : List Mark) (place : ℕ) → IsOpen marks place → opens_before marks place < length (open_from 0 marks)
before_below marks place o = slice_get_within (open_from 0 marks) (opens_before marks place) place (place_of_open marks place o)

pub before_few : (marks : List Mark) (place : ℕ) → opens_before marks place ≤ length marks
before_few [] place = omega arith
before_few (Mark.Forced ∷ marks) zero = omega arith
before_few (Mark.Open ∷ marks) zero = omega arith
before_few (Mark.Forced ∷ marks) (suc place) = let le = before_few marks place in omega (arith, le)
before_few (Mark.Open ∷ marks) (suc place) = let le = before_few marks place in omega (arith, le)

pub opens_few : (n : ℕ) (marks : List Mark) → length (open_from n marks) ≤ length marks
opens_few n [] = omega arith
opens_few n (Mark.Forced ∷ marks) = let le = opens_few (n + 1) marks in omega (arith, le)
opens_few n (Mark.Open ∷ marks) = let le = opens_few (n + 1) marks in omega (arith, le)

-- two open edges with as many open ones before them are one
pub same_open : (marks : List Mark) (p q : ℕ) → IsOpen marks p → IsOpen marks q → opens_before marks p ≡ opens_before marks q → p ≡ q
same_open marks p q o u e = same_Some p q (sym (place_of_open marks p o) ∙ ap (slice_get (open_from 0 marks)) e ∙ place_of_open marks q u)

-- ---- one place more

next_open : (marks : List Mark) (place : ℕ) → slice_get marks place ≡ Some Mark.Open → opens_before marks (suc place) ≡ suc (opens_before marks place)
next_open [] place e = absurd (nothing e)
next_open (Mark.Forced ∷ marks) zero e = absurd (forced_open e)
next_open (Mark.Open ∷ []) zero e = refl
next_open (Mark.Open ∷ Mark.Forced ∷ marks) zero e = refl
next_open (Mark.Open ∷ Mark.Open ∷ marks) zero e = refl
next_open (Mark.Forced ∷ marks) (suc place) e = next_open marks place e
next_open (Mark.Open ∷ marks) (suc place) e = ap suc (next_open marks place e)

next_forced : (marks : List Mark) (place : ℕ) → slice_get marks place ≡ Some Mark.Forced → opens_before marks (suc place) ≡ opens_before marks place
next_forced [] place e = absurd (nothing e)
next_forced (Mark.Open ∷ marks) zero e = absurd (cc e)
next_forced (Mark.Forced ∷ []) zero e = refl
next_forced (Mark.Forced ∷ Mark.Forced ∷ marks) zero e = refl
next_forced (Mark.Forced ∷ Mark.Open ∷ marks) zero e = refl
next_forced (Mark.Forced ∷ marks) (suc place) e = next_forced marks place e
next_forced (Mark.Open ∷ marks) (suc place) e = ap suc (next_forced marks place e)

one_open : (marks : List Mark) (place : ℕ) → slice_get marks place ≡ Some Mark.Open → opens_before marks (place + 1) ≡ opens_before marks place + 1
one_open marks place e = let s : place + 1 ≡ suc place = omega arith in let h = next_open marks place e in ap (opens_before marks) s ∙ omega (arith, h)

one_forced : (marks : List Mark) (place : ℕ) → slice_get marks place ≡ Some Mark.Forced → opens_before marks (place + 1) ≡ opens_before marks place
one_forced marks place e = let s : place + 1 ≡ suc place = omega arith in ap (opens_before marks) s ∙ next_forced marks place e

pub one_more : (marks : List Mark) (place : ℕ) (mark : Mark) → slice_get marks place ≡ Some mark →
    opens_before marks (place + 1) ≡ opens_before marks place + one_if_open mark
one_more marks place Mark.Forced e = let h = one_forced marks place e in omega (arith, h)
one_more marks place Mark.Open e = one_open marks place e

pub none_before : (marks : List Mark) → opens_before marks 0 ≡ 0
none_before [] = refl
none_before (Mark.Forced ∷ marks) = refl
none_before (Mark.Open ∷ marks) = refl

-- the counts so far
pub record AreBeforeTo (marks : List Mark) (place count : ℕ) (before : List ℕ) : Type 0 where
  pub many : length before ≡ place
  pub each : (k n : ℕ) → slice_get before k ≡ Some n → n ≡ opens_before marks k
  pub here : count ≡ opens_before marks place

pub push_count : (marks : List Mark) (place count count' : ℕ) (before more : List ℕ) → AreBeforeTo marks place count before →
    more ≡ before ++ count ∷ [] → count' ≡ opens_before marks (place + 1) → AreBeforeTo marks (place + 1) count' more
push_count marks place count count' before more h is next =
    subst (AreBeforeTo marks (place + 1) count') (sym is) (record {
      many = (let m = h.many in let l = length-snoc before count in omega (arith, m, l));
      each = λ k n at. elim (slice_get-push_cases before count k n at) [
        | inl old ↦ h.each k n old
        | inr new ↦ new.1 ∙ h.here ∙ ap (opens_before marks) (sym (new.0 ∙ h.many))
      ];
      here = next;
    })
  where
    length-snoc : (xs : List ℕ) (x : ℕ) → length (xs ++ x ∷ []) ≡ suc (length xs)
    length-snoc [] x = refl
    length-snoc (a ∷ xs) x = ap suc (length-snoc xs x)

-- ---- the places so far, and those still to come

left_here : (marks : List Mark) (place : ℕ) (mark : Mark) → slice_get marks place ≡ Some mark → drop place marks ≡ mark ∷ drop (place + 1) marks
left_here [] place mark e = absurd (nothing e)
left_here (m ∷ marks) zero mark e = ap (λ (w : Mark). w ∷ marks) (same_Some m mark e)
left_here (m ∷ marks) (suc place) mark e = let n : suc place + 1 ≡ suc (place + 1) = omega arith in rw n (left_here marks place mark e)

abbrev pub ArePlacesTo : List Mark → ℕ → List ℕ → Type 0
ArePlacesTo marks place places = places ++ open_from place (drop place marks) ≡ open_from 0 marks

pub pass_forced : (marks : List Mark) (place : ℕ) (places : List ℕ) → slice_get marks place ≡ Some Mark.Forced → ArePlacesTo marks place places →
    ArePlacesTo marks (place + 1) places
pass_forced marks place places at h = subst (λ l. places ++ open_from place l ≡ open_from 0 marks) (left_here marks place Mark.Forced at) h

pub push_open : (marks : List Mark) (place : ℕ) (places more : List ℕ) → slice_get marks place ≡ Some Mark.Open → more ≡ places ++ place ∷ [] →
    ArePlacesTo marks place places → ArePlacesTo marks (place + 1) more
push_open marks place places more at is h =
    ap (λ l. l ++ open_from (place + 1) (drop (place + 1) marks)) is ∙ append_assoc places (place ∷ []) (open_from (place + 1) (drop (place + 1) marks)) ∙
    subst (λ l. places ++ open_from place l ≡ open_from 0 marks) (left_here marks place Mark.Open at) h

none_left : (marks : List Mark) (place : ℕ) → length marks ≤ place → drop place marks ≡ []
none_left [] zero le = refl
none_left [] (suc place) le = refl
none_left (m ∷ marks) zero le = absurd (omega (arith, le))
none_left (m ∷ marks) (suc place) le = none_left marks place (omega (arith, le))

pub all_places : (marks : List Mark) (place : ℕ) (places : List ℕ) → length marks ≤ place → ArePlacesTo marks place places → places ≡ open_from 0 marks
all_places marks place places le h =
    sym (append-nil places) ∙ subst (λ l. places ++ open_from place l ≡ open_from 0 marks) (none_left marks place le) h
