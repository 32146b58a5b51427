-- Octets that come in pieces: the line that is read off a piece is the line that is read off the whole text.
use Rattle.std.proofs.Common.{◌≡◌, ℕ, zero, suc, ◌+◌, Bool, true, false, eqb, List, [], ◌∷◌, ◌++◌, ◌<◌, length, take, drop, Option, Some}
use Rattle.std.proofs.Common.{None, refl, sym, ap, subst, ◌∙◌, append_assoc, arith, inl, inr}
use Rattle.std.specs.Prelude.{◌≢◌, Result, Err}
use Rattle.std.proofs.lemmas.List.{append-nil, take-append-drop, length-append}
use Rattle.result_text.specs.declared.file.ResultFile.{ResultFile}
use Rattle.result_text.specs.declared.line.Line.{Line}
use Rattle.result_text.specs.declared.draft.Draft.{Draft}
use Rattle.result_text.specs.declared.taking.Parser.{Parser}
use Rattle.text_fields.proofs.Readers.{bind_some, some_is}
use Rattle.result_text.specs.Text.{line_text}
use Rattle.result_text.specs.Ranges.{LineFits}
use Rattle.result_text.specs.Reading.{Fails}
use Rattle.result_text.specs.declared.error.LineError.{LineError}
use Rattle.result_text.specs.declared.error.LineError.TheVariants as errors
use Rattle.result_text.specs.Grammar.{IsTextOf, IsBadLine}
use Rattle.result_text.specs.Order.{step, empty_draft, finished, next_at}
use Rattle.result_text.specs.Taking.{feedless, AreWhole, lines_at, IsAt, StaysBad, HasCome, HasTakenIf, HasTaken}
use Rattle.result_text.proofs.Lines.{line_takes, line_again}
use Rattle.result_text.proofs.LineFeeds.{unless_parts, feedless_append, line_ends}
use Rattle.result_text.proofs.Verdicts.{its_version, Progress, progress_starts, progress_goes_on, next_parts, none_is_some, stopped, unfinished, whole_text}

-- ---- line feeds

not_both : false ≡ true → ⊥
not_both e = absurd cc

first_same : (x y : ℕ) (xs ys : List ℕ) → x ∷ xs ≡ y ∷ ys → x ≡ y
first_same x y xs ys e = cc

others_same : (x y : ℕ) (xs ys : List ℕ) → x ∷ xs ≡ y ∷ ys → xs ≡ ys
others_same x y xs ys e = cc

no_feed : (xs ys : List ℕ) → feedless (xs ++ 10 ∷ ys) ≡ true → ⊥
no_feed [] ys e = not_both e
no_feed (x ∷ xs) ys e = no_feed xs ys (unless_parts (eqb x 10) (feedless (xs ++ 10 ∷ ys)) e).1

-- a line, whose one line feed is its last octet, stands before a line feed behind it
line_within : (body ys more after : List ℕ) → feedless body ≡ true → (ys ++ 10 ∷ []) ++ more ≡ (body ++ 10 ∷ []) ++ after → (rest : List ℕ) × (ys ++ 10 ∷ [] ≡ (body ++ 10 ∷ []) ++ rest)
line_within [] [] more after f e = ([], refl)
line_within [] (y ∷ ys) more after f e =
    let first : y ≡ 10 = first_same y 10 ((ys ++ 10 ∷ []) ++ more) after e in
    (ys ++ 10 ∷ [], ap (λ (z : ℕ). z ∷ (ys ++ 10 ∷ [])) first)
line_within (b ∷ body) [] more after f e =
    let first : 10 ≡ b = first_same 10 b more ((body ++ 10 ∷ []) ++ after) e in
    absurd (no_feed [] body (subst (λ (z : ℕ). feedless (z ∷ body) ≡ true) (sym first) f))
line_within (b ∷ body) (y ∷ ys) more after f e =
    let first : y ≡ b = first_same y b ((ys ++ 10 ∷ []) ++ more) ((body ++ 10 ∷ []) ++ after) e in
    let others : (ys ++ 10 ∷ []) ++ more ≡ (body ++ 10 ∷ []) ++ after = others_same y b ((ys ++ 10 ∷ []) ++ more) ((body ++ 10 ∷ []) ++ after) e in
    let r = line_within body ys more after (unless_parts (eqb b 10) (feedless body) f).1 others in
    (r.0, ap (λ (z : ℕ). z ∷ (ys ++ 10 ∷ [])) first ∙ ap (λ (zs : List ℕ). b ∷ zs) r.1)

none_behind : (xs after : List ℕ) → xs ++ after ≡ [] → after ≡ []
none_behind [] after e = e
none_behind (x ∷ xs) after e = absurd (omega (arith, ap length e))

-- what stands behind the first of whole lines is whole
whole_behind : (xs after ys : List ℕ) → xs ++ after ≡ ys ++ 10 ∷ [] → AreWhole after
whole_behind [] after ys e = inr (ys, e)
whole_behind (x ∷ xs) after [] e = inl (none_behind xs after (others_same x 10 (xs ++ after) [] e))
whole_behind (x ∷ xs) after (y ∷ ys) e = whole_behind xs after ys (others_same x y (xs ++ after) (ys ++ 10 ∷ []) e)

whole_rest : (octets xs after : List ℕ) → AreWhole octets → xs ++ after ≡ octets → AreWhole after
whole_rest octets xs after (inl none) is = inl (none_behind xs after (is ∙ none))
whole_rest octets xs after (inr some) is = whole_behind xs after some.0 (is ∙ some.1)

-- ---- one line

next_again : (d e : Draft) (l : Line) (rest : List ℕ) → LineFits l → step d l ≡ Some e → next_at d (line_text (its_version d) l ++ rest) ≡ Some (e, rest)
unfolding next_at
next_again d e l rest fits s = rw (line_again (its_version d) l rest fits, s) refl

-- a line that was read, as it was written
record Read (d e : Draft) (octets after : List ℕ) : Type 0 where
  line : Line
  fits : LineFits line
  steps : step d line ≡ Some e
  encoded : octets ≡ line_text (its_version d) line ++ after

read_of : (d e : Draft) (octets after : List ℕ) → next_at d octets ≡ Some (e, after) → Read d e octets after
read_of d e octets after n =
    let t = next_parts d e octets after n in
    let r = line_takes (its_version d) octets (t.0, after) t.1 in
    record { line = t.0; fits = r.0; steps = t.2; encoded = r.1 }

next_more : (d e : Draft) (octets after more : List ℕ) → next_at d octets ≡ Some (e, after) → next_at d (octets ++ more) ≡ Some (e, after ++ more)
next_more d e octets after more n =
    let r = read_of d e octets after n in
    ap (next_at d) (ap (λ (x : List ℕ). x ++ more) r.encoded ∙ append_assoc (line_text (its_version d) r.line) after more) ∙ next_again d e r.line (after ++ more) r.fits r.steps

none_more : (d : Draft) (ys more : List ℕ) → next_at d (ys ++ 10 ∷ []) ≡ None → next_at d ((ys ++ 10 ∷ []) ++ more) ≡ None
none_more d ys more n = by (next_at d ((ys ++ 10 ∷ []) ++ more)) refl
  where
    by : (o : Option (Draft × List ℕ)) → next_at d ((ys ++ 10 ∷ []) ++ more) ≡ o → next_at d ((ys ++ 10 ∷ []) ++ more) ≡ None
    by None is = is
    by (Some x) is =
        let r = read_of d x.0 ((ys ++ 10 ∷ []) ++ more) x.1 is in
        let ends = line_ends (its_version d) r.line r.fits in
        let within = line_within ends.0 ys more x.1 ends.1 (r.encoded ∙ ap (λ (z : List ℕ). z ++ x.1) ends.2) in
        let encoded : ys ++ 10 ∷ [] ≡ line_text (its_version d) r.line ++ within.0 = within.1 ∙ ap (λ (z : List ℕ). z ++ within.0) (sym ends.2) in
        absurd (none_is_some (x.0, within.0) (sym n ∙ ap (next_at d) encoded ∙ next_again d x.0 r.line within.0 r.fits r.steps))

feedless_none : (d : Draft) (octets : List ℕ) → feedless octets ≡ true → next_at d octets ≡ None
feedless_none d octets f = by (next_at d octets) refl
  where
    by : (o : Option (Draft × List ℕ)) → next_at d octets ≡ o → next_at d octets ≡ None
    by None is = is
    by (Some x) is =
        let r = read_of d x.0 octets x.1 is in
        let ends = line_ends (its_version d) r.line r.fits in
        let encoded : octets ≡ ends.0 ++ 10 ∷ x.1 = r.encoded ∙ ap (λ (z : List ℕ). z ++ x.1) ends.2 ∙ append_assoc ends.0 (10 ∷ []) x.1 in
        absurd (no_feed ends.0 x.1 (subst (λ (z : List ℕ). feedless z ≡ true) encoded f))

-- what stands behind a line that is read off whole lines is whole
pub whole_after : (d e : Draft) (octets after : List ℕ) → AreWhole octets → next_at d octets ≡ Some (e, after) → AreWhole after
whole_after d e octets after whole n =
    let r = read_of d e octets after n in
    whole_rest octets (line_text (its_version d) r.line) after whole (sym r.encoded)

-- ---- the lines so far

lines_on : (n : ℕ) (octets : List ℕ) (d e : Draft) (rest after : List ℕ) → lines_at n octets ≡ Some (d, rest) → next_at d rest ≡ Some (e, after) → lines_at (suc n) octets ≡ Some (e, after)
unfolding lines_at
lines_on n octets d e rest after is next = rw is next

lines_more : (n : ℕ) (octets more : List ℕ) (d : Draft) (rest : List ℕ) → lines_at n octets ≡ Some (d, rest) → lines_at n (octets ++ more) ≡ Some (d, rest ++ more)
unfolding lines_at
lines_more zero octets more d rest e =
    let pair : (empty_draft, octets) ≡ (d, rest) = some_is (empty_draft, octets) (d, rest) e in
    ap (λ (p : Draft × List ℕ). Some (p.0, p.1 ++ more)) pair
lines_more (suc n) octets more d rest e =
    let b = bind_some (lines_at n octets) (λ x. next_at x.0 x.1) (d, rest) e in
    rw (lines_more n octets more b.0.0 b.0.1 b.1) (next_more b.0.0 d b.0.1 rest more b.2)

progress_of : (n : ℕ) (octets : List ℕ) (d : Draft) (rest : List ℕ) → lines_at n octets ≡ Some (d, rest) → Progress d octets rest n
unfolding lines_at
progress_of zero octets d rest e =
    let pair : (empty_draft, octets) ≡ (d, rest) = some_is (empty_draft, octets) (d, rest) e in
    subst (λ (p : Draft × List ℕ). Progress p.0 octets p.1 0) pair (progress_starts octets)
progress_of (suc n) octets d rest e =
    let b = bind_some (lines_at n octets) (λ x. next_at x.0 x.1) (d, rest) e in
    let more : n + 1 ≡ suc n = omega arith in
    subst (Progress d octets rest) more (progress_goes_on b.0.0 d octets b.0.1 rest n (progress_of n octets b.0.0 b.0.1 b.1) b.2)

pub starts_at : IsAt 1 empty_draft [] []
unfolding lines_at
starts_at = (0, omega arith, refl)

pub goes_on : (line next : ℕ) (d e : Draft) (octets rest after : List ℕ) → next ≡ line + 1 → IsAt line d octets rest → next_at d rest ≡ Some (e, after) → IsAt next e octets after
goes_on line next d e octets rest after more at n = (suc at.0, omega (arith, more, at.1), lines_on at.0 octets d e rest after at.2 n)

pub goes_further : (line : ℕ) (d : Draft) (octets rest more : List ℕ) → IsAt line d octets rest → IsAt line d (octets ++ more) (rest ++ more)
goes_further line d octets rest more at = (at.0, at.1, lines_more at.0 octets more d rest at.2)

-- ---- the bad line

pub stays_bad : (line : ℕ) (d : Draft) (octets rest : List ℕ) → AreWhole rest → length rest ≢ 0 → IsAt line d octets rest → next_at d rest ≡ None → StaysBad line octets
stays_bad line d octets rest (inl none) some at n more = absurd (some (ap length none))
stays_bad line d octets rest (inr whole) some at n more =
    let further = goes_further line d octets rest more at in
    let progress = progress_of further.0 (octets ++ more) d (rest ++ more) further.2 in
    let alone : next_at d (whole.0 ++ 10 ∷ []) ≡ None = ap (next_at d) (sym whole.1) ∙ n in
    let none : next_at d (rest ++ more) ≡ None = ap (λ (x : List ℕ). next_at d (x ++ more)) whole.1 ∙ none_more d whole.0 more alone in
    let long : length (rest ++ more) ≢ 0 = λ e. some (omega (arith, e, length-append rest more)) in
    subst (λ (k : ℕ). IsBadLine k (octets ++ more)) (sym further.1) (stopped d (octets ++ more) (rest ++ more) further.0 progress long none)

pub stays_bad_behind : (line : ℕ) (octets more : List ℕ) → StaysBad line octets → StaysBad line (octets ++ more)
stays_bad_behind line octets more bad others = subst (IsBadLine line) (sym (append_assoc octets more others)) (bad (more ++ others))

pub is_bad : (line : ℕ) (octets : List ℕ) → StaysBad line octets → IsBadLine line octets
is_bad line octets bad = subst (IsBadLine line) (append-nil octets) (bad [])

-- ---- the end

pub ends_bad : (line : ℕ) (d : Draft) (octets rest : List ℕ) → IsAt line d octets rest → feedless rest ≡ true → length rest ≢ 0 → IsBadLine line octets
ends_bad line d octets rest at f some =
    subst (λ (k : ℕ). IsBadLine k octets) (sym at.1) (stopped d octets rest at.0 (progress_of at.0 octets d rest at.2) some (feedless_none d rest f))

pub ends_early : (line : ℕ) (d : Draft) (octets rest : List ℕ) → IsAt line d octets rest → rest ≡ [] → finished d ≡ None → IsBadLine line octets
ends_early line d octets rest at none n =
    subst (λ (k : ℕ). IsBadLine k octets) (sym at.1) (unfinished d octets rest at.0 (progress_of at.0 octets d rest at.2) none n)

pub ends_well : (line : ℕ) (d : Draft) (octets rest : List ℕ) (f : ResultFile) → IsAt line d octets rest → rest ≡ [] → finished d ≡ Some f → IsTextOf f octets
ends_well line d octets rest f at none is = whole_text d octets rest at.0 f (progress_of at.0 octets d rest at.2) none is

-- ---- one piece more

-- whole lines behind the start of a line
pub whole_joined : (start octets : List ℕ) → 0 < length octets → AreWhole octets → AreWhole (start ++ octets)
whole_joined start octets some (inl none) = absurd (omega (arith, some, ap length none))
whole_joined start octets some (inr whole) = inr (start ++ whole.0, ap (λ (x : List ℕ). start ++ x) whole.1 ∙ sym (append_assoc start whole.0 (10 ∷ [])))

pub in_two : (before octets : List ℕ) (k : ℕ) → (before ++ take k octets) ++ drop k octets ≡ before ++ octets
in_two before octets k = append_assoc before (take k octets) (drop k octets) ∙ ap (λ (x : List ℕ). before ++ x) (take-append-drop k octets)

pub stays_bad_in_two : (line : ℕ) (before octets : List ℕ) (k : ℕ) → StaysBad line (before ++ take k octets) → StaysBad line (before ++ octets)
stays_bad_in_two line before octets k bad = subst (StaysBad line) (in_two before octets k) (stays_bad_behind line (before ++ take k octets) (drop k octets) bad)

-- ---- where the reading of lines stops

pub come_to_an_error : {X : Type 0} (line : ℕ) (d new : Draft) (octets rest : List ℕ) (e : LineError) (r : Result X LineError) → r ≡ Err e → AreWhole rest → length rest ≢ 0
    → IsAt line d octets rest → Fails e (next_at d rest) → HasCome line new octets r
come_to_an_error {X} line d new octets rest errors.NoMemory r is whole some at fails = subst (λ (x : Result X LineError). HasCome line new octets x) (sym is) tt
come_to_an_error {X} line d new octets rest errors.Bad r is whole some at fails =
    subst (λ (x : Result X LineError). HasCome line new octets x) (sym is) (stays_bad line d octets rest whole some at fails)

-- ---- what a parser has taken

-- octets with no line feed wait
pub waits : (p : Parser) (octets before : List ℕ) → feedless octets ≡ true → HasTaken p before → HasTaken (record p { start = p.start ++ octets }) (before ++ octets)
waits p octets before f taken = by p.bad taken
  where
    by : (b : Bool) → HasTakenIf b p before → HasTakenIf b (record p { start = p.start ++ octets }) (before ++ octets)
    by true bad = stays_bad_behind p.line before octets bad
    by false at = (goes_further p.line p.draft before p.start octets at.0, feedless_append p.start octets at.1 f)

-- a parser that knows its bad line, and one that knows none
pub knows : (p : Parser) (b : Bool) (octets : List ℕ) → p.bad ≡ b → HasTaken p octets → HasTakenIf b p octets
knows p b octets is taken = subst (λ (c : Bool). HasTakenIf c p octets) is taken

pub known_again : (p : Parser) (b : Bool) (octets : List ℕ) → p.bad ≡ b → HasTakenIf b p octets → HasTaken p octets
known_again p b octets is taken = subst (λ (c : Bool). HasTakenIf c p octets) (sym is) taken

-- one that has read whole lines, and waits for nothing
pub read_whole : (p : Parser) (octets : List ℕ) → p.bad ≡ false → p.start ≡ [] → IsAt p.line p.draft octets [] → HasTaken p octets
read_whole p octets well none at =
    let rest : IsAt p.line p.draft octets p.start = subst (IsAt p.line p.draft octets) (sym none) at in
    known_again p false octets well (rest, ap feedless none)
