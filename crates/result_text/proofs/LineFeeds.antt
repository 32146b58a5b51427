-- Each line of a text has one line feed, its last byte. So the first lines of the bytes are the texts of the first lines.
use Rattle.std.proofs.Common.{◌≡◌, ℕ, zero, suc, ◌+◌, ◌%◌, ◌^◌, ◌<◌, Bool, true, false, cond, eqb, List, [], ◌∷◌, ◌++◌, length, Option, Some, None, refl, sym, ap, ◌∙◌, append_assoc, arith}
use Rattle.std.specs.Prelude.{option_map}
use Rattle.std.specs.Fmt.{decimal}
use Rattle.std.specs.List.{join_with_byte, AllByRecursion}
use Rattle.std.proofs.lemmas.Bool.{ne_eqb}
use Rattle.std.proofs.lemmas.Fmt.{decimal_by_steps}
use Rattle.relationships.specs.declared.label.Label.TheVariants as label
use Rattle.relationships.specs.declared.label.Label.{Label}
use Rattle.relationships.specs.declared.walk.Link.{Link}
use Rattle.path_clean.specs.declared.cleaned.Sets.{Sets}
use Rattle.path_clean.specs.declared.cleaned.Sets.TheVariants as sets
use Rattle.path_clean.specs.declared.cleaned.Cause.{Cause}
use Rattle.path_clean.specs.declared.cleaned.Cause.TheVariants as cause
use Rattle.relationships.specs.declared.fate.Fate.{Fate}
use Rattle.relationships.specs.declared.fate.Fate.TheVariants as fate
use Rattle.relationships.specs.declared.mark.Mark.{Mark}
use Rattle.relationships.specs.declared.mark.Mark.TheVariants as mark
use Rattle.result_text.specs.declared.line.Line.{Line}
use Rattle.result_text.specs.declared.line.Line.TheVariants as line
use Rattle.result_text.specs.declared.line.Version.{Version}
use Rattle.result_text.specs.declared.line.Version.TheVariants as version
use Rattle.result_text.specs.Text.{fields, numbers_text, version_name, path_name, link, links, spaced, others, sets_name, cause_name, label_name, mark_name, path_fields, fields_of}
use Rattle.result_text.specs.Text.{line_text, text_of_lines}
use Rattle.result_text.specs.Ranges.{AreU32, LinkFits, FateFits, LineFits}
use Rattle.text_fields.specs.Fields.{IsU32, IsU64}
use Rattle.result_text.specs.Grammar.{first_lines}
use Rattle.result_text.specs.Taking.{feedless}

-- ---- each line has one line feed, at its end

pub unless_parts : (b c : Bool) → cond b false c ≡ true → (b ≡ false) × (c ≡ true)
unless_parts true c e = absurd cc
unless_parts false c e = (refl, e)

pub feedless_append : (xs ys : List ℕ) → feedless xs ≡ true → feedless ys ≡ true → feedless (xs ++ ys) ≡ true
feedless_append [] ys e f = f
feedless_append (x ∷ xs) ys e f =
    let t = unless_parts (eqb x 10) (feedless xs) e in
    rw t.0 (feedless_append xs ys t.1 f)

feedless_decimal : (n : ℕ) → n < 2 ^ 64 → feedless (decimal n) ≡ true
feedless_decimal n fits = decimal_by_steps (λ n ds. feedless ds ≡ true) one (λ n ds large e. feedless_append ds ((48 + n % 10) ∷ []) e (digit (n % 10))) n fits
  where
    digit : (d : ℕ) → feedless ((48 + d) ∷ []) ≡ true
    digit d = rw (ne_eqb (48 + d) 10 (omega arith)) refl

    one : (n : ℕ) → n < 10 → feedless ((48 + n) ∷ []) ≡ true
    one n small = digit n

feedless_others : {X : Type 0} (F : X → Type 0) (s : X → List ℕ) (xs : List X) → ((x : X) → F x → feedless (s x) ≡ true) → AllByRecursion F xs → feedless (others s xs) ≡ true
feedless_others F s [] h all = refl
feedless_others F s (x ∷ xs) h all = feedless_append (s x) (others s xs) (h x all.0) (feedless_others F s xs h all.1)

feedless_spaced : {X : Type 0} (F : X → Type 0) (s : X → List ℕ) (xs : List X) → ((x : X) → F x → feedless (s x) ≡ true) → AllByRecursion F xs → feedless (spaced s xs) ≡ true
feedless_spaced F s [] h all = refl
feedless_spaced F s (x ∷ xs) h all = feedless_append (s x) (others s xs) (h x all.0) (feedless_others F s xs h all.1)

feedless_numbers : (ns : List ℕ) → AreU32 ns → feedless (numbers_text ns) ≡ true
feedless_numbers ns all = feedless_spaced IsU32 decimal ns (λ n h. feedless_decimal n (omega arith)) all

feedless_name : (v : Version) (n : ℕ) → n < 2 ^ 64 → feedless (path_name v n) ≡ true
feedless_name version.One n fits = feedless_decimal n fits
feedless_name version.Two zero fits = refl
feedless_name version.Two (suc n) fits = feedless_decimal (suc n) fits

feedless_links : (v : Version) (ls : List Link) → AllByRecursion LinkFits ls → feedless (links v ls) ≡ true
feedless_links v ls all = feedless_spaced LinkFits (link v) ls (λ l h. feedless_append (path_name v l.path) (58 ∷ decimal l.at) (feedless_name v l.path (omega (arith, h.0)))
    (feedless_decimal l.at (omega (arith, h.1)))) all

AreFeedless : List (List ℕ) → Type 0
AreFeedless parts = AllByRecursion (λ p. feedless p ≡ true) parts

feedless_fields : (parts : List (List ℕ)) → AllByRecursion (λ p. feedless p ≡ true) parts → feedless (fields parts) ≡ true
feedless_fields [] all = refl
feedless_fields (x ∷ []) all = all.0
feedless_fields (x ∷ y ∷ xs) all = feedless_append x (124 ∷ join_with_byte 124 (y ∷ xs)) all.0 (feedless_fields (y ∷ xs) all.1)

feedless_version : (v : Version) → feedless (version_name v) ≡ true
feedless_version version.One = refl
feedless_version version.Two = refl

feedless_sets : (s : Sets) → feedless (sets_name s) ≡ true
feedless_sets sets.Cut = refl
feedless_sets sets.Skip = refl

feedless_cause : (c : Cause) → feedless (cause_name c) ≡ true
feedless_cause cause.NoPath = refl
feedless_cause cause.BadSegments = refl
feedless_cause cause.Confed = refl
feedless_cause cause.Sets = refl
feedless_cause cause.Reserved = refl
feedless_cause cause.Loop = refl
feedless_cause cause.Short = refl

feedless_label : (l : Label) → feedless (label_name l) ≡ true
feedless_label label.Low = refl
feedless_label label.High = refl
feedless_label label.Peer = refl

feedless_mark : (m : Mark) → feedless (mark_name m) ≡ true
feedless_mark mark.Forced = refl
feedless_mark mark.Open = refl

path_feedless : (v : Version) (times : ℕ) (path : List ℕ) (f : Fate) → IsU64 times → AreU32 path → FateFits f → AllByRecursion (λ p. feedless p ≡ true) (path_fields v times path f)
path_feedless v times path fate.Kept t p h = (refl, (feedless_decimal times t, (feedless_numbers path p, tt)))
path_feedless v times path (fate.Lost w) t p h = (refl, (feedless_decimal times t, (feedless_numbers path p, (feedless_numbers w.ases h.0, (feedless_links v w.links h.1, tt)))))

parts_feedless : (v : Version) (l : Line) → LineFits l → AllByRecursion (λ p. feedless p ≡ true) (fields_of v l)
parts_feedless v (line.Version w) h = (refl, (feedless_version w, tt))
parts_feedless v (line.Sets s) h = (refl, (feedless_sets s, tt))
parts_feedless v (line.Ratio n) h = (refl, (feedless_decimal n (omega (arith, h)), tt))
parts_feedless v (line.Aside c n) h = (refl, (feedless_cause c, (feedless_decimal n h, tt)))
parts_feedless v (line.Given g) h = (refl, (feedless_decimal g.over (omega (arith, h.0)), (feedless_decimal g.under (omega (arith, h.1)), tt)))
parts_feedless v (line.Path p) h = path_feedless v p.times p.path p.fate h.0 h.1 h.2
parts_feedless v (line.Edge e) h = (
  refl,
  (
    feedless_decimal e.low (omega (arith, h.0)),
    (
      feedless_decimal e.high (omega (arith, h.1)),
      (feedless_label e.label, (feedless_mark e.mark, (feedless_decimal e.support h.2, tt))),
    ),
  ),
)
parts_feedless v (line.Why w) h = (refl, (feedless_numbers w.ases h.0, (feedless_links v w.links h.1, tt)))
parts_feedless v (line.Probe p) h = (refl, (feedless_decimal p.over (omega (arith, h.0)), (feedless_decimal p.under (omega (arith, h.1)), tt)))
parts_feedless v (line.End t) h = (
  refl,
  (
    feedless_decimal t.kept h.0,
    (
      feedless_decimal t.lost h.1,
      (feedless_decimal t.edges h.2, (feedless_decimal t.forced h.3, (feedless_decimal t.peers h.4, tt))),
    ),
  ),
)

-- a line is octets with no line feed, and one behind them
pub line_ends : (v : Version) (l : Line) → LineFits l → (body : List ℕ) × (feedless body ≡ true) × (line_text v l ≡ body ++ 10 ∷ [])
unfolding line_text
line_ends v l fits = (fields (fields_of v l), feedless_fields (fields_of v l) (parts_feedless v l fits), refl)

-- ---- the first lines

option_map_twice : {A B C : Type 0} (f : B → C) (g : A → B) (o : Option A) → option_map f (option_map g o) ≡ option_map (λ x. f (g x)) o
option_map_twice f g (Some x) = refl
option_map_twice f g None = refl

first_line_of : (xs more : List ℕ) (n : ℕ) → feedless xs ≡ true → first_lines (suc n) ((xs ++ 10 ∷ []) ++ more) ≡ option_map (λ f. (xs ++ 10 ∷ []) ++ f) (first_lines n more)
first_line_of [] more n e = refl
first_line_of (x ∷ xs) more n e =
    let t = unless_parts (eqb x 10) (feedless xs) e in
    let one : first_lines (suc n) ((x ∷ xs ++ 10 ∷ []) ++ more) ≡ option_map (λ f. x ∷ f) (first_lines (suc n) ((xs ++ 10 ∷ []) ++ more)) = rw t.0 refl in
    one ∙ ap (option_map (λ (f : List ℕ). x ∷ f)) (first_line_of xs more n t.1) ∙ option_map_twice (λ (f : List ℕ). x ∷ f) (λ f. (xs ++ 10 ∷ []) ++ f) (first_lines n more)

pub line_first : (v : Version) (l : Line) (more : List ℕ) (n : ℕ) → LineFits l → first_lines (suc n) (line_text v l ++ more) ≡ option_map (λ f. line_text v l ++ f) (first_lines n more)
unfolding line_text
line_first v l more n fits = first_line_of (fields (fields_of v l)) more n (feedless_fields (fields_of v l) (parts_feedless v l fits))

option_map_same : {A : Type 0} (f : A → A) (o : Option A) → ((x : A) → f x ≡ x) → option_map f o ≡ o
option_map_same f (Some x) h = ap (λ y. Some y) (h x)
option_map_same f None h = refl

pub lines_first : (v : Version) (ls : List Line) (more : List ℕ) (n : ℕ) → AllByRecursion LineFits ls → first_lines (length ls + n) (text_of_lines v ls ++ more) ≡ option_map
    (λ f. text_of_lines v ls ++ f) (first_lines n more)
lines_first v [] more n all =
    let e : length {A = Line} [] + n ≡ n = omega arith in
    rw e (sym (option_map_same (λ (f : List ℕ). [] ++ f) (first_lines n more) (λ x. refl)))
lines_first v (l ∷ ls) more n all =
    let e : length (l ∷ ls) + n ≡ suc (length ls + n) = omega arith in
    ap (λ (k : ℕ). first_lines k ((line_text v l ++ text_of_lines v ls) ++ more)) e
    ∙ ap (first_lines (suc (length ls + n))) (append_assoc (line_text v l) (text_of_lines v ls) more)
    ∙ line_first v l (text_of_lines v ls ++ more) (length ls + n) all.0
    ∙ ap (option_map (λ (f : List ℕ). line_text v l ++ f)) (lines_first v ls more n all.1)
    ∙ option_map_twice (λ (f : List ℕ). line_text v l ++ f) (λ f. text_of_lines v ls ++ f) (first_lines n more)
    ∙ regrouped (first_lines n more)
  where
    regrouped : (o : Option (List ℕ)) → option_map (λ f. line_text v l ++ (text_of_lines v ls ++ f)) o ≡ option_map (λ f. (line_text v l ++ text_of_lines v ls) ++ f) o
    regrouped (Some f) = ap (λ (x : List ℕ). Some x) (sym (append_assoc (line_text v l) (text_of_lines v ls) f))
    regrouped None = refl
