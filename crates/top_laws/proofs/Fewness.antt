-- How many givens there are: lines of few octets are few.
use Rattle.std.proofs.Common.{◌≡◌, ℕ, zero, suc, ◌+◌, ◌*◌, ◌/◌, ◌%◌, ◌<◌, ◌≤◌, ◌^◌, inl, inr, min, max, true, false, Bool, List, [], ◌∷◌, ◌++◌, length, filter, map, codes, refl, ap, subst, arith, All}
use Rattle.std.specs.Prelude.{decimal}
use Rattle.std.specs.List.{list_any}
use Rattle.std.proofs.lemmas.Bool.{cases_Bool, both_ways, cases_lt, or_right}
use Rattle.std.proofs.lemmas.Fmt.{decimal_nonempty, decimal_step}
use Rattle.std.proofs.lemmas.List.{length-append}
use Rattle.std.proofs.lemmas.List.Elements.{All-head, All-tail, All-from_recursion}
use Rattle.relationships.specs.declared.given.Given.{Given}
use Rattle.relationships.specs.Givens.{NameOnce}
use Rattle.relationships.specs.Graph.{Edge, edge_of, edges, is_same}
use Rattle.relationships.proofs.FewReturns.{named_few, same-equivalence}
use Rattle.text_fields.specs.Fields.{fields}
use Rattle.result_text.specs.declared.file.ResultFile.{ResultFile}
use Rattle.result_text.specs.declared.line.Line.{Line}
use Rattle.result_text.specs.declared.line.Line.TheVariants as line
use Rattle.result_text.specs.declared.line.Version.{Version}
use Rattle.result_text.specs.Grammar.{IsTextOf}
use Rattle.result_text.specs.Text.{version_of, its_givens, fields_of, line_text, text_of_lines, head_lines, body_lines}
use Rattle.result_rules.specs.File.{its_paths}
use Rattle.top_givens.specs.TopGivens.{top_givens, given_pairs}
use Rattle.top_givens.proofs.Members.{few_top_law}
use Rattle.top_laws.specs.FewGivens.{FewKnownLaw}

-- ---- pairs of ASes of one digit each

tens : ℕ → List Edge
tens zero = []
tens (suc k) = (k / 10, k % 10) ∷ tens k

length_tens : (n : ℕ) → length (tens n) ≡ n
unfolding tens
length_tens zero = refl
length_tens (suc n) = ap suc (length_tens n)

in_tens : (n k : ℕ) → k < n → list_any (is_same (k / 10, k % 10)) (tens n) ≡ true
unfolding tens
in_tens zero k lt = absurd (omega (arith, lt))
in_tens (suc n) k lt =
    elim (cases_lt k n) [
      | inl below ↦ or_right (is_same (k / 10, k % 10) (n / 10, n % 10)) (list_any (is_same (k / 10, k % 10)) (tens n)) (in_tens n k below)
      | inr above ↦
          let same : k ≡ n = omega (arith, lt, above) in
          let one : is_same (k / 10, k % 10) (n / 10, n % 10) ≡ true = subst (λ m. is_same (k / 10, k % 10) (m / 10, m % 10) ≡ true) same (same-equivalence.refl (k / 10, k % 10)) in
          rw one refl
    ]

-- the two have one digit each
abbrev is_small : Given → Bool
is_small g = list_any (is_same (edge_of g.over g.under)) (tens 100)

small : (g : Given) → g.over < 10 → g.under < 10 → is_small g ≡ true
small g a b =
    let k : ℕ = min g.over g.under * 10 + max g.over g.under in
    let below : k < 100 = omega (arith, a, b) in
    let low : k / 10 ≡ min g.over g.under = omega (arith, a, b) in
    let high : k % 10 ≡ max g.over g.under = omega (arith, a, b) in
    subst (λ (e : Edge). list_any (is_same e) (tens 100) ≡ true) (pair low high) (in_tens 100 k below)
  where
    pair : {a b c d : ℕ} → a ≡ c → b ≡ d → ◌≡◌ {A = Edge} (a, b) (c, d)
    pair e f = cc

few_small : (givens : List Given) → NameOnce givens → length (filter is_small givens) ≤ 100
few_small givens once = let le = named_few (tens 100) givens once in let n = length_tens 100 in omega (arith, le, n)

-- ---- lines

two_digits : (n : ℕ) → 10 ≤ n → n < 2 ^ 64 → 2 ≤ length (decimal n)
two_digits n le fits =
    let step = ap length (decimal_step n le fits) in
    let whole = length-append (decimal (n / 10)) ((48 + n % 10) ∷ []) in
    let some = decimal_nonempty (n / 10) (omega (arith, fits)) in
    omega (arith, step, whole, some)

-- its two ASes are numbers of 32 bits
abbrev Fits : Given → Type 0
Fits g = (g.over < 2 ^ 32) × (g.under < 2 ^ 32)

line_has : (v : Version) (g : Given) → length (line_text v (line.Given g)) ≡ 8 + length (decimal g.over) + length (decimal g.under)
unfolding line_text
line_has v g =
    omega (
      arith,
      length-append (fields (fields_of v (line.Given g))) (10 ∷ []),
      length-append (codes "given") (124 ∷ (decimal g.over ++ (124 ∷ decimal g.under))),
      length-append (decimal g.over) (124 ∷ decimal g.under),
    )

ten_octets : (v : Version) (g : Given) → Fits g → 10 ≤ length (line_text v (line.Given g))
ten_octets v g fits =
    let first = fits.0 in
    let second = fits.1 in
    omega (arith, line_has v g, decimal_nonempty g.over (omega (arith, first)), decimal_nonempty g.under (omega (arith, second)))

eleven_octets : (v : Version) (g : Given) → Fits g → is_small g ≡ false → 11 ≤ length (line_text v (line.Given g))
eleven_octets v g fits large =
    let first = fits.0 in
    let second = fits.1 in
    let has = line_has v g in
    let some = decimal_nonempty g.over (omega (arith, first)) in
    let other = decimal_nonempty g.under (omega (arith, second)) in
    elim (cases_lt g.over 10) [
      | inr le ↦ omega (arith, has, other, two_digits g.over le (omega (arith, first)))
      | inl a ↦ elim (cases_lt g.under 10) [
        | inr le ↦ omega (arith, has, some, two_digits g.under le (omega (arith, second)))
        | inl b ↦ absurd (both_ways (is_small g) large (small g a b))
      ]
    ]

lines_have : (v : Version) (gs : List Given) → All Fits gs → 11 * length gs ≤ length (text_of_lines v (map (λ g. line.Given g) gs)) + length (filter is_small gs)
lines_have v [] fits = omega arith
lines_have v (g ∷ gs) fits =
    let rest = lines_have v gs (All-tail Fits g gs fits) in
    let own = All-head Fits g gs fits in
    let whole = length-append (line_text v (line.Given g)) (text_of_lines v (map (λ g. line.Given g) gs)) in
    elim (cases_Bool (is_small g)) [
      | inl t ↦ rw t (omega (arith, rest, whole, ten_octets v g own))
      | inr f ↦ rw f (omega (arith, rest, whole, eleven_octets v g own f))
    ]

text_has : (v : Version) (before after : List Line) → length (text_of_lines v (before ++ after)) ≡ length (text_of_lines v before) + length (text_of_lines v after)
text_has v [] after = omega arith
text_has v (l ∷ before) after =
    omega (arith, length-append (line_text v l) (text_of_lines v (before ++ after)), text_has v before after, length-append (line_text v l) (text_of_lines v before))

pub few_in_result : (file : ResultFile) (bytes : List ℕ) → IsTextOf file bytes → length bytes ≤ 2 ^ 31 → NameOnce (its_givens file) → 11 * length (its_givens file) ≤ 2 ^ 31 + 100
few_in_result file bytes is short once =
    let v = version_of file.givens in
    let gs = map (λ g. line.Given g) (its_givens file) in
    let ps = map (λ p. line.Path p) file.paths in
    let es = map (λ e. line.Edge e) file.edges in
    let ws = map (λ w. line.Why w) file.whys in
    let os = map (λ p. line.Probe p) file.probes in
    let end : List Line = line.End file.totals ∷ [] in
    let have = lines_have v (its_givens file) (All-from_recursion Fits (its_givens file) is.in_range.givens) in
    omega (arith, have, few_small (its_givens file) once, text_has v gs (ps ++ (es ++ (ws ++ (os ++ end)))), text_has v (head_lines file) (body_lines file), ap length is.encoded, short)

pub few_known_law : FewKnownLaw
few_known_law top paths sum = (
  λ named givens bytes six short.
      let n = length-append givens (top_givens top named paths) in
      let few = few_top_law top named paths in
      omega (arith, n, few, six, short, sum),
  λ file bytes is short once.
      let own = its_givens file in
      let named = given_pairs own ++ edges (its_paths file) in
      let n = length-append own (top_givens top named paths) in
      let few = few_top_law top named paths in
      let eleven = few_in_result file bytes is short once in
      omega (arith, n, few, eleven, sum),
)
