-- The paths that links may name, as code finds them.
use Rattle.std.proofs.Common.{◌≡◌, ◌↔◌, ℕ, ◌+◌, ◌-◌, ◌<◌, ◌≤◌, inl, inr, Bool, true, List, [], ◌∷◌, length, get_or, map, Option, Some, None, is_none, option_map, refl, sym, ap, ◌∙◌, subst, arith}
use Rattle.std.proofs.Common.{Contains}
use Rattle.std.proofs.lemmas.Bool.{false≢true}
use Rattle.std.proofs.lemmas.List.{get_or-map, length-map, get_or_default}
use Rattle.std.proofs.lemmas.List.Elements.{Contains-push, Contains-push_cases, Contains-append_left}
use Rattle.relationships.proofs.Places.{kept_from-in, kept_from-out}
use Rattle.relationships.specs.declared.fate.Fate.{Fate}
use Rattle.relationships.specs.declared.fate.Fate.TheVariants.{Kept, Lost}
use Rattle.result_text.specs.declared.file.PathLine.{PathLine}
use Rattle.std.specs.Prelude.{if◌then◌else◌}
use Rattle.std.proofs.lemmas.Option.{same_Some}
use Rattle.relationships.specs.Fates.{is_kept, walk_of}
use Rattle.result_rules.specs.File.{kept_among}
use Rattle.line_rules.specs.Naming.{nameable, path_if_kept}
use Rattle.result_rules.proofs.WalkLaws.{paths_in, walks_in}

abbrev flags_in : List PathLine → List Bool
flags_in lines = map is_none (walks_in lines)

length-flags_in : (lines : List PathLine) → length (flags_in lines) ≡ length lines
length-flags_in lines = length-map (walks_in lines) is_none ∙ length-map lines (λ (p : PathLine). walk_of p.fate)

flag_at : (lines : List PathLine) (k : ℕ) (line : PathLine) → k < length lines → line ≡ get_or lines k line → get_or (flags_in lines) k (is_none (walk_of line.fate)) ≡ is_none (walk_of line.fate)
flag_at lines k line within is =
    let n = length-map lines (λ (p : PathLine). walk_of p.fate) in
    get_or-map is_none (walks_in lines) k (walk_of line.fate) (is_none (walk_of line.fate)) (omega arith) ∙
    ap is_none (get_or-map (λ (p : PathLine). walk_of p.fate) lines k line (walk_of line.fate) within ∙ ap (λ (p : PathLine). walk_of p.fate) (sym is))

path_at : (lines : List PathLine) (k : ℕ) (line : PathLine) → k < length lines → line ≡ get_or lines k line → get_or (paths_in lines) k line.path ≡ line.path
path_at lines k line within is =
    get_or-map (λ (p : PathLine). p.path) lines k line line.path within ∙ ap (λ (p : PathLine). p.path) (sym is)

-- a number among the kept is that of a line
kept_within : (lines : List PathLine) (number : ℕ) (path : List ℕ) → Contains (kept_among lines) (number, path) → (0 < number) × (number ≤ length lines)
kept_within lines number path c =
    let r = kept_from-out 1 (paths_in lines) (flags_in lines) number path c in
    let n = length-map lines (λ (p : PathLine). p.path) in
    (omega (arith, r.1), omega (arith, r.1, r.2))

-- a number that can be named is that of a line, or of the line behind these
pub named_within : (lines : List PathLine) (next : Option PathLine) (number : ℕ) (path : List ℕ) → Contains (nameable lines next) (number, path) →
    (0 < number) × (number ≤ length lines + 1)
named_within lines None number path c = let r = kept_within lines number path c in (r.0, omega (arith, r.1))
named_within lines (Some next) number path c =
    elim (Contains-push_cases (kept_among lines) (length lines + 1, next.path) (number, path) c) [
      | inl k ↦ let r = kept_within lines number path k in (r.0, omega (arith, r.1))
      | inr e ↦ let n : length lines + 1 ≡ number = ap (λ (p : ℕ × List ℕ). p.0) e in (omega arith, omega arith)
    ]

-- the number behind those of the lines names the path of the next line
pub named_next : (lines : List PathLine) (next : Option PathLine) (number : ℕ) (path : List ℕ) → number ≡ length lines + 1 →
    Contains (nameable lines next) (number, path) ↔ option_map (λ (p : PathLine). p.path) next ≡ Some path
named_next lines None number path is = (λ c. let r = kept_within lines number path c in absurd (omega (arith, r.1)), λ e. absurd cc)
named_next lines (Some next) number path is = (
  λ c. elim (Contains-push_cases (kept_among lines) (length lines + 1, next.path) (number, path) c) [
    | inl k ↦ let r = kept_within lines number path k in absurd (omega (arith, r.1))
    | inr e ↦ ap (λ (p : ℕ × List ℕ). Some p.1) e
  ],
  λ e.
      let same : next.path ≡ path = same_Some _ _ e in
      subst (λ p. Contains (nameable lines (Some next)) (number, p)) same
      (subst (λ n. Contains (nameable lines (Some next)) (n, next.path)) (sym is) (Contains-push (kept_among lines) (length lines + 1, next.path))),
)

-- what a kept line's number names: its path
named_kept : (lines : List PathLine) (next : Option PathLine) (k : ℕ) (line : PathLine) → k < length lines → line ≡ get_or lines k line → is_none (walk_of line.fate) ≡ true →
    Contains (nameable lines next) (1 + k, line.path)
named_kept lines next k line within is kept = go next
  where
    c : Contains (kept_among lines) (1 + k, line.path)
    c =
        let n = length-map lines (λ (p : PathLine). p.path) in
        let m = length-flags_in lines in
        kept_from-in 1 (paths_in lines) (flags_in lines) k line.path (is_none (walk_of line.fate)) (omega arith) (omega arith) (path_at lines k line within is) (flag_at lines k line within is ∙ kept)

    go : (next : Option PathLine) → Contains (nameable lines next) (1 + k, line.path)
    go None = c
    go (Some next) = Contains-append_left (kept_among lines) ((length lines + 1, next.path) ∷ []) (1 + k, line.path) c

-- a line's number names no path but its own, and only if it is kept
named_line : (lines : List PathLine) (next : Option PathLine) (k : ℕ) (line : PathLine) (path : List ℕ) → k < length lines → line ≡ get_or lines k line →
    Contains (nameable lines next) (1 + k, path) → (is_none (walk_of line.fate) ≡ true) × (line.path ≡ path)
named_line lines next k line path within is c =
    let r = kept_from-out 1 (paths_in lines) (flags_in lines) (1 + k) path (kept next c) in
    let e : r.0 ≡ k = omega (arith, r.1) in
    let n = length-map lines (λ (p : PathLine). p.path) in (
      sym (flag_at lines k line within is) ∙ subst (λ i. get_or (flags_in lines) i (is_none (walk_of line.fate)) ≡ true) e (r.5 (is_none (walk_of line.fate))),
      sym (path_at lines k line within is) ∙ get_or_default (paths_in lines) k line.path path (omega arith) ∙ subst (λ i. get_or (paths_in lines) i path ≡ path) e r.4,
    )
  where
    kept : (next : Option PathLine) → Contains (nameable lines next) (1 + k, path) → Contains (kept_among lines) (1 + k, path)
    kept None c = c
    kept (Some next) c =
        elim (Contains-push_cases (kept_among lines) (length lines + 1, next.path) (1 + k, path) c) [
          | inl k ↦ k
          | inr e ↦ let n : length lines + 1 ≡ 1 + k = ap (λ (p : ℕ × List ℕ). p.0) e in absurd (omega arith)
        ]

-- what a line's number names
abbrev pub fate_path : PathLine → Fate → Option (List ℕ)
fate_path line Kept = Some line.path
fate_path line (Lost walk) = None

pub named_by : (lines : List PathLine) (next : Option PathLine) (number : ℕ) (line : PathLine) (path : List ℕ) → 0 < number → number ≤ length lines → line ≡ get_or lines (number - 1) line →
    Contains (nameable lines next) (number, path) ↔ fate_path line line.fate ≡ Some path
named_by lines next number line path some within is =
    let e : 1 + (number - 1) ≡ number = omega arith in
    let k : number - 1 < length lines = omega arith in (
      λ c.
          let r = named_line lines next (number - 1) line path k is (subst (λ n. Contains (nameable lines next) (n, path)) (sym e) c) in
          there line.fate r.0 r.1,
      λ f.
          let r = back line.fate f in
          subst (λ p. Contains (nameable lines next) (number, p)) r.1
          (subst (λ n. Contains (nameable lines next) (n, line.path)) e (named_kept lines next (number - 1) line k is r.0)),
    )
  where
    there : (fate : Fate) → is_none (walk_of fate) ≡ true → line.path ≡ path → fate_path line fate ≡ Some path
    there Kept h e = ap (λ p. Some p) e
    there (Lost walk) h e = absurd (false≢true h)

    back : (fate : Fate) → fate_path line fate ≡ Some path → (is_none (walk_of fate) ≡ true) × (line.path ≡ path)
    back Kept h = (refl, cc)
    back (Lost walk) h = absurd cc

pub fate_path-if_kept : (line : PathLine) → path_if_kept line ≡ fate_path line line.fate
fate_path-if_kept line = by line.fate
  where
    by : (fate : Fate) → (if is_kept fate then Some line.path else None) ≡ fate_path line fate
    by Kept = refl
    by (Lost walk) = refl
