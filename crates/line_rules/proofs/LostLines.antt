-- What the rule on lost walks asks of a line, as code finds it.
use Rattle.std.proofs.Common.{◌≡◌, ◌↔◌, ℕ, ◌+◌, ◌<◌, List, [], ◌∷◌, ◌++◌, length, take, Some, slice_get, sym, ap, ap₂, ◌∙◌, subst, arith}
use Rattle.std.proofs.lemmas.List.{take-map, length-take-le}
use Rattle.std.proofs.lemmas.Option.{slice_get_within, same_Some}
use Rattle.relationships.specs.declared.walk.Walk.{Walk}
use Rattle.relationships.specs.declared.given.Given.{Given}
use Rattle.relationships.specs.GivenEvidence.{RefutesWith}
use Rattle.relationships.specs.Checking.{kept_of}
use Rattle.relationships.specs.declared.fate.Fate.TheVariants.{Lost}
use Rattle.result_text.specs.declared.file.PathLine.{PathLine}
use Rattle.result_text.specs.declared.file.ResultFile.{ResultFile}
use Rattle.relationships.specs.Fates.{walk_of}
use Rattle.result_rules.specs.File.{its_givens, kept_before}
use Rattle.line_rules.specs.Naming.{nameable}
use Rattle.result_rules.specs.declared.rule.Rule.TheVariants.{LostRefuted}
use Rattle.result_rules.specs.Rules.{Asks}

-- the line is kept, or its walk refutes by the givens over the paths of the kept lines before it and its own
abbrev pub IsRight : List Given → List PathLine → PathLine → Type 0
IsRight givens before line = (walk : Walk) → line.fate ≡ Lost walk → RefutesWith givens (nameable before (Some line)) walk

named_before : (file : ResultFile) (k : ℕ) (line : PathLine) → k < length file.paths →
    nameable (take k file.paths) (Some line) ≡ kept_before file k ++ (k + 1, line.path) ∷ []
named_before file k line within =
    let n : length (take k file.paths) ≡ k = length-take-le k file.paths (omega arith) in
    ap₂ (λ A i. A ++ (i + 1, line.path) ∷ [])
    (ap₂ kept_of (sym (take-map (λ (p : PathLine). p.path) k file.paths)) (sym (take-map (λ (p : PathLine). walk_of p.fate) k file.paths))) n

pub asks_lost : (file : ResultFile) (k : ℕ) (line : PathLine) → slice_get file.paths k ≡ Some line →
    (k < length file.paths) × (IsRight (its_givens file) (take k file.paths) line ↔ Asks file LostRefuted k)
asks_lost file k line at =
    let within : k < length file.paths = slice_get_within file.paths k line at in
    let named = named_before file k line within in (
      within,
      (
        λ right other at' walk lost.
            let e : line ≡ other = same_Some _ _ (sym at ∙ at') in
            let l : line.fate ≡ Lost walk = ap (λ (p : PathLine). p.fate) e ∙ lost in
            subst (λ (p : PathLine). RefutesWith (its_givens file) (kept_before file k ++ (k + 1, p.path) ∷ []) walk) e (subst (λ A. RefutesWith (its_givens file) A walk) named (right walk l)),
        λ asks walk lost. subst (λ A. RefutesWith (its_givens file) A walk) (sym named) (asks line at walk lost),
      ),
    )
