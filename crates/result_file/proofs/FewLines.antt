-- A text has at least as many bytes as lines.
use Rattle.std.proofs.Common.{ℕ, ◌+◌, ◌≤◌, ◌^◌, List, [], ◌∷◌, ◌++◌, length, map, ap, arith}
use Rattle.std.proofs.lemmas.List.{length-append, length-map}
use Rattle.result_text.specs.declared.file.ResultFile.{ResultFile}
use Rattle.result_text.specs.declared.line.Line.{Line}
use Rattle.result_text.specs.declared.line.Line.TheVariants as line
use Rattle.result_text.specs.declared.line.Version.{Version}
use Rattle.result_text.specs.Grammar.{IsTextOf}
use Rattle.result_text.specs.Text.{version_of, its_givens, fields, fields_of, line_text, text_of_lines, head_lines, body_lines, lines_of}
use Rattle.result_file.specs.Limits.{max_result}

line_has_some : (v : Version) (l : Line) → 1 ≤ length (line_text v l)
unfolding line_text
line_has_some v l = omega (arith, length-append (fields (fields_of v l)) (10 ∷ []))

lines_have_some : (v : Version) (ls : List Line) → length ls ≤ length (text_of_lines v ls)
lines_have_some v [] = omega arith
lines_have_some v (l ∷ ls) = omega (arith, line_has_some v l, lines_have_some v ls, length-append (line_text v l) (text_of_lines v ls))

body_has : (file : ResultFile) → length (its_givens file) + length file.paths + length file.edges + length file.whys + length file.probes ≤ length (body_lines file)
body_has file =
    let gs = map (λ g. line.Given g) (its_givens file) in
    let ps = map (λ p. line.Path p) file.paths in
    let es = map (λ e. line.Edge e) file.edges in
    let ws = map (λ w. line.Why w) file.whys in
    let os = map (λ p. line.Probe p) file.probes in
    let end : List Line = line.End file.totals ∷ [] in
    omega (
      arith,
      length-map (its_givens file) (λ g. line.Given g),
      length-map file.paths (λ p. line.Path p),
      length-map file.edges (λ e. line.Edge e),
      length-map file.whys (λ w. line.Why w),
      length-map file.probes (λ p. line.Probe p),
      length-append gs (ps ++ (es ++ (ws ++ (os ++ end)))),
      length-append ps (es ++ (ws ++ (os ++ end))),
      length-append es (ws ++ (os ++ end)),
      length-append ws (os ++ end),
      length-append os end,
    )

pub few_lines : (file : ResultFile) (bytes : List ℕ) → IsTextOf file bytes → length bytes ≤ max_result
    → length (its_givens file) + length file.paths + length file.edges + length file.whys + length file.probes ≤ 2 ^ 40
few_lines file bytes is short =
    omega (arith, body_has file, length-append (head_lines file) (body_lines file), lines_have_some (version_of file.givens) (lines_of file), ap length is.encoded, short)
