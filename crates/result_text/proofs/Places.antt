-- The numbers of lines.
use Rattle.std.proofs.Common.{◌≡◌, ℕ, zero, suc, ◌+◌, List, [], ◌∷◌, ◌++◌, length, map, take, drop, Some, refl, sym, ap, subst, ◌∙◌, arith}
use Rattle.std.specs.Prelude.{slice_get, option_map}
use Rattle.std.specs.List.{AllByRecursion}
use Rattle.std.proofs.lemmas.List.{append-nil, length-append, length-map, take-append-drop, length-take-le}
use Rattle.std.proofs.lemmas.List.Concat.{flat_map-append}
use Rattle.std.proofs.lemmas.Option.{slice_get-map}
use Rattle.path_clean.specs.declared.cleaned.Cause.{Cause}
use Rattle.path_clean.specs.declared.cleaned.Cause.TheVariants as cause
use Rattle.path_clean.specs.Counts.{cause_count}
use Rattle.result_text.specs.declared.file.ResultFile.{ResultFile}
use Rattle.result_text.specs.declared.line.Line.{Line}
use Rattle.result_text.specs.declared.line.Line.TheVariants as line
use Rattle.result_text.specs.Text.{version_of, its_givens, head_lines, body_lines, lines_of, line_text, text_of_lines, text}
use Rattle.result_text.specs.Ranges.{LineFits, IsInRange}
use Rattle.result_text.specs.Grammar.{first_lines}
use Rattle.result_text.specs.Numbering.{IsLineAt, IsNumbered, LinesAreOfText, aside_line}
use Rattle.result_text.proofs.LineFeeds.{lines_first}
use Rattle.result_text.proofs.Verdicts.{lines_fit, all_prefix}

get_left : {X : Type 0} (xs ys : List X) (k : ℕ) (x : X) → slice_get xs k ≡ Some x → slice_get (xs ++ ys) k ≡ Some x
get_left [] ys k x e = absurd cc
get_left (y ∷ xs) ys zero x e = e
get_left (y ∷ xs) ys (suc k) x e = get_left xs ys k x e

get_right : {X : Type 0} (xs ys : List X) (k : ℕ) → slice_get (xs ++ ys) (length xs + k) ≡ slice_get ys k
get_right {X} [] ys k =
    let same : length {A = X} [] + k ≡ k = omega arith in
    ap (slice_get ys) same
get_right (x ∷ xs) ys k =
    let same : length (x ∷ xs) + k ≡ suc (length xs + k) = omega arith in
    ap (slice_get (x ∷ (xs ++ ys))) same ∙ get_right xs ys k

-- a member of a section, and of what comes before it
get_mapped : {X : Type 0} (f : X → Line) (xs : List X) (ys : List Line) (k : ℕ) (x : X) → slice_get xs k ≡ Some x → slice_get (map f xs ++ ys) k ≡ Some (f x)
get_mapped f xs ys k x e = get_left (map f xs) ys k (f x) (slice_get-map f xs k ∙ ap (option_map f) e)

get_past : {X : Type 0} (f : X → Line) (xs : List X) (ys : List Line) (k : ℕ) → slice_get (map f xs ++ ys) (length xs + k) ≡ slice_get ys k
get_past f xs ys k = ap (λ (n : ℕ). slice_get (map f xs ++ ys) (n + k)) (sym (length-map xs f)) ∙ get_right (map f xs) ys k

get_body : (file : ResultFile) (k : ℕ) → slice_get (lines_of file) (10 + k) ≡ slice_get (body_lines file) k
get_body file k = get_right (head_lines file) (body_lines file) k

aside_is : (file : ResultFile) (c : Cause) → IsLineAt file (aside_line c) (line.Aside c (cause_count c file.asides))
aside_is file cause.NoPath = (3, refl, refl)
aside_is file cause.BadSegments = (4, refl, refl)
aside_is file cause.Confed = (5, refl, refl)
aside_is file cause.Sets = (6, refl, refl)
aside_is file cause.Reserved = (7, refl, refl)
aside_is file cause.Loop = (8, refl, refl)
aside_is file cause.Short = (9, refl, refl)

pub numbered : (file : ResultFile) → IsNumbered file
numbered file =
    let g = length (its_givens file) in
    let p = length file.paths in
    let e = length file.edges in
    let w = length file.whys in
    let o = length file.probes in
    let m4 : List Line = line.End file.totals ∷ [] in
    let m3 : List Line = map (λ p. line.Probe p) file.probes ++ m4 in
    let m2 : List Line = map (λ w. line.Why w) file.whys ++ m3 in
    let m1 : List Line = map (λ e. line.Edge e) file.edges ++ m2 in
    let m0 : List Line = map (λ p. line.Path p) file.paths ++ m1 in
    let past_givens : (k : ℕ) → slice_get (lines_of file) (10 + (g + k)) ≡ slice_get m0 k = λ k. get_body file (g + k) ∙ get_past (λ g. line.Given g) (its_givens file) m0 k in
    let past_paths : (k : ℕ) → slice_get (lines_of file) (10 + (g + (p + k))) ≡ slice_get m1 k = λ k. past_givens (p + k) ∙ get_past (λ p. line.Path p) file.paths m1 k in
    let past_edges : (k : ℕ) → slice_get (lines_of file) (10 + (g + (p + (e + k)))) ≡ slice_get m2 k = λ k. past_paths (e + k) ∙ get_past (λ e. line.Edge e) file.edges m2 k in
    let past_whys : (k : ℕ) → slice_get (lines_of file) (10 + (g + (p + (e + (w + k))))) ≡ slice_get m3 k = λ k. past_edges (w + k) ∙ get_past (λ w. line.Why w) file.whys m3 k in
    let past_probes : (k : ℕ) → slice_get (lines_of file) (10 + (g + (p + (e + (w + (o + k)))))) ≡ slice_get m4 k = λ k. past_whys (o + k) ∙ get_past (λ p. line.Probe p) file.probes m4 k in
    record {
      ratio = (2, refl, refl);
      asides = aside_is file;
      givens = λ k x is. (10 + k, omega arith, get_body file k ∙ get_mapped (λ g. line.Given g) (its_givens file) m0 k x is);
      paths = λ k x is. (10 + (g + k), omega arith, past_givens k ∙ get_mapped (λ p. line.Path p) file.paths m1 k x is);
      edges = λ k x is. (10 + (g + (p + k)), omega arith, past_paths k ∙ get_mapped (λ e. line.Edge e) file.edges m2 k x is);
      whys = λ k x is. (10 + (g + (p + (e + k))), omega arith, past_edges k ∙ get_mapped (λ w. line.Why w) file.whys m3 k x is);
      probes = λ k x is. (10 + (g + (p + (e + (w + k)))), omega arith, past_whys k ∙ get_mapped (λ p. line.Probe p) file.probes m4 k x is);
      last = (10 + (g + (p + (e + (w + (o + 0))))), omega arith, past_probes 0);
      count = omega (
        arith,
        length-append (head_lines file) (body_lines file),
        length-append (map (λ g. line.Given g) (its_givens file)) m0,
        length-append (map (λ p. line.Path p) file.paths) m1,
        length-append (map (λ e. line.Edge e) file.edges) m2,
        length-append (map (λ w. line.Why w) file.whys) m3,
        length-append (map (λ p. line.Probe p) file.probes) m4,
        length-map (its_givens file) (λ g. line.Given g),
        length-map file.paths (λ p. line.Path p),
        length-map file.edges (λ e. line.Edge e),
        length-map file.whys (λ w. line.Why w),
        length-map file.probes (λ p. line.Probe p),
      );
    }

pub lines_are_of_text : (file : ResultFile) → IsInRange file → LinesAreOfText file
lines_are_of_text file r n le =
    let v = version_of file.givens in
    let ls = take n (lines_of file) in
    let ms = drop n (lines_of file) in
    let split : ls ++ ms ≡ lines_of file = take-append-drop n (lines_of file) in
    let count : length ls ≡ n = length-take-le n (lines_of file) (omega (arith, (numbered file).count)) in
    let fit : AllByRecursion LineFits ls = all_prefix LineFits ls ms (subst (AllByRecursion LineFits) (sym split) (lines_fit file r)) in
    let parts : text file ≡ text_of_lines v ls ++ text_of_lines v ms = ap (text_of_lines v) (sym split) ∙ flat_map-append (line_text v) ls ms in
    let same : length ls + 0 ≡ n = omega (arith, count) in
    ap (first_lines n) parts ∙ ap (λ (k : ℕ). first_lines k (text_of_lines v ls ++ text_of_lines v ms)) (sym same) ∙ lines_first v ls (text_of_lines v ms) 0 fit
    ∙ ap (λ (x : List ℕ). Some x) (append-nil (text_of_lines v ls))
