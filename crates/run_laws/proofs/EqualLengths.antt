-- The texts of a result in both versions are equally long: the letter g stands for the digit 0, and the digit 2 for 1.
use Rattle.std.proofs.Common.{◌≡◌, ℕ, zero, suc, ◌+◌, List, [], ◌∷◌, ◌++◌, length, Option, None, refl, sym, ap, ap₂, ◌∙◌, subst, arith}
use Rattle.std.specs.List.{flat_map, join_with_byte}
use Rattle.std.proofs.lemmas.List.{length-append}
use Rattle.std.specs.Fmt.{decimal}
use Rattle.std.proofs.lemmas.Fmt.{decimal_digit}
use Rattle.relationships.specs.declared.fate.Fate.{Fate}
use Rattle.relationships.specs.declared.fate.Fate.TheVariants as fate
use Rattle.relationships.specs.declared.given.Given.{Given}
use Rattle.relationships.specs.declared.walk.Link.{Link}
use Rattle.result_text.specs.declared.file.ResultFile.{ResultFile}
use Rattle.result_text.specs.declared.line.Line.{Line}
use Rattle.result_text.specs.declared.line.Line.TheVariants as line
use Rattle.result_text.specs.declared.line.Version.TheVariants as version
use Rattle.result_text.specs.Text.{path_name, link, links, line_text, text, aside_lines, body_lines, others, numbers_text}
use Rattle.tor_output.specs.Output.{migrated}

-- ---- lists

append_long : {X : Type 0} (a b c d : List X) → length a ≡ length b → length c ≡ length d → length (a ++ c) ≡ length (b ++ d)
append_long a b c d e f = length-append a c ∙ ap₂ (λ m n. m + n) e f ∙ sym (length-append b d)

flat_long : {X : Type 0} (f g : X → List ℕ) → ((x : X) → length (f x) ≡ length (g x)) → (xs : List X) → length (flat_map f xs) ≡ length (flat_map g xs)
flat_long f g h [] = refl
flat_long f g h (x ∷ xs) = append_long (f x) (g x) (flat_map f xs) (flat_map g xs) (h x) (flat_long f g h xs)

-- the last field alone differs, and not in its length
fields_long : (front : List (List ℕ)) (x y : List ℕ) → length x ≡ length y → length (join_with_byte 124 (front ++ x ∷ [])) ≡ length (join_with_byte 124 (front ++ y ∷ []))
fields_long [] x y e = e
fields_long (a ∷ []) x y e = append_long a a (124 ∷ x) (124 ∷ y) refl (ap suc e)
fields_long (a ∷ b ∷ front) x y e =
    append_long a a (124 ∷ join_with_byte 124 (b ∷ front ++ x ∷ [])) (124 ∷ join_with_byte 124 (b ∷ front ++ y ∷ [])) refl (ap suc (fields_long (b ∷ front) x y e))

-- ---- lines

name_long : (n : ℕ) → length (path_name version.Two n) ≡ length (path_name version.One n)
name_long zero = ap length (sym (decimal_digit 0 (omega arith)))
name_long (suc n) = refl

link_long : (l : Link) → length (link version.Two l) ≡ length (link version.One l)
link_long l = append_long (path_name version.Two l.path) (path_name version.One l.path) (58 ∷ decimal l.at) (58 ∷ decimal l.at) (name_long l.path) refl

links_long : (ls : List Link) → length (links version.Two ls) ≡ length (links version.One ls)
links_long [] = refl
links_long (l ∷ ls) =
    append_long (link version.Two l) (link version.One l) (others (link version.Two) ls) (others (link version.One) ls) (link_long l)
    (flat_long (λ (x : Link). 32 ∷ link version.Two x) (λ (x : Link). 32 ∷ link version.One x) (λ x. ap suc (link_long x)) ls)

-- fields of which the last are links, with the line feed
ended_long : (front : List (List ℕ)) (ls : List Link) →
    length (join_with_byte 124 (front ++ links version.Two ls ∷ []) ++ 10 ∷ []) ≡ length (join_with_byte 124 (front ++ links version.One ls ∷ []) ++ 10 ∷ [])
ended_long front ls =
    append_long (join_with_byte 124 (front ++ links version.Two ls ∷ [])) (join_with_byte 124 (front ++ links version.One ls ∷ [])) (10 ∷ []) (10 ∷ [])
    (fields_long front (links version.Two ls) (links version.One ls) (links_long ls)) refl

path_long : (times : ℕ) (path : List ℕ) (f : Fate) →
    length (line_text version.Two (line.Path (record { times = times; path = path; fate = f }))) ≡ length (line_text version.One (line.Path (record { times = times; path = path; fate = f })))
unfolding line_text
path_long times path fate.Kept = refl
path_long times path (fate.Lost w) = ended_long (codes_lost ∷ decimal times ∷ numbers_text path ∷ numbers_text w.ases ∷ []) w.links
  where
    codes_lost : List ℕ
    codes_lost = 108 ∷ 111 ∷ 115 ∷ 116 ∷ []

line_long : (l : Line) → length (line_text version.Two l) ≡ length (line_text version.One l)
unfolding line_text
line_long (line.Version v) = refl
line_long (line.Sets s) = refl
line_long (line.Ratio n) = refl
line_long (line.Aside c n) = refl
line_long (line.Given g) = refl
line_long (line.Path p) = path_long p.times p.path p.fate
line_long (line.Edge e) = refl
line_long (line.Why w) = ended_long ((119 ∷ 104 ∷ 121 ∷ []) ∷ numbers_text w.ases ∷ []) w.links
line_long (line.Probe p) = refl
line_long (line.End t) = refl

first_long : length (line_text version.Two (line.Version version.Two)) ≡ length (line_text version.One (line.Version version.One))
unfolding line_text
first_long = refl

-- ---- texts

none_long : (file : ResultFile) → length (text (migrated (record file { givens = None }))) ≡ length (text (record file { givens = None }))
none_long file =
    let f : ResultFile = record file { givens = None } in
    let rest : List Line = (line.Sets file.sets ∷ line.Ratio file.ratio ∷ aside_lines file.asides) ++ body_lines f in
    append_long (line_text version.Two (line.Version version.Two)) (line_text version.One (line.Version version.One)) (flat_map (line_text version.Two) rest)
    (flat_map (line_text version.One) rest) first_long (flat_long (line_text version.Two) (line_text version.One) line_long rest)

pub migrated_long : (file : ResultFile) → file.givens ≡ None → length (text (migrated file)) ≡ length (text file)
migrated_long file none =
    subst (λ (o : Option (List Given)). length (text (migrated (record file { givens = o }))) ≡ length (text (record file { givens = o }))) (sym none) (none_long file)
