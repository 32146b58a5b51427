-- The text of walks, step by step: lines of fields joined by bars. The form is this project's own (docs/FORMATS.md).
use Rattle.std.specs.Prelude.{ℕ, zero, suc, List, [], ◌∷◌, ◌++◌, map, Option, Some, None, codes, slice_get}
use Rattle.std.specs.Fmt.{decimal}
use Rattle.std.specs.List.{flat_map}
use Rattle.relationships.specs.declared.given.Given.{Given}
use Rattle.relationships.specs.declared.walk.Link.{Link}
use Rattle.relationships.specs.declared.walk.Walk.{Walk}
use Rattle.relationships.specs.Telling.{Step, steps_of}
use Rattle.text_fields.specs.Fields.{fields}
use Rattle.result_text.specs.declared.file.ResultFile.{ResultFile}
use Rattle.result_text.specs.declared.line.Version.TheVariants as version
use Rattle.result_text.specs.Text.{numbers_text, link, its_givens}
use Rattle.result_rules.specs.File.{last_two}
use Rattle.telling.specs.PathText.{was_named, path_text}

-- a line of these fields, with the line feed that ends it
abbrev pub row : List (List ℕ) → List ℕ
row parts = fields parts ++ 10 ∷ []

-- a word and two AS numbers: of an order, first that of the provider
abbrev pub pair_row : List ℕ → (over under : ℕ) → List ℕ
pair_row word over under = row (word ∷ decimal over ∷ decimal under ∷ [])

-- what is written of a thing that may not be there: where it isn't, nothing
abbrev pub if_there : {X : Type 0} → (X → List ℕ) → Option X → List ℕ
if_there text None = []
if_there text (Some x) = text x

-- ---- steps

-- the member of a list that has this number, from 1
abbrev pub numbered : {X : Type 0} → List X → ℕ → Option X
numbered xs zero = None
numbered xs (suc k) = slice_get xs k

-- the two of a given, its provider first
abbrev pub given_text : Given → List ℕ
given_text g = numbers_text (g.over ∷ g.under ∷ [])

-- what stands behind a link, by the number of its path and its place, where earlier steps have named these paths: what is printed of that
-- path; behind 0 the two of the given of that number
abbrev pub named_text : ResultFile → (before : List ℕ) → (path at : ℕ) → List ℕ
named_text file before zero at = if_there (λ given. 124 ∷ given_text given) (numbered (its_givens file) at)
named_text file before (suc k) at = if_there (λ line. path_text (was_named before (suc k)) line.path at) (slice_get file.paths k)

abbrev pub step_with : (over under : ℕ) → Link → Step
step_with over under link = record { over = over; under = under; link = link }

-- then the one is the provider of the other, by what the link names, which is written as in results of version 2
abbrev pub step_text : ResultFile → (before : List ℕ) → Step → List ℕ
step_text file before step =
    fields (codes "then" ∷ decimal step.over ∷ decimal step.under ∷ link version.Two step.link ∷ [])
    ++ (named_text file before step.link.path step.link.at ++ 10 ∷ [])

-- the paths that steps name, by their numbers
abbrev pub names_of : List Step → List ℕ
names_of steps = map (λ step. step.link.path) steps

-- steps, one line for each
abbrev pub steps_text : ResultFile → (before : List ℕ) → List Step → List ℕ
steps_text file before [] = []
steps_text file before (step ∷ steps) = step_text file before step ++ steps_text file (before ++ step.link.path ∷ []) steps

-- ---- walks

-- the order with which a walk begins, behind a word
abbrev pub begin_text : List ℕ → List ℕ → List ℕ
begin_text word (a ∷ b ∷ ases) = pair_row word a b
begin_text word _ = []

-- the order to which it comes
abbrev pub end_text : List ℕ → List ℕ
end_text ases = flat_map (λ two. pair_row (codes "so") two.0 two.1) (last_two ases)

-- the steps of a walk, one for each link
abbrev pub walk_steps : Walk → List Step
walk_steps walk = steps_of walk.ases walk.links

-- a why line: what is supposed, or known since the one before it, the steps, and what it shows
abbrev pub why_text : ResultFile → (word before : List ℕ) → Walk → List ℕ
why_text file word before walk = begin_text word walk.ases ++ (steps_text file before (walk_steps walk) ++ end_text walk.ases)
