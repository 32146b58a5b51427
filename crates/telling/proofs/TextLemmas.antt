-- Why lines and steps that are put one by one, and the walk of a lost path.
use Rattle.std.proofs.Common.{◌≡◌, ◌∙◌, ℕ, zero, suc, ◌+◌, ◌-◌, ◌<◌, ◌≤◌, ◌⊎◌, inl, inr, List, [], ◌∷◌, ◌++◌, length, take, drop, get_or, Some, refl, sym, ap, append_assoc, arith}
use Rattle.std.specs.Prelude.{codes}
use Rattle.std.proofs.lemmas.List.{append-nil, take_all}
use Rattle.tor_io.specs.Outflow.{State, Puts}
use Rattle.tor_io.proofs.Putting.{puts_as, puts_then}
use Rattle.relationships.specs.declared.walk.Walk.{Walk}
use Rattle.relationships.specs.declared.fate.Fate.{Fate}
use Rattle.relationships.specs.declared.fate.Fate.TheVariants as fate
use Rattle.relationships.specs.Fates.{walk_of}
use Rattle.result_text.specs.declared.file.ResultFile.{ResultFile}
use Rattle.telling.specs.WalkText.{begin_text, walk_steps, steps_text}
use Rattle.telling.specs.declared.told.Going.{Going}
use Rattle.telling.specs.ToldText.{why_at, names_at, further_text, whys_text, refuting_text, going_row, goings_text}

-- ---- walks

-- places of why lines that aren't none are the first and the others
pub all_whys : (file : ResultFile) (xs : List ℕ) (d : ℕ) → 1 ≤ length xs
    → why_at file (codes "if") [] (get_or xs 0 d) ++ further_text file (names_at file (get_or xs 0 d)) (take (length xs - 1) (drop 1 xs)) ≡ whys_text file xs
all_whys file [] d low = absurd (omega (arith, low))
all_whys file (x ∷ xs) d low = ap (λ ys. why_at file (codes "if") [] x ++ further_text file (names_at file x) ys) (take_all (length (x ∷ xs) - 1) xs (omega arith))

-- a lost path has the steps of its walk
pub walk_read : (file : ResultFile) (its : Fate) (walk : Walk) → walk_of its ≡ Some walk
    → begin_text (codes "if") walk.ases ++ steps_text file [] (walk_steps walk) ≡ refuting_text file its
walk_read file fate.Kept walk is = absurd cc
walk_read file (fate.Lost w) walk is =
    let same : walk ≡ w = cc in ap (λ (w : Walk). begin_text (codes "if") w.ases ++ steps_text file [] (walk_steps w)) same

-- ---- how steps go

pub no_goings : (path : List ℕ) → goings_text path [] ≡ []
no_goings [] = refl
no_goings (a ∷ []) = refl
no_goings (a ∷ b ∷ path) = refl

going_to-suc : (path : List ℕ) (goings : List Going) (k : ℕ) (d : Going) → k < length goings → suc k < length path
    → goings_text path (take (suc k) goings) ≡ goings_text path (take k goings) ++ going_row (get_or path k 0) (get_or path (suc k) 0) (get_or goings k d)
going_to-suc [] goings k d low in_front = absurd (omega (arith, in_front))
going_to-suc (a ∷ []) goings k d low in_front = absurd (omega (arith, in_front))
going_to-suc (a ∷ b ∷ path) [] k d low in_front = absurd (omega (arith, low))
going_to-suc (a ∷ b ∷ path) (g ∷ goings) zero d low in_front = ap (λ t. going_row a b g ++ t) (no_goings (b ∷ path)) ∙ append-nil (going_row a b g)
going_to-suc (a ∷ b ∷ path) (g ∷ goings) (suc k) d low in_front =
    ap (λ t. going_row a b g ++ t) (going_to-suc (b ∷ path) goings k d (omega (arith, low)) (omega (arith, in_front)))
    ∙ sym (append_assoc (going_row a b g) (goings_text (b ∷ path) (take k goings)) (going_row (get_or (b ∷ path) k 0) (get_or (b ∷ path) (suc k) 0) (get_or goings k d)))

pub going_more : (a b c : State) (path : List ℕ) (goings : List Going) (k : ℕ) (d : Going) → k < length goings → k + 1 < length path
    → Puts a b (goings_text path (take k goings)) → Puts b c (going_row (get_or path k 0) (get_or path (k + 1) 0) (get_or goings k d))
    → Puts a c (goings_text path (take (k + 1) goings))
going_more a b c path goings k d low in_front so_far more =
    let next : k + 1 ≡ suc k = omega arith in
    puts_as (puts_then so_far more) (
    ap (λ n. goings_text path (take k goings) ++ going_row (get_or path k 0) (get_or path n 0) (get_or goings k d)) next
    ∙ sym (going_to-suc path goings k d low (omega (arith, in_front))) ∙ ap (λ n. goings_text path (take n goings)) (sym next)
    )

pub all_goings : (path : List ℕ) (goings : List Going) (n : ℕ) → (length goings ≤ n) ⊎ (length path ≤ suc n) → goings_text path (take n goings) ≡ goings_text path goings
all_goings [] goings n all = refl
all_goings (a ∷ []) goings n all = refl
all_goings (a ∷ b ∷ path) [] zero all = refl
all_goings (a ∷ b ∷ path) [] (suc n) all = refl
all_goings (a ∷ b ∷ path) (g ∷ goings) zero all = absurd (elim all [ inl f ↦ omega (arith, f) | inr f ↦ omega (arith, f) ])
all_goings (a ∷ b ∷ path) (g ∷ goings) (suc n) all =
    let less : (length goings ≤ n) ⊎ (length (b ∷ path) ≤ suc n) = elim all [ inl f ↦ inl (omega (arith, f)) | inr f ↦ inr (omega (arith, f)) ] in
    ap (λ t. going_row a b g ++ t) (all_goings (b ∷ path) goings n less)
