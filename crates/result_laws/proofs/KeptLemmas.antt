-- What is served and kept where more is served, or less.
use Rattle.std.proofs.Common.{◌≡◌, ℕ, zero, suc, Bool, true, false, List, [], ◌∷◌, ◌++◌, take, refl, sym, subst, arith, append_assoc, inl, inr, Contains, IsTrue}
use Rattle.std.specs.Prelude.{Some, slice_get}
use Rattle.std.specs.List.{AllByRecursion, items_where_true}
use Rattle.std.proofs.lemmas.Bool.{false≢true}
use Rattle.std.proofs.lemmas.Option.{same_Some}
use Rattle.std.proofs.lemmas.List.Elements.{All-append, All-cons, All-nil, All-weaker, All-contains, All-contains_itself, Contains-append_cases, Contains-append_left, Contains-append_right}
use Rattle.relationships.specs.Relationship.{Orientation, labels_of, ValleyFree, Serves}
use Rattle.relationships.specs.Selection.{IsServable, KeepsFrom}
use Rattle.relationships.proofs.GivenLemmas.{all_parts}

-- the paths of the first list are among those of the second
abbrev pub Within : List (List ℕ) → List (List ℕ) → Type 0
Within some all = (p : List ℕ) → Contains some p → Contains all p

pub within-nil : (ps : List (List ℕ)) → Within [] ps
within-nil ps p c = absurd (omega (arith, c.1))

pub within-tail : (q : List ℕ) (ps : List (List ℕ)) → Within ps (q ∷ ps)
within-tail q ps p c = Contains-append_right (q ∷ []) ps p c

pub within-cons : (q : List ℕ) (ps qs : List (List ℕ)) → Within ps qs → Within (q ∷ ps) (q ∷ qs)
within-cons q ps qs h p (zero, lt, is) = (zero, omega arith, is)
within-cons q ps qs h p (suc k, lt, is) = let c = h p (k, omega (arith, lt), is) in (suc c.0, omega (arith, c.1), c.2)

pub within-append : (ps qs rs ss : List (List ℕ)) → Within ps rs → Within qs ss → Within (ps ++ qs) (rs ++ ss)
within-append ps qs rs ss h k p c = elim (Contains-append_cases ps qs p c) [
  | inl i ↦ Contains-append_left rs ss p (h p i)
  | inr i ↦ Contains-append_right rs ss p (k p i)
]

pub serves_fewer : (O : Orientation) (some all : List (List ℕ)) → Within some all → Serves O all → Serves O some
serves_fewer O some all within serves =
    All-weaker (Contains some) (ValleyFree (labels_of O)) (λ p c. All-contains (ValleyFree (labels_of O)) all p serves (within p c)) some (All-contains_itself some)

pub servable_fewer : (some all : List (List ℕ)) → Within some all → IsServable all → IsServable some
servable_fewer some all within s = (s.0, serves_fewer s.0 some all within s.1)

-- one path more after those that are served
one_more : (O : Orientation) (some : List (List ℕ)) (path : List ℕ) → Serves O some → ValleyFree (labels_of O) path → Serves O (some ++ path ∷ [])
one_more O some path serves free =
    All-append (ValleyFree (labels_of O)) some (path ∷ []) serves (All-cons (ValleyFree (labels_of O)) path [] free (All-nil (ValleyFree (labels_of O))))

-- an orientation that serves all that is kept leaves each other path with a valley
pub valley_if_lost : (O : Orientation) (begun paths : List (List ℕ)) (keeps : List Bool) (k : ℕ) (path : List ℕ) → KeepsFrom begun paths keeps →
    slice_get paths k ≡ Some path → slice_get keeps k ≡ Some false → Serves O (begun ++ items_where_true keeps paths) → ValleyFree (labels_of O) path → ⊥
valley_if_lost O begun [] keeps k path h at lost serves free = absurd (cc at)
valley_if_lost O begun (p ∷ ps) [] k path h at lost serves free = absurd h
valley_if_lost O begun (p ∷ ps) (true ∷ bs) zero path h at lost serves free = absurd (false≢true (sym (same_Some true false lost)))
valley_if_lost O begun (p ∷ ps) (false ∷ bs) zero path h at lost serves free =
    let begun_served = (all_parts (ValleyFree (labels_of O)) begun (items_where_true bs ps) serves).0 in
    false≢true (h.0.1 (O, one_more O begun p begun_served (subst (ValleyFree (labels_of O)) (sym (same_Some p path at)) free)))
valley_if_lost O begun (p ∷ ps) (true ∷ bs) (suc k) path h at lost serves free =
    valley_if_lost O (begun ++ p ∷ []) ps bs k path h.1 at lost (subst (Serves O) (sym (append_assoc begun (p ∷ []) (items_where_true bs ps))) serves) free
valley_if_lost O begun (p ∷ ps) (false ∷ bs) (suc k) path h at lost serves free = valley_if_lost O begun ps bs k path h.1 at lost serves free

-- after more paths the same ones are kept, if some orientation serves these and all that is kept
pub keeps_behind_more : (O : Orientation) (begun more paths : List (List ℕ)) (keeps : List Bool) → Within begun more → KeepsFrom begun paths keeps →
    Serves O (more ++ items_where_true keeps paths) → KeepsFrom more paths keeps
keeps_behind_more O begun more [] [] within h serves = tt
keeps_behind_more O begun more [] (b ∷ bs) within h serves = absurd h
keeps_behind_more O begun more (p ∷ ps) [] within h serves = absurd h
keeps_behind_more O begun more (p ∷ ps) (true ∷ bs) within h serves =
    let all = subst (Serves O) (sym (append_assoc more (p ∷ []) (items_where_true bs ps))) serves in
    let first = (all_parts (ValleyFree (labels_of O)) (more ++ p ∷ []) (items_where_true bs ps) all).0 in (
      (λ _. (O, first), λ _. refl),
      keeps_behind_more O (begun ++ p ∷ []) (more ++ p ∷ []) ps bs (within-append begun (p ∷ []) more (p ∷ []) within (λ q c. c)) h.1 all,
    )
keeps_behind_more O begun more (p ∷ ps) (false ∷ bs) within h serves = (
  (
    λ t. absurd (false≢true t),
    λ s. h.0.1 (servable_fewer (begun ++ p ∷ []) (more ++ p ∷ []) (within-append begun (p ∷ []) more (p ∷ []) within (λ q c. c)) s),
  ),
  keeps_behind_more O begun more ps bs within h.1 serves,
)

-- the first paths are kept as they are without those after them
pub keeps_first : (n : ℕ) (begun paths : List (List ℕ)) (keeps : List Bool) → KeepsFrom begun paths keeps → KeepsFrom begun (take n paths) (take n keeps)
keeps_first zero begun paths keeps h = tt
keeps_first (suc n) begun [] [] h = tt
keeps_first (suc n) begun [] (b ∷ bs) h = absurd h
keeps_first (suc n) begun (p ∷ ps) [] h = absurd h
keeps_first (suc n) begun (p ∷ ps) (true ∷ bs) h = (h.0, keeps_first n (begun ++ p ∷ []) ps bs h.1)
keeps_first (suc n) begun (p ∷ ps) (false ∷ bs) h = (h.0, keeps_first n begun ps bs h.1)

-- what is kept of the first paths is kept
pub first_kept : (n : ℕ) (paths : List (List ℕ)) (keeps : List Bool) → Within (items_where_true (take n keeps) (take n paths)) (items_where_true keeps paths)
first_kept zero paths keeps = within-nil (items_where_true keeps paths)
first_kept (suc n) paths [] = λ p c. c
first_kept (suc n) [] (b ∷ bs) = λ p c. c
first_kept (suc n) (p ∷ ps) (true ∷ bs) = within-cons p (items_where_true (take n bs) (take n ps)) (items_where_true bs ps) (first_kept n ps bs)
first_kept (suc n) (p ∷ ps) (false ∷ bs) = first_kept n ps bs

pub kept_are_paths : (paths : List (List ℕ)) (keeps : List Bool) → Within (items_where_true keeps paths) paths
kept_are_paths paths [] = within-nil paths
kept_are_paths [] (b ∷ bs) = λ p c. c
kept_are_paths (p ∷ ps) (true ∷ bs) = within-cons p (items_where_true bs ps) ps (kept_are_paths ps bs)
kept_are_paths (p ∷ ps) (false ∷ bs) = λ q c. within-tail p ps q (kept_are_paths ps bs q c)

pub all_are_kept : (begun paths : List (List ℕ)) (keeps : List Bool) → KeepsFrom begun paths keeps → AllByRecursion (λ k. IsTrue k) keeps → Within paths (items_where_true keeps paths)
all_are_kept begun [] keeps h all = within-nil (items_where_true keeps [])
all_are_kept begun (p ∷ ps) [] h all = absurd h
all_are_kept begun (p ∷ ps) (true ∷ bs) h all = within-cons p ps (items_where_true bs ps) (all_are_kept (begun ++ p ∷ []) ps bs h.1 all.1)
all_are_kept begun (p ∷ ps) (false ∷ bs) h all = absurd (false≢true all.0)
