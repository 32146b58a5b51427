-- Which paths steps have named, and texts that depend on that.
use Rattle.std.proofs.Common.{◌≡◌, ◌∙◌, ◌⊎◌, inl, inr, ℕ, zero, suc, ◌+◌, ◌<◌, ◌==◌, ◌||◌, Bool, true, false, List, [], ◌∷◌, ◌++◌, length, take, get_or, set, replicate, Some}
use Rattle.std.proofs.Common.{refl, sym, ap, subst, arith, append_assoc}
use Rattle.std.specs.Prelude.{slice_get, codes}
use Rattle.std.specs.List.{flat_map, list_any}
use Rattle.std.proofs.lemmas.Grind.{flat_map-append}
use Rattle.std.proofs.lemmas.Option.{slice_get_past}
use Rattle.std.proofs.lemmas.Bool.{cases_Bool, eq-eqb, ne_eqb}
use Rattle.std.proofs.lemmas.Bool.Decides.{eqb_tells}
use Rattle.std.proofs.lemmas.List.{append-nil, map-append, get_or-replicate, get_or-set_same, get_or-set_other, length-replicate, length-set}
use Rattle.std.proofs.lemmas.List.Folds.{list_any-append}
use Rattle.tor_arena.proofs.Gets.{take_get}
use Rattle.tor_io.specs.Outflow.{State, Puts}
use Rattle.tor_io.proofs.Putting.{puts_as, puts_none, puts_then}
use Rattle.relationships.specs.Telling.{Step}
use Rattle.text_fields.specs.Fields.{fields}
use Rattle.result_text.specs.declared.file.PathLine.{PathLine}
use Rattle.result_text.specs.declared.file.ResultFile.{ResultFile}
use Rattle.telling.specs.PathText.{AreFlagged, PutsNaming, was_named, path_text}
use Rattle.telling.specs.WalkText.{if_there, named_text, names_of, numbered, step_text, steps_text}
use Rattle.telling.specs.ToldText.{further_text, names_at, why_at}

-- ---- names

one_named : (p n : ℕ) → list_any (λ m. m == n) (p ∷ []) ≡ (p == n)
one_named p n = elim (cases_Bool (p == n)) [ inl t ↦ rw t refl | inr f ↦ rw f refl ]

named-more : (before : List ℕ) (p n : ℕ) → was_named (before ++ p ∷ []) n ≡ (was_named before n || (p == n))
named-more before p n = list_any-append (λ m. m == n) before (p ∷ []) ∙ ap (λ b. was_named before n || b) (one_named p n)

or_true : (b : Bool) → (b || true) ≡ true
or_true true = refl
or_true false = refl

or_false : (b : Bool) → (b || false) ≡ b
or_false true = refl
or_false false = refl

named_now : (before : List ℕ) (p n : ℕ) → p ≡ n → was_named (before ++ p ∷ []) n ≡ true
named_now before p n e = named-more before p n ∙ ap (λ b. was_named before n || b) (eq-eqb p n e) ∙ or_true (was_named before n)

named_as_before : (before : List ℕ) (p n : ℕ) → (p == n) ≡ false → was_named (before ++ p ∷ []) n ≡ was_named before n
named_as_before before p n ne = named-more before p n ∙ ap (λ b. was_named before n || b) ne ∙ or_false (was_named before n)

-- nothing is named where no flag is set
pub none_named : (count : ℕ) → AreFlagged [] (replicate count false)
none_named count = record { each = λ k lt. get_or-replicate count k false false (subst (λ n. k < n) (length-replicate count false) lt) }

-- a number that is no path's changes nothing
pub no_path_named : (before : List ℕ) (flags : List Bool) (p : ℕ) → (p ≡ 0) ⊎ (length flags < p) → AreFlagged before flags → AreFlagged (before ++ p ∷ []) flags
no_path_named before flags p none are = record {
  each = λ k lt. are.each k lt ∙ sym (named_as_before before p (k + 1) (ne_eqb p (k + 1) (λ e. elim none [ inl z ↦ omega (arith, z, e) | inr o ↦ omega (arith, o, e, lt) ])));
}

-- a path is named by its flag
pub path_named : (before : List ℕ) (flags : List Bool) (k : ℕ) → k < length flags → AreFlagged before flags → AreFlagged (before ++ (k + 1) ∷ []) (set flags k true)
path_named before flags k inside are = record { each = λ j lt. at j (subst (λ n. j < n) (length-set flags k true) lt) }
  where
    at : (j : ℕ) → j < length flags → get_or (set flags k true) j false ≡ was_named (before ++ (k + 1) ∷ []) (j + 1)
    at j lt = elim (eqb_tells k j) [
      | inl same ↦
          subst (λ i. get_or (set flags k true) i false ≡ was_named (before ++ (k + 1) ∷ []) (i + 1)) same.1 (get_or-set_same flags k true false inside ∙ sym (named_now before (k + 1) (k + 1) refl))
      | inr apart ↦
          get_or-set_other flags k j true false (λ e. apart.1 (sym e)) ∙ are.each j lt
          ∙ sym (named_as_before before (k + 1) (j + 1) (ne_eqb (k + 1) (j + 1) (λ e. apart.1 (omega (arith, e)))))
    ]

-- ---- texts, one behind the other

module _ {a b c : State} {f g : List Bool} {t : List ℕ → List ℕ} {n : List ℕ} where
  pub naming_then : {h : List Bool} {u : List ℕ → List ℕ} {m : List ℕ} → PutsNaming a b f g t n → PutsNaming b c g h u m → PutsNaming a c f h (λ before. t before ++ u (before ++ n)) (n ++ m)
  naming_then {h} {u} {m} first second = record {
    puts = λ before are. puts_then (first.puts before are) (second.puts (before ++ n) (first.named before are));
    named = λ before are. subst (λ l. AreFlagged l h) (append_assoc before n m) (second.named (before ++ n) (first.named before are));
    many = second.many ∙ first.many;
  }

  -- a text that names nothing, in front or behind
  pub text_then : {text : List ℕ} → Puts a b text → PutsNaming b c f g t n → PutsNaming a c f g (λ before. text ++ t before) n
  text_then put naming = record { puts = λ before are. puts_then put (naming.puts before are); named = naming.named; many = naming.many }

  pub then_text : {text : List ℕ} → PutsNaming a b f g t n → Puts b c text → PutsNaming a c f g (λ before. t before ++ text) n
  then_text naming put = record { puts = λ before are. puts_then (naming.puts before are) put; named = naming.named; many = naming.many }

pub naming_as : {a b : State} {f g : List Bool} {t : List ℕ → List ℕ} {n : List ℕ} {u : List ℕ → List ℕ} {m : List ℕ} → PutsNaming a b f g t n → ((before : List ℕ) → t before ≡ u before) → n ≡ m → PutsNaming a b f g u m
naming_as {b = b} {g = g} {u = u} {m = m} naming same names = record {
  puts = λ before are. puts_as (naming.puts before are) (same before);
  named = λ before are. subst (λ l. AreFlagged (before ++ l) g) names (naming.named before are);
  many = naming.many;
}

pub naming_none : (a : State) (flags : List Bool) → PutsNaming a a flags flags (λ before. []) []
naming_none a flags = record { puts = λ before are. puts_none a; named = λ before are. subst (λ l. AreFlagged l flags) (sym (append-nil before)) are; many = refl }

-- a text that names a number of no path
pub naming_no_path : {a b : State} {text : List ℕ} (flags : List Bool) (p : ℕ) → (p ≡ 0) ⊎ (length flags < p) → Puts a b text → PutsNaming a b flags flags (λ before. text) (p ∷ [])
naming_no_path flags p none put = record { puts = λ before are. put; named = λ before are. no_path_named before flags p none are; many = refl }

-- ---- steps and why lines, one by one

module _ (file : ResultFile) where
  steps-more : (xs : List Step) (x : Step) (before : List ℕ) →
      steps_text file before xs ++ step_text file (before ++ names_of xs) x ≡ steps_text file before (xs ++ x ∷ [])
  steps-more [] x before = ap (λ l. step_text file l x) (append-nil before) ∙ sym (append-nil (step_text file before x))
  steps-more (y ∷ xs) x before =
      append_assoc (step_text file before y) (steps_text file (before ++ y.link.path ∷ []) xs) (step_text file (before ++ names_of (y ∷ xs)) x)
      ∙ ap (λ l. step_text file before y ++ (steps_text file (before ++ y.link.path ∷ []) xs ++ step_text file l x)) (sym (append_assoc before (y.link.path ∷ []) (names_of xs)))
      ∙ ap (λ t. step_text file before y ++ t) (steps-more xs x (before ++ y.link.path ∷ []))

  -- one step more
  pub naming_step : {a b c : State} {f g h : List Bool} (steps : List Step) (k : ℕ) (x : Step) → slice_get steps k ≡ Some x →
      PutsNaming a b f g (λ before. steps_text file before (take k steps)) (names_of (take k steps)) → PutsNaming b c g h (λ before. step_text file before x) (x.link.path ∷ []) →
      PutsNaming a c f h (λ before. steps_text file before (take (k + 1) steps)) (names_of (take (k + 1) steps))
  naming_step steps k x at so_far more =
      naming_as (naming_then so_far more)
      (λ before. steps-more (take k steps) x before ∙ ap (steps_text file before) (sym (take_get steps k x at)))
      (sym (map-append (λ (step : Step). step.link.path) (take k steps) (x ∷ [])) ∙ ap names_of (sym (take_get steps k x at)))

  further-more : (xs : List ℕ) (x : ℕ) (before : List ℕ) →
      further_text file before xs ++ why_at file (codes "since") (before ++ flat_map (names_at file) xs) x ≡ further_text file before (xs ++ x ∷ [])
  further-more [] x before = ap (λ l. why_at file (codes "since") l x) (append-nil before) ∙ sym (append-nil (why_at file (codes "since") before x))
  further-more (y ∷ xs) x before =
      append_assoc (why_at file (codes "since") before y) (further_text file (before ++ names_at file y) xs) (why_at file (codes "since") (before ++ flat_map (names_at file) (y ∷ xs)) x)
      ∙ ap (λ l. why_at file (codes "since") before y ++ (further_text file (before ++ names_at file y) xs ++ why_at file (codes "since") l x))
      (sym (append_assoc before (names_at file y) (flat_map (names_at file) xs)))
      ∙ ap (λ t. why_at file (codes "since") before y ++ t) (further-more xs x (before ++ names_at file y))

  -- one why line more
  pub naming_why : {a b c : State} {f g h : List Bool} (whys : List ℕ) (k x : ℕ) → slice_get whys k ≡ Some x →
      PutsNaming a b f g (λ before. further_text file before (take k whys)) (flat_map (names_at file) (take k whys)) →
      PutsNaming b c g h (λ before. why_at file (codes "since") before x) (names_at file x) →
      PutsNaming a c f h (λ before. further_text file before (take (k + 1) whys)) (flat_map (names_at file) (take (k + 1) whys))
  naming_why whys k x at so_far more =
      naming_as (naming_then so_far more)
      (λ before. further-more (take k whys) x before ∙ ap (further_text file before) (sym (take_get whys k x at)))
      (ap (λ l. flat_map (names_at file) (take k whys) ++ l) (sym (append-nil (names_at file x))) ∙ sym (flat_map-append (names_at file) (take k whys) (x ∷ []))
      ∙ ap (flat_map (names_at file)) (sym (take_get whys k x at)))

-- what stands behind a link by a path
pub named_path : (file : ResultFile) (before : List ℕ) (p at : ℕ) → (p ≡ 0 → ⊥) →
    if_there (λ (line : PathLine). path_text (was_named before p) line.path at) (numbered file.paths p) ≡ named_text file before p at
named_path file before zero at some = absurd (some refl)
named_path file before (suc k) at some = refl

-- and where there is no such path
pub absent_path : {X : Type 0} (text : X → List ℕ) (paths : List X) (p : ℕ) → (p ≡ 0) ⊎ (length paths < p) → [] ≡ if_there text (numbered paths p)
absent_path text paths zero none = refl
absent_path text paths (suc k) none = ap (if_there text) (sym (slice_get_past paths k (elim none [ inl z ↦ absurd (omega (arith, z)) | inr o ↦ omega (arith, o) ])))

-- the line of a step
pub step_line : (over under link named : List ℕ) → ((codes "then|" ++ (((over ++ (124 ∷ under)) ++ 124 ∷ []) ++ link)) ++ named) ++ 10 ∷ [] ≡
    fields (codes "then" ∷ over ∷ under ∷ link ∷ []) ++ (named ++ 10 ∷ [])
step_line over under link named =
    append_assoc (codes "then|" ++ (((over ++ (124 ∷ under)) ++ 124 ∷ []) ++ link)) named (10 ∷ [])
    ∙ ap (λ t. (codes "then|" ++ t) ++ (named ++ 10 ∷ [])) (append_assoc (over ++ (124 ∷ under)) (124 ∷ []) link ∙ append_assoc over (124 ∷ under) (124 ∷ link))
