-- Lines and totals, one path more at a time.
use Rattle.std.proofs.Common.{◌≡◌, ℕ, zero, suc, ◌+◌, ◌-◌, ◌<◌, ◌≤◌, ◌^◌, List, [], ◌∷◌, ◌++◌, length, drop, get_or, map, take, slice_get, Option, Some, None, option_map, unwrap_or, refl, sym, ap, ap₂, ◌∙◌, subst, append_assoc, append-nil, arith}
use Rattle.std.specs.Prelude.{codes, sum_by}
use Rattle.std.specs.Fmt.{decimal}
use Rattle.std.specs.List.{join_with_byte}
use Rattle.std.proofs.lemmas.Grind.{flat_map-append}
use Rattle.std.proofs.lemmas.List.{length-map, length-take-le, take_all}
use Rattle.std.proofs.lemmas.Option.{get_or_from_slice_get, slice_get-get_or, slice_get_within}
use Rattle.std.proofs.lemmas.List.Sums.{get_or-le-sum_by}
use Rattle.tor_arena.proofs.Gets.{slice_get-map, take_get}
use Rattle.tor_arena.specs.Limits.{max_paths}
use Rattle.tor_io.specs.Outflow.{State, Puts}
use Rattle.tor_io.proofs.Putting.{puts_as, puts_then}
use Rattle.relationships.specs.declared.fate.Fate.{Fate}
use Rattle.relationships.specs.declared.walk.Walk.{Walk}
use Rattle.relationships.specs.Fates.{walk_of}
use Rattle.path_table.specs.Rows.{Counted}
use Rattle.result_text.specs.Text.{numbers_text, others, spaced}
use Rattle.as_rel.specs.declared.line.RelLine.{RelLine}
use Rattle.as_rel.specs.declared.grading.Grade.{Grade}
use Rattle.as_rel.specs.declared.grading.Grade.TheVariants.{Free, Valley, Unknown}
use Rattle.as_rel.specs.Grading.{grade}
use Rattle.route_leaks.specs.declared.meeting.Sighting.{Sighting}
use Rattle.route_leaks.specs.Leaks.{row_met}
use Rattle.leak_text.specs.declared.totals.KindTotals.{KindTotals}
use Rattle.leak_text.specs.LeakText.{graded_row, strange_line, strange_lines, strange_totals, with_graded, with_strange}

module _ (rel : List RelLine) (own : ℕ) where
  lines_push : (rows : List Counted) (fates : List Fate) (row : Counted) (fate : Fate) → length fates ≡ length rows →
      strange_lines rel own (rows ++ row ∷ []) (fates ++ fate ∷ []) ≡ strange_lines rel own rows fates ++ strange_line rel own row fate
  lines_push [] [] row fate many = append-nil (strange_line rel own row fate)
  lines_push [] (f ∷ fates) row fate many = absurd (omega (arith, many))
  lines_push (r ∷ rows) [] row fate many = absurd (omega (arith, many))
  lines_push (r ∷ rows) (f ∷ fates) row fate many =
      ap (λ t. strange_line rel own r f ++ t) (lines_push rows fates row fate (omega (arith, many))) ∙
      sym (append_assoc (strange_line rel own r f) (strange_lines rel own rows fates) (strange_line rel own row fate))

graded_twice : (g h : Grade) (t : KindTotals) → with_graded g (with_graded h t) ≡ with_graded h (with_graded g t)
graded_twice Free Free t = refl
graded_twice Free (Valley s) t = refl
graded_twice Free (Unknown s) t = refl
graded_twice (Valley s) Free t = refl
graded_twice (Valley s) (Valley s') t = refl
graded_twice (Valley s) (Unknown s') t = refl
graded_twice (Unknown s) Free t = refl
graded_twice (Unknown s) (Valley s') t = refl
graded_twice (Unknown s) (Unknown s') t = refl

graded_leak : (g : Grade) (t : KindTotals) → with_graded g (record t { leak = t.leak + 1 }) ≡ (let u = with_graded g t in record u { leak = u.leak + 1 })
graded_leak Free t = refl
graded_leak (Valley s) t = refl
graded_leak (Unknown s) t = refl

module _ (rel : List RelLine) where
  strange_twice : (r s : Counted) (f h : Fate) (t : KindTotals) → with_strange rel r f (with_strange rel s h t) ≡ with_strange rel s h (with_strange rel r f t)
  strange_twice r s Fate.Kept Fate.Kept t = graded_twice (grade rel r.path) (grade rel s.path) t
  strange_twice r s Fate.Kept (Fate.Lost w) t = graded_leak (grade rel r.path) t
  strange_twice r s (Fate.Lost w) Fate.Kept t = sym (graded_leak (grade rel s.path) t)
  strange_twice r s (Fate.Lost w) (Fate.Lost v) t = refl

  totals_push : (known : ℕ) (rows : List Counted) (fates : List Fate) (row : Counted) (fate : Fate) → length fates ≡ length rows →
      strange_totals rel known (rows ++ row ∷ []) (fates ++ fate ∷ []) ≡ with_strange rel row fate (strange_totals rel known rows fates)
  totals_push known [] [] row fate many = refl
  totals_push known [] (f ∷ fates) row fate many = absurd (omega (arith, many))
  totals_push known (r ∷ rows) [] row fate many = absurd (omega (arith, many))
  totals_push known (r ∷ rows) (f ∷ fates) row fate many =
      ap (with_strange rel r f) (totals_push known rows fates row fate (omega (arith, many))) ∙ strange_twice r row f fate (strange_totals rel known rows fates)

-- ---- members with a space between two

module _ {X : Type 0} (member : X → List ℕ) where
  others_more : (xs : List X) (k : ℕ) (x : X) → slice_get xs k ≡ Some x → others member (take (k + 1) xs) ≡ others member (take k xs) ++ 32 ∷ member x
  others_more xs k x at = ap (others member) (take_get xs k x at) ∙ flat_map-append (λ y. 32 ∷ member y) (take k xs) (x ∷ []) ∙ ap (λ t. others member (take k xs) ++ t) (append-nil (32 ∷ member x))

  pub one_behind : (a b c : State) (xs : List X) (k : ℕ) (d : X) → k < length xs → Puts a b (others member (take k xs)) → Puts b c (32 ∷ member (get_or xs k d)) →
      Puts a c (others member (take (k + 1) xs))
  one_behind a b c xs k d low so_far more = puts_as (puts_then so_far more) (sym (others_more xs k (get_or xs k d) (slice_get-get_or xs k d low)))

  pub joined_spaced : (xs : List X) → join_with_byte 32 (map member xs) ≡ spaced member xs
  joined_spaced [] = refl
  joined_spaced (x ∷ []) = sym (append-nil (member x))
  joined_spaced (x ∷ y ∷ xs) = ap (λ t. member x ++ 32 ∷ t) (joined_spaced (y ∷ xs))

  -- a list that isn't empty is its first member and the others
  pub first_and_others : (xs : List X) (d : X) → 1 ≤ length xs → member (get_or xs 0 d) ++ others member (take (length xs - 1) (drop 1 xs)) ≡ spaced member xs
  first_and_others [] d low = absurd (omega (arith, low))
  first_and_others (x ∷ xs) d low = ap (λ ys. member x ++ others member ys) (take_all (length (x ∷ xs) - 1) xs (omega arith))

-- ---- the lines of grades, from their pieces

pub free_line : (times : ℕ) (path : List ℕ) →
    codes "free|" ++ (decimal times ++ (124 ∷ numbers_text path) ++ 10 ∷ []) ≡ graded_row (record { path = path; times = times }) Free
free_line times path = simp append_assoc

pub valley_line : (times : ℕ) (path : List ℕ) (step : ℕ) →
    codes "valley|" ++ (decimal times ++ 124 ∷ numbers_text path ++ 124 ∷ decimal step ++ 10 ∷ []) ≡ graded_row (record { path = path; times = times }) (Valley step)
valley_line times path step = simp append_assoc

pub unknown_line : (times : ℕ) (path : List ℕ) (step : ℕ) →
    codes "unknown|" ++ (decimal times ++ 124 ∷ numbers_text path ++ 124 ∷ decimal step ++ 10 ∷ []) ≡ graded_row (record { path = path; times = times }) (Unknown step)
unknown_line times path step = simp append_assoc

-- ---- no more of a kind than paths

pub record AreFew (n : ℕ) (t : KindTotals) : Type 0 where
  pub free : t.free ≤ n
  pub unknown : t.unknown ≤ n
  pub valley : t.valley ≤ n
  pub leak : t.leak ≤ n

module _ (rel : List RelLine) where
  one_graded : (n : ℕ) (g : Grade) (t : KindTotals) → AreFew n t → AreFew (suc n) (with_graded g t)
  one_graded n Free t h = let a = h.free in let b = h.unknown in let c = h.valley in let d = h.leak in
      record { free = omega (arith, a); unknown = omega (arith, b); valley = omega (arith, c); leak = omega (arith, d) }
  one_graded n (Valley s) t h = let a = h.free in let b = h.unknown in let c = h.valley in let d = h.leak in
      record { free = omega (arith, a); unknown = omega (arith, b); valley = omega (arith, c); leak = omega (arith, d) }
  one_graded n (Unknown s) t h = let a = h.free in let b = h.unknown in let c = h.valley in let d = h.leak in
      record { free = omega (arith, a); unknown = omega (arith, b); valley = omega (arith, c); leak = omega (arith, d) }

  one_strange : (n : ℕ) (row : Counted) (fate : Fate) (t : KindTotals) → AreFew n t → AreFew (suc n) (with_strange rel row fate t)
  one_strange n row Fate.Kept t h = one_graded n (grade rel row.path) t h
  one_strange n row (Fate.Lost w) t h = let a = h.free in let b = h.unknown in let c = h.valley in let d = h.leak in
      record { free = omega (arith, a); unknown = omega (arith, b); valley = omega (arith, c); leak = omega (arith, d) }

  pub few_totals : (known : ℕ) (rows : List Counted) (fates : List Fate) → AreFew (length rows) (strange_totals rel known rows fates)
  few_totals known [] fates = record { free = omega arith; unknown = omega arith; valley = omega arith; leak = omega arith }
  few_totals known (r ∷ rows) [] = record { free = omega arith; unknown = omega arith; valley = omega arith; leak = omega arith }
  few_totals known (r ∷ rows) (f ∷ fates) = one_strange (length rows) r f (strange_totals rel known rows fates) (few_totals known rows fates)

-- ---- one path more

module _ (rel : List RelLine) (own known : ℕ) (rows : List Counted) (fates : List Fate) (k : ℕ) (row : Counted) (fate : Fate)
    (at : slice_get rows k ≡ Some row) (its : slice_get fates k ≡ Some fate)
  where
    as_many : length (take k fates) ≡ length (take k rows)
    as_many =
        let one = length-take-le k rows (omega (arith, slice_get_within rows k row at)) in
        let two = length-take-le k fates (omega (arith, slice_get_within fates k fate its)) in
        omega (arith, one, two)

    pub lines_more : (a b c : State) → Puts a b (strange_lines rel own (take k rows) (take k fates)) → Puts b c (strange_line rel own row fate) →
        Puts a c (strange_lines rel own (take (k + 1) rows) (take (k + 1) fates))
    lines_more a b c so_far more =
        puts_as (puts_then so_far more)
        (sym (lines_push rel own (take k rows) (take k fates) row fate as_many) ∙
        ap₂ (strange_lines rel own) (sym (take_get rows k row at)) (sym (take_get fates k fate its)))

    pub totals_more : (old new : KindTotals) → old ≡ strange_totals rel known (take k rows) (take k fates) → new ≡ with_strange rel row fate old →
        new ≡ strange_totals rel known (take (k + 1) rows) (take (k + 1) fates)
    totals_more old new so_far now =
        now ∙ ap (with_strange rel row fate) so_far ∙ sym (totals_push rel known (take k rows) (take k fates) row fate as_many) ∙
        ap₂ (strange_totals rel known) (sym (take_get rows k row at)) (sym (take_get fates k fate its))

-- ---- what stands in a place

some_same : {X : Type 0} {x y : X} → Some x ≡ Some y → x ≡ y
some_same e = cc

pub strange_row : (rows : List (List ℕ)) (met : List Sighting) (k : ℕ) (m : Sighting) (path : List ℕ) (row : Counted) → k < length met → m ≡ get_or met k m →
    slice_get rows m.place ≡ Some path → slice_get (map (row_met rows) met) k ≡ Some row → row ≡ record { path = path; times = m.times }
strange_row rows met k m path row lt item stands at =
    let here : slice_get met k ≡ Some m = slice_get-get_or met k m lt ∙ ap (λ (x : Sighting). Some x) (sym item) in
    some_same (sym at ∙ slice_get-map (row_met rows) met k m here) ∙ ap (λ (o : Option (List ℕ)). record { path = unwrap_or o []; times = m.times }) stands

walk_there : (fates : List Fate) (k n : ℕ) (fate : Fate) (walk : Option Walk) → n ≡ k → slice_get fates k ≡ Some fate → option_map walk_of (slice_get fates n) ≡ Some walk → walk_of fate ≡ walk
walk_there fates k n fate walk same at is =
    some_same (sym (ap (option_map walk_of) (ap (slice_get fates) same ∙ at)) ∙ is)

pub lost_there : (fates : List Fate) (k n : ℕ) (fate : Fate) (o : Option Walk) (w : Walk) → n ≡ k → slice_get fates k ≡ Some fate → option_map walk_of (slice_get fates n) ≡ Some o → o ≡ Some w →
    fate ≡ Fate.Lost w
lost_there fates k n fate o w same at is some = by fate (walk_there fates k n fate o same at is ∙ some)
  where
    by : (fate : Fate) → walk_of fate ≡ Some w → fate ≡ Fate.Lost w
    by Fate.Kept e = absurd cc
    by (Fate.Lost v) e = ap (λ (x : Walk). Fate.Lost x) (some_same e)

pub kept_there : (fates : List Fate) (k n : ℕ) (fate : Fate) (o : Option Walk) → n ≡ k → slice_get fates k ≡ Some fate → option_map walk_of (slice_get fates n) ≡ Some o → o ≡ None →
    fate ≡ Fate.Kept
kept_there fates k n fate o same at is none = by fate (walk_there fates k n fate o same at is ∙ none)
  where
    by : (fate : Fate) → walk_of fate ≡ None → fate ≡ Fate.Kept
    by Fate.Kept e = refl
    by (Fate.Lost v) e = absurd cc

pub long_at : (paths : List (List ℕ)) (k : ℕ) (path : List ℕ) → slice_get paths k ≡ Some path → length path ≤ sum_by length paths
long_at paths k path at =
    subst (λ (p : List ℕ). length p ≤ sum_by length paths) (get_or_from_slice_get paths k path path at)
    (get_or-le-sum_by length paths k path (slice_get_within paths k path at))

-- ---- totals so far fit

pub record AreSmall (t : KindTotals) : Type 0 where
  pub free : t.free < 2 ^ 32
  pub unknown : t.unknown < 2 ^ 32
  pub valley : t.valley < 2 ^ 32
  pub leak : t.leak < 2 ^ 32

pub small_totals : (rel : List RelLine) (known : ℕ) (rows : List Counted) (fates : List Fate) (k : ℕ) (t : KindTotals) → length rows ≤ 2 ^ 23 →
    t ≡ strange_totals rel known (take k rows) (take k fates) → AreSmall t
small_totals rel known rows fates k t few is =
    let h = few_totals rel known (take k rows) (take k fates) in
    let cut = length_taken k rows in
    let one = ap (λ (u : KindTotals). u.free) is in
    let two = ap (λ (u : KindTotals). u.unknown) is in
    let three = ap (λ (u : KindTotals). u.valley) is in
    let four = ap (λ (u : KindTotals). u.leak) is in
    let a = h.free in
    let b = h.unknown in
    let c = h.valley in
    let d = h.leak in
    record {
      free = omega (arith, one, a, cut, few);
      unknown = omega (arith, two, b, cut, few);
      valley = omega (arith, three, c, cut, few);
      leak = omega (arith, four, d, cut, few);
    }
  where
    length_taken : (k : ℕ) (xs : List Counted) → length (take k xs) ≤ length xs
    length_taken zero xs = omega arith
    length_taken (suc k) [] = omega arith
    length_taken (suc k) (x ∷ xs) = omega (arith, length_taken k xs)

pub few_rows : (rows : List (List ℕ)) (met : List Sighting) → length met ≤ max_paths → length (map (row_met rows) met) ≤ 2 ^ 23
few_rows rows met few = let many = length-map met (row_met rows) in omega (arith, few, many)
