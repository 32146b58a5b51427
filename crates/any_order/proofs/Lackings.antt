-- The paths of a result among those of dumps.
use Rattle.std.proofs.Common.{◌≡◌, ◌⊎◌, inl, inr, ℕ, zero, suc, ◌+◌, ◌<◌, ◌≤◌, Bool, true, false, not, cond, ◌||◌, List, [], ◌∷◌, ◌++◌, length, map, take, Some, None, option_map}
use Rattle.std.proofs.Common.{Option, slice_get, bytes_eq, Contains, refl, sym, ap, ap₂, subst, ◌∙◌, ◌-◌, arith, length-append, nat_lt, if◌then◌else◌, le-ltb}
use Rattle.std.specs.List.{list_any}
use Rattle.std.proofs.lemmas.Bool.{and_parts, not-true, cases_Bool, cases_lt, false≢true, lt-ltb}
use Rattle.std.proofs.lemmas.List.{length-map}
use Rattle.std.proofs.lemmas.List.Elements.{Contains-append_cases, Contains-append_left, Contains-append_right}
use Rattle.std.proofs.lemmas.Option.{same_Some, slice_get_within}
use Rattle.tor_arena.proofs.Gets.{Has, has-from_Contains, Contains-from_has, Contains-none, Contains-map, slice_get-map, slice_get-unmap}
use Rattle.path_table.specs.Rows.{Counted, row_paths, none_twice}
use Rattle.path_table.specs.Table.{place_of}
use Rattle.path_table.proofs.TableLemmas.{eq_true, eq_self}
use Rattle.path_clean.specs.Counts.{CauseCounts}
use Rattle.path_clean.specs.declared.cleaned.Cause.TheVariants.{NoPath}
use Rattle.result_text.specs.declared.file.PathLine.{PathLine}
use Rattle.result_text.specs.declared.file.ResultFile.{ResultFile}
use Rattle.result_text.specs.Numbering.{aside_line}
use Rattle.result_rules.specs.declared.rule.Rule.TheVariants.{PathsDistinct}
use Rattle.result_rules.specs.Rules.{ForSome, IsMet}
use Rattle.result_rules.specs.Against.{in_order, row_of, its_rows, line_against, Departs}
use Rattle.path_order.specs.Laws.{HaveSameRows}
use Rattle.any_order.specs.AnyOrder.{IsAmong, DepartsInAnyOrder}
use Rattle.result_rules.specs.File.{path_line_number}
use Rattle.any_order.specs.Searching.{LacksFirst}

-- ---- lists in which nothing stands twice

module _ {X : Type 0} where
  first_or_later : (x y : X) (ys : List X) → Contains (y ∷ ys) x → (y ≡ x) ⊎ Contains ys x
  first_or_later x y ys (zero, less, is) = inl is
  first_or_later x y ys (suc k, less, is) = inr (k, omega (arith, less), is)

  at_first : (x y : X) (ys : List X) → y ≡ x → Contains (y ∷ ys) x
  at_first x y ys is = (0, omega arith, is)

  at_later : (x y : X) (ys : List X) → Contains ys x → Contains (y ∷ ys) x
  at_later x y ys (k, less, is) = (suc k, omega (arith, less), is)

  abbrev pub Apart : List X → Type 0
  Apart [] = Unit {0}
  Apart (x ∷ xs) = (Contains xs x → ⊥) × Apart xs

  abbrev pub AreIn : List X → List X → Type 0
  AreIn xs ys = (x : X) → Contains xs x → Contains ys x

  record Around (ys : List X) (x : X) : Type 0 where
    before : List X
    after : List X
    is : ys ≡ before ++ x ∷ after

  around : (ys : List X) (x : X) → Contains ys x → Around ys x
  around [] x there = absurd (Contains-none x there)
  around (y ∷ ys) x there = elim (first_or_later x y ys there) [
    | inl same ↦ record { before = []; after = ys; is = ap (λ z. z ∷ ys) same }
    | inr later ↦ let rest = around ys x later in record { before = y ∷ rest.before; after = rest.after; is = ap (λ zs. y ∷ zs) rest.is }
  ]

  -- an element that is none of these is taken away
  without : (xs before after : List X) (x : X) → (Contains xs x → ⊥) → AreIn xs (before ++ x ∷ after) → AreIn xs (before ++ after)
  without xs before after x other are z there = elim (Contains-append_cases before (x ∷ after) z (are z there)) [
    | inl front ↦ Contains-append_left before after z front
    | inr back ↦ elim (first_or_later z x after back) [
      | inl same ↦ absurd (other (subst (λ y. Contains xs y) (sym same) there))
      | inr behind ↦ Contains-append_right before after z behind
    ]
  ]

  rest_in : (x : X) (xs ys : List X) (a : Around ys x) → (Contains xs x → ⊥) → AreIn (x ∷ xs) ys → AreIn xs (a.before ++ a.after)
  rest_in x xs ys a other are =
      without xs a.before a.after x other (λ z there. subst (λ zs. Contains zs z) a.is (are z (at_later z x xs there)))

  shorter_by_one : (x : X) (ys : List X) (a : Around ys x) → length ys ≡ suc (length (a.before ++ a.after))
  shorter_by_one x ys a =
      let whole = ap length a.is in
      let parts = length-append a.before (x ∷ a.after) in
      let left = length-append a.before a.after in
      omega (arith, whole, parts, left)

  pub no_longer : (xs ys : List X) → Apart xs → AreIn xs ys → length xs ≤ length ys
  no_longer [] ys apart are = omega arith
  no_longer (x ∷ xs) ys apart are =
      let a = around ys x (are x (at_first x x xs refl)) in
      let rest = no_longer xs (a.before ++ a.after) apart.1 (rest_in x xs ys a apart.0 are) in
      let one = shorter_by_one x ys a in
      omega (arith, rest, one)

  pub all_there : (xs ys : List X) → Apart xs → AreIn xs ys → length ys ≤ length xs → AreIn ys xs
  all_there [] ys apart are short z there = let lt = there.1 in absurd (omega (arith, lt, short))
  all_there (x ∷ xs) ys apart are short z there =
      let a = around ys x (are x (at_first x x xs refl)) in
      let one = shorter_by_one x ys a in
      let back = all_there xs (a.before ++ a.after) apart.1 (rest_in x xs ys a apart.0 are) (omega (arith, short, one)) in
      elim (Contains-append_cases a.before (x ∷ a.after) z (subst (λ zs. Contains zs z) a.is there)) [
        | inl front ↦ at_later z x xs (back z (Contains-append_left a.before a.after z front))
        | inr later ↦ elim (first_or_later z x a.after later) [
          | inl same ↦ at_first z x xs same
          | inr behind ↦ at_later z x xs (back z (Contains-append_right a.before a.after z behind))
        ]
      ]

-- ---- rows of which no path stands twice

any_there : (paths : List (List ℕ)) (p : List ℕ) → Contains paths p → list_any (λ other. bytes_eq other p) paths ≡ true
any_there [] p there = absurd (Contains-none p there)
any_there (x ∷ xs) p there = elim (first_or_later p x xs there) [
  | inl same ↦ ap (λ b. b || list_any (λ other. bytes_eq other p) xs) (eq_self x p same)
  | inr later ↦ by (bytes_eq x p) (any_there xs p later)
]
  where
    by : (b : Bool) → list_any (λ other. bytes_eq other p) xs ≡ true → (b || list_any (λ other. bytes_eq other p) xs) ≡ true
    by true ih = refl
    by false ih = ih

-- the first path is none of the others
first_apart : (row : Counted) (rows : List Counted) (other : Counted) → none_twice (row_paths (row ∷ rows)) ≡ true → Contains rows other → row.path ≡ other.path → ⊥
first_apart row rows other once there same =
    let any = list_any (λ p. bytes_eq p row.path) (row_paths rows) in
    let none : any ≡ false = not-true any (and_parts (not any) (none_twice (row_paths rows)) once).0 in
    let path_there : Contains (row_paths rows) row.path = subst (λ p. Contains (row_paths rows) p) (sym same) (Contains-map (λ (r : Counted). r.path) rows other there) in
    false≢true (sym none ∙ any_there (row_paths rows) row.path path_there)

others_once : (row : Counted) (rows : List Counted) → none_twice (row_paths (row ∷ rows)) ≡ true → none_twice (row_paths rows) ≡ true
others_once row rows once = (and_parts (not (list_any (λ p. bytes_eq p row.path) (row_paths rows))) (none_twice (row_paths rows)) once).1

rows_apart : (rows : List Counted) → none_twice (row_paths rows) ≡ true → Apart rows
rows_apart [] once = tt
rows_apart (row ∷ rows) once = (λ there. first_apart row rows row once there refl, rows_apart rows (others_once row rows once))

-- a path is found where its row stands
place_at : (rows : List Counted) (k : ℕ) (row : Counted) → none_twice (row_paths rows) ≡ true → slice_get rows k ≡ Some row → place_of rows row.path ≡ Some k
place_at [] k row once at = cc
place_at (first ∷ rows) zero row once at =
    let same : first ≡ row = same_Some _ _ at in
    ap (λ b. cond b (Some 0) (option_map suc (place_of rows row.path))) (eq_self first.path row.path (ap (λ (r : Counted). r.path) same))
place_at (first ∷ rows) (suc k) row once at = elim (cases_Bool (bytes_eq first.path row.path)) [
  | inl is ↦ absurd (first_apart first rows row once (Contains-from_has rows row (k, at)) (eq_true first.path row.path is))
  | inr not_it ↦
      ap (λ b. cond b (Some 0) (option_map suc (place_of rows row.path))) not_it ∙ ap (option_map suc) (place_at rows k row (others_once first rows once) at)
]

abbrev made : List ℕ → ℕ → Counted
made path times = record { path = path; times = times }

-- the row of a path that is found
record IsFound (rows : List Counted) (path : List ℕ) (id : ℕ) : Type 0 where
  row : Counted
  at : slice_get rows id ≡ Some row
  is : row.path ≡ path

found_at : (rows : List Counted) (path : List ℕ) (id : ℕ) → place_of rows path ≡ Some id → IsFound rows path id
found_at [] path id place = cc
found_at (row ∷ rows) path id place = by (bytes_eq row.path path) refl (place_of rows path) id place (found_at rows path)
  where
    by : (b : Bool) → bytes_eq row.path path ≡ b → (found : Option ℕ) (id : ℕ) → cond b (Some 0) (option_map suc found) ≡ Some id
        → ((k : ℕ) → found ≡ Some k → IsFound rows path k) → IsFound (row ∷ rows) path id
    by true is found zero place rest = record { row = row; at = refl; is = eq_true row.path path is }
    by true is found (suc k) place rest = cc
    by false is None id place rest = cc
    by false is (Some k) zero place rest = cc
    by false is (Some k) (suc j) place rest =
        let next = rest j (ap (λ (n : ℕ). Some n) (omega (arith, same_Some _ _ place))) in
        record { row = next.row; at = next.at; is = next.is }

module _ (rows : List Counted) (once : none_twice (row_paths rows) ≡ true) (path : List ℕ) (times : ℕ) where
  -- where a path is found with its times, its row is there
  pub is_there : (id seen : ℕ) → place_of rows path ≡ Some id → option_map (λ (row : Counted). row.times) (slice_get rows id) ≡ Some seen → seen ≡ times → Contains rows (made path times)
  is_there id seen place at same =
      let found = found_at rows path id place in
      let count : found.row.times ≡ times = same_Some _ _ (sym (ap (option_map (λ (row : Counted). row.times)) found.at) ∙ at) ∙ same in
      let row_is : found.row ≡ made path times = ap₂ (λ (p : List ℕ) (n : ℕ). made p n) found.is count in
      Contains-from_has rows (made path times) (id, found.at ∙ ap (λ (row : Counted). Some row) row_is)

  -- and a row that is there is found, with its times
  pub times_are : (id seen : ℕ) → place_of rows path ≡ Some id → option_map (λ (row : Counted). row.times) (slice_get rows id) ≡ Some seen → Contains rows (made path times) → seen ≡ times
  times_are id seen place at there =
      let here = has-from_Contains rows (made path times) there in
      let same : here.0 ≡ id = same_Some _ _ (sym (place_at rows here.0 (made path times) once here.1) ∙ place) in
      same_Some _ _ (sym at ∙ ap (λ i. option_map (λ (row : Counted). row.times) (slice_get rows i)) (sym same) ∙ ap (option_map (λ (row : Counted). row.times)) here.1)

  pub is_found : place_of rows path ≡ None → Contains rows (made path times) → ⊥
  is_found none there =
      let here = has-from_Contains rows (made path times) there in
      none_some_place (sym none ∙ place_at rows here.0 (made path times) once here.1)
    where
      none_some_place : {k : ℕ} → ◌≡◌ {A = Option ℕ} None (Some k) → ⊥
      none_some_place e = cc

-- ---- the lines of a result

lines_apart : (lines : List PathLine) → ((k : ℕ) (line : PathLine) → slice_get lines k ≡ Some line → Contains (take k (map (λ (p : PathLine). p.path) lines)) line.path → ⊥)
    → Apart (map row_of lines)
lines_apart [] each = tt
lines_apart (line ∷ lines) each = (
  λ there. again (has-from_Contains (map row_of lines) (row_of line) there),
  lines_apart lines (λ k other at there. each (suc k) other at (at_later other.path line.path (take k (map (λ (p : PathLine). p.path) lines)) there)),
)
  where
    again : Has (map row_of lines) (row_of line) → ⊥
    again (k, at) =
        let back = slice_get-unmap row_of lines k (row_of line) at in
        each (suc k) back.0 back.1 (at_first back.0.path line.path (take k (map (λ (p : PathLine). p.path) lines)) (ap (λ (r : Counted). r.path) (sym back.2)))

its_rows_apart : (file : ResultFile) → IsMet file PathsDistinct → Apart (its_rows file)
its_rows_apart file once = lines_apart file.paths (λ k line at. once k (slice_get_within file.paths k line at) line at)

-- the paths of the first lines are there
abbrev pub AreThereUpTo : ResultFile → List Counted → ℕ → Type 0
AreThereUpTo file rows end = (j : ℕ) → j < end → ForSome (its_rows file) j (Contains rows)

module _ (file : ResultFile) (rows : List Counted) (k : ℕ) (before : AreThereUpTo file rows k) where
  all_before : k ≤ length file.paths → (j : ℕ) → j < k → IsAmong file rows j
  all_before within j lt = record { line = before j lt; end = λ e. absurd (omega (arith, e, lt, within)) }

  module _ (line : PathLine) (path : List ℕ) (times : ℕ) (at : slice_get file.paths k ≡ Some line) (p : path ≡ line.path) (t : times ≡ line.times) where
    its_row : slice_get (its_rows file) k ≡ Some (made path times)
    its_row = slice_get-map row_of file.paths k line at ∙ ap₂ (λ (a : List ℕ) (b : ℕ). Some (made a b)) (sym p) (sym t)

    pub line_more : Contains rows (record { path = path; times = times }) → AreThereUpTo file rows (k + 1)
    line_more there j lt = elim (cases_lt j k) [
      | inl less ↦ before j less
      | inr ge ↦ λ row row_at.
          let same : j ≡ k = omega (arith, ge, lt) in
          let is : made path times ≡ row = same_Some _ _ (sym its_row ∙ ap (slice_get (its_rows file)) (sym same) ∙ row_at) in
          subst (λ (r : Counted). Contains rows r) is there
    ]

    pub line_lacks : (Contains rows (record { path = path; times = times }) → ⊥) → (k ≤ length file.paths) × LacksFirst file rows k
    line_lacks other =
        let within : k < length file.paths = slice_get_within file.paths k line at in
        (omega (arith, within), record { breach = λ among. other (among.line (made path times) its_row); before = all_before (omega (arith, within)) })

many_rows : (file : ResultFile) → length (its_rows file) ≡ length file.paths
many_rows file = length-map file.paths row_of

module _ (file : ResultFile) (rows : List Counted) (k : ℕ) (end : k ≡ length file.paths) (there : AreThereUpTo file rows k) where
  all_in : AreIn (its_rows file) rows
  all_in row c =
      let at = has-from_Contains (its_rows file) row c in
      let within = slice_get_within (its_rows file) at.0 row at.1 in
      let many = many_rows file in
      there at.0 (omega (arith, within, many, end)) row at.1

  -- where no more rows are there than lines, they are the same ones
  pub same_rows : IsMet file PathsDistinct → length rows ≤ length file.paths → HaveSameRows (its_rows file) rows
  same_rows once few row =
      let many = many_rows file in
      (all_in row, all_there (its_rows file) rows (its_rows_apart file once) all_in (omega (arith, few, many)) row)

  -- where more are there, some have no line
  pub end_lacks : none_twice (row_paths rows) ≡ true → length file.paths < length rows → (k ≤ length file.paths) × LacksFirst file rows k
  end_lacks once more = (
    omega (arith, end),
    record {
      breach = λ among.
          let many = many_rows file in
          let fits = no_longer rows (its_rows file) (rows_apart rows once) (among.end end) in
          omega (arith, fits, more, many);
      before = all_before file rows k there (omega (arith, end));
    },
  )

-- ---- beside a verdict in order

line_of_path : (file : ResultFile) (k : ℕ) → path_line_number file k ≡ line_against file (7 + k)
line_of_path file k =
    let back : 7 + k - 7 ≡ k = omega arith in
    let behind : nat_lt (7 + k) 7 ≡ false = le-ltb (7 + k) 7 (omega arith) in
    ap (path_line_number file) (sym back) ∙ ap (λ b. if b then aside_line NoPath + (7 + k) else path_line_number file (7 + k - 7)) (sym behind)

-- behind the counts the lines have greater numbers
is_count : (file : ResultFile) (rows : List Counted) (counts : CauseCounts) (line rule : ℕ) (d : Departs file rows counts line rule) → line ≤ 10 → d.place < 7
is_count file rows counts line rule d early = elim (cases_lt d.place 7) [
  | inl lt ↦ lt
  | inr ge ↦
      let behind : nat_lt d.place 7 ≡ false = le-ltb d.place 7 ge in
      let at : line ≡ path_line_number file (d.place - 7) = d.numbered ∙ ap (λ b. if b then aside_line NoPath + d.place else path_line_number file (d.place - 7)) behind in
      absurd (omega (arith, at, early))
]

-- a count that differs does so in any order
pub count_departs : (file : ResultFile) (rows : List Counted) (counts : CauseCounts) (line rule : ℕ) → Departs file rows counts line rule → line ≤ 10
    → DepartsInAnyOrder file rows counts line rule
count_departs file rows counts line rule d early =
    let within = is_count file rows counts line rule d early in record {
      named = d.named;
      place = d.place;
      numbered = d.numbered;
      breach = λ a. d.breach (record { count = a.count; path = λ le. absurd (omega (arith, le, within)) });
      before = λ j lt. record { count = (d.before j lt).count; path = λ le. absurd (omega (arith, le, lt, within)) };
    }

abbrev counts_of : (a b c d e f g : ℕ) → CauseCounts
counts_of a b c d e f g = record { no_path = a; bad_segments = b; confed = c; sets = d; reserved = e; loop = f; short = g }

-- where the line that differs is none of a count, all counts agree
pub same_counts : (file : ResultFile) (rows : List Counted) (counts : CauseCounts) (line rule : ℕ) → Departs file rows counts line rule → 10 < line → file.asides ≡ counts
same_counts file rows counts line rule d late = seven file.asides counts (λ j lt. (d.before j (omega (arith, lt, behind))).count lt)
  where
    behind : 7 ≤ d.place
    behind = elim (cases_lt d.place 7) [
      | inr ge ↦ ge
      | inl lt ↦
          let early : nat_lt d.place 7 ≡ true = lt-ltb d.place 7 lt in
          let at : line ≡ 4 + d.place = d.numbered ∙ ap (λ b. if b then aside_line NoPath + d.place else path_line_number file (d.place - 7)) early in
          absurd (omega (arith, at, late, lt))
    ]

    one : (x y : CauseCounts) (j : ℕ) (a b : ℕ) → slice_get (in_order x) j ≡ Some a → slice_get (in_order y) j ≡ Some b → slice_get (in_order x) j ≡ slice_get (in_order y) j → a ≡ b
    one x y j a b at at' same = same_Some _ _ (sym at ∙ same ∙ at')

    seven : (x y : CauseCounts) → ((j : ℕ) → j < 7 → slice_get (in_order x) j ≡ slice_get (in_order y) j) → x ≡ y
    seven x y each =
        ap (λ n. counts_of n x.bad_segments x.confed x.sets x.reserved x.loop x.short) (one x y 0 x.no_path y.no_path refl refl (each 0 (omega arith))) ∙
        ap (λ n. counts_of y.no_path n x.confed x.sets x.reserved x.loop x.short) (one x y 1 x.bad_segments y.bad_segments refl refl (each 1 (omega arith))) ∙
        ap (λ n. counts_of y.no_path y.bad_segments n x.sets x.reserved x.loop x.short) (one x y 2 x.confed y.confed refl refl (each 2 (omega arith))) ∙
        ap (λ n. counts_of y.no_path y.bad_segments y.confed n x.reserved x.loop x.short) (one x y 3 x.sets y.sets refl refl (each 3 (omega arith))) ∙
        ap (λ n. counts_of y.no_path y.bad_segments y.confed y.sets n x.loop x.short) (one x y 4 x.reserved y.reserved refl refl (each 4 (omega arith))) ∙
        ap (λ n. counts_of y.no_path y.bad_segments y.confed y.sets y.reserved n x.short) (one x y 5 x.loop y.loop refl refl (each 5 (omega arith))) ∙
        ap (λ n. counts_of y.no_path y.bad_segments y.confed y.sets y.reserved y.loop n) (one x y 6 x.short y.short refl refl (each 6 (omega arith)))

-- the counts agree, and the paths stop to in this place
pub lack_departs : (file : ResultFile) (rows : List Counted) (counts : CauseCounts) (k line rule : ℕ) → file.asides ≡ counts → LacksFirst file rows k
    → line ≡ path_line_number file k → rule ≡ 11 → DepartsInAnyOrder file rows counts line rule
lack_departs file rows counts k line rule same lacks at named =
    let back : 7 + k - 7 ≡ k = omega arith in record {
      named = named;
      place = 7 + k;
      numbered = at ∙ line_of_path file k;
      breach = λ a. lacks.breach (subst (IsAmong file rows) back (a.path (omega arith)));
      before = λ j lt. record { count = λ _. ap (λ c. slice_get (in_order c) j) same; path = λ le. lacks.before (j - 7) (omega arith) };
    }

-- what agrees in order agrees in any
pub agrees_too : (file : ResultFile) (rows : List Counted) (counts : CauseCounts) → (file.asides ≡ counts) × (its_rows file ≡ rows) → (file.asides ≡ counts) × HaveSameRows (its_rows file) rows
agrees_too file rows counts agrees = (
  agrees.0,
  λ row. (subst (λ (t : List Counted). Contains t row) agrees.1, subst (λ (t : List Counted). Contains t row) (sym agrees.1)),
)
