-- The cells of further generations, and that no two are the same.
use Rattle.std.proofs.Common.{◌≡◌, ℕ, ◌+◌, ◌-◌, ◌<◌, ◌≤◌, ◌⊎◌, inl, inr, true, false, Bool, List, [], ◌∷◌, length, take, map, refl, sym, ◌∙◌, subst, arith}
use Rattle.std.proofs.Common.{All, length-append, lt-ltb, le-ltb}
use Rattle.std.specs.Prelude.{Option, Some, None, filter_map, nat_lt, ◌==◌, cond, if◌then◌else◌}
use Rattle.std.specs.List.{AllPairs, find, cons_option}
use Rattle.std.proofs.lemmas.Bool.{cases_order}
use Rattle.std.proofs.lemmas.Option.{none-some, same_Some}
use Rattle.std.proofs.lemmas.List.{length-map}
use Rattle.std.proofs.lemmas.List.Elements.{All-append, All-nil, All-cons, All-tail}
use Rattle.result_text.specs.declared.file.EdgeLine.{EdgeLine}
use Rattle.relationships.specs.declared.mark.Mark.TheVariants as mark
use Rattle.drawing.specs.declared.group.Neighbour.{Neighbour}
use Rattle.drawing.specs.declared.page.Cell.{Cell}
use Rattle.drawing.specs.declared.standings.Standing.{Standing}
use Rattle.drawing.specs.declared.generation.Ends.{Ends}
use Rattle.drawing.specs.declared.tower.Tie.{Tie}
use Rattle.drawing.specs.declared.drawing.BoxEntry.{BoxEntry}
use Rattle.drawing.specs.declared.drawing.BoxEntry.TheVariants as entry
use Rattle.drawing.specs.Entries.{box_entries}
use Rattle.drawing.specs.Page.{flat_cell}
use Rattle.drawing.specs.Generations.{upward, standing_of, tie_of, box_count, standing_at, standings_at, perch_at, perches_at, topmost, perches, rising_ties, sizes, tie_with, widest}
use Rattle.drawing.proofs.Numbered.{numbered_each, numbered_pairs, pairs_append}
use Rattle.drawing.proofs.Seats.{IsHigh}

-- ---- how many boxes each generation has

abbrev pub counts : ℕ → List Neighbour → List (List Neighbour) → ℕ → ℕ
counts most first [] r = box_count most first
counts most first (g ∷ gs) r = if nat_lt (length gs) r then box_count most g else counts most first gs r

counts_new : (most : ℕ) (first g : List Neighbour) (gs : List (List Neighbour)) (r : ℕ) → length gs < r → counts most first (g ∷ gs) r ≡ box_count most g
counts_new most first g gs r lt = rw (lt-ltb (length gs) r lt) refl

counts_old : (most : ℕ) (first g : List Neighbour) (gs : List (List Neighbour)) (r : ℕ) → r ≤ length gs → counts most first (g ∷ gs) r ≡ counts most first gs r
counts_old most first g gs r le = rw (le-ltb (length gs) r le) refl

pub counts_first : (most : ℕ) (first : List Neighbour) (gs : List (List Neighbour)) → counts most first gs 0 ≡ box_count most first
counts_first most first [] = refl
counts_first most first (g ∷ gs) = counts_old most first g gs 0 (omega arith) ∙ counts_first most first gs

pub counts_few : (most : ℕ) (first : List Neighbour) (gs : List (List Neighbour)) (r : ℕ) → 1 ≤ r → r ≤ length gs → counts most first gs r ≤ widest most gs
counts_few most first [] r low le = absurd (omega (arith, low, le))
counts_few most first (g ∷ gs) r low le = elim (cases_order (length gs) r) [
  | inl e ↦ let old = counts_few most first gs r low (omega (arith, e)) in let same = counts_old most first g gs r (omega (arith, e)) in omega (arith, old, same)
  | inr o ↦ elim o [
    | inl lt ↦ let new = counts_new most first g gs r lt in omega (arith, new)
    | inr gt ↦ let old = counts_few most first gs r low (omega (arith, gt)) in let same = counts_old most first g gs r (omega (arith, gt)) in omega (arith, old, same)
  ]
]

-- ---- one cell

pub older : (most : ℕ) (first g : List Neighbour) (gs : List (List Neighbour)) (c : Cell) → IsHigh (counts most first gs) (length gs) c →
    IsHigh (counts most first (g ∷ gs)) (length (g ∷ gs)) c
older most first g gs c x =
    let low = x.low in
    record { there = x.there; count = x.count ∙ sym (counts_old most first g gs c.row low); low = omega (arith, low) }

newer : (most : ℕ) (first g : List Neighbour) (gs : List (List Neighbour)) (i : ℕ) → i < box_count most g →
    IsHigh (counts most first (g ∷ gs)) (length (g ∷ gs)) (flat_cell (box_count most g) (length gs + 1) i)
newer most first g gs i lt = record { there = lt; count = sym (counts_new most first g gs (length gs + 1) (omega arith)); low = omega arith }

-- ---- a generation

pub as_drawn : (most : ℕ) (ns : List Neighbour) → length (take most ns) ≤ box_count most ns
as_drawn most ns =
    let a = length-append (map (λ n. entry.One n) (take most ns)) (more ns) in
    let b = length-map (take most ns) (λ n. entry.One n) in
    omega (arith, a, b)
  where
    more : List Neighbour → List BoxEntry
    more ns = if nat_lt most (length ns) then entry.More (length ns - most) ∷ [] else []

-- what holds of each cell of a generation
standings_each : (most rank : ℕ) (ns : List Neighbour) (P : Cell → Type 0) → ((i : ℕ) → i < box_count most ns → P (flat_cell (box_count most ns) rank i)) →
    All (λ s. P s.cell) (standings_at most rank ns)
standings_each most rank ns P holds =
    let some = as_drawn most ns in
    numbered_each (standing_at (box_count most ns) rank) (take most ns) (λ s. record { number = s.number; mark = mark.Open; support = 0 }) (λ s. P s.cell)
    (λ k x lt. holds k (omega (arith, some, lt)))

perches_each : (most rank : ℕ) (ns : List Neighbour) (P : Cell → Type 0) → ((i : ℕ) → i < box_count most ns → P (flat_cell (box_count most ns) rank i)) →
    All (λ q. P q.cell) (perches_at most rank ns)
perches_each most rank ns P holds =
    numbered_each (perch_at (box_count most ns) rank) (box_entries most ns) (λ q. q.entry) (λ q. P q.cell) (λ k x lt. holds k lt)

-- ---- two cells

abbrev pub CellsDiffer : Cell → Cell → Type 0
CellsDiffer c d = (c.row < d.row) ⊎ ((d.row < c.row) ⊎ ((c.row ≡ d.row) × ((c.count ≡ d.count) × ((c.place < d.place) ⊎ (d.place < c.place)))))

perches_differ : (most rank : ℕ) (ns : List Neighbour) → AllPairs (λ q u. CellsDiffer q.cell u.cell) (perches_at most rank ns)
perches_differ most rank ns =
    numbered_pairs (perch_at (box_count most ns) rank) (box_entries most ns) (λ q. q.entry) (λ q u. CellsDiffer q.cell u.cell)
    (λ k j x z lt few. inr (inr (refl, (refl, inl lt))))

-- ---- all generations

-- a box of one of them
pub record IsPerch (f : ℕ → ℕ) (to : ℕ) (c : Cell) : Type 0 where
  pub high : IsHigh f to c
  pub up : 1 ≤ c.row

pub all_high : (most : ℕ) (first : List Neighbour) (gs : List (List Neighbour)) → All (λ q. IsPerch (counts most first gs) (length gs) q.cell) (perches most gs)
all_high most first [] = All-nil _
all_high most first (g ∷ gs) =
    All-append (λ q. IsPerch (counts most first (g ∷ gs)) (length (g ∷ gs)) q.cell) (perches most gs) (perches_at most (length gs + 1) g)
    (λ k d lt. let x = all_high most first gs k d lt in record { high = older most first g gs _ x.high; up = x.up })
    (perches_each most (length gs + 1) g (IsPerch (counts most first (g ∷ gs)) (length (g ∷ gs))) (λ i lt. record { high = newer most first g gs i lt; up = omega arith }))

pub all_differ : (most : ℕ) (first : List Neighbour) (gs : List (List Neighbour)) → AllPairs (λ q u. CellsDiffer q.cell u.cell) (perches most gs)
all_differ most first [] = λ i j d less lt. absurd (omega (arith, lt))
all_differ most first (g ∷ gs) =
    pairs_append (λ q u. CellsDiffer q.cell u.cell) (perches most gs) (perches_at most (length gs + 1) g)
    (all_differ most first gs) (perches_differ most (length gs + 1) g)
    (λ k d lt j e lt'.
    let below = (all_high most first gs k d lt).high.low in
    let above = perches_each most (length gs + 1) g (λ c. c.row ≡ length gs + 1) (λ i less. refl) j e lt' in
    inl (omega (arith, below, above)))

topmost_high : (most : ℕ) (first : List Neighbour) (gs : List (List Neighbour)) →
    All (λ s. IsHigh (counts most first gs) (length gs) s.cell × (s.cell.row ≡ length gs)) (topmost most first gs)
topmost_high most first [] =
    standings_each most 0 first (λ c. IsHigh (counts most first []) 0 c × (c.row ≡ 0)) (λ i lt. (record { there = lt; count = refl; low = omega arith }, refl))
topmost_high most first (g ∷ gs) =
    standings_each most (length gs + 1) g (λ c. IsHigh (counts most first (g ∷ gs)) (length (g ∷ gs)) c × (c.row ≡ length (g ∷ gs))) (λ i lt. (newer most first g gs i lt, omega arith))

-- ---- lines

-- what is found is one of those that are looked through
found_one : {X : Type 0} (test : X → Bool) (P : X → Type 0) (y : X) (xs : List X) (x : X) → P y → (find test xs ≡ Some x → P x) →
    (b : Bool) → cond b (Some y) (find test xs) ≡ Some x → P x
found_one test P y xs x head rest true e = subst P (same_Some y x e) head
found_one test P y xs x head rest false e = rest e

found_is : {X : Type 0} (test : X → Bool) (P : X → Type 0) (xs : List X) (x : X) → All P xs → find test xs ≡ Some x → P x
found_is test P [] x all e = absurd (none-some x e)
found_is test P (y ∷ xs) x all e =
    found_one test P y xs x (all 0 y (omega arith)) (found_is test P xs x (All-tail P y xs all)) (test y) e

all_made_one : {X Y : Type 0} (h : X → Option Y) (P : Y → Type 0) (x : X) (ys : List Y) → ((y : Y) → h x ≡ Some y → P y) → All P ys →
    (o : Option Y) → h x ≡ o → All P (cons_option o ys)
all_made_one h P x ys each all None e = all
all_made_one h P x ys each all (Some y) e = All-cons P y ys (each y e) all

all_made : {X Y : Type 0} (h : X → Option Y) (P : Y → Type 0) (xs : List X) → ((x : X) (y : Y) → h x ≡ Some y → P y) → All P (filter_map h xs)
all_made h P [] each = All-nil P
all_made h P (x ∷ xs) each = all_made_one h P x (filter_map h xs) (each x) (all_made h P xs each) (h x) refl

-- a line leads from a cell to one of the next generation
pub record IsRise (f : ℕ → ℕ) (to : ℕ) (t : Tie) : Type 0 where
  pub lower : IsHigh f to t.lower
  pub upper : IsHigh f to t.upper
  pub up : t.upper.row ≡ t.lower.row + 1

-- the standings of a tie stand where they should
abbrev pub StandsIn : (ℕ → ℕ) → ℕ → ℕ → Standing → Type 0
StandsIn f to row s = IsHigh f to s.cell × (s.cell.row ≡ row)

between : (f : ℕ → ℕ) (to row : ℕ) (e : EdgeLine) (s u : Standing) → StandsIn f to row s → StandsIn f to (row + 1) u →
    IsRise f to (record { lower = s.cell; upper = u.cell; mark = e.mark })
between f to row e s u (a, l) (b, h) = record { lower = a; upper = b; up = omega (arith, l, h) }

made_with : (f : ℕ → ℕ) (to row : ℕ) (e : EdgeLine) (t : Tie) (a b : Option Standing) → ((s : Standing) → a ≡ Some s → StandsIn f to row s) →
    ((s : Standing) → b ≡ Some s → StandsIn f to (row + 1) s) → tie_with e a b ≡ Some t → IsRise f to t
made_with f to row e t None b one other is = absurd (none-some t is)
made_with f to row e t (Some s) None one other is = absurd (none-some t is)
made_with f to row e t (Some s) (Some u) one other is = subst (IsRise f to) (same_Some _ t is) (between f to row e s u (one s refl) (other u refl))

made : (lower upper : List Standing) (f : ℕ → ℕ) (to row : ℕ) (e : EdgeLine) (t : Tie) → All (StandsIn f to row) lower → All (StandsIn f to (row + 1)) upper →
    (o : Option Ends) → elim o [ None ↦ None | Some u ↦ tie_with e (standing_of u.customer lower) (standing_of u.provider upper) ] ≡ Some t → IsRise f to t
made lower upper f to row e t one other None is = absurd (none-some t is)
made lower upper f to row e t one other (Some u) is =
    made_with f to row e t (standing_of u.customer lower) (standing_of u.provider upper)
    (λ s g. found_is (λ s. s.number == u.customer) (StandsIn f to row) lower s one g)
    (λ s g. found_is (λ s. s.number == u.provider) (StandsIn f to (row + 1)) upper s other g) is

pub all_rise : (edges : List EdgeLine) (most : ℕ) (first : List Neighbour) (gs : List (List Neighbour)) →
    All (IsRise (counts most first gs) (length gs)) (rising_ties edges most first gs)
all_rise edges most first [] = All-nil _
all_rise edges most first (g ∷ gs) =
    All-append (IsRise (counts most first (g ∷ gs)) (length (g ∷ gs))) (rising_ties edges most first gs) (filter_map (tie_of (topmost most first gs) (topmost most first (g ∷ gs))) edges)
    (λ k d lt.
    let x = all_rise edges most first gs k d lt in
    record { lower = older most first g gs _ x.lower; upper = older most first g gs _ x.upper; up = x.up })
    (all_made (tie_of (topmost most first gs) (topmost most first (g ∷ gs))) (IsRise (counts most first (g ∷ gs)) (length (g ∷ gs))) edges (λ e t is.
    made (topmost most first gs) (topmost most first (g ∷ gs)) (counts most first (g ∷ gs)) (length (g ∷ gs)) (length gs) e t
    (λ k d lt. let x = topmost_high most first gs k d lt in (older most first g gs _ x.0, x.1)) (λ k d lt. let x = topmost_high most first (g ∷ gs) k d lt in let row = x.1 in (x.0, omega (arith, row))) (upward e) is))

-- the lowest generation has what is above nothing
pub none_deep : {f : ℕ → ℕ} {to : ℕ} {t : Tie} → IsRise f to t → 0 < to
none_deep x = let low = x.upper.low in let up = x.up in omega (arith, low, up)

pub sizes_many : (gs : List (List Neighbour)) → length (sizes gs) ≡ length gs
sizes_many [] = refl
sizes_many (g ∷ gs) = let a = length-append (sizes gs) (length g ∷ []) in let b = sizes_many gs in omega (arith, a, b)
