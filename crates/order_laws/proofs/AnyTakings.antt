-- What is taken in behind paths that stand in any order.
use Rattle.std.proofs.Common.{◌≡◌, ℕ, zero, suc, ◌+◌, ◌-◌, ◌^◌, ◌≤◌, ◌++◌, min, true, false, cond, List, [], ◌∷◌, map, count_by, filter_map, bytes_eq, Result, Ok, Err}
use Rattle.std.proofs.Common.{IsPermutation, refl, sym, ap, subst, ◌∙◌, arith, append_assoc, if◌then◌else◌}
use Rattle.std.proofs.lemmas.List.{append-nil}
use Rattle.std.proofs.lemmas.List.Elements.{filter_map-append}
use Rattle.std.proofs.lemmas.List.Sums.{sum_by-cons, sum_by_push}
use Rattle.std.proofs.lemmas.List.Sorted.{IsPermutation-sym, IsPermutation-map, IsPermutation-append_left, sum_by-IsPermutation}
use Rattle.tor_arena.specs.Growth.{one_more}
use Rattle.path_attrs.specs.Fields.{◌>>=◌}
use Rattle.path_clean.specs.declared.cleaned.Sets.{Sets}
use Rattle.path_clean.specs.declared.cleaned.Cause.{Cause}
use Rattle.path_clean.specs.declared.cleaned.Cleaned.{Cleaned}
use Rattle.path_clean.specs.declared.cleaned.Cleaned.TheVariants.{Path, Aside}
use Rattle.path_clean.specs.Clean.{clean_of}
use Rattle.path_clean.specs.Counts.{cause_count, counted_one}
use Rattle.path_table.specs.Rows.{Counted}
use Rattle.path_table.specs.Table.{with_path, counted}
use Rattle.path_table.proofs.CountingLemmas.{counted_push}
use Rattle.path_order.proofs.RiseLemmas.{one_if, is_of, many, cond_false, Few, few_tail, few_moved}
use Rattle.path_order.proofs.CountedLemmas.{counted_few}
use Rattle.dump_read.specs.declared.error.LimitKind.{LimitKind}
use Rattle.dump_read.specs.Routes.{Route}
use Rattle.dump_read.specs.Batches.{cleaned}
use Rattle.dump_read.specs.declared.taking.Taken.{Taken}
use Rattle.dump_read.specs.Taking.{take_cleaned, take_route, take_routes, Takes}
use Rattle.dump_read.specs.Laws.{path_in, is_aside}
use Rattle.dump_read.proofs.TakingLemmas.{same_ok, path_counted, one_route, cleaned-append}
use Rattle.order_laws.specs.RouteOrder.{IsTakenInAnyOrder}

-- ---- a path that is counted once more, or a new one

abbrev once_more : Counted → Counted
once_more row = record { path = row.path; times = one_more row.times }

abbrev bumped : List ℕ → Counted → Counted
bumped p row = if bytes_eq row.path p then once_more row else row

parts : (p : List ℕ) (row : Counted) (rows : List Counted) → many p (row ∷ rows) ≡ is_of p row + many p rows
parts p row rows = sum_by-cons (is_of p) row rows

none_bumped : (p : List ℕ) (rows : List Counted) → many p rows ≡ 0 → map (bumped p) rows ≡ rows
none_bumped p [] none = refl
none_bumped p (row ∷ rows) none =
    let all = parts p row rows in
    let other : bytes_eq row.path p ≡ false = cond_false (bytes_eq row.path p) (omega (arith, all, none)) in
    ap (λ b. (if b then once_more row else row) ∷ map (bumped p) rows) other ∙ ap (λ (t : List Counted). row ∷ t) (none_bumped p rows (omega (arith, all, none)))

known_bumped : (p : List ℕ) (rows : List Counted) → Few rows → 1 ≤ many p rows → with_path rows p ≡ map (bumped p) rows
known_bumped p [] few some = absurd (omega (arith, some))
known_bumped p (row ∷ rows) few some =
    let all = parts p row rows in
    let least = few.at p in
    elim (bytes_eq row.path p) as
    (λ b. bytes_eq row.path p ≡ b → (if b then once_more row ∷ rows else row ∷ with_path rows p) ≡ (if b then once_more row else row) ∷ map (bumped p) rows) [
      | true ↦ λ is.
          let here : is_of p row ≡ 1 = ap one_if is in
          ap (λ (t : List Counted). once_more row ∷ t) (sym (none_bumped p rows (omega (arith, all, least, here))))
      | false ↦ λ is.
          let other : is_of p row ≡ 0 = ap one_if is in
          ap (λ (t : List Counted). row ∷ t) (known_bumped p rows (few_tail row rows few) (omega (arith, all, some, other)))
    ] refl

new_last : (p : List ℕ) (rows : List Counted) → many p rows ≡ 0 → with_path rows p ≡ rows ++ record { path = p; times = 1 } ∷ []
new_last p [] none = refl
new_last p (row ∷ rows) none =
    let all = parts p row rows in
    let other : bytes_eq row.path p ≡ false = cond_false (bytes_eq row.path p) (omega (arith, all, none)) in
    ap (λ b. if b then once_more row ∷ rows else row ∷ with_path rows p) other ∙ ap (λ (t : List Counted). row ∷ t) (new_last p rows (omega (arith, all, none)))

more_moved : (p : List ℕ) (a b : List Counted) → Few a → IsPermutation a b → IsPermutation (with_path a p) (with_path b p)
more_moved p a b few moved = by (many p a) refl
  where
    same : many p b ≡ many p a
    same = sum_by-IsPermutation (is_of p) a b moved

    by : (n : ℕ) → many p a ≡ n → IsPermutation (with_path a p) (with_path b p)
    by zero is =
        subst (λ (t : List Counted). IsPermutation t (with_path b p)) (sym (new_last p a is))
        (subst (λ (t : List Counted). IsPermutation (a ++ record { path = p; times = 1 } ∷ []) t) (sym (new_last p b (same ∙ is))) (IsPermutation-append_left _ a b moved))
    by (suc n) is =
        subst (λ (t : List Counted). IsPermutation t (with_path b p)) (sym (known_bumped p a few (omega (arith, is))))
        (subst (λ (t : List Counted). IsPermutation (map (bumped p) a) t) (sym (known_bumped p b (few_moved a b moved few) (omega (arith, is, same)))) (IsPermutation-map (bumped p) a b moved))

-- ---- routes one after the other

record Sums (all : List Cleaned) (taken : Taken) : Type 0 where
  rows : IsPermutation taken.table.rows (counted (filter_map path_in all))
  asides : (asked : Cause) → cause_count asked taken.counts ≡ min (count_by (is_aside asked) all) (2 ^ 64 - 1)

one_more_route : (all : List Cleaned) (one : Cleaned) (old new : Taken) → Sums all old → take_cleaned old one ≡ Ok new → Sums (all ++ one ∷ []) new
one_more_route all (Path path) old new so_far e = subst (Sums (all ++ Path path ∷ [])) (path_counted old new path e) (record {
  rows =
      let paths : List (List ℕ) = filter_map path_in all in
      let few : Few old.table.rows = few_moved (counted paths) old.table.rows (IsPermutation-sym old.table.rows (counted paths) so_far.rows) (counted_few paths) in
      subst (λ (t : List Counted). IsPermutation (with_path old.table.rows path) t)
      (sym (ap counted (filter_map-append path_in all (Path path ∷ [])) ∙ counted_push paths path)) (more_moved path old.table.rows (counted paths) few so_far.rows);
  asides = λ asked.
      let pushed = sum_by_push (λ c. cond (is_aside asked c) 1 0) all (Path path) in
      so_far.asides asked ∙ ap (λ n. min n (2 ^ 64 - 1)) (omega (arith, pushed));
})
one_more_route all (Aside found) old new so_far e =
    let first : Taken = record old { table = record old.table { rows = counted (filter_map path_in all) } } in
    let counted_too : Taken = record first { counts = counted_one found first.counts } in
    subst (Sums (all ++ Aside found ∷ [])) (same_ok (record old { counts = counted_one found old.counts }) new e) (record {
      rows = subst (λ (ps : List (List ℕ)). IsPermutation old.table.rows (counted ps))
          (sym (filter_map-append path_in all (Aside found ∷ []) ∙ append-nil (filter_map path_in all))) so_far.rows;
      asides = (one_route all (Aside found) first counted_too (record { rows = refl; asides = so_far.asides }) refl).asides;
    })

all_routes : (sets : Sets) (all : List Cleaned) (routes : List Route) (old new : Taken) → Sums all old → Takes sets old routes new → Sums (all ++ cleaned sets routes) new
unfolding take_routes
all_routes sets all [] old new so_far e = subst (Sums (all ++ [])) (same_ok old new e) (subst (λ (t : List Cleaned). Sums t old) (sym (append-nil all)) so_far)
all_routes sets all (route ∷ routes) old new so_far e =
    by (take_route sets old route) refl e (λ further. all_routes sets (all ++ clean_of sets route.width route.attrs ∷ []) routes further new)
  where
    by : (one : Result Taken LimitKind) → take_route sets old route ≡ one → (one >>= λ further. take_routes sets further routes) ≡ Ok new
        → ((further : Taken) → Sums (all ++ clean_of sets route.width route.attrs ∷ []) further → Takes sets further routes new
        → Sums ((all ++ clean_of sets route.width route.attrs ∷ []) ++ cleaned sets routes) new)
        → Sums (all ++ clean_of sets route.width route.attrs ∷ cleaned sets routes) new
    by (Ok further) is e rest =
        subst (λ (t : List Cleaned). Sums t new) (append_assoc all (clean_of sets route.width route.attrs ∷ []) (cleaned sets routes))
        (rest further (one_more_route all (clean_of sets route.width route.attrs) old further so_far is) e)
    by (Err kind) is e rest = absurd cc

pub taken_on : (sets : Sets) (before routes : List Route) (old new : Taken) → IsTakenInAnyOrder sets before old → Takes sets old routes new → IsTakenInAnyOrder sets (before ++ routes) new
taken_on sets before routes old new is takes =
    let all : Sums (cleaned sets before ++ cleaned sets routes) new = all_routes sets (cleaned sets before) routes old new (record { rows = is.rows; asides = is.asides }) takes in
    let whole : Sums (cleaned sets (before ++ routes)) new = subst (λ (t : List Cleaned). Sums t new) (sym (cleaned-append sets before routes)) all in
    record { rows = whole.rows; asides = whole.asides }
