use Rattle.std.proofs.Common.{◌≡◌, ◌+◌, ◌++◌, ◌∙◌, All, List, ℕ, ap, ap₂, subst, sym}
use Rattle.std.proofs.lemmas.List.{append_assoc}
use Rattle.path_order.specs.Entries.{AreToCome, IsOf, paths_left, places_of, rows_at, times_at, times_left}
use Rattle.path_order.proofs.NotedLemmas.{sorted_of}
use Rattle.path_order.proofs.SizeLemmas.{one_taken}
use Rattle.path_order.proofs.ordering.add_size.Goals as goal

pub add_paths-requires : goal.add_paths-requires
add_paths-requires c = record {
  of =
      subst (λ es. All (IsOf c.args.rows.now c.args.size) es) (sym c.taken.ensures)
      (sorted_of c.args.rows.now c.args.size c.args.remaining.now.left.items c.take.new.self.taken.items c.in_ok-take.ensures.same);
}

pub returns-clause-left : goal.returns-clause-left
returns-clause-left c =
    let rows = c.args.rows.now in
    let times = c.args.times.now in
    let places = c.args.remaining.now.left.items in
    let is = one_taken rows times c.args.size places c.take.new.self.taken.items c.requires.left c.in_ok-take.ensures.same c.in_ok-take.ensures.sorted in
    subst (λ (left : List ℕ). AreToCome rows times (c.args.size + 1) left) (sym c.in_ok-take.ensures.left) is.left

pub returns-clause-paths : goal.returns-clause-paths
returns-clause-paths c =
    let rows = c.args.rows.now in
    let times = c.args.times.now in
    let places = c.args.remaining.now.left.items in
    let es = c.take.new.self.taken.items in
    let paths = c.args.paths.now in
    let is = one_taken rows times c.args.size places es c.requires.left c.in_ok-take.ensures.same c.in_ok-take.ensures.sorted in
    let added : c.add_paths.new.paths ≡ paths ++ rows_at rows (places_of es) =
    c.in_ok-add_paths.ensures ∙ ap (λ xs. paths ++ rows_at rows (places_of xs)) c.taken.ensures in
    ap₂ (λ (a : List (List ℕ)) (left : List ℕ). a ++ paths_left rows times left) added c.in_ok-take.ensures.left
    ∙ append_assoc paths (rows_at rows (places_of es)) _
    ∙ ap (λ (ps : List (List ℕ)). paths ++ ps) is.paths_are

pub returns-clause-times : goal.returns-clause-times
returns-clause-times c =
    let rows = c.args.rows.now in
    let times = c.args.times.now in
    let places = c.args.remaining.now.left.items in
    let es = c.take.new.self.taken.items in
    let ordered = c.args.ordered.now in
    let is = one_taken rows times c.args.size places es c.requires.left c.in_ok-take.ensures.same c.in_ok-take.ensures.sorted in
    let added : c.add_times.new.ordered ≡ ordered ++ times_at times (places_of es) =
    c.in_ok-add_times.ensures ∙ ap (λ xs. ordered ++ times_at times (places_of xs)) c.taken-2.ensures in
    ap₂ (λ (a left : List ℕ). a ++ times_left rows times left) added c.in_ok-take.ensures.left
    ∙ append_assoc ordered (times_at times (places_of es)) _
    ∙ ap (λ (ns : List ℕ). ordered ++ ns) is.times_are
