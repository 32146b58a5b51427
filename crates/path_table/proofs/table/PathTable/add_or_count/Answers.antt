use Rattle.std.proofs.Common.{rules, ◌≡◌, ◌∙◌, ◌+◌, ◌<◌, ◌≤◌, ◌^◌, ◌∷◌, ◌++◌, [], Some, None, length, refl, ap, ap₂, sym, subst, arith}
use Rattle.path_table.specs.Rows.{Table, numbers_in}
use Rattle.path_table.specs.Inside.{counted_by, IsTable}
use Rattle.path_table.specs.Table.{place_of}
use Rattle.path_table.specs.declared.table.AddRefused.TheVariants.{TooManyPaths, TooManyNumbers}
use Rattle.path_table.proofs.TableLemmas.{found-at, found-within, counted_by-push, absent-at, IsTable-push, seen_as}
use Rattle.path_table.proofs.AddLemmas.{no_some, some-none, ok-err, not-paths, not-numbers, err-moved, ok-of}
use Rattle.path_table.proofs.table.PathTable.add_or_count.Goals as goal

pub count-requires : goal.count-requires
count-requires c =
    let paths = c.self.inside.paths.rows in
    let times = c.self.inside.counts.items in
    let path = c.args.path.now in
    let place : place_of c.args.self.now.rows path ≡ Some c.in-Some.id =
    sym (found-at paths times path (Some c.in-Some.id) c.self.invariant.same c.self.invariant.once c.in-Some.ensures.found tt ∙ ap (λ (t : Table). place_of t.rows path) c.self.view_is) in
    record { there = found-within c.args.self.now.rows path c.in-Some.id place }

pub check_room-requires : goal.check_room-requires
check_room-requires c =
    let paths = c.self.inside.paths.rows in
    let times = c.self.inside.counts.items in
    let path = c.args.path.now in
    let inside : place_of (counted_by paths times) path ≡ None =
    sym (found-at paths times path None c.self.invariant.same c.self.invariant.once tt c.in-None.ensures.absent) in
    let none : place_of c.args.self.now.rows path ≡ None = sym (ap (λ (t : Table). place_of t.rows path) c.self.view_is) ∙ inside in
    record { new = none }

pub returns-in-Err : goal.returns-in-Err
returns-in-Err c =
    let paths = c.self.inside.paths.rows in
    let times = c.self.inside.counts.items in
    let path = c.args.path.now in
    let inside : place_of (counted_by paths times) path ≡ None =
    sym (found-at paths times path None c.self.invariant.same c.self.invariant.once tt c.in-None.ensures.absent) in
    let none : place_of c.args.self.now.rows path ≡ None = sym (ap (λ (t : Table). place_of t.rows path) c.self.view_is) ∙ inside in
    record {
      counted = no_some (place_of c.args.self.now.rows path) none;
      added = tt;
      answer = tt;
      known = no_some (place_of c.args.self.now.rows path) none;
      paths = (
        (λ e. c.in-Err.ensures.paths.0 (err-moved c.in-Err.refused TooManyPaths e)),
        (λ h. err-moved c.in-Err.refused TooManyPaths (c.in-Err.ensures.paths.1 h)),
      );
      numbers = (
        (λ e. c.in-Err.ensures.numbers.0 (err-moved c.in-Err.refused TooManyNumbers e)),
        (λ h. err-moved c.in-Err.refused TooManyNumbers (c.in-Err.ensures.numbers.1 h)),
      );
      limit = refl;
      unchanged = refl;
    }

pub returns-then-is_err : goal.returns-then-is_err
returns-then-is_err c =
    let paths = c.self.inside.paths.rows in
    let times = c.self.inside.counts.items in
    let path = c.args.path.now in
    let inside : place_of (counted_by paths times) path ≡ None =
    sym (found-at paths times path None c.self.invariant.same c.self.invariant.once tt c.in-None.ensures.absent) in
    let none : place_of c.args.self.now.rows path ≡ None = sym (ap (λ (t : Table). place_of t.rows path) c.self.view_is) ∙ inside in
    let room : length c.args.self.now.rows < c.args.self.now.limit = ok-of c.check_room.result c.check_room.ensures.room c.in_default.not-Err in
    let short : numbers_in c.args.self.now.rows + length path ≤ 2 ^ 26 = ok-of c.check_room.result c.check_room.ensures.short c.in_default.not-Err in
    record {
      counted = no_some (place_of c.args.self.now.rows path) none;
      added = tt;
      answer = tt;
      known = no_some (place_of c.args.self.now.rows path) none;
      paths = (not-paths, (λ h. let full = h.1 in absurd (omega (arith, full, room))));
      numbers = (not-numbers, (λ h. let over = h.2 in absurd (omega (arith, over, short))));
      limit = ap (λ (t : Table). t.limit) c.self.view_is;
      unchanged = ap (counted_by paths) c.reserve.ensures.items ∙ ap (λ (t : Table). t.rows) c.self.view_is;
    }

pub returns-in_default-push : goal.returns-in_default-push
returns-in_default-push c =
    let paths = c.self.inside.paths.rows in
    let times = c.self.inside.counts.items in
    let path = c.args.path.now in
    let inside : place_of (counted_by paths times) path ≡ None =
    sym (found-at paths times path None c.self.invariant.same c.self.invariant.once tt c.in-None.ensures.absent) in
    let none : place_of c.args.self.now.rows path ≡ None = sym (ap (λ (t : Table). place_of t.rows path) c.self.view_is) ∙ inside in
    let room : length c.args.self.now.rows < c.args.self.now.limit = ok-of c.check_room.result c.check_room.ensures.room c.in_default.not-Err in
    let short : numbers_in c.args.self.now.rows + length path ≤ 2 ^ 26 = ok-of c.check_room.result c.check_room.ensures.short c.in_default.not-Err in
    record {
      counted = no_some (place_of c.args.self.now.rows path) none;
      added = tt;
      answer = tt;
      known = no_some (place_of c.args.self.now.rows path) none;
      paths = (not-paths, (λ h. let full = h.1 in absurd (omega (arith, full, room))));
      numbers = (not-numbers, (λ h. let over = h.2 in absurd (omega (arith, over, short))));
      limit = ap (λ (t : Table). t.limit) c.self.view_is;
      unchanged = ap₂ counted_by c.in_default-push.ensures.err c.reserve.ensures.items ∙ ap (λ (t : Table). t.rows) c.self.view_is;
    }

pub invariant_of-self-in-None : goal.invariant_of-self-in-None
invariant_of-self-in-None c =
    let paths = c.self.inside.paths.rows in
    let times = c.self.inside.counts.items in
    let path = c.args.path.now in
    let inside : place_of (counted_by paths times) path ≡ None =
    sym (found-at paths times path None c.self.invariant.same c.self.invariant.once tt c.in-None.ensures.absent) in
    let none : place_of c.args.self.now.rows path ≡ None = sym (ap (λ (t : Table). place_of t.rows path) c.self.view_is) ∙ inside in
    let room : length c.args.self.now.rows < c.args.self.now.limit = ok-of c.check_room.result c.check_room.ensures.room c.in_default.not-Err in
    let short : numbers_in c.args.self.now.rows + length path ≤ 2 ^ 26 = ok-of c.check_room.result c.check_room.ensures.short c.in_default.not-Err in
    let seen = seen_as c.self.inside.max_paths c.self.inside.numbers paths times c.args.self.now c.self.invariant c.self.view_is in
    let many = seen.rows in
    let limit = seen.limit_is in
    let sum = seen.sum in
    let same = c.self.invariant.same in
    let new_paths : c.push.new.self.rows ≡ paths ++ path ∷ [] = c.in-Ok.ensures.ok in
    let new_times : c.push_reserved.new.self.items ≡ times ++ c.args.times ∷ [] = c.push_reserved.ensures.items ∙ ap (λ t. t ++ c.args.times ∷ []) c.reserve.ensures.items in
    let below : length paths < c.self.inside.max_paths = omega (arith, same, many, limit, room) in
    let fits : c.self.inside.numbers + length path ≤ 2 ^ 26 = omega (arith, sum, short) in
    subst (λ p. IsTable c.self.inside.max_paths (c.self.inside.numbers + length path) p c.push_reserved.new.self.items) (sym new_paths)
    (subst (IsTable c.self.inside.max_paths (c.self.inside.numbers + length path) (paths ++ path ∷ [])) (sym new_times)
    (IsTable-push c.self.inside.max_paths c.self.inside.numbers paths times path c.args.times c.self.invariant below fits c.requires.clean c.requires.seen (absent-at paths times path same inside)))

pub returns-in-Some-clause-counted : goal.returns-in-Some-clause-counted
returns-in-Some-clause-counted c =
    let paths = c.self.inside.paths.rows in
    let times = c.self.inside.counts.items in
    let path = c.args.path.now in
    let place : place_of c.args.self.now.rows path ≡ Some c.in-Some.id =
    sym (found-at paths times path (Some c.in-Some.id) c.self.invariant.same c.self.invariant.once c.in-Some.ensures.found tt ∙ ap (λ (t : Table). place_of t.rows path) c.self.view_is) in
    (λ some. c.count.ensures.counted path place)

pub returns-in-Some-clause-added : goal.returns-in-Some-clause-added
returns-in-Some-clause-added c =
    let paths = c.self.inside.paths.rows in
    let times = c.self.inside.counts.items in
    let path = c.args.path.now in
    let place : place_of c.args.self.now.rows path ≡ Some c.in-Some.id =
    sym (found-at paths times path (Some c.in-Some.id) c.self.invariant.same c.self.invariant.once c.in-Some.ensures.found tt ∙ ap (λ (t : Table). place_of t.rows path) c.self.view_is) in
    (some-none (place_of c.args.self.now.rows path) c.in-Some.id place)

pub returns-in-Some-clause-answer : goal.returns-in-Some-clause-answer
returns-in-Some-clause-answer c =
    let paths = c.self.inside.paths.rows in
    let times = c.self.inside.counts.items in
    let path = c.args.path.now in
    let place : place_of c.args.self.now.rows path ≡ Some c.in-Some.id =
    sym (found-at paths times path (Some c.in-Some.id) c.self.invariant.same c.self.invariant.once c.in-Some.ensures.found tt ∙ ap (λ (t : Table). place_of t.rows path) c.self.view_is) in
    place

pub returns-in-Some-clause-paths : goal.returns-in-Some-clause-paths
returns-in-Some-clause-paths c =
    let paths = c.self.inside.paths.rows in
    let times = c.self.inside.counts.items in
    let path = c.args.path.now in
    let place : place_of c.args.self.now.rows path ≡ Some c.in-Some.id =
    sym (found-at paths times path (Some c.in-Some.id) c.self.invariant.same c.self.invariant.once c.in-Some.ensures.found tt ∙ ap (λ (t : Table). place_of t.rows path) c.self.view_is) in
    (ok-err _ TooManyPaths, (λ h. some-none (place_of c.args.self.now.rows path) c.in-Some.id place h.0))

pub returns-in-Some-clause-numbers : goal.returns-in-Some-clause-numbers
returns-in-Some-clause-numbers c =
    let paths = c.self.inside.paths.rows in
    let times = c.self.inside.counts.items in
    let path = c.args.path.now in
    let place : place_of c.args.self.now.rows path ≡ Some c.in-Some.id =
    sym (found-at paths times path (Some c.in-Some.id) c.self.invariant.same c.self.invariant.once c.in-Some.ensures.found tt ∙ ap (λ (t : Table). place_of t.rows path) c.self.view_is) in
    (ok-err _ TooManyNumbers, (λ h. some-none (place_of c.args.self.now.rows path) c.in-Some.id place h.0))

pub returns-in-Ok : goal.returns-in-Ok
returns-in-Ok c =
    let paths = c.self.inside.paths.rows in
    let times = c.self.inside.counts.items in
    let path = c.args.path.now in
    let inside : place_of (counted_by paths times) path ≡ None =
    sym (found-at paths times path None c.self.invariant.same c.self.invariant.once tt c.in-None.ensures.absent) in
    let none : place_of c.args.self.now.rows path ≡ None = sym (ap (λ (t : Table). place_of t.rows path) c.self.view_is) ∙ inside in
    let room : length c.args.self.now.rows < c.args.self.now.limit = ok-of c.check_room.result c.check_room.ensures.room c.in_default.not-Err in
    let short : numbers_in c.args.self.now.rows + length path ≤ 2 ^ 26 = ok-of c.check_room.result c.check_room.ensures.short c.in_default.not-Err in
    let seen = seen_as c.self.inside.max_paths c.self.inside.numbers paths times c.args.self.now c.self.invariant c.self.view_is in
    let many = seen.rows in
    let limit = seen.limit_is in
    let sum = seen.sum in
    let same = c.self.invariant.same in
    let new_paths : c.push.new.self.rows ≡ paths ++ path ∷ [] = c.in-Ok.ensures.ok in
    let new_times : c.push_reserved.new.self.items ≡ times ++ c.args.times ∷ [] = c.push_reserved.ensures.items ∙ ap (λ t. t ++ c.args.times ∷ []) c.reserve.ensures.items in
    let placed = c.in-Ok.ensures.index in
    record {
      counted = no_some (place_of c.args.self.now.rows path) none;
      added = (λ (new : place_of c.args.self.now.rows path ≡ None).
          ap₂ counted_by new_paths new_times ∙ counted_by-push paths times path c.args.times same ∙ ap (λ (t : Table). t.rows ++ record { path = path; times = c.args.times } ∷ []) c.self.view_is);
      answer = (none, omega (arith, many, same, placed));
      known = (λ some. refl);
      paths = (ok-err _ TooManyPaths, (λ h. let full = h.1 in absurd (omega (arith, full, room))));
      numbers = (ok-err _ TooManyNumbers, (λ h. let over = h.2 in absurd (omega (arith, over, short))));
      limit = ap (λ (t : Table). t.limit) c.self.view_is;
      unchanged = tt;
    }

pub push-requires : goal.push-requires
push-requires c =
    let room : length c.args.self.now.rows < c.args.self.now.limit = ok-of c.check_room.result c.check_room.ensures.room c.in_default.not-Err in
    let seen = seen_as c.self.inside.max_paths c.self.inside.numbers c.self.inside.paths.rows c.self.inside.counts.items c.args.self.now c.self.invariant c.self.view_is in
    let rows = seen.rows in
    let same = c.self.invariant.same in
    let limit = seen.limit_is in
    let bound = c.self.invariant.bound in
    record { room = omega (arith, room, rows, same, limit, bound); hash = search rules }
