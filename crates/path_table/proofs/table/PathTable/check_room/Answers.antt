use Rattle.std.proofs.Common.{◌≡◌, ◌<◌, length, refl, arith}
use Rattle.path_table.specs.declared.table.AddRefused.TheVariants.{TooManyPaths, TooManyNumbers}
use Rattle.path_table.proofs.TableLemmas.{seen_as}
use Rattle.path_table.proofs.AddLemmas.{ok-err, paths-not-numbers, numbers-not-paths}
use Rattle.path_table.proofs.table.PathTable.check_room.Goals as goal

pub returns-then-len-self-clause-paths : goal.returns-then-len-self-clause-paths
returns-then-len-self-clause-paths c =
    let seen = seen_as c.self.inside.max_paths c.self.inside.numbers c.self.inside.paths.rows c.self.inside.counts.items c.args.self.now c.self.invariant c.self.view_is in
    let rows = seen.rows in
    let limit = seen.limit_is in
    let len = c.len.ensures in
    let holds = c.if-len-self.true in
    let full : length c.args.self.now.rows ≡ c.args.self.now.limit = omega (arith, rows, limit, len, holds) in
    ((λ _. (c.requires.new, full)), (λ _. refl))

pub returns-then-len-self-clause-numbers : goal.returns-then-len-self-clause-numbers
returns-then-len-self-clause-numbers c =
    let seen = seen_as c.self.inside.max_paths c.self.inside.numbers c.self.inside.paths.rows c.self.inside.counts.items c.args.self.now c.self.invariant c.self.view_is in
    let rows = seen.rows in
    let limit = seen.limit_is in
    let len = c.len.ensures in
    let holds = c.if-len-self.true in
    let full : length c.args.self.now.rows ≡ c.args.self.now.limit = omega (arith, rows, limit, len, holds) in
    (paths-not-numbers, (λ h. let less = h.1 in absurd (omega (arith, less, full))))

pub returns-then-path-self-clause-paths : goal.returns-then-path-self-clause-paths
returns-then-path-self-clause-paths c =
    let seen = seen_as c.self.inside.max_paths c.self.inside.numbers c.self.inside.paths.rows c.self.inside.counts.items c.args.self.now c.self.invariant c.self.view_is in
    let rows = seen.rows in
    let limit = seen.limit_is in
    let few = seen.few in
    let len = c.len.ensures in
    let fails = c.if-len-self.false in
    let room : length c.args.self.now.rows < c.args.self.now.limit = omega (arith, rows, limit, few, len, fails) in
    (numbers-not-paths, (λ h. let equal = h.1 in absurd (omega (arith, equal, room))))

pub returns-then-path-self-clause-numbers : goal.returns-then-path-self-clause-numbers
returns-then-path-self-clause-numbers c =
    let seen = seen_as c.self.inside.max_paths c.self.inside.numbers c.self.inside.paths.rows c.self.inside.counts.items c.args.self.now c.self.invariant c.self.view_is in
    let rows = seen.rows in
    let limit = seen.limit_is in
    let few = seen.few in
    let len = c.len.ensures in
    let fails = c.if-len-self.false in
    let room : length c.args.self.now.rows < c.args.self.now.limit = omega (arith, rows, limit, few, len, fails) in
    let sum = seen.sum in
    let short = seen.short in
    let holds = c.if-path-self.true in
    ((λ _. (c.requires.new, room, omega (arith, sum, short, holds))), (λ _. refl))

pub returns-clause-paths : goal.returns-clause-paths
returns-clause-paths c =
    let seen = seen_as c.self.inside.max_paths c.self.inside.numbers c.self.inside.paths.rows c.self.inside.counts.items c.args.self.now c.self.invariant c.self.view_is in
    let rows = seen.rows in
    let limit = seen.limit_is in
    let few = seen.few in
    let len = c.len.ensures in
    let fails = c.if-len-self.false in
    let room : length c.args.self.now.rows < c.args.self.now.limit = omega (arith, rows, limit, few, len, fails) in
    (ok-err tt TooManyPaths, (λ h. let equal = h.1 in absurd (omega (arith, equal, room))))

pub returns-clause-numbers : goal.returns-clause-numbers
returns-clause-numbers c =
    let seen = seen_as c.self.inside.max_paths c.self.inside.numbers c.self.inside.paths.rows c.self.inside.counts.items c.args.self.now c.self.invariant c.self.view_is in
    let rows = seen.rows in
    let limit = seen.limit_is in
    let sum = seen.sum in
    let short = seen.short in
    let within = c.if-path-self.false in
    (ok-err tt TooManyNumbers, (λ h. let over = h.2 in absurd (omega (arith, over, sum, short, within))))

pub returns-clause-room : goal.returns-clause-room
returns-clause-room c =
    let seen = seen_as c.self.inside.max_paths c.self.inside.numbers c.self.inside.paths.rows c.self.inside.counts.items c.args.self.now c.self.invariant c.self.view_is in
    let rows = seen.rows in
    let limit = seen.limit_is in
    let few = seen.few in
    let len = c.len.ensures in
    let fails = c.if-len-self.false in
    omega (arith, rows, limit, few, len, fails)

pub returns-clause-short : goal.returns-clause-short
returns-clause-short c =
    let seen = seen_as c.self.inside.max_paths c.self.inside.numbers c.self.inside.paths.rows c.self.inside.counts.items c.args.self.now c.self.invariant c.self.view_is in
    let sum = seen.sum in
    let short = seen.short in
    let within = c.if-path-self.false in
    omega (arith, sum, short, within)
