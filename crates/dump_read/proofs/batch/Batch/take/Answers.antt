use Rattle.std.proofs.Common.{◌≡◌, ◌∙◌, ◌<◌, Some, None, Ok, length, slice_get, refl, ap, sym, subst, arith}
use Rattle.std.proofs.lemmas.Option.{slice_get_read}
use Rattle.std.proofs.lemmas.Result.{err_from_is_err_and}
use Rattle.dump_read.specs.Refusals.{IsLimit}
use Rattle.path_clean.specs.Clean.{judge_merged}
use Rattle.path_clean.specs.declared.cleaned.Cleaned.TheVariants.{Path, Aside}
use Rattle.path_table.proofs.TableLemmas.{found-within}
use Rattle.path_table.proofs.LookupLemmas.{at-found}
use Rattle.path_clean.proofs.Judged as judged
use Rattle.dump_read.specs.Batches.{StandsAt}
use Rattle.dump_read.specs.Taking.{take_cleaned}
use Rattle.dump_read.proofs.BatchLemmas.{aside-at, merged-at, one-route, path-at, within-causes}
use Rattle.dump_read.proofs.batch.Batch.take.Goals as goal

pub index-requires : goal.index-requires
index-requires c =
    let causes = c.self.inside.causes.items in
    let paths = c.self.inside.paths in
    let same = c.self.invariant.same in
    let within : c.args.place < length causes = within-causes causes paths c.args.self.now c.self.inside.lookup c.args.place same c.self.view_is c.requires.there in
    omega (arith, within)

pub returns-in-Some-clause-taken : goal.returns-in-Some-clause-taken
returns-in-Some-clause-taken c =
    let causes = c.self.inside.causes.items in
    let paths = c.self.inside.paths in
    let same = c.self.invariant.same in
    let within : c.args.place < length causes = within-causes causes paths c.args.self.now c.self.inside.lookup c.args.place same c.self.view_is c.requires.there in
    let some = slice_get_read causes (length causes) c.args.place c.index.result.now refl within c.index.ensures ∙ ap (λ o. Some o) c.in-Some.is in
    let stands = ap (λ b. slice_get b.routes c.args.place) (sym c.self.view_is) ∙ aside-at causes paths c.args.place c.in-Some.cause same some in
    λ route is.
    subst (λ r. take_cleaned c.args.taken.now (judge_merged r) ≡ Ok (record { table = c.args.taken.now.table; counts = c.add.new.self; files = c.args.taken.now.files }))
    (one-route c.args.self.now.routes c.args.place (Aside c.in-Some.cause) route stands is)
    (ap (λ counts. Ok (record { table = c.args.taken.now.table; counts = counts; files = c.args.taken.now.files })) (sym c.add.ensures))

pub take_again-requires : goal.take_again-requires
take_again-requires c =
    let causes = c.self.inside.causes.items in
    let paths = c.self.inside.paths in
    let same = c.self.invariant.same in
    let within : c.args.place < length causes = within-causes causes paths c.args.self.now c.self.inside.lookup c.args.place same c.self.view_is c.requires.there in
    let none = slice_get_read causes (length causes) c.args.place c.index.result.now refl within c.index.ensures ∙ ap (λ o. Some o) c.in-None.is in
    let path = path-at causes paths c.args.place same none in
    let stands = ap (λ b. slice_get b.routes c.args.place) (sym c.self.view_is) ∙ path.1 in
    let place = ap (λ b. slice_get b.places c.args.place) (sym c.self.view_is) ∙ at-found c.self.inside.lookup c.args.place c.in-Some-place.id c.in-Some-place.ensures in
    let found : StandsAt c.args.taken.now.table.rows c.in-Some-place.id path.0 = c.requires.found c.args.place c.in-Some-place.id path.0 place stands in
    record { there = found-within c.args.taken.now.table.rows path.0 c.in-Some-place.id found.place }

pub hashed-requires : goal.hashed-requires
hashed-requires c =
    let causes = c.self.inside.causes.items in
    let paths = c.self.inside.paths in
    let same = c.self.invariant.same in
    let within : c.args.place < length causes = within-causes causes paths c.args.self.now c.self.inside.lookup c.args.place same c.self.view_is c.requires.there in
    omega (arith, within, same)

pub returns-in_err-take_merged-in-None-place-clause-limit : goal.returns-in_err-take_merged-in-None-place-clause-limit
returns-in_err-take_merged-in-None-place-clause-limit c =
    let causes = c.self.inside.causes.items in
    let paths = c.self.inside.paths in
    let same = c.self.invariant.same in
    let within : c.args.place < length causes = within-causes causes paths c.args.self.now c.self.inside.lookup c.args.place same c.self.view_is c.requires.there in
    let none = slice_get_read causes (length causes) c.args.place c.index.result.now refl within c.index.ensures ∙ ap (λ o. Some o) c.in-None.is in
    let stands = ap (λ b. slice_get b.routes c.args.place) (sym c.self.view_is) ∙ merged-at causes paths c.args.place None c.hashed.result none c.hashed.ensures in
    let p = err_from_is_err_and c.from_residual.result c.from_residual.ensures.1 in
    rw (p.1, p.2) (λ route is. subst (λ r. IsLimit (take_cleaned c.args.taken.now (judge_merged r)) c.in_err-take_merged-in-None-place.field-0.0)
    (one-route c.args.self.now.routes c.args.place (Path c.hashed.result) route stands is) c.in_err-take_merged-in-None-place.ensures.limit)

pub returns-in-Some-place-clause-taken : goal.returns-in-Some-place-clause-taken
returns-in-Some-place-clause-taken c =
    let causes = c.self.inside.causes.items in
    let paths = c.self.inside.paths in
    let same = c.self.invariant.same in
    let within : c.args.place < length causes = within-causes causes paths c.args.self.now c.self.inside.lookup c.args.place same c.self.view_is c.requires.there in
    let none = slice_get_read causes (length causes) c.args.place c.index.result.now refl within c.index.ensures ∙ ap (λ o. Some o) c.in-None.is in
    let path = path-at causes paths c.args.place same none in
    let stands = ap (λ b. slice_get b.routes c.args.place) (sym c.self.view_is) ∙ path.1 in
    let place = ap (λ b. slice_get b.places c.args.place) (sym c.self.view_is) ∙ at-found c.self.inside.lookup c.args.place c.in-Some-place.id c.in-Some-place.ensures in
    let found : StandsAt c.args.taken.now.table.rows c.in-Some-place.id path.0 = c.requires.found c.args.place c.in-Some-place.id path.0 place stands in
    λ route is. subst (λ r. take_cleaned c.args.taken.now (judge_merged r) ≡ Ok c.take_again.new.taken)
    (one-route c.args.self.now.routes c.args.place (Path path.0) route stands is)
    (ap (take_cleaned c.args.taken.now) (judged.judged-stays path.0 found.clean) ∙ c.take_again.ensures path.0 found.place)

pub returns-in_ok-take_merged-in-None-place-clause-taken : goal.returns-in_ok-take_merged-in-None-place-clause-taken
returns-in_ok-take_merged-in-None-place-clause-taken c =
    let causes = c.self.inside.causes.items in
    let paths = c.self.inside.paths in
    let same = c.self.invariant.same in
    let within : c.args.place < length causes = within-causes causes paths c.args.self.now c.self.inside.lookup c.args.place same c.self.view_is c.requires.there in
    let none = slice_get_read causes (length causes) c.args.place c.index.result.now refl within c.index.ensures ∙ ap (λ o. Some o) c.in-None.is in
    let stands = ap (λ b. slice_get b.routes c.args.place) (sym c.self.view_is) ∙ merged-at causes paths c.args.place None c.hashed.result none c.hashed.ensures in
    λ route is. subst (λ r. take_cleaned c.args.taken.now (judge_merged r) ≡ Ok c.take_merged.new.taken) (one-route c.args.self.now.routes c.args.place (Path c.hashed.result) route stands is)
    c.in_ok-take_merged-in-None-place.ensures.taken
