use Rattle.std.proofs.Common.{◌≡◌, ◌≤◌, ℕ, zero, suc, ◌+◌, ◌++◌, List, [], ◌∷◌, length, take, Some, ap, subst, ◌∙◌, arith}
use Rattle.std.proofs.lemmas.List.{length-map, take_all}
use Rattle.std.specs.Prelude.{option_map}
use Rattle.std.specs.List.{slice_get}
use Rattle.tor_io.specs.Contents.{GainsPrefix, PassesOn}
use Rattle.tor_io.proofs.Passing.{at_error, flush_stops, one_and_another, one_and_prefix}
use Rattle.path_table.specs.Rows.{Counted, row_paths, times_of}
use Rattle.tor_output.specs.Listing.{list_line, listing}
use Rattle.tor_output.proofs.TableLines.{one_line_more, lines_stop}
use Rattle.tor_output.proofs.listing.write_list.Goals as goal

times_there : (rows : List Counted) (i t : ℕ) → slice_get (times_of rows) i ≡ Some t → option_map (λ (row : Counted). row.times) (slice_get rows i) ≡ Some t
times_there [] i t e = absurd cc
times_there (row ∷ rows) zero t e = e
times_there (row ∷ rows) (suc i) t e = times_there rows i t e

pub times_at-requires : goal.times_at-requires
times_at-requires g c =
    let times = ap length c.times-times.ensures ∙ length-map c.args.paths.now (λ (row : Counted). row.times) in
    let paths = ap length c.rows-rows.ensures ∙ length-map c.args.paths.now (λ (row : Counted). row.path) in
    omega (arith, times, paths, c.loop-place-test.true, c.len-place-end.ensures.length)

all_passed : (rows : List Counted) (paths : List (List ℕ)) (place count : ℕ) → paths ≡ row_paths rows → count ≡ length paths → count ≤ place → length rows ≤ place
all_passed rows paths place count same counted stop =
    let many = ap length same ∙ length-map rows (λ (row : Counted). row.path) in
    omega (arith, many, counted, stop)

pub returns-in_err-put_line-clause-prefix : goal.returns-in_err-put_line-clause-prefix
returns-in_err-put_line-clause-prefix g c =
    let held = g.O.Sink.held in
    let rows = c.args.paths.now in
    let i = c.loop-place.place in
    let id = c.in-Some.id in
    let same : id ≡ i = c.in-Some.ensures.some in
    let path : slice_get (row_paths rows) i ≡ Some c.row.result.now =
    subst (λ k. slice_get (row_paths rows) k ≡ Some c.row.result.now) same (subst (λ t. slice_get t id ≡ Some c.row.result.now) c.rows-rows.ensures c.row.ensures) in
    let times : option_map (λ (row : Counted). row.times) (slice_get rows i) ≡ Some c.times_at.result =
    times_there rows i c.times_at.result (subst (λ ts. slice_get ts i ≡ Some c.times_at.result) c.times-times.ensures c.times_at.ensures) in
    at_error c.from_residual.result (GainsPrefix (held c.args.out.now) (held c.put_line.new.out) (c.args.buffer.now ++ listing rows))
    (lines_stop rows (i + 1) (held c.args.out.now) (held c.put_line.new.out) c.args.buffer.now
    (subst (λ t. GainsPrefix (held c.args.out.now) (held c.put_line.new.out) (c.args.buffer.now ++ t)) (one_line_more rows i c.row.result.now c.times_at.result path times)
    (one_and_prefix (held c.args.out.now) (held c.loop-place.out) (held c.put_line.new.out) c.args.buffer.now c.loop-place.buffer (listing (take i rows))
    (list_line (record { path = c.row.result.now; times = c.times_at.result })) c.loop-place.invariant.passed c.in_err-put_line.ensures.prefix)))

pub loop-place-preserved : goal.loop-place-preserved
loop-place-preserved g c =
    let held = g.O.Sink.held in
    let rows = c.args.paths.now in
    let i = c.loop-place.place in
    let id = c.in-Some.id in
    let same : id ≡ i = c.in-Some.ensures.some in
    let path : slice_get (row_paths rows) i ≡ Some c.row.result.now =
    subst (λ k. slice_get (row_paths rows) k ≡ Some c.row.result.now) same (subst (λ t. slice_get t id ≡ Some c.row.result.now) c.rows-rows.ensures c.row.ensures) in
    let times : option_map (λ (row : Counted). row.times) (slice_get rows i) ≡ Some c.times_at.result =
    times_there rows i c.times_at.result (subst (λ ts. slice_get ts i ≡ Some c.times_at.result) c.times-times.ensures c.times_at.ensures) in
    record {
      passed = subst (λ t. PassesOn (held c.args.out.now) (held c.put_line.new.out) c.put_line.new.buffer (c.args.buffer.now ++ t)) (one_line_more rows i c.row.result.now c.times_at.result path times)
          (one_and_another (held c.args.out.now) (held c.loop-place.out) (held c.put_line.new.out) c.args.buffer.now c.loop-place.buffer c.put_line.new.buffer (listing (take i rows))
          (list_line (record { path = c.row.result.now; times = c.times_at.result })) c.loop-place.invariant.passed c.in_ok-put_line.ensures.all);
      quiet = c.in_ok-put_line.ensures.cause.quiet ∙ c.loop-place.invariant.quiet;
    }

pub returns-clause-prefix : goal.returns-clause-prefix
returns-clause-prefix g c =
    let held = g.O.Sink.held in
    flush_stops c.flush.result (held c.args.out.now) (held c.loop-place.out) (held c.flush.new.sink) c.loop-place.buffer (c.args.buffer.now ++ listing c.args.paths.now)
    (subst (λ t. PassesOn (held c.args.out.now) (held c.loop-place.out) c.loop-place.buffer (c.args.buffer.now ++ listing t)) (take_all c.loop-place.place c.args.paths.now
    (all_passed c.args.paths.now c.rows-rows.result.now c.loop-place.place c.len-place-end.result c.rows-rows.ensures c.len-place-end.ensures.length c.loop-place-test.false)) c.loop-place.invariant.passed)
    c.flush.ensures.prefix
