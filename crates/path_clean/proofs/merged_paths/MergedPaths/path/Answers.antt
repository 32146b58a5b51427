use Rattle.std.proofs.Common.{◌≡◌, ◌∙◌, ◌<◌, take, length, slice_index, Some, ap, sym, arith}
use Rattle.std.proofs.lemmas.List.{get_or_default}
use Rattle.tor_arena.specs.RowLists.{last_end}
use Rattle.path_clean.proofs.MergedLemmas.{Rises-at, length-paths, path-at, same-part}
use Rattle.std.specs.Prelude.{slice_get}
use Rattle.path_clean.proofs.merged_paths.MergedPaths.path.Goals as goal

pub start_of-requires : goal.start_of-requires
start_of-requires c =
    let ends = c.self.inside.ends.items in
    let n : length c.args.self.now ≡ length ends = ap length (sym c.self.view_is) ∙ length-paths c.self.inside.numbers.items 0 ends in
    let same = ap length c.as_slice-2.ensures.value in
    let there = c.requires in
    omega (arith, n, same, there)

pub index-requires : goal.index-requires
index-requires c =
    let ends = c.self.inside.ends.items in
    let n : length c.args.self.now ≡ length ends = ap length (sym c.self.view_is) ∙ length-paths c.self.inside.numbers.items 0 ends in
    let there = c.requires in
    omega (arith, n, there)

pub part-requires-clause-first : goal.part-requires-clause-first
part-requires-clause-first c =
    let numbers = c.self.inside.numbers.items in
    let ends = c.self.inside.ends.items in
    let place = c.args.place in
    let n : length c.args.self.now ≡ length ends = ap length (sym c.self.view_is) ∙ length-paths numbers 0 ends in
    let there = c.requires in
    let lt : place < length ends = omega (arith, n, there) in
    let start : c.start_of.result ≡ last_end 0 (take place ends) = c.start_of.ensures ∙ ap (λ es. last_end 0 (take place es)) c.as_slice-2.ensures.value in
    let end : c.index.result.now ≡ slice_index ends place = c.index.ensures ∙ get_or_default ends place c.index.result.now 0 lt in
    let low = (Rises-at (length numbers) 0 ends place c.self.invariant.0 lt).0 in
    omega (arith, start, end, low)

pub part-requires-clause-last : goal.part-requires-clause-last
part-requires-clause-last c =
    let numbers = c.self.inside.numbers.items in
    let ends = c.self.inside.ends.items in
    let place = c.args.place in
    let n : length c.args.self.now ≡ length ends = ap length (sym c.self.view_is) ∙ length-paths numbers 0 ends in
    let there = c.requires in
    let lt : place < length ends = omega (arith, n, there) in
    let end : c.index.result.now ≡ slice_index ends place = c.index.ensures ∙ get_or_default ends place c.index.result.now 0 lt in
    let high = (Rises-at (length numbers) 0 ends place c.self.invariant.0 lt).1 in
    let same = ap length c.as_slice.ensures.value in
    omega (arith, end, high, same)

pub returns : goal.returns
returns c =
    let numbers = c.self.inside.numbers.items in
    let ends = c.self.inside.ends.items in
    let place = c.args.place in
    let n : length c.args.self.now ≡ length ends = ap length (sym c.self.view_is) ∙ length-paths numbers 0 ends in
    let there = c.requires in
    let lt : place < length ends = omega (arith, n, there) in
    let start : c.start_of.result ≡ last_end 0 (take place ends) = c.start_of.ensures ∙ ap (λ es. last_end 0 (take place es)) c.as_slice-2.ensures.value in
    let end : c.index.result.now ≡ slice_index ends place = c.index.ensures ∙ get_or_default ends place c.index.result.now 0 lt in
    ap (λ rows. slice_get rows place) (sym c.self.view_is) ∙ path-at numbers 0 ends place lt
    ∙ ap (λ r. Some r) (sym (c.part.ensures
    ∙ same-part c.as_slice.result.now numbers c.start_of.result c.index.result.now (last_end 0 (take place ends)) (slice_index ends place) c.as_slice.ensures.value start end))
