use Rattle.std.proofs.Common.{◌≡◌, ◌∙◌, ◌<◌, ap, sym, arith, length, get_or, slice_get, Some}
use Rattle.std.proofs.lemmas.List.{get_or_default}
use Rattle.result_text.specs.PathLines.{line_with, fate_with}
use Rattle.result_text.proofs.PathLineLemmas.{length-lines_by, line-at}
use Rattle.result_text.proofs.path_lines.PathLines.get.Goals as goal

pub index-requires : goal.index-requires
index-requires c =
    let f = c.self.inside in
    let many : length c.args.self.now ≡ length f.paths = ap length (sym c.self.view_is) ∙ length-lines_by f.paths f.times.items f.fates c.self.invariant.0 c.self.invariant.1 in
    let same = c.self.invariant.0 in
    let there = c.requires in
    let place = c.place.ensures.place in
    omega (arith, many, same, there, place)

pub row-requires : goal.row-requires
row-requires c =
    let f = c.self.inside in
    let many : length c.args.self.now ≡ length f.paths = ap length (sym c.self.view_is) ∙ length-lines_by f.paths f.times.items f.fates c.self.invariant.0 c.self.invariant.1 in
    let there = c.requires in
    omega (arith, many, there)

pub walk-requires : goal.walk-requires
walk-requires c =
    let f = c.self.inside in
    let many : length c.args.self.now ≡ length f.paths = ap length (sym c.self.view_is) ∙ length-lines_by f.paths f.times.items f.fates c.self.invariant.0 c.self.invariant.1 in
    let same = c.self.invariant.1 in
    let there = c.requires in
    omega (arith, many, same, there)

pub returns : goal.returns
returns c =
    let f = c.self.inside in
    let many : length c.args.self.now ≡ length f.paths = ap length (sym c.self.view_is) ∙ length-lines_by f.paths f.times.items f.fates c.self.invariant.0 c.self.invariant.1 in
    let same = c.self.invariant.0 in
    let there = c.requires in
    let place = c.place.ensures.place in
    let within : c.place.result < length f.times.items = omega (arith, many, same, there, place) in
    let times : get_or f.times.items c.args.id 0 ≡ c.index.result.now =
    ap (λ k. get_or f.times.items k 0) (sym place) ∙ sym (c.index.ensures ∙ get_or_default f.times.items c.place.result c.index.result.now 0 within) in
    ap (λ ls. slice_get ls c.args.id) (sym c.self.view_is)
    ∙ line-at f.paths f.times.items f.fates c.args.id c.row.result.now c.walk.result same c.row.ensures c.walk.ensures
    ∙ ap (λ n. Some (line_with n c.row.result.now (fate_with c.walk.result))) times
