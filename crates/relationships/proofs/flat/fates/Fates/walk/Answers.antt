use Rattle.std.proofs.Common.{◌≡◌, ◌≢◌, ◌∙◌, ◌<◌, ap, sym, arith, rules, length, get_or, option_map, slice_get}
use Rattle.std.proofs.lemmas.List.{get_or_default}
use Rattle.relationships.specs.Fates.{walk_of}
use Rattle.relationships.specs.Flat.{places_by}
use Rattle.relationships.proofs.FlatLemmas.{length-fates_by, length-places_by, no_walk_there, walk_there, place_there}
use Rattle.relationships.proofs.flat.fates.Fates.walk.Goals as goal

pub walk_at-requires : goal.walk_at-requires
walk_at-requires c =
    let f = c.self.inside in
    let many : length c.args.self.now ≡ length f.numbers.items =
    ap length (sym c.self.view_is) ∙ length-fates_by f.walks (places_by f.numbers.items) ∙ length-places_by f.numbers.items in
    let there = c.requires in
    let lt : c.args.id < length f.numbers.items = omega (arith, many, there) in
    let place = c.place.ensures.place in
    let within : c.place.result < length f.numbers.items = omega (arith, many, there, place) in
    let is : c.index.result.now ≡ get_or f.numbers.items c.args.id 0 =
    c.index.ensures ∙ get_or_default f.numbers.items c.place.result c.index.result.now 0 within ∙ ap (λ k. get_or f.numbers.items k 0) place in
    let some : c.index.result.now ≢ 0 = search rules in
    place_there f.walks f.numbers.items c.args.id lt c.index.result.now is c.self.invariant some

pub returns-in-0 : goal.returns-in-0
returns-in-0 c =
    let f = c.self.inside in
    let many : length c.args.self.now ≡ length f.numbers.items =
    ap length (sym c.self.view_is) ∙ length-fates_by f.walks (places_by f.numbers.items) ∙ length-places_by f.numbers.items in
    let there = c.requires in
    let lt : c.args.id < length f.numbers.items = omega (arith, many, there) in
    let place = c.place.ensures.place in
    let within : c.place.result < length f.numbers.items = omega (arith, many, there, place) in
    let is : c.index.result.now ≡ get_or f.numbers.items c.args.id 0 =
    c.index.ensures ∙ get_or_default f.numbers.items c.place.result c.index.result.now 0 within ∙ ap (λ k. get_or f.numbers.items k 0) place in
    ap (λ fs. option_map walk_of (slice_get fs c.args.id)) (sym c.self.view_is) ∙ no_walk_there f.walks f.numbers.items c.args.id lt c.index.result.now is c.in-0.is

pub returns-in_default : goal.returns-in_default
returns-in_default c =
    let f = c.self.inside in
    let many : length c.args.self.now ≡ length f.numbers.items =
    ap length (sym c.self.view_is) ∙ length-fates_by f.walks (places_by f.numbers.items) ∙ length-places_by f.numbers.items in
    let there = c.requires in
    let lt : c.args.id < length f.numbers.items = omega (arith, many, there) in
    let place = c.place.ensures.place in
    let within : c.place.result < length f.numbers.items = omega (arith, many, there, place) in
    let is : c.index.result.now ≡ get_or f.numbers.items c.args.id 0 =
    c.index.ensures ∙ get_or_default f.numbers.items c.place.result c.index.result.now 0 within ∙ ap (λ k. get_or f.numbers.items k 0) place in
    let some : c.index.result.now ≢ 0 = search rules in
    ap (λ fs. option_map walk_of (slice_get fs c.args.id)) (sym c.self.view_is)
    ∙ walk_there f.walks f.numbers.items c.args.id lt c.index.result.now is c.walk_at.result some c.walk_at.ensures
