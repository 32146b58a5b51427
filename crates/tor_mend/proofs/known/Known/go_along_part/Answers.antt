use Rattle.std.proofs.Common.{◌≡◌, ◌∙◌, ℕ, List, Some, length, refl, sym, ap, subst}
use Rattle.std.specs.Prelude.{slice_get, slice_index_or}
use Rattle.std.proofs.lemmas.Option.{slice_get_read, get_or_from_slice_get, slice_get_within}
use Rattle.std.proofs.lemmas.Result.{on_ok_weaker}
use Rattle.tor_digraph.specs.declared.way.Way.{Way}
use Rattle.tor_clauses.specs.Literals.{opposite_node}
use Rattle.tor_mend.specs.declared.known.Part.{Part}
use Rattle.tor_mend.specs.Ways.{IsPart, IsPartOf}
use Rattle.tor_clauses.proofs.Ways.{some_same}
use Rattle.tor_mend.proofs.Knowing.{part_at, way_of_part}
use Rattle.tor_mend.proofs.known.Known.go_along_part.Goals as goal

pub returns : goal.returns
returns c =
    on_ok_weaker c.go_along.result
    (λ on node found.
    let arcs = c.args.fitted.now.formula.net.arcs in
    let known = c.requires.known.1 node c.args.place found in
    let parts : List Part = c.as_slice.result.now in
    let part : Part = slice_index_or parts c.args.place (record { way = 0; skip = 0 }) in
    let part_there : slice_get parts c.args.place ≡ Some known.0 = ap (λ (l : List Part). slice_get l c.args.place) c.as_slice.ensures ∙ known.1 in
    let part_same : known.0 ≡ part = sym (get_or_from_slice_get parts c.args.place known.0 (record { way = 0; skip = 0 }) part_there) in
    let of = subst (λ p. IsPartOf arcs c.requires.known.0 c.args.self.now.ways p node) part_same known.2 in
    let ways : List (Way ℕ ℕ) = c.as_slice-2.result.now in
    let along : Way ℕ ℕ = c.index-as_slice-part.result in
    let there : slice_get ways part.way ≡ Some of.way = ap (λ (l : List (Way ℕ ℕ)). slice_get l part.way) c.as_slice-2.ensures ∙ of.there in
    let below = slice_get_within ways part.way of.way there in
    let same : of.way ≡ along = some_same (sym there ∙ slice_get_read ways (length ways) part.way along refl below c.index-as_slice-part.is) in
    let leads : IsPart arcs along part.skip node = subst (λ w. IsPart arcs w part.skip node) same of.leads in
    on leads.from leads.to node (opposite_node node) leads.led leads.begins leads.ends)
    c.go_along.ensures

pub bounds-as_slice-place : goal.bounds-as_slice-place
bounds-as_slice-place c =
    (part_at c.args.fitted.now.formula.net.arcs c.args.self.now c.args.place c.as_slice.result.now c.as_slice.ensures c.requires.there c.requires.known).0

pub bounds-as_slice-part : goal.bounds-as_slice-part
bounds-as_slice-part c =
    let arcs = c.args.fitted.now.formula.net.arcs in
    let of = (part_at arcs c.args.self.now c.args.place c.as_slice.result.now c.as_slice.ensures c.requires.there c.requires.known).1 in
    (way_of_part arcs of.0 of.1 _ c.args.self.now.ways c.as_slice-2.result.now c.as_slice-2.ensures of.2).0

pub go_along-requires-clause-led : goal.go_along-requires-clause-led
go_along-requires-clause-led c =
    let arcs = c.args.fitted.now.formula.net.arcs in
    let of = (part_at arcs c.args.self.now c.args.place c.as_slice.result.now c.as_slice.ensures c.requires.there c.requires.known).1 in
    let part : Part = slice_index_or c.as_slice.result.now c.args.place (record { way = 0; skip = 0 }) in
    let way = way_of_part arcs of.0 of.1 part c.args.self.now.ways c.as_slice-2.result.now c.as_slice-2.ensures of.2 in
    let leads = way.1 c.index-as_slice-part.result c.index-as_slice-part.is in
    (leads.from, leads.to, leads.led)

pub go_along-requires-clause-fits : goal.go_along-requires-clause-fits
go_along-requires-clause-fits c =
    let arcs = c.args.fitted.now.formula.net.arcs in
    let of = (part_at arcs c.args.self.now c.args.place c.as_slice.result.now c.as_slice.ensures c.requires.there c.requires.known).1 in
    let part : Part = slice_index_or c.as_slice.result.now c.args.place (record { way = 0; skip = 0 }) in
    let way = way_of_part arcs of.0 of.1 part c.args.self.now.ways c.as_slice-2.result.now c.as_slice-2.ensures of.2 in
    (way.1 c.index-as_slice-part.result c.index-as_slice-part.is).fits
