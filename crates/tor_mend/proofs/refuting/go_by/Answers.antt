use Rattle.std.proofs.Common.{◌≡◌, ◌∙◌, ℕ, Some, sym, subst}
use Rattle.std.specs.Prelude.{slice_get, IfSome, IfNone}
use Rattle.std.proofs.lemmas.Option.{slice_get_within}
use Rattle.std.proofs.lemmas.Result.{on_ok_weaker}
use Rattle.tor_clauses.proofs.Ways.{some_same}
use Rattle.tor_mend.proofs.refuting.go_by.Goals as goal

pub returns : goal.returns
returns c =
    let node = c.get-node.result in
    let here = c.get-node.ensures.node in
    let found : slice_get c.args.known.now.places.items node ≡ Some (Some c.in-Some.at) = subst (λ o. IfSome o (λ part. slice_get c.args.known.now.places.items node ≡ Some (Some part))) c.in-Some.is
    c.part_of.ensures.part in
    on_ok_weaker c.go_home.result
    (λ home from first start begun. home node from first here start (c.in_ok-go_along_part-in-Some.ensures node found start (c.in_ok-go_out-in-Some.ensures from node first here start begun)))
    c.go_home.ensures

pub get-node-requires : goal.get-node-requires
get-node-requires c = let stop = c.requires.stop in slice_get_within c.args.trail.now.nodes.items c.args.place stop.0 stop.1

pub unreachable-requires : goal.unreachable-requires
unreachable-requires c =
    let known = c.args.known.now.places.items in
    let stop = c.requires.stop in
    let same : c.get-node.result ≡ stop.0 = some_same (sym c.get-node.ensures.node ∙ stop.1) in
    subst (λ o. IfNone o ((part : ℕ) → slice_get known c.get-node.result ≡ Some (Some part) → ⊥)) c.in-None.is c.part_of.ensures.none
    stop.2.0 (subst (λ x. slice_get known x ≡ Some (Some stop.2.0)) (sym same) stop.2.1)

pub go_out-requires-clause-there : goal.go_out-requires-clause-there
go_out-requires-clause-there c = let stop = c.requires.stop in slice_get_within c.args.trail.now.nodes.items c.args.place stop.0 stop.1

pub go_along_part-requires-clause-there : goal.go_along_part-requires-clause-there
go_along_part-requires-clause-there c =
    let known = c.args.known.now.places.items in
    let node = c.get-node.result in
    (node, subst (λ o. IfSome o (λ part. slice_get known node ≡ Some (Some part))) c.in-Some.is c.part_of.ensures.part)

pub go_home-requires-clause-there : goal.go_home-requires-clause-there
go_home-requires-clause-there c = let stop = c.requires.stop in slice_get_within c.args.trail.now.nodes.items c.args.place stop.0 stop.1
