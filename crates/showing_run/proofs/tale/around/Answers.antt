use Rattle.std.proofs.Common.{refl, sym, subst}
use Rattle.showing_run.specs.Views.{HasEdge}
use Rattle.neighbour_text.specs.NeighbourText.{IsNeighbourhood}
use Rattle.showing_run.proofs.OnPaths.{edge_on_path, path_has_edge}
use Rattle.showing_run.proofs.tale.around.Goals as goal

pub returns-then-not-has_edge : goal.returns-then-not-has_edge
returns-then-not-has_edge c there =
    let file = c.args.file.now in
    let a = c.args.asked in
    let has = path_has_edge file c.requires.accepted a there in
    c.if-not-has_edge.ensures.none refl (subst (λ edges. HasEdge edges a) (sym c.as_slice-edges.ensures) has)

pub returns : goal.returns
returns c =
    let file = c.args.file.now in
    let a = c.args.asked in
    let has = subst (λ edges. HasEdge edges a) c.as_slice-edges.ensures (c.if-not-has_edge.ensures.some refl) in (
      edge_on_path file c.requires.accepted a has,
      (c.in_ok-neighbours.neighbours, subst (λ edges. IsNeighbourhood a edges c.in_ok-neighbours.neighbours) c.as_slice-edges.ensures c.in_ok-neighbours.ensures, refl),
    )
