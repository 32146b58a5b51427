use Rattle.std.proofs.Common.{◌∙◌, [], ◌∷◌, List, set, sym, ap, subst}
use Rattle.relationships.specs.declared.label.End.{End}
use Rattle.rel_infer.specs.FirstEnds.{AreTurned}
use Rattle.rel_infer.proofs.Turning.{turned_one}
use Rattle.rel_infer.proofs.earlier_ends.turn.Goals as goal

pub returns-in-Some : goal.returns-in-Some
returns-in-Some c =
    let graph = c.args.graph.now in
    let given = c.args.given.now in
    let old : List End = c.args.ends.now in
    let edge = c.in-Some.edge in
    subst (λ new. AreTurned graph (given ∷ []) old new) (sym (c.set.ensures ∙ ap (λ x. set old edge x) c.end_over.ensures))
    (turned_one graph given edge old c.requires.many c.in-Some.ensures.edge)
