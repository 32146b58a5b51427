use Rattle.std.proofs.Common.{Some, sym, ◌∙◌, ap, subst}
use Rattle.std.proofs.lemmas.Option.{slice_get_within}
use Rattle.tor_digraph.specs.Back.{IsBack}
use Rattle.tor_digraph.proofs.Ways.{back-none, back-push, falls-deeper, found-root}
use Rattle.tor_digraph.proofs.way.go_back.Goals as goal

pub loop-tail-preserved : goal.loop-tail-preserved
loop-tail-preserved g c =
    let at = c.get.ensures ∙ ap Some c.in-Along.is in
    let fall = c.requires.falls c.loop-tail.root c.in-Along.tail c.in-Along.arc c.in-Along.depth at in
    record {
      found = (fall.0, fall.1, fall.2);
      back = λ arcs t. subst (λ z. IsBack g.A.Index.place_of arcs c.in-Along.tail c.args.node z) (sym c.in-Ok.ensures.ok)
          (back-push g.A.Index.place_of arcs c.loop-tail.root c.in-Along.tail c.args.node c.in-Along.arc c.loop-tail.steps
          (c.loop-tail.invariant.back arcs t) (t c.loop-tail.root c.in-Along.tail c.in-Along.arc c.in-Along.depth at).0);
    }

pub loop-tail-init : goal.loop-tail-init
loop-tail-init g c = record {
  found = c.requires.found;
  back = λ arcs t. back-none g.A.Index.place_of arcs c.args.node c.new-steps.result c.new-steps.ensures;
}

pub get-requires : goal.get-requires
get-requires g c = let found = c.loop-tail.invariant.found in slice_get_within c.args.found.now.items (g.N.Index.place_of c.loop-tail.root) found.0 found.1

pub returns-clause-back : goal.returns-clause-back
returns-clause-back g c = c.loop-tail.invariant.back

pub returns-clause-root : goal.returns-clause-root
returns-clause-root g c = found-root g.N.Index.place_of c.args.found.now.items c.loop-tail.root c.get.result.now c.get.ensures c.loop-tail.invariant.found c.in_default.not-Along

pub loop-tail-smaller : goal.loop-tail-smaller
loop-tail-smaller g c =
    let at = c.get.ensures ∙ ap Some c.in-Along.is in
    falls-deeper g.N.Index.place_of c.args.found.now.items c.loop-tail.root c.in-Along.tail c.in-Along.arc c.in-Along.depth at
    (c.requires.falls c.loop-tail.root c.in-Along.tail c.in-Along.arc c.in-Along.depth at)
