use Rattle.std.proofs.Common.{refl, subst}
use Rattle.std.proofs.lemmas.Result.{on_ok_weaker}
use Rattle.drawing.specs.declared.tower.Tower.{Tower}
use Rattle.drawing.specs.Generations.{all_numbers}
use Rattle.drawing.specs.Tower.{IsStacked}
use Rattle.drawing.proofs.Towering.{raised}
use Rattle.drawing.proofs.tower.Tower.raise.Goals as goal

pub returns-clause-raised : goal.returns-clause-raised
returns-clause-raised c =
    let edges = c.args.edges.now in
    let most = c.args.most in
    let g = c.in_ok-generation.generation.items in
    let old = c.args.self.now in
    let new = c.stack-done.new.self in
    let middle : Tower = record {
      nearer = c.generation_above.new.nearer;
      topmost = old.topmost;
      rank = old.rank;
      widest = old.widest;
      sizes = old.sizes;
      perches = old.perches;
      ties = old.ties;
    } in
    on_ok_weaker c.stack-done.result
    (λ stacked first near gs tower.
    let x = c.in_ok-generation.ensures (all_numbers near gs) tower.nearer in (
      g,
      raised edges most first near gs g old middle new tower x.0 x.1 refl refl refl refl refl refl
          (subst (λ h. IsStacked edges most h middle new) c.deref.ensures.value stacked),
    ))
    c.stack-done.ensures.stacked
