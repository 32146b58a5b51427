use Rattle.std.proofs.Common.{subst}
use Rattle.drawing.specs.Generations.{IsGeneration}
use Rattle.drawing.proofs.Choosing.{choice_sorted}
use Rattle.drawing.proofs.generation.generation_above.Goals as goal

pub returns-in-Ok : goal.returns-in-Ok
returns-in-Ok c near has =
    let x = c.in-Ok.ensures near has in
    let chosen = c.choose-done.new.chosen.items in
    let sorted = subst (λ xs. IsGeneration near xs chosen) c.deref.ensures.value x.0 in (
      subst (λ xs. IsGeneration near xs chosen) c.in_ok-found.ensures.all
          (choice_sorted near c.in_ok-found.found.items c.sort_neighbours.new.neighbours.items chosen c.sort_neighbours.ensures.same sorted),
      x.1,
    )
