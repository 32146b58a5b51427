use Rattle.std.proofs.Common.{◌∙◌, ap, refl}
use Rattle.drawing.specs.Generations.{standing_of, standings_at}
use Rattle.drawing.proofs.tower.begun.Goals as goal

pub returns-in-Ok-clause-begun : goal.returns-in-Ok-clause-begun
returns-in-Ok-clause-begun c edges = record {
  generations = tt;
  nearer = c.in_ok-nearer.ensures;
  topmost_are = λ n. c.in-Ok.ensures n ∙ ap (λ ns. standing_of n (standings_at c.args.most 0 ns)) c.deref.ensures.value;
  rank_is = refl;
  widest_is = refl;
  sizes_are = c.new.ensures.items;
  perches_are = c.new-in-Ok.ensures.items;
  ties_are = c.new-in-Ok-2.ensures.items;
}
