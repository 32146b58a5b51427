use Rattle.std.proofs.Common.{◌≡◌, length, sym, ap, ◌∙◌, subst, length-set}
use Rattle.tor_mend.specs.Mends.{flipped_back, AreInside}
use Rattle.tor_mend.proofs.Flips.{flipped_back-push, inside_less}
use Rattle.tor_mend.proofs.flipping.flip_back.Goals as goal

pub loop-flip-preserved : goal.loop-flip-preserved
loop-flip-preserved c =
    let flip = c.in-Some.flip in
    let same : length c.set.new.self ≡ length c.loop-flip.ends = ap length c.set.ensures ∙ length-set c.loop-flip.ends flip.edge flip.was in
    record {
      flips = subst (λ n. AreInside n c.pop.new.self) (sym same) (inside_less (length c.loop-flip.ends) c.loop-flip.flips c.pop.new.self flip c.in-Some.ensures c.loop-flip.invariant.flips);
      back = ap (λ l. flipped_back l c.pop.new.self) c.set.ensures ∙ sym (flipped_back-push c.loop-flip.ends c.pop.new.self flip) ∙
          ap (flipped_back c.loop-flip.ends) (sym c.in-Some.ensures) ∙ c.loop-flip.invariant.back;
    }
