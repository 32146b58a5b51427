use Rattle.std.proofs.Common.{◌≡◌, ◌+◌, ◌∙◌, Global, Vec, get_or, sym, ap, subst}
use Rattle.std.specs.Prelude.{IfSome}
use Rattle.std.proofs.lemmas.Option.{slice_get-get_or}
use Rattle.reach_counts.specs.Condensing.{IsOfClass}
use Rattle.as_ranks.specs.declared.cones.Member.{Member}
use Rattle.as_ranks.specs.Lots.{AreGathered}
use Rattle.as_ranks.proofs.LotLemmas.{gathered-hit, gathered-miss}
use Rattle.as_ranks.proofs.Rising.{rising-at}
use Rattle.as_ranks.proofs.cones.add_members.Goals as goal
use Rattle.as_ranks.proofs.cones.add_members.Goals.{then-bits-ne0, else-bits-ne0}

pub loop-place-preserved : goal.loop-place-preserved
loop-place-preserved c =
    let ases = c.args.ases.now in
    let of = c.args.parts.now.of in
    let masks = c.args.masks.now in
    let place = c.loop-place.place in
    let class = c.class_of.result in
    let inv = c.loop-place.invariant in
    let same : c.unwrap.result ≡ place = subst (λ o. IfSome o (λ i. i ≡ place)) c.unwrap.ensures c.from_place.ensures.some in
    let is : IsOfClass of place class = subst (λ z. IsOfClass of z class) same c.class_of.ensures in
    let mask = slice_get-get_or masks class 0 (c.requires.below place class is) in
    let at = slice_get-get_or ases place 0 c.loop-place-test.true in
    elim c.if-bits-ne0.branch [
      | then-bits-ne0 w ↦ record {
        gathered = subst (λ ms. AreGathered ases of masks (place + 1) ms) (sym (ap (λ (v : Vec Member Global). v.items) w.members-is))
            (gathered-hit ases of masks place class (get_or masks class 0) (get_or ases place 0) c.loop-place.members.items is mask at inv.gathered (rising-at ases c.requires.rising)
            w.push_reserved.new.self.items w.push_reserved.ensures.items);
        capacity = ap (λ (v : Vec Member Global). v.cap) w.members-is ∙ w.push_reserved.ensures.capacity ∙ inv.capacity;
      }
      | else-bits-ne0 w ↦ record {
        gathered = subst (λ ms. AreGathered ases of masks (place + 1) ms) (sym (ap (λ (v : Vec Member Global). v.items) w.members-is))
            (gathered-miss ases of masks place class (get_or masks class 0) (get_or ases place 0) c.loop-place.members.items is mask at inv.gathered w.if-bits-ne0.false);
        capacity = ap (λ (v : Vec Member Global). v.cap) w.members-is ∙ inv.capacity;
      }
    ]
