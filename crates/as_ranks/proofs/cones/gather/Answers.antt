use Rattle.std.proofs.Common.{◌≡◌, ◌++◌, ◌∙◌, length, take, drop, ap, subst, arith}
use Rattle.std.proofs.lemmas.List.{take_all, take-append-le}
use Rattle.as_ranks.specs.Lots.{AreGathered}
use Rattle.as_ranks.proofs.LotLemmas.{lot-cone}
use Rattle.as_ranks.proofs.Rising.{rising-at}
use Rattle.as_ranks.proofs.cones.gather.Goals as goal

pub returns : goal.returns
returns c =
    let net = c.args.net.now in
    let ases = net.net.ases.items in
    let of = net.parts.of in
    let old = c.args.lot.now.masks in
    let masks = c.spread_nodes.new.masks in
    let members = c.add_members.new.members.items in
    let many = c.spread_nodes.ensures.many in
    let was = c.requires.room.masks in
    let lent = old.ok.0 in
    let whole : length masks ≡ old.len = omega (arith, many, was, lent) in
    let back : take old.len (masks ++ drop (length masks) old.items) ≡ masks =
    take-append-le old.len masks (drop (length masks) old.items) (omega (arith, whole)) ∙ take_all old.len masks (omega (arith, whole)) in
    let gathered : AreGathered ases of masks (length ases) members =
    subst (λ l. AreGathered l of masks (length l) members) c.deref.ensures.value
    (subst (λ m. AreGathered c.deref.result.now of m (length c.deref.result.now) members) (c.deref-2.ensures.value ∙ back) c.add_members.ensures.gathered) in
    let kept = c.add_members.ensures.capacity in
    let cleared = c.clear.ensures.capacity in
    let room = c.requires.room.members in
    record {
      lot = record {
        room = record { masks = ap length back ∙ many; members = omega (arith, kept, cleared, room); row = c.requires.room.row };
        few = gathered.few;
        cones = λ lane short there.
            lot-cone ases net.net.graph (rising-at ases c.requires.net.rising) net.parts c.args.base lane masks members c.requires.net.aligned c.requires.net.are_parts.many short there
            c.spread_nodes.ensures.bits gathered;
      };
    }
