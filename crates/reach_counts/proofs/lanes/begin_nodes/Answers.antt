use Rattle.std.proofs.Common.{◌≡◌, ◌+◌, ◌<◌, ◌∙◌, length, get_or, ap, sym, subst, arith}
use Rattle.std.specs.Prelude.{IfSome}
use Rattle.std.proofs.lemmas.List.{length-set}
use Rattle.std.proofs.lemmas.Option.{slice_get-get_or}
use Rattle.reach_counts.specs.Condensing.{IsOfClass}
use Rattle.reach_counts.specs.Masks.{AreSeeds}
use Rattle.reach_counts.proofs.MaskLemmas.{seeds-next, seeds-past}
use Rattle.reach_counts.proofs.lanes.begin_nodes.Goals as goal
use Rattle.reach_counts.proofs.lanes.begin_nodes.Goals.{then-place-nodes, else-place-nodes}

pub loop-lane-preserved : goal.loop-lane-preserved
loop-lane-preserved c =
    let of = c.args.parts.now.of in
    let masks = c.loop-lane.masks in
    let lane = c.loop-lane.lane in
    elim c.if-place-nodes.branch [
      | then-place-nodes w ↦
          let place : w.unwrap.result ≡ c.args.base + lane = subst (λ o. IfSome o (λ i. i ≡ c.args.base + lane)) w.unwrap.ensures w.from_place.ensures.some in
          let class = w.class_of-class.result in
          let is : IsOfClass of (c.args.base + lane) class = subst (λ z. IsOfClass of z class) place w.class_of-class.ensures in
          let below = c.requires.below (c.args.base + lane) class is in
          let many = c.loop-lane.invariant.many in
          let within : class < length masks = omega (arith, below, many) in
          record {
            many = ap (λ l. length l) w.masks-is ∙ length-set masks class _ ∙ many;
            seeds = seeds-next of c.args.base lane c.loop-lane-test.true class (get_or masks class 0) masks c.if-place-nodes.masks is (slice_get-get_or masks class 0 within) w.masks-is
                c.loop-lane.invariant.seeds;
          }
      | else-place-nodes w ↦
          let test = w.if-place-nodes.false in
          let nodes = c.requires.nodes in
          record {
            many = ap (λ l. length l) w.masks-is ∙ c.loop-lane.invariant.many;
            seeds = subst (λ l. AreSeeds of c.args.base (lane + 1) l) (sym w.masks-is)
                (seeds-past of c.args.base lane c.loop-lane-test.true masks (omega (arith, test, nodes)) c.loop-lane.invariant.seeds);
          }
    ]

pub returns-clause-seeds : goal.returns-clause-seeds
returns-clause-seeds c =
    let test = c.loop-lane-test.false in
    let end = c.loop-lane.auto.lane-end in
    let e : c.loop-lane.lane ≡ 64 = omega (arith, test, end) in
    subst (λ n. AreSeeds c.args.parts.now.of c.args.base n c.loop-lane.masks) e c.loop-lane.invariant.seeds
