use Rattle.std.proofs.Common.{◌≡◌, ◌<◌, ◌∙◌, length, get_or, Some, ap, sym, arith}
use Rattle.std.specs.Prelude.{slice_get}
use Rattle.std.specs.Int.{bit_at}
use Rattle.std.proofs.lemmas.Nat.Bits.{shr_and_one}
use Rattle.std.proofs.lemmas.Option.{same_Some, slice_get-get_or}
use Rattle.reach_counts.proofs.Batching.{is-one, one-is}
use Rattle.reach_counts.proofs.lanes.has_bit.Goals as goal

pub returns : goal.returns
returns c = λ k h.
    let masks = c.args.masks.now in
    let class = c.class_of.result in
    let mask = get_or masks class 0 in
    let same : class ≡ k = same_Some class k (sym c.class_of.ensures ∙ h) in
    let below = c.requires.below c.args.node k h in
    let within : class < length masks = omega (arith, below, same) in
    let at : slice_get masks k ≡ Some mask = ap (slice_get masks) (sym same) ∙ slice_get-get_or masks class 0 within in
    let bit = shr_and_one mask c.args.lane in (
      λ t. (mask, at, sym bit ∙ is-one _ t),
      λ b. (let is : b.0 ≡ mask = same_Some b.0 mask (sym b.1 ∙ at) in one-is _ (bit ∙ ap (λ m. bit_at m c.args.lane) (sym is) ∙ b.2)),
    )
