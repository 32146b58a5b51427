use Rattle.std.proofs.Common.{◌<◌, ◌∙◌, inl, inr, length, get_or, sym, subst, arith}
use Rattle.std.proofs.lemmas.List.{length-set}
use Rattle.std.proofs.lemmas.Option.{slice_get-get_or}
use Rattle.tor_arena.proofs.Gets.{slice_get-set_cases}
use Rattle.asks.specs.Arriving.{IsRaised}
use Rattle.asks.proofs.Ones.{few_ones}
use Rattle.asks.proofs.arriving.add_ones.Goals as goal

pub overflow_add-counts : goal.overflow_add-counts
overflow_add-counts c =
    let counts = c.loop-place.counts in
    let place = c.loop-place.place in
    let many = c.loop-place.invariant.many in
    let test = c.loop-place-test.true in
    let within : place < length counts = omega (arith, many, test) in
    let old = c.loop-place.invariant.left place (get_or counts place 0) (omega arith) (slice_get-get_or counts place 0 within) in
    let small = c.requires.room place (get_or counts place 0) old in
    let ones = few_ones (get_or c.args.masks.now place 0) (c.type_inv.masks place).fits in
    record { fits = omega (arith, small, ones) }

pub loop-place-preserved : goal.loop-place-preserved
loop-place-preserved c =
    let counts = c.loop-place.counts in
    let masks = c.args.masks.now in
    let place = c.loop-place.place in
    let many = c.loop-place.invariant.many in
    let test = c.loop-place-test.true in
    let within : place < length counts = omega (arith, many, test) in
    let old = c.loop-place.invariant.left place (get_or counts place 0) (omega arith) (slice_get-get_or counts place 0 within) in
    record {
      many = length-set counts place _ ∙ many;
      done = λ k n lt at. elim (slice_get-set_cases counts place _ k n at) [
        | inl s ↦ subst (λ k. IsRaised masks c.args.counts.now k n) (sym s.0) (record {
          mask = get_or masks place 0;
          was = get_or counts place 0;
          at_mask = slice_get-get_or masks place 0 test;
          at_old = old;
          small = (c.type_inv.masks place).fits;
          sum = s.1;
        })
        | inr s ↦ (let ne = s.0 in c.loop-place.invariant.done k n (omega (arith, lt, ne)) s.1)
      ];
      left = λ k n le at. elim (slice_get-set_cases counts place _ k n at) [
        | inl s ↦ (let e = s.0 in absurd (omega (arith, le, e)))
        | inr s ↦ c.loop-place.invariant.left k n (omega (arith, le)) s.1
      ];
    }
