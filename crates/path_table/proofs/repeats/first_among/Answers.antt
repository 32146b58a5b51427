use Rattle.std.proofs.Common.{◌≡◌, ◌∙◌, ◌+◌, ◌<◌, ◌++◌, ◌∷◌, [], length, slice_index, inl, inr, ap, sym, subst, arith, length-append}
use Rattle.std.proofs.lemmas.Bool.{both_ways, cases_lt}
use Rattle.std.proofs.lemmas.List.{length-set}
use Rattle.path_table.specs.Repeats.{Repeats, bucket, EndsIn, AreLinked}
use Rattle.path_table.proofs.RepeatLemmas.{linked-more, newest-more}
use Rattle.path_table.proofs.repeats.first_among.Goals as goal

pub loop-place-preserved : goal.loop-place-preserved
loop-place-preserved c =
    let rows = c.args.rows.now in
    let hashes = c.args.hashes.now in
    let many = length c.args.newest.now in
    let place = c.loop-place.place in
    let newest = c.loop-place.newest in
    let older = c.loop-place.older.items in
    let key = c.bucket_of-key.result in
    let start = slice_index newest key in
    let inv = c.loop-place.invariant in
    let key_is : key ≡ bucket many hashes place = c.bucket_of-key.ensures.bucket in
    let below : key < many = c.bucket_of-key.ensures.inside in
    let long = inv.buckets in
    let ends : EndsIn many hashes (bucket many hashes place) start place = subst (λ k. EndsIn many hashes k start place) key_is (inv.newest key below) in
    let older_is : c.push_reserved.new.self.items ≡ older ++ start ∷ [] = c.push_reserved.ensures.items in
    let passed = inv.passed in
    record {
      buckets = length-set newest key (place + 1) ∙ long;
      room = omega (arith, inv.room, c.push_reserved.ensures.capacity);
      passed = ap length older_is ∙ length-append older (start ∷ []) ∙ ap (λ n. n + 1) passed;
      linked = subst (λ os. AreLinked many hashes os (place + 1)) (sym older_is) (linked-more many hashes older place start passed inv.linked ends);
      newest = newest-more many hashes newest place key long below key_is inv.newest;
      before = λ j less repeats. elim (cases_lt j place) [
        | inl earlier ↦ inv.before j earlier repeats
        | inr late ↦
            let same : j ≡ place = omega (arith, less, late) in
            both_ways c.stands_before.result c.if-stands_before.false (c.stands_before.ensures.1 (subst (Repeats rows) same repeats))
      ];
    }

pub returns : goal.returns
returns c =
    let end = c.loop-place-test.false in
    let count = c.len-place-end.ensures.length in
    λ j lt. c.loop-place.invariant.before j (omega (arith, end, count, lt))
