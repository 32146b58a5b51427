use Rattle.std.proofs.Common.{◌≡◌, ◌*◌, length}
use Rattle.asks.specs.Arriving.{AreArrivals}
use Rattle.asks.proofs.arriving.count_arrivals.Given as goal

abbrev pub invariant-loop-batch : goal.invariant-loop-batch
invariant-loop-batch l = record {
  masks : length l.masks ≡ l.parts.count;
  many : length l.counts ≡ l.parts.count;
  counts : AreArrivals l.graph l.parts.of (l.batch * 64) l.counts;
}
