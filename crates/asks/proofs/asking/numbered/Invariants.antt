use Rattle.std.proofs.Common.{◌≡◌, ◌≤◌, length, map, take}
use Rattle.asks.specs.declared.ask.Ask.{Ask}
use Rattle.asks.proofs.Askings.{AreCountedBy}
use Rattle.asks.proofs.asking.numbered.Given as goal

abbrev pub invariant-loop-place : goal.invariant-loop-place
invariant-loop-place l = record {
  edges : map (λ (a : Ask). a.edge) l.asks.items ≡ take l.place l.places;
  many : length l.asks.items ≡ l.place;
  numbers : AreCountedBy l.parts.of l.counts l.places l.asks.items;
  room : length l.places ≤ l.asks.cap;
}
