use Rattle.std.proofs.Common.{◌≡◌, ◌++◌, map}
use Rattle.std.specs.Prelude.{string_bytes}
use Rattle.std.specs.Vec.Iter.{into_iter_items}
use Rattle.tor_words.proofs.words.words_of.Given as goal

-- the words so far, and those that are still to come
abbrev pub invariant-loop-arg : goal.invariant-loop-arg
invariant-loop-arg l = l.words ++ map string_bytes (into_iter_items l.arg-iterator) ≡ map string_bytes (into_iter_items l.initial.arg-iterator)
