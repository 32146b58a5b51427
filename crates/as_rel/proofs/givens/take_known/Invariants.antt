use Rattle.std.proofs.Common.{◌≡◌, ◌++◌, take}
use Rattle.as_rel.specs.Givens.{givens_in, peer_pairs}
use Rattle.as_rel.proofs.givens.take_known.Given as goal

abbrev pub invariant-loop-line : goal.invariant-loop-line
invariant-loop-line l =
    (l.known.givens ≡ l.fn.known.givens ++ givens_in (take l.line-index l.lines)) × (l.known.peers ≡ l.fn.known.peers ++ peer_pairs (take l.line-index l.lines))
