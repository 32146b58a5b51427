-- What a selector keeps true of its clauses and its orientation.
use Rattle.std.specs.Prelude.{◌≡◌, [], length}
use Rattle.tor_clauses.specs.Formulas.{Formula, IsModel}
use Rattle.tor_mend.specs.declared.mending.State.{State}
use Rattle.tor_mend.specs.Mends.{IsState}
use Rattle.tor_mend.specs.Ways.{AreKnown}

-- between two offers the orientation meets all arcs, the ways that are known go along them, and there is nothing to take back
pub record IsKeeping (f : Formula) (s : State) : Type 0 where
  pub state : IsState f.net.nodes s
  pub model : IsModel f s.ends
  pub known : AreKnown f.net.arcs (length f.net.arcs) s.known
  pub none : s.flips ≡ []
