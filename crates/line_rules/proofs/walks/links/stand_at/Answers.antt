use Rattle.std.proofs.Common.{◌≡◌, ◌↔◌, ℕ, ◌-◌, ◌<◌, ◌≤◌, List, length, get_or, arith, IsTrue, eqb-true, eq-eqb, nat_eq}
use Rattle.relationships.specs.Evidence.{StandAt}
use Rattle.relationships.proofs.Places.{StandAt-from_index, index-from_StandAt}
use Rattle.line_rules.proofs.walks.links.stand_at.Goals as goal

-- where the first two ASes stand there, the third decides
third_decides : (path : List ℕ) (at x y z : ℕ) → 2 ≤ at → at < length path → get_or path (at - 2) 0 ≡ x → get_or path (at - 1) 0 ≡ y →
    IsTrue (nat_eq (get_or path at 0) z) ↔ StandAt path at x y z
third_decides path at x y z two within h k = (
  λ t. StandAt-from_index path at x y z two within h k (eqb-true (get_or path at 0) z t),
  λ s. eq-eqb (get_or path at 0) z (index-from_StandAt path at x y z s).4,
)

pub returns : goal.returns
returns c =
    third_decides c.args.path.now c.args.at c.args.x c.args.y c.args.z (omega arith) (omega arith) c.if-path-at.false c.if-path-at-2.false
