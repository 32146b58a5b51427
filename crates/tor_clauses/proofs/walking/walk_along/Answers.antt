use Rattle.std.proofs.Common.{arith}
use Rattle.relationships.specs.Graph.{edges}
use Rattle.tor_clauses.specs.Formulas.{numbered}
use Rattle.tor_clauses.proofs.Leadings.{begun}
use Rattle.tor_clauses.proofs.walking.walk_along.Goals as goal

pub begin_walk-requires : goal.begin_walk-requires
begin_walk-requires c = let there = c.requires.there in let nodes = c.facts.ensures.fits.nodes in omega (arith, there, nodes)

pub returns : goal.returns
returns c = λ to a b way says.
    let first = c.in_ok-begin_walk.ensures in
    c.in_ok-follow_way.ensures.leads c.args.start to way a b
    (begun (numbered c.args.fitted.now.graph c.args.fitted.now.formula.paths) (edges c.args.fitted.now.graph) c.args.start first.0 first.1 c.begin_walk.new.walk first.2 first.3 a b says)
