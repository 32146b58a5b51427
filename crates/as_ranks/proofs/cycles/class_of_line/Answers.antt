use Rattle.std.proofs.Common.{sym, subst}
use Rattle.as_ranks.specs.Linking.{IsLineClass}
use Rattle.as_ranks.proofs.LinkLemmas.{inside-class, outside-class}
use Rattle.as_ranks.proofs.Rising.{rising-at, rising-once}
use Rattle.as_ranks.proofs.cycles.class_of_line.Goals as goal

pub returns-then-class-other-clause-is_class : goal.returns-then-class-other-clause-is_class
returns-then-class-other-clause-is_class c =
    let ases = c.args.ases.now in
    let once = rising-once ases (rising-at ases c.requires.rising) in
    inside-class c.args.parts.now ases once c.args.line.now c.in-Transit.is c.node_of-over.result c.node_of-under.result c.class_of-class.result c.class_of-other.result
    c.node_of-over.ensures.at c.node_of-under.ensures.at c.class_of-class.ensures c.class_of-other.ensures c.if-class-other.true

pub returns-else-class-other-clause-is_class : goal.returns-else-class-other-clause-is_class
returns-else-class-other-clause-is_class c =
    let ases = c.args.ases.now in
    let once = rising-once ases (rising-at ases c.requires.rising) in
    subst (λ k. IsLineClass c.args.parts.now ases c.args.line.now k) (sym c.count-else-class-other.ensures)
    (outside-class c.args.parts.now ases once c.args.line.now c.in-Transit.is c.node_of-over.result c.node_of-under.result c.class_of-class.result c.class_of-other.result
    c.node_of-over.ensures.at c.node_of-under.ensures.at c.class_of-class.ensures c.class_of-other.ensures c.if-class-other.false)
