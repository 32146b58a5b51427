use Rattle.std.proofs.Common.{rules, ◌∙◌, length, sym, ap, subst}
use Rattle.tor_digraph.specs.NodeSets.{Nodes}
use Rattle.order_trials.specs.Showing.{AreShown}
use Rattle.forced_edges.specs.Findings.{AllSettled}
use Rattle.forced_edges.proofs.marking.marks_by.Goals as goal

pub mark_all-requires : goal.mark_all-requires
mark_all-requires c =
    let posed = c.args.problem.now in
    let nodes = c.into_parts-nodes.result.0.items in
    let same = sym c.into_parts-nodes.ensures.nodes in
    record {
      against = c.requires.against;
      shown = ap (λ (v : Nodes). v.count) c.into_parts-nodes.ensures.nodes ∙ c.requires.shown.showing.count;
      walks = subst (AreShown posed nodes (length nodes)) (sym c.into_parts-nodes.ensures.whys)
          (subst (λ (v : Nodes). AreShown posed v.items (length v.items) c.args.shown.whys) same c.requires.shown.showing.walks);
      settled = subst (λ (v : Nodes). AllSettled posed v.items) same c.requires.settled;
      none = search rules;
      unprobed = search rules;
    }

pub returns-in-Ok : goal.returns-in-Ok
returns-in-Ok c = c.in-Ok.ensures

pub returns-in-Err : goal.returns-in-Err
returns-in-Err c = tt
