use Rattle.std.proofs.Common.{◌∙◌}
use Rattle.std.proofs.lemmas.Result.{IfOk-from_err}
use Rattle.forced_edges.proofs.probing.choose_probes.Goals as goal

pub new-requires : goal.new-requires
new-requires c = c.node_count.ensures.below

pub returns-in_err-covered : goal.returns-in_err-covered
returns-in_err-covered c = IfOk-from_err c.from_residual.result _ c.from_residual.ensures.0

pub probe_all-done-requires : goal.probe_all-done-requires
probe_all-done-requires c = record {
  against = c.requires.against;
  shown = c.requires.shown;
  count = c.in_ok-covered.ensures.count ∙ c.node_count.ensures.count;
  uncovered = c.in_ok-covered.ensures.none;
  walks = c.requires.walks;
  settled = c.requires.settled;
  many = c.requires.many;
  marked = c.requires.marked;
  unprobed = c.requires.unprobed;
}

pub returns : goal.returns
returns c = c.probe_all-done.ensures
