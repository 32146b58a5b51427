use Rattle.tor_output.proofs.Resumings.{begun_is, few_where_ok}
use Rattle.result_rules.specs.declared.rule.Rule.TheVariants.{PathsCleaned, PathsDistinct}
use Rattle.tor_output.proofs.resuming.begun.Goals as goal

pub returns-in-Ok-clause-begun : goal.returns-in-Ok-clause-begun
returns-in-Ok-clause-begun c = record {
  left = c.in-Ok.ensures.rest;
  room = few_where_ok _ _ c.args.settings.now.max_paths _ c.in-Ok.ensures.too_many;
  begun = begun_is c.args.earlier c.args.settings.now.max_paths c.in-Ok.up.table c.same_counts-counts.result c.new.result c.in-Ok.ensures.limit c.in-Ok.ensures.rows c.same_counts-counts.ensures c.new.ensures;
}

pub take_up-requires-clause-cleaned : goal.take_up-requires-clause-cleaned
take_up-requires-clause-cleaned c = c.requires.accepted PathsCleaned

pub take_up-requires-clause-distinct : goal.take_up-requires-clause-distinct
take_up-requires-clause-distinct c = c.requires.accepted PathsDistinct
