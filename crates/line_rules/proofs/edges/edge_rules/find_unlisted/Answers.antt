use Rattle.std.proofs.Common.{rules, sym, ◌∙◌}
use Rattle.result_rules.specs.declared.rule.Rule.{Rule}
use Rattle.result_rules.specs.Rules.{IsMet}
use Rattle.line_rules.proofs.Listing.{listed}
use Rattle.line_rules.proofs.edges.edge_rules.find_unlisted.Goals as goal

pub returns-clause-listed : goal.returns-clause-listed
returns-clause-listed c =
    let met : IsMet c.args.file.now Rule.EdgesListed = search rules in
    listed c.args.file.now met ∙ sym c.requires
