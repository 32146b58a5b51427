use Rattle.std.proofs.Common.{◌∙◌}
use Rattle.telling.proofs.DownLemmas.{downs_none}
use Rattle.telling.proofs.downs.downs_of.Goals as goal

pub add_lines-requires-clause-downs : goal.add_lines-requires-clause-downs
add_lines-requires-clause-downs c =
    let downs = c.in_ok-downs.downs in
    let none = c.in_ok-downs.ensures in
    downs_none c.args.file.now c.args.all.now.edges downs.graph downs.links (none.nodes ∙ c.len.ensures.length) none.arcs none.links
