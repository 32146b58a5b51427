use Rattle.std.proofs.Common.{◌-◌, length}
use Rattle.path_select.specs.Behind.{places_from}
use Rattle.rel_infer.proofs.Past.{kept_all, keeps_all, lost_rest}
use Rattle.rel_infer.proofs.resuming.select_past.Goals as goal

pub returns-clause-fits : goal.returns-clause-fits
returns-clause-fits c = c.in_ok-select_rest.ensures.fits

pub returns-clause-same : goal.returns-clause-same
returns-clause-same c = c.in_ok-select_rest.ensures.same

pub returns-clause-kept : goal.returns-clause-kept
returns-clause-kept c =
    kept_all c.args.graph.now c.args.count c.args.selection.now.fates c.select_rest.new.fates (places_from c.args.count (length c.args.graph.now - c.args.count))
    c.args.selection.now.selector c.requires.begun c.requires.count c.in_ok-select_rest.ensures.same c.requires.kept
    c.select_rest.new.selector c.in_ok-select_rest.ensures.kept

pub returns-clause-keeps : goal.returns-clause-keeps
returns-clause-keeps c =
    keeps_all c.args.graph.now c.args.count c.args.selection.now.fates c.select_rest.new.fates (places_from c.args.count (length c.args.graph.now - c.args.count))
    c.args.selection.now.selector c.requires.begun c.requires.count c.in_ok-select_rest.ensures.same c.requires.kept
    c.requires.keeps c.in_ok-select_rest.ensures.keeps

pub returns-clause-lost : goal.returns-clause-lost
returns-clause-lost c =
    lost_rest c.args.graph.now c.args.count c.args.selection.now.fates c.select_rest.new.fates (places_from c.args.count (length c.args.graph.now - c.args.count))
    c.args.selection.now.selector c.requires.begun c.requires.count c.in_ok-select_rest.ensures.same c.requires.kept
    c.in_ok-select_rest.ensures.lost
