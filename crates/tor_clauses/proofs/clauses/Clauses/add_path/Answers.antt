use Rattle.tor_clauses.proofs.Adding.{grown}
use Rattle.tor_clauses.proofs.clauses.Clauses.add_path.Goals as goal

pub returns-in-None-clause-fits : goal.returns-in-None-clause-fits
returns-in-None-clause-fits c =
    (grown c.add_known.result c.args.graph.now c.args.self.now c.add_known.new.self c.args.path c.requires.fits c.add_known.ensures.paths c.add_known.ensures.fits c.add_known.ensures.err).0

pub returns-in-None-clause-mark : goal.returns-in-None-clause-mark
returns-in-None-clause-mark c =
    (grown c.add_known.result c.args.graph.now c.args.self.now c.add_known.new.self c.args.path c.requires.fits c.add_known.ensures.paths c.add_known.ensures.fits c.add_known.ensures.err).1

pub returns-in-None-clause-prefix : goal.returns-in-None-clause-prefix
returns-in-None-clause-prefix c =
    (grown c.add_known.result c.args.graph.now c.args.self.now c.add_known.new.self c.args.path c.requires.fits c.add_known.ensures.paths c.add_known.ensures.fits c.add_known.ensures.err).2

pub returns-in-Some-clause-fits : goal.returns-in-Some-clause-fits
returns-in-Some-clause-fits c =
    (grown c.add_behind.result c.args.graph.now c.args.self.now c.add_behind.new.self c.args.path c.requires.fits c.add_behind.ensures.paths c.add_behind.ensures.fits c.add_behind.ensures.err).0

pub returns-in-Some-clause-mark : goal.returns-in-Some-clause-mark
returns-in-Some-clause-mark c =
    (grown c.add_behind.result c.args.graph.now c.args.self.now c.add_behind.new.self c.args.path c.requires.fits c.add_behind.ensures.paths c.add_behind.ensures.fits c.add_behind.ensures.err).1

pub returns-in-Some-clause-prefix : goal.returns-in-Some-clause-prefix
returns-in-Some-clause-prefix c =
    (grown c.add_behind.result c.args.graph.now c.args.self.now c.add_behind.new.self c.args.path c.requires.fits c.add_behind.ensures.paths c.add_behind.ensures.fits c.add_behind.ensures.err).2
