use Rattle.std.proofs.lemmas.Bool.{both_ways}
use Rattle.path_table.proofs.RepeatLemmas.{search-begins, search-goes}
use Rattle.path_table.proofs.repeats.stands_before.Goals as goal

pub chain-init : goal.chain-init
chain-init c = search-begins c.args.many c.args.rows.now c.args.hashes.now c.args.place c.requires.place c.requires.same c.args.start c.requires.ends

pub chain-preserved : goal.chain-preserved
chain-preserved c = search-goes c.args.many c.args.rows.now c.args.hashes.now c.args.place c.requires.place c.requires.same c.args.older.now c.chain.at
    c.chain-test.true c.requires.linked (λ is. both_ways c.are_same.result c.if-are_same.false (c.are_same.ensures.1 is)) c.chain.invariant
