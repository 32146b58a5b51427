use Rattle.std.proofs.Common.{subst, arith}
use Rattle.std.proofs.lemmas.Bool.{both_ways}
use Rattle.std.proofs.lemmas.List.{take_all}
use Rattle.relationships.specs.GivenEvidence.{IsLinkedWith}
use Rattle.result_rules.specs.File.{its_givens, its_kept, kept_among}
use Rattle.line_rules.proofs.ShownOrders.{shows_last, shows_none, ends-from_last_two}
use Rattle.line_rules.proofs.walks.shown.shown_by.Goals as goal

pub returns-in_default-clause-none : goal.returns-in_default-clause-none
returns-in_default-clause-none c a b s =
    let e = rw c.ases-ases.ensures at c.in_default.ensures in
    shows_none (its_givens c.args.file.now) (its_kept c.args.file.now) c.args.shown.now c.args.walk.now a b e s

pub returns-then-not-starts-clause-none : goal.returns-then-not-starts-clause-none
returns-then-not-starts-clause-none c a b s =
    let e = rw c.ases-ases.ensures at c.in-Some.ensures in
    let r = shows_last (its_givens c.args.file.now) (its_kept c.args.file.now) c.args.shown.now c.args.walk.now c.in-Some.over c.in-Some.under a b e s in
    both_ways c.starts.result c.if-not-starts.true (c.starts.ensures.1 (rw c.ases-ases.ensures r.begins))

pub returns-then-is_known-clause-none : goal.returns-then-is_known-clause-none
returns-then-is_known-clause-none c a b s =
    let e = rw c.ases-ases.ensures at c.in-Some.ensures in
    let r = shows_last (its_givens c.args.file.now) (its_kept c.args.file.now) c.args.shown.now c.args.walk.now c.in-Some.over c.in-Some.under a b e s in
    r.new (c.is_known.ensures.0 c.if-is_known.true)

pub returns-clause-some : goal.returns-clause-some
returns-clause-some c =
    let e = rw c.ases-ases.ensures at c.in-Some.ensures in
    record {
      walk = subst (λ ls. IsLinkedWith (its_givens c.args.file.now) (kept_among ls) c.args.walk.now.ases c.args.walk.now.links)
          (take_all c.len.result c.args.file.now.paths (omega (arith, c.len.ensures.length))) (c.is_walk.ensures.0 c.if-not-is_walk.false);
      ends = ends-from_last_two c.args.walk.now.ases c.in-Some.over c.in-Some.under e;
      begins = rw c.ases-ases.ensures at (c.starts.ensures.0 c.if-not-starts.false);
      new = λ k. both_ways c.is_known.result c.if-is_known.false (c.is_known.ensures.1 k);
    }
