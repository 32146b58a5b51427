use Rattle.std.proofs.Common.{sym, length}
use Rattle.std.proofs.lemmas.Bool.{eqb-true, eqb-false}
use Rattle.tor_words.proofs.ListsRead.{left_more, left_shorter, left_end, left_other, left_none}
use Rattle.tor_words.proofs.as_lists.as_list.Goals as goal

pub numbers-preserved : goal.numbers-preserved
numbers-preserved c =
    left_more c.args.text.now c.numbers.rest.now c.numbers.ases c.numbers.invariant c.in-Some.behind.now c.in-Some-after_byte.more.now c.in-Some.number c.push.new.self
    c.in-Some.ensures c.in-Some-after_byte.ensures c.in_ok-push.ensures.ok

pub numbers-smaller : goal.numbers-smaller
numbers-smaller c =
    left_shorter c.args.text.now c.numbers.rest.now c.numbers.ases c.numbers.invariant c.in-Some.behind.now c.in-Some-after_byte.more.now c.in-Some.number c.in-Some.ensures
    c.in-Some-after_byte.ensures

pub returns-then-is_empty : goal.returns-then-is_empty
returns-then-is_empty c =
    left_end c.args.text.now c.numbers.rest.now c.numbers.ases c.numbers.invariant c.in-Some.behind.now c.in-Some.number c.push.new.self c.in-Some.ensures
    (eqb-true (length c.in-Some.behind.now) 0 (sym c.if-is_empty.ensures)) c.in_ok-push.ensures.ok

pub returns-in_default-after_byte : goal.returns-in_default-after_byte
returns-in_default-after_byte c =
    left_other c.args.text.now c.numbers.rest.now c.numbers.ases c.numbers.invariant c.in-Some.behind.now c.in-Some.number c.in-Some.ensures
    (eqb-false (length c.in-Some.behind.now) 0 (sym c.if-is_empty.ensures)) c.in_default-after_byte.ensures

pub returns : goal.returns
returns c = left_none c.args.text.now c.numbers.rest.now c.numbers.ases c.numbers.invariant c.in_default.ensures
