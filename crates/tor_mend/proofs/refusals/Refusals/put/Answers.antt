use Rattle.std.proofs.Common.{◌≡◌, Some, sym, subst, arith}
use Rattle.std.specs.Prelude.{slice_get}
use Rattle.tor_clauses.proofs.Adding.{get_from_or}
use Rattle.tor_mend.specs.Refusals.{NoneGrows}
use Rattle.tor_mend.proofs.Shortening.{one_more, one_shorter}
use Rattle.tor_mend.proofs.refusals.Refusals.put.Goals as goal

pub returns-in_ok-push-clause-shorter : goal.returns-in_ok-push-clause-shorter
returns-in_ok-push-clause-shorter c =
    subst (NoneGrows c.args.self.now.items.items) (sym c.in_ok-push.ensures.items) (one_more c.args.self.now.items.items c.args.refusal)

pub returns-then-refusal-index-clause-shorter : goal.returns-then-refusal-index-clause-shorter
returns-then-refusal-index-clause-shorter c =
    let items = c.args.self.now.items.items in
    let before = c.index.result.now in
    let there : slice_get items c.in_ok-place.place ≡ Some before =
    get_from_or items c.in_ok-place.place before (omega (arith, c.if-place-count-2.true, c.len-count.ensures)) c.index.ensures in
    one_shorter items c.in_ok-place.place c.args.refusal before there (omega (arith, c.if-refusal-index.true))
