use Rattle.std.proofs.Common.{◌≤◌, ◌+◌, ◌++◌, false, length, sym, ap, ◌∙◌, subst, arith, length-append}
use Rattle.std.specs.Prelude.{replicate}
use Rattle.tor_digraph.specs.declared.found.Found.TheVariants.{No}
use Rattle.tor_digraph.proofs.Traces.{marked_push, marked_back}
use Rattle.tor_digraph.proofs.trace.Trace.push_none.Goals as goal

pub invariant_of-self : goal.invariant_of-self
invariant_of-self g c = rw c.in_err-push_copies.ensures.err c.self.invariant

pub invariant_of-self-in-Ok : goal.invariant_of-self-in-Ok
invariant_of-self-in-Ok g c =
    rw (c.in-Ok.ensures.ok, c.in_ok-push_copies.ensures.ok)
    (marked_push c.self.inside.found.items c.self.inside.seen.items c.args.n c.self.invariant)

pub returns-in-Err-clause-err : goal.returns-in-Err-clause-err
returns-in-Err-clause-err g c = c.in-Err.ensures.err ∙ ap (λ v. v.items) c.self.view_is

pub returns-in-Ok-clause-ok : goal.returns-in-Ok-clause-ok
returns-in-Ok-clause-ok g c = c.in-Ok.ensures.ok ∙ ap (λ v. v.items ++ replicate c.args.n No) c.self.view_is

pub invariant_of-self-in-Err : goal.invariant_of-self-in-Err
invariant_of-self-in-Err g c = marked_back c.self.inside.found.items c.self.inside.seen.items c.args.n c.len-count.result c.self.invariant c.len-count.ensures.length
    _ _ _ c.in_ok-push_copies.ensures.ok c.cut_to.ensures.items c.in-Err.ensures.err

pub cut_to-requires : goal.cut_to-requires
cut_to-requires g c =
    let more = ap length c.in_ok-push_copies.ensures.ok ∙ length-append c.self.inside.seen.items (replicate c.args.n false) in
    let count = c.len-count.ensures.length in
    omega (arith, more, count)

pub push_copies-requires-2 : goal.push_copies-requires-2
push_copies-requires-2 g c = subst (λ v. length v.items + c.args.n ≤ g.N.Index.LIMIT) (sym c.self.view_is) c.requires
