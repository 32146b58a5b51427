use Rattle.std.proofs.Common.{◌≡◌, ◌∙◌, length, replicate, sym, ap}
use Rattle.as_ranks.proofs.LinkLemmas.{linked-first}
use Rattle.as_ranks.proofs.cycles.link_all.Goals as goal

pub link-requires-clause-linked : goal.link-requires-clause-linked
link-requires-clause-linked c =
    let of = c.deref.result.now in
    let count = length c.args.lines.now in
    let many : count ≡ length of = sym (ap length c.deref.ensures.value ∙ c.in_ok-add_classes.ensures.many) in
    linked-first of c.in-Some.classes c.deref_mut.result.now c.deref_mut-2.result.now
    (c.deref_mut.ensures.value ∙ c.in_ok-fill_up.ensures ∙ ap (replicate c.in-Some.classes) many)
    (c.deref_mut-2.ensures.value ∙ c.in_ok-fill_up-2.ensures ∙ ap (λ n. replicate n n) many)
