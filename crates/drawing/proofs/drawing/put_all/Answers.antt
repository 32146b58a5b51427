use Rattle.std.proofs.Common.{◌++◌, ◌∙◌, ap, append_assoc}
use Rattle.drawing.specs.Entries.{box_entries}
use Rattle.drawing.proofs.drawing.put_all.Goals as goal

pub returns-clause-entries : goal.returns-clause-entries
returns-clause-entries c =
    let most = c.args.most in
    let above = box_entries most c.args.groups.now.providers.items in
    let beside = box_entries most c.args.groups.now.peers.items in
    let below = box_entries most c.args.groups.now.customers.items in
    let one = c.in_ok-put_entries.ensures ∙ ap (λ xs. xs ++ box_entries most c.deref.result.now) c.requires.none ∙ ap (box_entries most) c.deref.ensures.value in
    let two = c.in_ok-put_entries-2.ensures ∙ ap (λ xs. xs ++ box_entries most c.deref-2.result.now) one
    ∙ ap (λ ns. above ++ box_entries most ns) c.deref-2.ensures.value in
    c.in_ok-put_entries-3.ensures ∙ ap (λ xs. xs ++ box_entries most c.deref-3.result.now) two
    ∙ ap (λ ns. (above ++ beside) ++ box_entries most ns) c.deref-3.ensures.value ∙ append_assoc above beside below
