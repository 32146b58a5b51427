use Rattle.std.proofs.Common.{◌++◌, [], ◌∷◌, length, take, reverse, sym, ap, ◌∙◌}
use Rattle.std.proofs.lemmas.Iterator.Adapters.{YieldsList-from_rev_slice}
use Rattle.std.proofs.lemmas.Iterator.Consumers.{YieldsList-turn}
use Rattle.std.proofs.lemmas.List.{append_assoc, length_push, take_more}
use Rattle.tor_sample.proofs.paths.put_reversed.Goals as goal

pub loop-network-preserved : goal.loop-network-preserved
loop-network-preserved c =
    let turn = YieldsList-turn (YieldsList-from_rev_slice c.args.networks.now cc) c.loop-network.yielded _ c.loop-network.yielded_by _ _ c.in-Some.network c.in-Some.is c.next.ensures.steps in
    c.push.ensures.items
    ∙ ap (λ xs. xs ++ c.in-Some.network.now ∷ []) c.loop-network.invariant
    ∙ append_assoc c.args.path.now.items (take (length c.loop-network.yielded) (reverse c.args.networks.now)) (c.in-Some.network.now ∷ [])
    ∙ ap (λ x. c.args.path.now.items ++ (take (length c.loop-network.yielded) (reverse c.args.networks.now) ++ x ∷ [])) turn.1
    ∙ ap (λ xs. c.args.path.now.items ++ xs) (sym (take_more (reverse c.args.networks.now) (length c.loop-network.yielded) c.in-Some.network.now turn.0))
    ∙ ap (λ n. c.args.path.now.items ++ take n (reverse c.args.networks.now)) (sym (length_push c.loop-network.yielded c.in-Some.network))
