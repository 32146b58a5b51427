use Rattle.std.proofs.Common.{eqb, ◌++◌, ◌∙◌, ap, subst}
use Rattle.std.specs.List.{flat_map}
use Rattle.std.specs.List.Sorted.{IsPermutation}
use Rattle.std.proofs.lemmas.List.Filters.{dedup_is}
use Rattle.as_ranks.specs.Nets.{both_ases}
use Rattle.as_ranks.proofs.NetLemmas.{named-by}
use Rattle.as_ranks.proofs.net.ases_of.Goals as goal

pub returns-in-Ok : goal.returns-in-Ok
returns-in-Ok c =
    let sorted = c.sort_unstable.new.self.items in
    let ends = flat_map both_ases c.args.lines.now in
    named-by c.args.lines.now sorted c.dedup.new.self.items
    (subst (λ xs. IsPermutation xs sorted) (c.in-Ok.ensures ∙ ap (λ xs. xs ++ ends) c.new-ases.ensures.items) c.sort_unstable.ensures.permutation)
    c.sort_unstable.ensures.sorted (dedup_is eqb sorted c.dedup.new.self.items c.dedup.ensures.filtered)
