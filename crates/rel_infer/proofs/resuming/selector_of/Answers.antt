use Rattle.std.proofs.Common.{◌≡◌, List, ℕ, rules, sym, subst}
use Rattle.tor_clauses.specs.Formulas.{IsServed}
use Rattle.rel_infer.proofs.resuming.selector_of.Goals as goal

pub resumed-requires-clause-served : goal.resumed-requires-clause-served
resumed-requires-clause-served c =
    let same : c.as_slice.result.now ≡ c.args.first.places = search rules in
    subst (λ (ps : List ℕ). IsServed c.args.graph.now ps c.args.first.ends) (sym same) c.requires.served
