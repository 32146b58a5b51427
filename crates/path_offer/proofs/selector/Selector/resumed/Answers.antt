use Rattle.std.proofs.Common.{◌*◌, ◌∙◌, length, sym, ap, subst}
use Rattle.tor_clauses.specs.Formulas.{IsServed, IsModel}
use Rattle.tor_mend.specs.Mends.{IsState}
use Rattle.path_offer.proofs.selector.Selector.resumed.Goals as goal

pub invariant_of-result : goal.invariant_of-result
invariant_of-result c =
    let graph = c.args.graph.now in
    let f = c.in-Ok.clauses in
    let s = c.in-Ok-at_rest.state in
    let fits = c.in-Ok.ensures.fits in
    let served = subst (λ paths. IsServed graph paths c.args.ends) (sym c.in-Ok.ensures.paths) c.requires.served in
    let model = (c.model_law.ensures graph f c.args.ends c.facts.ensures.apart fits c.requires.many).0 served in
    record {
      state = subst (λ n. IsState n s) (ap (λ n. n * 2) c.requires.many ∙ sym fits.nodes) c.in-Ok-at_rest.ensures.state;
      model = subst (IsModel f) (sym c.in-Ok-at_rest.ensures.ends) model;
      known = c.in-Ok-at_rest.ensures.known f.net.arcs (length f.net.arcs);
      none = c.in-Ok-at_rest.ensures.flips;
    }
