use Rattle.std.proofs.Common.{◌≡◌, ℕ, List, ◌++◌, ◌∷◌, [], ◌∙◌, refl, sym, ap, subst}
use Rattle.tor_clauses.specs.Triples.{triples_on}
use Rattle.tor_clauses.specs.Tables.{with_triples, having}
use Rattle.tor_clauses.specs.Formulas.{Formula, FitsGraph}
use Rattle.tor_clauses.proofs.Adding.{added_none, added_path}
use Rattle.tor_clauses.proofs.FirstNews.{with_known}
use Rattle.tor_clauses.proofs.clauses.Clauses.add_known.Goals as goal

pub returns-clause-fits : goal.returns-clause-fits
returns-clause-fits c =
    let graph = c.args.graph.now in
    let fits = c.requires.fits in
    let there = c.requires.there in
    let known = c.requires.known in
    let old : Formula = c.args.self.now in
    let new : Formula = record old { paths = old.paths ++ c.args.path ∷ [] } in
    let with_paths : List ℕ → Formula = λ ps. record { paths = ps; triples = c.self.inside.table.triples; net = c.self.inside.table.net } in
    let here : with_paths c.push.new.self.items ≡ new =
    subst (λ (f : Formula). with_paths c.push.new.self.items ≡ record f { paths = f.paths ++ c.args.path ∷ [] }) c.self.view_is (ap with_paths c.in_ok-push.ensures.items) in
    let same : new ≡ having new (with_triples new.triples (triples_on graph c.args.path)) =
    added_none new fits.arcs ∙ ap (having new) (sym (with_known old.triples (triples_on graph c.args.path) known)) in
    subst (FitsGraph graph) (sym here) (added_path graph old new new c.args.path fits there refl same)
