use Rattle.std.proofs.Common.{◌≡◌, List, ℕ, ◌∷◌, ◌++◌, [], sym, ap, subst}
use Rattle.tor_clauses.specs.Tables.{IsRoomy}
use Rattle.tor_clauses.specs.Formulas.{Formula}
use Rattle.tor_clauses.proofs.Adding.{added_path, cut_back}
use Rattle.tor_clauses.proofs.Fews.{roomy}
use Rattle.tor_clauses.proofs.clauses.Clauses.add_behind.Goals as goal

pub add_triples-requires-clause-few : goal.add_triples-requires-clause-few
add_triples-requires-clause-few c =
    subst (λ (f : Formula). IsRoomy c.args.graph.now c.args.path f.triples) (sym c.self.view_is)
    (roomy c.args.graph.now c.args.self.now c.args.path c.requires.fits c.requires.there c.facts.ensures.triples)

pub returns-in-Ok-clause-fits : goal.returns-in-Ok-clause-fits
returns-in-Ok-clause-fits c =
    let with_paths : List ℕ → Formula = λ ps. record { paths = ps; triples = c.self.inside.table.triples; net = c.self.inside.table.net } in
    let here : with_paths c.push.new.self.items ≡ record c.args.self.now { paths = c.args.self.now.paths ++ c.args.path ∷ [] } =
    subst (λ (f : Formula). with_paths c.push.new.self.items ≡ record f { paths = f.paths ++ c.args.path ∷ [] }) c.self.view_is (ap with_paths c.in_ok-push.ensures.items) in
    added_path c.args.graph.now c.args.self.now (with_paths c.push.new.self.items) c.add_triples.new.self c.args.path c.requires.fits c.requires.there here c.in-Ok.ensures.ok

pub returns-in-Err-clause-err : goal.returns-in-Err-clause-err
returns-in-Err-clause-err c =
    let with_paths : List ℕ → Formula = λ ps. record { paths = ps; triples = c.self.inside.table.triples; net = c.self.inside.table.net } in
    let here : with_paths c.push.new.self.items ≡ record c.args.self.now { paths = c.args.self.now.paths ++ c.args.path ∷ [] } =
    subst (λ (f : Formula). with_paths c.push.new.self.items ≡ record f { paths = f.paths ++ c.args.path ∷ [] }) c.self.view_is (ap with_paths c.in_ok-push.ensures.items) in
    cut_back c.args.self.now (with_paths c.push.new.self.items) c.add_triples.new.self c.cut_to.new.self c.args.path c.mark-mark.result c.requires.fits.arcs here
    c.in-Err.ensures.err c.mark-mark.ensures c.cut_to.ensures
