use Rattle.std.proofs.Common.{◌++◌, ◌≡◌, ◌≤◌, ◌+◌, take, length, sum_by}
use Rattle.std.proofs.lemmas.Result.{IfOk-weaker}
use Rattle.relationships.specs.Graph.{edges}
use Rattle.relationships.specs.Givens.{NameTwo, NameOnce}
use Rattle.top_givens.specs.TopGivens.{top_givens, given_pairs}
use Rattle.top_givens.proofs.Members.{two_stay, once_stay, few_stay}
use Rattle.top_givens.proofs.Bindings.{bound_by_any, bound_tops}
use Rattle.top_givens.proofs.binding.bind_top.Goals as goal

pub returns : goal.returns
returns c =
    let top = c.args.top.now in
    let members = c.in_ok-members.members in
    let givens = c.args.givens.now in
    let new = c.bind_behind.new.givens in
    let before = edges (take c.args.first c.args.paths.now) in
    let paths = c.args.paths.now in
    let others = c.args.others.now in
    let bound : new ≡ givens ++ top_givens members ((given_pairs givens ++ others) ++ before) paths → new ≡ givens ++ top_givens top ((given_pairs givens ++ others) ++ before) paths =
    bound_by_any top members ((given_pairs givens ++ others) ++ before) paths givens new c.in_ok-members.ensures in
    let all : new ≡ givens ++ top_givens members ((given_pairs givens ++ others) ++ before) paths → new ≡ givens ++ top_givens top (given_pairs givens ++ (others ++ before)) paths =
    λ is. bound_tops top givens new others before paths (bound is) in
    record {
      bound = IfOk-weaker c.bind_behind.result _ (λ _. new ≡ givens ++ top_givens top ((given_pairs givens ++ others) ++ before) paths) (λ _ is. bound is) c.bind_behind.ensures;
      two = IfOk-weaker c.bind_behind.result _ (λ _. NameTwo givens → NameTwo new) (λ _ is. two_stay top givens new (others ++ before) paths (all is)) c.bind_behind.ensures;
      once = IfOk-weaker c.bind_behind.result _ (λ _. NameOnce givens → NameOnce new) (λ _ is. once_stay top givens new (others ++ before) paths (all is)) c.bind_behind.ensures;
      few = IfOk-weaker c.bind_behind.result _ (λ _. length new ≤ length givens + sum_by length paths) (λ _ is. few_stay top givens new (others ++ before) paths (all is)) c.bind_behind.ensures;
    }
