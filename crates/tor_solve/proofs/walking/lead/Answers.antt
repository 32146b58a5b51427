use Rattle.std.proofs.Common.{ℕ, List, subst}
use Rattle.std.specs.Prelude.{IfSome}
use Rattle.std.proofs.lemmas.Result.{on_ok_weaker}
use Rattle.tor_digraph.specs.Reached.{IsReach}
use Rattle.tor_clauses.specs.Leading.{IsPlainWay}
use Rattle.tor_solve.proofs.walking.lead.Goals as goal

pub follow_way-requires : goal.follow_way-requires
follow_way-requires c =
    let reach = subst (λ n. IsReach (λ n. n) (λ a. a) n.arcs c.args.from c.in_ok-reached.reached) c.digraph.ensures c.in_ok-reached.ensures in
    let way = subst (λ o. IfSome o (λ way. (arcs : List (ℕ × ℕ)) (start : ℕ) → IsReach (λ n. n) (λ a. a) arcs start c.in_ok-reached.reached →
    IsPlainWay arcs start c.args.to way.nodes way.arcs)) c.in-Some.is c.in_ok-way.ensures.way in
    (c.args.from, c.args.to, way c.args.fitted.now.formula.net.arcs c.args.from reach)

pub returns-clause-leads : goal.returns-clause-leads
returns-clause-leads c =
    let reach = subst (λ n. IsReach (λ n. n) (λ a. a) n.arcs c.args.from c.in_ok-reached.reached) c.digraph.ensures c.in_ok-reached.ensures in
    let way = subst (λ o. IfSome o (λ way. (arcs : List (ℕ × ℕ)) (start : ℕ) → IsReach (λ n. n) (λ a. a) arcs start c.in_ok-reached.reached →
    IsPlainWay arcs start c.args.to way.nodes way.arcs)) c.in-Some.is c.in_ok-way.ensures.way in
    on_ok_weaker c.follow_way.result (λ h. h c.args.from c.args.to (way c.args.fitted.now.formula.net.arcs c.args.from reach)) c.follow_way.ensures.leads
