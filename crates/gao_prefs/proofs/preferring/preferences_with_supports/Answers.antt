use Rattle.std.proofs.Common.{◌∙◌, ◌≤◌, ℕ, List, sym, subst}
use Rattle.std.proofs.lemmas.Result.{IfOk-from_err}
use Rattle.relationships.specs.declared.label.End.{End}
use Rattle.as_graph.specs.Limits.{most_paths}
use Rattle.as_graph.specs.Paths.{paths_at}
use Rattle.gao_prefs.specs.declared.per_end.PerEnd.{PerEnd}
use Rattle.gao_prefs.specs.Ends.{number_at}
use Rattle.gao_prefs.proofs.SupportLemmas.{supports_are}
use Rattle.gao_prefs.proofs.preferring.preferences_with_supports.Goals as goal

pub returns-in_err-degrees : goal.returns-in_err-degrees
returns-in_err-degrees c =
    let r = c.from_residual.result in
    let is = c.from_residual.ensures.0 in
    record { prefs = IfOk-from_err r _ is; supports = IfOk-from_err r _ is }

pub count_votes-requires-clause-known : goal.count_votes-requires-clause-known
count_votes-requires-clause-known c = c.deref.ensures.value ∙ c.in_ok-degrees.ensures

pub returns-in_err-votes : goal.returns-in_err-votes
returns-in_err-votes c =
    let r = c.from_residual-in_err-votes.result in
    let is = c.from_residual-in_err-votes.ensures.0 in
    record { prefs = IfOk-from_err r _ is; supports = IfOk-from_err r _ is }

pub supports_of-requires : goal.supports_of-requires
supports_of-requires c =
    record { small = subst (λ (votes : List PerEnd). (k : ℕ) (e : End) → number_at votes k e ≤ most_paths) (sym c.deref-2.ensures.value) c.in_ok-votes.ensures.small }

pub returns-in_err-supports : goal.returns-in_err-supports
returns-in_err-supports c =
    let r = c.from_residual-in_err-supports.result in
    let is = c.from_residual-in_err-supports.ensures.0 in
    record { prefs = IfOk-from_err r _ is; supports = IfOk-from_err r _ is }

pub prefs_in_order-requires-clause-small : goal.prefs_in_order-requires-clause-small
prefs_in_order-requires-clause-small c =
    subst (λ (votes : List PerEnd). (k : ℕ) (e : End) → number_at votes k e ≤ most_paths) (sym c.deref-3.ensures.value) c.in_ok-votes.ensures.small

pub returns-in_err-prefs : goal.returns-in_err-prefs
returns-in_err-prefs c =
    let r = c.from_residual-in_err-prefs.result in
    let is = c.from_residual-in_err-prefs.ensures.0 in
    record { prefs = IfOk-from_err r _ is; supports = IfOk-from_err r _ is }

pub returns-clause-prefs : goal.returns-clause-prefs
returns-clause-prefs c =
    c.in_ok-prefs.ensures c.args.graph.now c.args.kept.now (c.deref-3.ensures.value ∙ c.in_ok-votes.ensures.counted) (c.deref-4.ensures.value ∙ c.in_ok-degrees.ensures)

pub returns-clause-supports : goal.returns-clause-supports
returns-clause-supports c =
    let paths = c.args.graph.now in
    supports_are paths (paths_at paths c.args.kept.now) c.deref-2.result.now c.in_ok-supports.supports c.requires.distinct
    (c.deref-2.ensures.value ∙ c.in_ok-votes.ensures.counted) c.in_ok-supports.ensures
