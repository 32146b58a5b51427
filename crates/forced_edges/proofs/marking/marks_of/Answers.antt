use Rattle.std.proofs.Common.{sym, subst}
use Rattle.std.proofs.lemmas.Result.{IfOk-from_err}
use Rattle.order_trials.specs.Candidates.{AreCandidates}
use Rattle.forced_edges.proofs.marking.marks_of.Goals as goal

pub returns-in_err-against : goal.returns-in_err-against
returns-in_err-against c = IfOk-from_err c.from_residual.result _ c.from_residual.ensures.0

pub marks_along-requires : goal.marks_along-requires
marks_along-requires c = subst (AreCandidates c.args.problem.now) (sym c.as_slice.ensures) c.in_ok-against.ensures
