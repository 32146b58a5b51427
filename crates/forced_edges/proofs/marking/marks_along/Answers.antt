use Rattle.std.proofs.lemmas.Result.{IfOk-from_err}
use Rattle.forced_edges.proofs.marking.marks_along.Goals as goal

pub settle_all-requires : goal.settle_all-requires
settle_all-requires c = record { inside = c.requires.inside }

pub returns-in_err-shown : goal.returns-in_err-shown
returns-in_err-shown c = IfOk-from_err c.from_residual.result _ c.from_residual.ensures.0

pub marks_by-requires : goal.marks_by-requires
marks_by-requires c = record {
  against = c.requires;
  shown = c.in_ok-shown.ensures.shown;
  settled = λ n is. c.in_ok-shown.ensures.settled n (c.requires.all n is);
}

pub returns : goal.returns
returns c = c.marks_by.ensures
