use Rattle.std.proofs.Common.{◌≡◌, ◌*◌, List, length, refl, sym, subst, arith}
use Rattle.std.proofs.lemmas.Result.{IfOk-from_err}
use Rattle.std.specs.Prelude.{IfNone, IfSome}
use Rattle.tor_arena.proofs.Gets.{slice_get-some}
use Rattle.relationships.specs.declared.label.End.{End}
use Rattle.tor_digraph.specs.Walks.{IsArc}
use Rattle.tor_mend.specs.Ways.{IsConflict}
use Rattle.path_offer.specs.Repairs.{IsArcMended}
use Rattle.path_offer.proofs.Settlings.{unmet_side, mended_side}
use Rattle.path_offer.proofs.repairing.meet_or_refute.Goals as goal

pub nearer_side-requires : goal.nearer_side-requires
nearer_side-requires c = record {
  there = c.requires.there;
  ends = subst (λ (l : List End). length l * 2 ≡ c.args.fitted.now.formula.net.nodes) (sym c.as_slice.ensures) c.requires.state.ends;
  count = c.requires.state.trail;
}

pub returns-in_err-side : goal.returns-in_err-side
returns-in_err-side c =
    let r = c.from_residual.result in
    let is = c.from_residual.ensures.0 in
    record {
      state = record { ends = c.requires.state.ends; trail = c.nearer_side.ensures.count; flips = c.requires.state.flips };
      known = c.requires.known;
      back = refl;
      settled = IfOk-from_err r _ is;
      walk = IfOk-from_err r _ is;
    }

pub meet-requires : goal.meet-requires
meet-requires c =
    let arcs = c.args.fitted.now.formula.net.arcs in
    let at = slice_get-some arcs c.args.arc c.requires.there in
    let is : IsArc arcs c.args.arc at.0.0 at.0.1 = at.1 in
    let lt = c.facts.ensures.inside.heads c.args.arc at.0.0 at.0.1 is in
    record {
      there = c.in_ok-side.ensures.there;
      unmet = unmet_side arcs c.args.arc c.in_ok-side.side at.0.0 at.0.1 is c.args.state.now.ends (omega (arith, lt, c.requires.state.ends)) c.in_ok-side.ensures.side c.requires.unmet;
      state = record { ends = c.requires.state.ends; trail = c.nearer_side.ensures.count; flips = c.requires.state.flips };
      known = c.requires.known;
    }

pub returns-in_err-meet : goal.returns-in_err-meet
returns-in_err-meet c =
    let e = c.meet.ensures in
    let r = c.from_residual-in_err-meet.result in
    let is = c.from_residual-in_err-meet.ensures.0 in
    record {
      state = e.state;
      known = e.known;
      back = e.back;
      settled = IfOk-from_err r _ is;
      walk = IfOk-from_err r _ is;
    }

pub walk_by-walk-requires : goal.walk_by-walk-requires
walk_by-walk-requires c = record {
  there = c.in_ok-side.ensures.there;
  conflict = subst (λ o. IfSome o (IsConflict c.args.fitted.now.formula.net.arcs c.in_ok-side.side)) c.in-Some.is c.in_ok-meet.ensures.conflict;
}

pub returns-in-None : goal.returns-in-None
returns-in-None c =
    let e = c.meet.ensures in
    let arcs = c.args.fitted.now.formula.net.arcs in
    let old = c.args.state.now.ends in
    let new = c.meet.new.state.ends in
    let at = slice_get-some arcs c.args.arc c.requires.there in
    let is : IsArc arcs c.args.arc at.0.0 at.0.1 = at.1 in
    let lt = c.facts.ensures.inside.heads c.args.arc at.0.0 at.0.1 is in
    let mended = subst (λ o. IfNone o (IsArcMended arcs old new c.in_ok-side.side)) c.in-None.is c.in_ok-meet.ensures.settled in
    record {
      state = e.state;
      known = e.known;
      back = e.back;
      settled = mended_side arcs c.args.arc c.in_ok-side.side at.0.0 at.0.1 is old new (omega (arith, lt, e.state.ends)) c.in_ok-side.ensures.side c.requires.unmet mended;
      walk = tt;
    }

pub returns-in-Ok : goal.returns-in-Ok
returns-in-Ok c =
    let e = c.meet.ensures in
    record {
      state = e.state;
      known = e.known;
      back = e.back;
      settled = tt;
      walk = c.in-Ok.ensures;
    }

pub returns-in-Err : goal.returns-in-Err
returns-in-Err c =
    let e = c.meet.ensures in
    record {
      state = e.state;
      known = e.known;
      back = e.back;
      settled = tt;
      walk = tt;
    }
