use Rattle.std.proofs.Common.{◌≡◌, ◌∙◌, ◌++◌, ◌∷◌, [], ℕ, List, length, ap, Some, refl, sym, subst, arith}
use Rattle.std.specs.Prelude.{slice_get}
use Rattle.std.specs.List.{flat_map}
use Rattle.tor_arena.proofs.Gets.{slice_get-some}
use Rattle.tor_io.proofs.Putting.{puts_as, puts_none, puts_then}
use Rattle.as_ranks.specs.Cones.{Cone, AreConesTo, IsCone}
use Rattle.as_ranks.specs.Named.{IsNetOf}
use Rattle.as_ranks.proofs.ConeLemmas.{cones-all, cones-next, cones-none}
use Rattle.rank_text.specs.RankText.{cone_line}
use Rattle.rank_text.proofs.Items.{item_behind}
use Rattle.rank_text.proofs.cones.put_all.Goals as goal

pub loop-place-init : goal.loop-place-init
loop-place-init g c = record { ases = refl; graph = refl; put = λ rel is. ([], cones-none rel c.args.cones.now.ases, puts_none _) }

pub loop-place-preserved : goal.loop-place-preserved
loop-place-preserved g c =
    let old = c.loop-place.invariant in
    record {
      ases = c.put_cone.ensures.ases ∙ old.ases;
      graph = c.put_cone.ensures.graph ∙ old.graph;
      put = λ rel is.
          let ases = c.args.cones.now.ases in
          let at = c.loop-place.place in
          let so_far = old.put rel is in
          let many = ap length c.ases-place-end.ensures in
          let test = c.loop-place-test.true in
          let a = slice_get-some ases at (omega (arith, many, test)) in
          let net : IsNetOf rel c.loop-place.cones.ases c.loop-place.cones.graph =
          subst (λ xs. IsNetOf rel xs c.loop-place.cones.graph) (sym old.ases) (subst (IsNetOf rel ases) (sym old.graph) is) in
          let more = c.put_cone.ensures.text rel a.0 net (ap (λ xs. slice_get xs at) old.ases ∙ a.1) in (
            so_far.0 ++ more.0 ∷ [],
            cones-next rel ases at so_far.0 more.0 (a.1 ∙ ap (λ n. Some n) (sym more.1)) more.2 so_far.1,
            puts_as (puts_then so_far.2 more.3) (item_behind cone_line so_far.0 more.0),
          );
    }

pub returns : goal.returns
returns g c = λ rel is.
    let ases = c.args.cones.now.ases in
    let done = c.loop-place.invariant.put rel is in
    let many = ap length c.ases-place-end.ensures in
    let all : c.loop-place.place ≡ length ases = omega (arith, many, c.loop-place-test.false, c.loop-place.auto.place-end) in
    (done.0, cones-all rel ases done.0 is.names (subst (λ n. AreConesTo rel ases n done.0) all done.1), done.2)
