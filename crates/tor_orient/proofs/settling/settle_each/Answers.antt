use Rattle.std.proofs.Common.{◌≡◌, ℕ, ◌<◌, Some, length, refl, sym, ap, ◌∙◌, subst, arith}
use Rattle.std.specs.Prelude.{slice_get}
use Rattle.std.proofs.lemmas.List.Elements.{All-contains}
use Rattle.std.proofs.lemmas.Option.{slice_get_read}
use Rattle.relationships.specs.Graph.{edges}
use Rattle.gao_prefs.specs.declared.preferring.Pref.{Pref}
use Rattle.tor_arena.proofs.Gets.{Contains-from_has}
use Rattle.tor_digraph.specs.Walks.{Net, IsInside}
use Rattle.tor_orient.specs.Steps.{node_wanted, NoneLeadsOut, IsSettledBy}
use Rattle.tor_orient.proofs.Models.{one_way}
use Rattle.tor_orient.proofs.Settled.{settled_next}
use Rattle.tor_orient.proofs.WayBack.{opposites_there, wanted_there}
use Rattle.tor_orient.proofs.settling.settle_each.Goals as goal

pub settle-requires-clause-closed : goal.settle-requires-clause-closed
settle-requires-clause-closed c = subst (λ (n : Net ℕ). NoneLeadsOut n.arcs c.loop-place.settled.items) (sym c.requires.rows) c.loop-place.invariant.settled.closed

pub loop-place-preserved : goal.loop-place-preserved
loop-place-preserved c =
    let graph = c.args.fitted.now.graph in
    let f = c.args.fitted.now.formula in
    let prefs = c.args.prefs.now in
    let place = c.loop-place.place in
    let p = c.index-prefs-place.result in
    let old = c.loop-place.settled in
    let new = c.settle.new.settled in
    let test = c.loop-place-test.true in
    let end = c.loop-place.auto.place-end in
    let at : slice_get prefs place ≡ Some p = slice_get_read prefs (length prefs) place p refl (omega (arith, test, end)) c.index-prefs-place.is in
    let below = All-contains (λ (pref : Pref). pref.edge < length (edges graph)) prefs p c.requires.inside (Contains-from_has prefs p (place, at)) in
    let nodes = ap (λ (n : Net ℕ). n.nodes) c.requires.rows in
    let closed = subst (λ (n : Net ℕ). NoneLeadsOut n.arcs new.items) c.requires.rows c.in_ok-settle.ensures.closed in
    let settled = subst (λ (n : Net ℕ). IsSettledBy n.arcs (node_wanted p) old.items new.items) c.requires.rows c.in_ok-settle.ensures.settled in
    record {
      search = (c.settle.ensures.search.0 ∙ nodes, c.settle.ensures.search.1 ∙ nodes);
      settled = settled_next f prefs place old new p c.facts.ensures.partners (one_way graph f c.facts.ensures.apart c.facts.ensures.fits c.requires.servable)
          (subst (IsInside (λ n. n)) c.requires.rows c.node_count.ensures.inside) (opposites_there (length (edges graph)) f.net.nodes c.facts.ensures.fits.nodes)
          (wanted_there p (length (edges graph)) f.net.nodes c.facts.ensures.fits.nodes below) c.loop-place.invariant.settled at (c.settle.ensures.count ∙ nodes) closed settled;
    }
