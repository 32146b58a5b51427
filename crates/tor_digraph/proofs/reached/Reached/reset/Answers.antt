use Rattle.std.proofs.Common.{◌<◌, ◌≤◌, ◌∷◌, [], length, sym, ◌∙◌, ap, subst, arith, length-set}
use Rattle.std.proofs.lemmas.List.{length-take-le}
use Rattle.std.proofs.lemmas.Result.{on_ok_weaker}
use Rattle.std.proofs.lemmas.Option.{slice_get_within}
use Rattle.tor_digraph.specs.Closing.{Has}
use Rattle.tor_digraph.proofs.Steps.{has-old, has-last}
use Rattle.tor_digraph.proofs.Searches.{length-copies, blank-pop, blank-done, blank-copies, blank-kept, blank-cut, blank-more}
use Rattle.tor_digraph.proofs.reached.Reached.reset.Goals as goal

pub loop-node-init : goal.loop-node-init
loop-node-init g c = record {
  inside = λ x h. (let f = c.self.invariant.nodes_seen x h in slice_get_within c.self.inside.found.items (g.N.Index.place_of x) f.0 f.1);
  seen = c.self.invariant.seen;
}

pub put-requires : goal.put-requires
put-requires g c = c.loop-node.invariant.inside c.in-Some.node (subst (λ z. Has z c.in-Some.node) (sym c.in-Some.ensures) (has-last c.pop.new.self c.in-Some.node))

pub loop-node-preserved : goal.loop-node-preserved
loop-node-preserved g c = record {
  inside = λ x h. rw (c.put.ensures.items, length-set) (c.loop-node.invariant.inside x (subst (λ z. Has z x) (sym c.in-Some.ensures) (has-old c.pop.new.self (c.in-Some.node ∷ []) x h)));
  seen = blank-pop g.N.Index.place_of g.met.N.Index.is_one c.loop-node.self-inside.found.items c.put.new.self.items c.loop-node.self-inside.nodes
      c.pop.new.self c.in-Some.node c.in-Some.ensures c.put.ensures.items c.loop-node.invariant.seen;
}

pub invariant_of-self : goal.invariant_of-self
invariant_of-self g c = blank-kept g.N.Index.place_of c.push_none.new.self.items c.pop.new.self c.in_default.ensures.1
    (blank-copies g.N.Index.place_of c.push_none.result c.loop-node.self-inside.found.items c.push_none.new.self.items _ c.push_none.ensures.ok c.push_none.ensures.err
    (blank-done g.N.Index.place_of c.loop-node.self-inside.found.items c.loop-node.self-inside.nodes c.in_default.ensures.0 c.loop-node.invariant.seen))

pub returns-then-count-had-clause-blank : goal.returns-then-count-had-clause-blank
returns-then-count-had-clause-blank g c = on_ok_weaker c.push_none.result
    (λ e. record {
      none = c.in_default.ensures.1;
      many = ap length e ∙ length-copies c.loop-node.self-inside.found.items _ c.args.count _ (let had : length c.loop-node.self-inside.found.items < c.args.count = omega arith in omega arith);
      not_found = rw e (blank-more g.N.Index.place_of c.loop-node.self-inside.found.items _
          (blank-done g.N.Index.place_of c.loop-node.self-inside.found.items c.loop-node.self-inside.nodes c.in_default.ensures.0 c.loop-node.invariant.seen));
    })
    c.push_none.ensures.ok

pub invariant_of-self-2 : goal.invariant_of-self-2
invariant_of-self-2 g c = blank-kept g.N.Index.place_of c.cut_to.new.self.items c.pop.new.self c.in_default.ensures.1
    (rw c.cut_to.ensures.items (blank-cut g.N.Index.place_of c.loop-node.self-inside.found.items c.args.count
    (blank-done g.N.Index.place_of c.loop-node.self-inside.found.items c.loop-node.self-inside.nodes c.in_default.ensures.0 c.loop-node.invariant.seen)))

pub returns-clause-blank : goal.returns-clause-blank
returns-clause-blank g c = record {
  none = c.in_default.ensures.1;
  many = (let le : c.args.count ≤ length c.loop-node.self-inside.found.items = omega arith in rw c.cut_to.ensures.items (length-take-le c.args.count c.loop-node.self-inside.found.items le));
  not_found = (rw c.cut_to.ensures.items (blank-cut g.N.Index.place_of c.loop-node.self-inside.found.items c.args.count
      (blank-done g.N.Index.place_of c.loop-node.self-inside.found.items c.loop-node.self-inside.nodes c.in_default.ensures.0 c.loop-node.invariant.seen)));
}
