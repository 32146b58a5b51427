use Rattle.std.proofs.Common.{rules, ◌≡◌, ◌∙◌, ◌++◌, ◌∷◌, [], false, length, max, min, ap, sym, subst, arith}
use Rattle.std.proofs.lemmas.Result.{IfOk-from_err, MatchResult-from_err}
use Rattle.std.specs.List.{list_any}
use Rattle.relationships.specs.Graph.{edge_of, is_same}
use Rattle.as_graph.specs.Inside.{AreGraphEdges}
use Rattle.as_graph.proofs.EdgeLemmas.{counted_few, counted_there, counted_after, AreGraphEdges-more, AreGraphEdges-added}
use Rattle.as_graph.proofs.graph_edges.GraphEdges.add_new.Goals as goal

pub returns-in_err-reserve : goal.returns-in_err-reserve
returns-in_err-reserve c =
    let r = c.from_residual.result in
    let is = c.from_residual.ensures.0 in
    record { ok = IfOk-from_err r _ is; edge = IfOk-from_err r _ is; below = IfOk-from_err r _ is; err = MatchResult-from_err r _ _ is (λ e. c.self.view_is) }

pub returns-in_err-ends : goal.returns-in_err-ends
returns-in_err-ends c =
    let r = c.from_residual-in_err-ends.result in
    let is = c.from_residual-in_err-ends.ensures.0 in
    record { ok = IfOk-from_err r _ is; edge = IfOk-from_err r _ is; below = IfOk-from_err r _ is; err = MatchResult-from_err r _ _ is (λ e. c.self.view_is) }

pub returns-in_err-added : goal.returns-in_err-added
returns-in_err-added c =
    let r = c.from_residual-in_err-added.result in
    let is = c.from_residual-in_err-added.ensures.0 in
    record { ok = IfOk-from_err r _ is; edge = IfOk-from_err r _ is; below = IfOk-from_err r _ is; err = MatchResult-from_err r _ _ is (λ e. c.in_err-added.ensures.err ∙ c.self.view_is) }

pub invariant_of-self-in_err-ends : goal.invariant_of-self-in_err-ends
invariant_of-self-in_err-ends c =
    subst (AreGraphEdges c.self.inside.table c.add_ends.new.ases c.add_ends.new.counts.items) (sym c.reserve.ensures.items)
    (AreGraphEdges-more _ _ _ _ _ _ c.self.invariant c.add_ends.ensures.more)

pub invariant_of-self-in_err-added : goal.invariant_of-self-in_err-added
invariant_of-self-in_err-added c =
    subst (λ es. AreGraphEdges es c.add_ends.new.ases c.add_ends.new.counts.items c.reserve.new.items.items) (sym c.in_err-added.ensures.err)
    (subst (AreGraphEdges c.self.inside.table c.add_ends.new.ases c.add_ends.new.counts.items) (sym c.reserve.ensures.items)
    (AreGraphEdges-more _ _ _ _ _ _ c.self.invariant c.add_ends.ensures.more))

pub count_one-requires-clause-there : goal.count_one-requires-clause-there
count_one-requires-clause-there c =
    counted_there c.self.inside.table c.add_ends.new.ases c.add_ends.new.counts.items c.in_ok-ends.ends.low _
    (c.add_ends.ensures.more.degrees c.self.inside.table c.self.invariant.degrees) c.in_ok-ends.ensures.ends.0

pub count_one-requires-clause-few : goal.count_one-requires-clause-few
count_one-requires-clause-few c =
    let le = counted_few c.self.inside.table c.add_ends.new.ases c.add_ends.new.counts.items c.min.result c.in_ok-ends.ends.low
    (c.add_ends.ensures.more.degrees c.self.inside.table c.self.invariant.degrees) c.in_ok-ends.ensures.ends.0 in
    let few = c.self.invariant.few in
    omega (arith, le, few)

pub count_one-requires-2-clause-there : goal.count_one-requires-2-clause-there
count_one-requires-2-clause-there c =
    let lt = counted_there c.self.inside.table c.add_ends.new.ases c.add_ends.new.counts.items c.in_ok-ends.ends.high _
    (c.add_ends.ensures.more.degrees c.self.inside.table c.self.invariant.degrees) c.in_ok-ends.ensures.ends.1 in
    let many = c.count_one.ensures.many in
    omega (arith, lt, many)

pub count_one-requires-2-clause-few : goal.count_one-requires-2-clause-few
count_one-requires-2-clause-few c =
    let le = counted_after c.self.inside.table c.add_ends.new.ases c.add_ends.new.counts.items c.count_one.new.counts.items c.in_ok-ends.ends.low c.max.result c.in_ok-ends.ends.high
    (c.add_ends.ensures.more.degrees c.self.inside.table c.self.invariant.degrees) c.in_ok-ends.ensures.ends.1 c.count_one.ensures in
    let n = ap length c.self.view_is in
    let room = c.requires.room in
    omega (arith, le, n, room)

pub invariant_of-self-2 : goal.invariant_of-self-2
invariant_of-self-2 c =
    let es = c.self.inside.table in
    let n = ap length c.self.view_is in
    let room = c.requires.room in
    let low : c.min.result ≡ min c.args.a c.args.b = search rules in
    let high : c.max.result ≡ max c.args.a c.args.b = search rules in
    let missing : list_any (is_same (edge_of c.args.a c.args.b)) c.args.self.now ≡ false = search rules in
    let absent : list_any (is_same (edge_of c.args.a c.args.b)) es ≡ false = ap (list_any (is_same (edge_of c.args.a c.args.b))) c.self.view_is ∙ missing in
    let pushed : c.push_reserved.new.self.items ≡ c.self.inside.ends.items ++ c.in_ok-ends.ends ∷ [] =
    c.push_reserved.ensures.items ∙ ap (λ ends. ends ++ c.in_ok-ends.ends ∷ []) c.reserve.ensures.items in
    subst (AreGraphEdges c.add.new.self c.add_ends.new.ases c.count_one-2.new.counts.items) (sym pushed)
    (AreGraphEdges-added es c.add.new.self c.add_ends.new.ases c.add_ends.new.counts.items c.count_one.new.counts.items c.count_one-2.new.counts.items c.self.inside.ends.items
    c.args.a c.args.b c.min.result c.max.result c.in_ok-ends.ends (AreGraphEdges-more _ _ _ _ _ _ c.self.invariant c.add_ends.ensures.more)
    c.requires.apart (omega (arith, n, room)) low high absent c.in_ok-added.ensures.ok c.in_ok-ends.ensures.ends c.count_one.ensures c.count_one-2.ensures)
