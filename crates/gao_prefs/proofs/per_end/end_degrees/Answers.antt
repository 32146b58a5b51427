use Rattle.std.proofs.Common.{◌≡◌, ◌<◌, ◌++◌, ◌∷◌, [], length, get_or, rules, ap, ap₂, ◌∙◌, ℕ, arith}
use Rattle.relationships.specs.Graph.{edges, degree}
use Rattle.gao_prefs.specs.declared.per_end.PerEnd.{PerEnd}
use Rattle.gao_prefs.specs.Ends.{degrees_of}
use Rattle.gao_prefs.proofs.PrefLemmas.{degrees_more}
use Rattle.gao_prefs.proofs.per_end.end_degrees.Goals as goal

pub loop-place-preserved : goal.loop-place-preserved
loop-place-preserved c =
    let paths = c.args.graph.now in
    let place = c.loop-place.place in
    let same : c.unwrap.result ≡ place = search rules in
    let test = c.loop-place-test.true in
    let count = c.edge_count-count.ensures.count in
    let within : place < length (edges paths) = omega (arith, test, count) in
    let low : c.end_degrees-ends.result.low ≡ degree paths (get_or (edges paths) place (0, 0)).0 =
    c.end_degrees-ends.ensures.low ∙ ap (λ k. degree paths (get_or (edges paths) k (0, 0)).0) same in
    let high : c.end_degrees-ends.result.high ≡ degree paths (get_or (edges paths) place (0, 0)).1 =
    c.end_degrees-ends.ensures.high ∙ ap (λ k. degree paths (get_or (edges paths) k (0, 0)).1) same in
    let pushed : c.push_reserved.new.self.items ≡ c.loop-place.degrees.items ++ degrees_of paths (get_or (edges paths) place (0, 0)) ∷ [] =
    c.push_reserved.ensures.items ∙ ap (λ l. l ++ per_end c.end_degrees-ends.result.low c.end_degrees-ends.result.high ∷ []) c.reserve.ensures.items ∙
    ap₂ (λ (x y : ℕ). c.loop-place.degrees.items ++ per_end x y ∷ []) low high in
    degrees_more paths (edges paths) place c.loop-place.degrees.items c.push_reserved.new.self.items within c.loop-place.invariant pushed
  where
    per_end : ℕ → ℕ → PerEnd
    per_end x y = record { low = x; high = y }
