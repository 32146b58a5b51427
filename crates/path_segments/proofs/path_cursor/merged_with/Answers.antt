use Rattle.std.proofs.Common.{◌≡◌, ◌<◌, ◌≤◌, ◌-◌, true, false, ap₂, ◌∙◌, rules, arith}
use Rattle.path_segments.specs.PathOf.{has_no_confed, is_aggregated_anew, ases_in}
use Rattle.path_segments.proofs.PathLemmas.{too_long, merges}
use Rattle.path_segments.proofs.path_cursor.merged_with.Goals as goal

pub returns-then-as4_count-count : goal.returns-then-as4_count-count
returns-then-as4_count-count c =
    let segments = c.args.segments in
    let as4 = c.in-Some.as4 in
    let count : c.count_of-count.result ≡ ases_in segments = search rules in
    let as4_count : c.count_of-as4_count.result ≡ ases_in as4 = search rules in
    let long : ases_in segments < ases_in as4 = omega (arith, c.if-as4_count-count.true, count, as4_count) in
    c.of_all-then-as4_count-count.ensures ∙ too_long c.args.attrs.now segments as4 c.in-Some.ensures.as4 long

pub returns : goal.returns
returns c =
    let segments = c.args.segments in
    let as4 = c.in-Some.as4 in
    let plain : has_no_confed segments ≡ true = search rules in
    let old : is_aggregated_anew c.args.attrs.now ≡ false = search rules in
    let count : c.count_of-count.result ≡ ases_in segments = search rules in
    let as4_count : c.count_of-as4_count.result ≡ ases_in as4 = search rules in
    let few : ases_in as4 ≤ ases_in segments = omega (arith, c.if-as4_count-count.false, count, as4_count) in
    let left : c.count_of-count.result - c.count_of-as4_count.result ≡ ases_in segments - ases_in as4 = ap₂ (λ n m. n - m) count as4_count in
    merges c.args.attrs.now segments as4 (c.count_of-count.result - c.count_of-as4_count.result) c.in-Some.ensures.as4 plain old few left
