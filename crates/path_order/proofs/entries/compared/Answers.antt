use Rattle.std.proofs.Common.{◌≡◌, ◌+◌, ◌*◌, ◌^◌, ap, ap₂, ◌∙◌}
use Rattle.std.specs.Ordering.{nat_cmp, ordering_then}
use Rattle.std.specs.Cmp.Lexicographic.{slice_cmp}
use Rattle.path_table.specs.Chains.{row_at}
use Rattle.path_order.proofs.PathComparisons.{stops, goes_on}
use Rattle.path_order.proofs.NotedLemmas.{pairs_are}
use Rattle.path_order.proofs.entries.compared.Goals as goal

pub returns-in_default-cmp-2 : goal.returns-in_default-cmp-2
returns-in_default-cmp-2 c =
    let a = c.args.a.now in
    let b = c.args.b.now in
    let rest = ordering_then (nat_cmp a.seventh b.seventh) (slice_cmp nat_cmp (row_at c.args.rows.now a.place) (row_at c.args.rows.now b.place)) in
    let first : c.cmp.result ≡ nat_cmp (a.first * 2 ^ 32 + a.second) (b.first * 2 ^ 32 + b.second) = c.cmp.ensures ∙ ap₂ nat_cmp c.pair.ensures.pair c.pair-2.ensures.pair in
    let second : c.cmp-2.result ≡ nat_cmp (a.third * 2 ^ 32 + a.fourth) (b.third * 2 ^ 32 + b.fourth) = c.cmp-2.ensures ∙ ap₂ nat_cmp c.pair-3.ensures.pair c.pair-4.ensures.pair in
    let third : c.cmp-3.result ≡ nat_cmp (a.fifth * 2 ^ 32 + a.sixth) (b.fifth * 2 ^ 32 + b.sixth) = c.cmp-3.ensures ∙ ap₂ nat_cmp c.pair-5.ensures.pair c.pair-6.ensures.pair in
    stops c.cmp-3.result rest c.in_default-cmp-2.not-Equal
    ∙ goes_on c.cmp-2.result (ordering_then c.cmp-3.result rest) c.in-Equal-cmp.is
    ∙ goes_on c.cmp.result (ordering_then c.cmp-2.result (ordering_then c.cmp-3.result rest)) c.in-Equal.is
    ∙ ap₂ ordering_then first (ap₂ ordering_then second (ap (λ o. ordering_then o rest) third))
    ∙ pairs_are c.args.rows.now a b c.pair.ensures.small c.pair-2.ensures.small c.pair-3.ensures.small c.pair-4.ensures.small c.pair-5.ensures.small c.pair-6.ensures.small

pub returns-in_default-cmp-3 : goal.returns-in_default-cmp-3
returns-in_default-cmp-3 c =
    let a = c.args.a.now in
    let b = c.args.b.now in
    let rest = slice_cmp nat_cmp (row_at c.args.rows.now a.place) (row_at c.args.rows.now b.place) in
    let first : c.cmp.result ≡ nat_cmp (a.first * 2 ^ 32 + a.second) (b.first * 2 ^ 32 + b.second) = c.cmp.ensures ∙ ap₂ nat_cmp c.pair.ensures.pair c.pair-2.ensures.pair in
    let second : c.cmp-2.result ≡ nat_cmp (a.third * 2 ^ 32 + a.fourth) (b.third * 2 ^ 32 + b.fourth) = c.cmp-2.ensures ∙ ap₂ nat_cmp c.pair-3.ensures.pair c.pair-4.ensures.pair in
    let third : c.cmp-3.result ≡ nat_cmp (a.fifth * 2 ^ 32 + a.sixth) (b.fifth * 2 ^ 32 + b.sixth) = c.cmp-3.ensures ∙ ap₂ nat_cmp c.pair-5.ensures.pair c.pair-6.ensures.pair in
    stops c.cmp-4.result rest c.in_default-cmp-3.not-Equal
    ∙ goes_on c.cmp-3.result (ordering_then c.cmp-4.result rest) c.in-Equal-cmp-2.is
    ∙ goes_on c.cmp-2.result (ordering_then c.cmp-3.result (ordering_then c.cmp-4.result rest)) c.in-Equal-cmp.is
    ∙ goes_on c.cmp.result (ordering_then c.cmp-2.result (ordering_then c.cmp-3.result (ordering_then c.cmp-4.result rest))) c.in-Equal.is
    ∙ ap₂ ordering_then first (ap₂ ordering_then second (ap₂ ordering_then third (ap (λ o. ordering_then o rest) c.cmp-4.ensures)))
    ∙ pairs_are c.args.rows.now a b c.pair.ensures.small c.pair-2.ensures.small c.pair-3.ensures.small c.pair-4.ensures.small c.pair-5.ensures.small c.pair-6.ensures.small

pub returns : goal.returns
returns c =
    let a = c.args.a.now in
    let b = c.args.b.now in
    let first : c.cmp.result ≡ nat_cmp (a.first * 2 ^ 32 + a.second) (b.first * 2 ^ 32 + b.second) = c.cmp.ensures ∙ ap₂ nat_cmp c.pair.ensures.pair c.pair-2.ensures.pair in
    let second : c.cmp-2.result ≡ nat_cmp (a.third * 2 ^ 32 + a.fourth) (b.third * 2 ^ 32 + b.fourth) = c.cmp-2.ensures ∙ ap₂ nat_cmp c.pair-3.ensures.pair c.pair-4.ensures.pair in
    let third : c.cmp-3.result ≡ nat_cmp (a.fifth * 2 ^ 32 + a.sixth) (b.fifth * 2 ^ 32 + b.sixth) = c.cmp-3.ensures ∙ ap₂ nat_cmp c.pair-5.ensures.pair c.pair-6.ensures.pair in
    goes_on c.cmp-4.result c.rows_compared.result c.in-Equal-cmp-3.is
    ∙ goes_on c.cmp-3.result (ordering_then c.cmp-4.result c.rows_compared.result) c.in-Equal-cmp-2.is
    ∙ goes_on c.cmp-2.result (ordering_then c.cmp-3.result (ordering_then c.cmp-4.result c.rows_compared.result)) c.in-Equal-cmp.is
    ∙ goes_on c.cmp.result (ordering_then c.cmp-2.result (ordering_then c.cmp-3.result (ordering_then c.cmp-4.result c.rows_compared.result))) c.in-Equal.is
    ∙ ap₂ ordering_then first (ap₂ ordering_then second (ap₂ ordering_then third (ap₂ ordering_then c.cmp-4.ensures c.rows_compared.ensures)))
    ∙ pairs_are c.args.rows.now a b c.pair.ensures.small c.pair-2.ensures.small c.pair-3.ensures.small c.pair-4.ensures.small c.pair-5.ensures.small c.pair-6.ensures.small
