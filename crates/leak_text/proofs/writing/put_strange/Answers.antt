use Rattle.std.proofs.Common.{◌≡◌, ◌∙◌, rules, get_or, ap, ap₂, sym, arith}
use Rattle.tor_io.proofs.Putting.{puts_as}
use Rattle.leak_text.specs.LeakText.{graded_row, strange_line, with_graded, with_strange}
use Rattle.leak_text.proofs.LineLemmas.{kept_there, long_at, lost_there, strange_row}
use Rattle.leak_text.proofs.writing.put_strange.Goals as goal

pub grade_path-grade-requires : goal.grade_path-grade-requires
grade_path-grade-requires g c =
    let leaks = c.args.leaks.now in
    let all = leaks.short in
    let one = long_at leaks.rows c.index-as_slice-place.result.place c.row-path.result.now c.row-path.ensures in
    omega (arith, all, one)

pub returns-in-Some-clause-line : goal.returns-in-Some-clause-line
returns-in-Some-clause-line g c = λ row fate at its.
    let leaks = c.args.leaks.now in
    let same : c.unwrap.result ≡ c.args.place = search rules in
    let item = c.index-as_slice-place.is ∙ ap (λ ms. get_or ms c.args.place c.index-as_slice-place.result) c.as_slice.ensures in
    let row_is = strange_row leaks.rows leaks.met c.args.place c.index-as_slice-place.result c.row-path.result.now row c.requires.there item c.row-path.ensures at in
    let fate_is = lost_there leaks.fates c.args.place c.unwrap.result fate c.walk.result c.in-Some.walk same its c.walk.ensures c.in-Some.is in
    puts_as c.put_leak.ensures (ap₂ (strange_line leaks.rel leaks.own) (sym row_is) (sym fate_is))

pub returns-in-None-clause-line : goal.returns-in-None-clause-line
returns-in-None-clause-line g c = λ row fate at its.
    let leaks = c.args.leaks.now in
    let same : c.unwrap.result ≡ c.args.place = search rules in
    let item = c.index-as_slice-place.is ∙ ap (λ ms. get_or ms c.args.place c.index-as_slice-place.result) c.as_slice.ensures in
    let row_is = strange_row leaks.rows leaks.met c.args.place c.index-as_slice-place.result c.row-path.result.now row c.requires.there item c.row-path.ensures at in
    let fate_is = kept_there leaks.fates c.args.place c.unwrap.result fate c.walk.result same its c.walk.ensures c.in-None.is in
    puts_as c.put_graded.ensures
    (ap (graded_row (record { path = c.row-path.result.now; times = c.index-as_slice-place.result.times })) c.grade_path-grade.ensures.grade ∙
    ap₂ (strange_line leaks.rel leaks.own) (sym row_is) (sym fate_is))

pub returns-in-None-clause-totals : goal.returns-in-None-clause-totals
returns-in-None-clause-totals g c = λ row fate at its.
    let leaks = c.args.leaks.now in
    let same : c.unwrap.result ≡ c.args.place = search rules in
    let item = c.index-as_slice-place.is ∙ ap (λ ms. get_or ms c.args.place c.index-as_slice-place.result) c.as_slice.ensures in
    let row_is = strange_row leaks.rows leaks.met c.args.place c.index-as_slice-place.result c.row-path.result.now row c.requires.there item c.row-path.ensures at in
    let fate_is = kept_there leaks.fates c.args.place c.unwrap.result fate c.walk.result same its c.walk.ensures c.in-None.is in
    c.with_graded.ensures ∙ ap (λ g. with_graded g c.args.totals) c.grade_path-grade.ensures.grade ∙
    ap₂ (λ r f. with_strange leaks.rel r f c.args.totals) (sym row_is) (sym fate_is)
