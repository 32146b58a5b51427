use Rattle.std.proofs.Common.{◌≡◌, ◌<◌, ◌∷◌, [], sym, ap, ◌∙◌, arith}
use Rattle.path_segments.specs.PathOf.{leading, leading_in, count_in}
use Rattle.path_segments.proofs.PathLemmas.{leading-none, leading-cut}
use Rattle.path_segments.proofs.path_cursor.LeadingCursor.next.Goals as goal

pub returns-then-most-eq0 : goal.returns-then-most-eq0
returns-then-most-eq0 c =
    let segments = c.self.inside.segments in
    let end : c.args.self.now ≡ [] = sym c.self.view_is ∙ ap (λ most. leading_in most segments) c.in-Some.is ∙ leading-none c.in-Some.most segments c.if-most-eq0.true in
    (end, end)

pub returns-else-count-most : goal.returns-else-count-most
returns-else-count-most c =
    let most = c.in-Some.most in
    let segment = c.in-Some-next.segment in
    let behind = c.next-2.new.self in
    let some : 0 < most = omega (arith, c.if-most-eq0.false) in
    let long : most < count_in segment = omega (arith, c.if-count-most.false, c.count-count.ensures) in
    sym c.self.view_is ∙ ap (λ m. leading_in m c.self.inside.segments) c.in-Some.is ∙ ap (leading most) c.in-Some-next.ensures
    ∙ leading-cut most segment behind some long ∙ ap (λ s. s ∷ leading 0 behind) (sym c.cut_to.ensures)
