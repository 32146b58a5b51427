use Rattle.std.proofs.Common.{◌∙◌, ap, subst, sym}
use Rattle.std.specs.List.Sorted.{IsBinarySearchResult}
use Rattle.std.specs.Ordering.{nat_cmp}
use Rattle.top_givens.specs.TopGivens.{is_top}
use Rattle.top_givens.proofs.SortedTop.{tells, unmarked}
use Rattle.top_givens.proofs.top_ases.TopAses.holds.Goals as goal

pub returns-then-mark-eq0 : goal.returns-then-mark-eq0
returns-then-mark-eq0 c =
    sym (unmarked c.self.inside.ases.items c.self.inside.marks c.args.number c.self.invariant.1 c.if-mark-eq0.true) ∙ ap (λ ases. is_top ases c.args.number) c.self.view_is

pub returns : goal.returns
returns c =
    let result = subst (λ ases. IsBinarySearchResult (λ y. nat_cmp y c.args.number) ases c.binary_search.result) c.as_slice-ases.ensures.value c.binary_search.ensures.position in
    c.is_ok.ensures.value ∙ tells c.self.inside.ases.items c.args.number c.binary_search.result c.self.invariant.0 result ∙ ap (λ ases. is_top ases c.args.number) c.self.view_is
