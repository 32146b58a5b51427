use Rattle.std.proofs.Common.{◌≡◌, ◌∙◌, ◌∷◌, ◌++◌, [], ap, ap₂, sym, subst}
use Rattle.dump_read.specs.Batches.{merged_by, IsBatch}
use Rattle.dump_read.proofs.BatchLemmas.{merged_by-push, IsBatch-push}
use Rattle.dump_read.proofs.batch.Batch.merge.Goals as goal

pub returns-in-Ok-clause-routes : goal.returns-in-Ok-clause-routes
returns-in-Ok-clause-routes c =
    let causes = c.self.inside.causes.items in
    let paths = c.self.inside.paths in
    let cause = c.in-Ok.cause in
    let put = c.in-Ok.ensures.merged in
    let new_causes : c.push_reserved.new.self.items ≡ causes ++ cause ∷ [] = c.push_reserved.ensures.items ∙ ap (λ t. t ++ cause ∷ []) c.reserve.ensures.items in
    ap₂ merged_by new_causes put.behind
    ∙ merged_by-push causes paths cause put.path c.self.invariant.same
    ∙ ap₂ (λ b one. b.routes ++ one ∷ []) c.self.view_is put.same

pub invariant_of-self-in-Ok : goal.invariant_of-self-in-Ok
invariant_of-self-in-Ok c =
    let causes = c.self.inside.causes.items in
    let paths = c.self.inside.paths in
    let cause = c.in-Ok.cause in
    let put = c.in-Ok.ensures.merged in
    let new_causes : c.push_reserved.new.self.items ≡ causes ++ cause ∷ [] = c.push_reserved.ensures.items ∙ ap (λ t. t ++ cause ∷ []) c.reserve.ensures.items in
    subst (IsBatch c.push_reserved.new.self.items) (sym put.behind) (subst (λ cs. IsBatch cs (paths ++ put.path ∷ [])) (sym new_causes)
    (IsBatch-push causes paths cause put.path c.self.invariant))
