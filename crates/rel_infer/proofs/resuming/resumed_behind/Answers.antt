use Rattle.std.proofs.Common.{◌≡◌, ◌-◌, ◌∙◌, ◌++◌, List, [], All, length, unwrap_or, refl, sym, ap, subst, arith}
use Rattle.relationships.specs.declared.fate.Fate.{Fate}
use Rattle.relationships.specs.declared.given.Given.{Given}
use Rattle.relationships.specs.Givens.{returns}
use Rattle.tor_arena.specs.Distinct.{AllDistinct}
use Rattle.path_select.specs.Behind.{places_from}
use Rattle.result_text.specs.Text.{its_givens}
use Rattle.rel_infer.specs.Finding.{AreInferredIn}
use Rattle.rel_infer.proofs.Acceptance.{same_givens}
use Rattle.rel_infer.proofs.Continuing.{fates_fit, kept_there, keeps_there}
use Rattle.rel_infer.proofs.Linking.{long, front_is, edges_same, numbers_same, unlinked}
use Rattle.rel_infer.proofs.resuming.resumed_behind.Goals as goal

pub inferred_on-requires-clause-kept : goal.inferred_on-requires-clause-kept
inferred_on-requires-clause-kept c =
    let known = unwrap_or c.args.earlier.givens [] in
    let earlier = c.requires.begins.file in
    let paths = c.args.paths.now in
    let graph = c.in-Ok.started.graph in
    let givens : known ≡ its_givens earlier = same_givens earlier c.args.earlier.givens (sym c.requires.begins.left.givens) in
    let own = c.in-Ok.ensures.graph in
    let same = own ∙ ap (λ (gs : List Given). paths ++ returns paths gs) givens in
    let n = c.len-count.result in
    let many = c.len-count.ensures.length in
    kept_there earlier paths graph c.requires.begins.begins same c.parts_of-parts.result.fates (c.parts_of-parts.ensures.fates ∙ c.requires.begins.left.fates) n many
    c.in-Ok.started.first.places (c.in-Ok.ensures.kept earlier c.requires.begins.left c.requires.begins.begins)

pub inferred_on-requires-clause-keeps : goal.inferred_on-requires-clause-keeps
inferred_on-requires-clause-keeps c =
    let known = unwrap_or c.args.earlier.givens [] in
    let earlier = c.requires.begins.file in
    let paths = c.args.paths.now in
    let graph = c.in-Ok.started.graph in
    let givens : known ≡ its_givens earlier = same_givens earlier c.args.earlier.givens (sym c.requires.begins.left.givens) in
    let own = c.in-Ok.ensures.graph in
    let same = own ∙ ap (λ (gs : List Given). paths ++ returns paths gs) givens in
    let n = c.len-count.result in
    let many = c.len-count.ensures.length in
    keeps_there earlier paths graph c.requires.begins.begins same c.parts_of-parts.result.fates (c.parts_of-parts.ensures.fates ∙ c.requires.begins.left.fates) n many c.requires.begins.accepted

pub inferred_on-requires-clause-begun : goal.inferred_on-requires-clause-begun
inferred_on-requires-clause-begun c =
    let known = unwrap_or c.args.earlier.givens [] in
    let earlier = c.requires.begins.file in
    let paths = c.args.paths.now in
    let graph = c.in-Ok.started.graph in
    let givens : known ≡ its_givens earlier = same_givens earlier c.args.earlier.givens (sym c.requires.begins.left.givens) in
    let own = c.in-Ok.ensures.graph in
    let same = own ∙ ap (λ (gs : List Given). paths ++ returns paths gs) givens in
    let n = c.len-count.result in
    let many = c.len-count.ensures.length in
    fates_fit earlier paths graph c.requires.begins.begins same c.parts_of-parts.result.fates (c.parts_of-parts.ensures.fates ∙ c.requires.begins.left.fates) n many

pub inferred_on-requires-clause-count : goal.inferred_on-requires-clause-count
inferred_on-requires-clause-count c =
    let known = unwrap_or c.args.earlier.givens [] in
    let earlier = c.requires.begins.file in
    let paths = c.args.paths.now in
    let graph = c.in-Ok.started.graph in
    let givens : known ≡ its_givens earlier = same_givens earlier c.args.earlier.givens (sym c.requires.begins.left.givens) in
    let own = c.in-Ok.ensures.graph in
    let same = own ∙ ap (λ (gs : List Given). paths ++ returns paths gs) givens in
    let n = c.len-count.result in
    let many = c.len-count.ensures.length in
    let sum = long (its_givens earlier) paths graph same in
    omega (arith, sum, many)

pub inferred_on-requires-clause-distinct : goal.inferred_on-requires-clause-distinct
inferred_on-requires-clause-distinct c =
    let known = unwrap_or c.args.earlier.givens [] in
    let earlier = c.requires.begins.file in
    let paths = c.args.paths.now in
    let graph = c.in-Ok.started.graph in
    let givens : known ≡ its_givens earlier = same_givens earlier c.args.earlier.givens (sym c.requires.begins.left.givens) in
    let own = c.in-Ok.ensures.graph in
    let same = own ∙ ap (λ (gs : List Given). paths ++ returns paths gs) givens in
    let n = c.len-count.result in
    let many = c.len-count.ensures.length in
    subst (All AllDistinct) (sym (front_is (its_givens earlier) paths graph same n many)) c.requires.apart

pub returns-in-Ok-inferred_on-clause-inferred : goal.returns-in-Ok-inferred_on-clause-inferred
returns-in-Ok-inferred_on-clause-inferred c =
    let known = unwrap_or c.args.earlier.givens [] in
    let earlier = c.requires.begins.file in
    let paths = c.args.paths.now in
    let graph = c.in-Ok.started.graph in
    let givens : known ≡ its_givens earlier = same_givens earlier c.args.earlier.givens (sym c.requires.begins.left.givens) in
    let own = c.in-Ok.ensures.graph in
    let same = own ∙ ap (λ (gs : List Given). paths ++ returns paths gs) givens in
    let n = c.len-count.result in
    let many = c.len-count.ensures.length in
    let i = c.in-Ok-inferred_on.inferred in
    let first = places_from n (length graph - n) in
    let numbered = c.in-Ok.ensures.numbers ∙ sym (numbers_same graph paths (edges_same known paths graph own) 1 known) in
    unlinked known paths graph own c.args.ratio n first c.args.earlier.fates c.started_in.new.numbers i many refl numbered
    (subst (λ (fs : List Fate). AreInferredIn c.args.ratio graph first n fs i) c.parts_of-parts.ensures.fates c.in-Ok-inferred_on.ensures.inferred)

pub returns-in-Ok-inferred_on-clause-paths : goal.returns-in-Ok-inferred_on-clause-paths
returns-in-Ok-inferred_on-clause-paths c =
    let known = unwrap_or c.args.earlier.givens [] in
    let own = c.in-Ok.ensures.graph in
    c.in-Ok-inferred_on.ensures.paths ∙ front_is known c.args.paths.now c.in-Ok.started.graph own c.len-count.result c.len-count.ensures.length
