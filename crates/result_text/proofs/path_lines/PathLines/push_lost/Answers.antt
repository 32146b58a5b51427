use Rattle.std.proofs.Common.{◌≡◌, ◌∙◌, ap, ap₂, arith, rules, ◌∷◌, ◌++◌, [], length, take}
use Rattle.std.proofs.Math.Seq.{take-append_seam}
use Rattle.std.proofs.lemmas.List.{length-append}
use Rattle.relationships.specs.declared.fate.Fate.TheVariants.{Lost}
use Rattle.result_text.specs.PathLines.{line_with, lines_by}
use Rattle.result_text.proofs.PathLineLemmas.{lines_by-push}
use Rattle.result_text.proofs.path_lines.PathLines.push_lost.Goals as goal

pub returns-clause-added : goal.returns-clause-added
returns-clause-added c =
    let f = c.self.inside in
    let fate = Lost c.args.walk.now in
    let times : c.push_reserved.new.self.items ≡ f.times.items ++ c.args.times ∷ [] = c.push_reserved.ensures.items ∙ ap (λ ts. ts ++ c.args.times ∷ []) c.reserve.ensures.items in
    let fates : c.push_lost.new.self ≡ f.fates ++ fate ∷ [] = search rules in
    ap (λ ps. lines_by ps c.push_reserved.new.self.items c.push_lost.new.self) c.in-Ok.ensures.added
    ∙ ap₂ (λ ts fs. lines_by (f.paths ++ c.args.path.now ∷ []) ts fs) times fates
    ∙ lines_by-push c.args.path.now c.args.times fate f.paths f.times.items f.fates c.self.invariant.0 c.self.invariant.1
    ∙ ap (λ ls. ls ++ line_with c.args.times c.args.path.now fate ∷ []) c.self.view_is

pub invariant_of-self : goal.invariant_of-self
invariant_of-self c = (ap length c.reserve.ensures.items ∙ c.self.invariant.0, c.self.invariant.1)

pub returns-in_default-clause-unchanged : goal.returns-in_default-clause-unchanged
returns-in_default-clause-unchanged c =
    let f = c.self.inside in
    ap (λ ps. lines_by ps c.reserve.new.self.items f.fates) c.in_default.ensures.unchanged ∙ ap (λ ts. lines_by f.paths ts f.fates) c.reserve.ensures.items
    ∙ c.self.view_is

pub cut_to-requires : goal.cut_to-requires
cut_to-requires c =
    let many = ap length c.in-Ok.ensures.added in
    omega (arith, c.len-count.ensures.length, many, length-append c.self.inside.paths (c.args.path.now ∷ []))

pub returns-in_default-push_lost-clause-unchanged : goal.returns-in_default-push_lost-clause-unchanged
returns-in_default-push_lost-clause-unchanged c =
    let f = c.self.inside in
    let cut : c.cut_to.new.self ≡ f.paths =
    c.cut_to.ensures ∙ ap₂ take c.len-count.ensures.length c.in-Ok.ensures.added ∙ take-append_seam f.paths (c.args.path.now ∷ []) in
    ap (λ ps. lines_by ps c.reserve.new.self.items c.push_lost.new.self) cut
    ∙ ap₂ (λ ts fs. lines_by f.paths ts fs) c.reserve.ensures.items c.in_default-push_lost.ensures.unchanged ∙ c.self.view_is
