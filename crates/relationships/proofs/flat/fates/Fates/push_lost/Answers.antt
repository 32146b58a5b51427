use Rattle.std.proofs.Common.{◌≡◌, ◌∙◌, ◌+◌, ap, ap₂, sym, subst, rules, length, ◌∷◌, ◌++◌, [], Some}
use Rattle.relationships.specs.declared.fate.Fate.TheVariants.{Lost}
use Rattle.relationships.specs.Flat.{walk_with, fates_by, places_by, AreWalkPlaces}
use Rattle.relationships.proofs.FlatLemmas.{fates_by-push, AreWithin-push, places_by-push, place_by-some}
use Rattle.relationships.proofs.flat.fates.Fates.push_lost.Goals as goal

pub invariant_of-self-2 : goal.invariant_of-self-2
invariant_of-self-2 c =
    let w = walk_with c.args.ases.now c.args.links.now in
    let f = c.self.inside in
    let numbers : c.push_reserved.new.self.items ≡ f.numbers.items ++ (length f.walks + 1) ∷ [] = search rules in
    let walks : c.push.new.self ≡ f.walks ++ w ∷ [] = search rules in
    let places : places_by c.push_reserved.new.self.items ≡ places_by f.numbers.items ++ Some (length f.walks) ∷ [] =
    ap places_by numbers ∙ places_by-push f.numbers.items (length f.walks + 1) ∙ ap (λ p. places_by f.numbers.items ++ p ∷ []) (place_by-some (length f.walks)) in
    subst (λ ws. AreWalkPlaces ws (places_by c.push_reserved.new.self.items)) (sym walks)
    (subst (AreWalkPlaces (f.walks ++ w ∷ [])) (sym places) (AreWithin-push f.walks w (places_by f.numbers.items) c.self.invariant))

pub returns-clause-added : goal.returns-clause-added
returns-clause-added c =
    let w = walk_with c.args.ases.now c.args.links.now in
    let f = c.self.inside in
    let numbers : c.push_reserved.new.self.items ≡ f.numbers.items ++ (length f.walks + 1) ∷ [] = search rules in
    let walks : c.push.new.self ≡ f.walks ++ w ∷ [] = search rules in
    let places : places_by c.push_reserved.new.self.items ≡ places_by f.numbers.items ++ Some (length f.walks) ∷ [] =
    ap places_by numbers ∙ places_by-push f.numbers.items (length f.walks + 1) ∙ ap (λ p. places_by f.numbers.items ++ p ∷ []) (place_by-some (length f.walks)) in
    ap₂ fates_by walks places ∙ fates_by-push f.walks w (places_by f.numbers.items) c.self.invariant
    ∙ ap (λ fs. fs ++ Lost w ∷ []) c.self.view_is
