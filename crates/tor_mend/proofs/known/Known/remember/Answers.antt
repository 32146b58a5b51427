use Rattle.std.proofs.Common.{ℕ, ◌≡◌, ◌∷◌, [], ◌++◌, List, Some, length, refl, sym, ap, subst, ◌∙◌}
use Rattle.std.specs.Prelude.{slice_get}
use Rattle.tor_arena.proofs.Gets.{slice_get-push_last}
use Rattle.tor_mend.specs.Ways.{AreKnown}
use Rattle.tor_digraph.specs.declared.way.Way.{Way}
use Rattle.tor_mend.specs.declared.known.Known.{Known}
use Rattle.tor_mend.proofs.Knowing.{known_way}
use Rattle.tor_mend.proofs.known.Known.remember.Goals as goal

pub remember_parts-requires-clause-known : goal.remember_parts-requires-clause-known
remember_parts-requires-clause-known c =
    let way : Way ℕ ℕ = c.args.way.now in
    let old : Known = c.make_room.new.self in
    let new : Known = record { places = old.places; parts = old.parts; ways = c.push.new.self } in
    known_way c.args.fitted.now.formula.net.arcs c.args.first way old new
    (c.in_ok-push.ensures.ok ∙ ap (λ w. old.ways ++ w ∷ []) c.in_ok-copy.ensures) refl refl
    (c.make_room.ensures.known c.args.fitted.now.formula.net.arcs c.args.first c.requires.known)

pub remember_parts-requires-clause-there : goal.remember_parts-requires-clause-there
remember_parts-requires-clause-there c =
    let ways : List (Way ℕ ℕ) = c.make_room.new.self.ways in
    let way : Way ℕ ℕ = c.args.way.now in
    let same : c.push.new.self ≡ ways ++ way ∷ [] = c.in_ok-push.ensures.ok ∙ ap (λ w. ways ++ w ∷ []) c.in_ok-copy.ensures in
    subst (λ k. slice_get c.push.new.self k ≡ Some way) (sym c.len-place.ensures)
    (ap (λ (l : List (Way ℕ ℕ)). slice_get l (length ways)) same ∙ slice_get-push_last ways way)

pub returns-in_err-push : goal.returns-in_err-push
returns-in_err-push c = record {
  known = subst (λ (ways : List (Way ℕ ℕ)). AreKnown c.args.fitted.now.formula.net.arcs c.args.first (record { places = c.make_room.new.self.places; parts = c.make_room.new.self.parts; ways = ways }))
      (sym c.in_err-push.ensures.err) (c.make_room.ensures.known c.args.fitted.now.formula.net.arcs c.args.first c.requires.known);
}
