-- What a selector keeps true, when a path is kept and when it is lost.
use Rattle.std.proofs.Common.{◌≡◌, ℕ, ◌*◌, List, [], length, flat_map, sym, ap, ◌∙◌, subst, arith}
use Rattle.std.specs.Prelude.{slice_get, Result, Ok, Err, OnErr}
use Rattle.relationships.specs.declared.label.End.{End}
use Rattle.tor_clauses.specs.Triples.{arcs_of}
use Rattle.tor_clauses.specs.Formulas.{Formula, IsModel, first_of, mark_of}
use Rattle.tor_clauses.proofs.Arcs.{length-arcs}
use Rattle.tor_clauses.specs.declared.clauses.ClauseMark.{ClauseMark}
use Rattle.tor_mend.specs.declared.mending.State.{State}
use Rattle.tor_mend.specs.declared.flipping.Flip.{Flip}
use Rattle.tor_mend.specs.Mends.{IsState, AreInside, flipped_back}
use Rattle.path_offer.specs.Repairs.{AreMet}
use Rattle.tor_mend.specs.Ways.{AreKnown}
use Rattle.path_offer.specs.Inside.{IsKeeping}
use Rattle.path_offer.proofs.Keepings.{met_all}
use Rattle.tor_mend.proofs.Knowing.{known_kept, known_cut}

-- of an error
pub at_error : {T E : Type 0} (r : Result T E) (P : Type 0) → P → OnErr r P
at_error (Ok x) P p = tt
at_error (Err e) P p = p

none_inside : (count : ℕ) (flips : List Flip) → flips ≡ [] → AreInside count flips
none_inside count flips none k f at = absurd (let bad = sym at ∙ ap (λ (l : List Flip). slice_get l k) none in cc)

-- the triples that are counted have all arcs, two each
pub arcs_marked : (f : Formula) (mark : ClauseMark) → f.net.arcs ≡ flat_map arcs_of f.triples → mark ≡ mark_of f → mark.triples * 2 ≡ length f.net.arcs
arcs_marked f mark are is = ap (λ (m : ClauseMark). m.triples * 2) is ∙ sym (ap length are ∙ length-arcs f.triples)

module _ (f g : Formula) (mark : ClauseMark) (prefix : first_of g mark ≡ f) (s : State) where
  pub kept_on : (flips : List Flip) → flips ≡ [] → IsState g.net.nodes s → AreMet g.net.arcs (length g.net.arcs) s.ends → AreKnown g.net.arcs (length f.net.arcs) s.known →
      IsKeeping g (record { ends = s.ends; trail = s.trail; flips = flips; known = s.known })
  kept_on flips none state met known = record {
    state = record { ends = state.ends; trail = state.trail; flips = none_inside (length s.ends) flips none };
    model = met_all g s.ends met;
    known = known_kept f g mark prefix s.known known;
    none = none;
  }

  pub kept_back : (old : State) (now : Formula) (ends : List End) (flips : List Flip) → now ≡ f → IsKeeping f old → IsState g.net.nodes s → AreKnown g.net.arcs (length f.net.arcs) s.known →
      flipped_back s.ends s.flips ≡ flipped_back old.ends old.flips → ends ≡ flipped_back s.ends s.flips → flips ≡ [] →
      IsKeeping now (record { ends = ends; trail = s.trail; flips = flips; known = s.known })
  kept_back old now ends flips cut keeping state known back flipped none =
      let nodes : g.net.nodes ≡ f.net.nodes = ap (λ h. h.net.nodes) prefix in
      let same : ends ≡ old.ends = flipped ∙ back ∙ ap (flipped_back old.ends) keeping.none in
      let many = ap length same in
      let old_many = keeping.state.ends in
      subst (λ h. IsKeeping h (record { ends = ends; trail = s.trail; flips = flips; known = s.known })) (sym cut) (record {
        state = record {
          ends = omega (arith, many, old_many);
          trail = state.trail ∙ nodes;
          flips = none_inside (length ends) flips none;
        };
        model = subst (IsModel f) (sym same) keeping.model;
        known = known_cut f g mark prefix s.known known;
        none = none;
      })

-- the same clauses with other paths
pub kept_still : (f g : Formula) (paths : List ℕ) (s : State) → g ≡ record f { paths = paths } → IsKeeping f s → IsKeeping g s
kept_still f g paths s same keeping =
    subst (λ h. IsKeeping h s) (sym same) (record { state = keeping.state; model = keeping.model; known = keeping.known; none = keeping.none })
