use Rattle.std.proofs.Common.{rules, ◌≡◌, ◌∙◌, ℕ, List, [], Some, length, sym, ap}
use Rattle.std.specs.Prelude.{slice_get, flat_map}
use Rattle.tor_clauses.specs.Triples.{arcs_of}
use Rattle.path_offer.proofs.selector.Selector.new.Goals as goal

none : (arcs : List (ℕ × ℕ)) (k l m : ℕ) → arcs ≡ [] → slice_get arcs k ≡ Some (l, m) → ⊥
none arcs k l m empty at = let bad = sym at ∙ ap (λ (list : List (ℕ × ℕ)). slice_get list k) empty in cc

pub invariant_of-result : goal.invariant_of-result
invariant_of-result c =
    let f = c.in_ok-clauses.clauses in
    let s = c.in-Ok.state in
    let empty : f.net.arcs ≡ [] = c.in_ok-clauses.ensures.fits.arcs ∙ ap (flat_map arcs_of) c.in_ok-clauses.ensures.triples in
    record {
      state = search rules;
      model = λ k l m at. absurd (none f.net.arcs k l m empty at);
      known = c.in-Ok.ensures.known f.net.arcs (length f.net.arcs);
      none = c.in-Ok.ensures.flips;
    }
