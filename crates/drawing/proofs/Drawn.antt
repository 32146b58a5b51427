-- A picture is that of an AS.
use Rattle.std.proofs.Common.{◌≡◌, ℕ, List, sym, ap, ◌∙◌, subst}
use Rattle.result_text.specs.declared.file.EdgeLine.{EdgeLine}
use Rattle.drawing.specs.declared.group.Group.{Group}
use Rattle.drawing.specs.declared.group.Neighbour.{Neighbour}
use Rattle.drawing.specs.declared.group.Tally.{Tally}
use Rattle.drawing.specs.declared.group.NeighbourCounts.{NeighbourCounts}
use Rattle.drawing.specs.declared.drawing.Drawing.{Drawing}
use Rattle.drawing.specs.Neighbours.{neighbours, SortedNeighbours, tally}
use Rattle.drawing.specs.Picture.{IsDrawn, IsDrawingOf}
use Rattle.drawing.specs.Tidy.{IsTidy}
use Rattle.drawing.proofs.Sorting.{same_tally}
use Rattle.drawing.proofs.Tidying.{drawing_tidy}

abbrev counts_with : Tally → Tally → Tally → NeighbourCounts
counts_with p q c = record { providers = p; peers = q; customers = c }

same_counts : (p q c p' q' c' : Tally) → p ≡ p' → q ≡ q' → c ≡ c' → counts_with p q c ≡ counts_with p' q' c'
same_counts p q c p' q' c' e f g = ap (λ x. counts_with x q c) e ∙ ap (λ x. counts_with p' x c) f ∙ ap (λ x. counts_with p' q' x) g

pub drawn_of : (edges : List EdgeLine) (a most depth : ℕ) (ps qs cs : List Neighbour) → SortedNeighbours a Group.Providers edges ps →
    SortedNeighbours a Group.Peers edges qs → SortedNeighbours a Group.Customers edges cs → (d : Drawing) → IsDrawn edges a most depth ps qs cs d → IsDrawingOf edges a most depth d
drawn_of edges a most depth ps qs cs p q c d e = record {
  providers = ps;
  peers = qs;
  customers = cs;
  providers_are = p;
  peers_are = q;
  customers_are = c;
  is = e;
  counted = ap (λ x. x.counts) e.is ∙ same_counts (tally ps) (tally qs) (tally cs) _ _ _ (same_tally (neighbours a Group.Providers edges) ps p.same)
      (same_tally (neighbours a Group.Peers edges) qs q.same) (same_tally (neighbours a Group.Customers edges) cs c.same);
}

pub drawn_tidy : (edges : List EdgeLine) (a most depth : ℕ) (ps qs cs : List Neighbour) (d : Drawing) → IsDrawn edges a most depth ps qs cs d → IsTidy d
drawn_tidy edges a most depth ps qs cs d e = subst IsTidy (sym e.is) (drawing_tidy edges a most ps qs cs e.further)
