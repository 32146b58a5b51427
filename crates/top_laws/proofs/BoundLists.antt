-- What is bound beside the lines of a file, and on top of an earlier result.
use Rattle.std.proofs.Common.{◌≡◌, List, ◌++◌, take, refl, sym, ap, ap₂, ◌∙◌, append-nil}
use Rattle.relationships.specs.Graph.{Edge, edge_of, is_same, edges}
use Rattle.as_rel.specs.Givens.{givens_in, pairs_in, peer_pairs}
use Rattle.as_rel.specs.declared.line.RelLine.{RelLine}
use Rattle.as_rel.proofs.FewLines.{named_pairs_law}
use Rattle.top_givens.specs.TopGivens.{is_paired, top_givens, given_pairs}
use Rattle.top_givens.proofs.Members.{given_paired, same_top_law}
use Rattle.top_laws.specs.Bound.{TopOfFileLaw, TopBehindLaw}

-- the pairs of givens and peerings are those that lines name
same_pairs : (rel : List RelLine) (e : Edge) → is_paired (given_pairs (givens_in rel) ++ peer_pairs rel) e ≡ is_paired (pairs_in rel) e
same_pairs rel e = named_pairs_law (λ p. is_same e (edge_of p.0 p.1)) rel

pub top_of_file_law : TopOfFileLaw
top_of_file_law bytes known top paths says = (
  ap₂ (λ gs ps. gs ++ top_givens top ps paths) says.givens pairs ∙
      ap (λ gs. givens_in says.rel ++ gs) (same_top_law top top (given_pairs (givens_in says.rel) ++ peer_pairs says.rel) (pairs_in says.rel) paths (λ a. refl) (λ e t. same_pairs says.rel e)),
  λ g c. sym (same_pairs says.rel (edge_of g.over g.under)) ∙ given_paired (givens_in says.rel) (peer_pairs says.rel) g c,
)
  where
    pairs : (given_pairs known.givens ++ known.peers) ++ edges (take 0 paths) ≡ given_pairs (givens_in says.rel) ++ peer_pairs says.rel
    pairs = append-nil (given_pairs known.givens ++ known.peers) ∙ ap₂ (λ gs ps. given_pairs gs ++ ps) says.givens says.peers

pub top_behind_law : TopBehindLaw
top_behind_law givens top earlier paths count begins =
    ap₂ (λ ps es. givens ++ top_givens top (ps ++ edges es) paths) (append-nil (given_pairs givens)) begins
