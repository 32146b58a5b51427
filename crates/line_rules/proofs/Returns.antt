-- The returns of givens, one by one, and the kept paths behind them.
use Rattle.std.proofs.Common.{◌≡◌, ℕ, Bool, false, inl, inr, List, [], ◌∷◌, ◌++◌, Option, Some, None, map, filter, slice_get, refl, sym, ap, ◌∙◌, append_assoc, append-nil}
use Rattle.std.specs.List.{list_any}
use Rattle.std.specs.Prelude.{IsNone}
use Rattle.std.proofs.lemmas.Bool.{cases_Bool}
use Rattle.std.proofs.lemmas.List.{map-append}
use Rattle.std.proofs.lemmas.List.Elements.{filter-append}
use Rattle.relationships.specs.declared.fate.Fate.{Fate}
use Rattle.relationships.specs.declared.fate.Fate.TheVariants.{Kept, Lost}
use Rattle.relationships.specs.declared.given.Given.{Given}
use Rattle.relationships.specs.Graph.{Edge, edge_of, is_same, edges}
use Rattle.relationships.specs.Steps.{end_left}
use Rattle.relationships.specs.Givens.{return_of}
use Rattle.relationships.proofs.GivenLemmas.{any_there}
use Rattle.result_text.specs.declared.file.PathLine.{PathLine}
use Rattle.result_text.specs.declared.file.EdgeLine.{EdgeLine}
use Rattle.result_text.specs.declared.file.ResultFile.{ResultFile}
use Rattle.result_rules.specs.File.{its_givens, its_paths, its_edges, its_returns}
use Rattle.tor_arena.proofs.Gets.{Contains-from_has}
use Rattle.line_rules.specs.declared.edges.step.Step.{Step}
use Rattle.line_rules.specs.EdgeLines.{edges_of}
use Rattle.line_rules.specs.Flipping.{with_kept, with_return, returns_on, kept_lines}
use Rattle.line_rules.specs.PathSteps.{place_in, left_in, AreCodedSteps}
use Rattle.line_rules.proofs.KeptLines.{kept_more}
use Rattle.line_rules.proofs.OrderPlaces.{edge_of-swap}

-- ---- one given more

pub returns_more : (es : List Edge) (givens : List Given) (g : Given) → returns_on es (givens ++ g ∷ []) ≡ with_return es (returns_on es givens) g
returns_more es givens g =
    ap (map return_of) (filter-append named givens (g ∷ [])) ∙ map-append return_of (filter named givens) (filter named (g ∷ [])) ∙
    elim (cases_Bool (list_any (is_same (edge_of g.over g.under)) es)) [
      | inl t ↦ rw t refl
      | inr n ↦ rw n (append-nil (returns_on es givens))
    ]
  where
    named : Given → Bool
    named h = list_any (is_same (edge_of h.over h.under)) es

pub return_there : (es : List Edge) (paths : List (List ℕ)) (g : Given) (k : ℕ) → slice_get es k ≡ Some (edge_of g.over g.under) → with_return es paths g ≡ paths ++ return_of g ∷ []
return_there es paths g k at = rw (any_there es (edge_of g.over g.under) (Contains-from_has es (edge_of g.over g.under) (k, at))) refl

-- where no case has a value there is none
pub is_none : (found : Option ℕ) → ((k : ℕ) → found ≡ Some k → ⊥) → IsNone found
is_none None not = refl
is_none (Some k) not = absurd (not k refl)

pub return_absent : (es : List Edge) (paths : List (List ℕ)) (g : Given) → list_any (is_same (edge_of g.over g.under)) es ≡ false → with_return es paths g ≡ paths
return_absent es paths g none = rw none refl

-- a return goes up along an edge and down along it again
pub return_steps : (es : List Edge) (g : Given) (k : ℕ) (up down : Step) → slice_get es k ≡ Some (edge_of g.over g.under) → place_in up ≡ k → left_in up ≡ end_left g.under g.over → place_in down ≡ k →
    left_in down ≡ end_left g.over g.under → AreCodedSteps es (return_of g) (up ∷ down ∷ [])
return_steps es g k up down at e e' f f' = (
  (ap (slice_get es) e ∙ at ∙ ap (λ (d : Edge). Some d) (edge_of-swap g.over g.under), e'),
  ((ap (slice_get es) f ∙ at, f'), tt),
)

-- ---- a file

-- the returns of its givens, and no kept path yet
pub returns_of_file : (file : ResultFile) (lines : List EdgeLine) (givens : List Given) → lines ≡ file.edges → givens ≡ its_givens file → its_edges file ≡ edges (its_paths file) →
    returns_on (edges_of lines) givens ≡ its_returns file ++ []
returns_of_file file lines givens e f whole =
    ap (λ (ls : List EdgeLine). returns_on (edges_of ls) givens) e ∙ ap (returns_on (its_edges file)) f ∙ ap (λ (es : List Edge). returns_on es (its_givens file)) whole ∙
    sym (append-nil (its_returns file))

behind : (returned kept : List (List ℕ)) (path : List ℕ) (fate : Fate) → with_kept (returned ++ kept) path fate ≡ returned ++ with_kept kept path fate
behind returned kept path Kept = append_assoc returned kept (path ∷ [])
behind returned kept path (Lost walk) = refl

-- one line more
pub served_more : (returned : List (List ℕ)) (lines : List PathLine) (line : PathLine) → with_kept (returned ++ kept_lines lines) line.path line.fate ≡ returned ++ kept_lines (lines ++ line ∷ [])
served_more returned lines line = behind returned (kept_lines lines) line.path line.fate ∙ ap (λ (l : List (List ℕ)). returned ++ l) (sym (kept_more lines line))
