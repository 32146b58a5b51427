-- The givens of lines.
use Rattle.std.proofs.Common.{◌≡◌, ◌∙◌, ◌<◌, List, length, get_or, filter, sym, ap, arith}
use Rattle.std.specs.Prelude.{◌≢◌}
use Rattle.std.proofs.lemmas.List.{length-map, get_or-map}
use Rattle.std.proofs.lemmas.List.Elements.{All-map, All-filter, All-weaker}
use Rattle.std.proofs.lemmas.List.Kept.{AllPairs-filter}
use Rattle.relationships.specs.declared.given.Given.{Given}
use Rattle.relationships.specs.Graph.{edge_of}
use Rattle.relationships.specs.Givens.{NameTwo, NameOnce}
use Rattle.as_rel.specs.declared.line.RelKind.TheVariants.{Transit}
use Rattle.as_rel.specs.declared.line.RelLine.{RelLine}
use Rattle.as_rel.specs.Serial.{IsProperLine, NamesPairsOnce, pair_of, rel_line}
use Rattle.as_rel.specs.Givens.{is_transit, given_by, givens_in}

-- the transits among the lines
abbrev transits : List RelLine → List RelLine
transits rel = filter (λ l. is_transit l.kind) rel

-- lines that name two ASes give what names two
pub name_two : (rel : List RelLine) → NamesPairsOnce rel → NameTwo (givens_in rel)
name_two rel once =
    All-map (λ g. g.over ≢ g.under) given_by (transits rel)
    (All-filter (λ l. is_transit l.kind) (λ l. l.first ≢ l.second) rel (All-weaker IsProperLine (λ l. l.first ≢ l.second) (λ l proper. proper.apart) rel once.proper))

-- lines of which no two name the same two give what names them once
pub name_once : (rel : List RelLine) → NamesPairsOnce rel → NameOnce (givens_in rel)
name_once rel once i j g lt within =
    let apart = AllPairs-filter (λ l m. pair_of l ≢ pair_of m) (λ l. is_transit l.kind) rel once.apart in
    let d : RelLine = rel_line 0 1 Transit in
    let count = length-map (transits rel) given_by in
    let below : j < length (transits rel) = omega (arith, within, count) in
    let first : get_or (givens_in rel) i g ≡ given_by (get_or (transits rel) i d) = get_or-map given_by (transits rel) i d g (omega (arith, lt, below)) in
    let second : get_or (givens_in rel) j g ≡ given_by (get_or (transits rel) j d) = get_or-map given_by (transits rel) j d g below in
    λ same. apart i j d lt below (ap (λ (h : Given). edge_of h.over h.under) (sym first) ∙ same ∙ ap (λ (h : Given). edge_of h.over h.under) second)
