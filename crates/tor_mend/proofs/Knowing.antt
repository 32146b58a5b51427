-- Ways that are remembered stay ways when arcs are added, and when all but the first are taken away.
use Rattle.std.proofs.Common.{◌≡◌, ℕ, ◌<◌, ◌≤◌, inl, inr, List, [], ◌∷◌, ◌++◌, Option, Some, length, get_or, set, refl, sym, ap, ◌∙◌, subst, arith}
use Rattle.std.specs.Prelude.{slice_get, slice_index_or}
use Rattle.std.proofs.lemmas.Option.{slice_get_read, get_or_from_slice_get, slice_get_within}
use Rattle.tor_digraph.specs.declared.way.Way.{Way}
use Rattle.tor_arena.proofs.Gets.{slice_get-push_old, slice_get-push_last, slice_get-set_cases, slice_get-some}
use Rattle.tor_digraph.specs.Walks.{IsArc}
use Rattle.tor_clauses.proofs.Leadings.{way_arc}
use Rattle.tor_clauses.specs.Formulas.{Formula, first_of}
use Rattle.tor_clauses.specs.declared.clauses.ClauseMark.{ClauseMark}
use Rattle.tor_mend.specs.declared.known.Part.{Part}
use Rattle.tor_mend.specs.declared.known.Known.{Known}
use Rattle.tor_clauses.specs.Rounds.{IsLed}
use Rattle.tor_mend.specs.Ways.{IsPart, IsPartOf, IsEarly, AreKnown}
use Rattle.tor_mend.proofs.Prefixes.{later_arc, earlier_arc, arcs_stay}
use Rattle.tor_clauses.proofs.Ways.{some_same}

-- the nodes of a way but the last are tails of arcs
pub way_inside : (arcs : List (ℕ × ℕ)) (nodes : ℕ) → ((k u v : ℕ) → IsArc arcs k u v → u < nodes) → (from to : ℕ) (way : Way ℕ ℕ) → IsLed arcs way from to → (k x : ℕ) →
    k < length way.arcs → slice_get way.nodes k ≡ Some x → x < nodes
way_inside arcs nodes tails from to way led k x lt at =
    let a = slice_get-some way.arcs k lt in
    let r = way_arc arcs from to way.nodes way.arcs k a.0 led a.1 in
    let same : r.0 ≡ x = some_same (sym r.2 ∙ at) in
    subst (λ n. n < nodes) same (tails a.0 r.0 r.1 r.4)

-- one way more, of which no part is named yet
pub known_way : (arcs : List (ℕ × ℕ)) (first : ℕ) (way : Way ℕ ℕ) (k new : Known) → new.ways ≡ k.ways ++ way ∷ [] → new.parts ≡ k.parts → new.places.items ≡ k.places.items →
    AreKnown arcs first k → AreKnown arcs first new
known_way arcs first way k new ways parts places known x i at =
    let old = known x i (sym (ap (λ (l : List (Option ℕ)). slice_get l x) places) ∙ at) in
    let of = old.2 in (
      old.0,
      ap (λ (l : List Part). slice_get l i) parts ∙ old.1,
      record {
        way = of.way;
        there = ap (λ (l : List (Way ℕ ℕ)). slice_get l old.0.way) ways ∙ slice_get-push_old k.ways (way ∷ []) old.0.way of.way of.there;
        leads = of.leads;
        early = of.early;
      },
    )

-- one part more
pub known_part : (arcs : List (ℕ × ℕ)) (first node place : ℕ) (part : Part) (way : Way ℕ ℕ) (k new : Known) → slice_get k.ways part.way ≡ Some way → IsPart arcs way part.skip node →
    IsEarly first way → place ≡ length k.parts → new.ways ≡ k.ways → new.parts ≡ k.parts ++ part ∷ [] → new.places.items ≡ set k.places.items node (Some place) →
    AreKnown arcs first k → AreKnown arcs first new
known_part arcs first node place part way k new there is early last ways parts places known x j at =
    elim (slice_get-set_cases k.places.items node (Some place) x (Some j) (sym (ap (λ (l : List (Option ℕ)). slice_get l x) places) ∙ at)) [
      | inl h ↦ (
          let here : j ≡ length k.parts = some_same h.1 ∙ last in
          let found : slice_get new.parts j ≡ Some part = ap (λ (l : List Part). slice_get l j) parts ∙ ap (slice_get (k.parts ++ part ∷ [])) here ∙ slice_get-push_last k.parts part in (
            part,
            found,
            record {
              way = way;
              there = ap (λ (l : List (Way ℕ ℕ)). slice_get l part.way) ways ∙ there;
              leads = subst (IsPart arcs way part.skip) (sym h.0) is;
              early = early;
            },
          )
          )
      | inr h ↦ (
          let old = known x j h.1 in
          let of = old.2 in (
            old.0,
            ap (λ (l : List Part). slice_get l j) parts ∙ slice_get-push_old k.parts (part ∷ []) j old.0 old.1,
            record {
              way = of.way;
              there = ap (λ (l : List (Way ℕ ℕ)). slice_get l old.0.way) ways ∙ of.there;
              leads = of.leads;
              early = of.early;
            },
          )
          )
    ]

-- along other arcs, where each of its arcs is one of those too
led_other : (arcs other : List (ℕ × ℕ)) (first from to : ℕ) (way : Way ℕ ℕ) → ((k : ℕ) (e : ℕ × ℕ) → k < first → slice_get arcs k ≡ Some e → slice_get other k ≡ Some e) →
    IsEarly first way → IsLed arcs way from to → IsLed other way from to
led_other arcs other first from to way is early led = record {
  one_more = led.one_more;
  first = led.first;
  last = led.last;
  between = λ k a u v step here next. is a (u, v) (early k a step) (led.between k a u v step here next);
}

known_other : (arcs other : List (ℕ × ℕ)) (first most : ℕ) (k : Known) → ((j : ℕ) (e : ℕ × ℕ) → j < first → slice_get arcs j ≡ Some e → slice_get other j ≡ Some e) → first ≤ most →
    AreKnown arcs first k → AreKnown other most k
known_other arcs other first most k is le known x i at =
    let old = known x i at in
    let of = old.2 in
    let part = of.leads in (
      old.0,
      old.1,
      record {
        way = of.way;
        there = of.there;
        leads = record {
          from = part.from;
          to = part.to;
          led = led_other arcs other first part.from part.to of.way is of.early part.led;
          fits = part.fits;
          begins = part.begins;
          ends = part.ends;
        };
        early = λ j a step. let lt = of.early j a step in omega (arith, lt, le);
      },
    )

-- ---- clauses that grow and are cut back

module _ (f g : Formula) (mark : ClauseMark) (prefix : first_of g mark ≡ f) (k : Known) where
  pub known_added : AreKnown f.net.arcs (length f.net.arcs) k → AreKnown g.net.arcs (length f.net.arcs) k
  known_added known = known_other f.net.arcs g.net.arcs (length f.net.arcs) (length f.net.arcs) k (λ j e lt at. later_arc f g mark prefix j e at) (omega arith) known

  pub known_kept : AreKnown g.net.arcs (length f.net.arcs) k → AreKnown g.net.arcs (length g.net.arcs) k
  known_kept known = known_other g.net.arcs g.net.arcs (length f.net.arcs) (length g.net.arcs) k (λ j e lt at. at) (arcs_stay f g mark prefix) known

  pub known_cut : AreKnown g.net.arcs (length f.net.arcs) k → AreKnown f.net.arcs (length f.net.arcs) k
  known_cut known = known_other g.net.arcs f.net.arcs (length f.net.arcs) (length f.net.arcs) k (λ j e lt at. earlier_arc f g mark prefix j e lt at) (omega arith) known

-- the part at a place that some node names
pub part_at : (arcs : List (ℕ × ℕ)) (known : Known) (place : ℕ) (parts : List Part) → parts ≡ known.parts →
    (node : ℕ) × (slice_get known.places.items node ≡ Some (Some place)) → (early : ℕ) × AreKnown arcs early known →
    (place < length parts) × ((early : ℕ) × (node : ℕ) × IsPartOf arcs early known.ways (slice_index_or parts place (record { way = 0; skip = 0 })) node)
part_at arcs known place parts same at are =
    let of = are.1 at.0 place at.1 in
    let there : slice_get parts place ≡ Some of.0 = ap (λ (l : List Part). slice_get l place) same ∙ of.1 in
    let is = sym (get_or_from_slice_get parts place of.0 (record { way = 0; skip = 0 }) there) in
    (slice_get_within parts place of.0 there, (are.0, at.0, subst (λ p. IsPartOf arcs are.0 known.ways p at.0) is of.2))

-- the way at the place that a part names
pub way_of_part : (arcs : List (ℕ × ℕ)) (early node : ℕ) (part : Part) (all ways : List (Way ℕ ℕ)) → ways ≡ all → IsPartOf arcs early all part node →
    (part.way < length ways) × ((along : Way ℕ ℕ) → along ≡ get_or ways part.way along → IsPart arcs along part.skip node)
way_of_part arcs early node part all ways same of =
    let there : slice_get ways part.way ≡ Some of.way = ap (λ (l : List (Way ℕ ℕ)). slice_get l part.way) same ∙ of.there in
    let below = slice_get_within ways part.way of.way there in
    (below, λ along is. subst (λ w. IsPart arcs w part.skip node) (some_same (sym there ∙ slice_get_read ways (length ways) part.way along refl below is)) of.leads)
