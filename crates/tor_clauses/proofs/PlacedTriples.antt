-- Triples that are read off the places where they stand and their arcs.
use Rattle.std.proofs.Common.{◌≡◌, ℕ, zero, suc, ◌*◌, ◌<◌, ◌≤◌, ◌^◌, true, false, List, [], ◌∷◌, ◌++◌, Some, length, take, flat_map, refl, sym, ap, ap₂, ◌∙◌, subst, arith}
use Rattle.std.specs.Prelude.{slice_get}
use Rattle.std.proofs.lemmas.List.Concat.{flat_map-append}
use Rattle.std.proofs.lemmas.List.{length-append, length-take-le, map-append}
use Rattle.std.proofs.lemmas.List.Elements.{All-push}
use Rattle.std.proofs.lemmas.Option.{same_Some, slice_get_within}
use Rattle.relationships.specs.declared.label.End.{End}
use Rattle.relationships.specs.Graph.{Edge}
use Rattle.tor_arena.proofs.Gets.{slice_get-some}
use Rattle.tor_digraph.specs.Walks.{Net}
use Rattle.tor_clauses.specs.declared.triple.Triple.{Triple}
use Rattle.tor_clauses.specs.declared.triple.TriplePlace.{TriplePlace}
use Rattle.tor_clauses.specs.Literals.{Literal, lit_of, Holds}
use Rattle.tor_clauses.specs.Triples.{arc_of, partner_of, arcs_of, is_among}
use Rattle.tor_clauses.specs.Tables.{Implications, HasNodes, IsSatisfied, AreTripleKeys, AreStanding, standing, triple_with, triples_at, implying, with_triple}
use Rattle.tor_clauses.proofs.LiteralLemmas.{lit_of_node}
use Rattle.tor_clauses.proofs.Arcs.{take-arcs}
use Rattle.tor_clauses.proofs.Knowns.{key_number, known-cut}

abbrev pub with_literals : TriplePlace → Literal → Literal → Triple
with_literals p l m = record { path = p.path; at = p.at; first = l; second = m }

pub read_triple : (t : Triple) (p : TriplePlace) (l m : Literal) → p ≡ standing t → (l ≡ t.first) × (m ≡ t.second) → with_literals p l m ≡ t
read_triple t p l m e f = ap (λ q. with_literals q l m) e ∙ ap₂ (with_literals (standing t)) f.0 f.1

pub same_triple : (t : Triple) → triple_with (standing t) (arc_of t) ≡ t
same_triple t = ap₂ (with_literals (standing t)) (lit_of_node t.first) (lit_of_node t.second)

pub triples_at-length : (ps : List TriplePlace) (arcs : List Edge) → length arcs ≡ length ps * 2 → length (triples_at ps arcs) ≡ length ps
triples_at-length [] arcs h = refl
triples_at-length (p ∷ ps) [] h = absurd (omega (arith, h))
triples_at-length (p ∷ ps) (a ∷ []) h = absurd (omega (arith, h))
triples_at-length (p ∷ ps) (a ∷ b ∷ arcs) h = ap suc (triples_at-length ps arcs (omega (arith, h)))

pub triples_at-push : (ps : List TriplePlace) (arcs : List Edge) (p : TriplePlace) (e f : Edge) → length arcs ≡ length ps * 2 →
    triples_at (ps ++ p ∷ []) (arcs ++ e ∷ f ∷ []) ≡ triples_at ps arcs ++ triple_with p e ∷ []
triples_at-push [] [] p e f h = refl
triples_at-push [] (a ∷ arcs) p e f h = absurd (omega (arith, h))
triples_at-push (q ∷ ps) [] p e f h = absurd (omega (arith, h))
triples_at-push (q ∷ ps) (a ∷ []) p e f h = absurd (omega (arith, h))
triples_at-push (q ∷ ps) (a ∷ b ∷ arcs) p e f h = ap (λ (ts : List Triple). triple_with q a ∷ ts) (triples_at-push ps arcs p e f (omega (arith, h)))

pub triples_at-take : (n : ℕ) (ps : List TriplePlace) (arcs : List Edge) → triples_at (take n ps) (take (n * 2) arcs) ≡ take n (triples_at ps arcs)
triples_at-take zero ps arcs = refl
triples_at-take (suc n) [] arcs = refl
triples_at-take (suc n) (p ∷ ps) arcs =
    let e : suc n * 2 ≡ suc (suc (n * 2)) = omega arith in
    ap (λ k. triples_at (p ∷ take n ps) (take k arcs)) e ∙ by_cases arcs (λ more. triples_at-take n ps more)
  where
    by_cases : (arcs : List Edge) → ((more : List Edge) → triples_at (take n ps) (take (n * 2) more) ≡ take n (triples_at ps more)) →
        triples_at (p ∷ take n ps) (take (suc (suc (n * 2))) arcs) ≡ take (suc n) (triples_at (p ∷ ps) arcs)
    by_cases [] h = refl
    by_cases (a ∷ []) h = refl
    by_cases (a ∷ b ∷ arcs) h = ap (λ (ts : List Triple). triple_with p a ∷ ts) (h arcs)

pub triples_at-get : (ps : List TriplePlace) (arcs : List Edge) (k : ℕ) (p : TriplePlace) (e : Edge) → length arcs ≡ length ps * 2 → slice_get ps k ≡ Some p →
    slice_get arcs (k * 2) ≡ Some e → slice_get (triples_at ps arcs) k ≡ Some (triple_with p e)
triples_at-get [] arcs k p e h at arc = absurd (cc at)
triples_at-get (q ∷ ps) [] k p e h at arc = absurd (cc arc)
triples_at-get (q ∷ ps) (a ∷ []) k p e h at arc = absurd (omega (arith, h))
triples_at-get (q ∷ ps) (a ∷ b ∷ arcs) zero p e h at arc = ap Some (ap₂ triple_with (same_Some _ _ at) (same_Some _ _ arc))
triples_at-get (q ∷ ps) (a ∷ b ∷ arcs) (suc k) p e h at arc =
    let n : suc k * 2 ≡ suc (suc (k * 2)) = omega arith in
    triples_at-get ps arcs k p e (omega (arith, h)) at (subst (λ i. slice_get (a ∷ b ∷ arcs) i ≡ Some e) n arc)

-- ---- what a table reads of a triple

module _ (known : List ℕ) (ps : List TriplePlace) (arcs : List Edge) (are : AreStanding known ps arcs) (k : ℕ) where
  pub place_within : k < length (triples_at ps arcs) → k < length ps
  place_within lt = subst (λ n. k < n) (triples_at-length ps arcs are.many) lt

  pub arc_within : k < length (triples_at ps arcs) → k * 2 < length arcs
  arc_within lt = let l = place_within lt in let many = are.many in omega (arith, l, many)

  module _ (t : Triple) (there : slice_get (triples_at ps arcs) k ≡ Some t) where
    within : k < length (triples_at ps arcs)
    within = slice_get_within (triples_at ps arcs) k t there

    pub place_read : (p : TriplePlace) → slice_get ps k ≡ Some p → p ≡ standing t
    place_read p at =
        let a = slice_get-some arcs (k * 2) (arc_within within) in
        ap standing (same_Some _ _ (sym (triples_at-get ps arcs k p a.0 are.many at a.1) ∙ there))

    pub literals_read : (e : Edge) → slice_get arcs (k * 2) ≡ Some e → (lit_of e.0 ≡ t.first) × (lit_of e.1 ≡ t.second)
    literals_read e arc =
        let p = slice_get-some ps k (place_within within) in
        let same : triple_with p.0 e ≡ t = same_Some _ _ (sym (triples_at-get ps arcs k p.0 e are.many p.1 arc) ∙ there) in
        (ap (λ (u : Triple). u.first) same, ap (λ (u : Triple). u.second) same)

module _ (ends : List End) (t : Triple) (l m : Literal) (are : (l ≡ t.first) × (m ≡ t.second)) where
  pub satisfied_by : (Holds ends l → Holds ends m) → IsSatisfied ends t
  satisfied_by h = λ first. subst (Holds ends) are.1 (h (subst (Holds ends) (sym are.0) first))

  pub satisfied-holds : IsSatisfied ends t → Holds ends l → Holds ends m
  satisfied-holds h = λ first. subst (Holds ends) (sym are.1) (h (subst (Holds ends) are.0 first))

-- ---- one more triple, and fewer

pub arcs-push : (ts : List Triple) (t : Triple) → flat_map arcs_of (ts ++ t ∷ []) ≡ flat_map arcs_of ts ++ arcs_of t
arcs-push ts t = flat_map-append arcs_of ts (t ∷ [])

pub placed-push : (ps : List TriplePlace) (arcs : List Edge) (t : Triple) → length arcs ≡ length ps * 2 →
    triples_at (ps ++ standing t ∷ []) (arcs ++ arcs_of t) ≡ triples_at ps arcs ++ t ∷ []
placed-push ps arcs t h = triples_at-push ps arcs (standing t) (arc_of t) (partner_of t) h ∙ ap (λ (u : Triple). triples_at ps arcs ++ u ∷ []) (same_triple t)

pub standing-push : (known : List ℕ) (ps : List TriplePlace) (arcs : List Edge) (t : Triple) → AreStanding known ps arcs → HasNodes t → length (triples_at ps arcs) < 2 ^ 27 →
    AreStanding (known ++ key_number t ∷ []) (ps ++ standing t ∷ []) (arcs ++ arcs_of t)
standing-push known ps arcs t are nodes few =
    let same = placed-push ps arcs t are.many in
    let k = are.keys in
    record {
      many = (let l = are.many in let a = length-append arcs (arcs_of t) in let p = length-append ps (standing t ∷ []) in omega (arith, l, a, p));
      of_triples = ap (λ (es : List Edge). es ++ arcs_of t) are.of_triples ∙ sym (arcs-push (triples_at ps arcs) t) ∙ ap (flat_map arcs_of) (sym same);
      keys = subst (AreTripleKeys (known ++ key_number t ∷ [])) (sym same) (record {
        keys = ap (λ (ns : List ℕ). ns ++ key_number t ∷ []) k.keys ∙ sym (map-append key_number (triples_at ps arcs) (t ∷ []));
        nodes = All-push HasNodes (triples_at ps arcs) t k.nodes nodes;
        few = (let a = length-append (triples_at ps arcs) (t ∷ []) in omega (arith, few, a));
      });
    }

pub standing-more : (known known' : List ℕ) (ps ps' : List TriplePlace) (arcs arcs' : List Edge) (t : Triple) → AreStanding known ps arcs → HasNodes t →
    length (triples_at ps arcs) < 2 ^ 27 → known' ≡ known ++ key_number t ∷ [] → ps' ≡ ps ++ standing t ∷ [] → arcs' ≡ arcs ++ arcs_of t → AreStanding known' ps' arcs'
standing-more known known' ps ps' arcs arcs' t are nodes few e f g =
    subst (λ ns. AreStanding ns ps' arcs') (sym e) (subst (λ qs. AreStanding (known ++ key_number t ∷ []) qs arcs') (sym f)
    (subst (λ es. AreStanding (known ++ key_number t ∷ []) (ps ++ standing t ∷ []) es) (sym g) (standing-push known ps arcs t are nodes few)))

pub standing-cut : (n : ℕ) (known : List ℕ) (ps : List TriplePlace) (arcs : List Edge) → AreStanding known ps arcs → n ≤ length ps →
    AreStanding (take n known) (take n ps) (take (n * 2) arcs)
standing-cut n known ps arcs are le =
    let same = triples_at-take n ps arcs in
    let ts = triples_at ps arcs in
    let many = are.many in
    let l = length-take-le (n * 2) arcs (omega (arith, le, many)) in
    let p = length-take-le n ps le in
    let long = triples_at-length ps arcs are.many in
    record {
      many = omega (arith, l, p);
      of_triples = ap (take (n * 2)) are.of_triples ∙ take-arcs n ts ∙ ap (flat_map arcs_of) (sym same);
      keys = known-cut n known (take n known) ts (triples_at (take n ps) (take (n * 2) arcs)) are.keys (omega (arith, le, long)) refl same;
    }

-- ---- the table as it is seen

abbrev pub seen : List TriplePlace → Net ℕ → Implications
seen ps net = record { triples = triples_at ps net.arcs; net = net }

pub placed_none : (known : List ℕ) (ps : List TriplePlace) (net : Net ℕ) (t : Triple) → AreStanding known ps net.arcs → is_among (triples_at ps net.arcs) t ≡ true →
    seen ps net ≡ implying (seen ps net) (with_triple (triples_at ps net.arcs) t)
placed_none known ps net t are there =
    rw there (ap (λ (es : List Edge). record { triples = triples_at ps net.arcs; net = record net { arcs = es } }) are.of_triples)

pub placed_one : (known : List ℕ) (ps ps' : List TriplePlace) (net net' : Net ℕ) (t : Triple) → AreStanding known ps net.arcs → is_among (triples_at ps net.arcs) t ≡ false →
    ps' ≡ ps ++ standing t ∷ [] → net' ≡ record net { arcs = net.arcs ++ arcs_of t } → seen ps' net' ≡ implying (seen ps net) (with_triple (triples_at ps net.arcs) t)
placed_one known ps ps' net net' t are new e f =
    let ts = triples_at ps net.arcs in
    let arcs' : net.arcs ++ arcs_of t ≡ flat_map arcs_of (ts ++ t ∷ []) = ap (λ (es : List Edge). es ++ arcs_of t) are.of_triples ∙ sym (arcs-push ts t) in
    ap₂ seen e f ∙
    rw new (ap₂ (λ (us : List Triple) (es : List Edge). record { triples = us; net = record net { arcs = es } }) (placed-push ps net.arcs t are.many) arcs')
