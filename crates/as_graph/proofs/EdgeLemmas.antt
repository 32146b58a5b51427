-- Edges in a list, and the counts of their ends.
use Rattle.std.proofs.Common.{◌≡◌, ◌≢◌, ℕ, ◌+◌, ◌<◌, ◌≤◌, ◌^◌, ◌⊎◌, inl, inr, true, false, cond, List, [], ◌∷◌, ◌++◌, Some, length, get_or, refl, sym, ap, ap₂, ◌∙◌, subst, arith}
use Rattle.std.proofs.Common.{Bool, min, max, count_by, nat_eq, eq-eqb, if◌then◌else◌, eqb-true, length-append}
use Rattle.std.specs.Prelude.{slice_get, slice_index, Contains}
use Rattle.std.proofs.lemmas.Bool.{cases_Bool, cases_order, ne_eqb}
use Rattle.std.proofs.lemmas.Option.{slice_get-get_or, slice_get_read, slice_get_within, get_or_from_slice_get, same_Some}
use Rattle.std.proofs.lemmas.List.{get_or_append_left, get_or_default}
use Rattle.std.proofs.lemmas.List.Sums.{sum_by_push, count_by-le-length}
use Rattle.std.proofs.lemmas.List.Elements.{All-push, All-nil}
use Rattle.tor_arena.proofs.Gets.{Contains-from_has, has-from_Contains, slice_get-push_old, slice_get-push_cases, slice_get-push_last, slice_get-take_back}
use Rattle.std.specs.List.{list_any}
use Rattle.relationships.specs.Graph.{Edge, edge_of, is_same}
use Rattle.tor_numbers.specs.Edges.{edge_at, with_edge}
use Rattle.tor_numbers.proofs.EdgeLists.{with_edge-new}
use Rattle.tor_numbers.specs.Slots.{IsApart}
use Rattle.tor_numbers.specs.Places.{GoesLastIfNew}
use Rattle.tor_numbers.proofs.SlotLemmas.{apart-push}
use Rattle.as_graph.specs.declared.graph_edges.Ends.{Ends}
use Rattle.as_graph.specs.Inside.{is_incident, AreEndsOf, AreDegrees, AreGraphEdges, HasMoreAses, CountsOneMore}

-- ---- no edges

pub no_degrees : AreDegrees [] [] []
no_degrees = record { apart = λ k number is. absurd (cc is); each = refl; known = λ a k is. absurd (cc is); other = λ a absent. refl }

pub AreGraphEdges-none : AreGraphEdges [] [] [] []
AreGraphEdges-none = record {
  ordered = All-nil (λ (e : Edge). e.0 < e.1);
  few = omega arith;
  degrees = no_degrees;
  many = refl;
  there = λ k e d at is. absurd (cc at);
}

-- ---- what is counted

pub counted_few : (es : List Edge) (ases counts : List ℕ) (a k : ℕ) → AreDegrees es ases counts → slice_get ases k ≡ Some (a + 2) → slice_index counts k ≤ length es
counted_few es ases counts a k d is = let e = d.known a k is in let le = count_by-le-length (is_incident a) es in omega (arith, e, le)

pub counted_there : (es : List Edge) (ases counts : List ℕ) (k n : ℕ) → AreDegrees es ases counts → slice_get ases k ≡ Some n → k < length counts
counted_there es ases counts k n d is = let lt = slice_get_within ases k n is in let m = d.each in omega (arith, lt, m)

-- ---- an AS more

pub more_same : (ases counts more_ases more_counts : List ℕ) → more_ases ≡ ases → more_counts ≡ counts → HasMoreAses ases counts more_ases more_counts
more_same ases counts more_ases more_counts e f =
    subst (λ m. HasMoreAses ases counts m more_counts) (sym e) (subst (λ m. HasMoreAses ases counts ases m) (sym f)
    (record { degrees = λ es d. d; places = λ k n is. is }))

pub more_then : (ases counts one_ases one_counts two_ases two_counts : List ℕ) → HasMoreAses ases counts one_ases one_counts → HasMoreAses one_ases one_counts two_ases two_counts →
    HasMoreAses ases counts two_ases two_counts
more_then ases counts one_ases one_counts two_ases two_counts h k = record {
  degrees = λ es d. k.degrees es (h.degrees es d);
  places = λ i n is. k.places i n (h.places i n is);
}

plus_two : (a b : ℕ) → a + 2 ≡ b + 2 → a ≡ b
plus_two a b e = omega (arith, e)

more_new : (ases counts : List ℕ) (a : ℕ) → (Contains ases (a + 2) → ⊥) → length counts ≡ length ases → HasMoreAses ases counts (ases ++ (a + 2) ∷ []) (counts ++ 0 ∷ [])
more_new ases counts a absent same = record {
  degrees = degrees;
  places = λ k n is. slice_get-push_old ases ((a + 2) ∷ []) k n is;
}
  where
    degrees : (es : List Edge) → AreDegrees es ases counts → AreDegrees es (ases ++ (a + 2) ∷ []) (counts ++ 0 ∷ [])
    degrees es d = record {
      apart = apart-push ases (a + 2) d.apart absent;
      each = let n = length-append ases ((a + 2) ∷ []) in let m = length-append counts (0 ∷ []) in omega (arith, n, m, same);
      known = known;
      other = λ b none. d.other b (λ (h : Contains ases (b + 2)). none (let w = has-from_Contains ases (b + 2) h in
          Contains-from_has (ases ++ (a + 2) ∷ []) (b + 2) (w.0, slice_get-push_old ases ((a + 2) ∷ []) w.0 (b + 2) w.1)));
    }
      where
        known : (b k : ℕ) → slice_get (ases ++ (a + 2) ∷ []) k ≡ Some (b + 2) → slice_index (counts ++ 0 ∷ []) k ≡ count_by (is_incident b) es
        known b k is =
            elim (slice_get-push_cases ases (a + 2) k (b + 2) is) [
              | inl old ↦ get_or_append_left counts (0 ∷ []) 0 k (counted_there es ases counts k (b + 2) d old) ∙ d.known b k old
              | inr (at, new) ↦
                  let at_end : k ≡ length counts = at ∙ sym same in
                  ap (slice_index (counts ++ 0 ∷ [])) at_end ∙ get_or_from_slice_get (counts ++ 0 ∷ []) (length counts) 0 0 (slice_get-push_last counts 0) ∙
                  sym (d.other b (subst (λ x. Contains ases (x + 2) → ⊥) (sym (plus_two b a new)) absent))
            ]

-- an AS that was added
pub more_added : (ases counts more_ases more_counts : List ℕ) (a place : ℕ) → length counts ≡ length ases → GoesLastIfNew (a + 2) ases more_ases →
    slice_get more_ases place ≡ Some (a + 2) → (place ≡ length counts → more_counts ≡ counts ++ 0 ∷ []) → (place ≢ length counts → more_counts ≡ counts) →
    HasMoreAses ases counts more_ases more_counts × (length more_counts ≡ length more_ases)
more_added ases counts more_ases more_counts a place same (inl (old, kept)) at pushed stayed =
    let lt = slice_get_within ases place (a + 2) (subst (λ ns. slice_get ns place ≡ Some (a + 2)) kept at) in
    let stay = stayed (λ e. absurd (omega (arith, e, lt, same))) in
    (more_same ases counts more_ases more_counts kept stay, ap length stay ∙ same ∙ ap length (sym kept))
more_added ases counts more_ases more_counts a place same (inr (absent, new)) at pushed stayed =
    let more = more_new ases counts a absent same in
    let here : slice_get (ases ++ (a + 2) ∷ []) place ≡ Some (a + 2) = subst (λ ns. slice_get ns place ≡ Some (a + 2)) new at in
    let last : place ≡ length counts =
    elim (slice_get-push_cases ases (a + 2) place (a + 2) here) [
      | inl old ↦ absurd (absent (Contains-from_has ases (a + 2) (place, old)))
      | inr is ↦ is.0 ∙ sym same
    ] in
    let push = pushed last in (
      subst (λ m. HasMoreAses ases counts m more_counts) (sym new) (subst (λ m. HasMoreAses ases counts (ases ++ (a + 2) ∷ []) m) (sym push) more),
      (let n = ap length push in let m = ap length new in let p = length-append counts (0 ∷ []) in let q = length-append ases ((a + 2) ∷ []) in omega (arith, n, m, p, q, same)),
    )

-- ---- an edge more

-- two places are the same exactly where their ASes are
same_place : (ases : List ℕ) (p k low a : ℕ) → IsApart ases → slice_get ases p ≡ Some (low + 2) → slice_get ases k ≡ Some (a + 2) → nat_eq p k ≡ nat_eq low a
same_place ases p k low a apart at_p at_k =
    elim (cases_order p k) [
      | inl e ↦ eq-eqb p k e ∙ sym (eq-eqb low a (plus_two low a (same_Some (low + 2) (a + 2) (sym at_p ∙ ap (slice_get ases) e ∙ at_k))))
      | inr o ↦ ne_eqb p k (apart_places o) ∙ sym (ne_eqb low a (λ e. twice o e))
    ]
  where
    apart_places : (p < k) ⊎ (k < p) → p ≢ k
    apart_places (inl lt) e = absurd (omega (arith, lt, e))
    apart_places (inr lt) e = absurd (omega (arith, lt, e))

    twice : (p < k) ⊎ (k < p) → low ≡ a → ⊥
    twice (inl lt) e =
        apart k (a + 2) at_k (Contains-from_has _ (a + 2) (p, slice_get-take_back k ases p (a + 2) lt (subst (λ n. slice_get ases p ≡ Some (n + 2)) e at_p)))
    twice (inr lt) e =
        apart p (low + 2) at_p (Contains-from_has _ (low + 2) (k, slice_get-take_back p ases k (low + 2) lt (subst (λ n. slice_get ases k ≡ Some (n + 2)) (sym e) at_k)))

-- an edge more has two ends more
ends_of : (a low high : ℕ) → low < high → (if nat_eq low a then 1 else 0) + (if nat_eq high a then 1 else 0) ≡ cond (is_incident a (low, high)) 1 0
ends_of a low high lt =
    elim (cases_Bool (nat_eq low a)) [
      | inl t ↦ let apart : nat_eq high a ≡ false = ne_eqb high a (λ e. let s : low ≡ a = eqb-true low a t in omega arith) in rw (t, apart)
      | inr f ↦ elim (cases_Bool (nat_eq high a)) [ inl u ↦ rw (f, u) | inr g ↦ rw (f, g) ]
    ]

AreDegrees-push : (es : List Edge) (ases counts once twice : List ℕ) (low high : ℕ) (d : Ends) → AreDegrees es ases counts → low < high → AreEndsOf ases (low, high) d →
    CountsOneMore counts d.low once → CountsOneMore once d.high twice → AreDegrees (es ++ (low, high) ∷ []) ases twice
AreDegrees-push es ases counts once twice low high d h lt at first second = record {
  apart = h.apart;
  each = second.many ∙ first.many ∙ h.each;
  known = λ a k is.
      let c = sum_by_push (λ e. cond (is_incident a e) 1 0) es (low, high) in
      let e = h.known a k is in
      let f : slice_index once k ≡ slice_index counts k + (if nat_eq low a then 1 else 0) =
      first.each k ∙ ap (λ b. slice_index counts k + (if b then 1 else 0)) (same_place ases d.low k low a h.apart at.0 is) in
      let s : slice_index twice k ≡ slice_index once k + (if nat_eq high a then 1 else 0) =
      second.each k ∙ ap (λ b. slice_index once k + (if b then 1 else 0)) (same_place ases d.high k high a h.apart at.1 is) in
      let two = ends_of a low high lt in
      omega (arith, c, e, f, s, two);
  other = λ a absent.
      let c = sum_by_push (λ e. cond (is_incident a e) 1 0) es (low, high) in
      let e = h.other a absent in
      let not_low : low ≢ a = λ e. absent (subst (λ n. Contains ases (n + 2)) e (Contains-from_has ases (low + 2) (d.low, at.0))) in
      let not_high : high ≢ a = λ e. absent (subst (λ n. Contains ases (n + 2)) e (Contains-from_has ases (high + 2) (d.high, at.1))) in
      let two : 0 ≡ cond (is_incident a (low, high)) 1 0 =
      ap₂ (λ x y. (if x then 1 else 0) + (if y then 1 else 0)) (sym (ne_eqb low a not_low)) (sym (ne_eqb high a not_high)) ∙ ends_of a low high lt in
      omega (arith, c, e, two);
}

pub AreGraphEdges-push : (es : List Edge) (ases counts once twice : List ℕ) (ends : List Ends) (low high : ℕ) (d : Ends) → AreGraphEdges es ases counts ends → low < high → length es < 2 ^ 26 →
    AreEndsOf ases (low, high) d → CountsOneMore counts d.low once → CountsOneMore once d.high twice → AreGraphEdges (es ++ (low, high) ∷ []) ases twice (ends ++ d ∷ [])
AreGraphEdges-push es ases counts once twice ends low high d h lt room at first second = record {
  ordered = All-push (λ (e : Edge). e.0 < e.1) es (low, high) h.ordered lt;
  few = let n = length-append es ((low, high) ∷ []) in omega (arith, n, room);
  degrees = AreDegrees-push es ases counts once twice low high d h.degrees lt at first second;
  many = let n = length-append es ((low, high) ∷ []) in let m = length-append ends (d ∷ []) in let s = h.many in omega (arith, n, m, s);
  there = there;
}
  where
    there : (k : ℕ) (e : Edge) (c : Ends) → slice_get (es ++ (low, high) ∷ []) k ≡ Some e → slice_get (ends ++ d ∷ []) k ≡ Some c → AreEndsOf ases e c
    there k e c at_k in_k =
        elim (slice_get-push_cases es (low, high) k e at_k) [
          | inl old ↦ elim (slice_get-push_cases ends d k c in_k) [
            | inl kept ↦ h.there k e c old kept
            | inr last ↦ absurd (let b = slice_get_within es k e old in let l = last.0 in let s = h.many in omega (arith, b, l, s))
          ]
          | inr new ↦ elim (slice_get-push_cases ends d k c in_k) [
            | inl kept ↦ absurd (let b = slice_get_within ends k c kept in let n = new.0 in let s = h.many in omega (arith, b, n, s))
            | inr last ↦ subst (λ f. AreEndsOf ases f c) (sym new.1) (subst (AreEndsOf ases (low, high)) (sym last.1) at)
          ]
        ]

-- with ASes more
pub AreGraphEdges-more : (es : List Edge) (ases counts more_ases more_counts : List ℕ) (ends : List Ends) → AreGraphEdges es ases counts ends → HasMoreAses ases counts more_ases more_counts →
    AreGraphEdges es more_ases more_counts ends
AreGraphEdges-more es ases counts more_ases more_counts ends h more = record {
  ordered = h.ordered;
  few = h.few;
  degrees = more.degrees es h.degrees;
  many = h.many;
  there = λ k e d at is. let old = h.there k e d at is in (more.places d.low (e.0 + 2) old.0, more.places d.high (e.1 + 2) old.1);
}

-- ---- what is read of them

pub ends_there : (es : List Edge) (ases counts : List ℕ) (ends : List Ends) (id place : ℕ) (d : Ends) → AreGraphEdges es ases counts ends → id < length es → place ≡ id →
    d ≡ get_or ends place d → AreEndsOf ases (edge_at es id) d
ends_there es ases counts ends id place d h lt same read =
    h.there id (edge_at es id) d (slice_get-get_or es id (0, 0) lt)
    (slice_get_read ends (length ends) id d refl (let m = h.many in omega (arith, m, lt)) (read ∙ ap (λ k. get_or ends k d) same))

pub count_read : (es now : List Edge) (ases counts : List ℕ) (k a place n : ℕ) → AreDegrees es ases counts → slice_get ases k ≡ Some (a + 2) → place ≡ k → n ≡ get_or counts place n →
    es ≡ now → n ≡ count_by (is_incident a) now
count_read es now ases counts k a place n d is same read view =
    let lt = counted_there es ases counts k (a + 2) d is in
    read ∙ get_or_default counts place n 0 (omega (arith, lt, same)) ∙ ap (slice_index counts) same ∙ d.known a k is ∙ ap (count_by (is_incident a)) view

-- ---- an edge that is added

pub counted_after : (es : List Edge) (ases counts once : List ℕ) (low a k : ℕ) → AreDegrees es ases counts → slice_get ases k ≡ Some (a + 2) → CountsOneMore counts low once →
    slice_index once k ≤ length es + 1
counted_after es ases counts once low a k d is first =
    let le = counted_few es ases counts a k d is in
    let e = first.each k in
    let one = at_most_one (nat_eq low k) in
    omega (arith, le, e, one)
  where
    at_most_one : (b : Bool) → (if b then 1 else 0) ≤ 1
    at_most_one true = omega arith
    at_most_one false = omega arith

pub AreGraphEdges-added : (es new : List Edge) (ases counts once twice : List ℕ) (ends : List Ends) (a b low high : ℕ) (d : Ends) → AreGraphEdges es ases counts ends →
    a ≢ b → length es < 2 ^ 26 → low ≡ min a b → high ≡ max a b → list_any (is_same (edge_of a b)) es ≡ false → new ≡ with_edge es (edge_of a b) →
    AreEndsOf ases (low, high) d → CountsOneMore counts d.low once → CountsOneMore once d.high twice → AreGraphEdges new ases twice (ends ++ d ∷ [])
AreGraphEdges-added es new ases counts once twice ends a b low high d h ne room is_low is_high absent is at first second =
    let edge : edge_of a b ≡ (low, high) = ap₂ (λ (x y : ℕ). pair x y) (sym is_low) (sym is_high) in
    let pushed : new ≡ es ++ (low, high) ∷ [] = is ∙ with_edge-new es (edge_of a b) absent ∙ ap (λ (e : Edge). es ++ e ∷ []) edge in
    subst (λ fs. AreGraphEdges fs ases twice (ends ++ d ∷ [])) (sym pushed)
    (AreGraphEdges-push es ases counts once twice ends low high d h (omega (arith, ne, is_low, is_high)) room at first second)
  where
    pair : ℕ → ℕ → Edge
    pair x y = (x, y)
