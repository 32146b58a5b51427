-- What the rules of a checker give: the keeping law and the marking law.
use Rattle.std.proofs.Common.{◌↔◌, IsTrue, ◌≡◌, ◌≢◌, ℕ, ◌+◌, ◌<◌, ◌⊎◌, inl, inr, true, List, [], ◌∷◌, ◌++◌, map, refl, sym, ap, ◌∙◌, subst, arith, All, Any, Contains, Option, Some, None, is_none}
use Rattle.std.proofs.Common.{filter, flat_map, not, get_or, length, zero, suc, eq-eqb, false, Bool}
use Rattle.std.proofs.lemmas.Bool.{both_ways, false≢true, cases_Bool, cases_order}
use Rattle.std.proofs.lemmas.List.{map-append}
use Rattle.std.proofs.lemmas.List.Elements.{All-append, All-contains, All-cons, All-nil, All-push, All-head, All-tail, All-from_recursion, recursion_from_All}
use Rattle.relationships.specs.declared.label.End.{End}
use Rattle.relationships.specs.declared.label.Label.{Label}
use Rattle.relationships.specs.declared.walk.Walk.{Walk}
use Rattle.relationships.specs.Relationship.{Orientation, Labelling, label_of, labels_of, is_low, is_high, is_over, ValleyFree, Serves}
use Rattle.relationships.specs.Evidence.{NeighboursDiffer, Numbered, paths_of, Closure, IsConsistent, kept_from}
use Rattle.relationships.specs.Selection.{KeepsFrom, IsForced}
use Rattle.relationships.specs.Checking.{LostFrom, kept_of, Claim, OtherOrder, IsBorneOut, ProbesFrom, MarksHold, claimed_labels}
use Rattle.relationships.specs.Preference.{AgreesOn}
use Rattle.relationships.specs.Laws.Checking.{KeepingLaw, MarkingLaw, ForcedLaw, GraphRulesLaw, GraphRulesBehindLaw}
use Rattle.relationships.proofs.Slopes.{over_parts, over-low, over-high}
use Rattle.relationships.proofs.Edges.{peering_law}
use Rattle.relationships.specs.Graph.{Edge, is_same, edges_from, edges_on, distinct, edges}
use Rattle.relationships.proofs.Serving.{Apart, Apart-from_differing}
use Rattle.std.specs.List.{AllByRecursion}
use Rattle.relationships.proofs.WalkLemmas.{refuting_law, showing_law}
use Rattle.relationships.proofs.Closures.{allowed_law}

-- the label, with a peering read as this end
abbrev pub read : End → Label → End
read e Label.Low = End.Low
read e Label.High = End.High
read e Label.Peer = e

abbrev pub reading : End → Labelling → Orientation
reading e L low high = read e (L low high)

reading_agrees : (e : End) (L : Labelling) (es : List Edge) → AgreesOn es L (labels_of (reading e L))
reading_agrees e L es = λ k d within. (λ h. rw h, λ h. rw h)

pub reading_serves : (e : End) (L : Labelling) (paths : List (List ℕ)) → All (ValleyFree L) paths → Serves (reading e L) paths
reading_serves e L paths h = peering_law L paths h (reading e L) (reading_agrees e L (edges paths))

pub keeps_from : (O : Orientation) (n : ℕ) (kept : Numbered) (paths : List (List ℕ)) (walks : List (Option Walk)) → LostFrom n kept paths walks →
    Serves O (paths_of kept) → Serves O (paths_of (kept_from n paths (map is_none walks))) → KeepsFrom (paths_of kept) paths (map is_none walks)
keeps_from O n kept [] [] h serves all = tt
keeps_from O n kept [] (w ∷ walks) h serves all = absurd h
keeps_from O n kept (path ∷ paths) [] h serves all = absurd h
keeps_from O n kept (path ∷ paths) (None ∷ walks) h serves all =
    let valley_free = All-head (ValleyFree (labels_of O)) path (paths_of (kept_from (n + 1) paths (map is_none walks))) all in
    let rest = All-tail (ValleyFree (labels_of O)) path (paths_of (kept_from (n + 1) paths (map is_none walks))) all in
    let pushed = All-push (ValleyFree (labels_of O)) (paths_of kept) path serves valley_free in
    let same = map-append (λ (p : ℕ × List ℕ). p.1) kept ((n, path) ∷ []) in (
      (λ _. (O, pushed), λ _. refl),
      subst (λ l. KeepsFrom l paths (map is_none walks)) same
          (keeps_from O (n + 1) (kept ++ (n, path) ∷ []) paths walks h (subst (Serves O) (sym same) pushed) rest),
    )
keeps_from O n kept (path ∷ paths) (Some walk ∷ walks) h serves all =
    let same = map-append (λ (p : ℕ × List ℕ). p.1) kept ((n, path) ∷ []) in (
      (λ t. absurd (false≢true t), λ s. absurd (refuting_law (kept ++ (n, path) ∷ []) walk h.0 s.0 (subst (Serves s.0) (sym same) s.1))),
      keeps_from O (n + 1) kept paths walks h.1 serves all,
    )

pub keeping_law : KeepingLaw
keeping_law L paths walks lost valley_free =
    keeps_from (reading End.Low L) 1 [] paths walks lost (All-nil (ValleyFree (labels_of (reading End.Low L))))
    (reading_serves End.Low L (paths_of (kept_of paths walks)) valley_free)

-- ---- marks

low_end : (e : End) → is_low (label_of e) ≡ true → e ≡ End.Low
low_end End.Low h = refl
low_end End.High h = absurd (false≢true h)

high_end : (e : End) → is_high (label_of e) ≡ true → e ≡ End.High
high_end End.Low h = absurd (false≢true h)
high_end End.High h = refl

-- the end that is over the other
pub over_low : (O : Orientation) (low high : ℕ) → low < high → is_over (labels_of O) low high ≡ true → O low high ≡ End.Low
over_low O low high lt o =
    elim (over_parts (labels_of O) low high o) [ inl p ↦ low_end (O low high) p.1 | inr p ↦ absurd (omega arith) ]

pub over_high : (O : Orientation) (low high : ℕ) → low < high → is_over (labels_of O) high low ≡ true → O low high ≡ End.High
over_high O low high lt o =
    elim (over_parts (labels_of O) high low o) [ inl p ↦ absurd (omega arith) | inr p ↦ high_end (O low high) p.1 ]

consistent_each : (kept : List (List ℕ)) (claims : List Claim) (earlier probes : List (ℕ × ℕ)) → ProbesFrom kept claims earlier probes →
    All (λ p. IsConsistent kept p.0 p.1) probes
consistent_each kept claims earlier [] h = All-nil (λ p. IsConsistent kept p.0 p.1)
consistent_each kept claims earlier (p ∷ probes) h =
    All-cons (λ p. IsConsistent kept p.0 p.1) p probes h.0.consistent (consistent_each kept claims (earlier ++ p ∷ []) probes h.1)

-- an edge with the label peer may be read either way
pub forced_law : ForcedLaw
forced_law L kept low high valley_free forced e =
    let same = forced (reading End.Low L) (reading End.High L) (reading_serves End.Low L kept valley_free) (reading_serves End.High L kept valley_free) in
    let h : End.Low ≡ End.High = ap (read End.Low) (sym e) ∙ same ∙ ap (read End.High) e in
    cc

module _ (L : Labelling) (kept : List (List ℕ)) (distinct : All NeighboursDiffer kept) (valley_free : All (ValleyFree L) kept) where
  -- an edge whose other order stands in a consistent closure is not forced
  other_open : (c : Claim) → c.low < c.high → L c.low c.high ≡ c.label → (over under a b : ℕ) → OtherOrder c over under →
      IsConsistent kept a b → Closure kept a b over under → IsForced kept c.low c.high → ⊥
  other_open c lt e over under a b (inl o) consistent reached forced =
      allowed_law (reading End.Low L) kept a b distinct consistent (reading_serves End.Low L kept valley_free) over under reached
      (λ O' serves.
      let same = forced O' (reading End.Low L) serves (reading_serves End.Low L kept valley_free) in
      let is : O' c.low c.high ≡ End.Low = same ∙ ap (read End.Low) (e ∙ o.0) in
      let h = over-low (labels_of O') c.low c.high lt (ap (λ v. is_low (label_of v)) is) in
      subst (λ w. is_over (labels_of O') w over ≡ true) (sym o.2) (subst (λ w. is_over (labels_of O') c.low w ≡ true) (sym o.1) h))
  other_open c lt e over under a b (inr o) consistent reached forced =
      allowed_law (reading End.Low L) kept a b distinct consistent (reading_serves End.Low L kept valley_free) over under reached
      (λ O' serves.
      let same = forced O' (reading End.Low L) serves (reading_serves End.Low L kept valley_free) in
      let is : O' c.low c.high ≡ End.High = same ∙ ap (read End.Low) (e ∙ o.0) in
      let h = over-high (labels_of O') c.low c.high lt (ap (λ v. is_high (label_of v)) is) in
      subst (λ w. is_over (labels_of O') w over ≡ true) (sym o.2) (subst (λ w. is_over (labels_of O') c.high w ≡ true) (sym o.1) h))

pub marking_law : MarkingLaw
marking_law L kept claims walks probes distinct valley_free holds c claimed lt e =
    elim (All-contains (IsBorneOut (paths_of kept) holds.orders probes) claims c holds.marks claimed) [
      | inl shown ↦ (λ _ O O' serves serves'. both_agree shown.1 O O' serves serves', λ _. shown.0)
      | inr unforced ↦ elim unforced [
        | inl peer ↦ (λ t. absurd (both_ways c.forced peer.0 t), λ f. absurd (forced_law L (paths_of kept) c.low c.high valley_free f (e ∙ peer.1)))
        | inr other ↦ (λ t. absurd (both_ways c.forced other.0 t), λ f. absurd (by_probe other.1 f))
      ]
    ]
  where
    both_agree : Contains holds.orders (c.low, c.high) ⊎ Contains holds.orders (c.high, c.low) → (O O' : Orientation) → Serves O (paths_of kept) → Serves O' (paths_of kept) →
        O c.low c.high ≡ O' c.low c.high
    both_agree (inl i) O O' serves serves' =
        over_low O c.low c.high lt (showing_law kept walks holds.orders distinct holds.shown O serves c.low c.high (λ e. omega arith) i) ∙
        sym (over_low O' c.low c.high lt (showing_law kept walks holds.orders distinct holds.shown O' serves' c.low c.high (λ e. omega arith) i))
    both_agree (inr i) O O' serves serves' =
        over_high O c.low c.high lt (showing_law kept walks holds.orders distinct holds.shown O serves c.high c.low (λ e. omega arith) i) ∙
        sym (over_high O' c.low c.high lt (showing_law kept walks holds.orders distinct holds.shown O' serves' c.high c.low (λ e. omega arith) i))

    by_probe : ((over under : ℕ) × OtherOrder c over under × Any (λ p. Closure (paths_of kept) p.0 p.1 over under) probes) → IsForced (paths_of kept) c.low c.high → ⊥
    by_probe (over, under, other, (k, p, within, is, reached)) forced =
        let consistent = All-contains (λ p. IsConsistent (paths_of kept) p.0 p.1) probes p (consistent_each (paths_of kept) claims [] probes holds.probes_serve) (k, within, is) in
        other_open L (paths_of kept) distinct valley_free c lt e over under p.0 p.1 other consistent reached forced

-- ---- all rules together

pub kept_all : (P : List ℕ → Type 0) (n : ℕ) (paths : List (List ℕ)) (keeps : List Bool) → AllByRecursion P paths → AllByRecursion P (paths_of (kept_from n paths keeps))
kept_all P n [] keeps h = tt
kept_all P n (path ∷ paths) [] h = tt
kept_all P n (path ∷ paths) (true ∷ keeps) h = (h.0, kept_all P (n + 1) paths keeps h.1)
kept_all P n (path ∷ paths) (false ∷ keeps) h = kept_all P (n + 1) paths keeps h.1

-- the lower number of an edge of paths without equal neighbours is below the higher
rising_from : (a : ℕ) (path : List ℕ) → Apart a path → AllByRecursion (λ (e : Edge). e.0 < e.1) (edges_from a path)
rising_from a [] h = tt
rising_from a (b ∷ path) h =
    (elim (cases_order a b) [ inl e ↦ absurd (h.0 e) | inr o ↦ elim o [ inl lt ↦ omega arith | inr lt ↦ omega arith ] ], rising_from b path h.1)

rising_on : (path : List ℕ) → NeighboursDiffer path → AllByRecursion (λ (e : Edge). e.0 < e.1) (edges_on path)
rising_on [] h = tt
rising_on (a ∷ path) h = rising_from a path (Apart-from_differing a path h)

both_parts : (P : Edge → Type 0) (es fs : List Edge) → AllByRecursion P es → AllByRecursion P fs → AllByRecursion P (es ++ fs)
both_parts P [] fs h k = k
both_parts P (e ∷ es) fs h k = (h.0, both_parts P es fs h.1 k)

pub rising_all : (paths : List (List ℕ)) → AllByRecursion NeighboursDiffer paths → AllByRecursion (λ (e : Edge). e.0 < e.1) (flat_map edges_on paths)
rising_all [] h = tt
rising_all (path ∷ paths) h = both_parts (λ (e : Edge). e.0 < e.1) (edges_on path) (flat_map edges_on paths) (rising_on path h.0) (rising_all paths h.1)

filtered : (P : Edge → Type 0) (p : Edge → Bool) (es : List Edge) → AllByRecursion P es → AllByRecursion P (filter p es)
filtered P p [] h = tt
filtered P p (e ∷ es) h = elim (cases_Bool (p e)) [ inl t ↦ rw t (h.0, filtered P p es h.1) | inr f ↦ rw f (filtered P p es h.1) ]

pub distinct_keeps : (P : Edge → Type 0) (es : List Edge) → AllByRecursion P es → AllByRecursion P (distinct es)
distinct_keeps P [] h = tt
distinct_keeps P (e ∷ es) h = (h.0, filtered P (λ f. not (is_same e f)) (distinct es) (distinct_keeps P es h.1))

-- no edge stands twice
abbrev pub Once : List Edge → Type 0
Once [] = Unit {0}
Once (e ∷ es) = AllByRecursion (λ f. is_same e f ≡ false) es × Once es

filtered_once : (p : Edge → Bool) (es : List Edge) → Once es → Once (filter p es)
filtered_once p [] h = tt
filtered_once p (e ∷ es) h =
    elim (cases_Bool (p e)) [
      | inl t ↦ rw t (filtered (λ f. is_same e f ≡ false) p es h.0, filtered_once p es h.1)
      | inr f ↦ rw f (filtered_once p es h.1)
    ]

passing : (e : Edge) (es : List Edge) → AllByRecursion (λ f. is_same e f ≡ false) (filter (λ f. not (is_same e f)) es)
passing e [] = tt
passing e (f ∷ es) = elim (cases_Bool (is_same e f)) [ inl t ↦ rw t (passing e es) | inr n ↦ rw n (n, passing e es) ]

pub distinct_once : (es : List Edge) → Once (distinct es)
distinct_once [] = tt
distinct_once (e ∷ es) = (passing e (distinct es), filtered_once (λ f. not (is_same e f)) (distinct es) (distinct_once es))

-- the claims give each edge its label
pub label_at : (claims : List Claim) → Once (map (λ (c : Claim). (c.low, c.high)) claims) → (c : Claim) (k : ℕ) → k < length claims → get_or claims k c ≡ c →
    claimed_labels claims c.low c.high ≡ c.label
label_at [] once c k lt e = absurd (omega arith)
label_at (d ∷ claims) once c zero lt e =
    subst (λ (v : Claim). claimed_labels (d ∷ claims) v.low v.high ≡ v.label) e (rw (eq-eqb d.low d.low refl, eq-eqb d.high d.high refl))
label_at (d ∷ claims) once c (suc k) lt e = rw (apart claims k once.0 (omega arith) e) (label_at claims once.1 c k (omega arith) e)
  where
    apart : (claims : List Claim) (k : ℕ) → AllByRecursion (λ f. is_same (d.low, d.high) f ≡ false) (map (λ (c : Claim). (c.low, c.high)) claims) → k < length claims → get_or claims k c ≡ c →
        is_same (d.low, d.high) (c.low, c.high) ≡ false
    apart [] k h lt e = absurd (omega arith)
    apart (u ∷ claims) zero h lt e = subst (λ (v : Claim). is_same (d.low, d.high) (v.low, v.high) ≡ false) e h.0
    apart (u ∷ claims) (suc k) h lt e = apart claims k h.1 (omega arith) e

pub rising_at : (claims : List Claim) (c : Claim) (k : ℕ) → AllByRecursion (λ (e : Edge). e.0 < e.1) (map (λ (c : Claim). (c.low, c.high)) claims) → k < length claims → get_or claims k c ≡ c →
    c.low < c.high
rising_at [] c k h lt e = absurd (omega arith)
rising_at (d ∷ claims) c zero h lt e = subst (λ (v : Claim). v.low < v.high) e h.0
rising_at (d ∷ claims) c (suc k) h lt e = rising_at claims c k h.1 (omega arith) e

-- where the claims are of the edges, one of each, the labels that they give are theirs
claims_once : (paths : List (List ℕ)) (claims : List Claim) → map (λ (c : Claim). (c.low, c.high)) claims ≡ edges paths → Once (map (λ (c : Claim). (c.low, c.high)) claims)
claims_once paths claims each = subst Once (sym each) (distinct_once (flat_map edges_on paths))

pub label_of_claim : (paths : List (List ℕ)) (claims : List Claim) → map (λ (c : Claim). (c.low, c.high)) claims ≡ edges paths → (c : Claim) → Contains claims c →
    claimed_labels claims c.low c.high ≡ c.label
label_of_claim paths claims each c i = label_at claims (claims_once paths claims each) c i.0 i.1 i.2

-- the rules behind paths that are served from the start, where the labels of the claims leave all of these valley-free
pub rules_behind : (L : Labelling) (begun : Numbered) (paths : List (List ℕ)) (walks : List (Option Walk)) (claims : List Claim) (whys : List Walk) (probes : List (ℕ × ℕ)) →
    All NeighboursDiffer (paths_of begun) → All NeighboursDiffer paths → LostFrom 1 begun paths walks → map (λ (c : Claim). (c.low, c.high)) claims ≡ edges paths →
    All (ValleyFree L) (paths_of begun) → All (ValleyFree L) (paths_of (kept_of paths walks)) → MarksHold (begun ++ kept_of paths walks) claims whys probes →
    ((c : Claim) → Contains claims c → L c.low c.high ≡ c.label) →
    KeepsFrom (paths_of begun) paths (map is_none walks) ×
    ((c : Claim) → Contains claims c → IsTrue c.forced ↔ IsForced (paths_of (begun ++ kept_of paths walks)) c.low c.high) ×
    ((c : Claim) → Contains claims c → IsTrue c.forced → c.label ≢ Label.Peer)
rules_behind L begun paths walks claims whys probes begun_apart differ lost each begun_free kept_free marks says =
    let kept = kept_of paths walks in
    let apart = recursion_from_All NeighboursDiffer paths differ in
    let rising = subst (AllByRecursion (λ (e : Edge). e.0 < e.1)) (sym each) (distinct_keeps (λ (e : Edge). e.0 < e.1) (flat_map edges_on paths) (rising_all paths apart)) in
    let kept_apart = All-from_recursion NeighboursDiffer (paths_of kept) (kept_all NeighboursDiffer 1 paths (map is_none walks) apart) in
    let same = sym (map-append (λ (p : ℕ × List ℕ). p.1) begun kept) in
    let all_apart = subst (All NeighboursDiffer) same (All-append NeighboursDiffer (paths_of begun) (paths_of kept) begun_apart kept_apart) in
    let all_free = subst (All (ValleyFree L)) same (All-append (ValleyFree L) (paths_of begun) (paths_of kept) begun_free kept_free) in
    let marked : (c : Claim) → Contains claims c → IsTrue c.forced ↔ IsForced (paths_of (begun ++ kept)) c.low c.high = λ c i.
    marking_law L (begun ++ kept) claims whys probes all_apart all_free marks c i (rising_at claims c i.0 rising i.1 i.2) (says c i) in (
      keeps_from (reading End.Low L) 1 begun paths walks lost (reading_serves End.Low L (paths_of begun) begun_free) (reading_serves End.Low L (paths_of kept) kept_free),
      marked,
      λ c i t peer. forced_law L (paths_of (begun ++ kept)) c.low c.high all_free ((marked c i).0 t) (says c i ∙ peer),
    )

pub graph_rules_behind_law : GraphRulesBehindLaw
graph_rules_behind_law begun paths walks claims whys probes a =
    rules_behind (claimed_labels claims) begun paths walks claims whys probes a.begun_differ a.neighbours_differ a.lost a.each_edge a.begun_free a.valley_free a.marks
    (label_of_claim paths claims a.each_edge)

pub graph_rules_law : GraphRulesLaw
graph_rules_law paths walks claims whys probes a =
    rules_behind (claimed_labels claims) [] paths walks claims whys probes (All-nil NeighboursDiffer) a.neighbours_differ a.lost a.each_edge
    (All-nil (ValleyFree (claimed_labels claims))) a.valley_free a.marks (label_of_claim paths claims a.each_edge)
