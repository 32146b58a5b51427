-- One edge is settled, by its partners.
use Rattle.std.proofs.Common.{◌≡◌, ◌≢◌, ◌⊎◌, ℕ, ◌+◌, ◌<◌, ◌≤◌, inl, inr, Bool, true, false, arith, List, [], length, get_or, set, min, max, sym, ap, ◌∙◌, subst, All, Contains, IsTrue, IsFalse}
use Rattle.std.proofs.Common.{slice_get, Some}
use Rattle.std.specs.List.{list_any, flat_map}
use Rattle.std.proofs.lemmas.Bool.{cases_Bool, cases_eq, cases_lt, cases_order, false_from_ne_true, false≢true}
use Rattle.std.proofs.lemmas.Option.{slice_get-get_or, slice_get_within, same_Some}
use Rattle.std.proofs.lemmas.List.{length-set, length-map, get_or-map, get_or-set_same, get_or-set_other, get_or_default, get_or_past}
use Rattle.std.proofs.lemmas.List.Elements.{All-get_or, All-map, All-contains, Contains-get_or}
use Rattle.relationships.specs.Evidence.{NeighboursDiffer}
use Rattle.relationships.specs.declared.label.End.{End}
use Rattle.relationships.specs.declared.label.Label.{Label}
use Rattle.relationships.specs.Relationship.{Labelling, label_of, ValleyFree}
use Rattle.relationships.specs.Graph.{Edge, is_same, edges_on, edges, degree, support, orientation, labelling}
use Rattle.relationships.specs.Preference.{IsAlike, MayPeer, with_peer}
use Rattle.relationships.proofs.Slopes.{Free, Free-from_valley_free, ValleyFree-from_free}
use Rattle.as_graph.specs.declared.step.Step.{Step}
use Rattle.as_graph.specs.Paths.{path_at, paths_at}
use Rattle.as_graph.specs.Steps.{AreSteps, slopes_by}
use Rattle.as_graph.proofs.Labelled.{NoneTwice, NoneTwice-distinct, labelling_at, orientation_at, slopes-steps}
use Rattle.peering.specs.Exclusions.{IsExcluded, AllExcluded}
use Rattle.peering.specs.Peerings.{edge_in, holds, AreBeside, AreBesideOn, AllHeldOpen, AllBesideListed, peer_at, NoPeers, MayFlip, IsPeeredIfAllowed}
use Rattle.peering.proofs.ExclusionLemmas.{no_flip, flip_free, two_flat}
use Rattle.peering.proofs.Reading.{labelling-set, free_same, all_at, edge_among}
use Rattle.peering.proofs.Besides.{some_counted, counted_some}
use Rattle.peering.proofs.Flipping.{IsSoFar, first_or_peer, flips, keeps}

-- what is found along the kept paths
pub record AreFound (paths : List (List ℕ)) (kept : List ℕ) (ends : List End) (excluded opened : List Bool) (partners : List (List ℕ)) : Type 0 where
  pub excluded_so : (k : ℕ) → IsTrue (get_or excluded k false) → IsExcluded paths kept ends k
  pub all_excluded : AllExcluded paths kept ends excluded
  pub opened_so : (k : ℕ) → IsTrue (get_or opened k false) → IsFalse (get_or excluded k false) × ((q : ℕ) × Contains kept q × IsTrue (holds paths q k))
  pub all_opened : AllHeldOpen paths kept excluded opened
  pub beside : (k p : ℕ) → Contains (get_or partners k []) p → AreBesideOn paths kept k p
  pub all_beside : AllBesideListed paths kept excluded partners

module _ (paths : List (List ℕ)) (kept : List ℕ) (ratio : ℕ) (ends : List End) (opened : List Bool) where
  -- the edges before a place are settled, with one label for each edge, and each peering was open
  pub record AreSettled (n : ℕ) (labels : List Label) : Type 0 where
    pub count : length labels ≡ length (edges paths)
    pub so_far : IsSoFar (degree paths) ratio (paths_at paths kept) (edges paths) (orientation (edges paths) ends) n (labelling (edges paths) labels)
    pub only : (k : ℕ) → get_or labels k Label.Low ≡ Label.Peer → IsTrue (get_or opened k false)

  module _ (there : All (λ q. q < length paths) kept) (apart : All NeighboursDiffer paths) (each_end : length ends ≡ length (edges paths)) (excluded : List Bool)
      (partners : List (List ℕ)) (found : AreFound paths kept ends excluded opened partners) (n : ℕ) (e : Edge) (old : List Label) (is : slice_get (edges paths) n ≡ Some e)
      (settled : AreSettled n old) where
    abbrev Now : Labelling
    Now = labelling (edges paths) old

    abbrev places : List ℕ
    places = get_or partners n []

    once : NoneTwice (edges paths)
    once = NoneTwice-distinct (flat_map edges_on paths)

    lt : n < length (edges paths)
    lt = slice_get_within (edges paths) n e is

    old_lt : n < length old
    old_lt = subst (λ m. n < m) (sym settled.count) lt

    at : edge_in paths n ≡ e
    at = same_Some _ _ (sym (slice_get-get_or (edges paths) n (0, 0) lt) ∙ is)

    same : (low high : ℕ) → labelling (edges paths) (peer_at old n) low high ≡ with_peer Now e low high
    same = labelling-set (edges paths) old n e Label.Peer once is old_lt

    -- each label is the first one of its edge, or a peering
    label_cases : (j : ℕ) → j < length (edges paths) → (get_or old j Label.Peer ≡ Label.Peer) ⊎ (get_or old j Label.Peer ≡ label_of (get_or ends j End.Low))
    label_cases j j_lt =
        let f : Edge = get_or (edges paths) j (0, 0) in
        let f_at = slice_get-get_or (edges paths) j (0, 0) j_lt in
        let now_is = labelling_at (edges paths) old j f.0 f.1 Label.Peer once f_at (subst (λ m. j < m) (sym settled.count) j_lt) in
        let first_is = orientation_at (edges paths) ends j f.0 f.1 End.Low once f_at (subst (λ m. j < m) (sym each_end) j_lt) in
        elim (first_or_peer (degree paths) ratio (paths_at paths kept) (edges paths) (orientation (edges paths) ends) n Now settled.so_far j f f_at) [
          | inl p ↦ inl (sym now_is ∙ p)
          | inr h ↦ inr (sym now_is ∙ h ∙ ap label_of first_is)
        ]

    -- that of an edge that is not settled is the first one
    first_label : (j : ℕ) → j < length (edges paths) → n ≤ j → get_or old j Label.Peer ≡ label_of (get_or ends j End.Low)
    first_label j j_lt le =
        let f : Edge = get_or (edges paths) j (0, 0) in
        let f_at = slice_get-get_or (edges paths) j (0, 0) j_lt in
        let now_is = labelling_at (edges paths) old j f.0 f.1 Label.Peer once f_at (subst (λ m. j < m) (sym settled.count) j_lt) in
        let first_is = orientation_at (edges paths) ends j f.0 f.1 End.Low once f_at (subst (λ m. j < m) (sym each_end) j_lt) in
        sym now_is ∙ settled.so_far.rest j f le f_at ∙ ap label_of first_is

    -- and so is one that is no peering
    label_kept : (j : ℕ) → j < length (edges paths) → get_or old j Label.Low ≢ Label.Peer → get_or old j Label.Peer ≡ label_of (get_or ends j End.Low)
    label_kept j j_lt no_peering =
        elim (label_cases j j_lt) [
          | inl p ↦ absurd (no_peering (get_or_default old j Label.Low Label.Peer (subst (λ m. j < m) (sym settled.count) j_lt) ∙ p))
          | inr h ↦ h
        ]

    -- the slopes of a kept path along its steps, with the edge as a peering, have no valley exactly if it has none
    slopes_free : (q : ℕ) (steps : List Step) → Contains kept q → AreSteps (edges paths) (path_at paths q) steps → All (ValleyFree (with_peer Now e)) (paths_at paths kept) →
        Free (slopes_by (peer_at old n) steps)
    slopes_free q steps among are free =
        let path = path_at paths q in
        let labels = peer_at old n in
        let one = free_same (with_peer Now e) (labelling (edges paths) labels) path (λ low high. sym (same low high)) (all_at (ValleyFree (with_peer Now e)) paths kept q free among) in
        let path_apart = All-get_or NeighboursDiffer paths q [] (All-contains (λ p. p < length paths) kept q there among) apart in
        let many : length labels ≡ length (edges paths) = length-set old n Label.Peer ∙ settled.count in
        subst Free (slopes-steps (edges paths) labels once many path steps path_apart are) (Free-from_valley_free (labelling (edges paths) labels) path one)

    path_free : (q : ℕ) (steps : List Step) → Contains kept q → AreSteps (edges paths) (path_at paths q) steps → Free (slopes_by (peer_at old n) steps) →
        ValleyFree (with_peer Now e) (path_at paths q)
    path_free q steps among are free =
        let path = path_at paths q in
        let labels = peer_at old n in
        let path_apart = All-get_or NeighboursDiffer paths q [] (All-contains (λ p. p < length paths) kept q there among) apart in
        let many : length labels ≡ length (edges paths) = length-set old n Label.Peer ∙ settled.count in
        free_same (labelling (edges paths) labels) (with_peer Now e) path same
        (ValleyFree-from_free (labelling (edges paths) labels) path (subst Free (sym (slopes-steps (edges paths) labels once many path steps path_apart are)) free))

    free_now : (q : ℕ) (steps : List Step) → Contains kept q → AreSteps (edges paths) (path_at paths q) steps → Free (slopes_by old steps)
    free_now q steps among are =
        let path = path_at paths q in
        let path_apart = All-get_or NeighboursDiffer paths q [] (All-contains (λ p. p < length paths) kept q there among) apart in
        subst Free (slopes-steps (edges paths) old once settled.count path steps path_apart are)
        (Free-from_valley_free Now path (all_at (ValleyFree Now) paths kept q settled.so_far.free among))

    -- what stands beside an open edge, with no peering among its partners, is another, and no peering
    other_beside : (q : ℕ) (steps : List Step) → Contains kept q → AreSteps (edges paths) (path_at paths q) steps → All (λ (s : Step). s.edge < length (edges paths)) steps →
        IsFalse (get_or excluded n false) → NoPeers (peer_at old n) places → (k : ℕ) → AreBeside steps n k ⊎ AreBeside steps k n →
        (k ≢ n) × (get_or old k Label.Peer ≡ label_of (get_or ends k End.Low))
    other_beside q steps among are within not_excluded none k beside =
        elim (cases_Bool (get_or excluded k false)) [
          | inl t ↦ (
            (λ k_is. false≢true (sym not_excluded ∙ sym (ap (λ m. get_or excluded m false) k_is) ∙ t)),
            label_kept k k_lt (λ p. false≢true (sym (found.opened_so k (settled.only k p)).0 ∙ t)),
          )
          | inr f ↦ elim (cases_order k n) [
            | inl k_is ↦ absurd (self_peer k k_is (listed k f))
            | inr o ↦ elim o [
              | inl less ↦ (
                (λ k_is. omega (arith, less, k_is)),
                label_kept k k_lt (λ p. lower k less (listed k f) p),
              )
              | inr more ↦ ((λ k_is. omega (arith, more, k_is)), first_label k k_lt (omega (arith, more)))
            ]
          ]
        ]
      where
        step_lt : (i : ℕ) (s : Step) → slice_get steps i ≡ Some s → s.edge < length (edges paths)
        step_lt i s s_at =
            let i_lt = slice_get_within steps i s s_at in
            subst (λ (t : Step). t.edge < length (edges paths)) (same_Some _ _ (sym (slice_get-get_or steps i s i_lt) ∙ s_at)) (within i s i_lt)

        k_lt : k < length (edges paths)
        k_lt = elim beside [
          | inl b ↦ subst (λ m. m < length (edges paths)) b.6 (step_lt (b.0 + 1) b.2 b.4)
          | inr b ↦ subst (λ m. m < length (edges paths)) b.5 (step_lt b.0 b.1 b.3)
        ]

        listed : (k' : ℕ) → IsFalse (get_or excluded k false) → Contains (get_or partners (max n k) []) (min n k)
        listed k' f =
            elim beside [
              | inl b ↦ found.all_beside q n k steps among are b not_excluded f
              | inr b ↦
                  let c = found.all_beside q k n steps among are b f not_excluded in
                  let high : max k n ≡ max n k = omega arith in
                  let low : min k n ≡ min n k = omega arith in
                  subst (λ m. Contains (get_or partners m []) (min n k)) high (subst (Contains (get_or partners (max k n) [])) low c)
            ]

        on_list : (p : ℕ) → max n k ≡ n → min n k ≡ p → Contains (get_or partners (max n k) []) (min n k) → Contains places p
        on_list p high low c = subst (λ m. Contains (get_or partners m []) p) high (subst (Contains (get_or partners (max n k) [])) low c)

        no_peer_at : (p : ℕ) → Contains places p → get_or (peer_at old n) p Label.Low ≢ Label.Peer
        no_peer_at p c = All-contains (λ m. get_or (peer_at old n) m Label.Low ≢ Label.Peer) places p none c

        self_peer : (k' : ℕ) → k ≡ n → Contains (get_or partners (max n k) []) (min n k) → ⊥
        self_peer k' k_is c = no_peer_at n (on_list n (omega (arith, k_is)) (omega (arith, k_is)) c) (get_or-set_same old n Label.Peer Label.Low old_lt)

        lower : (k' : ℕ) → k < n → Contains (get_or partners (max n k) []) (min n k) → get_or old k Label.Low ≡ Label.Peer → ⊥
        lower k' less c p =
            no_peer_at k (on_list k (omega (arith, less)) (omega (arith, less)) c)
            (get_or-set_other old n k Label.Peer Label.Low (λ k_is. absurd (omega (arith, less, k_is))) ∙ p)

    stays : IsTrue (get_or opened n false) → NoPeers (peer_at old n) places → All (ValleyFree (with_peer Now e)) (paths_at paths kept)
    stays is_open none =
        All-map (ValleyFree (with_peer Now e)) (path_at paths) kept (λ k d k_lt.
        let q = get_or kept k d in
        let among = Contains-get_or kept k d k_lt in
        let row = found.all_excluded q among in
        let not_excluded = (found.opened_so n is_open).0 in
        path_free q row.0 among row.1
        (flip_free old ends n row.0 old_lt (first_label n lt (omega arith)) (other_beside q row.0 among row.1 row.2 not_excluded none)
        (λ on. false≢true (sym not_excluded ∙ row.3 n on)) (free_now q row.0 among row.1)))

    -- so an excluded edge may not become a peering
    excluded_out : All (ValleyFree (with_peer Now e)) (paths_at paths kept) → IsExcluded paths kept ends n → ⊥
    excluded_out free (place, steps, among, are, within, on) =
        no_flip old ends n (length (edges paths)) steps old_lt label_cases within on (slopes_free place steps among are free)

    -- and no partner of one that may is a peering
    none_there : All (ValleyFree (with_peer Now e)) (paths_at paths kept) → NoPeers (peer_at old n) places
    none_there free = λ k d k_lt peer.
        let p = get_or places k d in
        let b = found.beside n p (Contains-get_or places k d k_lt) in
        flat p b peer
      where
        labels : List Label
        labels = peer_at old n

        here : get_or (set old n Label.Peer) n Label.Peer ≡ Label.Peer
        here = get_or-set_same old n Label.Peer Label.Peer old_lt

        peer_of : (p : ℕ) → get_or (set old n Label.Peer) p Label.Low ≡ Label.Peer → get_or (set old n Label.Peer) p Label.Peer ≡ Label.Peer
        peer_of p peer =
            elim (cases_lt p (length (set old n Label.Peer))) [
              | inl p_lt ↦ sym (get_or_default (set old n Label.Peer) p Label.Low Label.Peer p_lt) ∙ peer
              | inr ge ↦ get_or_past (set old n Label.Peer) p Label.Peer ge
            ]

        flat : (p : ℕ) → AreBesideOn paths kept n p → get_or (set old n Label.Peer) p Label.Low ≡ Label.Peer → ⊥
        flat p (q, steps, among, are, within, beside) peer =
            elim beside [
              | inl b ↦ two_flat (set old n Label.Peer) steps n p b here (peer_of p peer) (slopes_free q steps among are free)
              | inr b ↦ two_flat (set old n Label.Peer) steps p n b (peer_of p peer) here (slopes_free q steps among are free)
            ]

    -- a kept path that holds the edge, and the count of these
    held_by : (q : ℕ) → Contains kept q → IsTrue (holds paths q n) → 0 < support (paths_at paths kept) e
    held_by q c holds_it =
        let t : list_any (is_same e) (edges_on (path_at paths q)) ≡ true = subst (λ (f : Edge). list_any (is_same f) (edges_on (path_at paths q)) ≡ true) at holds_it in
        counted_some (λ path. list_any (is_same e) (edges_on path)) (paths_at paths kept) (path_at paths q) (Contains-map kept q c) t
      where
        Contains-map : (ks : List ℕ) (q : ℕ) → Contains ks q → Contains (paths_at paths ks) (path_at paths q)
        Contains-map ks q c =
            let many = length-map ks (path_at paths) in
            (c.0, (let c_lt = c.1 in omega (arith, many, c_lt)), get_or-map (path_at paths) ks c.0 q (path_at paths q) c.1 ∙ ap (path_at paths) c.2)

    open_if_held : 0 < support (paths_at paths kept) e → IsFalse (get_or excluded n false) → IsTrue (get_or opened n false)
    open_if_held some f =
        let r = some_counted (λ path. list_any (is_same e) (edges_on path)) (paths_at paths kept) some in
        let many = length-map kept (path_at paths) in
        let r_lt = r.1.1 in
        let within : r.1.0 < length kept = omega (arith, many, r_lt) in
        let q = get_or kept r.1.0 0 in
        let same_path : r.0 ≡ path_at paths q = sym r.1.2 ∙ get_or-map (path_at paths) kept r.1.0 0 r.0 within in
        let t = subst (λ p. list_any (is_same e) (edges_on p) ≡ true) same_path r.2 in
        let holds_it : IsTrue (holds paths q n) = subst (λ (g : Edge). list_any (is_same g) (edges_on (path_at paths q)) ≡ true) (sym at) t in
        found.all_opened n q lt f (Contains-get_or kept r.1.0 0 within) holds_it

    may : MayFlip paths ratio (get_or opened n false) places n old → MayPeer (degree paths) ratio (paths_at paths kept) Now e
    may m = record {
      held = let o = found.opened_so n m.0 in held_by o.1.0 o.1.1 o.1.2;
      alike = subst (λ (f : Edge). IsAlike (degree paths) ratio f) at m.1;
      stays = stays m.0 m.2;
    }

    may_back : MayPeer (degree paths) ratio (paths_at paths kept) Now e → MayFlip paths ratio (get_or opened n false) places n old
    may_back m = (
      open_if_held m.held (false_from_ne_true (get_or excluded n false) (λ t. excluded_out m.stays (found.excluded_so n t))),
      subst (λ (f : Edge). IsAlike (degree paths) ratio f) (sym at) m.alike,
      none_there m.stays,
    )

    each : (f : Edge) → Contains (edges (paths_at paths kept)) f → Contains (edges paths) f
    each f c = edge_among paths kept f there c

    only_open : IsTrue (get_or opened n false) → (k : ℕ) → get_or (peer_at old n) k Label.Low ≡ Label.Peer → IsTrue (get_or opened k false)
    only_open is_open k p =
        elim (cases_eq k n) [
          | inl k_is ↦ subst (λ m. IsTrue (get_or opened m false)) (sym k_is) is_open
          | inr ne ↦ settled.only k (sym (get_or-set_other old n k Label.Peer Label.Low ne) ∙ p)
        ]

    pub settled_next : (new : List Label) → IsPeeredIfAllowed paths ratio (get_or opened n false) places n old new → AreSettled (n + 1) new
    settled_next new (inl h) = record {
      count = ap length h.1 ∙ length-set old n Label.Peer ∙ settled.count;
      so_far =
          flips (degree paths) ratio (paths_at paths kept) (edges paths) (orientation (edges paths) ends) once each n e Now (labelling (edges paths) new) is
          (λ low high. ap (λ l. labelling (edges paths) l low high) h.1 ∙ same low high) (may h.0) settled.so_far;
      only = λ k p. only_open h.0.0 k (sym (ap (λ l. get_or l k Label.Low) h.1) ∙ p);
    }
    settled_next new (inr h) =
        subst (AreSettled (n + 1)) (sym h.1) (record {
          count = settled.count;
          so_far = keeps (degree paths) ratio (paths_at paths kept) (edges paths) (orientation (edges paths) ends) once each n e Now is (λ m. h.0 (may_back m)) settled.so_far;
          only = settled.only;
        })
