-- The definitions on three paths, of which the third is lost.
use Rattle.std.proofs.Common.{◌≡◌, ℕ, zero, suc, ◌+◌, ◌⊎◌, inl, inr, Bool, true, false, List, [], ◌∷◌, ◌++◌, length, map, refl, sym, subst, arith, All, Contains, Some, None, lit<, ◌==◌, ◌&&◌, ◌||◌}
use Rattle.std.proofs.Common.{eq-eqb}
use Rattle.std.proofs.lemmas.List.Elements.{All-nil, All-from_recursion}
use Rattle.relationships.specs.declared.label.End.{End}
use Rattle.relationships.specs.declared.label.Label.{Label}
use Rattle.relationships.specs.declared.walk.Link.{Link}
use Rattle.relationships.specs.declared.walk.Walk.{Walk}
use Rattle.tor_arena.specs.Distinct.{is_distinct}
use Rattle.relationships.specs.Relationship.{Orientation, Labelling, labels_of, is_over, Up, Down, Flat, slope, slopes, ValleyFree, Serves}
use Rattle.relationships.specs.Graph.{Edge, edges, degree, support, orientation, labelling}
use Rattle.relationships.specs.Evidence.{NeighboursDiffer, Numbered, Fits, IsLinked, Refutes, Show, Closure, start, imply, IsConsistent}
use Rattle.relationships.proofs.Serving.{differ_if_distinct}
use Rattle.relationships.specs.Selection.{Keeps, IsForced}
use Rattle.relationships.specs.Checking.{LostAreRefuted, Claim, IsBorneOut, MarksHold, MeetsGraphRules}
use Rattle.relationships.proofs.Closures.{consistency_law}
use Rattle.relationships.proofs.Checked.{keeping_law, marking_law}
use Rattle.relationships.proofs.Forcing.{implied_law, unheld_law}
use Rattle.tor_arena.proofs.DistinctLemmas.{AllDistinct-from_test}
use Rattle.relationships.proofs.Deciding.{no_valley_iff, EachTriple, goes_on, Closure-within}
use Rattle.std.proofs.lemmas.Bool.{false≢true, both_ways, cases_Bool}
use Rattle.std.specs.List.{list_any}

abbrev pub first : List ℕ
first = 30 ∷ 40 ∷ 20 ∷ 10 ∷ 50 ∷ 60 ∷ []

abbrev pub second : List ℕ
second = 10 ∷ 20 ∷ 30 ∷ 40 ∷ []

abbrev third : List ℕ
third = 50 ∷ 60 ∷ 10 ∷ 20 ∷ []

abbrev pub kept : List (List ℕ)
kept = first ∷ second ∷ []

abbrev pub all : List (List ℕ)
all = first ∷ second ∷ third ∷ []

abbrev pub its_edges : List Edge
its_edges = (30, 40) ∷ (20, 40) ∷ (10, 20) ∷ (10, 50) ∷ (50, 60) ∷ (20, 30) ∷ (10, 60) ∷ []

edges_found : edges all ≡ its_edges
edges_found = refl

degrees : map (degree all) (10 ∷ 20 ∷ 30 ∷ 40 ∷ 50 ∷ 60 ∷ 70 ∷ []) ≡ 3 ∷ 3 ∷ 2 ∷ 2 ∷ 2 ∷ 2 ∷ 0 ∷ []
degrees = refl

supports : map (support kept) its_edges ≡ 2 ∷ 1 ∷ 2 ∷ 1 ∷ 1 ∷ 1 ∷ 0 ∷ []
supports = refl

-- the providers of one orientation that serves the kept paths, and the labels
abbrev pub providers : Orientation
providers = orientation its_edges (End.High ∷ End.Low ∷ End.High ∷ End.Low ∷ End.Low ∷ End.High ∷ End.Low ∷ [])

abbrev pub labels : Labelling
labels = labelling its_edges (Label.High ∷ Label.Peer ∷ Label.High ∷ Label.Low ∷ Label.Low ∷ Label.High ∷ Label.Low ∷ [])

first_slopes : slopes labels first ≡ Up ∷ Flat ∷ Down ∷ Down ∷ Down ∷ []
unfolding slope is_over
first_slopes = refl

second_slopes : slopes labels second ≡ Up ∷ Up ∷ Up ∷ []
unfolding slope is_over
second_slopes = refl

first_valley_free : ValleyFree labels first
unfolding slope is_over
first_valley_free = (1, 3, inr refl)

second_valley_free : ValleyFree labels second
unfolding slope is_over
second_valley_free = (3, 0, inl refl)

pub served : Serves providers kept
unfolding slope is_over
served = All-from_recursion (ValleyFree (labels_of providers)) kept ((2, 3, inl refl), ((3, 0, inl refl), tt))

valley_free : All (ValleyFree labels) kept
valley_free = All-from_recursion (ValleyFree labels) kept (first_valley_free, (second_valley_free, tt))

abbrev link : ℕ → ℕ → Link
link path at = record { path = path; at = at }

abbrev numbered : Numbered
numbered = (1, first) ∷ (2, second) ∷ (3, third) ∷ []

-- a link, where the triple is read from left to right
fits_forwards : (n : ℕ) (path before : List ℕ) (x y z : ℕ) (after : List ℕ) → Contains numbered (n, path) → path ≡ before ++ (x ∷ y ∷ z ∷ after) →
    Fits numbered (link n (length before + 2)) x y z
fits_forwards n path before x y z after c e = (path, c, inl (record { before = before; after = after; whole = e; place = refl }))

in_first : Contains numbered (1, first)
in_first = (0, lit< tt, refl)

in_second : Contains numbered (2, second)
in_second = (1, lit< tt, refl)

in_third : Contains numbered (3, third)
in_third = (2, lit< tt, refl)

-- a link that is read from right to left: 40 30 20 on 10 20 30 40
fits_backwards : Fits numbered (link 2 3) 40 30 20
fits_backwards = (second, in_second, inr (record { before = 10 ∷ []; after = []; whole = refl; place = refl }))

abbrev lost_walk : Walk
lost_walk = record {
  ases = 10 ∷ 20 ∷ 30 ∷ 40 ∷ 20 ∷ 10 ∷ 50 ∷ 60 ∷ 10 ∷ 20 ∷ [];
  links = link 2 2 ∷ link 2 3 ∷ link 1 2 ∷ link 1 3 ∷ link 1 4 ∷ link 1 5 ∷ link 3 2 ∷ link 3 3 ∷ [];
}

lost_linked : IsLinked numbered lost_walk.ases lost_walk.links
lost_linked = (
  fits_forwards 2 second [] 10 20 30 (40 ∷ []) in_second refl,
  (
    fits_forwards 2 second (10 ∷ []) 20 30 40 [] in_second refl,
    (
      fits_forwards 1 first [] 30 40 20 (10 ∷ 50 ∷ 60 ∷ []) in_first refl,
      (
        fits_forwards 1 first (30 ∷ []) 40 20 10 (50 ∷ 60 ∷ []) in_first refl,
        (
          fits_forwards 1 first (30 ∷ 40 ∷ []) 20 10 50 (60 ∷ []) in_first refl,
          (
            fits_forwards 1 first (30 ∷ 40 ∷ 20 ∷ []) 10 50 60 [] in_first refl,
            (
              fits_forwards 3 third [] 50 60 10 (20 ∷ []) in_third refl,
              (fits_forwards 3 third (50 ∷ []) 60 10 20 [] in_third refl, tt),
            ),
          ),
        ),
      ),
    ),
  ),
)

lost_refuted : Refutes numbered lost_walk
lost_refuted = record {
  x = 10;
  y = 20;
  two = λ e. omega arith;
  walk = lost_linked;
  begins = (30 ∷ 40 ∷ 20 ∷ 10 ∷ 50 ∷ 60 ∷ 10 ∷ 20 ∷ [], refl);
  flips = (10 ∷ 20 ∷ 30 ∷ 40 ∷ [], 50 ∷ 60 ∷ 10 ∷ 20 ∷ [], refl);
  ends = (10 ∷ 20 ∷ 30 ∷ 40 ∷ 20 ∷ 10 ∷ 50 ∷ 60 ∷ [], refl);
}

rule_for_lost : LostAreRefuted all (None ∷ None ∷ Some lost_walk ∷ [])
rule_for_lost = (lost_refuted, tt)

-- the first two paths are kept, and the third is not
kept_rightly : Keeps all (true ∷ true ∷ false ∷ [])
kept_rightly = keeping_law labels all (None ∷ None ∷ Some lost_walk ∷ []) rule_for_lost valley_free

-- ---- the shown orders

abbrev kept_numbered : Numbered
kept_numbered = (1, first) ∷ (2, second) ∷ []

fits_kept : (n : ℕ) (path before : List ℕ) (x y z : ℕ) (after : List ℕ) → Contains kept_numbered (n, path) → path ≡ before ++ (x ∷ y ∷ z ∷ after) →
    Fits kept_numbered (link n (length before + 2)) x y z
fits_kept n path before x y z after c e = (path, c, inl (record { before = before; after = after; whole = e; place = refl }))

one : Contains kept_numbered (1, first)
one = (0, lit< tt, refl)

two : Contains kept_numbered (2, second)
two = (1, lit< tt, refl)

abbrev whys : List Walk
whys =
    record { ases = 10 ∷ 20 ∷ 30 ∷ 40 ∷ 20 ∷ 10 ∷ []; links = link 2 2 ∷ link 2 3 ∷ link 1 2 ∷ link 1 3 ∷ [] } ∷
    record { ases = 20 ∷ 10 ∷ 50 ∷ []; links = link 1 4 ∷ [] } ∷
    record { ases = 10 ∷ 50 ∷ 60 ∷ []; links = link 1 5 ∷ [] } ∷ []

abbrev orders : List (ℕ × ℕ)
orders = (20, 10) ∷ (10, 50) ∷ (50, 60) ∷ []

no_pair : (p q : ℕ × ℕ) → (p.0 == q.0) && (p.1 == q.1) ≡ false → p ≡ q → ⊥
no_pair p q h e = both_ways ((p.0 == q.0) && (p.1 == q.1)) h (subst (λ (w : ℕ × ℕ). (p.0 == w.0) && (p.1 == w.1) ≡ true) e (same p))
  where
    same : (p : ℕ × ℕ) → (p.0 == p.0) && (p.1 == p.1) ≡ true
    same p = rw (eq-eqb p.0 p.0 refl, eq-eqb p.1 p.1 refl)

not_in : (orders : List (ℕ × ℕ)) (p : ℕ × ℕ) → list_any (λ (q : ℕ × ℕ). (q.0 == p.0) && (q.1 == p.1)) orders ≡ false → Contains orders p → ⊥
not_in [] p h c = absurd (omega arith)
not_in (q ∷ orders) p h (zero, lt, e) = elim (cases_Bool ((q.0 == p.0) && (q.1 == p.1)))
    [ inl t ↦ both_ways (list_any (λ (q : ℕ × ℕ). (q.0 == p.0) && (q.1 == p.1)) (q ∷ orders)) h (rw t) | inr f ↦ no_pair q p f e ]
not_in (q ∷ orders) p h (suc k, lt, e) = not_in orders p (rest ((q.0 == p.0) && (q.1 == p.1)) (list_any (λ (q : ℕ × ℕ). (q.0 == p.0) && (q.1 == p.1)) orders) h) (k, omega arith, e)
  where
    rest : (s t : Bool) → (s || t) ≡ false → t ≡ false
    rest true t h = absurd (false≢true (sym h))
    rest false t h = h

not_new : (orders : List (ℕ × ℕ)) (a b : ℕ) → list_any (λ (q : ℕ × ℕ). (q.0 == a) && (q.1 == b)) orders ≡ false → list_any (λ (q : ℕ × ℕ). (q.0 == b) && (q.1 == a)) orders ≡ false →
    Contains orders (a, b) ⊎ Contains orders (b, a) → ⊥
not_new orders a b h k (inl c) = not_in orders (a, b) h c
not_new orders a b h k (inr c) = not_in orders (b, a) k c

shown : Show kept_numbered whys orders
shown = (
  record {
    walk = (
      fits_kept 2 second [] 10 20 30 (40 ∷ []) two refl,
      (
        fits_kept 2 second (10 ∷ []) 20 30 40 [] two refl,
        (
          fits_kept 1 first [] 30 40 20 (10 ∷ 50 ∷ 60 ∷ []) one refl,
          (fits_kept 1 first (30 ∷ []) 40 20 10 (50 ∷ 60 ∷ []) one refl, tt),
        ),
      ),
    );
    ends = (10 ∷ 20 ∷ 30 ∷ 40 ∷ [], refl);
    begins = inl (30 ∷ 40 ∷ 20 ∷ 10 ∷ [], refl);
    new = not_new [] 20 10 refl refl;
  },
  (
    record {
      walk = (fits_kept 1 first (30 ∷ 40 ∷ []) 20 10 50 (60 ∷ []) one refl, tt);
      ends = (20 ∷ [], refl);
      begins = inr (20, 10, (50 ∷ [], refl), (0, lit< tt, refl));
      new = not_new ((20, 10) ∷ []) 10 50 refl refl;
    },
    (
      record {
        walk = (fits_kept 1 first (30 ∷ 40 ∷ 20 ∷ []) 10 50 60 [] one refl, tt);
        ends = (10 ∷ [], refl);
        begins = inr (10, 50, (60 ∷ [], refl), (1, lit< tt, refl));
        new = not_new ((20, 10) ∷ (10, 50) ∷ []) 50 60 refl refl;
      },
      tt,
    ),
  ),
)

-- ---- the probes

abbrev among : List (ℕ × ℕ) → ℕ → ℕ → Bool
among ps y z = list_any (λ (q : ℕ × ℕ). (q.0 == y) && (q.1 == z)) ps

-- the closure of "20 over 30"
abbrev reach_20_30 : List (ℕ × ℕ)
reach_20_30 = (20, 30) ∷ (30, 40) ∷ (40, 20) ∷ (20, 10) ∷ (10, 50) ∷ (50, 60) ∷ []

closed_20_30 : All (EachTriple (λ x y z. goes_on (among reach_20_30) x y z ≡ true)) kept
closed_20_30 = All-from_recursion (EachTriple (λ x y z. goes_on (among reach_20_30) x y z ≡ true)) kept
    ((refl, (refl, (refl, (refl, tt)))), ((refl, (refl, tt)), tt))

consistent_20_30 : IsConsistent kept 20 30
consistent_20_30 =
    consistency_law kept 20 30 (λ c. false≢true (Closure-within (among reach_20_30) kept 20 30 refl closed_20_30 c))

reached_30_40 : Closure kept 20 30 30 40
reached_30_40 = imply start (second, (1, lit< tt, refl), (3, inl (record { before = 10 ∷ []; after = []; whole = refl; place = refl })))

closed_60_10 : All (EachTriple (λ x y z. goes_on (among ((60, 10) ∷ [])) x y z ≡ true)) kept
closed_60_10 = All-from_recursion (EachTriple (λ x y z. goes_on (among ((60, 10) ∷ [])) x y z ≡ true)) kept
    ((refl, (refl, (refl, (refl, tt)))), ((refl, (refl, tt)), tt))

consistent_60_10 : IsConsistent kept 60 10
consistent_60_10 =
    consistency_law kept 60 10 (λ c. false≢true (Closure-within (among ((60, 10) ∷ [])) kept 60 10 refl closed_60_10 c))

-- ---- the marks

abbrev claims : List Claim
claims =
    record { low = 30; high = 40; label = Label.High; forced = false } ∷
    record { low = 20; high = 40; label = Label.Peer; forced = false } ∷
    record { low = 10; high = 20; label = Label.High; forced = true } ∷
    record { low = 10; high = 50; label = Label.Low; forced = true } ∷
    record { low = 50; high = 60; label = Label.Low; forced = true } ∷
    record { low = 20; high = 30; label = Label.High; forced = false } ∷
    record { low = 10; high = 60; label = Label.Low; forced = false } ∷ []

abbrev probes : List (ℕ × ℕ)
probes = (20, 30) ∷ (60, 10) ∷ []

marks_hold : MarksHold kept_numbered claims whys probes
marks_hold = record {
  orders = orders;
  shown = shown;
  marks = All-from_recursion (IsBorneOut kept orders probes) claims (
    inr (inr (refl, (30, 40, inr (refl, refl, refl), (0, (20, 30), lit< tt, refl, reached_30_40)))),
    (
      inr (inl (refl, refl)),
      (
        inl (refl, inr (0, lit< tt, refl)),
        (
          inl (refl, inl (1, lit< tt, refl)),
          (
            inl (refl, inl (2, lit< tt, refl)),
            (
              inr (inr (refl, (20, 30, inr (refl, refl, refl), (0, (20, 30), lit< tt, refl, start)))),
              (inr (inr (refl, (60, 10, inl (refl, refl, refl), (1, (60, 10), lit< tt, refl, start)))), tt),
            ),
          ),
        ),
      ),
    ),
  );
  probes_serve = (
    record {
      consistent = consistent_20_30;
      claim = record { low = 30; high = 40; label = Label.High; forced = false };
      claimed = (0, lit< tt, refl);
      is_open = refl;
      over = 30;
      under = 40;
      other = inr (refl, refl, refl);
      reached = reached_30_40;
      new = All-nil (λ q. Closure kept q.0 q.1 30 40 → ⊥);
    },
    (
      record {
        consistent = consistent_60_10;
        claim = record { low = 10; high = 60; label = Label.Low; forced = false };
        claimed = (6, lit< tt, refl);
        is_open = refl;
        over = 60;
        under = 10;
        other = inl (refl, refl, refl);
        reached = start;
        new = All-from_recursion (λ q. Closure kept q.0 q.1 60 10 → ⊥) ((20, 30) ∷ [])
            (λ c. false≢true (Closure-within (among reach_20_30) kept 20 30 refl closed_20_30 c), tt);
      },
      tt,
    ),
  );
}

-- no two neighbours on the kept paths are the same
apart : (path : List ℕ) → is_distinct path ≡ true → NeighboursDiffer path
apart path h = differ_if_distinct path (AllDistinct-from_test path h)

all_distinct : All NeighboursDiffer kept
all_distinct = All-from_recursion NeighboursDiffer kept (apart first refl, (apart second refl, tt))

-- so the mark of each edge is right, as that 20 is forced to be over 10, and that {30, 40} may go either way
forced_10_20 : IsForced kept 10 20
forced_10_20 =
    (marking_law labels kept_numbered claims whys probes all_distinct valley_free marks_hold
    (record { low = 10; high = 20; label = Label.High; forced = true }) (2, lit< tt, refl) (lit< tt) refl).0 refl

open_30_40 : IsForced kept 30 40 → ⊥
open_30_40 f =
    false≢true ((marking_law labels kept_numbered claims whys probes all_distinct valley_free marks_hold
    (record { low = 30; high = 40; label = Label.High; forced = false }) (0, lit< tt, refl) (lit< tt) refl).1 f)

-- {10, 60} is on no kept path; and "20 over 10" is in the closure of "10 over 20"
unheld_10_60 : IsForced kept 10 60 → ⊥
unheld_10_60 = unheld_law kept 10 60 (providers, served) (not_in (edges kept) (10, 60) refl)

implied_20_10 : (O : Orientation) → Serves O kept → is_over (labels_of O) 20 10 ≡ true
implied_20_10 O serves = implied_law O kept 20 10 (λ e. omega arith) closed serves
  where
    closed : Closure kept 10 20 20 10
    closed =
        imply (imply (imply (imply start
        (second, (1, lit< tt, refl), (2, inl (record { before = []; after = 40 ∷ []; whole = refl; place = refl }))))
        (second, (1, lit< tt, refl), (3, inl (record { before = 10 ∷ []; after = []; whole = refl; place = refl }))))
        (first, (0, lit< tt, refl), (2, inl (record { before = []; after = 10 ∷ 50 ∷ 60 ∷ []; whole = refl; place = refl }))))
        (first, (0, lit< tt, refl), (3, inl (record { before = 30 ∷ []; after = 50 ∷ 60 ∷ []; whole = refl; place = refl })))

-- row three paths: all rules on the graph are met
all_paths_distinct : All NeighboursDiffer all
all_paths_distinct = All-from_recursion NeighboursDiffer all (apart first refl, (apart second refl, (apart third refl, tt)))

meets_rules : MeetsGraphRules all (None ∷ None ∷ Some lost_walk ∷ []) claims whys probes
meets_rules = record {
  neighbours_differ = all_paths_distinct;
  lost = rule_for_lost;
  each_edge = refl;
  valley_free = valley_free;
  marks = marks_hold;
}

-- peerings at both steps of 10 20 30 are two flat steps, and ups at both are none
two_flat : ValleyFree (labelling ((10, 20) ∷ (20, 30) ∷ []) (Label.Peer ∷ Label.Peer ∷ [])) (10 ∷ 20 ∷ 30 ∷ []) → ⊥
unfolding slope is_over
two_flat v =
    false≢true ((no_valley_iff (labelling ((10, 20) ∷ (20, 30) ∷ []) (Label.Peer ∷ Label.Peer ∷ [])) (10 ∷ 20 ∷ 30 ∷ [])).1 v)

two_ups : ValleyFree (labelling ((10, 20) ∷ (20, 30) ∷ []) (Label.High ∷ Label.High ∷ [])) (10 ∷ 20 ∷ 30 ∷ [])
unfolding slope is_over
two_ups = (2, 0, inl refl)

-- by the letter of the rule a walk of one AS twice shows that it is over itself
twice_shown : Show kept_numbered (record { ases = 5 ∷ 5 ∷ []; links = [] } ∷ []) ((5, 5) ∷ [])
twice_shown = (record { walk = tt; ends = ([], refl); begins = inl ([], refl); new = not_new [] 5 5 refl refl }, tt)
