-- A result that meets all rules meets them with more givens that name no edge of its paths.
use Rattle.std.proofs.Common.{◌≡◌, ◌≢◌, ℕ, zero, suc, ◌+◌, ◌-◌, ◌<◌, inl, inr, List, [], ◌∷◌, ◌++◌, length, get_or, is_none, map, take, sym, ap, ap₂, ◌∙◌, subst, arith, All, Contains, Some, slice_get}
use Rattle.std.proofs.Common.{append_assoc}
use Rattle.std.proofs.lemmas.Option.{slice_get_within, slice_get-get_or, get_or_from_slice_get}
use Rattle.std.proofs.lemmas.List.{map-append, length-take-le, get_or-take}
use Rattle.std.proofs.lemmas.List.Elements.{All-append, All-contains, All-contains_itself, All-from_recursion, All-take, recursion_from_All, Contains-append_left, Contains-append_right, Contains-append_cases, Contains-get_or}
use Rattle.tor_arena.proofs.Gets.{All-get, Contains-map, Contains-from_has, slice_get-push_old}
use Rattle.relationships.specs.declared.given.Given.{Given}
use Rattle.relationships.specs.declared.walk.Link.{Link}
use Rattle.relationships.specs.declared.walk.Walk.{Walk}
use Rattle.relationships.specs.Relationship.{label_of}
use Rattle.relationships.specs.Checking.{Claim, OtherOrder, IsBorneOut, IsProbe}
use Rattle.relationships.specs.Evidence.{Numbered, paths_of, TripleAt, Closure}
use Rattle.relationships.specs.Evidence.Closure.{start, imply}
use Rattle.relationships.specs.Givens.{NameTwo, NameOnce, return_of, end_by}
use Rattle.relationships.specs.GivenEvidence.{FitsWith, IsLinkedWith, RefutesWith, ShowsWith, served_with}
use Rattle.relationships.specs.Graph.{Edge, edge_of, edges}
use Rattle.relationships.specs.declared.mark.Probe.{Probe}
use Rattle.relationships.proofs.Checked.{kept_all}
use Rattle.relationships.proofs.GivenLemmas.{edge_back}
use Rattle.relationships.proofs.Neighbours.{neighbours-edge}
use Rattle.result_text.specs.declared.file.EdgeLine.{EdgeLine}
use Rattle.result_text.specs.declared.file.ResultFile.{ResultFile}
use Rattle.result_rules.specs.File.{its_givens, its_paths, its_walks, its_kept, its_claims, its_edges, its_probes, kept_before, shown_orders}
use Rattle.result_rules.specs.declared.rule.Rule.TheVariants.{HeadSound, PathsCleaned, PathsDistinct, LostRefuted, EdgesListed}
use Rattle.result_rules.specs.declared.rule.Rule.TheVariants.{LabelsServe, SupportCounted, OrdersShown, MarksBorneOut, TotalsRight}
use Rattle.result_rules.specs.Rules.{Accepts, HasGivenLabel, its_served}
use Rattle.result_rules.proofs.Accepted.{edges_listed, claimed_edges, same_length}
use Rattle.result_rules.proofs.GivenLines.{name_two, name_once}
use Rattle.top_givens.specs.TopGivens.{given_pairs, top_givens_behind}
use Rattle.top_givens.proofs.Members.{given_paired, listed_edge, none_earlier_law, top_sound_law, unmapped}
use Rattle.top_laws.specs.MoreGivens.{with_more_givens, NameNoEdge, MoreGivensLaw, TopMoreLaw}

-- ---- walks may use more givens

module _ (givens more : List Given) where
  fits_more : (A : Numbered) (link : Link) (x y z : ℕ) → FitsWith givens A link x y z → FitsWith (givens ++ more) A link x y z
  fits_more A link x y z (inl f) = inl (record {
    apart = f.apart;
    given = f.given;
    named = (f.named.0, slice_get-push_old givens more (link.at - 1) f.given f.named.1);
    first = f.first;
    second = f.second;
    third = f.third;
  })
  fits_more A link x y z (inr f) = inr f

  linked_more : (A : Numbered) (ases : List ℕ) (links : List Link) → IsLinkedWith givens A ases links → IsLinkedWith (givens ++ more) A ases links
  linked_more A [] links h = absurd h
  linked_more A (x ∷ []) links h = absurd h
  linked_more A (x ∷ y ∷ []) [] h = tt
  linked_more A (x ∷ y ∷ []) (link ∷ links) h = absurd h
  linked_more A (x ∷ y ∷ z ∷ ases) [] h = absurd h
  linked_more A (x ∷ y ∷ z ∷ ases) (link ∷ links) h = (fits_more A link x y z h.0, linked_more A (y ∷ z ∷ ases) links h.1)

  refutes_more : (A : Numbered) (w : Walk) → RefutesWith givens A w → RefutesWith (givens ++ more) A w
  refutes_more A w r = record { x = r.x; y = r.y; two = r.two; walk = linked_more A w.ases w.links r.walk; begins = r.begins; flips = r.flips; ends = r.ends }

  shows_more : (A : Numbered) (shown : List (ℕ × ℕ)) (w : Walk) (a b : ℕ) → ShowsWith givens A shown w a b → ShowsWith (givens ++ more) A shown w a b
  shows_more A shown w a b s = record { walk = linked_more A w.ases w.links s.walk; ends = s.ends; begins = s.begins; new = s.new }

-- ---- closures that come to an edge of the paths are the same

module _ (givens more : List Given) (paths some : List (List ℕ)) (sub : (p : List ℕ) → Contains some p → Contains paths p) (none : NameNoEdge more paths) where
  abbrev few : List (List ℕ)
  few = served_with givens some

  abbrev all : List (List ℕ)
  all = served_with (givens ++ more) some

  abbrev OnEdge : ℕ × ℕ → Type 0
  OnEdge p = Contains (edges paths) (edge_of p.0 p.1)

  -- the ASes of a triple of a return
  on_return : (g : Given) (at x y z : ℕ) → TripleAt (return_of g) at x y z → (x ≡ g.under) × (y ≡ g.over) × (z ≡ g.under)
  on_return g at x y z (inl s) = go s.before s.after s.whole
    where
      go : (before after : List ℕ) → return_of g ≡ before ++ (x ∷ y ∷ z ∷ after) → (x ≡ g.under) × (y ≡ g.over) × (z ≡ g.under)
      go [] after e = (cc, cc, cc)
      go (b ∷ []) after e = absurd (cc e)
      go (b ∷ c ∷ []) after e = absurd (cc e)
      go (b ∷ c ∷ d ∷ []) after e = absurd (cc e)
      go (b ∷ c ∷ d ∷ f ∷ before) after e = absurd (cc e)
  on_return g at x y z (inr s) = go s.before s.after s.whole
    where
      go : (before after : List ℕ) → return_of g ≡ before ++ (z ∷ y ∷ x ∷ after) → (x ≡ g.under) × (y ≡ g.over) × (z ≡ g.under)
      go [] after e = (cc, cc, cc)
      go (b ∷ []) after e = absurd (cc e)
      go (b ∷ c ∷ []) after e = absurd (cc e)
      go (b ∷ c ∷ d ∷ []) after e = absurd (cc e)
      go (b ∷ c ∷ d ∷ f ∷ before) after e = absurd (cc e)

  -- the two pairs of a triple of a path are edges
  first_pair : (path : List ℕ) → Contains some path → (at x y z : ℕ) → TripleAt path at x y z → OnEdge (x, y)
  first_pair path c at x y z (inl s) = neighbours-edge paths x y (path, sub path c, (s.before, z ∷ s.after, s.whole))
  first_pair path c at x y z (inr s) =
      subst (Contains (edges paths)) (edge_back y x)
      (neighbours-edge paths y x (path, sub path c, (s.before ++ z ∷ [], s.after, s.whole ∙ sym (append_assoc s.before (z ∷ []) (y ∷ x ∷ s.after)))))

  last_pair : (path : List ℕ) → Contains some path → (at x y z : ℕ) → TripleAt path at x y z → OnEdge (y, z)
  last_pair path c at x y z (inl s) =
      neighbours-edge paths y z (path, sub path c, (s.before ++ x ∷ [], s.after, s.whole ∙ sym (append_assoc s.before (x ∷ []) (y ∷ z ∷ s.after))))
  last_pair path c at x y z (inr s) = subst (Contains (edges paths)) (edge_back z y) (neighbours-edge paths z y (path, sub path c, (s.before, x ∷ s.after, s.whole)))

  -- what some path or return of these has
  in_all : (path : List ℕ) → Contains few path → Contains all path
  in_all path c = elim (Contains-append_cases (map return_of givens) some path c) [
    | inl i ↦ Contains-append_left (map return_of (givens ++ more)) some path
        (subst (λ ps. Contains ps path) (sym (map-append return_of givens more)) (Contains-append_left (map return_of givens) (map return_of more) path i))
    | inr i ↦ Contains-append_right (map return_of (givens ++ more)) some path i
  ]

  wide : (a b : ℕ) {y z : ℕ} → Closure few a b y z → Closure all a b y z
  wide a b start = start
  wide a b (imply c (path, i, t)) = imply (wide a b c) (path, in_all path i, t)

  narrow : (a b : ℕ) → OnEdge (a, b) → {y z : ℕ} → Closure all a b y z → Closure few a b y z × OnEdge (y, z)
  narrow a b on start = (start, on)
  narrow a b on (imply {x = x} {y = y} {z = z} c (path, i, (at, t))) =
      let before = narrow a b on c in
      elim (Contains-append_cases (map return_of (givens ++ more)) some path i) [
        | inr h ↦ (imply before.0 (path, Contains-append_right (map return_of givens) some path h, (at, t)), last_pair path h at x y z t)
        | inl h ↦
            let u = unmapped return_of (givens ++ more) path h in
            let g = u.0 in
            let three = on_return g at x y z (subst (λ p. TripleAt p at x y z) (sym u.2) t) in
            let here : Contains (edges paths) (edge_of g.over g.under) = subst (Contains (edges paths)) (ap₂ edge_of three.0 three.1 ∙ edge_back g.under g.over) before.1 in
            elim (Contains-append_cases givens more g u.1) [
              | inr late ↦ absurd (none g late here)
              | inl own ↦ (
                imply before.0 (path, Contains-append_left (map return_of givens) some path (subst (Contains (map return_of givens)) u.2 (Contains-map return_of givens g own)), (at, t)),
                subst (Contains (edges paths)) (ap₂ edge_of (sym three.1) (sym three.2)) here,
              )
            ]
      ]

  back : (a b : ℕ) {y z : ℕ} → Closure few a b y z → OnEdge (y, z) → OnEdge (a, b)
  back a b start on = on
  back a b (imply {x = x} {y = y} {z = z} c (path, i, (at, t))) on =
      elim (Contains-append_cases (map return_of givens) some path i) [
        | inr h ↦ back a b c (first_pair path h at x y z t)
        | inl h ↦
            let u = unmapped return_of givens path h in
            let three = on_return u.0 at x y z (subst (λ p. TripleAt p at x y z) (sym u.2) t) in
            back a b c (subst (Contains (edges paths)) (edge_back y z ∙ ap (λ n. edge_of n y) (three.2 ∙ sym three.0)) on)
      ]

  -- ---- marks

  module _ (claims : List Claim) (on_edges : (c : Claim) → Contains claims c → OnEdge (c.low, c.high)) where
    borne_more : (orders probes : List (ℕ × ℕ)) (c : Claim) → IsBorneOut few orders probes c → IsBorneOut all orders probes c
    borne_more orders probes c (inl shown) = inl shown
    borne_more orders probes c (inr (inl peer)) = inr (inl peer)
    borne_more orders probes c (inr (inr (unforced, (over, under, other, (k, p, within, is, reached))))) =
        inr (inr (unforced, (over, under, other, (k, p, within, is, wide p.0 p.1 reached))))

    other_on : (c : Claim) → Contains claims c → (over under : ℕ) → OtherOrder c over under → OnEdge (over, under)
    other_on c i over under (inl o) = subst (Contains (edges paths)) (edge_back c.low c.high ∙ ap₂ edge_of (sym o.1) (sym o.2)) (on_edges c i)
    other_on c i over under (inr o) = subst (Contains (edges paths)) (ap₂ edge_of (sym o.1) (sym o.2)) (on_edges c i)

    probe_on : (earlier : List (ℕ × ℕ)) (p : ℕ × ℕ) → IsProbe few claims earlier p → OnEdge p
    probe_on earlier p i = back p.0 p.1 i.reached (other_on i.claim i.claimed i.over i.under i.other)

    probe_more : (earlier : List (ℕ × ℕ)) (p : ℕ × ℕ) → All OnEdge earlier → IsProbe few claims earlier p → IsProbe all claims earlier p
    probe_more earlier p on i =
        let own = probe_on earlier p i in
        record {
          consistent = λ y z c d. i.consistent y z (narrow p.0 p.1 own c).0 (narrow p.0 p.1 own d).0;
          claim = i.claim;
          claimed = i.claimed;
          is_open = i.is_open;
          over = i.over;
          under = i.under;
          other = i.other;
          reached = wide p.0 p.1 i.reached;
          new = λ k d lt c. i.new k d lt (narrow (get_or earlier k d).0 (get_or earlier k d).1 (on k d lt) c).0;
        }

-- ---- all rules

new_given : (all : List Given) → NameTwo all → NameOnce all → (k : ℕ) (given : Given) → slice_get all k ≡ Some given →
    (given.over ≢ given.under) × All (λ (g : Given). edge_of g.over g.under ≢ edge_of given.over given.under) (take k all)
new_given all two once k given at = (
  All-get (λ (g : Given). g.over ≢ g.under) all k given two at,
  λ i d lt same.
      let within = slice_get_within all k given at in
      let before : i < k = subst (λ n. i < n) (length-take-le k all (omega (arith, within))) lt in
      let first : get_or (take k all) i d ≡ get_or all i d = get_or-take k all i d before in
      let last : get_or all k d ≡ given = get_or_from_slice_get all k given d at in
      once i k d before within (ap (λ (g : Given). edge_of g.over g.under) (sym first) ∙ same ∙ ap (λ (g : Given). edge_of g.over g.under) (sym last)),
)

module _ (file : ResultFile) (more : List Given) (accepts : Accepts file) (two : NameTwo (its_givens file ++ more)) (once : NameOnce (its_givens file ++ more))
    (none : NameNoEdge more (its_paths file)) where
  abbrev file' : ResultFile
  file' = with_more_givens file more

  abbrev paths : List (List ℕ)
  paths = its_paths file

  abbrev kept : List (List ℕ)
  kept = paths_of (its_kept file)

  listed : its_edges file ≡ edges paths
  listed = edges_listed file (accepts EdgesListed)

  kept_there : (p : List ℕ) → Contains kept p → Contains paths p
  kept_there p c =
      All-contains (Contains paths) kept p (All-from_recursion (Contains paths) kept
      (kept_all (Contains paths) 1 paths (map is_none (its_walks file)) (recursion_from_All (Contains paths) paths (All-contains_itself paths)))) c

  on_edges : (c : Claim) → Contains (its_claims file) c → Contains (edges paths) (edge_of c.low c.high)
  on_edges c i =
      let on : Contains (edges paths) (c.low, c.high) =
      subst (λ (es : List Edge). Contains es (c.low, c.high)) (claimed_edges file.edges ∙ listed) (Contains-map {Y = Edge} (λ (c : Claim). (c.low, c.high)) (its_claims file) c i) in
      subst (Contains (edges paths)) (sym (listed_edge paths (c.low, c.high) on)) on

  probe_at : (k : ℕ) (p : ℕ × ℕ) → slice_get (its_probes file) k ≡ Some p → IsProbe (its_served file) (its_claims file) (take k (its_probes file)) p
  probe_at k p at =
      let lt = slice_get_within (its_probes file) k p at in
      let same = same_length {Y = ℕ × ℕ} (λ (q : Probe). (q.over, q.under)) file.probes in
      let back : length file.edges + k - length file.edges ≡ k = omega arith in
      let at_back : slice_get (its_probes file) (length file.edges + k - length file.edges) ≡ Some p = subst (λ n. slice_get (its_probes file) n ≡ Some p) (sym back) at in
      subst (λ n. IsProbe (its_served file) (its_claims file) (take n (its_probes file)) p) back
      ((accepts MarksBorneOut (length file.edges + k) (omega (arith, lt, same))).1 (omega arith) p at_back)

  all_on : All (λ (p : ℕ × ℕ). Contains (edges paths) (edge_of p.0 p.1)) (its_probes file)
  all_on k d lt =
      probe_on (its_givens file) more paths kept kept_there none (its_claims file) on_edges (take k (its_probes file)) (get_or (its_probes file) k d)
      (probe_at k (get_or (its_probes file) k d) (slice_get-get_or (its_probes file) k d lt))

  label_more : (line : EdgeLine) → Contains file.edges line → HasGivenLabel file line → HasGivenLabel file' line
  label_more line c has =
      All-append (λ (g : Given). edge_of g.over g.under ≡ (line.low, line.high) → line.label ≡ label_of (end_by g.over g.under)) (its_givens file) more has
      (λ k d lt same. absurd (none (get_or more k d) (Contains-get_or more k d lt) (subst (Contains (edges paths)) (sym same)
      (subst (λ (es : List Edge). Contains es (line.low, line.high)) listed (Contains-map {Y = Edge} (λ (e : EdgeLine). (e.low, e.high)) file.edges line c)))))

  meets : Accepts file'
  meets HeadSound zero lt = accepts HeadSound zero (omega arith)
  meets HeadSound (suc k) lt = λ given at. (let n = new_given (its_givens file ++ more) two once k given at in record { two = n.0; new = n.1 })
  meets PathsCleaned k lt = λ line at. (let s = accepts PathsCleaned k lt line at in record { cleaned = s.cleaned; seen = s.seen; few = s.few; numbers = s.numbers })
  meets PathsDistinct k lt = accepts PathsDistinct k lt
  meets LostRefuted k lt = λ line at walk lost. refutes_more (its_givens file) more (kept_before file k ++ (k + 1, line.path) ∷ []) walk (accepts LostRefuted k lt line at walk lost)
  meets EdgesListed k lt = accepts EdgesListed k lt
  meets LabelsServe k lt = (
    (accepts LabelsServe k lt).0,
    λ le line at. label_more line (Contains-from_has file.edges line (k - length file.paths, at)) ((accepts LabelsServe k lt).1 le line at),
  )
  meets SupportCounted k lt = accepts SupportCounted k lt
  meets OrdersShown k lt = λ walk at. (let s = accepts OrdersShown k lt walk at in
      (s.0, s.1, shows_more (its_givens file) more (its_kept file) (shown_orders (take k file.whys)) walk s.0 s.1 s.2))
  meets MarksBorneOut k lt = (
    λ claim at. borne_more (its_givens file) more paths kept kept_there none (its_claims file) on_edges (shown_orders file.whys) (its_probes file) claim ((accepts MarksBorneOut k lt).0 claim at),
    λ le probe at.
        let place = k - length file.edges in
        probe_more (its_givens file) more paths kept kept_there none (its_claims file) on_edges (take place (its_probes file)) probe
        (All-take (λ (p : ℕ × ℕ). Contains (edges paths) (edge_of p.0 p.1)) place (its_probes file) all_on) ((accepts MarksBorneOut k lt).1 le probe at),
  )
  meets TotalsRight k lt = accepts TotalsRight k lt

pub more_givens_law : MoreGivensLaw
more_givens_law file more accepts two once none = meets file more accepts two once none

pub top_more_law : TopMoreLaw
top_more_law file top paths accepts =
    let own = its_givens file in
    let more = top_givens_behind top own (its_paths file) paths in
    let sound = top_sound_law top (given_pairs own ++ edges (its_paths file)) paths own (given_paired own (edges (its_paths file))) in
    more_givens_law file more accepts (sound.0 (name_two file (accepts HeadSound))) (sound.1 (name_once file (accepts HeadSound)))
    (λ g c there. none_earlier_law top own (its_paths file) paths g c there)
