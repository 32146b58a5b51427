-- What the earlier rules give of a file: that there is no valley, and so what its rows are laid out for.
use Rattle.std.proofs.Common.{◌≡◌, ◌⊎◌, inl, inr, ℕ, zero, suc, ◌+◌, ◌-◌, ◌<◌, ◌≤◌, true, false, List, [], ◌∷◌, Some, is_none, length, map, flat_map}
use Rattle.std.proofs.Common.{get_or, slice_get, slice_index, refl, sym, ap, ◌∙◌, subst, arith, Contains, lt-ltb, le-ltb, IsTrue, if◌then◌else◌}
use Rattle.std.proofs.lemmas.Bool.{false≢true}
use Rattle.std.proofs.lemmas.Option.{same_Some, slice_get-get_or, get_or_from_slice_get, slice_get_within}
use Rattle.std.proofs.lemmas.List.{length-map}
use Rattle.std.proofs.lemmas.List.Elements.{All-contains}
use Rattle.relationships.specs.declared.label.End.{End}
use Rattle.relationships.specs.declared.label.Label.{Label}
use Rattle.relationships.specs.declared.label.Label.TheVariants as label
use Rattle.relationships.specs.Graph.{Edge, edge_of, is_same, edges_on, edges, labelling}
use Rattle.relationships.specs.Relationship.{Orientation, Labelling, labels_of, label_of, is_low, is_high, is_over, ValleyFree, Serves}
use Rattle.relationships.specs.Evidence.{IsTriple, TripleAt, kept_from}
use Rattle.relationships.specs.Preference.{AgreesOn}
use Rattle.relationships.specs.declared.given.Given.{Given}
use Rattle.relationships.specs.Givens.{end_by, names_edge, IsReturn}
use Rattle.relationships.proofs.Edges.{peering_law}
use Rattle.relationships.proofs.GivenLemmas.{triple_split}
use Rattle.relationships.proofs.GivenWalks.{any_contains}
use Rattle.relationships.proofs.Places.{index-from_StandAt, kept_from-out}
use Rattle.relationships.proofs.Serving.{serves_satisfies}
use Rattle.relationships.proofs.Slopes.{over-low, over-high, over_one_way}
use Rattle.relationships.specs.declared.fate.Fate.{Fate}
use Rattle.relationships.specs.declared.fate.Fate.TheVariants.{Kept, Lost}
use Rattle.result_text.specs.declared.file.PathLine.{PathLine}
use Rattle.result_text.specs.declared.file.EdgeLine.{EdgeLine}
use Rattle.result_text.specs.declared.file.ResultFile.{ResultFile}
use Rattle.relationships.specs.Fates.{walk_of}
use Rattle.result_rules.specs.File.{its_givens, its_paths, its_edges, its_labels, claim_on}
use Rattle.result_rules.specs.declared.rule.Rule.TheVariants.{PathsCleaned, EdgesListed, LabelsServe}
use Rattle.result_rules.specs.Rules.{IsMet}
use Rattle.line_rules.specs.Flipping.{flipped_by, flipped, flipped_orders, FlipsTo, kept_lines, served_lines, IsBuilt, FlipsLeaveNoValley}
use Rattle.line_rules.specs.EdgeLines.{edges_of, IsListed}
use Rattle.tor_arena.proofs.Gets.{slice_get-some, slice_get-map, slice_get-unmap, All-get, Contains-from_has, has-from_Contains}
use Rattle.line_rules.specs.Serving.{IsLaidOut}
use Rattle.relationships.specs.Checking.{Claim}
use Rattle.line_rules.proofs.OrderPlaces.{pair, proper, flips_of, line_of, edge_of-flipped, edge_of-swap}
use Rattle.line_rules.proofs.Showings.{two_orders}
use Rattle.line_rules.proofs.ListedEdges.{its_edges_are, edges_few, edges_apart, lines_listed, Once, at_recursion, same_itself, distinct_once}

-- ---- the kept paths

-- a kept path is one of the paths, and its line is kept
pub kept_line : (lines : List PathLine) (path : List ℕ) → Contains (kept_lines lines) path → (i : ℕ) × (line : PathLine) × (slice_get lines i ≡ Some line) × (line.path ≡ path) × (line.fate ≡ Kept)
kept_line lines path c =
    let paths = map (λ (p : PathLine). p.path) lines in
    let keeps = map is_none (map (λ (p : PathLine). walk_of p.fate) lines) in
    let at = has-from_Contains (kept_lines lines) path c in
    let pair = slice_get-unmap (λ (p : ℕ × List ℕ). p.1) (kept_from 1 paths keeps) at.0 path at.1 in
    let r = kept_from-out 1 paths keeps pair.0.0 pair.0.1 (Contains-from_has (kept_from 1 paths keeps) pair.0 (at.0, pair.1)) in
    let i = r.0 in
    let line = slice_get-some lines i (omega (arith, r.2, length-map lines (λ (p : PathLine). p.path))) in
    let its_path = slice_get-map (λ (p : PathLine). p.path) lines i line.0 line.1 in
    let its_walk = slice_get-map (λ (p : PathLine). walk_of p.fate) lines i line.0 line.1 in
    let its_keep = slice_get-map is_none (map (λ (p : PathLine). walk_of p.fate) lines) i (walk_of line.0.fate) its_walk in
    let same = sym (get_or_from_slice_get paths i line.0.path pair.0.1 its_path) ∙ r.4 ∙ pair.2 in
    (i, line.0, line.1, same, kept_fate line.0.fate (sym (get_or_from_slice_get keeps i (is_none (walk_of line.0.fate)) true its_keep) ∙ r.5 true))
  where
    kept_fate : (fate : Fate) → is_none (walk_of fate) ≡ true → fate ≡ Kept
    kept_fate Kept h = refl
    kept_fate (Lost walk) h = absurd (false≢true h)

-- ---- labels

label_at : (es : List Edge) (ls : List Label) (k low high : ℕ) (l : Label) → Once es → slice_get es k ≡ Some (low, high) → slice_get ls k ≡ Some l → labelling es ls low high ≡ l
label_at [] ls k low high l once at at' = cc
label_at (e ∷ es) [] k low high l once at at' = cc
label_at (e ∷ es) (v ∷ ls) zero low high l once at at' =
    let same : e ≡ (low, high) = same_Some e (low, high) at in
    let same' : v ≡ l = same_Some v l at' in
    rw (same_itself e (low, high) same) same'
label_at (e ∷ es) (v ∷ ls) (suc k) low high l once at at' =
    rw (at_recursion (λ f. is_same e f ≡ false) es k (low, high) once.0 at) (label_at es ls k low high l once.1 at at')

-- the label, with a peering read as if the lower number were the provider
abbrev read : Label → End
read label.Low = End.Low
read label.High = End.High
read label.Peer = End.Low

abbrev reading : Labelling → Orientation
reading L low high = read (L low high)

reading_agrees : (L : Labelling) (es : List Edge) → AgreesOn es L (labels_of (reading L))
reading_agrees L es = λ k d within. (λ h. rw h, λ h. rw h)

-- where an edge would flip to y over x, its label has x over y
holds_by : (O : Orientation) (low high x y : ℕ) (l : Label) → low < high → O low high ≡ read l → flipped_by l low high ≡ (y, x) → is_over (labels_of O) x y ≡ true
holds_by O low high x y label.Low lt e t =
    let h : ◌≡◌ {A = ℕ × ℕ} (high, low) (y, x) = t in
    subst (λ w. is_over (labels_of O) w y ≡ true) (ap (λ (p : ℕ × ℕ). p.1) h)
    (subst (λ w. is_over (labels_of O) low w ≡ true) (ap (λ (p : ℕ × ℕ). p.0) h) (over-low (labels_of O) low high lt (ap (λ v. is_low (label_of v)) e)))
holds_by O low high x y label.High lt e t =
    let h : ◌≡◌ {A = ℕ × ℕ} (low, high) (y, x) = t in
    subst (λ w. is_over (labels_of O) w y ≡ true) (ap (λ (p : ℕ × ℕ). p.1) h)
    (subst (λ w. is_over (labels_of O) high w ≡ true) (ap (λ (p : ℕ × ℕ). p.0) h) (over-high (labels_of O) low high lt (ap (λ v. is_high (label_of v)) e)))
holds_by O low high x y label.Peer lt e t =
    let h : ◌≡◌ {A = ℕ × ℕ} (high, low) (y, x) = t in
    subst (λ w. is_over (labels_of O) w y ≡ true) (ap (λ (p : ℕ × ℕ). p.1) h)
    (subst (λ w. is_over (labels_of O) low w ≡ true) (ap (λ (p : ℕ × ℕ). p.0) h) (over-low (labels_of O) low high lt (ap (λ v. is_low (label_of v)) e)))

-- an edge flips to one of the orders of its two ASes
flips_either : (l : Label) (low high x y : ℕ) → edge_of x y ≡ (low, high) → (flipped_by l low high ≡ (x, y)) ⊎ (flipped_by l low high ≡ (y, x))
flips_either label.Low low high x y e = elim (two_orders x y low high e) [ inl h ↦ inr (pair (sym (ap (λ (p : ℕ × ℕ). p.1) h)) (sym (ap (λ (p : ℕ × ℕ). p.0) h))) | inr h ↦ inl (sym h) ]
flips_either label.High low high x y e = elim (two_orders x y low high e) [ inl h ↦ inl (sym h) | inr h ↦ inr (pair (sym (ap (λ (p : ℕ × ℕ). p.1) h)) (sym (ap (λ (p : ℕ × ℕ). p.0) h))) ]
flips_either label.Peer low high x y e = elim (two_orders x y low high e) [ inl h ↦ inr (pair (sym (ap (λ (p : ℕ × ℕ). p.1) h)) (sym (ap (λ (p : ℕ × ℕ). p.0) h))) | inr h ↦ inl (sym h) ]

-- an edge whose label has the first of two as provider doesn't flip to that order
unflipped : (l : Label) (low high over under : ℕ) → low < high → l ≡ label_of (end_by over under) → flipped_by l low high ≡ (over, under) → ⊥
unflipped label.Low low high over under lt is t =
    let h : ◌≡◌ {A = ℕ × ℕ} (high, low) (over, under) = t in
    let e : high ≡ over = ap (λ (p : ℕ × ℕ). p.0) h in
    let e' : low ≡ under = ap (λ (p : ℕ × ℕ). p.1) h in
    let le : under ≤ over = omega (arith, e, e', lt) in
    let other : label.Low ≡ label.High = is ∙ ap (λ b. label_of (if b then End.Low else End.High)) (le-ltb over under le) in
    cc
unflipped label.High low high over under lt is t =
    let h : ◌≡◌ {A = ℕ × ℕ} (low, high) (over, under) = t in
    let e : low ≡ over = ap (λ (p : ℕ × ℕ). p.0) h in
    let e' : high ≡ under = ap (λ (p : ℕ × ℕ). p.1) h in
    let less : over < under = omega (arith, e, e', lt) in
    let other : label.High ≡ label.Low = is ∙ ap (λ b. label_of (if b then End.Low else End.High)) (lt-ltb over under less) in
    cc
unflipped label.Peer low high over under lt is t = no_peer (end_by over under) is
  where
    no_peer : (end : End) → label.Peer ≡ label_of end → ⊥
    no_peer End.Low h = cc
    no_peer End.High h = cc

module _ (file : ResultFile) (cleaned : IsMet file PathsCleaned) (listed : IsMet file EdgesListed) (served : IsMet file LabelsServe) where
  abbrev O : Orientation
  O = reading (its_labels file)

  kept_served : Serves O (kept_lines file.paths)
  kept_served =
      peering_law (its_labels file) (kept_lines file.paths)
      (λ i d lt.
      let path = get_or (kept_lines file.paths) i d in
      let w = kept_line file.paths path (Contains-from_has (kept_lines file.paths) path (i, slice_get-get_or (kept_lines file.paths) i d lt)) in
      let within = slice_get_within file.paths w.0 w.1 w.2 in
      subst (ValleyFree (its_labels file)) w.3 ((served w.0 (omega (arith, within))).0 w.1 w.2 w.4))
      O (reading_agrees (its_labels file) (edges (kept_lines file.paths)))

  its_once : Once (edges_of file.edges)
  its_once = subst Once (sym (its_edges_are file cleaned listed)) (distinct_once (flat_map edges_on (its_paths file)))

  label_of_line : (k : ℕ) (line : EdgeLine) → slice_get file.edges k ≡ Some line → its_labels file line.low line.high ≡ line.label
  label_of_line k line at =
      let claims = map claim_on file.edges in
      let c = slice_get-map claim_on file.edges k line at in
      let e = slice_get-map (λ (c : Claim). (c.low, c.high)) claims k (claim_on line) c in
      let l = slice_get-map (λ (c : Claim). c.label) claims k (claim_on line) c in
      let same : map (λ (c : Claim). (c.low, c.high)) claims ≡ edges_of file.edges = same_edges file.edges in
      label_at (map (λ (c : Claim). (c.low, c.high)) claims) (map (λ (c : Claim). c.label) claims) k line.low line.high line.label (subst Once (sym same) its_once) e l
    where
      same_edges : (lines : List EdgeLine) → map (λ (c : Claim). (c.low, c.high)) (map claim_on lines) ≡ edges_of lines
      same_edges [] = refl
      same_edges (line ∷ lines) = ap (λ (l : List Edge). (line.low, line.high) ∷ l) (same_edges lines)

  holds : (k x y : ℕ) → FlipsTo (flipped_orders file.edges) k y x → is_over (labels_of O) x y ≡ true
  holds k x y t =
      let w = slice_get-unmap flipped file.edges k (y, x) t in
      let lt = All-get (λ (l : EdgeLine). l.low < l.high) file.edges k w.0 (edges_apart file cleaned listed).rising w.1 in
      holds_by O w.0.low w.0.high x y w.0.label lt (ap read (label_of_line k w.0 w.1)) w.2

  -- two neighbours on a kept path are the ends of an edge line
  neighbours : (x y : ℕ) → Contains (edges_of file.edges) (edge_of x y) → ((k : ℕ) × FlipsTo (flipped_orders file.edges) k x y) ⊎ ((k : ℕ) × FlipsTo (flipped_orders file.edges) k y x)
  neighbours x y c =
      let at = has-from_Contains (edges_of file.edges) (edge_of x y) c in
      let w = slice_get-unmap (λ (e : EdgeLine). (e.low, e.high)) file.edges at.0 (edge_of x y) at.1 in
      elim (flips_either w.0.label w.0.low w.0.high x y (sym w.2)) [
        | inl t ↦ inl (at.0, flips_of file.edges at.0 x y w.0 w.1 t)
        | inr t ↦ inr (at.0, flips_of file.edges at.0 y x w.0 w.1 t)
      ]

  -- the label of an edge line has the provider of a given of its two
  has_given : (k : ℕ) (line : EdgeLine) → slice_get file.edges k ≡ Some line → (g : Given) → Contains (its_givens file) g → edge_of g.over g.under ≡ (line.low, line.high) →
      line.label ≡ label_of (end_by g.over g.under)
  has_given k line at g c e =
      let lt = slice_get_within file.edges k line at in
      let asked = (served (length file.paths + k) (omega (arith, lt))).1 (omega arith) in
      let same : length file.paths + k - length file.paths ≡ k = omega arith in
      All-contains (λ (h : Given). edge_of h.over h.under ≡ (line.low, line.high) → line.label ≡ label_of (end_by h.over h.under)) (its_givens file) g
      (asked line (ap (slice_get file.edges) same ∙ at)) c e

  -- so its edge doesn't flip to the given's order
  pub not_given : (k : ℕ) (g : Given) → Contains (its_givens file) g → FlipsTo (flipped_orders file.edges) k g.over g.under → ⊥
  not_given k g c t =
      let apart = edges_apart file cleaned listed in
      let w = line_of file.edges apart k g.over g.under t in
      let lt = All-get (λ (l : EdgeLine). l.low < l.high) file.edges k w.0 apart.rising w.1 in
      let e = edge_of-flipped w.0.label w.0.low w.0.high g.over g.under lt w.2 in
      unflipped w.0.label w.0.low w.0.high g.over g.under lt (has_given k w.0 w.1 g c e) w.2

  edge_named : (g : Given) → IsTrue (names_edge (its_paths file) g) → Contains (edges_of file.edges) (edge_of g.over g.under)
  edge_named g t = subst (λ es. Contains es (edge_of g.over g.under)) (sym (its_edges_are file cleaned listed)) (any_contains (edges (its_paths file)) (edge_of g.over g.under) t)

  -- the triples of returns, and those of kept paths
  returned : (x y z : ℕ) → IsTriple (served_lines file) x y z → IsReturn (its_paths file) (its_givens file) x y z ⊎ IsTriple (kept_lines file.paths) x y z
  returned x y z t = triple_split (its_givens file) (its_paths file) (kept_lines file.paths) x y z t

  pub settled : FlipsLeaveNoValley (flipped_orders file.edges) (served_lines file)
  settled = record {
    listed = λ x y z t. elim (returned x y z t) [
      | inl r ↦ neighbours x y (subst (λ v. Contains (edges_of file.edges) (edge_of v y)) (sym r.first)
          (subst (λ v. Contains (edges_of file.edges) (edge_of r.given.under v)) (sym r.second)
          (subst (Contains (edges_of file.edges)) (edge_of-swap r.given.over r.given.under) (edge_named r.given r.named))))
      | inr u ↦
          let w = kept_line file.paths u.0 u.1 in
          let each = subst (IsListed (its_edges file)) w.3 (All-get (λ line. IsListed (its_edges file) line.path) file.paths w.0 w.1 (lines_listed file cleaned listed) w.2) in
          first_two u.0 u.2.0 x y z each u.2.1
    ];
    no_valley = λ x y z t i j. elim (returned x y z t) [
      | inl r ↦ not_given i.0 r.given r.there (subst (λ v. FlipsTo (flipped_orders file.edges) i.0 r.given.over v) r.first
          (subst (λ v. FlipsTo (flipped_orders file.edges) i.0 v x) r.second i.1))
      | inr u ↦ over_one_way (labels_of O) y z (serves_satisfies O (kept_lines file.paths) kept_served x y z u (holds i.0 x y i.1)) (holds j.0 z y j.1)
    ];
  }
    where
      first_two : (path : List ℕ) (at x y z : ℕ) → IsListed (edges_of file.edges) path → TripleAt path at x y z →
          ((k : ℕ) × FlipsTo (flipped_orders file.edges) k x y) ⊎ ((k : ℕ) × FlipsTo (flipped_orders file.edges) k y x)
      first_two path at x y z each (inl s) =
          let w = index-from_StandAt path at x y z s in
          let two = w.0 in
          let within = w.1 in
          let e : at - 2 + 1 ≡ at - 1 = omega arith in
          let c = each (at - 2) (omega arith) in
          neighbours x y (subst (λ v. Contains (edges_of file.edges) (edge_of v y)) w.2
          (subst (λ v. Contains (edges_of file.edges) (edge_of (slice_index path (at - 2)) v)) (ap (slice_index path) e ∙ w.3) c))
      first_two path at x y z each (inr s) =
          let w = index-from_StandAt path at z y x s in
          let two = w.0 in
          let within = w.1 in
          let e : at - 1 + 1 ≡ at = omega arith in
          let c = each (at - 1) (omega arith) in
          let c' = subst (λ v. Contains (edges_of file.edges) (edge_of v x)) w.3
          (subst (λ v. Contains (edges_of file.edges) (edge_of (slice_index path (at - 1)) v)) (ap (slice_index path) e ∙ w.4) c) in
          neighbours x y (subst (Contains (edges_of file.edges)) (edge_of-swap y x) c')

  pub laid : (implied conflicting : List (List ℕ)) → IsBuilt (flipped_orders file.edges) (IsTriple (served_lines file)) implied conflicting → IsLaidOut file (its_edges file) implied conflicting
  laid implied conflicting built = record {
    listed = refl;
    whole = its_edges_are file cleaned listed;
    few = edges_few file cleaned listed;
    apart = edges_apart file cleaned listed;
    proper = proper file.edges (edges_apart file cleaned listed);
    settled = settled;
    built = built;
  }
