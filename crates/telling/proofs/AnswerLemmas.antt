-- Each question about a result that meets all rules has an answer.
use Rattle.std.proofs.Common.{◌≡◌, ◌≢◌, ℕ, zero, suc, ◌+◌, ◌<◌, ◌⊎◌, inl, inr, true, List, [], ◌∷◌, ◌++◌, length, map, Some, None, Option, take, slice_get, refl, sym, ap, ap₂, ◌∙◌, subst, arith, Contains}
use Rattle.std.specs.Prelude.{reverse}
use Rattle.std.specs.List.{Any}
use Rattle.std.proofs.lemmas.Bool.{cases_eq, cases_lt}
use Rattle.std.proofs.lemmas.List.{take_all}
use Rattle.std.proofs.lemmas.List.Elements.{All-contains}
use Rattle.std.proofs.lemmas.Option.{slice_get_within}
use Rattle.tor_arena.proofs.Gets.{Contains-from_has, Contains-map, has-from_Contains, slice_get-some, slice_get-unmap}
use Rattle.relationships.specs.declared.label.Label.{Label}
use Rattle.relationships.specs.declared.label.Label.TheVariants as label
use Rattle.relationships.specs.declared.mark.Mark.{Mark}
use Rattle.relationships.specs.declared.mark.Mark.TheVariants as mark
use Rattle.relationships.specs.declared.fate.Fate.{Fate}
use Rattle.relationships.specs.declared.fate.Fate.TheVariants as fate
use Rattle.relationships.specs.declared.walk.Walk.{Walk}
use Rattle.relationships.specs.Checking.{IsBorneOut}
use Rattle.relationships.specs.Evidence.{Closure, BeginsWith}
use Rattle.relationships.specs.Graph.{Edge, edge_of}
use Rattle.relationships.specs.Marking.{is_forced}
use Rattle.relationships.specs.Relationship.{slopes}
use Rattle.result_text.specs.declared.file.EdgeLine.{EdgeLine}
use Rattle.result_text.specs.declared.file.PathLine.{PathLine}
use Rattle.result_text.specs.declared.file.ResultFile.{ResultFile}
use Rattle.result_rules.specs.declared.rule.Rule.TheVariants.{LostRefuted, OrdersShown, MarksBorneOut}
use Rattle.result_rules.specs.File.{its_givens, its_kept, its_edges, its_labels, its_claims, its_probes, shown_orders, last_two, claim_on}
use Rattle.result_rules.specs.Rules.{Accepts, IsMet, its_served}
use Rattle.result_rules.proofs.Acceptance.{acceptance_law}
use Rattle.result_rules.proofs.MarkLaws.{marks_are_borne_out}
use Rattle.result_rules.proofs.WalkLaws.{last_two-from_ends}
use Rattle.telling.specs.declared.told.Question.TheVariants as question
use Rattle.telling.specs.declared.told.Told.{Told}
use Rattle.telling.specs.declared.told.Told.TheVariants as told
use Rattle.telling.specs.Laws.Telling.{AnswerLaw}
use Rattle.telling.specs.Proving.{HasOrder, ProveTogether}
use Rattle.telling.specs.Told.{edge_on, going_of, AnswersEdge, AnswersPath, IsAgainst, IsLineOf, IsToldOfEdge, IsToldOfPath}
use Rattle.telling.proofs.Chains.{LeadFrom, none_yet, passed, led, proved, same_pair}
use Rattle.telling.proofs.Decided.{decided}
use Rattle.telling.proofs.LabelLemmas.{order_shown}
use Rattle.telling.proofs.OneProof.{one_proof}
use Rattle.telling.proofs.ReachLemmas.{peering_so, undecided_so}
use Rattle.telling.proofs.SimpleWalks.{simple_walk}

-- ---- the why lines of an order that is shown

module _ (file : ResultFile) (met : IsMet file OrdersShown) (over under : ℕ) where
  from_line : (k : ℕ) (whys : List ℕ) (o u : ℕ) → LeadFrom file k whys o u over under → (all : List ℕ) × ProveTogether file all over under
  from_line zero whys o u l = let (k, lt, e) = l.shown in absurd (omega (arith, lt))
  from_line (suc k) whys o u l = by (λ whys o u before. from_line k whys o u before) (subst (λ n. LeadFrom file n whys o u over under) next l)
    where
      next : suc k ≡ k + 1
      next = omega arith

      walk : (w : Walk) × (slice_get file.whys k ≡ Some w)
      walk = slice_get-some file.whys k (omega (arith, l.few))

      by : ((whys : List ℕ) (o u : ℕ) → LeadFrom file k whys o u over under → (all : List ℕ) × ProveTogether file all over under) →
          LeadFrom file (k + 1) whys o u over under → (all : List ℕ) × ProveTogether file all over under
      by rest before =
          let (a, b, s) = met k (slice_get_within file.whys k walk.0 walk.1) walk.0 walk.1 in
          let last = last_two-from_ends walk.0.ases a b s.ends in
          elim (cases_eq a o) [
            | inr not ↦ rest whys o u (passed file k walk.0 walk.1 whys o u over under (λ e. not (same_pair a b o u (sym last ∙ e)).0) before met)
            | inl one ↦ elim (cases_eq b u) [
              | inr not ↦ rest whys o u (passed file k walk.0 walk.1 whys o u over under (λ e. not (same_pair a b o u (sym last ∙ e)).1) before met)
              | inl other ↦ own (last ∙ ap₂ (λ (p q : ℕ). (p, q) ∷ []) one other) s.begins
            ]
          ]
        where
          goes : last_two walk.0.ases ≡ (o, u) ∷ [] → (c d : ℕ) → BeginsWith walk.0.ases c d → (all : List ℕ) × ProveTogether file all over under
          goes shown c d begins = elim (cases_eq c u) [
            | inr not ↦ rest (whys ++ k ∷ []) c d (led file k walk.0 walk.1 whys o u over under shown before c d begins (λ p. not p.0) met)
            | inl one ↦ elim (cases_eq d o) [
              | inr not ↦ rest (whys ++ k ∷ []) c d (led file k walk.0 walk.1 whys o u over under shown before c d begins (λ p. not p.1) met)
              | inl other ↦ (
                reverse (whys ++ k ∷ []),
                proved file k walk.0 walk.1 whys o u over under shown before (subst (λ n. BeginsWith walk.0.ases u n) other (subst (λ n. BeginsWith walk.0.ases n d) one begins)) met,
              )
            ]
          ]

          own : {a b : ℕ} → last_two walk.0.ases ≡ (o, u) ∷ [] → BeginsWith walk.0.ases b a ⊎ ((c d : ℕ) × BeginsWith walk.0.ases c d × Contains (shown_orders (take k file.whys)) (c, d)) →
              (all : List ℕ) × ProveTogether file all over under
          own {a = a} {b = b} shown (inl begins) = goes shown b a begins
          own shown (inr (c, d, begins, _)) = goes shown c d begins

  pub proof_is_there : Contains (shown_orders file.whys) (over, under) → (whys : List ℕ) × ProveTogether file whys over under
  proof_is_there shown = from_line (length file.whys) [] over under (none_yet file (length file.whys) over under refl (take_all (length file.whys) file.whys (omega arith)) shown)

-- ---- the first open line whose closure has an order

module _ (paths : List (List ℕ)) (over under : ℕ) where
  record First (probes : List (ℕ × ℕ)) : Type 0 where
    place : ℕ
    probe : ℕ × ℕ
    at : slice_get probes place ≡ Some probe
    closed : Closure paths probe.0 probe.1 over under
    none_before : (k : ℕ) (p : ℕ × ℕ) → k < place → slice_get probes k ≡ Some p → Closure paths p.0 p.1 over under → ⊥

  abbrev None_of : List (ℕ × ℕ) → Type 0
  None_of probes = (k : ℕ) (p : ℕ × ℕ) → slice_get probes k ≡ Some p → Closure paths p.0 p.1 over under → ⊥

  first_of : (probes : List (ℕ × ℕ)) → First probes ⊎ None_of probes
  first_of [] = inr (λ k p at. absurd (cc at))
  first_of (p ∷ probes) = by (decided paths p.0 p.1 over under) (first_of probes)
    where
      same : (q r : ℕ × ℕ) → Some q ≡ Some r → q ≡ r
      same q r e = cc

      before : (k : ℕ) → ((j : ℕ) (q : ℕ × ℕ) → j < k → slice_get probes j ≡ Some q → Closure paths q.0 q.1 over under → ⊥) → (Closure paths p.0 p.1 over under → ⊥) →
          (j : ℕ) (q : ℕ × ℕ) → j < suc k → slice_get (p ∷ probes) j ≡ Some q → Closure paths q.0 q.1 over under → ⊥
      before k none not zero q lt at c = not (subst (λ (r : ℕ × ℕ). Closure paths r.0 r.1 over under) (sym (same p q at)) c)
      before k none not (suc j) q lt at c = none j q (omega (arith, lt)) at c

      by : Closure paths p.0 p.1 over under ⊎ (Closure paths p.0 p.1 over under → ⊥) → First probes ⊎ None_of probes → First (p ∷ probes) ⊎ None_of (p ∷ probes)
      by (inl c) rest = inl (record { place = 0; probe = p; at = refl; closed = c; none_before = λ k q lt. absurd (omega (arith, lt)) })
      by (inr not) (inl f) = inl (record { place = suc f.place; probe = f.probe; at = f.at; closed = f.closed; none_before = before f.place f.none_before not })
      by (inr not) (inr none) = inr (λ k q at c. before k (λ j q lt at c. none j q at c) not k q (omega arith) at c)

-- ---- what is told

module _ (file : ResultFile) (accepts : Accepts file) where
  module _ (one other : ℕ) (line : EdgeLine) (is_line : IsLineOf file one other line) where
    there : Contains file.edges line
    there = is_line.0

    forced_told : line.mark ≡ mark.Forced → (over under : ℕ) → HasOrder line over under → (tale : Told) × IsToldOfEdge file one other tale
    forced_told is over under order =
        let w = proof_is_there file (accepts OrdersShown) over under (order_shown file accepts line there is over under order) in (
          told.Forced line w.0,
          (
            is_line,
            record {
              is_forced = is;
              over = over;
              under = under;
              order = order;
              proof = w.1;
              only = λ others. one_proof file (accepts OrdersShown) w.0 others over under w.1;
            },
          ),
        )

    open_told : line.mark ≡ mark.Open → line.label ≢ label.Peer → (tale : Told) × IsToldOfEdge file one other tale
    open_told is no_peer =
        elim (All-contains (IsBorneOut (its_served file) (shown_orders file.whys) (its_probes file)) (its_claims file) (claim_on line)
        (marks_are_borne_out file (accepts MarksBorneOut)) (Contains-map claim_on file.edges line there)) [
          | inl h ↦ absurd (not_forced h.0)
          | inr h ↦ elim h [
            | inl p ↦ absurd (no_peer p.1)
            | inr (open_mark, (over, under, against, any)) ↦ by over under against (first_of (its_served file) over under (its_probes file)) any
          ]
        ]
      where
        not_forced : is_forced line.mark ≡ true → ⊥
        not_forced f = let n = sym (ap is_forced is) ∙ f in cc

        by : (over under : ℕ) → IsAgainst line over under → First (its_served file) over under (its_probes file) ⊎ None_of (its_served file) over under (its_probes file) →
            Any (λ (p : ℕ × ℕ). Closure (its_served file) p.0 p.1 over under) (its_probes file) → (tale : Told) × IsToldOfEdge file one other tale
        by over under against (inr none) any =
            let k = has-from_Contains (its_probes file) any.1 (any.0, any.2, any.3) in
            absurd (none k.0 any.1 k.1 any.4)
        by over under against (inl f) any =
            let s = simple_walk (its_givens file) (its_kept file) f.probe.0 f.probe.1 over under f.closed in (
              told.Open line (record { over = f.probe.0; under = f.probe.1 }) s.walk,
              (
                is_line,
                record {
                  is_open = is;
                  over = over;
                  under = under;
                  order = against;
                  first = record { place = f.place; at = f.at; none_before = f.none_before };
                  reached = s.leads;
                  without_loop = s.without_loop;
                  undecided = undecided_so file accepts line there f.probe.0 f.probe.1 (Contains-from_has (its_probes file) f.probe (f.place, f.at)) over under against f.closed;
                },
              ),
            )

    line_told : (tale : Told) × IsToldOfEdge file one other tale
    line_told = by line.mark refl line.label refl
      where
        low_no_peer : label.Low ≢ label.Peer
        low_no_peer e = cc

        high_no_peer : label.High ≢ label.Peer
        high_no_peer e = cc

        by : (m : Mark) → line.mark ≡ m → (l : Label) → line.label ≡ l → (tale : Told) × IsToldOfEdge file one other tale
        by mark.Forced m label.Low l = forced_told m line.low line.high (inl (l, refl, refl))
        by mark.Forced m label.High l = forced_told m line.high line.low (inr (l, refl, refl))
        by mark.Forced m label.Peer l = absurd ((acceptance_law file accepts).no_peering line there (ap is_forced m) l)
        by mark.Open m label.Low l = open_told m (λ e. low_no_peer (sym l ∙ e))
        by mark.Open m label.High l = open_told m (λ e. high_no_peer (sym l ∙ e))
        by mark.Open m label.Peer l = (told.Peering line, (is_line, peering_so file accepts line there m l))

  edge_answer : (one other : ℕ) → (answer : Option Told) × AnswersEdge file one other answer
  edge_answer one other = by (contains_or_not (its_edges file) (edge_of one other))
    where
      same_edge : (e f : Edge) → (e ≡ f) ⊎ (e ≡ f → ⊥)
      same_edge e f = elim (cases_eq e.0 f.0) [
        | inr n ↦ inr (λ h. n (ap (λ (g : Edge). g.0) h))
        | inl p ↦ elim (cases_eq e.1 f.1) [ inr n ↦ inr (λ h. n (ap (λ (g : Edge). g.1) h)) | inl q ↦ inl (pair p q) ]
      ]
        where
          pair : {a b c d : ℕ} → a ≡ c → b ≡ d → ◌≡◌ {A = Edge} (a, b) (c, d)
          pair p q = cc

      contains_or_not : (es : List Edge) (e : Edge) → ((k : ℕ) × (slice_get es k ≡ Some e)) ⊎ ((k : ℕ) → slice_get es k ≡ Some e → ⊥)
      contains_or_not [] e = inr (λ k at. absurd (cc at))
      contains_or_not (f ∷ es) e = both (same_edge f e) (contains_or_not es e)
        where
          same_get : (f g : Edge) → Some f ≡ Some g → f ≡ g
          same_get f g h = cc

          neither : (f ≡ e → ⊥) → ((k : ℕ) → slice_get es k ≡ Some e → ⊥) → (k : ℕ) → slice_get (f ∷ es) k ≡ Some e → ⊥
          neither n none zero at = n (same_get f e at)
          neither n none (suc k) at = none k at

          both : (f ≡ e) ⊎ (f ≡ e → ⊥) → ((k : ℕ) × (slice_get es k ≡ Some e)) ⊎ ((k : ℕ) → slice_get es k ≡ Some e → ⊥) →
              ((k : ℕ) × (slice_get (f ∷ es) k ≡ Some e)) ⊎ ((k : ℕ) → slice_get (f ∷ es) k ≡ Some e → ⊥)
          both (inl p) rest = inl (0, ap (λ (g : Edge). Some g) p)
          both (inr n) (inl (k, at)) = inl (suc k, at)
          both (inr n) (inr none) = inr (neither n none)

      by : ((k : ℕ) × (slice_get (its_edges file) k ≡ Some (edge_of one other))) ⊎ ((k : ℕ) → slice_get (its_edges file) k ≡ Some (edge_of one other) → ⊥) →
          (answer : Option Told) × AnswersEdge file one other answer
      by (inl (k, at)) =
          let w = slice_get-unmap {Y = Edge} edge_on file.edges k (edge_of one other) at in
          let t = line_told one other w.0 (Contains-from_has file.edges w.0 (k, w.1), w.2) in
          (Some t.0, t.1)
      by (inr none) = (None, λ c. let h = has-from_Contains (its_edges file) (edge_of one other) c in none h.0 h.1)

  path_told : (k : ℕ) (line : PathLine) → slice_get file.paths k ≡ Some line → (tale : Told) × IsToldOfPath file k tale
  path_told k line at = by line.fate refl
    where
      by : (f : Fate) → line.fate ≡ f → (tale : Told) × IsToldOfPath file k tale
      by fate.Kept f = (told.Kept k (map going_of (slopes (its_labels file) line.path)), (refl, (line, at, f, refl)))
      by (fate.Lost walk) f = (told.Lost k, (refl, (line, at, (walk, f, accepts LostRefuted k (slice_get_within file.paths k line at) line at walk f))))

  path_answer : (number : ℕ) → (answer : Option Told) × AnswersPath file number answer
  path_answer zero = (None, λ k e lt. absurd (omega (arith, e)))
  path_answer (suc k) = elim (cases_lt k (length file.paths)) [
    | inl lt ↦ (
        let line = slice_get-some file.paths k lt in
        let t = path_told k line.0 line.1 in
        let n : suc k ≡ k + 1 = omega arith in
        (Some t.0, (k, n, t.1))
        )
    | inr le ↦ (None, λ j e lt. absurd (omega (arith, e, lt, le)))
  ]

pub answer_law : AnswerLaw
answer_law file accepts (question.Edge one other) = edge_answer file accepts one other
answer_law file accepts (question.Path number) = path_answer file accepts number
