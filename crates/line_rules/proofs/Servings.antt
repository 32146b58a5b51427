-- What open lines serve for: which flipped orders their closures have, and which of them are new.
use Rattle.std.proofs.Common.{◌≡◌, ◌⊎◌, inl, inr, ℕ, true, false, IsFalse, List, [], ◌∷◌, ◌++◌, Some, map, get_or, slice_get, refl, sym, ap, ◌∙◌, subst, arith, All, Any, Contains}
use Rattle.std.proofs.lemmas.Bool.{false≢true}
use Rattle.std.proofs.lemmas.List.Elements.{All-contains, Contains-push, Contains-push_cases, Contains-append_left, Contains-get_or}
use Rattle.relationships.specs.declared.label.Label.{Label}
use Rattle.relationships.specs.declared.label.Label.TheVariants as label
use Rattle.relationships.specs.Evidence.{IsTriple, Closure, IsConsistent}
use Rattle.relationships.specs.Checking.{Claim, OtherOrder, IsProbe}
use Rattle.relationships.specs.declared.mark.Mark.{Mark}
use Rattle.relationships.specs.declared.mark.Mark.TheVariants.{Forced, Open}
use Rattle.result_text.specs.declared.file.EdgeLine.{EdgeLine}
use Rattle.relationships.specs.Marking.{is_forced}
use Rattle.result_rules.specs.File.{claim_on}
use Rattle.line_rules.specs.Neighbours.{ReachesRow}
use Rattle.line_rules.specs.Searching.{RoundCameTo, HasSearchedFrom}
use Rattle.line_rules.specs.Flipping.{flipped_by, flipped, flipped_orders, FlipsTo, IsBuilt, IsProper, FlipsLeaveNoValley}
use Rattle.line_rules.specs.Serving.{is_wanted, IsWantedAt, Gains, IsCovered}
use Rattle.tor_arena.proofs.Gets.{has-from_Contains, Contains-from_has, slice_get-map, slice_get-unmap}
use Rattle.line_rules.proofs.Flippings.{reaches_exactly, none_flips}

-- ---- any of a list

module _ {X : Type 0} (P : X → Type 0) where
  pub Any-from : (xs : List X) (x : X) → Contains xs x → P x → Any P xs
  Any-from xs x c h = (c.0, x, c.1, c.2, h)

  pub Any-none : Any P [] → ⊥
  Any-none (k, x, lt, is, h) = absurd (omega arith)

  pub Any-push_cases : (xs : List X) (y : X) → Any P (xs ++ y ∷ []) → Any P xs ⊎ P y
  Any-push_cases xs y (k, x, lt, is, h) =
      elim (Contains-push_cases xs y x (k, lt, is)) [ inl c ↦ inl (Any-from xs x c h) | inr e ↦ inr (subst P (sym e) h) ]

  pub Any-push_old : (xs : List X) (y : X) → Any P xs → Any P (xs ++ y ∷ [])
  Any-push_old xs y (k, x, lt, is, h) = Any-from (xs ++ y ∷ []) x (Contains-append_left xs (y ∷ []) x (k, lt, is)) h

  pub Any-push_last : (xs : List X) (y : X) → P y → Any P (xs ++ y ∷ [])
  Any-push_last xs y h = Any-from (xs ++ y ∷ []) y (Contains-push xs y) h

  pub All-not : (xs : List X) → (Any P xs → ⊥) → All (λ x. P x → ⊥) xs
  All-not xs none i d lt = λ h. none (Any-from xs (get_or xs i d) (Contains-get_or xs i d lt) h)

-- ---- the other order

wanted_label : (mark : Mark) (l : Label) → is_wanted mark l ≡ true → (mark ≡ Open) × ((l ≡ label.Low) ⊎ (l ≡ label.High))
wanted_label Forced l h = absurd (false≢true h)
wanted_label Open label.Low h = (refl, inl refl)
wanted_label Open label.High h = (refl, inr refl)
wanted_label Open label.Peer h = absurd (false≢true h)

-- an edge that is wanted flips to its other order
pub other_of_flipped : (line : EdgeLine) (x y : ℕ) → is_wanted line.mark line.label ≡ true → flipped line ≡ (x, y) → OtherOrder (claim_on line) x y
other_of_flipped line x y wanted e =
    elim (wanted_label line.mark line.label wanted).1 [
      | inl low ↦ let h = sym e ∙ ap (λ l. flipped_by l line.low line.high) low in inl (low, ap (λ (p : ℕ × ℕ). p.0) h, ap (λ (p : ℕ × ℕ). p.1) h)
      | inr high ↦ let h = sym e ∙ ap (λ l. flipped_by l line.low line.high) high in inr (high, ap (λ (p : ℕ × ℕ). p.0) h, ap (λ (p : ℕ × ℕ). p.1) h)
    ]

pub open_of_wanted : (line : EdgeLine) → is_wanted line.mark line.label ≡ true → IsFalse (is_forced line.mark)
open_of_wanted line wanted = ap is_forced (wanted_label line.mark line.label wanted).0

pub flipped_of_other : (line : EdgeLine) (x y : ℕ) → OtherOrder (claim_on line) x y → flipped line ≡ (x, y)
flipped_of_other line x y (inl o) = ap (λ l. flipped_by l line.low line.high) o.0 ∙ pair (sym o.1) (sym o.2)
  where
    pair : {a b c d : ℕ} → a ≡ c → b ≡ d → ◌≡◌ {A = ℕ × ℕ} (a, b) (c, d)
    pair e f = cc
flipped_of_other line x y (inr o) = ap (λ l. flipped_by l line.low line.high) o.0 ∙ pair (sym o.1) (sym o.2)
  where
    pair : {a b c d : ℕ} → a ≡ c → b ≡ d → ◌≡◌ {A = ℕ × ℕ} (a, b) (c, d)
    pair e f = cc

wanted_open : (mark : Mark) (l : Label) → is_forced mark ≡ false → (l ≡ label.Low) ⊎ (l ≡ label.High) → is_wanted mark l ≡ true
wanted_open Forced l f h = absurd (false≢true (sym f))
wanted_open Open l f (inl e) = ap (is_wanted Open) e
wanted_open Open l f (inr e) = ap (is_wanted Open) e

pub wanted_of_other : (line : EdgeLine) (x y : ℕ) → IsFalse (is_forced line.mark) → OtherOrder (claim_on line) x y → is_wanted line.mark line.label ≡ true
wanted_of_other line x y f (inl o) = wanted_open line.mark line.label f (inl o.0)
wanted_of_other line x y f (inr o) = wanted_open line.mark line.label f (inr o.0)

-- ---- cover

module _ (lines : List EdgeLine) (kept implied conflicting : List (List ℕ)) (built : IsBuilt (flipped_orders lines) (IsTriple kept) implied conflicting)
    (proper : IsProper (flipped_orders lines)) (settled : FlipsLeaveNoValley (flipped_orders lines) kept) where
  pub covered-none : (earlier : List (ℕ × ℕ)) (p : ℕ × ℕ) (rounds : List ℕ) (round : ℕ) → ((k : ℕ) → FlipsTo (flipped_orders lines) k p.0 p.1 → ⊥) →
      IsCovered kept (flipped_orders lines) earlier rounds round → IsCovered kept (flipped_orders lines) (earlier ++ p ∷ []) rounds round
  covered-none earlier p rounds round none covered k x y t = (
    λ m. Any-push_old (λ q. Closure kept q.0 q.1 x y) earlier p ((covered k x y t).0 m),
    λ a. elim (Any-push_cases (λ q. Closure kept q.0 q.1 x y) earlier p a) [
      | inl h ↦ (covered k x y t).1 h
      | inr h ↦ absurd (none_flips (flipped_orders lines) kept implied conflicting built proper settled p.0 p.1 none h k t)
    ],
  )

  pub covered-more : (earlier : List (ℕ × ℕ)) (p : ℕ × ℕ) (start round : ℕ) (old new found : List ℕ) → FlipsTo (flipped_orders lines) start p.0 p.1
      → HasSearchedFrom implied start round old new found →
      IsCovered kept (flipped_orders lines) earlier old round → IsCovered kept (flipped_orders lines) (earlier ++ p ∷ []) new round
  covered-more earlier p start round old new found ts reach covered k x y t = (
    λ m. elim ((reach.exact k).0 m) [
      | inl o ↦ Any-push_old (λ q. Closure kept q.0 q.1 x y) earlier p ((covered k x y t).0 o)
      | inr l ↦ Any-push_last (λ q. Closure kept q.0 q.1 x y) earlier p ((reaches_exactly (flipped_orders lines) kept implied conflicting built proper settled start p.0 p.1 k x y ts t).0 l)
    ],
    λ a. elim (Any-push_cases (λ q. Closure kept q.0 q.1 x y) earlier p a) [
      | inl h ↦ (reach.exact k).1 (inl ((covered k x y t).1 h))
      | inr h ↦ (reach.exact k).1 (inr ((reaches_exactly (flipped_orders lines) kept implied conflicting built proper settled start p.0 p.1 k x y ts t).1 h))
    ],
  )

  pub gains_of : (earlier : List (ℕ × ℕ)) (p : ℕ × ℕ) (start round : ℕ) (old new found : List ℕ) → FlipsTo (flipped_orders lines) start p.0 p.1 → HasSearchedFrom implied start round old new found →
      IsCovered kept (flipped_orders lines) earlier old round → Any (IsWantedAt lines) found → Gains kept (map claim_on lines) earlier p
  gains_of earlier p start round old new found ts reach covered (i, k, lt, is, (line, at, wanted)) =
      let t : FlipsTo (flipped_orders lines) k (flipped line).0 (flipped line).1 = slice_get-map flipped lines k line at in
      let fresh = (reach.noted k).0 (i, lt, is) in
      let led : ReachesRow implied start k = elim ((reach.exact k).0 fresh.0) [ inl o ↦ absurd (fresh.1 o) | inr l ↦ l ] in
      record {
        claim = claim_on line;
        claimed = Contains-from_has (map claim_on lines) (claim_on line) (k, slice_get-map claim_on lines k line at);
        is_open = open_of_wanted line wanted;
        over = (flipped line).0;
        under = (flipped line).1;
        other = other_of_flipped line (flipped line).0 (flipped line).1 wanted refl;
        reached = (reaches_exactly (flipped_orders lines) kept implied conflicting built proper settled start p.0 p.1 k (flipped line).0 (flipped line).1 ts t).0 led;
        new = All-not (λ q. Closure kept q.0 q.1 (flipped line).0 (flipped line).1) earlier (λ a. fresh.1 ((covered k (flipped line).0 (flipped line).1 t).1 a));
      }

  -- the line of the edge that is gained
  gained : (earlier : List (ℕ × ℕ)) (p : ℕ × ℕ) (g : Gains kept (map claim_on lines) earlier p) →
      (k : ℕ) × (line : EdgeLine) × (slice_get lines k ≡ Some line) × FlipsTo (flipped_orders lines) k g.over g.under × (is_wanted line.mark line.label ≡ true)
  gained earlier p g =
      let c = has-from_Contains (map claim_on lines) g.claim g.claimed in
      let l = slice_get-unmap claim_on lines c.0 g.claim c.1 in
      let other = subst (λ w. OtherOrder w g.over g.under) (sym l.2) g.other in
      let open' = subst (λ (w : Claim). IsFalse w.forced) (sym l.2) g.is_open in
      (c.0, l.0, l.1, slice_get-map flipped lines c.0 l.0 l.1 ∙ ap (λ (q : ℕ × ℕ). Some q) (flipped_of_other l.0 g.over g.under other), wanted_of_other l.0 g.over g.under open' other)

  pub finds_of : (earlier : List (ℕ × ℕ)) (p : ℕ × ℕ) (start round : ℕ) (old new found : List ℕ) → FlipsTo (flipped_orders lines) start p.0 p.1 → HasSearchedFrom implied start round old new found →
      IsCovered kept (flipped_orders lines) earlier old round → Gains kept (map claim_on lines) earlier p → Any (IsWantedAt lines) found
  finds_of earlier p start round old new found ts reach covered g =
      let w = gained earlier p g in
      let k = w.0 in
      let t = w.3 in
      let led = (reaches_exactly (flipped_orders lines) kept implied conflicting built proper settled start p.0 p.1 k g.over g.under ts t).1 g.reached in
      let unvisited : RoundCameTo old round k → ⊥ =
      λ m. let a = (covered k g.over g.under t).0 m in All-contains (λ q. Closure kept q.0 q.1 g.over g.under → ⊥) earlier a.1 g.new (a.0, a.2, a.3) a.4 in
      Any-from (IsWantedAt lines) found k ((reach.noted k).1 ((reach.exact k).1 (inr led), unvisited)) (w.1, w.2, w.4)

  -- an order against no label gains nothing
  pub gains_flipped : (earlier : List (ℕ × ℕ)) (p : ℕ × ℕ) → ((k : ℕ) → FlipsTo (flipped_orders lines) k p.0 p.1 → ⊥) → Gains kept (map claim_on lines) earlier p → ⊥
  gains_flipped earlier p none g =
      let w = gained earlier p g in
      none_flips (flipped_orders lines) kept implied conflicting built proper settled p.0 p.1 none g.reached w.0 w.3

-- an open line serves exactly if it gains and its closure is consistent
pub probe_of_gains : (kept : List (List ℕ)) (claims : List Claim) (earlier : List (ℕ × ℕ)) (p : ℕ × ℕ) → Gains kept claims earlier p → IsConsistent kept p.0 p.1 → IsProbe kept claims earlier p
probe_of_gains kept claims earlier p g consistent = record {
  consistent = consistent;
  claim = g.claim;
  claimed = g.claimed;
  is_open = g.is_open;
  over = g.over;
  under = g.under;
  other = g.other;
  reached = g.reached;
  new = g.new;
}

pub gains_of_probe : (kept : List (List ℕ)) (claims : List Claim) (earlier : List (ℕ × ℕ)) (p : ℕ × ℕ) → IsProbe kept claims earlier p → Gains kept claims earlier p
gains_of_probe kept claims earlier p g = record {
  claim = g.claim;
  claimed = g.claimed;
  is_open = g.is_open;
  over = g.over;
  under = g.under;
  other = g.other;
  reached = g.reached;
  new = g.new;
}
