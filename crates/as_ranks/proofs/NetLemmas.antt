-- The digraph of the ASes, and what is reached in it.
use Rattle.std.proofs.Common.{◌≡◌, ℕ, zero, suc, ◌+◌, ◌<◌, ◌≤◌, ◌⊎◌, inl, inr, List, [], ◌∷◌, ◌++◌, length, take, get_or, Some, refl, sym, ap, ◌∙◌, subst, arith}
use Rattle.std.specs.Prelude.{slice_get, Contains, Result, Ok, Err}
use Rattle.std.specs.List.{dedup, flat_map}
use Rattle.std.proofs.Common.{eqb}
use Rattle.std.specs.List.Sorted.{IsSorted, IsStrictlyIncreasing, IsPermutation, IsBinarySearchResult}
use Rattle.std.specs.Ordering.{nat_cmp}
use Rattle.std.specs.Result.{MatchResult}
use Rattle.std.proofs.lemmas.Bool.{cases_lt}
use Rattle.std.proofs.lemmas.List.{take_more}
use Rattle.std.proofs.lemmas.List.Concat.{flat_map-cons}
use Rattle.std.proofs.lemmas.List.Kept.{AllPairs-from_increasing}
use Rattle.std.proofs.lemmas.List.Sorted.{searched}
use Rattle.std.proofs.lemmas.Option.{same_Some, slice_get_within, slice_get-get_or, get_or_from_slice_get}
use Rattle.tor_arena.proofs.Gets.{has-from_Contains, Contains-from_has, slice_get-push_old, slice_get-push_cases, slice_get-push_last}
use Rattle.tor_digraph.specs.Walks.{Net, Reaches, here, along}
use Rattle.tor_digraph.specs.Closing.{Has, IsOnce}
use Rattle.as_rel.specs.declared.line.RelKind.{RelKind}
use Rattle.as_rel.specs.declared.line.RelKind.TheVariants.{Transit, Peering}
use Rattle.as_rel.specs.declared.line.RelLine.{RelLine}
use Rattle.as_rel.specs.Serial.{rel_line}
use Rattle.as_rel.specs.Cone.{IsProvider, InCone, self, under}
use Rattle.as_rel.specs.Providers.{IsProviderNet}
use Rattle.as_ranks.specs.Named.{IsNamed, AreNamed}
use Rattle.as_ranks.specs.Nets.{both_ases, IsLinePut}
use Rattle.as_ranks.proofs.Rising.{sorted-rising, sorted-members}

-- ---- the ASes that are named

has-first : (l : RelLine) (ls : List RelLine) (a : ℕ) → (a ≡ l.first) ⊎ (a ≡ l.second) → Has (flat_map both_ases (l ∷ ls)) a
has-first l ls a h =
    subst (λ xs. Has xs a) (sym (flat_map-cons both_ases l ls)) (elim h [
      | inl e ↦ (0, ap (λ n. Some n) (sym e))
      | inr e ↦ (1, ap (λ n. Some n) (sym e))
    ])

has-later : (l : RelLine) (ls : List RelLine) (a : ℕ) → Has (flat_map both_ases ls) a → Has (flat_map both_ases (l ∷ ls)) a
has-later l ls a h = subst (λ xs. Has xs a) (sym (flat_map-cons both_ases l ls)) (suc (suc h.0), h.1)

named-has : (ls : List RelLine) (a k : ℕ) (l : RelLine) → slice_get ls k ≡ Some l → (a ≡ l.first) ⊎ (a ≡ l.second) → Has (flat_map both_ases ls) a
named-has [] a k l at h = cc
named-has (m ∷ ls) a zero l at h =
    let e : m ≡ l = same_Some m l at in
    has-first m ls a (subst (λ (z : RelLine). (a ≡ z.first) ⊎ (a ≡ z.second)) (sym e) h)
named-has (m ∷ ls) a (suc k) l at h = has-later m ls a (named-has ls a k l at h)

named-cases : (m : RelLine) (ls : List RelLine) (a : ℕ) → ((j : ℕ) → slice_get (flat_map both_ases ls) j ≡ Some a → IsNamed ls a) →
    (j : ℕ) → slice_get (m.first ∷ m.second ∷ flat_map both_ases ls) j ≡ Some a → IsNamed (m ∷ ls) a
named-cases m ls a later zero e = (m, (0, refl), inl (sym (same_Some m.first a e)))
named-cases m ls a later (suc zero) e = (m, (0, refl), inr (sym (same_Some m.second a e)))
named-cases m ls a later (suc (suc j)) e = let w = later j e in (w.0, (suc w.1.0, w.1.1), w.2)

has-named : (ls : List RelLine) (a k : ℕ) → slice_get (flat_map both_ases ls) k ≡ Some a → IsNamed ls a
has-named [] a k at = cc
has-named (m ∷ ls) a k at =
    named-cases m ls a (λ j e. has-named ls a j e) k (ap (λ xs. slice_get xs k) (sym (flat_map-cons both_ases m ls)) ∙ at)

pub named-by : (ls : List RelLine) (sorted out : List ℕ) → IsPermutation (flat_map both_ases ls) sorted → IsSorted nat_cmp sorted → out ≡ dedup eqb sorted → AreNamed ls out
named-by ls sorted out p s is = record {
  rising = sorted-rising sorted out s is;
  named = λ a. (let m = sorted-members (flat_map both_ases ls) sorted out p is a in (
    λ c. (let w = has-from_Contains (flat_map both_ases ls) a (m.0 c) in has-named ls a w.0 w.1),
    λ n. m.1 (Contains-from_has (flat_map both_ases ls) a (named-has ls a n.1.0 n.0 n.1.1 n.2)),
  ));
}

-- ---- an AS is found

pub found-there : (ases : List ℕ) (number : ℕ) (r : Result ℕ ℕ) → IsStrictlyIncreasing ases → Contains ases number → IsBinarySearchResult (λ y. nat_cmp y number) ases r →
    MatchResult r (λ k. slice_get ases k ≡ Some number) (λ k. ⊥)
found-there ases number r up there found = by r (searched ases number r found rises)
  where
    rises : (i j : ℕ) → i ≤ j → j < length ases → get_or ases i 0 ≤ get_or ases j 0
    rises i j le lt = elim (cases_lt i j) [
      | inl less ↦ (let h = AllPairs-from_increasing ases up i j 0 less lt in omega (arith, h))
      | inr ge ↦ (let e : i ≡ j = omega (arith, le, ge) in let f = ap (λ k. get_or ases k 0) e in omega (arith, f))
    ]

    by : (r : Result ℕ ℕ) → MatchResult r (λ i. (i < length ases) × (get_or ases i 0 ≡ number))
        (λ i. (i ≤ length ases) × ((k : ℕ) → k < i → get_or ases k 0 < number) × ((k : ℕ) → i ≤ k → k < length ases → number < get_or ases k 0)) →
        MatchResult r (λ k. slice_get ases k ≡ Some number) (λ k. ⊥)
    by (Ok i) h = slice_get-get_or ases i 0 h.0 ∙ ap (λ n. Some n) h.1
    by (Err i) h =
        let w = has-from_Contains ases number there in
        let lt = slice_get_within ases w.0 number w.1 in
        let is = get_or_from_slice_get ases w.0 number 0 w.1 in
        elim (cases_lt w.0 i) [
          | inl less ↦ (let other = h.1 w.0 less in absurd (omega (arith, other, is)))
          | inr ge ↦ (let other = h.2 w.0 ge lt in absurd (omega (arith, other, is)))
        ]

-- ---- one line more

provider-old : (done : List RelLine) (l : RelLine) (a b : ℕ) → IsProvider done a b → IsProvider (done ++ l ∷ []) a b
provider-old done l a b h = (h.0, slice_get-push_old done (l ∷ []) h.0 (rel_line a b Transit) h.1)

pub peering-put : (l : RelLine) (ases : List ℕ) (net : Net ℕ) → l.kind ≡ Peering → IsLinePut l ases net net
peering-put l ases net peers = record {
  nodes = refl;
  more = λ done h. record {
    aligned = h.aligned;
    arcs = λ k x y arc. let w = h.arcs k x y arc in (w.0, w.1, w.2, w.3, provider-old done l w.0 w.1 w.4);
    providers = λ a b p. elim (slice_get-push_cases done l p.0 (rel_line a b Transit) p.1) [
      | inl before ↦ h.providers a b (p.0, before)
      | inr last ↦ let kinds : Peering ≡ Transit = sym peers ∙ sym (ap (λ (m : RelLine). m.kind) last.1) in absurd (cc kinds)
    ];
  };
}

pub transit-put : (l : RelLine) (ases : List ℕ) (net new : Net ℕ) (top low : ℕ) → l.kind ≡ Transit → new ≡ record net { arcs = net.arcs ++ (top, low) ∷ [] } →
    slice_get ases top ≡ Some l.first → slice_get ases low ≡ Some l.second → IsLinePut l ases net new
transit-put l ases net new top low transit is at_top at_low =
    let nodes : new.nodes ≡ net.nodes = ap (λ (n : Net ℕ). n.nodes) is in
    let arcs : new.arcs ≡ net.arcs ++ (top, low) ∷ [] = ap (λ (n : Net ℕ). n.arcs) is in record {
      nodes = nodes;
      more = λ done h. record {
        aligned = nodes ∙ h.aligned;
        arcs = λ k x y arc. elim (slice_get-push_cases net.arcs (top, low) k (x, y) (ap (λ es. slice_get es k) (sym arcs) ∙ arc)) [
          | inl before ↦ let w = h.arcs k x y before in (w.0, w.1, w.2, w.3, provider-old done l w.0 w.1 w.4)
          | inr last ↦
              let x_is : x ≡ top = ap (λ (e : ℕ × ℕ). e.0) last.1 in
              let y_is : y ≡ low = ap (λ (e : ℕ × ℕ). e.1) last.1 in (
                l.first,
                l.second,
                ap (slice_get ases) x_is ∙ at_top,
                ap (slice_get ases) y_is ∙ at_low,
                (length done, slice_get-push_last done l ∙ ap (λ (kind : RelKind). Some (rel_line l.first l.second kind)) transit),
              )
        ];
        providers = λ a b p. elim (slice_get-push_cases done l p.0 (rel_line a b Transit) p.1) [
          | inl before ↦
              let w = h.providers a b (p.0, before) in
              (w.0, w.1, w.2, w.3, (w.4.0, ap (λ es. slice_get es w.4.0) arcs ∙ slice_get-push_old net.arcs ((top, low) ∷ []) w.4.0 (w.0, w.1) w.4.1))
          | inr last ↦
              let a_is : l.first ≡ a = sym (ap (λ (m : RelLine). m.first) last.1) in
              let b_is : l.second ≡ b = sym (ap (λ (m : RelLine). m.second) last.1) in (
                top,
                low,
                at_top ∙ ap (λ n. Some n) a_is,
                at_low ∙ ap (λ n. Some n) b_is,
                (length net.arcs, ap (λ es. slice_get es (length net.arcs)) arcs ∙ slice_get-push_last net.arcs (top, low)),
              )
        ];
      };
    }

pub no-lines : (ases : List ℕ) (net : Net ℕ) → net.nodes ≡ length ases → net.arcs ≡ [] → IsProviderNet [] ases net
no-lines ases net aligned none = record {
  aligned = aligned;
  arcs = λ k x y arc. (let at = ap (λ es. slice_get es k) (sym none) ∙ arc in cc at);
  providers = λ a b p. (let at = p.1 in cc at);
}

pub line-more : (lines : List RelLine) (k : ℕ) (d : RelLine) (ases : List ℕ) (net new : Net ℕ) → k < length lines → IsProviderNet (take k lines) ases net →
    IsLinePut (get_or lines k d) ases net new → IsProviderNet (take (k + 1) lines) ases new
line-more lines k d ases net new lt h a = subst (λ ls. IsProviderNet ls ases new) (sym (take_more lines k d lt)) (a.more (take k lines) h)

-- both ASes of a line are named
pub first-named : (rel : List RelLine) (ases : List ℕ) (k : ℕ) (l : RelLine) → AreNamed rel ases → slice_get rel k ≡ Some l → Contains ases l.first
first-named rel ases k l h at = (h.named l.first).1 (l, (k, at), inl refl)

pub second-named : (rel : List RelLine) (ases : List ℕ) (k : ℕ) (l : RelLine) → AreNamed rel ases → slice_get rel k ≡ Some l → Contains ases l.second
second-named rel ases k l h at = (h.named l.second).1 (l, (k, at), inr refl)

-- ---- what is reached

module _ (rel : List RelLine) (ases : List ℕ) (net : Net ℕ) (h : IsProviderNet rel ases net) where
  -- a node that is reached is that of a member
  pub reached-member : (of start : ℕ) → slice_get ases start ≡ Some of → {x : ℕ} → Reaches net.arcs start x → (b : ℕ) × (slice_get ases x ≡ Some b) × InCone rel of b
  reached-member of start begins here = (of, begins, self)
  reached-member of start begins (along {b = u} {c = v} r arc) =
      let m = reached-member of start begins r in
      let w = h.arcs arc.0 u v arc.1 in
      let same : w.0 ≡ m.0 = same_Some w.0 m.0 (sym w.2 ∙ m.1) in
      (w.1, w.3, under m.2 (subst (λ a. IsProvider rel a w.1) same w.4))

  pub member-reached : IsOnce ases → (of start : ℕ) → slice_get ases start ≡ Some of → {b : ℕ} → InCone rel of b → (x : ℕ) × (slice_get ases x ≡ Some b) × Reaches net.arcs start x
  member-reached once of start begins self = (start, begins, here)
  member-reached once of start begins (under {b = b} {c = c} m p) =
      let before = member-reached once of start begins m in
      let w = h.providers b c p in
      let same : w.0 ≡ before.0 = once w.0 before.0 b w.2 before.1 in
      (w.1, w.3, along before.2 (w.4.0, w.4.1 ∙ ap (λ x. Some (x, w.1)) same))

  -- two ASes by their nodes
  pub cone-reaches : IsOnce ases → (x y a b : ℕ) → slice_get ases x ≡ Some a → slice_get ases y ≡ Some b → (InCone rel a b → Reaches net.arcs x y) × (Reaches net.arcs x y → InCone rel a b)
  cone-reaches once x y a b at_x at_y = (
    λ m. (let w = member-reached once a x at_x m in subst (λ z. Reaches net.arcs x z) (once w.0 y b w.1 at_y) w.2),
    λ r. (let w = reached-member a x at_x r in subst (InCone rel a) (same_Some w.0 b (sym w.1 ∙ at_y)) w.2),
  )
