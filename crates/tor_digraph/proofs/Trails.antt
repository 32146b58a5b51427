-- What a search has visited, when it visits one node more.
use Rattle.std.proofs.Common.{◌≡◌, ℕ, ◌+◌, ◌<◌, ◌⊎◌, inl, inr, Bool, true, false, List, [], ◌∷◌, ◌++◌, Some, length, sym, ap, ◌∙◌, subst, arith, Contains}
use Rattle.std.specs.Prelude.{slice_get}
use Rattle.std.proofs.lemmas.Bool.{false≢true}
use Rattle.std.proofs.lemmas.List.{length_push}
use Rattle.std.proofs.lemmas.Option.{same_Some, slice_get_within}
use Rattle.tor_arena.proofs.Gets.{slice_get-some, slice_get-push_old, slice_get-push_cases, slice_get-push_last}
use Rattle.tor_digraph.specs.Walks.{IsArc, Reaches, here, along}
use Rattle.tor_digraph.specs.NodeSets.{IsAdded}
use Rattle.tor_digraph.specs.Spreading.{Stays}
use Rattle.tor_digraph.specs.Trails.{StandsAt, Visits, origin_at, IsHeadFrom, HasOrigin, IsTrail, StaysTrail}
use Rattle.tor_digraph.specs.declared.trail.Origin.{Origin}
use Rattle.tor_digraph.specs.declared.trail.Trail.{Trail}
use Rattle.tor_digraph.proofs.Members.{Contains-last}

pub added-stays : (node : ℕ) (new : Bool) (before after : List ℕ) → IsAdded node new before after → Stays before after
added-stays node new before after (inl a) k x at = subst (λ l. slice_get l k ≡ Some x) (sym a.2) (slice_get-push_old before (node ∷ []) k x at)
added-stays node new before after (inr a) k x at = subst (λ l. slice_get l k ≡ Some x) (sym a.2) at

-- a node that is new was added with how it was found
pub added-visits : (node place arc : ℕ) (old new : Trail) (is_new : Bool) → is_new ≡ true → IsAdded node is_new old.nodes.items new.nodes.items →
    new.origins ≡ old.origins ++ origin_at place arc ∷ [] → Visits node place arc old new is_new
added-visits node place arc old new true is (inl a) noted = (a.1, a.2, noted)
added-visits node place arc old new true is (inr a) noted = absurd (false≢true (sym a.0))
added-visits node place arc old new false is added noted = absurd (false≢true is)

-- and one that is not new changes nothing
pub kept-visits : (node place arc : ℕ) (old new : Trail) (is_new : Bool) → is_new ≡ false → IsAdded node is_new old.nodes.items new.nodes.items →
    new.origins ≡ old.origins → Visits node place arc old new is_new
kept-visits node place arc old new true is added same = absurd (false≢true (sym is))
kept-visits node place arc old new false is (inl a) same = absurd (false≢true a.0)
kept-visits node place arc old new false is (inr a) same = (a.1, a.2, same)

pub visits_stays : (node place arc : ℕ) (old new : Trail) (is_new : Bool) → Visits node place arc old new is_new → Stays old.nodes.items new.nodes.items
visits_stays node place arc old new true h k x at = ap (λ (l : List ℕ). slice_get l k) h.1 ∙ slice_get-push_old old.nodes.items (node ∷ []) k x at
visits_stays node place arc old new false h k x at = ap (λ (l : List ℕ). slice_get l k) h.1 ∙ at

pub visits_there : (node place arc : ℕ) (old new : Trail) (is_new : Bool) → Visits node place arc old new is_new → Contains new.nodes.items node
visits_there node place arc old new true h = subst (λ (l : List ℕ). Contains l node) (sym h.1) (Contains-last old.nodes.items node)
visits_there node place arc old new false h = subst (λ (l : List ℕ). Contains l node) (sym h.1) h.0

module _ (arcs : List (ℕ × ℕ)) where
  origin_more : (old new : Trail) → Stays old.nodes.items new.nodes.items → ((k : ℕ) (o : Origin) → slice_get old.origins k ≡ Some o → slice_get new.origins k ≡ Some o) →
      (k x : ℕ) → HasOrigin arcs old k x → HasOrigin arcs new k x
  origin_more old new stays kept k x f = record {
    origin = f.origin;
    noted = kept k f.origin f.noted;
    before = f.before;
    tail = f.tail;
    there = stays f.origin.place f.tail f.there;
    arc = f.arc;
  }

  -- nothing changes
  pub trail_same : (old new : Trail) → new.nodes.items ≡ old.nodes.items → new.origins ≡ old.origins → StaysTrail arcs old new
  trail_same old new nodes origins start t = record {
    many = ap length origins ∙ t.many ∙ sym (ap length nodes);
    first = ap (λ (l : List ℕ). slice_get l 0) nodes ∙ t.first;
    reached = λ k x at. t.reached k x (back k x at);
    found = λ k x at. elim (t.found k x (back k x at)) [
      | inl none ↦ inl none
      | inr f ↦ inr (origin_more old new (λ j y there. ap (λ (l : List ℕ). slice_get l j) nodes ∙ there) (λ j o there. ap (λ (l : List Origin). slice_get l j) origins ∙ there) k x f)
    ];
  }
    where
      back : (k x : ℕ) → StandsAt new.nodes.items k x → StandsAt old.nodes.items k x
      back k x at = sym (ap (λ (l : List ℕ). slice_get l k) nodes) ∙ at

  -- the head of an arc from a node that was visited goes last
  trail_more : (node place arc : ℕ) (old new : Trail) → IsHeadFrom arcs old.nodes.items place arc node → Visits node place arc old new true → StaysTrail arcs old new
  trail_more node place arc old new from h start t = record {
    many = ap length h.2 ∙ length_push old.origins (origin_at place arc) ∙ ap (λ n. n + 1) t.many ∙ sym (length_push old.nodes.items node) ∙ sym (ap length h.1);
    first = stays 0 start t.first;
    reached = λ k x at. elim (cases k x at) [
      | inl was ↦ t.reached k x was
      | inr last ↦ along (t.reached place from.0 from.2) (arc, subst (IsArc arcs arc from.0) (sym last.1) from.1)
    ];
    found = λ k x at. elim (cases k x at) [
      | inl was ↦ elim (t.found k x was) [ inl none ↦ inl none | inr f ↦ inr (origin_more old new stays kept k x f) ]
      | inr last ↦ inr (record {
        origin = origin_at place arc;
        noted = ap (slice_get new.origins) (last.0 ∙ sym t.many) ∙ ap (λ (l : List Origin). slice_get l (length old.origins)) h.2 ∙ slice_get-push_last old.origins (origin_at place arc);
        before = let lt = slice_get_within old.nodes.items place from.0 from.2 in let e = last.0 in omega (arith, lt, e);
        tail = from.0;
        there = stays place from.0 from.2;
        arc = subst (IsArc arcs arc from.0) (sym last.1) from.1;
      })
    ];
  }
    where
      cases : (k x : ℕ) → StandsAt new.nodes.items k x → StandsAt old.nodes.items k x ⊎ ((k ≡ length old.nodes.items) × (x ≡ node))
      cases k x at = slice_get-push_cases old.nodes.items node k x (sym (ap (λ (l : List ℕ). slice_get l k) h.1) ∙ at)

      stays : Stays old.nodes.items new.nodes.items
      stays = visits_stays node place arc old new true h

      kept : (k : ℕ) (o : Origin) → slice_get old.origins k ≡ Some o → slice_get new.origins k ≡ Some o
      kept k o at = ap (λ (l : List Origin). slice_get l k) h.2 ∙ slice_get-push_old old.origins (origin_at place arc ∷ []) k o at

  pub trail_visits : (node place arc : ℕ) (old new : Trail) (is_new : Bool) → IsHeadFrom arcs old.nodes.items place arc node → Visits node place arc old new is_new →
      StaysTrail arcs old new
  trail_visits node place arc old new true from h = trail_more node place arc old new from h
  trail_visits node place arc old new false from h = trail_same old new h.1 h.2

  -- the start alone
  pub trail_begun : (trail : Trail) (start : ℕ) → trail.nodes.items ≡ start ∷ [] → length trail.origins ≡ 1 → IsTrail arcs start trail
  trail_begun trail start e one = record {
    many = one ∙ sym (ap length e);
    first = ap (λ (l : List ℕ). slice_get l 0) e;
    reached = λ k x at. elim (cases k x at) [ inl was ↦ absurd (let bad = was in cc) | inr last ↦ subst (Reaches arcs start) (sym last.1) here ];
    found = λ k x at. elim (cases k x at) [ inl was ↦ absurd (let bad = was in cc) | inr last ↦ inl last.0 ];
  }
    where
      cases : (k x : ℕ) → StandsAt trail.nodes.items k x → StandsAt [] k x ⊎ ((k ≡ 0) × (x ≡ start))
      cases k x at = slice_get-push_cases [] start k x (sym (ap (λ (l : List ℕ). slice_get l k) e) ∙ at)

  -- the origin that is noted of a place behind the first: from which node it is, to which, and where these stand
  pub trail_origin : (start : ℕ) (trail : Trail) → IsTrail arcs start trail → (k : ℕ) (o : Origin) → 0 < k → slice_get trail.origins k ≡ Some o →
      (u x : ℕ) × StandsAt trail.nodes.items o.place u × StandsAt trail.nodes.items k x × IsArc arcs o.arc u x × (o.place < k)
  trail_origin start trail is k o lt at =
      let below = slice_get_within trail.origins k o at in
      let many = is.many in
      let x = slice_get-some trail.nodes.items k (omega (arith, below, many)) in
      elim (is.found k x.0 x.1) [
        | inl none ↦ absurd (omega (arith, none, lt))
        | inr f ↦ (
            let same : f.origin ≡ o = same_Some f.origin o (sym f.noted ∙ at) in (
              f.tail,
              x.0,
              subst (λ (p : Origin). StandsAt trail.nodes.items p.place f.tail) same f.there,
              x.1,
              subst (λ (p : Origin). IsArc arcs p.arc f.tail x.0) same f.arc,
              subst (λ (p : Origin). p.place < k) same f.before,
            )
            )
      ]
