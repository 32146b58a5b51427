-- A search for a node, arc by arc.
use Rattle.std.proofs.Common.{◌≡◌, ℕ, ◌+◌, ◌<◌, ◌≤◌, inl, inr, Bool, true, false, List, [], ◌∷◌, Some, length, refl, sym, ap, ◌∙◌, subst, arith, Contains}
use Rattle.std.specs.Prelude.{slice_get}
use Rattle.std.proofs.Math.Dec.{eqb}
use Rattle.std.proofs.lemmas.Bool.{cases_lt, false≢true}
use Rattle.std.proofs.lemmas.Bool.Decides.{eqb_tells}
use Rattle.std.proofs.lemmas.Option.{same_Some, slice_get_within}
use Rattle.tor_arena.proofs.Gets.{none-in, has-from_Contains, Contains-from_has, slice_get-some, slice_get-push_cases}
use Rattle.tor_digraph.specs.Reached.{IsGrown}
use Rattle.tor_digraph.specs.Trails.{IsTrail}
use Rattle.tor_digraph.specs.declared.trail.Trail.{Trail}
use Rattle.tor_digraph.specs.NodeSets.{IsAdded}
use Rattle.tor_digraph.specs.Spreading.{IsEntered, IsClosed, Stays}
use Rattle.tor_digraph.proofs.Members.{Contains-one_more}
use Rattle.tor_digraph.proofs.NodeSets.{added_there}
use Rattle.tor_digraph.proofs.Spreadings.{IsSpreading, spreading_begins, added_stays, stays_contained}
use Rattle.tor_orient.specs.Steps.{NoneLeadsOut}

-- what was compared
pub apart_of : (a b : ℕ) → false ≡ eqb a b → a ≡ b → ⊥
apart_of a b other same = elim (eqb_tells a b) [ inl p ↦ false≢true (other ∙ p.0) | inr p ↦ p.1 same ]

-- the end of the search is still not among them where another node was met
pub unmet_more : (past : List ℕ) (node end : ℕ) (old new : List ℕ) → IsEntered past node old new → (node ≡ end → ⊥) → (Contains old end → ⊥) → Contains new end → ⊥
unmet_more past node end old new (inl same) apart unmet h = unmet (subst (λ (l : List ℕ). Contains l end) same.1 h)
unmet_more past node end old new (inr more) apart unmet h = elim (Contains-one_more old node end (subst (λ (l : List ℕ). Contains l end) more h)) [
  | inl was ↦ unmet was
  | inr is ↦ apart (sym is)
]

-- it begins with the start alone
pub search_begins : (arcs : List (ℕ × ℕ)) (past : List ℕ) (start : ℕ) (nodes : List ℕ) → nodes ≡ start ∷ [] → IsSpreading arcs past start [] nodes 0
search_begins arcs past start nodes is =
    let added : IsAdded start true [] nodes = inl (refl, (λ h. none-in refl h), is) in
    spreading_begins arcs past start true [] nodes 0 added (λ x y h. absurd (none-in refl h)) refl

pub unmet_first : (start end : ℕ) (nodes : List ℕ) → nodes ≡ start ∷ [] → (start ≡ end → ⊥) → Contains nodes end → ⊥
unmet_first start end nodes is apart h = elim (Contains-one_more [] start end (subst (λ (l : List ℕ). Contains l end) is h)) [
  | inl was ↦ none-in refl was
  | inr same ↦ apart (sym same)
]

-- ---- no node past which a search does not go

pub closed_past_none : (arcs : List (ℕ × ℕ)) (past nodes : List ℕ) → NoneLeadsOut arcs nodes → IsClosed arcs past nodes
closed_past_none arcs past nodes closed x y h arc = inl (closed x y h arc)

pub none_leads_out : (arcs : List (ℕ × ℕ)) (past nodes : List ℕ) → past ≡ [] → IsClosed arcs past nodes → NoneLeadsOut arcs nodes
none_leads_out arcs past nodes none closed x y h arc = elim (closed x y h arc) [ inl k ↦ k | inr k ↦ absurd (none-in none k) ]

-- ---- what a search has tried is settled

-- the first that were tried, so many, are among the new nodes: these are the old ones and then some that were tried
pub record IsJoining (tried : List ℕ) (upto : ℕ) (old new : List ℕ) : Type 0 where
  pub kept : Stays old new
  pub more : (k x : ℕ) → length old ≤ k → slice_get new k ≡ Some x → Contains tried x
  pub added : (j x : ℕ) → j < upto → slice_get tried j ≡ Some x → Contains new x

pub joining_begins : (tried old : List ℕ) → IsJoining tried 0 old old
joining_begins tried old = record {
  kept = λ k x at. at;
  more = λ k x le at. absurd (let lt = slice_get_within old k x at in omega (arith, le, lt));
  added = λ j x lt. absurd (omega (arith, lt));
}

pub joining_next : (tried : List ℕ) (upto node : ℕ) (is_new : Bool) (old mid new : List ℕ) → IsJoining tried upto old mid → slice_get tried upto ≡ Some node →
    IsAdded node is_new mid new → IsJoining tried (upto + 1) old new
joining_next tried upto node is_new old mid new so at a = record {
  kept = λ k x h. added_stays node is_new mid new a k x (so.kept k x h);
  more = λ k x le h. more_of a k x le h;
  added = λ j x lt h. elim (cases_lt j upto) [
    | inl less ↦ stays_contained mid new (added_stays node is_new mid new a) x (so.added j x less h)
    | inr le ↦
        let is : j ≡ upto = omega (arith, lt, le) in
        subst (Contains new) (same_Some node x (sym at ∙ ap (slice_get tried) (sym is) ∙ h)) (added_there node is_new mid new a)
  ];
}
  where
    more_of : IsAdded node is_new mid new → (k x : ℕ) → length old ≤ k → slice_get new k ≡ Some x → Contains tried x
    more_of (inl b) k x le h = elim (slice_get-push_cases mid node k x (subst (λ (l : List ℕ). slice_get l k ≡ Some x) b.2 h)) [
      | inl was ↦ so.more k x le was
      | inr is ↦ subst (Contains tried) (sym is.1) (Contains-from_has tried node (upto, at))
    ]
    more_of (inr b) k x le h = so.more k x le (subst (λ (l : List ℕ). slice_get l k ≡ Some x) b.2 h)

-- no arc leads out of what is settled then
pub joined_closed : (arcs : List (ℕ × ℕ)) (tried old new : List ℕ) (upto : ℕ) → length tried ≤ upto → IsJoining tried upto old new → NoneLeadsOut arcs old → IsClosed arcs old tried →
    NoneLeadsOut arcs new
joined_closed arcs tried old new upto le so closed near x y h arc =
    let has = has-from_Contains new x h in
    elim (cases_lt has.0 (length old)) [
      | inl lt ↦
          let was = slice_get-some old has.0 lt in
          let same : was.0 ≡ x = same_Some was.0 x (sym (so.kept has.0 was.0 was.1) ∙ has.1) in
          stays_contained old new so.kept y (closed x y (subst (Contains old) same (Contains-from_has old was.0 (has.0, was.1))) arc)
      | inr above ↦ elim (near x y (so.more has.0 x above has.1) arc) [
        | inl k ↦
            let i = has-from_Contains tried y k in
            let lt = slice_get_within tried i.0 y i.1 in
            so.added i.0 y (omega (arith, lt, le)) i.1
        | inr k ↦ stays_contained old new so.kept y k
      ]
    ]

-- and all that was added is reached from the start
pub joined_grown : (arcs : List (ℕ × ℕ)) (start : ℕ) (trail : Trail) (old new : List ℕ) (upto : ℕ) → length trail.nodes.items ≤ upto → IsTrail arcs start trail →
    IsJoining trail.nodes.items upto old new → IsGrown arcs start old new
joined_grown arcs start trail old new upto le t so = record {
  kept = so.kept;
  more = λ k x above at. (let i = has-from_Contains trail.nodes.items x (so.more k x above at) in t.reached i.0 x i.1);
  has_start = (
      let lt = slice_get_within trail.nodes.items 0 start t.first in
      so.added 0 start (omega (arith, lt, le)) t.first
      );
}
