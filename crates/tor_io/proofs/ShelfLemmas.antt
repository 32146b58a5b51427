-- What a shelf and a sink in memory are after a call.
use Rattle.std.proofs.Common.{◌≡◌, ℕ, zero, suc, ◌<◌, ◌==◌, Bool, false, true≢false, List, [], ◌∷◌, ◌++◌, drop, Result, Some, None, Ok, Err, is_err, IsOk, IsErr, refl, sym, ap, ◌∙◌, subst, arith}
use Rattle.std.specs.Prelude.{OnOk, OnErr}
use Rattle.std.proofs.lemmas.List.{nil_from_length}
use Rattle.tor_io.specs.declared.shelf.OpenRefused.{OpenRefused}
use Rattle.tor_io.specs.declared.shelf.OpenRefused.TheVariants.{Failed as gone, NoMemory as memory}
use Rattle.tor_io.specs.FaultPlan.{Plan, after_call, after_fault}
use Rattle.tor_io.specs.MemShelf.{ShelfState, given_of}
use Rattle.tor_io.specs.MemSink.{SinkState}

-- a call was counted, and failed
pub failed : (seen old : ShelfState) (plan : Plan) → seen ≡ old → plan ≡ after_fault (after_call seen.plan)
    → record seen { plan = plan } ≡ record old { plan = after_fault (after_call old.plan) }
failed seen old plan same is = ap (λ (p : Plan). record seen { plan = p }) is ∙ ap (λ (s : ShelfState). record s { plan = after_fault (after_call s.plan) }) same

-- a call was counted, and gave some of what was unread
pub moved : (seen old : ShelfState) (plan : Plan) (n : ℕ) → seen ≡ old → plan ≡ after_call seen.plan
    → record seen { unread = drop n seen.unread; plan = plan } ≡ record old { unread = drop n old.unread; plan = after_call old.plan }
moved seen old plan n same is =
    ap (λ (p : Plan). record seen { unread = drop n seen.unread; plan = p }) is
    ∙ ap (λ (s : ShelfState). record s { unread = drop n s.unread; plan = after_call s.plan }) same

-- one name more was asked for
pub named : (names before : List (List ℕ)) (octets name : List ℕ) → names ≡ before ++ octets ∷ [] → octets ≡ name → names ≡ before ++ name ∷ []
named names before octets name is same = is ∙ ap (λ n. before ++ n ∷ []) same

-- a call was counted, and opened a file
pub opened : (seen old : ShelfState) (plan : Plan) (unread name : List ℕ) (names : List (List ℕ)) → seen ≡ old → plan ≡ after_call seen.plan → names ≡ seen.opens ++ name ∷ []
    → record seen { unread = unread; plan = plan; opens = names } ≡ record old { unread = unread; plan = after_call old.plan; opens = old.opens ++ name ∷ [] }
opened seen old plan unread name names same is more =
    ap (λ (p : Plan). record seen { unread = unread; plan = p; opens = names }) is
    ∙ ap (λ (o : List (List ℕ)). record seen { unread = unread; plan = after_call seen.plan; opens = o }) more
    ∙ ap (λ (s : ShelfState). record s { unread = unread; plan = after_call s.plan; opens = s.opens ++ name ∷ [] }) same

-- a call was counted, and failed, and nothing is open
pub closed : (seen old : ShelfState) (plan : Plan) (name : List ℕ) (names : List (List ℕ)) → seen ≡ old → plan ≡ after_fault (after_call seen.plan) → names ≡ seen.opens ++ name ∷ []
    → record seen { unread = []; plan = plan; opens = names } ≡ record old { unread = []; plan = after_fault (after_call old.plan); opens = old.opens ++ name ∷ [] }
closed seen old plan name names same is more =
    ap (λ (p : Plan). record seen { unread = []; plan = p; opens = names }) is
    ∙ ap (λ (o : List (List ℕ)). record seen { unread = []; plan = after_fault (after_call seen.plan); opens = o }) more
    ∙ ap (λ (s : ShelfState). record s { unread = []; plan = after_fault (after_call s.plan); opens = s.opens ++ name ∷ [] }) same

-- the same where it failed behind the look for the file
pub closed_behind : (seen old stood : ShelfState) (called plan : Plan) (unread name : List ℕ) (names : List (List ℕ)) → seen ≡ old
    → stood ≡ record seen { unread = unread; plan = called; opens = names } → unread ≡ [] → plan ≡ after_fault (after_call seen.plan) → names ≡ seen.opens ++ name ∷ []
    → record stood { plan = plan } ≡ record old { unread = []; plan = after_fault (after_call old.plan); opens = old.opens ++ name ∷ [] }
closed_behind seen old stood called plan unread name names same is none then more =
    ap (λ (s : ShelfState). record s { plan = plan }) is ∙ ap (λ (u : List ℕ). record seen { unread = u; plan = plan; opens = names }) none ∙ closed seen old plan name names same then more

-- a sink's call was counted, and failed
pub unwritten : (seen old : SinkState) (plan : Plan) → seen ≡ old → plan ≡ after_fault (after_call seen.plan)
    → record seen { plan = plan } ≡ record old { plan = after_fault (after_call old.plan) }
unwritten seen old plan same is = ap (λ (p : Plan). record seen { plan = p }) is ∙ ap (λ (s : SinkState). record s { plan = after_fault (after_call s.plan) }) same

-- nothing is given only where nothing is unread
pub none_left : (seen old : ShelfState) (size n : ℕ) → seen ≡ old → n ≡ given_of seen size → 0 < seen.most → n ≡ 0 → 0 < size → drop n seen.unread ≡ []
none_left seen old size n same is most none some =
    subst (λ k. drop k seen.unread ≡ []) (sym none) (nil_from_length seen.unread (omega (arith, is, none, some, most)))

-- there is room where there is not none
pub room : (n : ℕ) (empty : Bool) → empty ≡ (n == 0) → empty ≡ false → 0 < n
room zero empty is not = absurd cc
room (suc n) empty is not = omega arith

-- what holds at an error, and what at none
module _ {T E : Type 0} where
  pub at_err : (r : Result T E) (P : Type 0) → IsErr r → OnErr r P → P
  at_err (Ok x) P err p = absurd (true≢false (sym err))
  at_err (Err e) P err p = p

  pub at_ok : (r : Result T E) (P : Type 0) → IsOk r → OnOk r P → P
  at_ok (Ok x) P ok p = p
  at_ok (Err e) P ok p = absurd (true≢false (sym ok))

  pub ok_or_err : (r : Result T E) → IsOk r → IsErr r → ⊥
  ok_or_err (Ok x) ok err = true≢false (sym err)
  ok_or_err (Err e) ok err = true≢false (sym ok)

  pub is_fine : (r : Result T E) (err : Bool) → err ≡ is_err r → err ≡ false → IsOk r
  is_fine (Ok x) err is not = refl
  is_fine (Err e) err is not = absurd (true≢false (sym is ∙ not))

pub is_gone : ◌≡◌ {A = Result (Unit {0}) OpenRefused} (Err gone) (Err memory) → ⊥
is_gone e = cc

pub is_memory : ◌≡◌ {A = Result (Unit {0}) OpenRefused} (Err memory) (Err gone) → ⊥
is_memory e = cc

pub is_open : (error : OpenRefused) → ◌≡◌ {A = Result (Unit {0}) OpenRefused} (Ok tt) (Err error) → ⊥
is_open error e = cc

pub some_or_none : {A : Type 0} {x : A} → Some x ≡ None → ⊥
some_or_none e = cc
