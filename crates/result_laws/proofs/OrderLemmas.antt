-- Where nothing is lost, the order of the paths doesn't matter.
use Rattle.std.proofs.Common.{◌≡◌, List, [], ◌∷◌, ◌++◌, map, is_none, refl, sym, ap, subst, Contains, IsTrue}
use Rattle.std.specs.List.{AllByRecursion, items_where_true}
use Rattle.std.proofs.lemmas.Bool.{false≢true}
use Rattle.std.proofs.lemmas.List.Elements.{All-from_recursion, recursion_from_All}
use Rattle.relationships.specs.declared.fate.Fate.{Fate}
use Rattle.relationships.specs.declared.fate.Fate.TheVariants.{Kept, Lost}
use Rattle.relationships.specs.declared.mark.Mark.{Mark}
use Rattle.relationships.specs.declared.mark.Mark.TheVariants.{Forced, Open}
use Rattle.relationships.specs.Fates.{walk_of}
use Rattle.relationships.specs.Graph.{Edge}
use Rattle.relationships.specs.Evidence.{paths_of}
use Rattle.relationships.specs.Selection.{IsServable}
use Rattle.relationships.specs.Givens.{returns}
use Rattle.relationships.proofs.GivenLemmas.{givens_servable_law}
use Rattle.relationships.proofs.Selecting.{selection_behind_law}
use Rattle.result_text.specs.declared.file.PathLine.{PathLine}
use Rattle.result_text.specs.declared.file.ResultFile.{ResultFile}
use Rattle.result_rules.specs.File.{its_givens, its_paths, its_walks, its_kept, its_edges, its_returns}
use Rattle.result_rules.specs.Rules.{Accepts}
use Rattle.result_laws.specs.Orders.{HaveSamePaths, LosesNone, AnyOrderLaw}
use Rattle.result_laws.proofs.AcceptedLemmas.{its_demands, same_kept, valid, its_two, its_once, its_edges_listed}
use Rattle.result_laws.proofs.GrowingLemmas.{edges_within, returns_within, forced_too}
use Rattle.result_laws.proofs.KeptLemmas.{Within, within-append, servable_fewer, kept_are_paths, all_are_kept}

-- the flags of lines of which none is lost, and back
flags_of : (lines : List PathLine) → AllByRecursion (λ (p : PathLine). p.fate ≡ Kept) lines → AllByRecursion (λ k. IsTrue k) (map is_none (map (λ (p : PathLine). walk_of p.fate) lines))
flags_of [] h = tt
flags_of (line ∷ lines) h = (ap (λ (f : Fate). is_none (walk_of f)) h.0, flags_of lines h.1)

kept_if : (fate : Fate) → IsTrue (is_none (walk_of fate)) → fate ≡ Kept
kept_if Kept t = refl
kept_if (Lost walk) t = absurd (false≢true t)

fates_of : (lines : List PathLine) → AllByRecursion (λ k. IsTrue k) (map is_none (map (λ (p : PathLine). walk_of p.fate) lines)) → AllByRecursion (λ (p : PathLine). p.fate ≡ Kept) lines
fates_of [] h = tt
fates_of (line ∷ lines) h = (kept_if line.fate h.0, fates_of lines h.1)

same_marks : (m m' : Mark) → (m ≡ Forced → m' ≡ Forced) → (m' ≡ Forced → m ≡ Forced) → m ≡ m'
same_marks Forced m' f g = sym (f refl)
same_marks Open Forced f g = g refl
same_marks Open Open f g = refl

module _ (file other : ResultFile) (accepts : Accepts file) (accepts' : Accepts other) (same : HaveSamePaths file other) (none : LosesNone file) where
  flags : AllByRecursion (λ k. IsTrue k) (map is_none (its_walks file))
  flags = flags_of file.paths (recursion_from_All (λ (p : PathLine). p.fate ≡ Kept) file.paths none)

  there : Within (its_paths file) (its_paths other)
  there p = (same.paths p).0

  back : Within (its_paths other) (its_paths file)
  back p = (same.paths p).1

  returns_there : Within (its_returns file) (its_returns other)
  returns_there = subst (λ gs. Within (its_returns file) (returns (its_paths other) gs)) (sym same.givens) (returns_within (its_paths file) (its_paths other) there (its_givens file))

  returns_back : Within (its_returns other) (its_returns file)
  returns_back = subst (λ gs. Within (returns (its_paths other) gs) (its_returns file)) (sym same.givens) (returns_within (its_paths other) (its_paths file) back (its_givens file))

  all_served : IsServable (its_returns file ++ its_paths file)
  all_served =
      let behind = selection_behind_law (its_returns file) (its_paths file) (map is_none (its_walks file)) (valid file accepts).kept in
      (behind.2 (givens_servable_law (its_givens file) (its_paths file) (its_two file accepts) (its_once file accepts))).0
      (All-from_recursion (λ k. IsTrue k) (map is_none (its_walks file)) flags)

  all_served' : IsServable (its_returns other ++ its_paths other)
  all_served' =
      servable_fewer (its_returns other ++ its_paths other) (its_returns file ++ its_paths file)
      (within-append (its_returns other) (its_paths other) (its_returns file) (its_paths file) returns_back back) all_served

  flags' : AllByRecursion (λ k. IsTrue k) (map is_none (its_walks other))
  flags' =
      let behind = selection_behind_law (its_returns other) (its_paths other) (map is_none (its_walks other)) (valid other accepts').kept in
      recursion_from_All (λ k. IsTrue k) (map is_none (its_walks other))
      ((behind.2 (givens_servable_law (its_givens other) (its_paths other) (its_two other accepts') (its_once other accepts'))).1 all_served')

  none_lost : LosesNone other
  none_lost = All-from_recursion (λ (p : PathLine). p.fate ≡ Kept) other.paths (fates_of other.paths flags')

-- where a result loses none, each path that another has is kept by it
module _ (file other : ResultFile) (accepts' : Accepts other) where
  pub demands_within : Within (its_returns file) (its_returns other) → Within (its_paths file) (its_paths other) → AllByRecursion (λ k. IsTrue k) (map is_none (its_walks other)) →
      Within (its_demands file) (its_demands other)
  demands_within returned there flags =
      within-append (its_returns file) (paths_of (its_kept file)) (its_returns other) (paths_of (its_kept other)) returned
      (subst (λ ps. Within ps (paths_of (its_kept other))) (sym (same_kept file))
      (subst (Within (items_where_true (map is_none (its_walks file)) (its_paths file))) (sym (same_kept other))
      (λ p c. all_are_kept (its_returns other) (its_paths other) (map is_none (its_walks other)) (valid other accepts').kept flags p
      (there p (kept_are_paths (its_paths file) (map is_none (its_walks file)) p c)))))

edges_between : (file other : ResultFile) → Accepts file → Accepts other → Within (its_paths file) (its_paths other) → (e : Edge) → Contains (its_edges file) e → Contains (its_edges other) e
edges_between file other accepts accepts' within e c =
    subst (λ (es : List Edge). Contains es e) (sym (its_edges_listed other accepts'))
    (edges_within (its_paths file) (its_paths other) within e (subst (λ (es : List Edge). Contains es e) (its_edges_listed file accepts) c))

pub any_order_law : AnyOrderLaw
any_order_law file other accepts accepts' same none = (
  none_lost file other accepts accepts' same none,
  record {
    edges = λ e. (
      edges_between file other accepts accepts' (there file other accepts accepts' same none) e,
      edges_between other file accepts' accepts (back file other accepts accepts' same none) e,
    );
    marks = λ line line' here here' low high.
        let on = demands_within file other accepts' (returns_there file other accepts accepts' same none) (there file other accepts accepts' same none)
        (flags' file other accepts accepts' same none) in
        let again = demands_within other file accepts (returns_back file other accepts accepts' same none) (back file other accepts accepts' same none)
        (flags file other accepts accepts' same none) in
        let forth = forced_too file other accepts accepts' on line line' here here' low high in
        let home = forced_too other file accepts' accepts again line' line here' here (sym low) (sym high) in
        (same_marks line.mark line'.mark (λ is. (forth is).0) (λ is. (home is).0), λ is. (forth is).1);
  },
)
