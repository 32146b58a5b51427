-- What a run with `--ask` says of an edge comes true, once it is known which of its two ASes is the provider.
use Rattle.std.proofs.Common.{◌≡◌, ◌↔◌, ◌⊎◌, inl, inr, ℕ, suc, ◌+◌, Bool, true, false, not, List, [], ◌∷◌, ◌++◌, Option, Some, None, Result, Ok, cond, All, map, length, filter, unwrap_or}
use Rattle.std.proofs.Common.{refl, sym, ap, ap₂, ◌∙◌, subst, arith, Contains, IsTrue}
use Rattle.std.specs.Prelude.{slice_get}
use Rattle.std.specs.List.{count_by}
use Rattle.std.proofs.lemmas.Bool.{cases_Bool, and_from, not_from_false, both_ways}
use Rattle.std.proofs.lemmas.List.{length-map}
use Rattle.std.proofs.lemmas.List.Sums.{sum_by-cons}
use Rattle.std.proofs.lemmas.List.Elements.{All-contains, Contains-append_cases, Contains-append_left, Contains-append_right}
use Rattle.tor_arena.proofs.Gets.{Contains-from_has, Contains-map}
use Rattle.tor_io.specs.Contents.{Files}
use Rattle.path_clean.specs.Counts.{CauseCounts}
use Rattle.path_clean.specs.declared.cleaned.Sets.{Sets}
use Rattle.path_clean.proofs.GraphPaths.{apart}
use Rattle.path_table.specs.Rows.{Counted, row_paths}
use Rattle.relationships.specs.declared.given.Given.{Given}
use Rattle.relationships.specs.Checking.{kept_of}
use Rattle.relationships.specs.Evidence.{NeighboursDiffer, paths_of, kept_from}
use Rattle.relationships.specs.Givens.{end_by, names_edge, return_of, returns, NameTwo}
use Rattle.relationships.specs.Graph.{Edge, edge_of, edges, is_same}
use Rattle.relationships.specs.Marking.{is_forced}
use Rattle.relationships.specs.Relationship.{Orientation, Serves, ValleyFree, labels_of}
use Rattle.relationships.specs.Selection.{IsForced}
use Rattle.relationships.proofs.Edges.{same_edge}
use Rattle.relationships.proofs.GivenLemmas.{all_parts, any_there, over_end, return_holds}
use Rattle.relationships.proofs.Serving.{all_differ_if_distinct}
use Rattle.dump_read.specs.declared.taking.Taken.{Taken}
use Rattle.dump_read.specs.Seen.{DumpsEnd}
use Rattle.as_rel.specs.declared.givens.KnownLines.{KnownLines}
use Rattle.as_rel.specs.declared.line.RelLine.{RelLine}
use Rattle.as_rel.specs.Givens.{givens_in, pairs_in, peer_pairs}
use Rattle.as_rel.specs.Serial.{rel_in}
use Rattle.as_rel.proofs.FewLines.{named_pairs_law}
use Rattle.result_text.specs.declared.file.EdgeLine.{EdgeLine}
use Rattle.result_text.specs.declared.file.PathLine.{PathLine}
use Rattle.result_text.specs.declared.file.ResultFile.{ResultFile}
use Rattle.result_text.specs.declared.file.Totals.{Totals}
use Rattle.result_rules.specs.Against.{row_of}
use Rattle.result_rules.specs.File.{its_givens, its_paths, its_probes, its_walks}
use Rattle.rel_infer.specs.GivenInference.{IsInferredWith}
use Rattle.rel_infer.specs.GivenResults.{IsResultWith}
use Rattle.rel_infer.specs.SelfAcceptance.{AreTableRows}
use Rattle.rel_infer.proofs.Acceptance.{same_givens}
use Rattle.top_givens.specs.TopGivens.{given_pairs, has_one_top, is_bound, is_paired, top_given, top_givens}
use Rattle.top_givens.proofs.Members.{in_filter, listed_edge, same_top_law}
use Rattle.top_givens.proofs.Tops.{given_edge}
use Rattle.asks.specs.declared.table.AskLine.{AskLine}
use Rattle.asks.specs.Asks.{AreAskLinesOf}
use Rattle.result_laws.specs.Asked.{AreWithGiven, ForcesAsSaid, GivenAskLaw, newly_forced, number_if}
use Rattle.result_laws.proofs.AskedLemmas.{return_there, said_of_line}
use Rattle.run_base.specs.Reading.{nothing, seen_from}
use Rattle.tor_words.specs.declared.settings.Settings.{Settings}
use Rattle.tor_words.specs.declared.task.Made.TheVariants as made
use Rattle.tor_words.specs.Given.{BoundsLaw, dumps_in, settings_given}
use Rattle.tor_output.specs.Accepting.{TableLaw}
use Rattle.tor_output.specs.First.{First, Nothing, Givens, Result as FirstResult, Earlier, AreGivens, first_in}
use Rattle.tor_output.specs.Knowing.{known_of, said_givens, said_peers}
use Rattle.tor_output.specs.Output.{Faithful, givens_for, known_for, made_by, paths_taken}
use Rattle.tor_output.specs.Seen.{ComesTo, Reads, seen}
use Rattle.tor_output.proofs.GradingLemmas.{is_made}
use Rattle.tor_output.proofs.Joining.{seen_by}
use Rattle.tor_output.proofs.Knowings.{known_sound}
use Rattle.tor_output.proofs.Orderings.{taken_rows}
use Rattle.tor_output.proofs.SeenLemmas.{made_of_files}
use Rattle.run_laws.specs.AskRuns.{KnowsMore, SettlesAsSaid, ComesTrue, AskRunLaw, known_octets}
use Rattle.run_laws.proofs.MoreLines.{names_its, names_others, with_given}
use Rattle.dump_read.specs.Wanted.{all_wanted}

-- ---- what the file of known relationships says

record IsKnownBy (said : Option KnownLines) (bytes : List ℕ) : Type 0 where
  rel : List RelLine
  reads : rel_in bytes ≡ Ok rel
  givens : said_givens said ≡ givens_in rel
  peers : said_peers said ≡ peer_pairs rel

known_by : (f : First) (files : Files) (said : Option KnownLines) → AreGivens f files said → IsKnownBy said (known_octets f files)
known_by Nothing files None is = record { rel = []; reads = refl; givens = refl; peers = refl }
known_by Nothing files (Some s) is = absurd is
known_by (Givens name) files None is = absurd is
known_by (Givens name) files (Some s) is = record {
  rel = is.2.rel;
  reads = ap (λ (o : Option (List ℕ)). rel_in (unwrap_or o [])) is.1.there ∙ is.2.said;
  givens = is.2.givens;
  peers = is.2.peers;
}
known_by (FirstResult name) files said is = absurd is
known_by (Earlier name) files said is = absurd is

-- the pairs that are named are those of its lines
named_by : (said : Option KnownLines) (bytes : List ℕ) (known : IsKnownBy said bytes) (e : Edge) →
    is_paired (given_pairs (said_givens said) ++ said_peers said) e ≡ is_paired (pairs_in known.rel) e
named_by said bytes known e =
    ap₂ (λ (gs : List Given) (ps : List (ℕ × ℕ)). is_paired (given_pairs gs ++ ps) e) known.givens known.peers ∙ named_pairs_law (λ p. is_same e (edge_of p.0 p.1)) known.rel

-- ---- what is given is forced

given_forced : (givens : List Given) (paths kept : List (List ℕ)) (g : Given) (low high : ℕ) → Contains givens g → edge_of g.over g.under ≡ (low, high) →
    Contains (edges paths) (low, high) → IsForced (returns paths givens ++ kept) low high
given_forced givens paths kept g low high there of_edge listed O O' serves serves' = end_of O serves ∙ sym (end_of O' serves')
  where
    named : names_edge paths g ≡ true
    named = any_there (edges paths) (edge_of g.over g.under) (subst (Contains (edges paths)) (sym of_edge) listed)

    end_of : (P : Orientation) → Serves P (returns paths givens ++ kept) → P low high ≡ end_by g.over g.under
    end_of P s =
        let all = all_parts (ValleyFree (labels_of P)) (returns paths givens) kept s in
        let free = All-contains (ValleyFree (labels_of P)) (returns paths givens) (return_of g) all.0 (return_there paths givens g there named) in
        subst (λ (e : Edge). P e.0 e.1 ≡ end_by g.over g.under) of_edge (over_end P g.over g.under (return_holds (labels_of P) g free))

-- ---- what is known in both runs

module _ (top : Option (List ℕ)) (said more : Option KnownLines) (paths : List (List ℕ)) (given : Given) where
  abbrev pair : Edge
  pair = edge_of given.over given.under

  unknown : (s : Option KnownLines) → unwrap_or (known_of None s paths) [] ≡ said_givens s
  unknown None = refl
  unknown (Some s) = refl

  knows : (t : Option (List ℕ)) → ((g : Given) → Contains (said_givens more) g ↔ (Contains (said_givens said) g ⊎ (g ≡ given))) →
      ((ts : List ℕ) → t ≡ Some ts → top_givens ts (given_pairs (said_givens said) ++ said_peers said) paths ≡
      top_givens ts (given_pairs (said_givens more) ++ said_peers more) paths) →
      AreWithGiven (unwrap_or (known_of t said paths) []) given (unwrap_or (known_of t more paths) [])
  knows None says same g =
      let a = unknown said in
      let b = unknown more in (
        λ c. subst (λ gs. Contains gs g ⊎ (g ≡ given)) (sym a) ((says g).0 (subst (λ gs. Contains gs g) b c)),
        λ h. subst (λ gs. Contains gs g) (sym b) ((says g).1 (subst (λ gs. Contains gs g ⊎ (g ≡ given)) a h)),
      )
  knows (Some ts) says same g =
      let old = top_givens ts (given_pairs (said_givens said) ++ said_peers said) paths in
      let new = top_givens ts (given_pairs (said_givens more) ++ said_peers more) paths in
      let e = same ts refl in (
        λ c. elim (Contains-append_cases (said_givens more) new g c) [
          | inl h ↦ elim ((says g).0 h) [ inl k ↦ inl (Contains-append_left (said_givens said) old g k) | inr is ↦ inr is ]
          | inr h ↦ inl (Contains-append_right (said_givens said) old g (subst (λ gs. Contains gs g) (sym e) h))
        ],
        λ h. elim h [
          | inl c ↦ elim (Contains-append_cases (said_givens said) old g c) [
            | inl k ↦ Contains-append_left (said_givens more) new g ((says g).1 (inl k))
            | inr k ↦ Contains-append_right (said_givens more) new g (subst (λ gs. Contains gs g) e k)
          ]
          | inr is ↦ Contains-append_left (said_givens more) new g ((says g).1 (inr is))
        ],
      )

-- an edge with one end in the top that no line names is forced
bound_forced : (top : List ℕ) (gs : List Given) (named : List (ℕ × ℕ)) (paths kept : List (List ℕ)) (low high : ℕ) → Contains (edges paths) (low, high) →
    has_one_top top (low, high) ≡ true → is_paired named (low, high) ≡ false → IsForced (returns paths (gs ++ top_givens top named paths) ++ kept) low high
bound_forced top gs named paths kept low high listed one unnamed =
    let e : Edge = (low, high) in
    let is : is_bound top named e ≡ true = and_from (has_one_top top e) (not (is_paired named e)) one (not_from_false (is_paired named e) unnamed) in
    let bound : Contains (top_givens top named paths) (top_given top e) =
    Contains-map (top_given top) (filter (is_bound top named) (edges paths)) e (in_filter (is_bound top named) (edges paths) e listed is) in
    given_forced (gs ++ top_givens top named paths) paths kept (top_given top e) low high (Contains-append_right gs (top_givens top named paths) (top_given top e) bound)
    (given_edge top e (listed_edge paths e listed)) listed

-- ---- how many are forced

abbrev two_of : EdgeLine → Edge
two_of l = (l.low, l.high)

abbrev forced_in : List EdgeLine → ℕ
forced_in lines = count_by (λ line. is_forced line.mark) lines

count_yes : (l : EdgeLine) (ls : List EdgeLine) → is_forced l.mark ≡ true → forced_in (l ∷ ls) ≡ suc (forced_in ls)
count_yes l ls p =
    let c = sum_by-cons (λ (line : EdgeLine). cond (is_forced line.mark) 1 0) l ls in
    let one : ◌≡◌ {A = ℕ} (cond (is_forced l.mark) 1 0) 1 = ap (λ (b : Bool). cond b 1 0) p in
    omega (arith, c, one)

count_no : (l : EdgeLine) (ls : List EdgeLine) → is_forced l.mark ≡ false → forced_in (l ∷ ls) ≡ forced_in ls
count_no l ls p =
    let c = sum_by-cons (λ (line : EdgeLine). cond (is_forced line.mark) 1 0) l ls in
    let none : ◌≡◌ {A = ℕ} (cond (is_forced l.mark) 1 0) 0 = ap (λ (b : Bool). cond b 1 0) p in
    omega (arith, c, none)

newly_of_forced : (l m : EdgeLine) (ls ms : List EdgeLine) → is_forced l.mark ≡ true → newly_forced (l ∷ ls) (m ∷ ms) ≡ newly_forced ls ms
newly_of_forced l m ls ms p = rw p refl

newly_of_new : (l m : EdgeLine) (ls ms : List EdgeLine) → is_forced l.mark ≡ false → is_forced m.mark ≡ true →
    newly_forced (l ∷ ls) (m ∷ ms) ≡ (l.low, l.high) ∷ newly_forced ls ms
newly_of_new l m ls ms p q = rw (p, q) refl

newly_of_open : (l m : EdgeLine) (ls ms : List EdgeLine) → is_forced l.mark ≡ false → is_forced m.mark ≡ false →
    newly_forced (l ∷ ls) (m ∷ ms) ≡ newly_forced ls ms
newly_of_open l m ls ms p q = rw (p, q) refl

-- of lines of the same edges the second have those more that are newly forced, if what was forced still is
newly_counted : (ls ms : List EdgeLine) → length ls ≡ length ms →
    ((k : ℕ) (l m : EdgeLine) → slice_get ls k ≡ Some l → slice_get ms k ≡ Some m → IsTrue (is_forced l.mark) → IsTrue (is_forced m.mark)) →
    forced_in ms ≡ forced_in ls + length (newly_forced ls ms)
newly_counted [] [] same still = refl
newly_counted [] (m ∷ ms) same still = absurd (cc same)
newly_counted (l ∷ ls) [] same still = absurd (cc same)
newly_counted (l ∷ ls) (m ∷ ms) same still =
    by (newly_counted ls ms (omega (arith, same)) (λ k a b at bt. still (suc k) a b at bt)) (is_forced l.mark) refl (is_forced m.mark) refl
  where
    by : forced_in ms ≡ forced_in ls + length (newly_forced ls ms) → (a : Bool) → is_forced l.mark ≡ a → (b : Bool) → is_forced m.mark ≡ b →
        forced_in (m ∷ ms) ≡ forced_in (l ∷ ls) + length (newly_forced (l ∷ ls) (m ∷ ms))
    by rest true p true q =
        let a = count_yes l ls p in let b = count_yes m ms q in let n = ap length (newly_of_forced l m ls ms p) in omega (arith, rest, a, b, n)
    by rest true p false q = absurd (both_ways (is_forced m.mark) q (still 0 l m refl refl p))
    by rest false p true q =
        let a = count_no l ls p in let b = count_yes m ms q in let n = ap length (newly_of_new l m ls ms p q) in omega (arith, rest, a, b, n)
    by rest false p false q =
        let a = count_no l ls p in let b = count_no m ms q in let n = ap length (newly_of_open l m ls ms p q) in omega (arith, rest, a, b, n)

-- ---- two runs

-- dumps of the same octets give the same, with the same options
same_taken : (settings other : Settings) (files later : Files) (given : Given) (taken taken' : Taken) → KnowsMore given settings other files later →
    seen settings files ≡ Ok taken → seen other later ≡ Ok taken' → taken' ≡ taken
same_taken settings other files later given taken taken' more sees sees' =
    let options = ap (λ (s : Settings). (s.sets, s.max_paths)) more.options in
    let there : seen other later ≡ seen settings files =
    ap (λ (p : Sets × ℕ). seen_from (all_wanted p.0) 1 (nothing p.1) (dumps_in other) later) options ∙
    seen_by (all_wanted settings.sets) 1 (nothing settings.max_paths) (dumps_in other) (dumps_in settings) later files more.dumps in
    same_ok taken' taken (sym sees' ∙ there ∙ sees)
  where
    same_ok : (a b : Taken) → ◌≡◌ {A = Result Taken DumpsEnd} (Ok a) (Ok b) → a ≡ b
    same_ok a b e = cc

-- the paths of a result of rows
paths_of_rows : (known : Option (List Given)) (sets : Sets) (ratio : ℕ) (rows : List Counted) (counts : CauseCounts) (file : ResultFile) →
    IsResultWith known sets ratio rows counts file → its_paths file ≡ row_paths rows
paths_of_rows known sets ratio rows counts file is = sym (ap row_paths (sym is.paths) ∙ paths_in file.paths)
  where
    paths_in : (lines : List PathLine) → row_paths (map row_of lines) ≡ map (λ (p : PathLine). p.path) lines
    paths_in [] = refl
    paths_in (line ∷ lines) = ap (λ (ps : List (List ℕ)). line.path ∷ ps) (paths_in lines)

module _ (bounds : BoundsLaw) (table : TableLaw) (law : GivenAskLaw) (words : List (List ℕ)) (settings : Settings) (files : Files) (said : Option KnownLines) (taken : Taken)
    (given_words : settings_given words ≡ Some settings) (asks : made_by settings.job ≡ Some made.Asks) (comes : ComesTo settings files (Reads said taken))
    (asked : List AskLine) (are : AreAskLinesOf (givens_for settings said taken) (row_paths (paths_taken settings taken)) asked) where
  abbrev paths : List (List ℕ)
  paths = row_paths (paths_taken settings taken)

  abbrev givens : List Given
  givens = givens_for settings said taken

  rows : AreTableRows (paths_taken settings taken)
  rows = taken_rows settings taken (table words settings files said taken given_words comes).0

  sound : NameTwo givens
  sound = (known_sound settings.top said paths (table words settings files said taken given_words comes).1).0

  differ : All NeighboursDiffer paths
  differ = all_differ_if_distinct paths (apart paths rows.clean)

  -- what follows for two results of the same rows, of which the second knows one given more
  settled : (line : AskLine) → Contains asked line → (given : Given) (said' : Option KnownLines) (file next : ResultFile) → edge_of given.over given.under ≡ (line.low, line.high) →
      Faithful settings said taken file → Faithful settings said' taken next → AreWithGiven givens given (givens_for settings said' taken) → SettlesAsSaid line given file next
  settled line there given said' file next of_edge faithful faithful' one_more =
      let more = givens_for settings said' taken in
      let end = end_by given.over given.under in
      let its = paths_of_rows (known_for settings said taken) settings.sets settings.ratio (paths_taken settings taken) taken.counts file faithful in
      let its' = paths_of_rows (known_for settings said' taken) settings.sets settings.ratio (paths_taken settings taken) taken.counts next faithful' in
      let i = subst (λ ps. IsInferredWith givens settings.ratio ps (its_walks file) file.edges file.whys (its_probes file)) its faithful.inferred in
      let i' = subst (λ ps. IsInferredWith more settings.ratio ps (its_walks next) next.edges next.whys (its_probes next)) its' faithful'.inferred in
      let forces = law givens more settings.ratio paths asked line given (its_walks file) (its_walks next) file.edges next.edges file.whys next.whys (its_probes file) (its_probes next)
      differ sound are there of_edge one_more i i' in
      let said_so = same_givens file (known_for settings said taken) faithful.its_givens in
      let first : length (map two_of file.edges) ≡ length (edges paths) = ap length i.edges_listed in
      let second : length (map two_of next.edges) ≡ length (edges paths) = ap length i'.edges_listed in
      let count = length-map file.edges two_of in
      let count' = length-map next.edges two_of in
      let new = newly_counted file.edges next.edges (omega (arith, first, second, count, count')) forces.still in
      let many = forces.many in
      let was : file.totals.forced ≡ forced_in file.edges = ap (λ (t : Totals). t.forced) faithful.totals in
      let is : next.totals.forced ≡ forced_in next.edges = ap (λ (t : Totals). t.forced) faithful'.totals in
      record {
        forces = subst (λ ps. ForcesAsSaid (returns ps (its_givens file) ++ paths_of (kept_of ps (its_walks file))) (edges ps) (line.low, line.high) end (number_if line end)
            (its_walks file) (its_walks next) file.edges next.edges) (sym its)
            (subst (λ gs. ForcesAsSaid (returns paths gs ++ paths_of (kept_of paths (its_walks file))) (edges paths) (line.low, line.high) end (number_if line end)
            (its_walks file) (its_walks next) file.edges next.edges) said_so forces);
        totals = omega (arith, new, many, was, is);
      }

  -- the lines of the two files of known relationships
  module _ (given : Given) (other : Settings) (later : Files) (said' : Option KnownLines) (more : KnowsMore given settings other files later)
      (known' : AreGivens (first_in other) later said') where
    abbrev named : Option KnownLines → List (ℕ × ℕ)
    named s = given_pairs (said_givens s) ++ said_peers s

    abbrev bytes : List ℕ
    bytes = known_octets (first_in settings) files

    abbrev bytes' : List ℕ
    bytes' = known_octets (first_in other) later

    k : IsKnownBy said bytes
    k = known_by (first_in settings) files said comes.0

    k' : IsKnownBy said' bytes'
    k' = known_by (first_in other) later said' known'

    says : (g : Given) → Contains (said_givens said') g ↔ (Contains (said_givens said) g ⊎ (g ≡ given))
    says g =
        subst (λ gs. Contains gs g ↔ (Contains (said_givens said) g ⊎ (g ≡ given))) (sym k'.givens)
        (subst (λ gs. Contains (givens_in k'.rel) g ↔ (Contains gs g ⊎ (g ≡ given))) (sym k.givens) (with_given given bytes bytes' more.tells k.rel k'.rel k.reads k'.reads g))

    -- of edges with one end in the top the same are named, if this one was
    same_named : (ts : List ℕ) → (has_one_top ts (edge_of given.over given.under) ≡ true → is_paired (named said) (edge_of given.over given.under) ≡ true) → (e : Edge) →
        has_one_top ts e ≡ true → is_paired (named said) e ≡ is_paired (named said') e
    same_named ts was e one =
        elim (cases_Bool (is_same e (edge_of given.over given.under))) [
          | inr f ↦ named_by said bytes k e ∙ names_others given bytes bytes' more.tells k.rel k'.rel k.reads k'.reads e f ∙ sym (named_by said' bytes' k' e)
          | inl t ↦ subst (λ f. is_paired (named said) f ≡ is_paired (named said') f) (sym (same_edge e (edge_of given.over given.under) t))
              (was (subst (λ f. has_one_top ts f ≡ true) (same_edge e (edge_of given.over given.under) t) one) ∙
              sym (named_by said' bytes' k' (edge_of given.over given.under) ∙ names_its given bytes bytes' more.tells k.rel k'.rel k.reads k'.reads))
        ]

    one_given_more : ((ts : List ℕ) → settings.top ≡ Some ts → has_one_top ts (edge_of given.over given.under) ≡ true →
        is_paired (named said) (edge_of given.over given.under) ≡ true) → AreWithGiven givens given (givens_for settings said' taken)
    one_given_more was =
        knows settings.top said said' paths given settings.top says
        (λ ts is. same_top_law ts ts (named said) (named said') paths (λ a. refl) (same_named ts (was ts is)))

  -- an edge that a line is about was named, if it has one end in the top
  was_named : (line : AskLine) → Contains asked line → (e : Edge) → e ≡ (line.low, line.high) → (ts : List ℕ) → settings.top ≡ Some ts → has_one_top ts e ≡ true →
      is_paired (given_pairs (said_givens said) ++ said_peers said) e ≡ true
  was_named line there e its ts is one =
      let pairs = given_pairs (said_givens said) ++ said_peers said in
      let kept = paths_of (kept_from 1 paths are.1.keeps) in
      let s = said_of_line (returns paths givens ++ kept) paths are.0 line are.1.by (subst (λ (ls : List AskLine). Contains ls line) are.2 there) in
      let listed : Contains (edges paths) (line.low, line.high) = Contains-from_has (edges paths) (line.low, line.high) (s.place, s.at) in
      let known : said_givens said ++ top_givens ts pairs paths ≡ givens = ap (λ (t : Option (List ℕ)). unwrap_or (known_of t said paths) []) (sym is) in
      elim (cases_Bool (is_paired pairs e)) [
        | inl p ↦ p
        | inr p ↦ absurd (s.unforced
            (subst (λ gs. IsForced (returns paths gs ++ kept) line.low line.high) known
            (bound_forced ts (said_givens said) pairs paths kept line.low line.high listed (subst (λ f. has_one_top ts f ≡ true) its one) (subst (λ f. is_paired pairs f ≡ false) its p))))
      ]

  comes_true : (line : AskLine) → Contains asked line → ComesTrue settings files said taken line
  comes_true line there given other later said' taken' file next of_edge more makes comes' faithful faithful' =
      let sees = made_of_files settings.job made.Asks settings files taken asks comes.1 in
      let sees' = made_of_files other.job made.Result other later taken' makes comes'.1 in
      let as_first = subst (λ (u : Settings). Faithful u said' taken' next) more.options faithful' in
      let of_same = subst (λ (t : Taken). Faithful settings said' t next) (same_taken settings other files later given taken taken' more sees sees') as_first in
      settled line there given said' file next of_edge faithful of_same
      (one_given_more given other later said' more comes'.0 (was_named line there (edge_of given.over given.under) of_edge))

pub ask_run_law : BoundsLaw → TableLaw → GivenAskLaw → AskRunLaw
ask_run_law bounds table law words settings files said taken output given asks comes is =
    let (asked, are, text, note) = is_made settings.job made.Asks settings said taken output asks is in
    (asked, text, comes_true bounds table law words settings files said taken given asks comes asked are)
