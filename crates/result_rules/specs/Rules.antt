-- The rules that a result has to meet, which are this project's own (docs/FORMATS.md, "The rules of a result"). Each asks
-- something of some of its lines, one by one. That a path is valley-free is the notion of L. Gao, "On inferring autonomous system
-- relationships in the Internet", 2001.
use Rattle.std.specs.Prelude.{◌≡◌, ◌≢◌, ℕ, zero, suc, ◌+◌, ◌-◌, ◌<◌, ◌≤◌, IsTrue, List, [], ◌∷◌, ◌++◌, length, map, max, take, Some, All}
use Rattle.std.specs.Prelude.{Contains, slice_get, sum_by, nat_lt, if◌then◌else◌}
use Rattle.tor_arena.specs.Limits.{max_paths, max_numbers, max_ratio}
use Rattle.relationships.specs.declared.given.Given.{Given}
use Rattle.relationships.specs.declared.walk.Walk.{Walk}
use Rattle.relationships.specs.Relationship.{ValleyFree, label_of}
use Rattle.relationships.specs.Graph.{edge_of, edges, support}
use Rattle.relationships.specs.Evidence.{paths_of}
use Rattle.relationships.specs.Givens.{end_by}
use Rattle.relationships.specs.GivenEvidence.{RefutesWith, ShowsWith, served_with}
use Rattle.relationships.specs.Checking.{Claim, IsBorneOut, IsProbe}
use Rattle.path_clean.specs.Paths.{is_cleaned}
use Rattle.relationships.specs.declared.fate.Fate.TheVariants.{Kept, Lost}
use Rattle.result_text.specs.declared.file.PathLine.{PathLine}
use Rattle.result_text.specs.declared.file.EdgeLine.{EdgeLine}
use Rattle.result_text.specs.declared.file.Totals.{Totals}
use Rattle.result_text.specs.declared.file.ResultFile.{ResultFile}
use Rattle.result_text.specs.Numbering.{ratio_line, last_line}
use Rattle.result_rules.specs.declared.rule.Rule.{Rule}
use Rattle.result_rules.specs.declared.rule.Rule.TheVariants.{HeadSound, PathsCleaned, PathsDistinct, LostRefuted, EdgesListed}
use Rattle.result_rules.specs.declared.rule.Rule.TheVariants.{LabelsServe, SupportCounted, OrdersShown, MarksBorneOut, TotalsRight}
use Rattle.result_rules.specs.Totals.{totals_by}
use Rattle.result_rules.specs.File.{its_paths, kept_before, its_kept, its_claims, its_edges, its_labels, shown_orders, its_probes}
use Rattle.result_rules.specs.File.{its_givens, given_line_number}
use Rattle.result_rules.specs.File.{path_line_number, edge_line_number, why_line_number, open_line}

-- the number that a verdict names
abbrev pub rule_number : Rule → ℕ
rule_number HeadSound = 1
rule_number PathsCleaned = 2
rule_number PathsDistinct = 3
rule_number LostRefuted = 4
rule_number EdgesListed = 5
rule_number LabelsServe = 6
rule_number SupportCounted = 7
rule_number OrdersShown = 8
rule_number MarksBorneOut = 9
rule_number TotalsRight = 10

-- ---- what the rules ask

-- a given line names two different ASes, and no earlier one names the same two
pub record IsNewGiven (file : ResultFile) (k : ℕ) (given : Given) : Type 0 where
  pub two : given.over ≢ given.under
  pub new : All (λ g. edge_of g.over g.under ≢ edge_of given.over given.under) (take k (its_givens file))

-- a path line: its path is clean, it was seen, and with it there are not too many paths, nor too many numbers in sum
pub record IsSound (file : ResultFile) (k : ℕ) (line : PathLine) : Type 0 where
  pub cleaned : IsTrue (is_cleaned line.path)
  pub seen : 1 ≤ line.times
  pub few : k < max_paths
  pub numbers : sum_by length (take (k + 1) (its_paths file)) ≤ max_numbers

-- no earlier path is the same
abbrev pub IsNew : ResultFile → ℕ → PathLine → Type 0
IsNew file k line = Contains (take k (its_paths file)) line.path → ⊥

-- a lost path's walk refutes by the givens over the paths kept before it and its own, whose number is its place from 1
abbrev pub IsLostRightly : ResultFile → ℕ → PathLine → Type 0
IsLostRightly file k line =
    (walk : Walk) → line.fate ≡ Lost walk → RefutesWith (its_givens file) (kept_before file k ++ (k + 1, line.path) ∷ []) walk

-- a kept path is valley-free under the labels
abbrev pub IsServedIfKept : ResultFile → PathLine → Type 0
IsServedIfKept file line = line.fate ≡ Kept → ValleyFree (its_labels file) line.path

-- the label of an edge line has the provider of each given of its two ASes
abbrev pub HasGivenLabel : ResultFile → EdgeLine → Type 0
HasGivenLabel file line =
    All (λ g. edge_of g.over g.under ≡ (line.low, line.high) → line.label ≡ label_of (end_by g.over g.under)) (its_givens file)

-- the support is the number of kept paths that hold the edge
abbrev pub IsCounted : ResultFile → EdgeLine → Type 0
IsCounted file line = line.support ≡ support (paths_of (its_kept file)) (line.low, line.high)

-- what closures go along: the returns of the givens, and the kept paths
abbrev pub its_served : ResultFile → List (List ℕ)
its_served file = served_with (its_givens file) (paths_of (its_kept file))

-- a why line shows an order by the givens over the kept paths, from the orders that the lines before it show
abbrev pub IsShown : ResultFile → ℕ → Walk → Type 0
IsShown file k walk = (a b : ℕ) × ShowsWith (its_givens file) (its_kept file) (shown_orders (take k file.whys)) walk a b

-- the mark of an edge line is borne out by the why lines and the open lines
abbrev pub IsMarkedRightly : ResultFile → Claim → Type 0
IsMarkedRightly file claim = IsBorneOut (its_served file) (shown_orders file.whys) (its_probes file) claim

-- an open line serves for an edge for which no earlier one serves
abbrev pub ServesNewEdge : ResultFile → ℕ → ℕ × ℕ → Type 0
ServesNewEdge file k probe = IsProbe (its_served file) (its_claims file) (take k (its_probes file)) probe

-- what the last line has to say
abbrev pub right_totals : ResultFile → Totals
right_totals file = totals_by (map (λ p. p.fate) file.paths) file.edges

-- ---- the rules, line by line

-- of how many lines a rule asks something
abbrev pub count_for : ResultFile → Rule → ℕ
count_for file HeadSound = 1 + length (its_givens file)
count_for file PathsCleaned = length file.paths
count_for file PathsDistinct = length file.paths
count_for file LostRefuted = length file.paths
count_for file EdgesListed = max (length file.edges) (length (edges (its_paths file)))
count_for file LabelsServe = length file.paths + length file.edges
count_for file SupportCounted = length file.edges
count_for file OrdersShown = length file.whys
count_for file MarksBorneOut = length file.edges + length file.probes
count_for file TotalsRight = 1

-- the line in place k, if there is one, has P
abbrev pub ForSome : {X : Type 0} → List X → ℕ → (X → Type 0) → Type 0
ForSome {X} lines k P = (line : X) → slice_get lines k ≡ Some line → P line

-- of the lines of the head that are asked the first is that of the ratio, and behind it come the given lines
abbrev pub AsksOfHead : ResultFile → ℕ → Type 0
AsksOfHead file zero = file.ratio ≤ max_ratio
AsksOfHead file (suc k) = ForSome (its_givens file) k (IsNewGiven file k)

-- of the lines that labels have to serve the first are the path lines, and right behind them stand the edge lines
abbrev pub AsksOfLabels : ResultFile → ℕ → Type 0
AsksOfLabels file k = length file.paths ≤ k → ForSome file.edges (k - length file.paths) (HasGivenLabel file)

-- of the lines with marks the first are the edge lines, and behind them the others are the open lines
abbrev pub AsksOfMarks : ResultFile → ℕ → Type 0
AsksOfMarks file k = ForSome (its_claims file) k (IsMarkedRightly file)

abbrev pub AsksOfProbes : ResultFile → ℕ → Type 0
AsksOfProbes file k =
    let place = k - length file.edges in
    length file.edges ≤ k → ForSome (its_probes file) place (ServesNewEdge file place)

-- what a rule asks of the line in place k of these. An edge that is absent counts as a line behind the others
abbrev pub Asks : ResultFile → Rule → ℕ → Type 0
Asks file HeadSound k = AsksOfHead file k
Asks file PathsCleaned k = ForSome file.paths k (IsSound file k)
Asks file PathsDistinct k = ForSome file.paths k (IsNew file k)
Asks file LostRefuted k = ForSome file.paths k (IsLostRightly file k)
Asks file EdgesListed k = slice_get (its_edges file) k ≡ slice_get (edges (its_paths file)) k
Asks file LabelsServe k = ForSome file.paths k (IsServedIfKept file) × AsksOfLabels file k
Asks file SupportCounted k = ForSome file.edges k (IsCounted file)
Asks file OrdersShown k = ForSome file.whys k (IsShown file k)
Asks file MarksBorneOut k = AsksOfMarks file k × AsksOfProbes file k
Asks file TotalsRight k = file.totals ≡ right_totals file

-- the number of a line of the head that is asked
abbrev pub head_line : ResultFile → ℕ → ℕ
head_line file zero = ratio_line
head_line file (suc k) = given_line_number file k

-- the number of that line in the file
abbrev pub line_for : ResultFile → Rule → ℕ → ℕ
line_for file HeadSound k = head_line file k
line_for file PathsCleaned k = path_line_number file k
line_for file PathsDistinct k = path_line_number file k
line_for file LostRefuted k = path_line_number file k
line_for file EdgesListed k = edge_line_number file k
line_for file LabelsServe k = path_line_number file k
line_for file SupportCounted k = edge_line_number file k
line_for file OrdersShown k = why_line_number file k
line_for file MarksBorneOut k = if nat_lt k (length file.edges) then edge_line_number file k else open_line file (k - length file.edges)
line_for file TotalsRight k = last_line file

-- ---- verdicts

-- each line meets the rule
abbrev pub IsMet : ResultFile → Rule → Type 0
IsMet file rule = (k : ℕ) → k < count_for file rule → Asks file rule k

-- all rules are met
abbrev pub Accepts : ResultFile → Type 0
Accepts file = (rule : Rule) → IsMet file rule

-- the line in place k is the first that breaks the rule
pub record BreaksFirst (file : ResultFile) (rule : Rule) (k : ℕ) : Type 0 where
  pub within : k < count_for file rule
  pub breach : Asks file rule k → ⊥
  pub before : (j : ℕ) → j < k → Asks file rule j

-- the line and the number are those of the least rule that is broken
pub record IsRefused (file : ResultFile) (line number : ℕ) : Type 0 where
  pub rule : Rule
  pub named : number ≡ rule_number rule
  pub place : ℕ
  pub numbered : line ≡ line_for file rule place
  pub first : BreaksFirst file rule place
  pub earlier : (other : Rule) → rule_number other < rule_number rule → IsMet file other
