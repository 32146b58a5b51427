-- What `torrank` is to its run: a file of known relationships comes to these, and what its words ask of them is written.
use Rattle.std.specs.Prelude.{◌≡◌, [], ℕ, List, Option, Some, Ok, Err, map, ⊤}
use Rattle.tor_io.specs.Contents.{Files}
use Rattle.as_rel.specs.declared.line.RelLine.{RelLine}
use Rattle.as_rel.specs.Limits.{max_rel}
use Rattle.as_rel.specs.Serial.{rel_in}
use Rattle.as_ranks.specs.Ranks.{AreRanks}
use Rattle.as_ranks.specs.Cones.{IsConeNet}
use Rattle.as_ranks.specs.Cycles.{AreProviderCycles, inside_of}
use Rattle.rank_text.specs.RankText.{IsRanksText, IsConesText, IsCyclesText}
use Rattle.tor_words.specs.declared.rank_settings.RankTask.{RankTask}
use Rattle.tor_words.specs.declared.rank_settings.RankTask.TheVariants as task
use Rattle.tor_words.specs.declared.rank_settings.RankSettings.{RankSettings}
use Rattle.tor_words.specs.RankGiven.{rank_settings_given}
use Rattle.run_base.specs.declared.notes.FirstFile.TheVariants.{Rel}
use Rattle.run_base.specs.declared.status.Status.TheVariants.{Done}
use Rattle.run_base.specs.Opening.{AllRead}
use Rattle.run_base.specs.Programs.{Reads, Outcome, Makes, NoFile, TooLong, BadLine, Breaks, Lacks, Ends, Program}
use Rattle.run_base.specs.Programs.{HasOctets, IsAbsent, IsTooLong}
use Rattle.torrank_run.specs.declared.asking.Ranked.{Ranked}
use Rattle.torrank_run.specs.declared.finding.Found.{Found}
use Rattle.torrank_run.specs.declared.finding.Found.TheVariants as found

-- the file of known relationships alone is read, at most 2 ^ 28 octets
abbrev pub reads_in : RankSettings → Option Reads
reads_in settings = Some (record { first = Some (record { name = settings.rel; most = max_rel; kind = Rel }); dumps = [] })

-- that file, as far as it is known, says these relationships
abbrev pub HoldsRel : RankSettings → Option Files → List RelLine → Type 0
HoldsRel settings known rel = (bytes : List ℕ) × HasOctets known settings.rel max_rel bytes × (rel_in bytes ≡ Ok rel)

-- what the settings and the file come to
abbrev pub GivesRel : RankSettings → Option Files → Outcome (List RelLine) → Type 0
GivesRel settings known (Makes rel) = HoldsRel settings known rel
GivesRel settings known NoFile = IsAbsent known settings.rel
GivesRel settings known TooLong = IsTooLong known settings.rel max_rel
GivesRel settings known (BadLine line) =
    (bytes : List ℕ) × HasOctets known settings.rel max_rel bytes × (rel_in bytes ≡ Err line)
GivesRel settings known (Breaks line rule) = ⊥
GivesRel settings known (Lacks note) = ⊥
GivesRel settings known (Ends end) = ⊥

-- the text of what is asked for
abbrev pub IsTaskText : RankTask → List RelLine → List ℕ → Type 0
IsTaskText task.Ranks rel text = IsRanksText rel text
IsTaskText task.Cones rel text = IsConesText rel text
IsTaskText task.Cycles rel text = IsCyclesText rel text

-- it is written, and nothing is noted
abbrev pub IsRanking : RankSettings → List RelLine → (text note : List ℕ) → Type 0
IsRanking settings rel text note = IsTaskText settings.task rel text × (note ≡ [])

abbrev pub ranking : Program RankSettings (List RelLine)
ranking = record {
  given = rank_settings_given;
  reads = reads_in;
  Gives = GivesRel;
  Before = λ settings known number. ⊤;
  status = λ rel. Done;
  end = λ rel. AllRead;
  IsText = IsRanking;
}

-- ---- what is found before the text is written

-- the ranks, where cones are looked for, or the cycles, as they are asked for
abbrev pub IsFound : List RelLine → RankTask → Found → Type 0
IsFound rel task.Ranks (found.Ranks ranks) = AreRanks rel ranks
IsFound rel task.Cones (found.Cones net) = IsConeNet rel net.net.ases.items net.net.graph net.parts net.classes
IsFound rel task.Cycles (found.Cycles cycles) = AreProviderCycles rel cycles.ases × (cycles.inside ≡ map (inside_of rel) cycles.ases)
IsFound rel _ _ = ⊥

-- the relationships of which it is found
abbrev pub known_rel : Ranked → List RelLine
known_rel ranked = ranked.rel
