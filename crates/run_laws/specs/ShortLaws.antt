-- What runs with `--order short` give doesn't depend on the order of the routes.
use Rattle.std.specs.Prelude.{◌≡◌, ◌≢◌, ℕ, List, All, Option, Ok, Err}
use Rattle.tor_io.specs.Contents.{Files}
use Rattle.as_rel.specs.declared.givens.KnownLines.{KnownLines}
use Rattle.path_order.specs.declared.choice.Order.TheVariants.{Short}
use Rattle.dump_read.specs.declared.error.LimitKind.{LimitKind}
use Rattle.dump_read.specs.declared.error.LimitKind.TheVariants.{Bytes}
use Rattle.dump_read.specs.declared.taking.Taken.{Taken}
use Rattle.dump_read.specs.Seen.{DumpsEnd, Limit}
use Rattle.order_laws.specs.RouteOrder.{DumpsGiveSame}
use Rattle.result_text.specs.declared.file.ResultFile.{ResultFile}
use Rattle.tor_words.specs.declared.settings.Settings.{Settings}
use Rattle.tor_words.specs.Given.{dumps_in}
use Rattle.tor_output.specs.Output.{Faithful, paths_taken}
use Rattle.tor_output.specs.Resuming.{Hold}
use Rattle.tor_output.specs.Seen.{seen}
use Rattle.tor_output.specs.SeenLaw.{IsWhole}
use Rattle.run_laws.specs.ResumeLaws.{AreSameButEvidence}
use Rattle.dump_read.specs.Wanted.{all_wanted}

-- two runs, each over its own dumps, take the shortest paths first, with the same sets, ratio, limit and top, and their dumps give the same
-- routes, in whatever order these come, and however they are cut into records and dumps
pub record GiveSameRoutes (settings other : Settings) (files later : Files) : Type 0 where
  pub short : settings.order ≡ Short
  pub short_too : other.order ≡ Short
  pub sets : other.sets ≡ settings.sets
  pub ratio : other.ratio ≡ settings.ratio
  pub top : other.top ≡ settings.top
  pub limit : other.max_paths ≡ settings.max_paths
  pub dumps : List (List ℕ)
  pub others : List (List ℕ)
  pub hold : Hold files (dumps_in settings) dumps
  pub hold_too : Hold later (dumps_in other) others
  pub same : DumpsGiveSame (all_wanted settings.sets) dumps others

-- where both see all their dumps, they have the same paths with the same times in the same order, the same counts, and with the same known
-- relationships the same result in all but its evidence
pub record HaveOneAnswer (settings other : Settings) (taken taken' : Taken) : Type 0 where
  pub paths : paths_taken other taken' ≡ paths_taken settings taken
  pub counts : taken'.counts ≡ taken.counts
  pub results : (known : Option KnownLines) (file file' : ResultFile) → Faithful settings known taken file →
      Faithful other known taken' file' → AreSameButEvidence file file'

abbrev pub ShortLaw : Type 0
ShortLaw =
    (settings other : Settings) (files later : Files) (taken taken' : Taken) → GiveSameRoutes settings other files later →
    seen settings files ≡ Ok taken → seen other later ≡ Ok taken' → HaveOneAnswer settings other taken taken'

-- the limit of paths or that of numbers is met
pub record MeetsLimit (end : DumpsEnd) : Type 0 where
  pub kind : LimitKind
  pub dump : ℕ
  pub of_paths : kind ≢ Bytes
  pub is : end ≡ Limit kind dump

-- where all dumps can be read to their ends, and the one run has an end all the same, both meet a limit of paths or of numbers, maybe not the
-- same, and maybe at another dump
abbrev pub ShortLimitLaw : Type 0
ShortLimitLaw =
    (settings other : Settings) (files later : Files) (end : DumpsEnd) → (same : GiveSameRoutes settings other files later) →
    All IsWhole same.dumps → All IsWhole same.others → seen settings files ≡ Err end →
    MeetsLimit end × ((end' : DumpsEnd) × (seen other later ≡ Err end') × MeetsLimit end')
