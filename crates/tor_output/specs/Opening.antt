-- Which files a run of `tor` opens.
use Rattle.std.specs.Prelude.{◌≡◌, [], Option, None, Some}
use Rattle.tor_words.specs.declared.settings.Settings.{Settings}
use Rattle.tor_words.specs.declared.job.Job.{Job}
use Rattle.tor_words.specs.declared.job.Job.TheVariants.{Count, Infer, Sample, Migrate, Resume}
use Rattle.run_base.specs.Opening.{Named, FilesEnd, EndedAt, RefusalEnds}
use Rattle.tor_output.specs.declared.unwritten.Unwritten.{Unwritten}
use Rattle.tor_output.specs.declared.unwritten.Unwritten.TheVariants as unwritten

-- with `--given` first that file, for `--migrate` the result alone, with `--resume` first the earlier result, and then the dumps; for a
-- sample none
abbrev pub named_by : Job → Option Named
named_by (Count counted dumps) = Some (record { first = None; dumps = dumps })
named_by (Infer made given dumps) = Some (record { first = given; dumps = dumps })
named_by (Sample seed) = None
named_by (Migrate name) = Some (record { first = Some name; dumps = [] })
named_by (Resume earlier dumps) = Some (record { first = Some earlier; dumps = dumps })

abbrev pub named_in : Settings → Option Named
named_in settings = named_by settings.job

-- where there is no text to write, by the reason
abbrev pub UnwrittenEnds : Unwritten → FilesEnd → Type 0
UnwrittenEnds (unwritten.First file why) end = end ≡ EndedAt 0
UnwrittenEnds (unwritten.BadLine file line) end = end ≡ EndedAt 0
UnwrittenEnds (unwritten.Broken line rule) end = end ≡ EndedAt 0
UnwrittenEnds (unwritten.Refused why) end = RefusalEnds why end

-- the file that is read first gave nothing for this
abbrev pub IsAtFirst : Unwritten → Type 0
IsAtFirst u = UnwrittenEnds u (EndedAt 0)
