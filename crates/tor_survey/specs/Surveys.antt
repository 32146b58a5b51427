-- The survey of dumps.
use Rattle.std.specs.Prelude.{ℕ, length, sum_by}
use Rattle.record_counts.specs.Counting.{Counts, capped, type_counts}
use Rattle.path_table.specs.Rows.{row_paths}
use Rattle.dump_read.specs.declared.taking.Taken.{Taken}
use Rattle.dump_read.specs.Files.{together}
use Rattle.tor_survey.specs.Figures.{figures_of}
use Rattle.tor_survey.specs.declared.survey.Survey.{Survey}

-- how many records there are, of all types
abbrev pub all_records : Counts → ℕ
all_records counts = capped (sum_by (λ count. count.records) (type_counts counts))

-- of what the dumps gave, and of what they hold
abbrev pub survey_of : Taken → Survey
survey_of taken = record {
  types = type_counts (together taken.files).records;
  peers = (together taken.files).peers;
  routes = (together taken.files).routes;
  asides = taken.counts;
  figures = figures_of (row_paths taken.table.rows);
  dumps = length taken.files;
  records = all_records (together taken.files).records;
}
