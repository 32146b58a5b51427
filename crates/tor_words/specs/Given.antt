-- The settings that words give.
use Rattle.std.specs.Prelude.{◌≡◌, ℕ, ◌<◌, ◌≤◌, Bool, true, false, List, [], ◌∷◌, length, Option, Some, None, ⊤}
use Rattle.std.specs.Prelude.{is_some, option_map, option_and_then, unwrap_or, if◌then◌else◌, codes}
use Rattle.std.specs.List.{list_any}
use Rattle.std.specs.Str.{bytes_eq}
use Rattle.std.specs.Str.Parse.{digits_value, without_leading_plus}
use Rattle.clap.specs.ValueTests.{is_unsigned_in}
use Rattle.clap.specs.Words.{Kinds, Row, Text, all_of, first_of, fault_of, matches_of}
use Rattle.tor_arena.specs.Limits.{max_paths, max_ratio}
use Rattle.path_clean.specs.declared.cleaned.Sets.{Sets}
use Rattle.path_clean.specs.declared.cleaned.Sets.TheVariants.{Cut, Skip}
use Rattle.path_order.specs.declared.choice.Order.{Order}
use Rattle.path_order.specs.declared.choice.Order.TheVariants.{Seen, Short}
use Rattle.tor_words.specs.declared.job.Job.{Job}
use Rattle.tor_words.specs.declared.job.Job.TheVariants.{Count, Infer, Sample, Migrate, Resume}
use Rattle.tor_words.specs.declared.settings.Settings.{Settings}
use Rattle.tor_words.specs.declared.task.Counted.{Counted}
use Rattle.tor_words.specs.declared.task.Counted.TheVariants.{Listing, Survey}
use Rattle.tor_words.specs.declared.task.Made.{Made}
use Rattle.tor_words.specs.declared.task.Made.TheVariants as made
use Rattle.tor_words.specs.declared.task.Task.{Task}
use Rattle.tor_words.specs.declared.task.Task.TheVariants as task
use Rattle.tor_words.specs.AsLists.{as_list}
use Rattle.tor_words.specs.TorCommand.{tor_command}

-- ---- values

-- the number that a text names, if it is one within the bounds
abbrev pub number_in : ℕ → ℕ → Text → Option ℕ
number_in low high text =
    if is_unsigned_in low high text then Some (digits_value 10 (without_leading_plus text)) else None

-- the number of an AS or of a path
abbrev pub short_number : Text → Option ℕ
short_number text = number_in 0 4294967295 text

-- the number that a text names within the bounds, or the default where the option isn't there
abbrev pub number_or : ℕ → ℕ → ℕ → Option Text → Option ℕ
number_or low high default None = Some default
number_or low high default (Some text) = number_in low high text

-- what becomes of sets: `cut` or `skip`, and cut where the option isn't there
abbrev pub sets_or_cut : Option Text → Option Sets
sets_or_cut None = Some Cut
sets_or_cut (Some text) =
    if bytes_eq text (codes "cut") then Some Cut
    else if bytes_eq text (codes "skip") then Some Skip else None

-- in which order distinct paths are taken: `seen` or `short`, and as seen where the option isn't there
abbrev pub order_or_seen : Option Text → Option Order
order_or_seen None = Some Seen
order_or_seen (Some text) =
    if bytes_eq text (codes "seen") then Some Seen
    else if bytes_eq text (codes "short") then Some Short else None

-- the networks that buy transit from nobody, if they are named
abbrev pub top_or_none : Option Text → Option (Option (List ℕ))
top_or_none None = Some None
top_or_none (Some text) = option_map Some (as_list text)

-- whether a flag is set
abbrev pub is_true_text : Option Text → Bool
is_true_text None = false
is_true_text (Some text) = bytes_eq text (codes "true")

-- ---- what clap found

-- the names behind the options, in the order of the words
abbrev pub names_in : List Row → List Text
names_in rows = unwrap_or (all_of (codes "dump") rows) []

abbrev pub has_flag : Text → List Row → Bool
has_flag name rows = is_true_text (first_of name rows)

-- whether the option is there
abbrev pub has_option : Text → List Row → Bool
has_option name rows = is_some (first_of name rows)

-- ---- what is asked for

-- a task before others, if it is asked for
abbrev pub with_asked : Bool → Task → List Task → List Task
with_asked true task tasks = task ∷ tasks
with_asked false task tasks = tasks

-- what is asked for, where it is one thing at most
abbrev pub alone : List Task → Option (Option Task)
alone [] = Some None
alone (task ∷ []) = Some (Some task)
alone (task ∷ other ∷ tasks) = None

-- what is asked for in place of the result: with `--list` the list of the paths, with `--survey` what the dumps hold, with `--ties` the
-- ties of the open edges, with `--ask` what each of them would settle, with `--serial1` the labels as lines of serial-1, with `--sample` the summary of the result over a sample,
-- with `--migrate` a result in the text of version 2, and with `--resume` the result of dumps on top of an earlier one
abbrev pub asked_in : List Row → List Task
asked_in rows =
    with_asked (has_flag (codes "list") rows) (task.Count Listing)
    (with_asked (has_flag (codes "survey") rows) (task.Count Survey)
    (with_asked (has_flag (codes "ties") rows) (task.Infer made.Ties)
    (with_asked (has_flag (codes "ask") rows) (task.Infer made.Asks)
    (with_asked (has_flag (codes "serial1") rows) (task.Infer made.Serial)
    (with_asked (has_option (codes "sample") rows) task.Sample
    (with_asked (has_flag (codes "migrate") rows) task.Migrate
    (with_asked (has_option (codes "resume") rows) task.Resume [])))))))

-- what is asked for: the result, or something in its place, which is one thing at most
abbrev pub task_in : List Row → Option Task
task_in rows = option_map (λ asked. unwrap_or asked (task.Infer made.Result)) (alone (asked_in rows))

-- the options that a task refuses, of those that not every task takes: a file of known relationships binds only what is made of dumps alone,
-- and what is known of the top also what is made on top of an earlier result
abbrev pub refused_by : Task → List Text
refused_by (task.Infer made) = []
refused_by task.Resume = codes "given" ∷ []
refused_by _ = codes "given" ∷ codes "top" ∷ []

-- whether one of these is there
abbrev pub refuses : List Row → Task → Bool
refuses rows task = list_any (λ name. has_option name rows) (refused_by task)

-- ---- jobs: a task over the files that it needs, where these are named, and no others

abbrev pub counting : Counted → List Text → Option Job
counting counted [] = None
counting counted (dump ∷ dumps) = Some (Count counted (dump ∷ dumps))

abbrev pub inferring : Made → (given : Option Text) → List Text → Option Job
inferring made given [] = None
inferring made given (dump ∷ dumps) = Some (Infer made given (dump ∷ dumps))

-- a sample is named by its number
abbrev pub sampling : Option Text → List Text → Option Job
sampling None names = None
sampling (Some text) [] = option_map Sample (number_in 0 18446744073709551615 text)
sampling (Some text) (name ∷ names) = None

abbrev pub migrating : List Text → Option Job
migrating [] = None
migrating (result ∷ []) = Some (Migrate result)
migrating (result ∷ other ∷ names) = None

abbrev pub resuming : (earlier : Option Text) → List Text → Option Job
resuming None names = None
resuming (Some earlier) [] = None
resuming (Some earlier) (dump ∷ dumps) = Some (Resume earlier (dump ∷ dumps))

abbrev pub job_of : List Row → Task → List Text → Option Job
job_of rows (task.Count counted) names = counting counted names
job_of rows (task.Infer made) names = inferring made (first_of (codes "given") rows) names
job_of rows task.Sample names = sampling (first_of (codes "sample") rows) names
job_of rows task.Migrate names = migrating names
job_of rows task.Resume names = resuming (first_of (codes "resume") rows) names

-- the job that these matches ask for with a task, where it refuses none of them
abbrev pub job_in : List Row → Task → Option Job
job_in rows task = if refuses rows task then None else job_of rows task (names_in rows)

-- ---- settings

-- the settings that these matches give, if they ask for something and their values are some
abbrev pub settings_in : List Row → Option Settings
settings_in rows =
    option_and_then (λ task.
    option_and_then (λ sets.
    option_and_then (λ ratio.
    option_and_then (λ most.
    option_and_then (λ order.
    option_and_then (λ top.
    option_map (λ job. record { job = job; sets = sets; order = order; top = top; ratio = ratio; max_paths = most })
    (job_in rows task))
    (top_or_none (first_of (codes "top") rows)))
    (order_or_seen (first_of (codes "order") rows)))
    (number_or 1 max_paths max_paths (first_of (codes "max-paths") rows)))
    (number_or 0 max_ratio 60 (first_of (codes "ratio") rows)))
    (sets_or_cut (first_of (codes "as-sets") rows)))
    (task_in rows)

-- the same where clap finds no fault, and nothing where it does
abbrev pub unless_fault : {X : Type 0} → Kinds → Option X → Option X
unless_fault [] settings = settings
unless_fault (kind ∷ kinds) settings = None

-- the settings that the words give, where clap takes them
unfoldable pub settings_given : List Text → Option Settings
settings_given words = unless_fault (fault_of tor_command words) (settings_in (matches_of tor_command words))

-- ---- what holds of each

-- the dumps that a job reads, in their order
abbrev pub dumps_of : Job → List Text
dumps_of (Count counted dumps) = dumps
dumps_of (Infer made given dumps) = dumps
dumps_of (Sample seed) = []
dumps_of (Migrate result) = []
dumps_of (Resume earlier dumps) = dumps

abbrev pub dumps_in : Settings → List Text
dumps_in settings = dumps_of settings.job

-- dumps are named, at least one, but where a sample or a result is read in their place
abbrev pub HasDumps : Job → Type 0
HasDumps (Sample seed) = ⊤
HasDumps (Migrate result) = ⊤
HasDumps job = 0 < length (dumps_of job)

-- the numbers are within their bounds, and dumps are named where they are read
pub record AreBounded (settings : Settings) : Type 0 where
  pub ratio : settings.ratio ≤ max_ratio
  pub some : 1 ≤ settings.max_paths
  pub most : settings.max_paths ≤ max_paths
  pub named : HasDumps settings.job

abbrev pub BoundsLaw : Type 0
BoundsLaw = (words : List Text) (settings : Settings) → settings_given words ≡ Some settings → AreBounded settings
