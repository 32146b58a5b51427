-- The settings that words give are within their bounds.
use Rattle.std.proofs.Common.{◌≡◌, ℕ, ◌≤◌, Bool, true, false, List, [], ◌∷◌, refl, subst, arith}
use Rattle.std.specs.Prelude.{Option, Some, None, option_map, option_and_then, if◌then◌else◌, codes}
use Rattle.std.specs.Str.Parse.{digits_value, without_leading_plus}
use Rattle.clap.specs.ValueTests.{is_unsigned_in}
use Rattle.clap.specs.Words.{Kinds, Row, Text, first_of, fault_of, matches_of}
use Rattle.clap.specs.declared.builder.value_parser.ValueParser.TheVariants as vp
use Rattle.clap.proofs.ValueTestLemmas.{accepts-Accepts}
use Rattle.path_clean.specs.declared.cleaned.Sets.{Sets}
use Rattle.path_order.specs.declared.choice.Order.{Order}
use Rattle.tor_words.specs.declared.job.Job.{Job}
use Rattle.tor_words.specs.declared.job.Job.TheVariants.{Count, Infer, Sample, Migrate, Resume}
use Rattle.tor_words.specs.declared.settings.Settings.{Settings}
use Rattle.tor_words.specs.declared.task.Counted.{Counted}
use Rattle.tor_words.specs.declared.task.Made.{Made}
use Rattle.tor_words.specs.declared.task.Task.{Task}
use Rattle.tor_words.specs.declared.task.Task.TheVariants as task
use Rattle.tor_words.specs.Given.{number_in, number_or, order_or_seen, sets_or_cut, task_in, top_or_none, names_in, counting, inferring, sampling, migrating, resuming}
use Rattle.tor_words.specs.Given.{job_of, job_in, refuses, settings_in, HasDumps, AreBounded, BoundsLaw, settings_given, unless_fault}
use Rattle.tor_words.specs.TorCommand.{tor_command}

abbrev within : ℕ → ℕ → ℕ → Type 0
within low high n = (low ≤ n) × (n ≤ high)

within_in : (low high n : ℕ) (text : Text) → number_in low high text ≡ Some n → within low high n
within_in low high n text is = by (is_unsigned_in low high text) (λ e. let all = accepts-Accepts false (vp.Unsigned low high) text e in (all.2, all.3)) is
  where
    number : ℕ
    number = digits_value 10 (without_leading_plus text)

    by : (b : Bool) → (b ≡ true → within low high number) → (if b then Some number else None) ≡ Some n → within low high n
    by true all e = let same : number ≡ n = cc in subst (within low high) same (all refl)
    by false all e = absurd cc

within_or : (low high default n : ℕ) (text : Option Text) → low ≤ default → default ≤ high → number_or low high default text ≡ Some n → within low high n
within_or low high default n None le ge is = let same : default ≡ n = cc in subst (within low high) same (le, ge)
within_or low high default n (Some text) le ge is = within_in low high n text is

-- ---- the dumps of a job

counts_some : (counted : Counted) (names : List Text) (job : Job) → counting counted names ≡ Some job → HasDumps job
counts_some counted [] job is = absurd cc
counts_some counted (dump ∷ dumps) job is = let same : Count counted (dump ∷ dumps) ≡ job = cc in subst HasDumps same (omega arith)

infers_some : (made : Made) (given : Option Text) (names : List Text) (job : Job) → inferring made given names ≡ Some job → HasDumps job
infers_some made given [] job is = absurd cc
infers_some made given (dump ∷ dumps) job is = let same : Infer made given (dump ∷ dumps) ≡ job = cc in subst HasDumps same (omega arith)

samples : (sample : Option Text) (names : List Text) (job : Job) → sampling sample names ≡ Some job → HasDumps job
samples None names job is = absurd cc
samples (Some text) [] job is = by (number_in 0 18446744073709551615 text) is
  where
    by : (n : Option ℕ) → option_map Sample n ≡ Some job → HasDumps job
    by None e = absurd cc
    by (Some seed) e = let same : Sample seed ≡ job = cc in subst HasDumps same tt
samples (Some text) (name ∷ names) job is = absurd cc

migrates : (names : List Text) (job : Job) → migrating names ≡ Some job → HasDumps job
migrates [] job is = absurd cc
migrates (result ∷ []) job is = let same : Migrate result ≡ job = cc in subst HasDumps same tt
migrates (result ∷ other ∷ names) job is = absurd cc

resumes_some : (earlier : Option Text) (names : List Text) (job : Job) → resuming earlier names ≡ Some job → HasDumps job
resumes_some None names job is = absurd cc
resumes_some (Some earlier) [] job is = absurd cc
resumes_some (Some earlier) (dump ∷ dumps) job is = let same : Resume earlier (dump ∷ dumps) ≡ job = cc in subst HasDumps same (omega arith)

has_dumps : (rows : List Row) (task : Task) (names : List Text) (job : Job) → job_of rows task names ≡ Some job → HasDumps job
has_dumps rows (task.Count counted) names job is = counts_some counted names job is
has_dumps rows (task.Infer made) names job is = infers_some made (first_of (codes "given") rows) names job is
has_dumps rows task.Sample names job is = samples (first_of (codes "sample") rows) names job is
has_dumps rows task.Migrate names job is = migrates names job is
has_dumps rows task.Resume names job is = resumes_some (first_of (codes "resume") rows) names job is

unrefused : (b : Bool) (o : Option Job) (job : Job) → (if b then None else o) ≡ Some job → o ≡ Some job
unrefused true o job is = absurd cc
unrefused false o job is = is

-- ---- settings

abbrev made : Sets → Order → Option (List ℕ) → (ratio most : ℕ) → Job → Settings
made sets order top ratio most job = record { job = job; sets = sets; order = order; top = top; ratio = ratio; max_paths = most }

module _ (rows : List Row) (settings : Settings) where
  of_values : (task : Option Task) (sets : Option Sets) (ratio most : Option ℕ) (order : Option Order) (top : Option (Option (List ℕ))) → ((n : ℕ) → ratio ≡ Some n → within 0 1000000 n) → ((n : ℕ) → most ≡ Some n → within 1 8388608 n)
      → option_and_then (λ t. option_and_then (λ s. option_and_then (λ r.
      option_and_then (λ p.
      option_and_then (λ o. option_and_then (λ q. option_map (made s o q r p) (job_in rows t)) top) order) most) ratio) sets) task ≡ Some settings
      → AreBounded settings
  of_values None sets ratio most order top r p e = absurd cc
  of_values (Some task) None ratio most order top r p e = absurd cc
  of_values (Some task) (Some sets) None most order top r p e = absurd cc
  of_values (Some task) (Some sets) (Some ratio) None order top r p e = absurd cc
  of_values (Some task) (Some sets) (Some ratio) (Some most) None top r p e = absurd cc
  of_values (Some task) (Some sets) (Some ratio) (Some most) (Some order) None r p e = absurd cc
  of_values (Some task) (Some sets) (Some ratio) (Some most) (Some order) (Some top) r p e = by (job_in rows task) refl e
    where
      by : (o : Option Job) → job_in rows task ≡ o → option_map (made sets order top ratio most) o ≡ Some settings → AreBounded settings
      by None is e = absurd cc
      by (Some job) is e =
          let same : made sets order top ratio most job ≡ settings = cc in
          let named = has_dumps rows task (names_in rows) job (unrefused (refuses rows task) (job_of rows task (names_in rows)) job is) in
          subst AreBounded same (record { ratio = (r ratio refl).1; some = (p most refl).0; most = (p most refl).1; named = named })

  bounds_in : settings_in rows ≡ Some settings → AreBounded settings
  bounds_in is =
      of_values (task_in rows) (sets_or_cut (first_of (codes "as-sets") rows))
      (number_or 0 1000000 60 (first_of (codes "ratio") rows)) (number_or 1 8388608 8388608 (first_of (codes "max-paths") rows)) (order_or_seen (first_of (codes "order") rows)) (top_or_none (first_of (codes "top") rows))
      (λ n e. within_or 0 1000000 60 n (first_of (codes "ratio") rows) (omega arith) (omega arith) e)
      (λ n e. within_or 1 8388608 8388608 n (first_of (codes "max-paths") rows) (omega arith) (omega arith) e) is

unfaulted : {X : Type 0} (faults : Kinds) (o : Option X) (x : X) → unless_fault faults o ≡ Some x → o ≡ Some x
unfaulted [] o x e = e
unfaulted (kind ∷ kinds) o x e = absurd cc

pub bounds : BoundsLaw
unfolding settings_given
bounds words settings is = bounds_in (matches_of tor_command words) settings (unfaulted (fault_of tor_command words) (settings_in (matches_of tor_command words)) settings is)
