-- What a run has seen is of all its dumps.
use Rattle.std.proofs.Common.{◌≡◌, ℕ, ◌+◌, List, [], ◌∷◌, ◌++◌, map, Option, Some, None, Result, Ok, Err, refl, sym, ap, subst, ◌∙◌, append_assoc}
use Rattle.std.specs.List.{All}
use Rattle.std.proofs.lemmas.List.{map_push, append-nil}
use Rattle.std.proofs.lemmas.List.Elements.{All-cons, All-nil}
use Rattle.path_attrs.specs.Fields.{◌>>=◌}
use Rattle.path_clean.specs.declared.cleaned.Sets.{Sets}
use Rattle.path_clean.specs.declared.cleaned.Cleaned.{Cleaned}
use Rattle.path_clean.specs.declared.cleaned.Cleaned.TheVariants.{Path, Aside}
use Rattle.path_clean.specs.Clean.{clean_of}
use Rattle.path_clean.specs.Counts.{counted_one}
use Rattle.tor_io.specs.Contents.{Files}
use Rattle.dump_read.specs.declared.error.LimitKind.{LimitKind}
use Rattle.dump_read.specs.declared.taking.Taken.{Taken}
use Rattle.dump_read.specs.FileLaws.{HoldTogether}
use Rattle.dump_read.specs.Files.{file_counts, together, with_file}
use Rattle.dump_read.specs.declared.file_counts.FileCounts.{FileCounts}
use Rattle.dump_read.specs.Laws.{IsTakenOf, routes_in_files}
use Rattle.dump_read.specs.Reading.{FileEnd, Whole, Broken, TooLong, file_reading}
use Rattle.dump_read.specs.Routes.{Route}
use Rattle.dump_read.specs.Seen.{DumpsEnd, of_end, of_taking, of_file}
use Rattle.dump_read.specs.Taking.{take_cleaned, take_route, take_routes, Takes}
use Rattle.dump_read.proofs.SumLemmas.{together_law}
use Rattle.dump_read.proofs.TakingLemmas.{dumps, path_counted, same_ok}
use Rattle.tor_sample.specs.Records.{sample}
use Rattle.tor_words.specs.declared.settings.Settings.{Settings}
use Rattle.tor_words.specs.declared.job.Job.{Job}
use Rattle.tor_words.specs.declared.job.Job.TheVariants.{Count, Infer, Sample, Migrate, Resume}
use Rattle.tor_words.specs.declared.task.Made.{Made}
use Rattle.tor_words.specs.Given.{dumps_in, dumps_of}
use Rattle.run_base.specs.Reading.{nothing, seen_from}
use Rattle.tor_output.specs.Output.{made_by}
use Rattle.tor_output.specs.Sampling.{sample_of}
use Rattle.tor_output.specs.Seen.{seen_beside, seen_in_sample, seen_of_dumps}
use Rattle.tor_output.specs.SeenLaw.{IsWhole, IsSeenOf, DumpsLaw, SeenLaw, dumps_beside}
use Rattle.dump_read.specs.declared.wanted.Wanted.{Wanted}
use Rattle.dump_read.specs.Wanted.{all_wanted, file_routes}

pub same : (x y : Taken) → ◌≡◌ {A = Result Taken DumpsEnd} (Ok x) (Ok y) → x ≡ y
same x y e = cc

-- ---- routes that are taken in leave the counts of files

kept_by_one : (old new : Taken) (one : Cleaned) → take_cleaned old one ≡ Ok new → new.files ≡ old.files
kept_by_one old new (Path path) e = ap (λ (t : Taken). t.files) (sym (path_counted old new path e))
kept_by_one old new (Aside found) e = ap (λ (t : Taken). t.files) (sym (same_ok (record old { counts = counted_one found old.counts }) new e))

files_kept : (sets : Sets) (routes : List Route) (old new : Taken) → Takes sets old routes new → new.files ≡ old.files
unfolding take_routes
files_kept sets [] old new e = ap (λ (t : Taken). t.files) (sym (same_ok old new e))
files_kept sets (route ∷ routes) old new e = by (take_route sets old route) refl e (λ further. files_kept sets routes further new)
  where
    by : (one : Result Taken LimitKind) → take_route sets old route ≡ one → (one >>= λ further. take_routes sets further routes) ≡ Ok new
        → ((further : Taken) → Takes sets further routes new → new.files ≡ further.files) → new.files ≡ old.files
    by (Ok further) is e rest = rest further e ∙ kept_by_one old further (clean_of sets route.width route.attrs) is
    by (Err kind) is e rest = absurd cc

-- ---- one dump

-- a dump was read to its end, and what it holds is counted behind the others
pub record Adds (wanted : Wanted) (octets : List ℕ) (old new : Taken) : Type 0 where
  pub whole : IsWhole octets
  pub files : new.files ≡ old.files ++ file_counts wanted octets ∷ []

pub adds : (wanted : Wanted) (dump : ℕ) (octets : List ℕ) (old new : Taken) → of_file wanted dump old (Some octets) ≡ Ok new → Adds wanted octets old new
adds wanted dump octets old new e = by (take_routes wanted.sets old (file_routes wanted octets)) refl (file_reading octets).end refl e
  where
    by : (taking : Result Taken LimitKind) → take_routes wanted.sets old (file_routes wanted octets) ≡ taking → (end : FileEnd) → (file_reading octets).end ≡ end
        → (of_taking dump taking >>= λ all. of_end dump end (with_file wanted octets all)) ≡ Ok new → Adds wanted octets old new
    by (Err kind) takes end is e = absurd cc
    by (Ok all) takes (Broken at fault) is e = absurd cc
    by (Ok all) takes TooLong is e = absurd cc
    by (Ok all) takes Whole is e = record {
      whole = is;
      files = ap (λ (t : Taken). t.files) (sym (same (with_file wanted octets all) new e))
          ∙ ap (λ (t : List FileCounts). t ++ file_counts wanted octets ∷ []) (files_kept wanted.sets (file_routes wanted octets) old all takes);
    }

-- ---- all dumps

-- what was seen of the dumps of these octets
record SoFar (wanted : Wanted) (octets : List (List ℕ)) (taken : Taken) : Type 0 where
  routes : IsTakenOf wanted.sets (routes_in_files wanted octets) taken
  files : taken.files ≡ map (file_counts wanted) octets

-- the others are there and whole, and what was seen is of them too
record Further (wanted : Wanted) (before : List (List ℕ)) (given : List (Option (List ℕ))) (new : Taken) : Type 0 where
  octets : List (List ℕ)
  there : given ≡ map Some octets
  whole : All IsWhole octets
  so_far : SoFar wanted (before ++ octets) new

one_more : (wanted : Wanted) (dump : ℕ) (before : List (List ℕ)) (octets : List ℕ) (old new : Taken) → SoFar wanted before old → of_file wanted dump old (Some octets) ≡ Ok new
    → SoFar wanted (before ++ octets ∷ []) new
one_more wanted dump before octets old new so_far e =
    let more = dumps.further wanted dump before (Some octets) old new so_far.routes e in
    record {
      routes = subst (λ (o : List ℕ). IsTakenOf wanted.sets (routes_in_files wanted (before ++ o ∷ [])) new) (sym (one_octets octets more.octets more.there)) more.taken;
      files = (adds wanted dump octets old new e).files ∙ ap (λ (t : List FileCounts). t ++ file_counts wanted octets ∷ []) so_far.files ∙ sym (map_push (file_counts wanted) before octets);
    }
  where
    one_octets : (x y : List ℕ) → ◌≡◌ {A = Option (List ℕ)} (Some x) (Some y) → x ≡ y
    one_octets x y e = cc

rest : (wanted : Wanted) (dump : ℕ) (before names : List (List ℕ)) (files : Files) (old new : Taken) → SoFar wanted before old → seen_from wanted dump old names files ≡ Ok new
    → Further wanted before (map files names) new
rest wanted dump before [] files old new so_far e = record {
  octets = [];
  there = refl;
  whole = All-nil IsWhole;
  so_far = subst (SoFar wanted (before ++ [])) (same old new e) (subst (λ (t : List (List ℕ)). SoFar wanted t old) (sym (append-nil before)) so_far);
}
rest wanted dump before (name ∷ names) files old new so_far e =
    by (files name) (of_file wanted dump old (files name)) refl e (λ octets further. rest wanted (dump + 1) (before ++ octets ∷ []) names files further new)
  where
    by : (file : Option (List ℕ)) (one : Result Taken DumpsEnd) → of_file wanted dump old file ≡ one → (one >>= λ further. seen_from wanted (dump + 1) further names files) ≡ Ok new
        → ((octets : List ℕ) (further : Taken) → SoFar wanted (before ++ octets ∷ []) further → seen_from wanted (dump + 1) further names files ≡ Ok new
        → Further wanted (before ++ octets ∷ []) (map files names) new)
        → Further wanted before (file ∷ map files names) new
    by file (Err end) is e ih = absurd cc
    by None (Ok further) is e ih = absurd cc
    by (Some octets) (Ok further) is e ih =
        let more = ih octets further (one_more wanted dump before octets old further so_far is) e in
        record {
          octets = octets ∷ more.octets;
          there = ap (λ (t : List (Option (List ℕ))). Some octets ∷ t) more.there;
          whole = All-cons IsWhole octets more.octets (adds wanted dump octets old further is).whole more.whole;
          so_far = subst (λ (t : List (List ℕ)). SoFar wanted t new) (append_assoc before (octets ∷ []) more.octets) more.so_far;
        }

-- ---- a run

at_first : (wanted : Wanted) (limit : ℕ) → SoFar wanted [] (nothing limit)
at_first wanted limit = record { routes = dumps.first wanted (nothing limit) (record { rows = refl; counts = refl }); files = refl }

all_seen : (wanted : Wanted) (given : List (Option (List ℕ))) (taken : Taken) → Further wanted [] given taken → IsSeenOf wanted given taken
all_seen wanted given taken all = record {
  octets = all.octets;
  there = all.there;
  whole = all.whole;
  routes = all.so_far.routes;
  files = all.so_far.files;
  held = subst (λ (t : List FileCounts). HoldTogether wanted all.octets (together t)) (sym all.so_far.files) (together_law wanted all.octets);
}

pub dumps_law : DumpsLaw
dumps_law wanted limit names files taken e = all_seen wanted (map files names) taken (rest wanted 1 [] names files (nothing limit) taken (at_first wanted limit) e)

-- a sample is read as one dump that is there

abbrev pub sample_file : ℕ → Files
sample_file seed name = Some (sample seed)

pub as_dump : (settings : Settings) (seed : ℕ) → seen_from (all_wanted settings.sets) 1 (nothing settings.max_paths) ([] ∷ []) (sample_file seed) ≡ seen_in_sample settings seed
as_dump settings seed = by (seen_in_sample settings seed)
  where
    by : (one : Result Taken DumpsEnd) → (one >>= λ further. Ok further) ≡ one
    by (Ok further) = refl
    by (Err end) = refl

pub seen_law : SeenLaw
seen_law settings files taken e = by (sample_of settings.job) e
  where
    by : (o : Option ℕ) → seen_beside o settings (dumps_in settings) files ≡ Ok taken → IsSeenOf (all_wanted settings.sets) (dumps_beside o (dumps_in settings) files) taken
    by None is = dumps_law (all_wanted settings.sets) settings.max_paths (dumps_in settings) files taken is
    by (Some seed) is = dumps_law (all_wanted settings.sets) settings.max_paths ([] ∷ []) (sample_file seed) taken (as_dump settings seed ∙ is)

-- what is made of dumps alone is made of files
pub made_of_files : (job : Job) (made : Made) (settings : Settings) (files : Files) (taken : Taken) → made_by job ≡ Some made
    → seen_beside (sample_of job) settings (dumps_of job) files ≡ Ok taken → seen_of_dumps settings (dumps_of job) files ≡ Ok taken
made_of_files (Count counted dumps) made settings files taken is sees = sees
made_of_files (Infer what given dumps) made settings files taken is sees = sees
made_of_files (Sample seed) made settings files taken is sees = absurd cc
made_of_files (Migrate name) made settings files taken is sees = sees
made_of_files (Resume earlier dumps) made settings files taken is sees = sees
