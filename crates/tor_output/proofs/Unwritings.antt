-- Why there is no text, and the note then.
use Rattle.std.proofs.Common.{◌≡◌, ◌≤◌, inl, inr, ℕ, List, [], length, Option, Some, None, Result, Ok, refl, sym, ap, subst, ◌∙◌}
use Rattle.std.specs.Prelude.{IfSome, ⊤}
use Rattle.tor_io.specs.Contents.{Files}
use Rattle.as_rel.specs.declared.givens.KnownLines.{KnownLines}
use Rattle.dump_read.specs.declared.error.DumpError.{DumpError}
use Rattle.dump_read.specs.declared.error.DumpError.TheVariants as error
use Rattle.dump_read.specs.declared.taking.Taken.{Taken}
use Rattle.dump_read.specs.Seen.{DumpsEnd}
use Rattle.rel_infer.specs.SelfAcceptance.{AreTableRows}
use Rattle.result_text.specs.declared.file.ResultFile.{ResultFile}
use Rattle.result_text.specs.Grammar.{IsTextOf, IsBadLine}
use Rattle.result_file.specs.FileText.{IsRead, AreOf}
use Rattle.result_rules.specs.declared.verdict.Verdict.TheVariants.{No}
use Rattle.tor_words.specs.declared.job.Job.{Job}
use Rattle.tor_words.specs.declared.job.Job.TheVariants.{Sample}
use Rattle.tor_words.specs.declared.settings.Settings.{Settings}
use Rattle.tor_words.specs.Given.{dumps_in, dumps_of}
use Rattle.run_base.specs.declared.answer.Refusal.{Refusal}
use Rattle.run_base.specs.declared.answer.Refusal.TheVariants as refusal
use Rattle.run_base.specs.declared.notes.FirstFile.TheVariants as first
use Rattle.run_base.specs.Opening.{FilesEnd, OpensInOrder}
use Rattle.tor_output.specs.declared.unwritten.Unwritten.{Unwritten}
use Rattle.tor_output.specs.declared.unwritten.Unwritten.TheVariants as unwritten
use Rattle.tor_output.specs.Before.{AreGivensGood, HasNoEndBefore, JoinsBefore}
use Rattle.tor_output.specs.First.{Earlier, BadLine, Broken, AreGivens, TakesUp}
use Rattle.tor_output.specs.First.{AreSomeGivens, AreSound, HoldsResult, IsSomeResult, TakesUpSome, EndsAtFirst, first_in, first_of}
use Rattle.tor_output.specs.First.{Result as ResultAt}
use Rattle.tor_output.specs.Opening.{named_by, named_in}
use Rattle.tor_output.specs.Output.{IsMigrated, IsSummedUp, IsOutput, IsOutputIn, IsOutputOf, IsOutputOnEarlier, IsOutputOnSome}
use Rattle.tor_output.specs.Reach.{IsFirstInReach, StopsDumpsInReach, IsUnwrittenInReach}
use Rattle.result_file.specs.Ruled.{BreaksRule, IsAccepted}
use Rattle.result_file.specs.Limits.{max_result}
use Rattle.tor_output.specs.Refusals.{AreGivensIn, TakesUpIn, EndsSeen, FirstEnds, StopsAt, IsStopAt}
use Rattle.tor_output.specs.Refusals.{IsUnwrittenAtFirst, IsUnwrittenIn}
use Rattle.tor_output.specs.Sampling.{BySample, known_beside, known_in, no_files, sample_of}
use Rattle.tor_output.specs.Seen.{Outcome, Reads, Joins, Holds, Ends, ComesTo, ComesOfSome, IsSeenBeside, joined, seen_beside, seen_in_sample}
use Rattle.tor_output.specs.Written.{Written}
use Rattle.tor_output.proofs.Sampled.{all_known}

-- ---- why reading stopped, where a shelf is steady only if it was before

weaker : (see : List (List ℕ) → Files → Result Taken DumpsEnd) (dumps : List (List ℕ)) (known : Option Files) (steady later : Type 0) (dump : ℕ) (e : DumpError) → (steady → later)
    → StopsAt see dumps known later dump e → StopsAt see dumps known steady dump e
weaker see dumps known steady later dump (error.Malformed place fault) on stops = stops
weaker see dumps known steady later dump (error.Limit kind) on stops = stops
weaker see dumps known steady later dump error.ReadFault on stops = (stops.0, stops.1, stops.2, λ held. stops.3 (on held))
weaker see dumps known steady later dump error.NoMemory on stops = tt

-- ---- a job: what it writes, why it writes nothing, how far it read, and what it opened

module _ (settings : Settings) (job : Job) (is : settings.job ≡ job) where
  -- of what is known and of dumps
  module _ (givens : Option KnownLines) (output : Written) where
    abbrev Made : Files → Type 0
    Made files = (taken : Taken) × (seen_beside (sample_of job) settings (dumps_of job) files ≡ Ok taken) × IsOutputIn job settings givens taken output

    pub made : (mid known : Option Files) → mid ≡ known → AreGivensIn (first_of job) known givens → IfSome mid Made → IfSome known (λ files. IsOutputOf settings files output)
    made mid known same are m = by known are (subst (λ (o : Option Files). IfSome o Made) same m)
      where
        by : (o : Option Files) → AreGivensIn (first_of job) o givens → IfSome o Made → IfSome o (λ files. IsOutputOf settings files output)
        by None are m = tt
        by (Some files) are m = (
          Reads givens m.0,
          (
            subst (λ (j : Job). AreGivens (first_of j) files givens) (sym is) are,
            subst (λ (j : Job). seen_beside (sample_of j) settings (dumps_of j) files ≡ Ok m.0) (sym is) m.1,
          ),
          subst (λ (j : Job). IsOutputIn j settings givens m.0 output) (sym is) m.2,
        )

    pub made_some : AreSomeGivens (first_of job) givens → AreSound givens
        → ((taken : Taken) × IsSeenBeside (sample_of job) settings (dumps_of job) taken × AreTableRows taken.table.rows × IsOutputIn job settings givens taken output)
        → (outcome : Outcome) × ComesOfSome settings outcome × IsOutput settings outcome output
    made_some some sound m = (
      Reads givens m.0,
      (
        subst (λ (j : Job). AreSomeGivens (first_of j) givens) (sym is) some,
        subst (λ (j : Job). IsSeenBeside (sample_of j) settings (dumps_of j) m.0) (sym is) m.1,
        m.2,
        sound,
      ),
      subst (λ (j : Job). IsOutputIn j settings givens m.0 output) (sym is) m.3,
    )

  -- of a result
  pub held : (known : Option Files) (file : ResultFile) (output : Written) → IfSome known (λ files. HoldsResult (first_of job) files file) → IsMigrated file output
      → IfSome known (λ files. IsOutputOf settings files output)
  held None file output holds m = tt
  held (Some files) file output holds m = (Holds file, subst (λ (j : Job). HoldsResult (first_of j) files file) (sym is) holds, m)

  pub held_some : (file : ResultFile) (output : Written) → IsSomeResult (first_of job) file → IsMigrated file output
      → (outcome : Outcome) × ComesOfSome settings outcome × IsOutput settings outcome output
  held_some file output some m = (Holds file, subst (λ (j : Job). IsSomeResult (first_of j) file) (sym is) some, m)

  -- of dumps on top of a result
  pub taken_made : (mid known : Option Files) (earlier : ResultFile) (output : Written) → mid ≡ known → TakesUpIn (first_of job) known earlier
      → IfSome mid (λ files. IsOutputOnEarlier settings earlier files output) → IfSome known (λ files. IsOutputOf settings files output)
  taken_made mid known earlier output same takes m = by known takes (subst (λ (o : Option Files). IfSome o (λ files. IsOutputOnEarlier settings earlier files output)) same m)
    where
      by : (o : Option Files) → TakesUpIn (first_of job) o earlier → IfSome o (λ files. IsOutputOnEarlier settings earlier files output) → IfSome o (λ files. IsOutputOf settings files output)
      by None t w = tt
      by (Some files) t w = (Joins earlier w.0, (subst (λ (j : Job). TakesUp (first_of j) files earlier) (sym is) t, w.1), w.2)

  pub taken_some : (earlier : ResultFile) (output : Written) → TakesUpSome (first_of job) earlier → IsOutputOnSome settings earlier output
      → (outcome : Outcome) × ComesOfSome settings outcome × IsOutput settings outcome output
  taken_some earlier output some m = (Joins earlier m.0, (subst (λ (j : Job). TakesUpSome (first_of j) earlier) (sym is) some, m.1, m.2, m.3), m.4)

  -- the reading of dumps stopped, behind what is known
  pub dumps_refused : (mid known : Option Files) (steady later : Type 0) (givens : Option KnownLines) (r : Refusal) → mid ≡ known → (steady → later) → AreGivensIn (first_of job) known givens
      → IsStopAt (seen_beside (sample_of job) settings) (dumps_of job) mid later r → IsUnwrittenIn settings known steady (unwritten.Refused r)
  dumps_refused mid known steady later givens (refusal.Words w) same on are h = absurd h
  dumps_refused mid known steady later givens (refusal.Dumps stopped) same on are h = inl (
    all_known known (λ files. AreGivens (first_of job) files givens) (λ files. (gs : Option KnownLines) × AreGivens (first_in settings) files gs)
        (λ files a. (givens, subst (λ (j : Job). AreGivens (first_of j) files givens) (sym is) a)) are,
    weaker (seen_beside (sample_of settings.job) settings) (dumps_in settings) known steady later stopped.dump stopped.error on
        (subst (λ (j : Job). StopsAt (seen_beside (sample_of j) settings) (dumps_of j) known later stopped.dump stopped.error) (sym is)
        (subst (λ (o : Option Files). StopsAt (seen_beside (sample_of job) settings) (dumps_of job) o later stopped.dump stopped.error) same h)),
  )
  dumps_refused mid known steady later givens refusal.NoMemory same on are h = tt

  -- and on top of a result
  pub taken_refused : (mid known : Option Files) (steady later : Type 0) (earlier : ResultFile) (r : Refusal) → mid ≡ known → (steady → later) → TakesUpIn (first_of job) known earlier
      → IsStopAt (joined earlier settings.max_paths) (dumps_in settings) mid later r → IsUnwrittenIn settings known steady (unwritten.Refused r)
  taken_refused mid known steady later earlier (refusal.Words w) same on takes h = absurd h
  taken_refused mid known steady later earlier (refusal.Dumps stopped) same on takes h = inr (
    earlier,
    subst (λ (j : Job). TakesUpIn (first_of j) known earlier) (sym is) takes,
    weaker (joined earlier settings.max_paths) (dumps_in settings) known steady later stopped.dump stopped.error on
        (subst (λ (o : Option Files). StopsAt (joined earlier settings.max_paths) (dumps_in settings) o later stopped.dump stopped.error) same h),
  )
  taken_refused mid known steady later earlier refusal.NoMemory same on takes h = tt

  -- the file that is read first gives nothing
  module _ (known : Option Files) (steady : Type 0) (left : Option (List ℕ)) where
    pub first_unwritten : (u : Unwritten) → IsUnwrittenAtFirst (first_of job) known steady u → IsUnwrittenIn settings known steady u
    first_unwritten u h = by u (subst (λ (j : Job). IsUnwrittenAtFirst (first_of j) known steady u) (sym is) h)
      where
        by : (v : Unwritten) → IsUnwrittenAtFirst (first_in settings) known steady v → IsUnwrittenIn settings known steady v
        by (unwritten.First file why) w = w
        by (unwritten.BadLine file line) w = w
        by (unwritten.Broken line rule) w = w
        by (unwritten.Refused (refusal.Words o)) w = absurd w
        by (unwritten.Refused (refusal.Dumps stopped)) w = absurd w
        by (unwritten.Refused refusal.NoMemory) w = tt

    pub first_reach : (u : Unwritten) → IsUnwrittenAtFirst (first_of job) known steady u → IsFirstInReach (first_of job) known left u → IsUnwrittenInReach settings known left u
    first_reach u h reach = by u h (subst (λ (j : Job). IsFirstInReach (first_of j) known left u) (sym is) reach)
      where
        by : (v : Unwritten) → IsUnwrittenAtFirst (first_of job) known steady v → IsFirstInReach (first_in settings) known left v → IsUnwrittenInReach settings known left v
        by (unwritten.First file why) w r = r
        by (unwritten.BadLine file line) w r = r
        by (unwritten.Broken line rule) w r = r
        by (unwritten.Refused (refusal.Words o)) w r = absurd w
        by (unwritten.Refused (refusal.Dumps stopped)) w r = absurd w
        by (unwritten.Refused refusal.NoMemory) w r = tt

  -- it leaves what is known of the files, and the dumps are read behind it
  pub reach_behind : (mid known : Option Files) (left : Option (List ℕ)) (r : Refusal) → mid ≡ known → BySample (sample_of job) ⊤ (StopsDumpsInReach (dumps_of job) mid left r)
      → IsUnwrittenInReach settings known left (unwritten.Refused r)
  reach_behind mid known left (refusal.Words w) same h = tt
  reach_behind mid known left (refusal.Dumps stopped) same h =
      inr (subst (λ (j : Job). BySample (sample_of j) ⊤ (StopsDumpsInReach (dumps_of j) known left (refusal.Dumps stopped))) (sym is)
      (subst (λ (o : Option Files). BySample (sample_of job) ⊤ (StopsDumpsInReach (dumps_of job) o left (refusal.Dumps stopped))) same h))
  reach_behind mid known left refusal.NoMemory same h = tt

  pub opens : (Such : FilesEnd → Type 0) (before after : List (List ℕ)) → OpensInOrder (named_by job) Such before after → OpensInOrder (named_in settings) Such before after
  opens Such before after h = subst (λ (j : Job). OpensInOrder (named_by j) Such before after) (sym is) h

-- the same of the sample, of which all is known
module _ (settings : Settings) (seed : ℕ) (is : settings.job ≡ Sample seed) (known : Option Files) where
  all_known_of : Some no_files ≡ known_in settings known
  all_known_of = ap (λ (j : Job). known_beside (sample_of j) known) (sym is)

  pub sample_made : (output : Written)
      → ((taken : Taken) × (seen_in_sample settings seed ≡ Ok taken) × AreTableRows taken.table.rows × IsSummedUp settings None taken output)
      → IfSome (known_in settings known) (λ files. IsOutputOf settings files output)
  sample_made output m =
      subst (λ (o : Option Files). IfSome o (λ files. IsOutputOf settings files output)) all_known_of
      (made settings (Sample seed) is None output (Some no_files) (Some no_files) refl tt (m.0, m.1, m.3))

  pub sample_refused : (steady : Type 0) (r : Refusal) → IsStopAt (seen_beside (Some seed) settings) [] (Some no_files) ⊤ r
      → IsUnwrittenIn settings (known_in settings known) steady (unwritten.Refused r)
  sample_refused steady r h =
      subst (λ (o : Option Files). IsUnwrittenIn settings o steady (unwritten.Refused r)) all_known_of
      (dumps_refused settings (Sample seed) is (Some no_files) (Some no_files) steady ⊤ None r refl (λ held. tt) tt h)

-- ---- the file that is read first

-- the file that was read holds the text of this result
pub result_held : (known : Option Files) (name read : List ℕ) (file : ResultFile) → read ≡ name → IsRead max_result (AreOf known read) (IsTextOf file)
    → IfSome known (λ files. HoldsResult (ResultAt name) files file)
result_held None name read file same r = tt
result_held (Some files) name read file same r = (r.octets, record { there = ap files (sym same) ∙ r.stand; short = r.short }, r.such)

-- the file that was read holds these octets, and this is their bad line
pub result_bad : (known : Option Files) (name read bytes : List ℕ) (line : ℕ) → read ≡ name → IfSome known (λ files. files read ≡ Some bytes) → length bytes ≤ max_result → IsBadLine line bytes
    → FirstEnds (ResultAt name) known first.Result (BadLine line)
result_bad None name read bytes line same there short bad = (refl, tt)
result_bad (Some files) name read bytes line same there short bad = (refl, (bytes, record { there = ap files (sym same) ∙ there; short = short }, bad))

-- the same of a result that is taken up, and of one that breaks a rule
pub earlier_held : (known : Option Files) (name read bytes : List ℕ) (file : ResultFile) → read ≡ name → IfSome known (λ files. files read ≡ Some bytes) → length bytes ≤ max_result
    → IsAccepted file bytes → TakesUpIn (Earlier name) known file
earlier_held None name read bytes file same there short accepted = tt
earlier_held (Some files) name read bytes file same there short accepted = (bytes, record { there = ap files (sym same) ∙ there; short = short }, accepted)

pub earlier_broken : (known : Option Files) (name read bytes : List ℕ) (line rule : ℕ) → read ≡ name → IfSome known (λ files. files read ≡ Some bytes) → length bytes ≤ max_result
    → BreaksRule bytes (No line rule) → IfSome known (λ files. EndsAtFirst (Earlier name) files (Broken line rule))
earlier_broken None name read bytes line rule same there short broken = tt
earlier_broken (Some files) name read bytes line rule same there short broken = (bytes, record { there = ap files (sym same) ∙ there; short = short }, broken)

-- ---- what the words and the files give, where these are known

pub end_comes : (settings : Settings) (known : Option Files) (end : DumpsEnd) → AreGivensGood settings known
    → EndsSeen (seen_beside (sample_of settings.job) settings) (dumps_in settings) known end → IfSome known (λ files. ComesTo settings files (Ends end))
end_comes settings None end are ends = tt
end_comes settings (Some files) end are ends = inl (are.0, are.1, ends)

pub end_comes_on : (settings : Settings) (known : Option Files) (file : ResultFile) (end : DumpsEnd) → TakesUpIn (first_in settings) known file
    → EndsSeen (joined file settings.max_paths) (dumps_in settings) known end → IfSome known (λ files. ComesTo settings files (Ends end))
end_comes_on settings None file end takes ends = tt
end_comes_on settings (Some files) file end takes ends = inr (file, takes, ends)

pub joins_before : (settings : Settings) (known : Option Files) (file : ResultFile) (dump : ℕ) → TakesUpIn (first_in settings) known file
    → IfSome known (λ files. HasNoEndBefore (joined file settings.max_paths) (dumps_in settings) files dump) → JoinsBefore settings known dump
joins_before settings None file dump takes before = tt
joins_before settings (Some files) file dump takes before = (file, takes, before)
