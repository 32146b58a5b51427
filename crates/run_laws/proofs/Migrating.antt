-- A check comes to the same with the text of a result and with its text of version 2: what the rules read is the same, and the texts are
-- equally long.
use Rattle.std.proofs.Common.{◌≡◌, ◌≤◌, ◌<◌, ◌+◌, inl, inr, ℕ, zero, suc, arith, Bool, true, false, List, [], ◌∷◌, length, Option, Some, None, Ok, Err, Result, is_none, refl, sym, ap, ◌∙◌, subst}
use Rattle.tor_io.specs.Contents.{Files}
use Rattle.path_clean.specs.Counts.{CauseCounts}
use Rattle.path_table.specs.Rows.{Counted}
use Rattle.any_order.specs.AnyOrder.{JudgesInAnyOrder}
use Rattle.relationships.specs.declared.given.Given.{Given}
use Rattle.result_text.specs.declared.file.ResultFile.{ResultFile}
use Rattle.result_text.specs.Grammar.{IsTextOf}
use Rattle.result_text.specs.Text.{its_givens, text}
use Rattle.std.proofs.lemmas.Option.{same_Some}
use Rattle.result_rules.specs.Against.{Agrees, JudgesAgainst}
use Rattle.result_rules.specs.Rules.{Accepts, Asks, BreaksFirst, IsMet, IsRefused, line_for}
use Rattle.result_rules.specs.declared.rule.Rule.{Rule}
use Rattle.result_rules.specs.declared.rule.Rule.TheVariants.{HeadSound, PathsCleaned, PathsDistinct, LostRefuted, EdgesListed}
use Rattle.result_rules.specs.declared.rule.Rule.TheVariants.{LabelsServe, SupportCounted, OrdersShown, MarksBorneOut, TotalsRight}
use Rattle.result_rules.specs.declared.verdict.Verdict.{Verdict}
use Rattle.result_rules.specs.declared.verdict.Verdict.TheVariants.{Yes, No}
use Rattle.path_attrs.specs.Fields.{◌>>=◌}
use Rattle.dump_read.specs.declared.taking.Taken.{Taken}
use Rattle.dump_read.specs.Seen.{DumpsEnd, of_file}
use Rattle.run_base.specs.Reading.{nothing, seen_from}
use Rattle.run_base.specs.WholeFile.{IsLongFile}
use Rattle.tor_arena.specs.Limits.{max_paths}
use Rattle.tor_words.specs.declared.check_settings.CheckSettings.{CheckSettings}
use Rattle.result_file.specs.Limits.{max_result}
use Rattle.result_file.specs.Ruled.{BreaksRule}
use Rattle.run_base.specs.Programs.{Outcome, Makes, NoFile, TooLong, BadLine, Breaks, Lacks, Ends, HasOctets}
use Rattle.torcheck_run.specs.declared.judging.Judged.{Judged}
use Rattle.torcheck_run.specs.declared.judging.Judged.TheVariants.{ByFile, ByDumps}
use Rattle.torcheck_run.specs.Checking.{GivesOutcome, Holds, JudgesDumps, JudgesTaken}
use Rattle.torcheck_run.specs.Judging.{JudgesByDumps, seen_for}
use Rattle.result_file.proofs.OneRuling.{OneValue, same_file}
use Rattle.tor_output.specs.Output.{migrated}
use Rattle.run_laws.specs.Agreement.{MigrateLaw}
use Rattle.run_laws.specs.SelfGrading.{KeepDumps}
use Rattle.run_laws.proofs.EqualLengths.{migrated_long}
use Rattle.dump_read.specs.declared.wanted.Wanted.{Wanted}
use Rattle.dump_read.specs.Wanted.{all_wanted}

asks_on : (f : ResultFile) (rule : Rule) (k : ℕ) → Asks f rule k → Asks (migrated f) rule k
asks_on f HeadSound zero h = h
asks_on f HeadSound (suc k) h = λ line is. let new = h line is in record { two = new.two; new = new.new }
asks_on f PathsCleaned k h = λ line is. let sound = h line is in record { cleaned = sound.cleaned; seen = sound.seen; few = sound.few; numbers = sound.numbers }
asks_on f PathsDistinct k h = h
asks_on f LostRefuted k h = h
asks_on f EdgesListed k h = h
asks_on f LabelsServe k h = h
asks_on f SupportCounted k h = h
asks_on f OrdersShown k h = h
asks_on f MarksBorneOut k h = h
asks_on f TotalsRight k h = h

asks_back : (f : ResultFile) (rule : Rule) (k : ℕ) → Asks (migrated f) rule k → Asks f rule k
asks_back f HeadSound zero h = h
asks_back f HeadSound (suc k) h = λ line is. let new = h line is in record { two = new.two; new = new.new }
asks_back f PathsCleaned k h = λ line is. let sound = h line is in record { cleaned = sound.cleaned; seen = sound.seen; few = sound.few; numbers = sound.numbers }
asks_back f PathsDistinct k h = h
asks_back f LostRefuted k h = h
asks_back f EdgesListed k h = h
asks_back f LabelsServe k h = h
asks_back f SupportCounted k h = h
asks_back f OrdersShown k h = h
asks_back f MarksBorneOut k h = h
asks_back f TotalsRight k h = h

-- the number of a line, and of how many lines a rule asks something, are the same
met_on : (f : ResultFile) (rule : Rule) → IsMet f rule → IsMet (migrated f) rule
met_on f HeadSound h = λ k lt. asks_on f HeadSound k (h k lt)
met_on f PathsCleaned h = λ k lt. asks_on f PathsCleaned k (h k lt)
met_on f PathsDistinct h = h
met_on f LostRefuted h = h
met_on f EdgesListed h = h
met_on f LabelsServe h = h
met_on f SupportCounted h = h
met_on f OrdersShown h = h
met_on f MarksBorneOut h = h
met_on f TotalsRight h = h

met_back : (f : ResultFile) (rule : Rule) → IsMet (migrated f) rule → IsMet f rule
met_back f HeadSound h = λ k lt. asks_back f HeadSound k (h k lt)
met_back f PathsCleaned h = λ k lt. asks_back f PathsCleaned k (h k lt)
met_back f PathsDistinct h = h
met_back f LostRefuted h = h
met_back f EdgesListed h = h
met_back f LabelsServe h = h
met_back f SupportCounted h = h
met_back f OrdersShown h = h
met_back f MarksBorneOut h = h
met_back f TotalsRight h = h

first_on : (f : ResultFile) (rule : Rule) (k : ℕ) → BreaksFirst f rule k → BreaksFirst (migrated f) rule k
first_on f HeadSound k b = record { within = b.within; breach = λ h. b.breach (asks_back f HeadSound k h); before = λ j lt. asks_on f HeadSound j (b.before j lt) }
first_on f PathsCleaned k b = record { within = b.within; breach = λ h. b.breach (asks_back f PathsCleaned k h); before = λ j lt. asks_on f PathsCleaned j (b.before j lt) }
first_on f PathsDistinct k b = record { within = b.within; breach = λ h. b.breach (asks_back f PathsDistinct k h); before = λ j lt. asks_on f PathsDistinct j (b.before j lt) }
first_on f LostRefuted k b = record { within = b.within; breach = λ h. b.breach (asks_back f LostRefuted k h); before = λ j lt. asks_on f LostRefuted j (b.before j lt) }
first_on f EdgesListed k b = record { within = b.within; breach = λ h. b.breach (asks_back f EdgesListed k h); before = λ j lt. asks_on f EdgesListed j (b.before j lt) }
first_on f LabelsServe k b = record { within = b.within; breach = λ h. b.breach (asks_back f LabelsServe k h); before = λ j lt. asks_on f LabelsServe j (b.before j lt) }
first_on f SupportCounted k b = record { within = b.within; breach = λ h. b.breach (asks_back f SupportCounted k h); before = λ j lt. asks_on f SupportCounted j (b.before j lt) }
first_on f OrdersShown k b = record { within = b.within; breach = λ h. b.breach (asks_back f OrdersShown k h); before = λ j lt. asks_on f OrdersShown j (b.before j lt) }
first_on f MarksBorneOut k b = record { within = b.within; breach = λ h. b.breach (asks_back f MarksBorneOut k h); before = λ j lt. asks_on f MarksBorneOut j (b.before j lt) }
first_on f TotalsRight k b = record { within = b.within; breach = λ h. b.breach (asks_back f TotalsRight k h); before = λ j lt. asks_on f TotalsRight j (b.before j lt) }

first_back : (f : ResultFile) (rule : Rule) (k : ℕ) → BreaksFirst (migrated f) rule k → BreaksFirst f rule k
first_back f HeadSound k b = record { within = b.within; breach = λ h. b.breach (asks_on f HeadSound k h); before = λ j lt. asks_back f HeadSound j (b.before j lt) }
first_back f PathsCleaned k b = record { within = b.within; breach = λ h. b.breach (asks_on f PathsCleaned k h); before = λ j lt. asks_back f PathsCleaned j (b.before j lt) }
first_back f PathsDistinct k b = record { within = b.within; breach = λ h. b.breach (asks_on f PathsDistinct k h); before = λ j lt. asks_back f PathsDistinct j (b.before j lt) }
first_back f LostRefuted k b = record { within = b.within; breach = λ h. b.breach (asks_on f LostRefuted k h); before = λ j lt. asks_back f LostRefuted j (b.before j lt) }
first_back f EdgesListed k b = record { within = b.within; breach = λ h. b.breach (asks_on f EdgesListed k h); before = λ j lt. asks_back f EdgesListed j (b.before j lt) }
first_back f LabelsServe k b = record { within = b.within; breach = λ h. b.breach (asks_on f LabelsServe k h); before = λ j lt. asks_back f LabelsServe j (b.before j lt) }
first_back f SupportCounted k b = record { within = b.within; breach = λ h. b.breach (asks_on f SupportCounted k h); before = λ j lt. asks_back f SupportCounted j (b.before j lt) }
first_back f OrdersShown k b = record { within = b.within; breach = λ h. b.breach (asks_on f OrdersShown k h); before = λ j lt. asks_back f OrdersShown j (b.before j lt) }
first_back f MarksBorneOut k b = record { within = b.within; breach = λ h. b.breach (asks_on f MarksBorneOut k h); before = λ j lt. asks_back f MarksBorneOut j (b.before j lt) }
first_back f TotalsRight k b = record { within = b.within; breach = λ h. b.breach (asks_on f TotalsRight k h); before = λ j lt. asks_back f TotalsRight j (b.before j lt) }

numbered_on : (f : ResultFile) (rule : Rule) (line k : ℕ) → line ≡ line_for f rule k → line ≡ line_for (migrated f) rule k
numbered_on f HeadSound line zero e = e
numbered_on f HeadSound line (suc k) e = e
numbered_on f PathsCleaned line k e = e
numbered_on f PathsDistinct line k e = e
numbered_on f LostRefuted line k e = e
numbered_on f EdgesListed line k e = e
numbered_on f LabelsServe line k e = e
numbered_on f SupportCounted line k e = e
numbered_on f OrdersShown line k e = e
numbered_on f MarksBorneOut line k e = e
numbered_on f TotalsRight line k e = e

numbered_back : (f : ResultFile) (rule : Rule) (line k : ℕ) → line ≡ line_for (migrated f) rule k → line ≡ line_for f rule k
numbered_back f HeadSound line zero e = e
numbered_back f HeadSound line (suc k) e = e
numbered_back f PathsCleaned line k e = e
numbered_back f PathsDistinct line k e = e
numbered_back f LostRefuted line k e = e
numbered_back f EdgesListed line k e = e
numbered_back f LabelsServe line k e = e
numbered_back f SupportCounted line k e = e
numbered_back f OrdersShown line k e = e
numbered_back f MarksBorneOut line k e = e
numbered_back f TotalsRight line k e = e

refused_on : (f : ResultFile) (line number : ℕ) → IsRefused f line number → IsRefused (migrated f) line number
refused_on f line number r = record {
  rule = r.rule;
  named = r.named;
  place = r.place;
  numbered = numbered_on f r.rule line r.place r.numbered;
  first = first_on f r.rule r.place r.first;
  earlier = λ other lt. met_on f other (r.earlier other lt);
}

refused_back : (f : ResultFile) (line number : ℕ) → IsRefused (migrated f) line number → IsRefused f line number
refused_back f line number r = record {
  rule = r.rule;
  named = r.named;
  place = r.place;
  numbered = numbered_back f r.rule line r.place r.numbered;
  first = first_back f r.rule r.place r.first;
  earlier = λ other lt. met_back f other (r.earlier other lt);
}

-- ---- rule 11

agrees_on : (f : ResultFile) (rows : List Counted) (counts : CauseCounts) (k : ℕ) → Agrees f rows counts k → Agrees (migrated f) rows counts k
agrees_on f rows counts k a = record { count = a.count; path = a.path }

agrees_back : (f : ResultFile) (rows : List Counted) (counts : CauseCounts) (k : ℕ) → Agrees (migrated f) rows counts k → Agrees f rows counts k
agrees_back f rows counts k a = record { count = a.count; path = a.path }

against_on : (f : ResultFile) (rows : List Counted) (counts : CauseCounts) (v : Verdict) → JudgesAgainst f rows counts v → JudgesAgainst (migrated f) rows counts v
against_on f rows counts Yes h = h
against_on f rows counts (No line rule) h = record {
  named = h.named;
  place = h.place;
  numbered = h.numbered;
  breach = λ a. h.breach (agrees_back f rows counts h.place a);
  before = λ j lt. agrees_on f rows counts j (h.before j lt);
}

against_back : (f : ResultFile) (rows : List Counted) (counts : CauseCounts) (v : Verdict) → JudgesAgainst (migrated f) rows counts v → JudgesAgainst f rows counts v
against_back f rows counts Yes h = h
against_back f rows counts (No line rule) h = record {
  named = h.named;
  place = h.place;
  numbered = h.numbered;
  breach = λ a. h.breach (agrees_on f rows counts h.place a);
  before = λ j lt. agrees_back f rows counts j (h.before j lt);
}

any_on : (f : ResultFile) (rows : List Counted) (counts : CauseCounts) (v : Verdict) → JudgesInAnyOrder f rows counts v → JudgesInAnyOrder (migrated f) rows counts v
any_on f rows counts Yes h = h
any_on f rows counts (No line rule) h = record {
  named = h.named;
  place = h.place;
  numbered = h.numbered;
  breach = λ a. h.breach (record { count = a.count; path = λ le. let p = a.path le in record { line = p.line; end = p.end } });
  before = λ j lt. let a = h.before j lt in record { count = a.count; path = λ le. let p = a.path le in record { line = p.line; end = p.end } };
}

any_back : (f : ResultFile) (rows : List Counted) (counts : CauseCounts) (v : Verdict) → JudgesInAnyOrder (migrated f) rows counts v → JudgesInAnyOrder f rows counts v
any_back f rows counts Yes h = h
any_back f rows counts (No line rule) h = record {
  named = h.named;
  place = h.place;
  numbered = h.numbered;
  breach = λ a. h.breach (record { count = a.count; path = λ le. let p = a.path le in record { line = p.line; end = p.end } });
  before = λ j lt. let a = h.before j lt in record { count = a.count; path = λ le. let p = a.path le in record { line = p.line; end = p.end } };
}

taken_on : (any : Bool) (f : ResultFile) (taken : Taken) (v : Verdict) → JudgesTaken any f taken v → JudgesTaken any (migrated f) taken v
taken_on false f taken v h = against_on f taken.table.rows taken.counts v h
taken_on true f taken v h = any_on f taken.table.rows taken.counts v h

taken_back : (any : Bool) (f : ResultFile) (taken : Taken) (v : Verdict) → JudgesTaken any (migrated f) taken v → JudgesTaken any f taken v
taken_back false f taken v h = against_back f taken.table.rows taken.counts v h
taken_back true f taken v h = any_back f taken.table.rows taken.counts v h

dumps_on : (any : Bool) (f : ResultFile) (dumps : List (List ℕ)) (files : Files) (v : Verdict) → JudgesByDumps any f dumps files v → JudgesByDumps any (migrated f) dumps files v
dumps_on any f [] files v h = h
dumps_on any f (dump ∷ dumps) files v h = (h.0, h.1, taken_on any f h.0 v h.2)

dumps_back : (any : Bool) (f : ResultFile) (dumps : List (List ℕ)) (files : Files) (v : Verdict) → JudgesByDumps any (migrated f) dumps files v → JudgesByDumps any f dumps files v
dumps_back any f [] files v h = h
dumps_back any f (dump ∷ dumps) files v h = (h.0, h.1, taken_back any f h.0 v h.2)

-- ---- verdicts

module _ (law : OneValue) (f : ResultFile) (before after : List ℕ) (old : IsTextOf f before) (new : IsTextOf (migrated f) after) where
  broken_on : (v : Verdict) → BreaksRule before v → BreaksRule after v
  broken_on Yes h = h
  broken_on (No line rule) (inl bad) = absurd (bad.1.outside (f, old))
  broken_on (No line rule) (inr h) =
      inr (migrated f, new, refused_on f line rule (subst (λ (g : ResultFile). IsRefused g line rule) (same_file law before h.0 f h.1 old) h.2))

  broken_back : (v : Verdict) → BreaksRule after v → BreaksRule before v
  broken_back Yes h = h
  broken_back (No line rule) (inl bad) = absurd (bad.1.outside (migrated f, new))
  broken_back (No line rule) (inr h) =
      inr (f, old, refused_back f line rule (subst (λ (g : ResultFile). IsRefused g line rule) (same_file law after h.0 (migrated f) h.1 new) h.2))

-- ---- the result that is written

-- a list of givens, empty where there is none
abbrev listed : Option (List Given) → List Given
listed o = elim o [ None ↦ [] | Some givens ↦ givens ]

pub as_it_is : (file : ResultFile) → is_none file.givens ≡ false → file ≡ migrated file
as_it_is file some = by file.givens refl some
  where
    by : (o : Option (List Given)) → file.givens ≡ o → is_none o ≡ false → file ≡ migrated file
    by None e f = absurd (cc f)
    by (Some givens) e f =
        let same : Some (its_givens file) ≡ Some givens = ap (λ (o : Option (List Given)). Some (listed o)) e in
        ap (λ (o : Option (List Given)). record file { givens = o }) (e ∙ sym same)

pub with_none : (file : ResultFile) → is_none file.givens ≡ true → record file { givens = Some [] } ≡ migrated file
with_none file none = by file.givens refl none
  where
    by : (o : Option (List Given)) → file.givens ≡ o → is_none o ≡ true → record file { givens = Some [] } ≡ migrated file
    by (Some givens) e f = absurd (cc f)
    by None e f = ap (λ (o : Option (List Given)). record file { givens = Some (listed o) }) (sym e)

-- ---- what a check comes to

bound : (r : Result Taken DumpsEnd) (f g : Taken → Result Taken DumpsEnd) → ((t : Taken) → f t ≡ g t) → (r >>= f) ≡ (r >>= g)
bound (Ok t) f g same = same t
bound (Err e) f g same = refl

-- what dumps give doesn't depend on other files
pub seen_same : (wanted : Wanted) (dump : ℕ) (taken : Taken) (names : List (List ℕ)) (files later : Files) → KeepDumps names files later →
    seen_from wanted dump taken names files ≡ seen_from wanted dump taken names later
seen_same wanted dump taken [] files later keep = refl
seen_same wanted dump taken (name ∷ names) files later keep =
    ap (λ (f : Option (List ℕ)). of_file wanted dump taken f >>= λ further. seen_from wanted (dump + 1) further names files) (sym (keep name (0, omega arith, refl)))
    ∙ bound (of_file wanted dump taken (later name)) (λ further. seen_from wanted (dump + 1) further names files) (λ further. seen_from wanted (dump + 1) further names later)
    (λ further. seen_same wanted (dump + 1) further names files later (λ n i. keep n (suc i.0, omega (arith, i.1), i.2)))

module _ (dumps : List (List ℕ)) (files later : Files) (keep : KeepDumps dumps files later) where
  seen_kept : (file : ResultFile) (r : Result Taken DumpsEnd) → seen_for file dumps files ≡ r → seen_for file dumps later ≡ r
  seen_kept file r e = sym (seen_same (all_wanted file.sets) 1 (nothing max_paths) dumps files later keep) ∙ e

dumps_kept : (any : Bool) (f : ResultFile) (dumps : List (List ℕ)) (files later : Files) → KeepDumps dumps files later → (v : Verdict) → JudgesByDumps any f dumps files v → JudgesByDumps any f dumps later v
dumps_kept any f [] files later keep v h = h
dumps_kept any f (dump ∷ dumps) files later keep v h = (h.0, seen_kept (dump ∷ dumps) files later keep f (Ok h.0) h.1, h.2)

-- as far as files are known
to_dumps : (any : Bool) (f : ResultFile) (dumps : List (List ℕ)) (files : Files) (v : Verdict) → JudgesByDumps any f dumps files v → JudgesDumps any (Some files) f dumps v
to_dumps any f [] files v h = h
to_dumps any f (dump ∷ dumps) files v h = h

of_dumps : (any : Bool) (f : ResultFile) (dumps : List (List ℕ)) (files : Files) (v : Verdict) → JudgesDumps any (Some files) f dumps v → JudgesByDumps any f dumps files v
of_dumps any f [] files v h = h
of_dumps any f (dump ∷ dumps) files v h = h

-- a text of version 2 stays as it is, and the text of version 1 is as long
same_text : (f : ResultFile) (before after : List ℕ) → IsTextOf f before → IsTextOf (migrated f) after → (givens : List Given) → f.givens ≡ Some givens → after ≡ before
same_text f before after old new givens is = new.encoded ∙ ap text (sym (as_it_is f (ap is_none is))) ∙ sym old.encoded

same_long : (f : ResultFile) (before after : List ℕ) → IsTextOf f before → IsTextOf (migrated f) after → length after ≡ length before
same_long f before after old new = by f.givens refl
  where
    by : (o : Option (List Given)) → f.givens ≡ o → length after ≡ length before
    by None e = ap length new.encoded ∙ migrated_long f e ∙ sym (ap length old.encoded)
    by (Some givens) e = ap length (same_text f before after old new givens e)

-- the file of this name is there with these octets
module _ (name bytes : List ℕ) (files : Files) (there : files name ≡ Some bytes) where
  its_bytes : (others : List ℕ) → files name ≡ Some others → others ≡ bytes
  its_bytes others e = same_Some others bytes (sym e ∙ there)

  not_absent : files name ≡ None → ⊥
  not_absent e = cc (e, there)

  is_long : IsLongFile max_result (files name) → max_result < length bytes
  is_long h = subst (IsLongFile max_result) there h

  long_file : max_result < length bytes → IsLongFile max_result (files name)
  long_file h = subst (IsLongFile max_result) (sym there) h

module _ (law : OneValue) (f : ResultFile) (before after : List ℕ) (old : IsTextOf f before) (new : IsTextOf (migrated f) after) (check : CheckSettings) (files later : Files)
    (was : files check.result ≡ Some before) (is : later check.result ≡ Some after) (keep : KeepDumps check.dumps files later) where
  long : length after ≡ length before
  long = same_long f before after old new

  back : KeepDumps check.dumps later files
  back name i = sym (keep name i)

  now : {bytes : List ℕ} → HasOctets (Some files) check.result max_result bytes → HasOctets (Some later) check.result max_result after
  now {bytes = bytes} has =
      let same = its_bytes check.result before files was bytes has.there in
      record { there = is; short = subst (λ n. n ≤ max_result) (ap length same ∙ sym long) has.short }

  then : {bytes : List ℕ} → HasOctets (Some later) check.result max_result bytes → HasOctets (Some files) check.result max_result before
  then {bytes = bytes} has =
      let same = its_bytes check.result after later is bytes has.there in
      record { there = was; short = subst (λ n. n ≤ max_result) (ap length same ∙ long) has.short }

  -- the result that the file holds is this one, and later its text of version 2
  this : (g : ResultFile) → Holds check (Some files) g → g ≡ f
  this g holds = same_file law holds.0 g f holds.2.text (subst (IsTextOf f) (sym (its_bytes check.result before files was holds.0 holds.1.there)) old)

  that : (g : ResultFile) → Holds check (Some later) g → g ≡ migrated f
  that g holds = same_file law holds.0 g (migrated f) holds.2.text (subst (IsTextOf (migrated f)) (sym (its_bytes check.result after later is holds.0 holds.1.there)) new)

  holds_on : (g : ResultFile) → Holds check (Some files) g → Holds check (Some later) (migrated f)
  holds_on g holds =
      let rules : Accepts f = subst Accepts (this g holds) holds.2.rules in
      (after, now holds.1, record { text = new; rules = λ rule. met_on f rule (rules rule) })

  holds_back : (g : ResultFile) → Holds check (Some later) g → Holds check (Some files) f
  holds_back g holds =
      let rules : Accepts (migrated f) = subst Accepts (that g holds) holds.2.rules in
      (before, then holds.1, record { text = old; rules = λ rule. met_back f rule (rules rule) })

  outcome_on : (o : Outcome Judged) → GivesOutcome check (Some files) o → GivesOutcome check (Some later) o
  outcome_on (Makes (ByFile l r)) h =
      let same = its_bytes check.result before files was h.0 h.1.there in
      (after, now h.1, broken_on law f before after old new (No l r) (subst (λ b. BreaksRule b (No l r)) same h.2))
  outcome_on (Makes (ByDumps v)) h =
      let judged = of_dumps check.any_order f check.dumps files v (subst (λ g. JudgesDumps check.any_order (Some files) g check.dumps v) (this h.0 h.1) h.2) in (
        migrated f,
        holds_on h.0 h.1,
        to_dumps check.any_order (migrated f) check.dumps later v
            (dumps_kept check.any_order (migrated f) check.dumps files later keep v (dumps_on check.any_order f check.dumps files v judged)),
      )
  outcome_on NoFile h = absurd (not_absent check.result before files was h)
  outcome_on TooLong h = long_file check.result after later is (subst (λ n. max_result < n) (sym long) (is_long check.result before files was h))
  outcome_on (BadLine line) h = h
  outcome_on (Breaks line rule) h = h
  outcome_on (Lacks note) h = h
  outcome_on (Ends end) h =
      (migrated f, holds_on h.0 h.1, seen_kept check.dumps files later keep f (Err end) (subst (λ (g : ResultFile). seen_for g check.dumps files ≡ Err end) (this h.0 h.1) h.2))

  outcome_back : (o : Outcome Judged) → GivesOutcome check (Some later) o → GivesOutcome check (Some files) o
  outcome_back (Makes (ByFile l r)) h =
      let same = its_bytes check.result after later is h.0 h.1.there in
      (before, then h.1, broken_back law f before after old new (No l r) (subst (λ b. BreaksRule b (No l r)) same h.2))
  outcome_back (Makes (ByDumps v)) h =
      let judged = of_dumps check.any_order (migrated f) check.dumps later v (subst (λ g. JudgesDumps check.any_order (Some later) g check.dumps v) (that h.0 h.1) h.2) in
      (f, holds_back h.0 h.1, to_dumps check.any_order f check.dumps files v (dumps_kept check.any_order f check.dumps later files back v (dumps_back check.any_order f check.dumps later v judged)))
  outcome_back NoFile h = absurd (not_absent check.result after later is h)
  outcome_back TooLong h = long_file check.result before files was (subst (λ n. max_result < n) long (is_long check.result after later is h))
  outcome_back (BadLine line) h = h
  outcome_back (Breaks line rule) h = h
  outcome_back (Lacks note) h = h
  outcome_back (Ends end) h =
      (f, holds_back h.0 h.1, seen_kept check.dumps later files back f (Err end) (subst (λ (g : ResultFile). seen_for g check.dumps later ≡ Err end) (that h.0 h.1) h.2))

pub migrate_law : OneValue → MigrateLaw
migrate_law law f before after old new = (
  same_text f before after old new,
  λ check files later was is keep o. (
    outcome_on law f before after old new check files later was is keep o,
    outcome_back law f before after old new check files later was is keep o,
  ),
)
