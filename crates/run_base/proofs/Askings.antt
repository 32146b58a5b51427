-- What a run makes of its files, by where it stops.
use Rattle.std.proofs.Common.{◌≡◌, ◌≤◌, ◌<◌, ◌++◌, ◌∙◌, ◌∷◌, inl, inr, ℕ, zero, suc, List, [], length, take, Option, None, Some, Ok, Err, Result, refl, sym, ap, subst, append_assoc, arith}
use Rattle.std.specs.Prelude.{IfSome, IsSome, IsSomeAnd, option_map, ⊤}
use Rattle.std.proofs.lemmas.List.{append-nil}
use Rattle.tor_io.specs.Counts.{Rose}
use Rattle.std.specs.Io.KnownBytes.{IsAtEnd}
use Rattle.tor_io.specs.Contents.{Files, LacksFile}
use Rattle.tor_io.specs.declared.shelf.Shelf as shelf
use Rattle.dump_read.specs.declared.error.DumpError.{DumpError}
use Rattle.dump_read.specs.declared.error.DumpError.TheVariants as error
use Rattle.dump_read.specs.declared.taking.Taken.{Taken}
use Rattle.dump_read.specs.Seen.{DumpsEnd, Absent, Malformed, Limit}
use Rattle.dump_read.specs.declared.wanted.Wanted.{Wanted}
use Rattle.run_base.specs.declared.notes.FirstFile.{FirstFile}
use Rattle.run_base.specs.declared.reading.Stopped.{Stopped}
use Rattle.run_base.specs.declared.stop.Stop.{Stop}
use Rattle.run_base.specs.declared.stop.Stop.TheVariants as stop
use Rattle.run_base.specs.declared.whole_file.Unread.{Unread}
use Rattle.run_base.specs.declared.whole_file.Unread.TheVariants as unread
use Rattle.run_base.specs.Frames.{ReadsShelf}
use Rattle.run_base.specs.Opening.{AllRead, EndedAt, OpensInOrder, OpensUpTo, IsNumber, first_named, up_to}
use Rattle.run_base.specs.Programs.{First, Reads, Makes, NoFile, TooLong, Ends, Program, DumpsEndAt, HasOctets, IsAbsent, IsTooLong, ReadBefore, named_in}
use Rattle.run_base.specs.Promises.{IsFilesEnd, MayEnd, OfFirst, ReadsTo}
use Rattle.run_base.specs.Reach.{IsDumpInReach}
use Rattle.run_base.specs.Stopping.{Asks, IsFailedCall, IsOfFirst, StopsDumps, ending_at, ending_of}
use Rattle.run_base.specs.WholeFile.{IsLongFile, LeavesOnly, LeavesRest}
use Rattle.run_base.proofs.Values as values

-- the file that is read first, if one is named, was read whole, and no call failed
pub record ReadsFirst {H : Type 0} (h : shelf.Ghosts H) (reads : Reads) (old mid : H) : Type 0 where
  pub files : h.files mid ≡ h.files old
  pub opens : h.opens mid ≡ h.opens old ++ first_named (named_in reads).first
  pub steady : h.steady old → h.steady mid
  pub quiet : h.faults mid ≡ h.faults old

behind : {H : Type 0} (h : shelf.Ghosts H) (reads : Reads) (old mid new : H) (Failed : Type 0) → ReadsFirst h reads old mid → ReadsShelf h Failed mid new → ReadsShelf h Failed old new
behind h reads old mid new Failed first rest =
    record {
      keeps = record {
        files = rest.keeps.files ∙ first.files;
        steady = λ held. rest.keeps.steady (first.steady held);
        later = subst (λ n. n ≤ h.faults new) first.quiet rest.keeps.later;
      };
      rose = λ failed. subst (λ n. Rose n (h.faults new)) first.quiet (rest.rose failed);
      quiet = λ not. rest.quiet not ∙ first.quiet;
    }

module _ {S M R H : Type 0} (program : Program S M) (settings : S) (reads : Reads) (is_reads : program.reads settings ≡ Some reads) (h : shelf.Ghosts H) (made_of : R → M) where
  not_none : {X : Type 0} → program.reads settings ≡ None → X
  not_none is = values.some_not_none (program.reads settings) reads is_reads is

  to_reads : (P : Option Reads → Type 0) → P (Some reads) → P (program.reads settings)
  to_reads P is = subst P (sym is_reads) is

  -- this was made of the files up to here
  pub made_at : (r : R) (old new : H) → program.Gives settings (h.files old) (Makes (made_of r)) → OpensUpTo (named_in reads) (program.end (made_of r)) (h.opens old) (h.opens new)
      → IsAtEnd (h.left new) → ReadsShelf h ⊥ old new → Asks program settings h made_of (Ok r) old new
  made_at r old new gives opened at_end shelf =
      record {
        made = gives;
        stopped = tt;
        first = tt;
        opens = to_reads (λ o. OpensInOrder (option_map named_in o) (λ e. e ≡ program.end (made_of r)) (h.opens old) (h.opens new)) (program.end (made_of r), refl, opened);
        opens_stop = tt;
        read_out = to_reads (λ o. IfSome o (λ _. IsAtEnd (h.left new))) at_end;
        reach = tt;
        untouched = not_none;
        reads_shelf = shelf;
      }

  -- all was read
  pub all_made : (r : R) (Failed : Type 0) (old mid new : H) → ReadsFirst h reads old mid → program.Gives settings (h.files old) (Makes (made_of r)) → program.end (made_of r) ≡ AllRead
      → h.opens new ≡ h.opens mid ++ reads.dumps → IsAtEnd (h.left new) → ReadsShelf h Failed mid new → (Failed → ⊥) → Asks program settings h made_of (Ok r) old new
  all_made r Failed old mid new first gives end opened at_end shelf never =
      made_at r old new gives
      (subst (λ e. OpensUpTo (named_in reads) e (h.opens old) (h.opens new)) (sym end)
      (opened ∙ ap (λ t. t ++ reads.dumps) first.opens ∙ append_assoc (h.opens old) (first_named (named_in reads).first) reads.dumps))
      at_end (calm Failed never (behind h reads old mid new Failed first shelf))
    where
      calm : (Failed : Type 0) → (Failed → ⊥) → ReadsShelf h Failed old new → ReadsShelf h ⊥ old new
      calm Failed never shelf = record { keeps = shelf.keeps; rose = λ f. absurd f; quiet = λ _. shelf.quiet never }

  -- reading stopped at a dump
  pub dumps_stopped : (e : Stopped) (old mid new : H) → ReadsFirst h reads old mid → MayEnd program settings (h.files old) (h.steady old) (ending_at e.dump e.error)
      → h.opens new ≡ h.opens mid ++ take e.dump reads.dumps → IsDumpInReach reads.dumps (h.files old) (h.left new) e.dump e.error
      → ReadsShelf h (e.error ≡ error.ReadFault) mid new → Asks program settings h made_of (Err (stop.Dumps e)) old new
  dumps_stopped e old mid new first why opened reach shelf =
      record {
        made = tt;
        stopped = why;
        first = tt;
        opens = tt;
        opens_stop = to_reads (λ o. OpensInOrder (option_map named_in o) (IsFilesEnd program.end (ending_at {M = M} e.dump e.error)) (h.opens old) (h.opens new)) (opens_at e.dump e.error reach up_to_dump);
        read_out = tt;
        reach = to_reads (λ o. ReadsTo o (h.files old) (h.left new) (ending_at {M = M} e.dump e.error)) (reads_to e.dump e.error reach);
        untouched = not_none;
        reads_shelf = behind h reads old mid new (e.error ≡ error.ReadFault) first shelf;
      }
    where
      up_to_dump : h.opens new ≡ h.opens old ++ up_to e.dump (named_in reads)
      up_to_dump = opened ∙ ap (λ t. t ++ take e.dump reads.dumps) first.opens ∙ append_assoc (h.opens old) (first_named (named_in reads).first) (take e.dump reads.dumps)

      numbered : (n : ℕ) → 1 ≤ n → n ≤ length reads.dumps → IsNumber (named_in reads) n
      numbered zero one most = absurd (omega (arith, one))
      numbered (suc n) one most = most

      opens_at : (dump : ℕ) (error : DumpError) → IsDumpInReach reads.dumps (h.files old) (h.left new) dump error → h.opens new ≡ h.opens old ++ up_to dump (named_in reads)
          → OpensInOrder (Some (named_in reads)) (IsFilesEnd program.end (ending_at {M = M} dump error)) (h.opens old) (h.opens new)
      opens_at dump (error.Malformed place fault) reach opened = (
        EndedAt place.dump,
        refl,
        (
          numbered place.dump (subst (λ n. 1 ≤ n) (sym reach.placed) reach.from_one) (subst (λ n. n ≤ length reads.dumps) (sym reach.placed) reach.named),
          subst (λ n. h.opens new ≡ h.opens old ++ up_to n (named_in reads)) (sym reach.placed) opened,
        ),
      )
      opens_at dump (error.Limit kind) reach opened = (EndedAt dump, refl, (numbered dump reach.from_one reach.named, opened))
      opens_at dump error.ReadFault reach opened = (EndedAt dump, refl, (numbered dump reach.from_one reach.named, opened))
      opens_at dump error.NoMemory reach opened = (EndedAt dump, tt, (numbered dump reach.from_one reach.named, opened))

      reads_to : (dump : ℕ) (error : DumpError) → IsDumpInReach reads.dumps (h.files old) (h.left new) dump error → ReadsTo (Some reads) (h.files old) (h.left new) (ending_at {M = M} dump error)
      reads_to dump (error.Malformed place fault) reach = subst (λ n. IsDumpInReach reads.dumps (h.files old) (h.left new) n (error.Malformed place fault)) (sym reach.placed) reach
      reads_to zero (error.Limit kind) reach = absurd (omega (arith, reach.from_one))
      reads_to (suc n) (error.Limit kind) reach = reach
      reads_to zero error.ReadFault reach = absurd (omega (arith, reach.from_one))
      reads_to (suc n) error.ReadFault reach = reach
      reads_to dump error.NoMemory reach = tt

  -- the file that is read first was not read
  pub first_unread : (first : First) (file : FirstFile) (u : Unread) (old new : H) → reads.first ≡ Some first → first.kind ≡ file
      → MayEnd program settings (h.files old) (h.steady old) (ending_of (stop.First file u)) → h.opens new ≡ h.opens old ++ first.name ∷ []
      → (u ≡ unread.TooLong → LeavesRest first.most first.name (h.files old) (h.left new)) → LeavesOnly first.most first.name (h.files old) (h.left new)
      → ReadsShelf h (u ≡ unread.Failed) old new → Asks program settings h made_of (Err (stop.First file u)) old new
  first_unread first file u old new is_first kind why opened long only shelf =
      record {
        made = tt;
        stopped = why;
        first = of_it (λ f. f.kind ≡ file) kind;
        opens = tt;
        opens_stop = to_reads (λ o. OpensInOrder (option_map named_in o) (IsFilesEnd program.end (ending_of {M = M} (stop.First file u))) (h.opens old) (h.opens new)) (opens_at u);
        read_out = tt;
        reach = reads_to u long;
        untouched = not_none;
        reads_shelf = shelf;
      }
    where
      of_it : (Such : First → Type 0) → Such first → OfFirst (program.reads settings) Such
      of_it Such is = to_reads (λ o. OfFirst o Such) (subst (λ f. IsSomeAnd f Such) (sym is_first) is)

      there : OpensUpTo (named_in reads) (EndedAt 0) (h.opens old) (h.opens new)
      there = (
        subst (λ f. IsSome (option_map (λ g. g.name) f)) (sym is_first) refl,
        subst (λ f. h.opens new ≡ h.opens old ++ (first_named (option_map (λ g. g.name) f) ++ [])) (sym is_first) opened,
      )

      opens_at : (u : Unread) → OpensInOrder (Some (named_in reads)) (IsFilesEnd program.end (ending_of {M = M} (stop.First file u))) (h.opens old) (h.opens new)
      opens_at unread.Failed = (EndedAt 0, refl, there)
      opens_at unread.TooLong = (EndedAt 0, refl, there)
      opens_at unread.NoMemory = (EndedAt 0, tt, there)

      reads_to : (u : Unread) → (u ≡ unread.TooLong → LeavesRest first.most first.name (h.files old) (h.left new)) → ReadsTo (program.reads settings) (h.files old) (h.left new) (ending_of {M = M} (stop.First file u))
      reads_to unread.Failed long = of_it (λ f. LeavesOnly f.most f.name (h.files old) (h.left new)) only
      reads_to unread.TooLong long = of_it (λ f. LeavesRest f.most f.name (h.files old) (h.left new)) (long refl)
      reads_to unread.NoMemory long = tt

  -- it was read, and nothing is made of it
  pub first_stopped : (first : First) (e : Stop) (old mid : H) → reads.first ≡ Some first → ReadsFirst h reads old mid → MayEnd program settings (h.files old) (h.steady old) (ending_of e)
      → IsOfFirst (program.reads settings) e → IsFilesEnd program.end (ending_of {M = M} e) (EndedAt 0) → ReadsTo (program.reads settings) (h.files old) (h.left mid) (ending_of {M = M} e)
      → (IsFailedCall e → ⊥) → Asks program settings h made_of (Err e) old mid
  first_stopped first e old mid is_first whole why of end reach never =
      record {
        made = tt;
        stopped = why;
        first = of;
        opens = tt;
        opens_stop = to_reads (λ o. OpensInOrder (option_map named_in o) (IsFilesEnd program.end (ending_of {M = M} e)) (h.opens old) (h.opens mid)) (
          EndedAt 0,
          end,
          (
            subst (λ f. IsSome (option_map (λ g. g.name) f)) (sym is_first) refl,
            whole.opens ∙ ap (λ t. h.opens old ++ t) (sym (append-nil (first_named (named_in reads).first))),
          ),
        );
        read_out = tt;
        reach = reach;
        untouched = not_none;
        reads_shelf = record {
          keeps = record { files = whole.files; steady = whole.steady; later = omega (arith, whole.quiet) };
          rose = λ f. absurd (never f);
          quiet = λ _. whole.quiet;
        };
      }

-- ---- dumps

-- a run may end where reading stopped at a dump, if what comes before it is good
pub dump_end : {S M : Type 0} (program : Program S M) (settings : S) (reads : Reads) (known : Option Files) (steady : Type 0) (wanted : Wanted) (start : Taken) (dump : ℕ) (e : DumpError)
    → program.reads settings ≡ Some reads → StopsDumps known steady wanted reads.dumps start dump e → ((end : DumpsEnd) → DumpsEndAt known wanted reads.dumps start end → program.Gives settings known (Ends end))
    → ((n : ℕ) → ReadBefore known wanted reads.dumps start (suc n) → program.Before settings known (suc n)) → MayEnd program settings known steady (ending_at dump e)
dump_end program settings reads known steady wanted start dump (error.Malformed place fault) is stops gives before = gives (Malformed place fault) stops
dump_end program settings reads known steady wanted start dump (error.Limit kind) is stops gives before = gives (Limit kind dump) stops
dump_end program settings reads known steady wanted start zero error.ReadFault is stops gives before = absurd (omega (arith, stops.0))
dump_end program settings reads known steady wanted start (suc n) error.ReadFault is stops gives before =
    record {
      named = subst (λ o. IsSomeAnd o (λ r. IsNumber (named_in r) (suc n))) (sym is) stops.1;
      before = before n stops.2;
      absent = λ held. gives (Absent (suc n)) (stops.3 held);
    }
dump_end program settings reads known steady wanted start dump error.NoMemory is stops gives before = tt

-- ---- the file that is read first, by a text that is its name

pub has_octets : (known : Option Files) (name text : List ℕ) (most : ℕ) (bytes : List ℕ) → text ≡ name → IfSome known (λ files. files text ≡ Some bytes) → length bytes ≤ most
    → HasOctets known name most bytes
has_octets known name text most bytes same there short = record { there = subst (λ t. IfSome known (λ files. files t ≡ Some bytes)) same there; short = short }

pub whole_first : {H : Type 0} (h : shelf.Ghosts H) (first : First) (dumps : List (List ℕ)) (text : List ℕ) (old mid : H) → text ≡ first.name → h.files mid ≡ h.files old
    → h.opens mid ≡ h.opens old ++ text ∷ [] → (h.steady old → h.steady mid) → h.faults mid ≡ h.faults old → ReadsFirst h (record { first = Some first; dumps = dumps }) old mid
whole_first h first dumps text old mid same files opened steady quiet =
    record { files = files; opens = subst (λ t. h.opens mid ≡ h.opens old ++ t ∷ []) same opened; steady = steady; quiet = quiet }

absent_file : (known : Option Files) (name : List ℕ) → LacksFile known name → IsAbsent known name
absent_file None name lacks = absurd lacks
absent_file (Some files) name lacks = lacks

-- it was not read
pub not_read : {S M R H : Type 0} (program : Program S M) (settings : S) (first : First) (dumps : List (List ℕ)) (h : shelf.Ghosts H) (made_of : R → M) (text : List ℕ) (u : Unread) (old new : H)
    → program.reads settings ≡ Some (record { first = Some first; dumps = dumps }) → text ≡ first.name → (IsAbsent (h.files old) first.name → program.Gives settings (h.files old) NoFile)
    → (IsTooLong (h.files old) first.name first.most → program.Gives settings (h.files old) TooLong) → program.Before settings (h.files old) 0
    → (u ≡ unread.TooLong → IfSome (h.files old) (λ files. IsLongFile first.most (files text))) → (u ≡ unread.TooLong → LeavesRest first.most text (h.files old) (h.left new))
    → LeavesOnly first.most text (h.files old) (h.left new) → h.opens new ≡ h.opens old ++ text ∷ [] → (h.steady old → u ≡ unread.Failed → LacksFile (h.files old) text)
    → ReadsShelf h (u ≡ unread.Failed) old new → Asks program settings h made_of (Err (stop.First first.kind u)) old new
not_read {M = M} program settings first dumps h made_of text u old new is_reads same no_file too_long before long rest only opened lacks shelf =
    first_unread program settings (record { first = Some first; dumps = dumps }) is_reads h made_of first first.kind u old new refl refl (why u long lacks)
    (subst (λ t. h.opens new ≡ h.opens old ++ t ∷ []) same opened) (λ is. subst (λ t. LeavesRest first.most t (h.files old) (h.left new)) same (rest is))
    (subst (λ t. LeavesOnly first.most t (h.files old) (h.left new)) same only) shelf
  where
    why : (u : Unread) → (u ≡ unread.TooLong → IfSome (h.files old) (λ files. IsLongFile first.most (files text))) → (h.steady old → u ≡ unread.Failed → LacksFile (h.files old) text)
        → MayEnd program settings (h.files old) (h.steady old) (ending_of {M = M} (stop.First first.kind u))
    why unread.Failed long lacks =
        record {
          named = subst (λ o. IsSomeAnd o (λ r. IsNumber (named_in r) 0)) (sym is_reads) refl;
          before = before;
          absent = λ held. no_file (absent_file (h.files old) first.name (subst (LacksFile (h.files old)) same (lacks held refl)));
        }
    why unread.TooLong long lacks = too_long (subst (λ t. IfSome (h.files old) (λ files. IsLongFile first.most (files t))) same (long refl))
    why unread.NoMemory long lacks = tt
