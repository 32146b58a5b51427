-- What a hunt makes of its files, by where it stops.
use Rattle.std.proofs.Common.{◌≡◌, ◌<◌, ◌⊎◌, ◌↔◌, ◌++◌, ◌∷◌, ◌∙◌, inl, inr, ℕ, List, [], length, Option, Some, None, Ok, Err, refl, sym, ap, subst, arith}
use Rattle.std.specs.Prelude.{IfSome, IsSome}
use Rattle.std.specs.Io.KnownBytes.{IsAtEnd}
use Rattle.std.proofs.Math.Seq.{take-length}
use Rattle.tor_arena.specs.Limits.{max_paths}
use Rattle.tor_io.specs.Contents.{Files}
use Rattle.tor_io.specs.declared.shelf.Shelf as shelf
use Rattle.path_table.specs.declared.table.AddRefused.{AddRefused}
use Rattle.path_table.specs.declared.table.AddRefused.TheVariants as refused
use Rattle.dump_read.specs.declared.error.DumpError.TheVariants as error
use Rattle.dump_read.specs.declared.error.LimitKind.TheVariants.{Bytes}
use Rattle.dump_read.specs.declared.taking.Taken.{Taken}
use Rattle.dump_read.specs.Reach.{ReadsBounded}
use Rattle.dump_read.specs.Refusals.{IsOfDump}
use Rattle.dump_read.specs.Wanted.{all_wanted}
use Rattle.result_text.specs.declared.file.ResultFile.{ResultFile}
use Rattle.tor_words.specs.declared.leak_settings.LeakSettings.{LeakSettings}
use Rattle.run_base.specs.declared.notes.FirstFile.TheVariants as kind
use Rattle.run_base.specs.declared.reading.Stopped.{Stopped}
use Rattle.run_base.specs.declared.stop.Stop.TheVariants as stop
use Rattle.run_base.specs.declared.whole_file.Unread.{Unread}
use Rattle.run_base.specs.declared.whole_file.Unread.TheVariants as unread
use Rattle.run_base.specs.Frames.{ReadsShelf}
use Rattle.run_base.specs.Programs.{First, Reads, DumpsGive, HasOctets}
use Rattle.run_base.specs.Promises.{MayEnd}
use Rattle.run_base.specs.Reading.{name_of_dump, nothing, seen_from}
use Rattle.run_base.specs.Stopping.{Asks, ReadsDumps, ending_at, ending_of}
use Rattle.run_base.specs.WholeFile.{IsLongFile, LeavesOnly, LeavesRest}
use Rattle.run_base.proofs.Askings.{ReadsFirst, all_made, dump_end, dumps_stopped, first_stopped, first_unread, whole_first}
use Rattle.run_base.proofs.Dumps.{dumps_give_as, reach_as_before, stops_as_before}
use Rattle.result_file.specs.declared.ruling.Ruling.TheVariants as ruling
use Rattle.result_file.specs.Limits.{max_result}
use Rattle.result_file.specs.Ruled.{IsRulingIn, IsUnruled}
use Rattle.torleak_run.specs.Hunting.{Basis, GiveBehind, HoldsSuch, error_of, hunting, limit_behind}
use Rattle.torleak_run.proofs.Lasts.{last_bounded}

abbrev its_result : LeakSettings → First
its_result settings = record { name = settings.result; most = max_result; kind = kind.Result }

abbrev its_reads : LeakSettings → Reads
its_reads settings = record { first = Some (its_result settings); dumps = settings.dumps }

abbrev made_of : Basis → Basis
made_of made = made

-- ---- the result

unread_end : (settings : LeakSettings) (known : Option Files) (steady : Type 0) (text : List ℕ) (u : Unread) → text ≡ settings.result → IsUnruled known steady text u
    → MayEnd hunting settings known steady (ending_of {M = Basis} (stop.First kind.Result u))
unread_end settings known steady text unread.Failed same why =
    record { named = refl; before = tt; absent = λ held. subst (λ t. IfSome known (λ files. files t ≡ None)) same (why held) }
unread_end settings known steady text unread.TooLong same why = subst (λ t. IfSome known (λ files. IsLongFile max_result (files t))) same why
unread_end settings known steady text unread.NoMemory same why = tt

-- it was not read
pub not_ruled : {H : Type 0} (settings : LeakSettings) (h : shelf.Ghosts H) (text : List ℕ) (u : Unread) (old new : H) → text ≡ settings.result → IsUnruled (h.files old) (h.steady old) text u
    → h.opens new ≡ h.opens old ++ text ∷ [] → (u ≡ unread.TooLong → LeavesRest max_result text (h.files old) (h.left new)) → LeavesOnly max_result text (h.files old) (h.left new)
    → ReadsShelf h (u ≡ unread.Failed) old new → Asks hunting settings h (λ (made : Basis). made) (Err (stop.First kind.Result u)) old new
not_ruled settings h text u old new same why opened rest only shelf =
    first_unread hunting settings (its_reads settings) refl h made_of (its_result settings) kind.Result u old new refl refl (unread_end settings (h.files old) (h.steady old) text u same why)
    (subst (λ t. h.opens new ≡ h.opens old ++ t ∷ []) same opened) (λ is. subst (λ t. LeavesRest max_result t (h.files old) (h.left new)) same (rest is))
    (subst (λ t. LeavesOnly max_result t (h.files old) (h.left new)) same only) shelf

module _ {H : Type 0} (settings : LeakSettings) (h : shelf.Ghosts H) (text : List ℕ) (old mid : H) (same : text ≡ settings.result) (opened : h.opens mid ≡ h.opens old ++ text ∷ [])
    (first : ReadsShelf h ⊥ old mid)
  where
    whole : ReadsFirst h (its_reads settings) old mid
    whole = whole_first h (its_result settings) settings.dumps text old mid same first.keeps.files opened first.keeps.steady (first.quiet (λ f. f))

    -- it breaks a rule
    pub broken : (line rule : ℕ) → IsRulingIn (h.files old) text (ruling.Broken line rule) → IsAtEnd (h.left mid) →
        Asks hunting settings h (λ (made : Basis). made) (Err (stop.Broken line rule)) old mid
    broken line rule ruled at_end =
        first_stopped hunting settings (its_reads settings) refl h made_of (its_result settings) (stop.Broken line rule) old mid refl whole
        (ruled.0, subst (λ t. HasOctets (h.files old) t max_result ruled.0) same ruled.1, ruled.2) tt refl at_end (λ f. f)

    -- it meets the rules 0 to 10
    module _ (file : ResultFile) (ruled : IsRulingIn (h.files old) text (ruling.Met file)) where
      held : HoldsSuch settings (h.files old) file
      held = (ruled.0, subst (λ t. HasOctets (h.files old) t max_result ruled.0) same ruled.1, ruled.2)

      -- reading of the dumps stopped
      pub dumps_end : (e : Stopped) (new : H) → ReadsDumps h (all_wanted file.sets) settings.dumps (nothing max_paths) (Err e) mid new →
          Asks hunting settings h (λ (made : Basis). made) (Err (stop.Dumps e)) old new
      dumps_end e new read =
          dumps_stopped hunting settings (its_reads settings) refl h made_of e old mid new whole
          (dump_end hunting settings (its_reads settings) (h.files old) (h.steady old) (all_wanted file.sets) (nothing max_paths) e.dump e.error refl
          (stops_as_before (h.files old) (h.files mid) (h.steady old) (h.steady mid) (all_wanted file.sets) settings.dumps (nothing max_paths) e.dump e.error first.keeps.files first.keeps.steady read.stopped)
          (λ end ends. (file, held, inl ends)) (λ n before. (file, held, before)))
          read.opens_stop (reach_as_before (h.files mid) (h.files old) settings.dumps (h.left new) e.dump e.error first.keeps.files read.reach) read.reads_shelf

      -- all were read
      module _ (taken : Taken) (new : H) (some : 0 < length settings.dumps) (read : ReadsDumps h (all_wanted file.sets) settings.dumps (nothing max_paths) (Ok taken) mid new) where
        give : GiveBehind settings (h.files old) file taken
        give = dumps_give_as (h.files old) (h.files mid) (all_wanted file.sets) settings.dumps (nothing max_paths) taken first.keeps.files read.given

        pub all_found : limit_behind file taken ≡ None → Asks hunting settings h (λ (made : Basis). made) (Ok (record { file = file; taken = taken })) old new
        all_found room =
            all_made hunting settings (its_reads settings) refl h made_of (record { file = file; taken = taken }) ⊥ old mid new whole
            (held, give, room) refl read.opens (read.read_out some) read.reads_shelf (λ f. f)

        -- and their paths pass a limit beside those of the result
        known_read : (known : Option Files) → DumpsGive known (all_wanted file.sets) settings.dumps (nothing max_paths) taken →
            IfSome known (λ files. seen_from (all_wanted file.sets) 1 (nothing max_paths) settings.dumps files ≡ Ok taken)
        known_read None given = tt
        known_read (Some files) given = given

        bounded : (IsSome (h.files new) ↔ IsSome (h.left new)) → ReadsBounded (name_of_dump settings.dumps (length settings.dumps)) (h.files old) (h.left new)
        bounded together =
            let same_files : h.files new ≡ h.files old = read.reads_shelf.keeps.files ∙ first.keeps.files in
            last_bounded (h.files old) (h.left new) (all_wanted file.sets) (nothing max_paths) taken settings.dumps
            (subst (λ (known : Option Files). IsSome known ↔ IsSome (h.left new)) same_files together) (read.read_out some) some (known_read (h.files old) give)

        may : (why : AddRefused) → (why ≡ refused.NoMemory) ⊎ (limit_behind file taken ≡ Some why) →
            MayEnd hunting settings (h.files old) (h.steady old) (ending_at {M = Basis} (length settings.dumps) (error_of why))
        may refused.TooManyPaths (inl memory) = absurd cc
        may refused.TooManyPaths (inr is) = (file, held, inr (taken, give, (refused.TooManyPaths, is, refl)))
        may refused.TooManyNumbers (inl memory) = absurd cc
        may refused.TooManyNumbers (inr is) = (file, held, inr (taken, give, (refused.TooManyNumbers, is, refl)))
        may refused.NoMemory is = tt

        placed : (why : AddRefused) → IsOfDump (length settings.dumps) (error_of why)
        placed refused.TooManyPaths = tt
        placed refused.TooManyNumbers = tt
        placed refused.NoMemory = tt

        no_bytes : {X : Type 0} (why : AddRefused) → error_of why ≡ error.Limit Bytes → X
        no_bytes refused.TooManyPaths is = absurd cc
        no_bytes refused.TooManyNumbers is = absurd cc
        no_bytes refused.NoMemory is = absurd cc

        no_fault : (why : AddRefused) → error_of why ≡ error.ReadFault → ⊥
        no_fault refused.TooManyPaths is = cc
        no_fault refused.TooManyNumbers is = cc
        no_fault refused.NoMemory is = cc

        pub limit_end : (IsSome (h.files new) ↔ IsSome (h.left new)) → (why : AddRefused) → (why ≡ refused.NoMemory) ⊎ (limit_behind file taken ≡ Some why) →
            Asks hunting settings h (λ (made : Basis). made) (Err (stop.Dumps (record { dump = length settings.dumps; error = error_of why }))) old new
        limit_end together why is =
            dumps_stopped hunting settings (its_reads settings) refl h made_of (record { dump = length settings.dumps; error = error_of why }) old mid new whole (may why is)
            (read.opens ∙ ap (λ (names : List (List ℕ)). h.opens mid ++ names) (sym (take-length settings.dumps)))
            (record {
              from_one = omega (arith, some);
              named = omega arith;
              placed = placed why;
              bounded = inl (bounded together);
              shown = λ bytes. no_bytes why bytes;
            })
            (record { keeps = read.reads_shelf.keeps; rose = λ fault. absurd (no_fault why fault); quiet = λ _. read.reads_shelf.quiet (λ f. f) })
