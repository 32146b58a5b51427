-- What a check makes of its files, where it stops.
use Rattle.dump_read.specs.Wanted.{all_wanted}
use Rattle.std.proofs.Common.{◌≡◌, ◌++◌, ◌∷◌, ℕ, List, [], take, Option, Some, None, Err, refl, subst}
use Rattle.std.specs.Prelude.{IfSome}
use Rattle.tor_arena.specs.Limits.{max_paths}
use Rattle.tor_io.specs.Contents.{Files}
use Rattle.tor_io.specs.declared.shelf.Shelf as shelf
use Rattle.dump_read.specs.declared.error.DumpError.TheVariants as error
use Rattle.result_text.specs.declared.file.ResultFile.{ResultFile}
use Rattle.tor_words.specs.declared.check_settings.CheckSettings.{CheckSettings}
use Rattle.run_base.specs.declared.notes.FirstFile.TheVariants.{Result}
use Rattle.run_base.specs.declared.reading.Stopped.{Stopped}
use Rattle.run_base.specs.declared.stop.Stop.TheVariants as stop
use Rattle.run_base.specs.declared.whole_file.Unread.{Unread}
use Rattle.run_base.specs.declared.whole_file.Unread.TheVariants as unread
use Rattle.run_base.specs.Frames.{ReadsShelf}
use Rattle.run_base.specs.Programs.{First, Reads, HasOctets}
use Rattle.run_base.specs.Promises.{MayEnd}
use Rattle.run_base.specs.Reach.{IsDumpInReach}
use Rattle.run_base.specs.Reading.{nothing}
use Rattle.run_base.specs.Stopping.{Asks, StopsDumps, ending_of}
use Rattle.run_base.specs.WholeFile.{IsLongFile, LeavesOnly, LeavesRest}
use Rattle.run_base.proofs.Askings.{dump_end, dumps_stopped, first_unread, whole_first}
use Rattle.run_base.proofs.Dumps.{reach_as_before, stops_as_before}
use Rattle.result_file.specs.Limits.{max_result}
use Rattle.result_file.specs.Ruled.{IsAccepted, IsUnruled}
use Rattle.torcheck_run.specs.declared.judging.Judged.{Judged}
use Rattle.torcheck_run.specs.Checking.{Holds, checking}

abbrev pub result_file : CheckSettings → First
result_file settings = record { name = settings.result; most = max_result; kind = Result }

abbrev its_reads : CheckSettings → Reads
its_reads settings = record { first = Some (result_file settings); dumps = settings.dumps }

-- the result file was not read
unread_end : (settings : CheckSettings) (known : Option Files) (steady : Type 0) (text : List ℕ) (u : Unread) → text ≡ settings.result → IsUnruled known steady text u
    → MayEnd checking settings known steady (ending_of {M = Judged} (stop.First Result u))
unread_end settings known steady text unread.Failed same why =
    record { named = refl; before = tt; absent = λ held. subst (λ t. IfSome known (λ files. files t ≡ None)) same (why held) }
unread_end settings known steady text unread.TooLong same why = subst (λ t. IfSome known (λ files. IsLongFile max_result (files t))) same why
unread_end settings known steady text unread.NoMemory same why = tt

pub not_ruled : {H : Type 0} (settings : CheckSettings) (h : shelf.Ghosts H) (text : List ℕ) (u : Unread) (old new : H) → text ≡ settings.result → IsUnruled (h.files old) (h.steady old) text u
    → h.opens new ≡ h.opens old ++ text ∷ [] → (u ≡ unread.TooLong → LeavesRest max_result text (h.files old) (h.left new)) → LeavesOnly max_result text (h.files old) (h.left new)
    → ReadsShelf h (u ≡ unread.Failed) old new → Asks checking settings h (λ (j : Judged). j) (Err (stop.First Result u)) old new
not_ruled settings h text u old new same why opened rest only shelf =
    first_unread checking settings (its_reads settings) refl h (λ j. j) (result_file settings) Result u old new refl refl (unread_end settings (h.files old) (h.steady old) text u same why)
    (subst (λ t. h.opens new ≡ h.opens old ++ t ∷ []) same opened) (λ is. subst (λ t. LeavesRest max_result t (h.files old) (h.left new)) same (rest is))
    (subst (λ t. LeavesOnly max_result t (h.files old) (h.left new)) same only) shelf

-- it holds this result, which meets the rules 0 to 10
pub held : (settings : CheckSettings) (known : Option Files) (text : List ℕ) (file : ResultFile) → text ≡ settings.result
    → (bytes : List ℕ) × HasOctets known text max_result bytes × IsAccepted file bytes → Holds settings known file
held settings known text file same is = (is.0, subst (λ t. HasOctets known t max_result is.0) same is.1, is.2)

-- and reading of the dumps stopped
pub dumps_end : {H : Type 0} (settings : CheckSettings) (h : shelf.Ghosts H) (text : List ℕ) (dumps : List (List ℕ)) (file : ResultFile) (e : Stopped) (old mid new : H) → text ≡ settings.result
    → dumps ≡ settings.dumps → (bytes : List ℕ) × HasOctets (h.files old) text max_result bytes × IsAccepted file bytes → h.opens mid ≡ h.opens old ++ text ∷ [] → ReadsShelf h ⊥ old mid
    → StopsDumps (h.files mid) (h.steady mid) (all_wanted file.sets) dumps (nothing max_paths) e.dump e.error → h.opens new ≡ h.opens mid ++ take e.dump dumps
    → IsDumpInReach dumps (h.files mid) (h.left new) e.dump e.error → ReadsShelf h (e.error ≡ error.ReadFault) mid new
    → Asks checking settings h (λ (j : Judged). j) (Err (stop.Dumps e)) old new
dumps_end settings h text dumps file e old mid new same same_dumps is opened first stops opened_dumps reach shelf =
    let holds = held settings (h.files old) text file same is in
    dumps_stopped checking settings (its_reads settings) refl h (λ j. j) e old mid new
    (whole_first h (result_file settings) settings.dumps text old mid same first.keeps.files opened first.keeps.steady (first.quiet (λ f. f)))
    (dump_end checking settings (its_reads settings) (h.files old) (h.steady old) (all_wanted file.sets) (nothing max_paths) e.dump e.error refl
    (subst (λ d. StopsDumps (h.files old) (h.steady old) (all_wanted file.sets) d (nothing max_paths) e.dump e.error) same_dumps
    (stops_as_before (h.files old) (h.files mid) (h.steady old) (h.steady mid) (all_wanted file.sets) dumps (nothing max_paths) e.dump e.error first.keeps.files first.keeps.steady stops))
    (λ end ends. (file, holds, ends)) (λ n before. (file, holds, before)))
    (subst (λ d. h.opens new ≡ h.opens mid ++ take e.dump d) same_dumps opened_dumps)
    (subst (λ d. IsDumpInReach d (h.files old) (h.left new) e.dump e.error) same_dumps (reach_as_before (h.files mid) (h.files old) dumps (h.left new) e.dump e.error first.keeps.files reach)) shelf
