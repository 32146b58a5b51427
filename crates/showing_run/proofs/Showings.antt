-- What a program shows of a result, by where it stops.
use Rattle.std.proofs.Common.{◌≡◌, ◌++◌, ◌∷◌, ℕ, List, [], Some, None, Result, Ok, Err, refl, sym, subst, arith}
use Rattle.std.specs.Prelude.{IfOk, IfErr}
use Rattle.std.specs.Io.KnownBytes.{IsAtEnd}
use Rattle.std.proofs.lemmas.List.{append-nil}
use Rattle.tor_io.specs.declared.shelf.Shelf as shelf
use Rattle.result_text.specs.declared.file.ResultFile.{ResultFile}
use Rattle.run_base.specs.declared.notes.FirstFile.TheVariants.{Result as result_file}
use Rattle.run_base.specs.declared.stop.Stop.{Stop}
use Rattle.run_base.specs.declared.stop.Stop.TheVariants as stop
use Rattle.run_base.specs.declared.whole_file.Unread.{Unread}
use Rattle.run_base.specs.declared.whole_file.Unread.TheVariants as unread
use Rattle.run_base.specs.Frames.{ReadsShelf}
use Rattle.run_base.specs.Programs.{First, Reads}
use Rattle.run_base.specs.Promises.{MayEnd}
use Rattle.run_base.specs.Stopping.{Asks, IsFailedCall, ending_of}
use Rattle.run_base.proofs.Askings.{ReadsFirst, all_made, first_stopped, first_unread}
use Rattle.result_file.specs.Limits.{max_result}
use Rattle.showing_run.specs.Asking.{Asking, HoldsMet, showing}
use Rattle.showing_run.specs.Unmet.{HoldsNone, HoldsNoneInReach, IsUnanswered, SaysAbsent}

-- the note says that it isn't there, and so it is
pub absent_unanswered : {S : Type 0} (ask : Asking S) (settings : S) (file : ResultFile) (e : Stop) → ask.IsAnswer settings file None → SaysAbsent (ask.absent settings) e
    → IsUnanswered ask settings file e
absent_unanswered ask settings file (stop.First name why) none is = is
absent_unanswered ask settings file (stop.BadLine name line) none is = is
absent_unanswered ask settings file (stop.Broken line rule) none is = is
absent_unanswered ask settings file (stop.Lacks note) none is = (is, none)
absent_unanswered ask settings file (stop.Dumps stopped) none is = is
absent_unanswered ask settings file stop.NoMemory none is = is

module _ {S R H : Type 0} (ask : Asking S) (settings : S) (h : shelf.Ghosts H) (made_of : R → ResultFile) (old new : H) where
  abbrev its_first : First
  its_first = record { name = ask.result settings; most = max_result; kind = result_file }

  abbrev its_reads : Reads
  its_reads = record { first = Some its_first; dumps = [] }

  abbrev Opens : List ℕ → Type 0
  Opens name = h.opens new ≡ h.opens old ++ name ∷ []

  whole : Opens its_first.name → ReadsShelf h ⊥ old new → ReadsFirst h its_reads old new
  whole opened shelf = record { files = shelf.keeps.files; opens = opened; steady = shelf.keeps.steady; quiet = shelf.quiet (λ f. f) }

  -- no call was made
  as_is : (s : H) → ReadsShelf h ⊥ s s
  as_is s = record { keeps = record { files = refl; steady = λ held. held; later = omega arith }; rose = λ f. absurd f; quiet = λ _. refl }

  -- ---- the file holds no result that meets the rules

  unmet_by : (e : Stop) → HoldsNone (h.files old) (h.steady old) its_first.name e → HoldsNoneInReach (h.files old) (h.left new) its_first.name e → Opens its_first.name
      → ReadsShelf h (IsFailedCall e) old new → Asks (showing ask) settings h made_of (Err e) old new
  unmet_by (stop.First file u) unmet reach opened shelf =
      first_unread (showing ask) settings its_reads refl h made_of its_first file u old new refl (sym (kind u unmet)) (why u unmet) opened reach.1 reach.0 shelf
    where
      kind : (u : Unread) → HoldsNone (h.files old) (h.steady old) its_first.name (stop.First file u) → file ≡ result_file
      kind unread.Failed unmet = unmet.0
      kind unread.TooLong unmet = unmet.0
      kind unread.NoMemory unmet = unmet

      why : (u : Unread) → HoldsNone (h.files old) (h.steady old) its_first.name (stop.First file u)
          → MayEnd (showing ask) settings (h.files old) (h.steady old) (ending_of {M = ResultFile} (stop.First file u))
      why unread.Failed unmet = record { named = refl; before = tt; absent = unmet.1 }
      why unread.TooLong unmet = unmet.1
      why unread.NoMemory unmet = tt
  unmet_by (stop.BadLine file line) unmet reach opened shelf = absurd unmet
  unmet_by (stop.Broken line rule) unmet reach opened shelf =
      first_stopped (showing ask) settings its_reads refl h made_of its_first (stop.Broken line rule) old new refl (whole opened shelf) unmet tt refl reach (λ f. f)
  unmet_by (stop.Lacks note) unmet reach opened shelf = absurd unmet
  unmet_by (stop.Dumps stopped) unmet reach opened shelf = absurd unmet
  unmet_by stop.NoMemory unmet reach opened shelf = absurd unmet

  pub unmet_asks : (name : List ℕ) (e : Stop) → name ≡ ask.result settings → HoldsNone (h.files old) (h.steady old) name e → HoldsNoneInReach (h.files old) (h.left new) name e → Opens name
      → ReadsShelf h (IsFailedCall e) old new → Asks (showing ask) settings h made_of (Err e) old new
  unmet_asks name e same unmet reach opened shelf =
      unmet_by e (subst (λ n. HoldsNone (h.files old) (h.steady old) n e) same unmet) (subst (λ n. HoldsNoneInReach (h.files old) (h.left new) n e) same reach) (subst Opens same opened) shelf

  -- ---- it holds one

  abbrev Answers : Result R Stop → ResultFile → Type 0
  Answers r file = IfOk r (λ t. (made_of t ≡ file) × ((text : List ℕ) × ask.IsAnswer settings (made_of t) (Some text))) × IfErr r (IsUnanswered ask settings file)

  answered_by : (r : Result R Stop) (file : ResultFile) → HoldsMet (h.files old) its_first.name file → IsAtEnd (h.left new) → Opens its_first.name → ReadsShelf h ⊥ old new → Answers r file
      → Asks (showing ask) settings h made_of r old new
  answered_by (Ok t) file met end opened shelf answers =
      all_made (showing ask) settings its_reads refl h made_of t ⊥ old new new (whole opened shelf)
      (subst (HoldsMet (h.files old) its_first.name) (sym answers.0.0) met, answers.0.1) refl (sym (append-nil (h.opens new))) end (as_is new) (λ f. f)
  answered_by (Err e) file met end opened shelf answers = lacking e answers.1
    where
      lacking : (e : Stop) → IsUnanswered ask settings file e → Asks (showing ask) settings h made_of (Err e) old new
      lacking (stop.First name u) is = absurd is
      lacking (stop.BadLine name line) is = absurd is
      lacking (stop.Broken line rule) is = absurd is
      lacking (stop.Lacks note) is =
          first_stopped (showing ask) settings its_reads refl h made_of its_first (stop.Lacks note) old new refl (whole opened shelf) (is.0, (file, met, is.1)) tt refl end (λ f. f)
      lacking (stop.Dumps stopped) is = absurd is
      lacking stop.NoMemory is = first_stopped (showing ask) settings its_reads refl h made_of its_first stop.NoMemory old new refl (whole opened shelf) tt tt tt tt (λ f. f)

  pub answered_asks : (name : List ℕ) (r : Result R Stop) (file : ResultFile) → name ≡ ask.result settings → HoldsMet (h.files old) name file → IsAtEnd (h.left new) → Opens name
      → ReadsShelf h ⊥ old new → IfOk r (λ t. made_of t ≡ file) → IfOk r (λ t. (text : List ℕ) × ask.IsAnswer settings (made_of t) (Some text)) → IfErr r (IsUnanswered ask settings file)
      → Asks (showing ask) settings h made_of r old new
  answered_asks name r file same met end opened shelf is some none =
      answered_by r file (subst (λ n. HoldsMet (h.files old) n file) same met) end (subst Opens same opened) shelf (both r is some, none)
    where
      both : (r : Result R Stop) → IfOk r (λ t. made_of t ≡ file) → IfOk r (λ t. (text : List ℕ) × ask.IsAnswer settings (made_of t) (Some text))
          → IfOk r (λ t. (made_of t ≡ file) × ((text : List ℕ) × ask.IsAnswer settings (made_of t) (Some text)))
      both (Ok t) is some = (is, some)
      both (Err e) is some = tt
