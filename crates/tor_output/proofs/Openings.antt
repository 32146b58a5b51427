-- Which files a run of `tor` opened.
use Rattle.std.proofs.Common.{◌≡◌, ◌≤◌, ◌⊎◌, inl, inr, ℕ, List, ◌++◌, length, take, Option, None, Some, refl, sym, ap, subst, ◌∙◌, arith, append_assoc}
use Rattle.std.specs.Prelude.{IsSome}
use Rattle.std.proofs.lemmas.List.{append-nil}
use Rattle.std.proofs.Math.Seq.{take-length}
use Rattle.dump_read.specs.Refusals.{IsOfDump}
use Rattle.run_base.specs.declared.answer.Refusal.{Refusal}
use Rattle.run_base.specs.declared.answer.Refusal.TheVariants as refusal
use Rattle.run_base.specs.declared.reading.Stopped.{Stopped}
use Rattle.run_base.specs.Opening.{AllRead, EndedAt, Named, OpensDumps, OpensInOrder, first_named}
use Rattle.run_base.proofs.Openings.{stop_alone, stop_behind}
use Rattle.tor_output.specs.declared.unwritten.Unwritten.{Unwritten}
use Rattle.tor_output.specs.declared.unwritten.Unwritten.TheVariants as unwritten
use Rattle.tor_output.specs.Opening.{IsAtFirst, UnwrittenEnds}
use Rattle.tor_output.specs.Refusals.{past_limit}

-- ---- dumps

-- reading stopped at one of them
pub read_stopped : (dumps read before after : List (List ℕ)) (stopped : Stopped) → read ≡ dumps → (1 ≤ stopped.dump) × (stopped.dump ≤ length read)
    → IsOfDump stopped.dump stopped.error → after ≡ before ++ take stopped.dump read → OpensDumps 0 dumps (refusal.Dumps stopped) before after
read_stopped dumps read before after stopped these named placed opens = (
  placed,
  omega arith,
  subst (λ (ds : List (List ℕ)). stopped.dump ≤ length ds) these named.1,
  opens ∙ ap (λ ds. before ++ take stopped.dump ds) these,
)

-- memory ran out when all were read
pub memory_opens : (dumps before after : List (List ℕ)) → after ≡ before ++ dumps → (many : ℕ) × (after ≡ before ++ take many dumps)
memory_opens dumps before after is = (length dumps, is ∙ ap (λ ds. before ++ ds) (sym (take-length dumps)))

-- before the first of them
pub past_opens : (dumps : List (List ℕ)) (r : Refusal) (before : List (List ℕ)) {P : Type 0} → ((r ≡ past_limit) × P) ⊎ (r ≡ refusal.NoMemory) → OpensDumps 0 dumps r before before
past_opens dumps r before (inl past) = subst (λ (q : Refusal). OpensDumps 0 dumps q before before) (sym past.0) (tt, omega arith, omega arith, sym (append-nil before))
past_opens dumps r before (inr is) = subst (λ (q : Refusal). OpensDumps 0 dumps q before before) (sym is) (0, sym (append-nil before))

-- ---- behind the file that is read first, if one is named

module _ (given : Option (List ℕ)) (dumps before mid after : List (List ℕ)) (first : mid ≡ before ++ first_named given) where
  abbrev named : Option Named
  named = Some (record { first = given; dumps = dumps })

  -- it gave nothing
  pub first_stop : (u : Unwritten) → IsSome given → after ≡ mid → IsAtFirst u → OpensInOrder named (UnwrittenEnds u) before after
  first_stop u some same at_first = (EndedAt 0, at_first, (some, same ∙ first ∙ ap (λ t. before ++ t) (sym (append-nil (first_named given)))))

  -- all was read
  pub all_behind_first : after ≡ mid ++ dumps → OpensInOrder named (λ end. end ≡ AllRead) before after
  all_behind_first is = (AllRead, refl, is ∙ ap (λ t. t ++ dumps) first ∙ append_assoc before (first_named given) dumps)

-- reading stopped at one of the dumps
pub stop_behind_first : (given : Option (List ℕ)) (dumps before mid after : List (List ℕ)) (r : Refusal) → mid ≡ before ++ first_named given → OpensDumps 1 dumps r mid after
    → OpensInOrder (Some (record { first = given; dumps = dumps })) (UnwrittenEnds (unwritten.Refused r)) before after
stop_behind_first None dumps before mid after r first h =
    stop_alone before after dumps dumps r refl (subst (λ m. OpensDumps 1 dumps r m after) (first ∙ append-nil before) h)
stop_behind_first (Some name) dumps before mid after r first h = stop_behind before mid after dumps dumps name name 1 r refl refl first h

-- ---- by the words
