-- Files that are opened one behind the other.
use Rattle.std.proofs.Common.{◌≡◌, ◌≤◌, ◌<◌, ◌+◌, inl, inr, ℕ, zero, suc, List, [], ◌∷◌, ◌++◌, length, take, get_or, Option, None, Some, refl, sym, ap, subst, ◌∙◌, append_assoc, arith}
use Rattle.std.proofs.lemmas.List.{append-nil, take_more}
use Rattle.run_base.specs.declared.answer.Refusal.{Refusal}
use Rattle.run_base.specs.declared.answer.Refusal.TheVariants as refusal
use Rattle.run_base.specs.Opening.{Named, FilesEnd, EndedAt, Behind, OpensInOrder, OpensDumps, RefusalEnds, IsNumber}

-- one dump more, of a name that is written so
pub dump_opened : (before mid after dumps : List (List ℕ)) (i : ℕ) (name text : List ℕ) → i < length dumps → name ≡ get_or dumps i name → text ≡ name → mid ≡ before ++ take i dumps
    → after ≡ mid ++ text ∷ [] → after ≡ before ++ take (i + 1) dumps
dump_opened before mid after dumps i name text lt is same so_far one =
    one ∙ ap (λ m. m ++ text ∷ []) so_far ∙ ap (λ t. before ++ take i dumps ++ t ∷ []) (same ∙ is) ∙ append_assoc before (take i dumps) (get_or dumps i name ∷ [])
    ∙ ap (λ t. before ++ t) (sym (take_more dumps i name lt))

-- ---- a file that is read first, and the dumps behind it

behind : (before mid after rest : List (List ℕ)) (name text : List ℕ) → text ≡ name → mid ≡ before ++ text ∷ [] → after ≡ mid ++ rest → after ≡ before ++ name ∷ rest
behind before mid after rest name text same first is =
    is ∙ ap (λ m. m ++ rest) (first ∙ ap (λ t. before ++ t ∷ []) same) ∙ append_assoc before (name ∷ []) rest

-- and then those up to the one at which reading stopped
pub stop_behind : (before mid after dumps others : List (List ℕ)) (name text : List ℕ) (least : ℕ) (r : Refusal) → text ≡ name → dumps ≡ others → mid ≡ before ++ text ∷ []
    → OpensDumps least dumps r mid after → OpensInOrder (Some (record { first = Some name; dumps = others })) (RefusalEnds r) before after
stop_behind before mid after dumps others name text least (refusal.Words w) same these first h = absurd h
stop_behind before mid after dumps others name text least (refusal.Dumps stopped) same these first h =
    let within : stopped.dump ≤ length others = subst (λ (ds : List (List ℕ)). stopped.dump ≤ length ds) these h.2 in
    let opens = h.3 ∙ ap (λ ds. mid ++ take stopped.dump ds) these in
    (EndedAt stopped.dump, (h.0, refl), (numbered stopped.dump within, behind before mid after (take stopped.dump others) name text same first opens))
  where
    numbered : (n : ℕ) → n ≤ length others → IsNumber (record { first = Some name; dumps = others }) n
    numbered zero within = refl
    numbered (suc n) within = within
stop_behind before mid after dumps others name text least refusal.NoMemory same these first h =
    (Behind (suc h.0), tt, behind before mid after (take h.0 others) name text same first (h.1 ∙ ap (λ ds. mid ++ take h.0 ds) these))

-- ---- dumps alone

pub stop_alone : (before after dumps others : List (List ℕ)) (r : Refusal) → dumps ≡ others → OpensDumps 1 dumps r before after
    → OpensInOrder (Some (record { first = None; dumps = others })) (RefusalEnds r) before after
stop_alone before after dumps others (refusal.Words w) these h = absurd h
stop_alone before after dumps others (refusal.Dumps stopped) these h =
    let within : stopped.dump ≤ length others = subst (λ (ds : List (List ℕ)). stopped.dump ≤ length ds) these h.2 in
    (EndedAt stopped.dump, (h.0, refl), (numbered stopped.dump h.1 within, h.3 ∙ ap (λ ds. before ++ take stopped.dump ds) these))
  where
    numbered : (n : ℕ) → 1 ≤ n → n ≤ length others → IsNumber (record { first = None; dumps = others }) n
    numbered zero least within = absurd (omega (arith, least))
    numbered (suc n) least within = within
stop_alone before after dumps others refusal.NoMemory these h = (Behind h.0, tt, h.1 ∙ ap (λ ds. before ++ take h.0 ds) these)

-- the same files, up to a wider end
pub opens_weaker : (o : Option Named) (Such Other : FilesEnd → Type 0) (before after : List (List ℕ)) → ((end : FilesEnd) → Such end → Other end) → OpensInOrder o Such before after
    → OpensInOrder o Other before after
opens_weaker None Such Other before after other h = h
opens_weaker (Some named) Such Other before after other h = (h.0, other h.0 h.1, h.2)
