-- The counts of a few records, computed.
use Rattle.std.proofs.Common.{◌≡◌, ℕ, [], ◌∷◌, refl}
use Rattle.record_counts.specs.declared.type_count.RecordType.{RecordType}
use Rattle.record_counts.specs.Counting.{with_more, counts_together}

abbrev of : ℕ → ℕ → RecordType
of kind subtype = record { kind = kind; subtype = subtype }

-- an update message, and then a peer table: the lesser type stands first
ascending : with_more (of 13 1) 1 (with_more (of 16 4) 1 []) ≡ (of 13 1, 1) ∷ (of 16 4, 1) ∷ []
unfolding with_more
ascending = refl

-- of one type the lesser subtype stands first, and what is known gains
by_subtype : with_more (of 13 4) 2 (with_more (of 13 2) 1 (with_more (of 13 4) 1 [])) ≡ (of 13 2, 1) ∷ (of 13 4, 3) ∷ []
unfolding with_more
by_subtype = refl

-- of two counts
joined : counts_together ((of 13 2, 5) ∷ []) ((of 12 1, 1) ∷ (of 13 2, 7) ∷ []) ≡ (of 12 1, 1) ∷ (of 13 2, 12) ∷ []
unfolding counts_together with_more
joined = refl
