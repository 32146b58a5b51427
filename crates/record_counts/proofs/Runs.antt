-- Records of one type that are counted twice.
use Rattle.std.proofs.Common.{◌≡◌, ◌+◌, ℕ, refl, sym, ap, ◌∙◌, arith}
use Rattle.record_counts.specs.declared.type_count.RecordType.{RecordType}
use Rattle.record_counts.specs.Counting.{Counts, with_more, count_of, capped, type_cmp}
use Rattle.record_counts.proofs.Inserting.{again-insert_entry}
use Rattle.record_counts.proofs.CountedLemmas.{types_total, gained}
use Rattle.std.specs.BTreeMap.{insert_entry}

capped_twice : (c m n : ℕ) → capped (capped (c + m) + n) ≡ capped (c + capped (m + n))
capped_twice c m n = omega arith

opened : (t : RecordType) (m : ℕ) (counts : Counts) → with_more t m counts ≡ insert_entry type_cmp counts t (capped (count_of t counts + m))
unfolding with_more
opened t m counts = refl

-- more of a type twice is once more of both together
pub more_twice : (t : RecordType) (m n : ℕ) (counts : Counts)
    → with_more t n (with_more t m counts) ≡ with_more t (capped (m + n)) counts
more_twice t m n counts =
    let c = count_of t counts in
    let more = with_more t m counts in
    opened t n more
    ∙ ap (λ count. insert_entry type_cmp more t (capped (count + n))) (gained t m counts)
    ∙ ap (λ es. insert_entry type_cmp es t (capped (capped (c + m) + n))) (opened t m counts)
    ∙ again-insert_entry types_total t (capped (c + m)) (capped (capped (c + m) + n)) counts
    ∙ ap (insert_entry type_cmp counts t) (capped_twice c m n)
    ∙ sym (opened t (capped (m + n)) counts)
