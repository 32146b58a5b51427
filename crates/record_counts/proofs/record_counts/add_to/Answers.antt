use Rattle.std.proofs.Common.{◌≡◌, ◌+◌, Some, None, ap, sym, ◌∙◌, unwrap_or, rules}
use Rattle.std.specs.BTreeMap.{insert_entry, is_at}
use Rattle.std.specs.Map.{lookup}
use Rattle.record_counts.specs.Counting.{with_more, type_cmp, capped}
use Rattle.record_counts.proofs.Inserting.{set_value-insert_entry}
use Rattle.record_counts.proofs.CountedLemmas.{types_total}
use Rattle.record_counts.proofs.record_counts.add_to.Goals as goal

pub returns-in-Some-clause-ok : goal.returns-in-Some-clause-ok
unfolding with_more
returns-in-Some-clause-ok c =
    let found : lookup (is_at (type_cmp c.args.record_type)) c.args.counts.now.entries ≡ Some c.in-Some.count.now = search rules in
    let sum : c.saturating_add.result ≡ capped (c.in-Some.count.now + c.args.records) = search rules in
    (c.get_mut.follows.holds c.saturating_add.result).0
    ∙ set_value-insert_entry types_total c.args.record_type c.saturating_add.result c.in-Some.count.now c.args.counts.now.entries
    c.get_mut.ensures.ordered found
    ∙ ap (insert_entry type_cmp c.args.counts.now.entries c.args.record_type)
    (sum ∙ ap (λ before. capped (unwrap_or before 0 + c.args.records)) (sym found))

pub returns-clause-ok : goal.returns-clause-ok
unfolding with_more
returns-clause-ok c =
    let none : lookup (is_at (type_cmp c.args.record_type)) c.args.counts.now.entries ≡ None = search rules in
    let sum : c.args.records ≡ capped (0 + c.args.records) = search rules in
    c.in_ok-insert.ensures.entries
    ∙ ap (λ m. insert_entry type_cmp m.entries c.args.record_type c.args.records) c.get_mut.follows.holds-at-none
    ∙ ap (insert_entry type_cmp c.args.counts.now.entries c.args.record_type)
    (sum ∙ ap (λ before. capped (unwrap_or before 0 + c.args.records)) (sym none))
