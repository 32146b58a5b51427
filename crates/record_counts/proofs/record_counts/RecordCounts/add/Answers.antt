use Rattle.std.proofs.Common.{rules, ◌≡◌, ◌+◌, Some, ap, sym, ◌∙◌}
use Rattle.record_counts.specs.Counting.{with_more, capped}
use Rattle.record_counts.specs.Runs.{with_run}
use Rattle.record_counts.proofs.Runs.{more_twice}
use Rattle.record_counts.proofs.record_counts.RecordCounts.add.Goals as goal

pub returns-clause-ok : goal.returns-clause-ok
returns-clause-ok c =
    let run = c.in-Some.run' in
    let entries = c.self.inside.counts.entries in
    let same : run.record_type ≡ c.args.record_type = search rules in
    let sum : c.saturating_add-run.result ≡ capped (run.records + c.args.records) = search rules in
    let last : c.self.inside.last ≡ Some run = search rules in
    ap (λ n. with_more run.record_type n entries) sum
    ∙ sym (more_twice run.record_type run.records c.args.records entries)
    ∙ ap (with_more run.record_type c.args.records) (ap (λ r. with_run r entries) (sym last) ∙ c.self.view_is)
    ∙ ap (λ t. with_more t c.args.records c.args.self.now) same
