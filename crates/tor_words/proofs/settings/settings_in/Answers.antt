use Rattle.std.proofs.Common.{Some, ◌∙◌, ap, sym}
use Rattle.clap.specs.Words.{found_of, rows_of}
use Rattle.tor_words.proofs.Chosen.{settings-are, no-job, no-top}
use Rattle.tor_words.proofs.settings.settings_in.Goals as goal

pub returns-in-Ok-top_in-clause-ok : goal.returns-in-Ok-top_in-clause-ok
returns-in-Ok-top_in-clause-ok c =
    let by = c.in-Ok.choices in
    let are = c.in-Ok.ensures in
    settings-are (rows_of (found_of c.args.matches.now)) by.task by.sets by.order by.ratio by.max_paths c.in-Ok-job_in.job c.in-Ok-top_in.top
    (record { wanted = are.task; cut = are.sets; taken = are.order; times = are.ratio; limit = are.most }) c.in-Ok-top_in.ensures.ok c.in-Ok-job_in.ensures.ok
    ∙ ap (λ s. Some s) (sym c.settings_by.ensures)

pub returns-in-Err-top_in-clause-err : goal.returns-in-Err-top_in-clause-err
returns-in-Err-top_in-clause-err c usage =
    let by = c.in-Ok.choices in
    let are = c.in-Ok.ensures in
    no-top (rows_of (found_of c.args.matches.now)) by.task by.sets by.order by.ratio by.max_paths
    (record { wanted = are.task; cut = are.sets; taken = are.order; times = are.ratio; limit = are.most }) (c.in-Err-top_in.ensures.err usage)

pub returns-in-Err-job_in-clause-err : goal.returns-in-Err-job_in-clause-err
returns-in-Err-job_in-clause-err c usage =
    let by = c.in-Ok.choices in
    let are = c.in-Ok.ensures in
    no-job (rows_of (found_of c.args.matches.now)) by.task by.sets by.order by.ratio by.max_paths
    (record { wanted = are.task; cut = are.sets; taken = are.order; times = are.ratio; limit = are.most }) (c.in-Err-job_in.ensures.err usage)
