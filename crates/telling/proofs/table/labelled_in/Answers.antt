use Rattle.telling.proofs.DownLemmas.{once_from}
use Rattle.telling.proofs.table.labelled_in.Goals as goal

pub returns-in-Ok : goal.returns-in-Ok
returns-in-Ok c =
    let table = c.in_ok-edges.ensures in
    let labels = c.in-Ok.ensures in
    record { opens = table.opens; only = table.only; once = once_from c.in_ok-edges.edges c.len-in-Ok.ensures.once; many = labels.many; labelled = labels.labels }
