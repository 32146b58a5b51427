use Rattle.result_file.proofs.FewLines.{few_lines}
use Rattle.result_file.proofs.ruling.ruling_of_file.Goals as goal

pub ruling_of-requires : goal.ruling_of-requires
ruling_of-requires g c =
    let read = c.in-Ok.ensures.text in
    record { lines = few_lines c.in-Ok.file read.octets read.such read.short }
