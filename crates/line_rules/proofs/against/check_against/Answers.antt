use Rattle.std.proofs.Common.{refl}
use Rattle.line_rules.proofs.AgainstLemmas.{path_departs}
use Rattle.line_rules.proofs.against.check_against.Goals as goal

pub returns-in-Some-differing_path : goal.returns-in-Some-differing_path
returns-in-Some-differing_path c = record {
  verdict = path_departs c.args.file.now c.args.table.now.rows c.args.asides.now c.in-Some-differing_path.place c.path_line.result 11 c.in_default.ensures
      c.in-Some-differing_path.ensures.1 c.path_line.ensures refl;
}
