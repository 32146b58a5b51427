use Rattle.path_segments.specs.declared.as_path.Width.TheVariants.{Four}
use Rattle.path_segments.proofs.PathLemmas.{few_count}
use Rattle.path_segments.proofs.path_cursor.as4_segments.Goals as goal

pub returns-in-Some-clause-few : goal.returns-in-Some-clause-few
returns-in-Some-clause-few c = few_count Four c.in-Some.value.now c.over.result c.over.ensures c.in-Some.ensures.within
