use Rattle.std.proofs.Common.{◌∙◌, ℕ, List, Option, unwrap_or, ap, sym, subst}
use Rattle.relationships.specs.declared.given.Given.{Given}
use Rattle.path_table.specs.Rows.{row_paths}
use Rattle.result_rules.specs.Rules.{Accepts}
use Rattle.top_laws.proofs.StillMet.{top_more_law}
use Rattle.tor_output.specs.Begun.{knowing}
use Rattle.tor_output.specs.Knowing.{known_on}
use Rattle.tor_output.proofs.Knowings.{first_own, further_is}
use Rattle.tor_output.proofs.resuming.known_further.Goals as goal

pub returns-in-Ok-clause-known : goal.returns-in-Ok-clause-known
returns-in-Ok-clause-known c = λ old left begins.
    let paths = row_paths c.args.paths.now in
    let start = c.unwrap_or-givens.ensures ∙ ap (λ (o : Option (List Given)). unwrap_or o c.new.result) c.take.ensures.value ∙ ap (unwrap_or c.args.earlier.givens) c.new.ensures in
    record {
      sets = left.sets;
      givens = further_is c.in-Some.top c.as_slice.result.now old c.unwrap_or-givens.result c.bind_top.new.givens c.args.earlier.givens paths c.rows.result.now c.len-first.result
          c.as_slice.ensures c.rows.ensures left.givens start (first_own old c.args.earlier paths c.len-first.result left begins c.len-first.ensures) c.in-Ok.ensures.bound ∙
          ap (λ (t : Option (List ℕ)). known_on t old paths) (sym c.in-Some.is);
      fates = left.fates;
      edges = left.edges;
      few = left.few;
    }

pub returns-in-Ok-clause-begins : goal.returns-in-Ok-clause-begins
returns-in-Ok-clause-begins c =
    let begun = c.requires.begins in
    let paths = row_paths c.args.paths.now in
    record {
      file = knowing (known_on c.args.top.now begun.file paths) begun.file;
      left = returns-in-Ok-clause-known c begun.file begun.left begun.begins;
      accepted = subst (λ (t : Option (List ℕ)). Accepts (knowing (known_on t begun.file paths) begun.file)) (sym c.in-Some.is)
          (top_more_law begun.file c.in-Some.top paths begun.accepted);
      begins = begun.begins;
    }
