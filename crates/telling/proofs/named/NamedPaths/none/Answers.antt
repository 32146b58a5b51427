use Rattle.std.proofs.Common.{◌≡◌, [], false, replicate, rules, sym, subst}
use Rattle.telling.specs.PathText.{AreFlagged}
use Rattle.telling.proofs.NamingLemmas.{none_named}
use Rattle.telling.proofs.named.NamedPaths.none.Goals as goal

pub returns-clause-none : goal.returns-clause-none
returns-clause-none c =
    let all : c.in_ok-flags.flags.items ≡ replicate c.args.count false = search rules in
    subst (AreFlagged []) (sym all) (none_named c.args.count)
