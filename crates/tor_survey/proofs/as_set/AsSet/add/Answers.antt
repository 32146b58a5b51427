use Rattle.std.proofs.Common.{◌∙◌, ◌+◌, ap}
use Rattle.tor_survey.specs.Sets.{with_as}
use Rattle.tor_survey.proofs.Additions.{as_put}
use Rattle.tor_survey.proofs.as_set.AsSet.add.Goals as goal

pub returns : goal.returns
returns c =
    as_put c.self.inside.numbers c.add.new.self c.args.number (c.from.result + 2) (ap (λ n. n + 2) c.from.ensures) c.self.invariant c.in_ok-add.ensures.ok ∙
    ap (λ known. with_as known c.args.number) c.self.view_is
