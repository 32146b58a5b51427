use Rattle.std.proofs.Common.{◌∙◌}
use Rattle.path_attrs.proofs.Blocks.{first_here, first_behind, first_none}
use Rattle.path_attrs.proofs.block.first_in.Goals as goal

pub returns-then-found-code-clause-first : goal.returns-then-found-code-clause-first
returns-then-found-code-clause-first c =
    first_here c.args.code c.attributes.rest.now (record { code = c.in-Ok.found; value = c.in-Ok.value.now }) c.in-Ok.behind.now c.in-Ok.ensures.gives c.attributes.invariant.0 c.if-found-code.true
    ∙ c.attributes.invariant.1

pub attributes-preserved : goal.attributes-preserved
attributes-preserved c =
    let behind = first_behind c.args.code c.attributes.rest.now (record { code = c.in-Ok.found; value = c.in-Ok.value.now }) c.in-Ok.behind.now
    c.in-Ok.ensures.gives c.attributes.invariant.0 c.if-found-code.false in
    (behind.0, behind.1 ∙ c.attributes.invariant.1)

pub returns-clause-first : goal.returns-clause-first
returns-clause-first c = first_none c.args.code c.attributes.rest.now c.in_default.field-0 c.in_default.ensures.gives ∙ c.attributes.invariant.1
