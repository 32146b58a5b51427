use Rattle.std.proofs.Common.{length, sym, ◌∙◌}
use Rattle.path_attrs.proofs.Reading.{not_empty, no_octet}
use Rattle.path_attrs.proofs.Blocks.{is_ok-next, cut_block, whole_block, attributes_in-whole}
use Rattle.path_attrs.proofs.block.attributes.Goals as goal

pub attributes-preserved : goal.attributes-preserved
attributes-preserved c =
    sym (is_ok-next c.attributes.rest.now (record { code = c.in-Ok.field-0-0; value = c.in-Ok.field-0-1.now }) c.in-Ok.next.now c.in-Ok.ensures.gives)
    ∙ c.attributes.invariant

pub returns-then-not-is_empty : goal.returns-then-not-is_empty
returns-then-not-is_empty c =
    cut_block c.args.block.now c.attributes.rest.now c.in_default.field-0 _
    (not_empty (length c.attributes.rest.now) c.is_empty.result c.is_empty.ensures c.if-not-is_empty.true) c.in_default.ensures.gives c.attributes.invariant

pub invariant_of-result : goal.invariant_of-result
invariant_of-result c =
    let none = no_octet c.attributes.rest.now c.is_empty.result c.is_empty.ensures c.if-not-is_empty.false in
    let whole = whole_block c.args.block.now c.attributes.rest.now none c.attributes.invariant in
    (whole, c.path_in.ensures.first whole)

pub returns : goal.returns
returns c =
    attributes_in-whole c.args.block.now
    (whole_block c.args.block.now c.attributes.rest.now (no_octet c.attributes.rest.now c.is_empty.result c.is_empty.ensures c.if-not-is_empty.false) c.attributes.invariant)
