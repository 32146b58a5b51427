use Rattle.std.proofs.Common.{sym, ◌∙◌, refl}
use Rattle.path_attrs.specs.Attributes.{Attribute, as_path}
use Rattle.path_attrs.proofs.Blocks.{is_ok-next, first_here, first_behind, first_none}
use Rattle.path_attrs.proofs.block.path_in.Goals as goal

pub attributes-init : goal.attributes-init
attributes-init c = (refl, λ ok. refl)

pub returns-then-code-eq-AS_PATH-clause-whole : goal.returns-then-code-eq-AS_PATH-clause-whole
returns-then-code-eq-AS_PATH-clause-whole c =
    let a : Attribute = record { code = c.in-Ok.code; value = c.in-Ok.value.now } in
    sym (is_ok-next c.attributes.rest.now a c.in-Ok.behind.now c.in-Ok.ensures.gives) ∙ c.attributes.invariant.0

pub returns-then-code-eq-AS_PATH-clause-first : goal.returns-then-code-eq-AS_PATH-clause-first
returns-then-code-eq-AS_PATH-clause-first c ok =
    let a : Attribute = record { code = c.in-Ok.code; value = c.in-Ok.value.now } in
    first_here as_path c.attributes.rest.now a c.in-Ok.behind.now c.in-Ok.ensures.gives (c.attributes.invariant.0 ∙ ok) c.if-code-eq-AS_PATH.true
    ∙ c.attributes.invariant.1 ok

pub attributes-preserved : goal.attributes-preserved
attributes-preserved c =
    let a : Attribute = record { code = c.in-Ok.code; value = c.in-Ok.value.now } in
    let is = c.in-Ok.ensures.gives in (
      sym (is_ok-next c.attributes.rest.now a c.in-Ok.behind.now is) ∙ c.attributes.invariant.0,
      λ ok. (first_behind as_path c.attributes.rest.now a c.in-Ok.behind.now is (c.attributes.invariant.0 ∙ ok) c.if-code-eq-AS_PATH.false).1
          ∙ c.attributes.invariant.1 ok,
    )

pub returns-clause-first : goal.returns-clause-first
returns-clause-first c ok = first_none as_path c.attributes.rest.now c.in_default.field-0 c.in_default.ensures.gives ∙ c.attributes.invariant.1 ok
