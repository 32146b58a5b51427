use Rattle.std.proofs.Common.{◌*◌, ◌<◌, ◌≤◌, Result, Ok, Err, List, ℕ, ap, ◌∙◌, arith}
use Rattle.path_attrs.specs.declared.fault.RibFault.{RibFault}
use Rattle.path_attrs.specs.Fields.{◌>>=◌}
use Rattle.rib_bodies.proofs.Skips.{head_cut, length_cut, prefix_long, behind_peer}
use Rattle.rib_bodies.proofs.route.behind_fields.Goals as goal

pub returns-in_default-clause-gives : goal.returns-in_default-clause-gives
returns-in_default-clause-gives c =
    head_cut c.args.family c.octets-address_len.result c.args.body.now c.octets-address_len.ensures
    (c.in_default.ensures.gives ∙ ap (λ e. Err e) c.in_default.ensures.only)

pub returns-in_default-octet-clause-gives : goal.returns-in_default-octet-clause-gives
returns-in_default-octet-clause-gives c =
    length_cut c.args.family c.octets-address_len.result c.args.body.now c.octets-address_len.ensures c.in-Ok.field-0-0.now c.in-Ok.rest.now
    c.in-Ok.ensures.gives (c.in_default-octet.ensures.gives ∙ ap (λ e. Err e) c.in_default-octet.ensures.only)

pub returns-then-from-address_len-clause-gives : goal.returns-then-from-address_len-clause-gives
returns-then-from-address_len-clause-gives c =
    let long : 8 * c.octets-address_len.result < c.in-Ok-octet.prefix_len = omega (arith, c.if-from-address_len.true, c.from.ensures) in
    prefix_long c.args.family c.octets-address_len.result c.args.body.now c.octets-address_len.ensures c.in-Ok.field-0-0.now c.in-Ok.rest.now
    c.in-Ok-octet.prefix_len c.in-Ok-octet.rest.now c.in-Ok.ensures.gives c.in-Ok-octet.ensures.gives long

pub returns-in_default-octets-clause-gives : goal.returns-in_default-octets-clause-gives
returns-in_default-octets-clause-gives c =
    let fits : c.in-Ok-octet.prefix_len ≤ 8 * c.octets-address_len.result = omega (arith, c.if-from-address_len.false, c.from.ensures) in
    behind_peer c.args.family c.octets-address_len.result c.args.body.now c.octets-address_len.ensures c.in-Ok.field-0-0.now c.in-Ok.rest.now
    c.in-Ok-octet.prefix_len c.in-Ok-octet.rest.now c.in-Ok.ensures.gives c.in-Ok-octet.ensures.gives fits
    ∙ ap (λ (r : Result (List ℕ × List ℕ) RibFault). r >>= λ peer. Ok peer.1)
    (c.in_default-octets.ensures.gives ∙ ap (λ e. Err e) c.in_default-octets.ensures.only)

pub returns-clause-gives : goal.returns-clause-gives
returns-clause-gives c =
    let fits : c.in-Ok-octet.prefix_len ≤ 8 * c.octets-address_len.result = omega (arith, c.if-from-address_len.false, c.from.ensures) in
    behind_peer c.args.family c.octets-address_len.result c.args.body.now c.octets-address_len.ensures c.in-Ok.field-0-0.now c.in-Ok.rest.now
    c.in-Ok-octet.prefix_len c.in-Ok-octet.rest.now c.in-Ok.ensures.gives c.in-Ok-octet.ensures.gives fits
    ∙ ap (λ (r : Result (List ℕ × List ℕ) RibFault). r >>= λ peer. Ok peer.1) c.in-Ok-octets.ensures.gives
