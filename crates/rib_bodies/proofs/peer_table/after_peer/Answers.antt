use Rattle.std.proofs.Common.{Result, Ok, Err, List, ℕ, ap, ◌∙◌}
use Rattle.path_attrs.specs.declared.fault.RibFault.{RibFault}
use Rattle.path_attrs.specs.Fields.{◌>>=◌}
use Rattle.rib_bodies.proofs.Skips.{no_type, at_once}
use Rattle.rib_bodies.proofs.peer_table.after_peer.Goals as goal

pub returns-in_default-clause-gives : goal.returns-in_default-clause-gives
returns-in_default-clause-gives c = no_type c.args.bytes.now (c.in_default.ensures.gives ∙ ap (λ e. Err e) c.in_default.ensures.only)

pub returns-in_default-octets-clause-gives : goal.returns-in_default-octets-clause-gives
returns-in_default-octets-clause-gives c =
    at_once c.args.bytes.now c.in-Ok.rest.now c.in-Ok.kind c.octets_behind.result c.in-Ok.ensures.gives c.octets_behind.ensures
    ∙ ap (λ (r : Result (List ℕ × List ℕ) RibFault). r >>= λ fields. Ok fields.1)
    (c.in_default-octets.ensures.gives ∙ ap (λ e. Err e) c.in_default-octets.ensures.only)

pub returns-clause-gives : goal.returns-clause-gives
returns-clause-gives c =
    at_once c.args.bytes.now c.in-Ok.rest.now c.in-Ok.kind c.octets_behind.result c.in-Ok.ensures.gives c.octets_behind.ensures
    ∙ ap (λ (r : Result (List ℕ × List ℕ) RibFault). r >>= λ fields. Ok fields.1) c.in-Ok-octets.ensures.gives
