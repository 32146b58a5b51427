use Rattle.std.proofs.Common.{ap, ◌∙◌, slice_index}
use Rattle.std.specs.Net.Addr.{ipv4_octets}
use Rattle.tor_io.proofs.Putting.{puts_as, puts_then}
use Rattle.address_text.proofs.GroupLemmas.{dots}
use Rattle.address_text.proofs.writing.put_ipv4.Goals as goal

pub returns : goal.returns
returns g c =
    let same = c.octets-octets.ensures in
    puts_as (puts_then (puts_then (puts_then c.put_number.ensures c.put_number_behind.ensures) c.put_number_behind-2.ensures) c.put_number_behind-3.ensures)
    (dots (ipv4_octets c.args.address) _ _ _ _ (c.from.ensures ∙ ap (λ o. slice_index o 0) same) (c.from-2.ensures ∙ ap (λ o. slice_index o 1) same)
    (c.from-3.ensures ∙ ap (λ o. slice_index o 2) same) (c.from-4.ensures ∙ ap (λ o. slice_index o 3) same))
