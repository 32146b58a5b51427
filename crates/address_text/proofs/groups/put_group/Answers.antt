use Rattle.std.proofs.Common.{◌∷◌, [], ◌∙◌, refl}
use Rattle.std.specs.Net.Text.{hex}
use Rattle.tor_io.proofs.Known.{rest_from}
use Rattle.tor_io.proofs.Putting.{puts_as}
use Rattle.address_text.proofs.groups.put_group.Goals as goal

pub returns : goal.returns
unfolding hex
returns g c =
    puts_as c.put.ensures
    (rest_from c.leading_zeros.result (c.hex_digit.result ∷ c.hex_digit-2.result ∷ c.hex_digit-3.result ∷ c.hex_digit-4.result ∷ [])
    ∙ rw (c.leading_zeros.ensures.value, c.hex_digit.ensures, c.hex_digit-2.ensures, c.hex_digit-3.ensures, c.hex_digit-4.ensures) refl)
