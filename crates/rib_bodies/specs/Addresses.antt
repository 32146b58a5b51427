-- Addresses and prefixes of the two families, by the octets of their fields.
use Rattle.std.specs.Prelude.{ℕ, ◌*◌, ◌-◌, ◌%◌, ◌^◌, List, map, get_or}
use Rattle.std.specs.List.{range_with_len}
use Rattle.std.specs.declared.net.ip_addr.IpAddr.{IpAddr}
use Rattle.std.specs.declared.net.ip_addr.IpAddr.TheVariants.{V4, V6}
use Rattle.std.specs.Net.Addr.{segments_of}
use Rattle.mrt_header.specs.declared.record_kind.Family.{Family}
use Rattle.mrt_header.specs.declared.record_kind.Family.TheVariants.{Ipv4, Ipv6}
use Rattle.mrt_header.specs.Kinds.{address_octets}
use Rattle.rib_bodies.specs.declared.prefix.Prefix.{Prefix}

-- the address of these octets
abbrev pub address_of : Family → List ℕ → IpAddr
address_of Ipv4 octets = V4 (record { octets = octets })
address_of Ipv6 octets = V6 (record { segments = segments_of octets })

-- an octet of which the first bits, so many, are kept, and the others are zero
abbrev pub with_bits : ℕ → ℕ → ℕ
with_bits bits octet = octet - octet % 2 ^ (8 - bits)

-- the octet of this place, from 0, where the first bits are those of a field, and all others are zero
abbrev pub masked_octet : ℕ → List ℕ → ℕ → ℕ
masked_octet bits field place = with_bits (bits - 8 * place) (get_or field place 0)

-- so many such octets
unfoldable pub masked : ℕ → ℕ → List ℕ → List ℕ
masked count bits field = map (masked_octet bits field) (range_with_len 0 count)

-- the prefix of so many bits, which stand in this field: the other bits of its address are zero, whatever the field has there
abbrev pub prefix_of : Family → ℕ → List ℕ → Prefix
prefix_of family bits field = record { address = address_of family (masked (address_octets family) bits field); bits = bits }
