-- The text of addresses and prefixes.
use Rattle.std.specs.Prelude.{ℕ, List, [], ◌∷◌, ◌++◌, codes, decimal}
use Rattle.std.specs.declared.net.ip_addr.IpAddr.{IpAddr}
use Rattle.std.specs.declared.net.ip_addr.IpAddr.TheVariants.{V4, V6}
use Rattle.std.specs.Net.Addr.{ipv4_octets, ipv6_segments}
use Rattle.std.specs.Net.Text.{ipv4_text, hex_groups_text}
use Rattle.rib_bodies.specs.declared.prefix.Prefix.{Prefix}

-- IPv4 in four decimal numbers; IPv6 as RFC 5952, section 4, has it, always in hexadecimal groups, never in the mixed form of section 5
abbrev pub address_text : IpAddr → List ℕ
address_text (V4 address) = ipv4_text (ipv4_octets address)
address_text (V6 address) = hex_groups_text (ipv6_segments address)

-- the address, and behind a slash how many of its bits are the prefix
abbrev pub prefix_text : Prefix → List ℕ
prefix_text prefix = address_text prefix.address ++ 47 ∷ decimal prefix.bits
