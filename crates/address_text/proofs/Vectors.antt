-- Addresses and prefixes as text, by computation: the examples of RFC 5952, and lengths of prefixes.
use Rattle.std.proofs.Common.{◌≡◌, ℕ, List, [], ◌∷◌, codes, refl}
use Rattle.std.specs.declared.net.ip_addr.IpAddr.{IpAddr}
use Rattle.std.specs.declared.net.ip_addr.IpAddr.TheVariants.{V4, V6}
use Rattle.std.specs.Fmt.{digits}
use Rattle.std.specs.Net.Text.{hex, hex_groups_text}
use Rattle.address_text.specs.AddressText.{address_text, prefix_text}

v4 : List ℕ → IpAddr
v4 octets = V4 (record { octets = octets })

v6 : List ℕ → IpAddr
v6 segments = V6 (record { segments = segments })

-- section 4.1: leading zeros are left out
leading_zeros : address_text (v6 (0x2001 ∷ 0xdb8 ∷ 0 ∷ 0 ∷ 1 ∷ 0 ∷ 0 ∷ 1 ∷ [])) ≡ codes "2001:db8::1:0:0:1"
unfolding digits hex hex_groups_text v6
leading_zeros = refl

-- section 4.2.1: as short as possible
short : address_text (v6 (0x2001 ∷ 0xdb8 ∷ 0 ∷ 0 ∷ 0 ∷ 0 ∷ 2 ∷ 1 ∷ [])) ≡ codes "2001:db8::2:1"
unfolding digits hex hex_groups_text v6
short = refl

-- section 4.2.2: one group of zeros isn't shortened
one_group : address_text (v6 (0x2001 ∷ 0xdb8 ∷ 0 ∷ 1 ∷ 1 ∷ 1 ∷ 1 ∷ 1 ∷ [])) ≡ codes "2001:db8:0:1:1:1:1:1"
unfolding digits hex hex_groups_text v6
one_group = refl

-- section 4.2.3: the longest run, and of runs of one length the first
longest_run : address_text (v6 (0x2001 ∷ 0 ∷ 0 ∷ 1 ∷ 0 ∷ 0 ∷ 0 ∷ 1 ∷ [])) ≡ codes "2001:0:0:1::1"
unfolding digits hex hex_groups_text v6
longest_run = refl

first_run : address_text (v6 (0x2001 ∷ 0xdb8 ∷ 0 ∷ 0 ∷ 1 ∷ 0 ∷ 0 ∷ 1 ∷ [])) ≡ codes "2001:db8::1:0:0:1"
unfolding digits hex hex_groups_text v6
first_run = refl

-- section 4.3: letters are small
small_letters : address_text (v6 (0x2001 ∷ 0xdb8 ∷ 0xaaaa ∷ 0xbbbb ∷ 0xcccc ∷ 0xdddd ∷ 0xeeee ∷ 0xaaaa ∷ [])) ≡ codes "2001:db8:aaaa:bbbb:cccc:dddd:eeee:aaaa"
unfolding digits hex hex_groups_text v6
small_letters = refl

-- not the mixed form of section 5
mapped : address_text (v6 (0 ∷ 0 ∷ 0 ∷ 0 ∷ 0 ∷ 0xffff ∷ 0xc000 ∷ 0x201 ∷ [])) ≡ codes "::ffff:c000:201"
unfolding digits hex hex_groups_text v6
mapped = refl

all_zeros : address_text (v6 (0 ∷ 0 ∷ 0 ∷ 0 ∷ 0 ∷ 0 ∷ 0 ∷ 0 ∷ [])) ≡ codes "::"
unfolding digits hex hex_groups_text v6
all_zeros = refl

zeros_at_the_end : address_text (v6 (0xfe80 ∷ 0 ∷ 0 ∷ 0 ∷ 0 ∷ 0 ∷ 0 ∷ 0 ∷ [])) ≡ codes "fe80::"
unfolding digits hex hex_groups_text v6
zeros_at_the_end = refl

-- ---- prefixes

length_0 : prefix_text (record { address = v4 (0 ∷ 0 ∷ 0 ∷ 0 ∷ []); bits = 0 }) ≡ codes "0.0.0.0/0"
unfolding digits v4
length_0 = refl

length_9 : prefix_text (record { address = v4 (10 ∷ 128 ∷ 0 ∷ 0 ∷ []); bits = 9 }) ≡ codes "10.128.0.0/9"
unfolding digits v4
length_9 = refl

length_32 : prefix_text (record { address = v4 (192 ∷ 0 ∷ 2 ∷ 255 ∷ []); bits = 32 }) ≡ codes "192.0.2.255/32"
unfolding digits v4
length_32 = refl

length_0_of_ipv6 : prefix_text (record { address = v6 (0 ∷ 0 ∷ 0 ∷ 0 ∷ 0 ∷ 0 ∷ 0 ∷ 0 ∷ []); bits = 0 }) ≡ codes "::/0"
unfolding digits hex hex_groups_text v6
length_0_of_ipv6 = refl

length_128 : prefix_text (record { address = v6 (0x2001 ∷ 0xdb8 ∷ 0 ∷ 0 ∷ 0 ∷ 0 ∷ 0 ∷ 1 ∷ []); bits = 128 }) ≡ codes "2001:db8::1/128"
unfolding digits hex hex_groups_text v6
length_128 = refl
