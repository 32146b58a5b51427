-- Peers and prefixes that were worked by hand.
use Rattle.std.proofs.Common.{◌≡◌, ℕ, List, [], ◌∷◌, ◌++◌, Ok, Err, refl}
use Rattle.std.specs.declared.net.ip_addr.IpAddr.{IpAddr}
use Rattle.std.specs.declared.net.ip_addr.IpAddr.TheVariants.{V4, V6}
use Rattle.mrt_header.specs.declared.record_kind.Family.TheVariants.{Ipv4, Ipv6}
use Rattle.path_attrs.specs.declared.fault.RibFault.TheVariants.{Cut, Tail, PrefixLong}
use Rattle.rib_bodies.specs.Addresses.{masked}
use Rattle.rib_bodies.specs.Peers.{first_peer, peers_at, peers_named, table_head}
use Rattle.rib_bodies.specs.Origins.{rib_prefix, table_dump_origin, table_dump_prefix}

v4 : List ℕ → IpAddr
v4 octets = V4 (record { octets = octets })

v6 : List ℕ → IpAddr
v6 segments = V6 (record { segments = segments })

-- a view of the name `a`, and four peers: 10.0.0.1 of AS 7 in two octets, 2001:db8::1 of AS 8220 in two, ::ffff:10.0.0.1 of AS 8220 in
-- four, and 10.0.0.2 of AS 65536 in four
four_peers : peers_named (192 ∷ 0 ∷ 2 ∷ 1 ∷ 0 ∷ 1 ∷ 97 ∷ 0 ∷ 4
    ∷ 0 ∷ 10 ∷ 0 ∷ 0 ∷ 1 ∷ 10 ∷ 0 ∷ 0 ∷ 1 ∷ 0 ∷ 7
    ∷ 1 ∷ 10 ∷ 0 ∷ 0 ∷ 1 ∷ 32 ∷ 1 ∷ 13 ∷ 184 ∷ 0 ∷ 0 ∷ 0 ∷ 0 ∷ 0 ∷ 0 ∷ 0 ∷ 0 ∷ 0 ∷ 0 ∷ 0 ∷ 1 ∷ 32 ∷ 28
    ∷ 3 ∷ 10 ∷ 0 ∷ 0 ∷ 1 ∷ 0 ∷ 0 ∷ 0 ∷ 0 ∷ 0 ∷ 0 ∷ 0 ∷ 0 ∷ 0 ∷ 0 ∷ 255 ∷ 255 ∷ 10 ∷ 0 ∷ 0 ∷ 1 ∷ 0 ∷ 0 ∷ 32 ∷ 28
    ∷ 2 ∷ 10 ∷ 0 ∷ 0 ∷ 1 ∷ 10 ∷ 0 ∷ 0 ∷ 2 ∷ 0 ∷ 1 ∷ 0 ∷ 0 ∷ [])
    ≡ Ok (record { as_number = 7; address = v4 (10 ∷ 0 ∷ 0 ∷ 1 ∷ []) }
    ∷ record { as_number = 8220; address = v6 (8193 ∷ 3512 ∷ 0 ∷ 0 ∷ 0 ∷ 0 ∷ 0 ∷ 1 ∷ []) }
    ∷ record { as_number = 8220; address = v6 (0 ∷ 0 ∷ 0 ∷ 0 ∷ 0 ∷ 65535 ∷ 2560 ∷ 1 ∷ []) }
    ∷ record { as_number = 65536; address = v4 (10 ∷ 0 ∷ 0 ∷ 2 ∷ []) } ∷ [])
unfolding peers_named table_head peers_at first_peer v4 v6
four_peers = refl

no_peers : peers_named (192 ∷ 0 ∷ 2 ∷ 1 ∷ 0 ∷ 0 ∷ 0 ∷ 0 ∷ []) ≡ Ok []
unfolding peers_named table_head peers_at
no_peers = refl

more_behind : peers_named (192 ∷ 0 ∷ 2 ∷ 1 ∷ 0 ∷ 0 ∷ 0 ∷ 0 ∷ 0 ∷ []) ≡ Err Tail
unfolding peers_named table_head peers_at
more_behind = refl

peer_cut : peers_named (192 ∷ 0 ∷ 2 ∷ 1 ∷ 0 ∷ 0 ∷ 0 ∷ 1 ∷ 0 ∷ 10 ∷ 0 ∷ 0 ∷ 1 ∷ 10 ∷ 0 ∷ 0 ∷ 1 ∷ 0 ∷ []) ≡ Err Cut
unfolding peers_named table_head peers_at first_peer
peer_cut = refl

-- ---- prefixes, whose bits behind their length are set in the field

length_0 : rib_prefix Ipv4 (0 ∷ 0 ∷ 0 ∷ 0 ∷ 0 ∷ []) ≡ Ok (record { address = v4 (0 ∷ 0 ∷ 0 ∷ 0 ∷ []); bits = 0 })
unfolding rib_prefix masked v4
length_0 = refl

length_1 : rib_prefix Ipv4 (0 ∷ 0 ∷ 0 ∷ 0 ∷ 1 ∷ 255 ∷ []) ≡ Ok (record { address = v4 (128 ∷ 0 ∷ 0 ∷ 0 ∷ []); bits = 1 })
unfolding rib_prefix masked v4
length_1 = refl

length_8 : rib_prefix Ipv4 (0 ∷ 0 ∷ 0 ∷ 0 ∷ 8 ∷ 10 ∷ []) ≡ Ok (record { address = v4 (10 ∷ 0 ∷ 0 ∷ 0 ∷ []); bits = 8 })
unfolding rib_prefix masked v4
length_8 = refl

length_9 : rib_prefix Ipv4 (0 ∷ 0 ∷ 0 ∷ 0 ∷ 9 ∷ 10 ∷ 255 ∷ []) ≡ Ok (record { address = v4 (10 ∷ 128 ∷ 0 ∷ 0 ∷ []); bits = 9 })
unfolding rib_prefix masked v4
length_9 = refl

length_32 : rib_prefix Ipv4 (0 ∷ 0 ∷ 0 ∷ 0 ∷ 32 ∷ 10 ∷ 255 ∷ 255 ∷ 255 ∷ []) ≡ Ok (record { address = v4 (10 ∷ 255 ∷ 255 ∷ 255 ∷ []); bits = 32 })
unfolding rib_prefix masked v4
length_32 = refl

length_33 : rib_prefix Ipv4 (0 ∷ 0 ∷ 0 ∷ 0 ∷ 33 ∷ []) ≡ Err PrefixLong
unfolding rib_prefix
length_33 = refl

length_9_of_ipv6 : rib_prefix Ipv6 (0 ∷ 0 ∷ 0 ∷ 0 ∷ 9 ∷ 32 ∷ 255 ∷ []) ≡ Ok (record { address = v6 (8320 ∷ 0 ∷ 0 ∷ 0 ∷ 0 ∷ 0 ∷ 0 ∷ 0 ∷ []); bits = 9 })
unfolding rib_prefix masked v6
length_9_of_ipv6 = refl

length_128 : rib_prefix Ipv6 (0 ∷ 0 ∷ 0 ∷ 0 ∷ 128 ∷ 32 ∷ 1 ∷ 13 ∷ 184 ∷ 0 ∷ 0 ∷ 0 ∷ 0 ∷ 0 ∷ 0 ∷ 0 ∷ 0 ∷ 0 ∷ 0 ∷ 0 ∷ 1 ∷ [])
    ≡ Ok (record { address = v6 (8193 ∷ 3512 ∷ 0 ∷ 0 ∷ 0 ∷ 0 ∷ 0 ∷ 1 ∷ []); bits = 128 })
unfolding rib_prefix masked v6
length_128 = refl

prefix_cut : rib_prefix Ipv4 (0 ∷ 0 ∷ 0 ∷ 0 ∷ 9 ∷ 10 ∷ []) ≡ Err Cut
unfolding rib_prefix
prefix_cut = refl

-- ---- 10.1.0.0/16 of 192.0.2.1 and AS 23456, whose prefix field has more than 16 bits set

of_table_dump : table_dump_origin Ipv4 (0 ∷ 0 ∷ 0 ∷ 0 ∷ 10 ∷ 1 ∷ 2 ∷ 3 ∷ 16 ∷ 1 ∷ 0 ∷ 0 ∷ 0 ∷ 0 ∷ 192 ∷ 0 ∷ 2 ∷ 1 ∷ 91 ∷ 160 ∷ [])
    ≡ Ok (record { address = v4 (10 ∷ 1 ∷ 0 ∷ 0 ∷ []); bits = 16 }, record { as_number = 23456; address = v4 (192 ∷ 0 ∷ 2 ∷ 1 ∷ []) })
unfolding table_dump_origin table_dump_prefix masked v4
of_table_dump = refl
