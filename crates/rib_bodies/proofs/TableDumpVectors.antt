-- Bodies that were worked by hand.
use Rattle.std.proofs.Common.{◌≡◌, ℕ, List, [], ◌∷◌, ◌++◌, replicate, Ok, Err, refl}
use Rattle.mrt_header.specs.declared.record_kind.Family.TheVariants.{Ipv4, Ipv6}
use Rattle.path_attrs.specs.declared.fault.RibFault.TheVariants.{Cut, Tail, PrefixLong, AttrCut}
use Rattle.path_attrs.specs.Attributes.{attribute, attributes_within, attributes_of}
use Rattle.rib_bodies.specs.TableDump.{behind_fields, route_of}

-- the fields before the prefix length: view, sequence and the prefix 10.0.0.0
before : List ℕ
before = 0 ∷ 0 ∷ 0 ∷ 0 ∷ 10 ∷ 0 ∷ 0 ∷ 0 ∷ []

-- the fields from the status to the peer's AS: the peer 192.0.2.1 of AS 10
peer : List ℕ
peer = 1 ∷ 0 ∷ 0 ∷ 0 ∷ 0 ∷ 192 ∷ 0 ∷ 2 ∷ 1 ∷ 0 ∷ 10 ∷ []

-- the AS_PATH 10 20
path : List ℕ
path = 64 ∷ 2 ∷ 6 ∷ 2 ∷ 2 ∷ 0 ∷ 10 ∷ 0 ∷ 20 ∷ []

body : ℕ → List ℕ
body prefix_length = before ++ prefix_length ∷ (peer ++ 0 ∷ 9 ∷ path)

one_edge : route_of Ipv4 (body 8) ≡ Ok (record { code = 2; value = 2 ∷ 2 ∷ 0 ∷ 10 ∷ 0 ∷ 20 ∷ [] } ∷ [])
unfolding route_of behind_fields attributes_of attributes_within attribute body before peer path
one_edge = refl

-- the same over IPv6: 2001:db8::/32 of the peer 2001:db8::1
over_ipv6 : route_of Ipv6 (0 ∷ 0 ∷ 0 ∷ 0 ∷ 32 ∷ 1 ∷ 13 ∷ 184 ∷ (replicate 12 0 ++ 32 ∷ 1 ∷ 0 ∷ 0 ∷ 0 ∷ 0 ∷ 32 ∷ 1 ∷ 13 ∷ 184 ∷ (replicate 11 0 ++ 1 ∷ 0 ∷ 10 ∷ 0 ∷ 9 ∷ path)))
    ≡ Ok (record { code = 2; value = 2 ∷ 2 ∷ 0 ∷ 10 ∷ 0 ∷ 20 ∷ [] } ∷ [])
unfolding route_of behind_fields attributes_of attributes_within attribute path
over_ipv6 = refl

prefix_length_0 : route_of Ipv4 (body 0) ≡ route_of Ipv4 (body 8)
unfolding route_of behind_fields attributes_of attributes_within attribute body before peer path
prefix_length_0 = refl

prefix_length_33 : route_of Ipv4 (body 33) ≡ Err PrefixLong
unfolding route_of behind_fields body before peer path
prefix_length_33 = refl

-- the prefix length shows its fault before a later field that is not whole
prefix_length_33_alone : route_of Ipv4 (before ++ 33 ∷ []) ≡ Err PrefixLong
unfolding route_of behind_fields before
prefix_length_33_alone = refl

one_octet_more : route_of Ipv4 (body 8 ++ 0 ∷ []) ≡ Err Tail
unfolding route_of behind_fields attributes_of attributes_within attribute body before peer path
one_octet_more = refl

one_octet_less : route_of Ipv4 (before ++ 8 ∷ (peer ++ 0 ∷ 9 ∷ 64 ∷ 2 ∷ 6 ∷ 2 ∷ 2 ∷ 0 ∷ 10 ∷ 0 ∷ [])) ≡ Err Cut
unfolding route_of behind_fields before peer
one_octet_less = refl

-- an attribute that is not whole, and an octet behind the block: the attribute's fault comes first
cut_attribute : route_of Ipv4 (before ++ 8 ∷ (peer ++ 0 ∷ 8 ∷ path)) ≡ Err AttrCut
unfolding route_of behind_fields attributes_of attributes_within attribute before peer path
cut_attribute = refl

no_attributes : route_of Ipv4 (before ++ 8 ∷ (peer ++ 0 ∷ 0 ∷ [])) ≡ Ok []
unfolding route_of behind_fields attributes_of attributes_within before peer
no_attributes = refl

no_octets : route_of Ipv4 [] ≡ Err Cut
unfolding route_of behind_fields
no_octets = refl
