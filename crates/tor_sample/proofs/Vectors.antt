-- The first steps with the number 0, worked by hand and by another program, and parts of a record.
use Rattle.std.proofs.Common.{◌≡◌, ℕ, ◌+◌, ◌*◌, List, [], ◌∷◌, length, refl, arith}
use Rattle.tor_sample.specs.declared.networks.Providers.{Providers}
use Rattle.tor_sample.specs.Draws.{next, draw}
use Rattle.tor_sample.specs.Networks.{networks, climb_within, climb}
use Rattle.tor_sample.specs.Paths.{over_top, through_valley, prepended, route_path}
use Rattle.tor_sample.specs.Records.{sample_record, sample_rib, peer_table}
use Rattle.tor_sample.proofs.Octets.{length-rib}

-- the first state behind the seed 0, and the first draw: a provider of the network 10
first_state : next 0 ≡ 1442695040888963407
first_state = refl

first_draw : draw 10 0 ≡ (7, 1442695040888963407)
first_draw = refl

-- the low bits of that state are those of an odd number
first_coin : draw 2 0 ≡ (1, 1442695040888963407)
first_coin = refl

-- the providers of the networks 10 and 11
first_networks : (networks 2 0).0 ≡ record { first = 7; second = 4 } ∷ record { first = 7; second = 6 } ∷ []
unfolding networks
first_networks = refl

-- three levels, and in front of the first draw of a coin the seed 0: the second provider
few : List Providers
few = record { first = 7; second = 4 } ∷ record { first = 3; second = 3 } ∷ []

climb_from_11 : climb few 11 0 ≡ (11 ∷ 3 ∷ [], 1442695040888963407)
unfolding climb_within few
climb_from_11 = refl

climb_from_10 : (climb few 10 0).0 ≡ 10 ∷ 4 ∷ []
unfolding climb_within few
climb_from_10 = refl

climb_from_the_top : climb few 9 0 ≡ (9 ∷ [], 0)
unfolding climb_within few
climb_from_the_top = refl

-- over one network at the top, over two, and through a valley
joined : over_top (200 ∷ 50 ∷ 10 ∷ 1 ∷ []) (51 ∷ 11 ∷ 1 ∷ []) ≡ 200 ∷ 50 ∷ 10 ∷ 1 ∷ 11 ∷ 51 ∷ []
joined = refl

not_joined : over_top (200 ∷ 50 ∷ 10 ∷ 1 ∷ []) (51 ∷ 11 ∷ 2 ∷ []) ≡ 200 ∷ 50 ∷ 10 ∷ 1 ∷ 2 ∷ 11 ∷ 51 ∷ []
not_joined = refl

valley : through_valley (50 ∷ 10 ∷ 1 ∷ []) (50 ∷ 11 ∷ 1 ∷ []) ≡ 1 ∷ 10 ∷ 50 ∷ 11 ∷ 1 ∷ []
valley = refl

last_twice_more : prepended (1 ∷ 10 ∷ []) ≡ 1 ∷ 10 ∷ 10 ∷ 10 ∷ []
last_twice_more = refl

-- the peer table, of 33 octets
table : peer_table ≡ 0 ∷ 0 ∷ 0 ∷ 0 ∷ 0 ∷ 13 ∷ 0 ∷ 1 ∷ 0 ∷ 0 ∷ 0 ∷ 21 ∷ 192 ∷ 0 ∷ 2 ∷ 1 ∷ 0 ∷ 0 ∷ 0 ∷ 1 ∷ 2 ∷ 10 ∷ 0 ∷ 0 ∷ 1 ∷ 192 ∷ 0 ∷ 2 ∷ 2 ∷ 0 ∷ 0 ∷ 0 ∷ 10 ∷ []
table = refl

-- the record of a route from the AS 1010 to the AS 1020 in place 258
one_record : sample_record 2 (sample_rib 258 (10 ∷ 20 ∷ [])) ≡
    0 ∷ 0 ∷ 0 ∷ 0 ∷ 0 ∷ 13 ∷ 0 ∷ 2 ∷ 0 ∷ 0 ∷ 0 ∷ 35 ∷ 0 ∷ 0 ∷ 1 ∷ 2 ∷ 24 ∷ 10 ∷ 1 ∷ 2 ∷ 0 ∷ 1 ∷ 0 ∷ 0 ∷ 0 ∷ 0 ∷ 0 ∷ 0 ∷ 0 ∷ 17 ∷
    64 ∷ 1 ∷ 1 ∷ 0 ∷ 64 ∷ 2 ∷ 10 ∷ 2 ∷ 2 ∷ 0 ∷ 0 ∷ 3 ∷ 242 ∷ 0 ∷ 0 ∷ 3 ∷ 252 ∷ []
one_record = refl

-- a record has 39 octets and four for each number of its path
octets_of_a_record : (k : ℕ) (path : List ℕ) → length (sample_record 2 (sample_rib k path)) ≡ 39 + 4 * length path
octets_of_a_record k path = let e = length-rib k path in omega (arith, e)

-- the first route
first_route : (route_path (networks 1990 0).0 0 (networks 1990 0).1).0 ≡ 544 ∷ 117 ∷ 26 ∷ 0 ∷ 9 ∷ 27 ∷ 134 ∷ 324 ∷ []
unfolding networks climb_within route_path
first_route = refl
