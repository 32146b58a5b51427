-- The octets of an address of which the first bits are those of a field.
use Rattle.std.proofs.Common.{◌≡◌, ℕ, ◌+◌, ◌*◌, List, [], ◌∷◌, refl}
use Rattle.std.specs.Net.Addr.{segments_of}
use Rattle.rib_bodies.specs.Addresses.{masked, masked_octet}

abbrev pub masked_pair : ℕ → List ℕ → ℕ → ℕ
masked_pair bits field place = masked_octet bits field (2 * place) * 256 + masked_octet bits field (2 * place + 1)

pub eight_pairs : (bits : ℕ) (field : List ℕ) (a b c d e f g h : ℕ) → a ≡ masked_pair bits field 0 → b ≡ masked_pair bits field 1 → c ≡ masked_pair bits field 2 →
    d ≡ masked_pair bits field 3 → e ≡ masked_pair bits field 4 → f ≡ masked_pair bits field 5 → g ≡ masked_pair bits field 6 → h ≡ masked_pair bits field 7 →
    a ∷ b ∷ c ∷ d ∷ e ∷ f ∷ g ∷ h ∷ [] ≡ segments_of (masked 16 bits field)
unfolding masked
eight_pairs bits field a b c d e f g h p q r s t u v w = rw (p, q, r, s, t, u, v, w) refl
