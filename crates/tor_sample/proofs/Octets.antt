-- How long the parts of a record are, and records one after the other.
use Rattle.std.proofs.Common.{◌≡◌, ℕ, zero, suc, ◌+◌, ◌*◌, List, [], ◌∷◌, ◌++◌, length, refl, sym, ap, subst, ◌∙◌, arith}
use Rattle.std.proofs.lemmas.List.{append_assoc, append-nil}
use Rattle.tor_sample.specs.declared.networks.Providers.{Providers}
use Rattle.tor_sample.specs.Draws.{◌>>=◌, just, draw_on}
use Rattle.tor_sample.specs.Networks.{networks}
use Rattle.tor_sample.specs.Paths.{route_path}
use Rattle.tor_sample.specs.Records.{as_numbers, sample_attributes, sample_rib, sample_record, peer_table, records, sample}

pub length-as_numbers : (path : List ℕ) → length (as_numbers path) ≡ 4 * length path
length-as_numbers [] = refl
length-as_numbers (network ∷ path) = let e = length-as_numbers path in omega (arith, e)

pub length-attributes : (path : List ℕ) → length (sample_attributes path) ≡ 9 + 4 * length path
length-attributes path = let e = length-as_numbers path in omega (arith, e)

-- the record of a route has 39 octets and four for each number of its path: 12 of them are its header
pub length-rib : (k : ℕ) (path : List ℕ) → length (sample_rib k path) ≡ 27 + 4 * length path
length-rib k path = let e = length-as_numbers path in omega (arith, e)

-- three parts that were put at the end one after the other
pub three_put :
    (old a b now x y z : List ℕ) → a ≡ old ++ x → b ≡ a ++ y → now ≡ b ++ z → now ≡ old ++ (x ++ (y ++ z))
three_put old a b now x y z first second third =
    third ∙ ap (λ xs. xs ++ z) (second ∙ ap (λ xs. xs ++ y) first) ∙ append_assoc (old ++ x) y z ∙ append_assoc old x (y ++ z)

-- the records of one route more
pub records-next :
    (k s t u : ℕ) (nets : List Providers) (before path : List ℕ) → records nets k s ≡ (before, t) → route_path nets k t ≡ (path, u)
    → records nets (suc k) s ≡ (before ++ sample_record 2 (sample_rib k path), u)
unfolding records
records-next k s t u nets before path first last =
    ap (draw_on (λ before. route_path nets k >>= (λ path. just (before ++ sample_record 2 (sample_rib k path))))) first
    ∙ ap (draw_on (λ path. just (before ++ sample_record 2 (sample_rib k path)))) last

pub records-none : (nets : List Providers) (s : ℕ) → records nets zero s ≡ ([], s)
unfolding records
records-none nets s = refl

-- the records of the routes before k were put at the end
abbrev pub Puts : List Providers → ℕ → List ℕ → ℕ → List ℕ → ℕ → Type 0
Puts nets seed old k now s = (written : List ℕ) × (now ≡ old ++ written) × (records nets k seed ≡ (written, s))

pub puts-none : (nets : List Providers) (seed : ℕ) (old : List ℕ) → Puts nets seed old 0 old seed
puts-none nets seed old = ([], sym (append-nil old), records-none nets seed)

pub puts-next :
    (nets : List Providers) (seed k s t : ℕ) (old before now path : List ℕ) → Puts nets seed old k before s → route_path nets k s ≡ (path, t)
    → now ≡ before ++ sample_record 2 (sample_rib k path) → Puts nets seed old (k + 1) now t
puts-next nets seed k s t old before now path so_far drawn is = (
  so_far.0 ++ sample_record 2 (sample_rib k path),
  is ∙ ap (λ xs. xs ++ sample_record 2 (sample_rib k path)) so_far.1 ∙ append_assoc old so_far.0 (sample_record 2 (sample_rib k path)),
  subst (λ n. records nets n seed ≡ (so_far.0 ++ sample_record 2 (sample_rib k path), t)) (omega arith) (records-next k seed s t nets so_far.0 path so_far.2 drawn),
)

-- the dump from its parts
pub sample-is :
    (seed s : ℕ) (nets : List Providers) (octets : List ℕ) → networks 1990 seed ≡ (nets, s) → octets ≡ peer_table ++ (records nets 20000 s).0
    → octets ≡ sample seed
unfolding sample
sample-is seed s nets octets made is =
    is ∙ ap (λ r. r.0) (sym (ap (draw_on (λ nets. records nets 20000 >>= (λ octets. just (peer_table ++ octets)))) made))
