-- Groups that are put one behind the other.
use Rattle.std.proofs.Common.{◌≡◌, ℕ, ◌+◌, ◌-◌, ◌<◌, ◌≤◌, List, [], ◌∷◌, ◌++◌, length, take, drop, get_or, codes, flat_map, refl, sym, ap, ◌∙◌, append-nil, append_assoc, slice_index, decimal, cond, arith}
use Rattle.std.specs.Net.Text.{compressed_text, groups_text, hex, hex_groups_text, ipv4_text, longest_zero_run}
use Rattle.std.proofs.lemmas.Grind.{flat_map-append}
use Rattle.std.proofs.lemmas.Bool.{le-ltb, lt-ltb}
use Rattle.std.proofs.lemmas.List.{take_all}
use Rattle.std.proofs.lemmas.Option.{slice_get-get_or}
use Rattle.tor_arena.proofs.Gets.{take_get}
use Rattle.tor_io.specs.Outflow.{State, Puts}
use Rattle.tor_io.proofs.Known.{rest_from}
use Rattle.tor_io.proofs.Putting.{puts_as, puts_then}

abbrev pub behind_colon : ℕ → List ℕ
behind_colon n = codes ":" ++ hex n

pub one_group : (a b c : State) (xs : List ℕ) (k d : ℕ) → k < length xs → Puts a b (flat_map behind_colon (take k xs)) → Puts b c (behind_colon (get_or xs k d)) →
    Puts a c (flat_map behind_colon (take (k + 1) xs))
one_group a b c xs k d low so_far more =
    let x = get_or xs k d in
    puts_as (puts_then so_far more)
    (sym (ap (flat_map behind_colon) (take_get xs k x (slice_get-get_or xs k d low)) ∙ flat_map-append behind_colon (take k xs) (x ∷ [])
    ∙ ap (λ t. flat_map behind_colon (take k xs) ++ t) (append-nil (behind_colon x))))

pub dots : (o : List ℕ) (a b c d : ℕ) → a ≡ slice_index o 0 → b ≡ slice_index o 1 → c ≡ slice_index o 2 → d ≡ slice_index o 3 →
    decimal a ++ (46 ∷ decimal b) ++ (46 ∷ decimal c) ++ (46 ∷ decimal d) ≡ ipv4_text o
dots o a b c d p q r s = rw (p, q, r, s) (simp append_assoc)

pub first_group : (xs : List ℕ) (d : ℕ) → 1 ≤ length xs → hex (get_or xs 0 d) ++ flat_map behind_colon (take (length xs - 1) (drop 1 xs)) ≡ groups_text xs
first_group [] d low = absurd (omega (arith, low))
first_group (x ∷ xs) d low = ap (λ ys. hex x ++ flat_map behind_colon ys) (take_all (length (x ∷ xs) - 1) xs (omega arith))

-- no run of zeros has two groups
pub plain_groups : (xs : List ℕ) (start len : ℕ) → (start, len) ≡ longest_zero_run xs → len < 2 → groups_text xs ≡ hex_groups_text xs
unfolding hex_groups_text
plain_groups xs start len same few =
    sym (ap (λ b. cond b (groups_text (take start xs) ++ codes "::" ++ groups_text (drop (start + len) xs)) (groups_text xs)) (le-ltb 1 len (omega (arith, few))))
    ∙ ap (compressed_text xs) same

-- one has
pub short_groups : (xs : List ℕ) (start len : ℕ) → (start, len) ≡ longest_zero_run xs → 2 ≤ len →
    groups_text (take start xs) ++ (codes "::" ++ groups_text (take (length xs - (start + len)) (drop (start + len) xs))) ≡ hex_groups_text xs
unfolding hex_groups_text
short_groups xs start len same many =
    ap (λ rest. groups_text (take start xs) ++ (codes "::" ++ groups_text rest)) (rest_from (start + len) xs)
    ∙ sym (append_assoc (groups_text (take start xs)) (codes "::") (groups_text (drop (start + len) xs)))
    ∙ sym (ap (λ b. cond b (groups_text (take start xs) ++ codes "::" ++ groups_text (drop (start + len) xs)) (groups_text xs)) (lt-ltb 1 len (omega (arith, many))))
    ∙ ap (compressed_text xs) same
