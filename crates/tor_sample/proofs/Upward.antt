-- Networks one more at a time, and climbs step by step.
use Rattle.std.proofs.Common.{◌≡◌, ℕ, zero, suc, ◌+◌, ◌<◌, ◌≤◌, if◌then◌else◌, List, [], ◌∷◌, ◌++◌, length, get_or, refl, sym, ap, subst, ◌∙◌, lt-ltb, le-ltb, arith, below_more}
use Rattle.std.proofs.lemmas.List.{length-append, append_assoc, get_or_append_left}
use Rattle.std.proofs.lemmas.Grind.{common_steps}
use Rattle.std.proofs.Math.Seq.{get_or-append_seam}
use Rattle.tor_sample.specs.declared.networks.Providers.{Providers}
use Rattle.tor_sample.specs.Draws.{◌>>=◌, just, draw_on}
use Rattle.tor_sample.specs.Networks.{providers_of, networks, provider_of, climb_within, climb}
use Rattle.tor_sample.specs.Levels.{IsAbove, LeadUp}

-- what was made, with these in front of it
abbrev pub behind : List ℕ → List ℕ × ℕ → List ℕ × ℕ
behind before made = (before ++ made.0, made.1)

-- the networks with one more
pub networks-next :
    (n s t u : ℕ) (nets : List Providers) (p : Providers) → networks n s ≡ (nets, t) → providers_of (10 + n) t ≡ (p, u)
    → networks (suc n) s ≡ (nets ++ p ∷ [], u)
unfolding networks
networks-next n s t u nets p before last =
    ap (draw_on (λ before. providers_of (10 + n) >>= (λ last. just (before ++ last ∷ [])))) before
    ∙ ap (draw_on (λ last. just (nets ++ last ∷ []))) last

pub networks-none : (s : ℕ) → networks zero s ≡ ([], s)
unfolding networks
networks-none s = refl

abbrev LeadsAt : List Providers → Providers → Providers → ℕ → Type 0
LeadsAt nets p other k = IsAbove (10 + k) (get_or (nets ++ p ∷ []) k other).first × IsAbove (10 + k) (get_or (nets ++ p ∷ []) k other).second

-- the last of them leads up too
pub lead_up-next :
    (nets : List Providers) (p : Providers) → LeadUp nets → IsAbove (10 + length nets) p.first → IsAbove (10 + length nets) p.second
    → LeadUp (nets ++ p ∷ [])
lead_up-next nets p lead first second k other h = below_more (LeadsAt nets p other) (length nets) before here k (let e = length-append nets (p ∷ []) in omega (arith, e, h))
  where
    before : (k : ℕ) → k < length nets → LeadsAt nets p other k
    before k lt = subst (λ q. IsAbove (10 + k) q.first × IsAbove (10 + k) q.second) (sym (get_or_append_left nets (p ∷ []) other k lt)) (lead k other lt)

    here : LeadsAt nets p other (length nets)
    here = subst (λ q. IsAbove (10 + length nets) q.first × IsAbove (10 + length nets) q.second) (sym (get_or-append_seam nets p [] other)) (first, second)

-- from how many networks a climb has at most so many steps
abbrev pub bound : ℕ → ℕ
bound zero = 10
bound (suc zero) = 50
bound (suc (suc zero)) = 200
bound (suc (suc (suc n))) = 2000

pub bound-step : (n network above : ℕ) → network < bound (suc n) → IsAbove network above → above < bound n
bound-step zero network above h up = grind (arith, common_steps)
bound-step (suc zero) network above h up = grind (arith, common_steps)
bound-step (suc (suc n)) network above h up = grind (arith, common_steps)

-- what networks that were drawn one after the other are: all before this network, from this seed on
abbrev pub Grows : ℕ → ℕ → List Providers → ℕ → Type 0
Grows seed network nets s = (10 + length nets ≡ network) × (networks (length nets) seed ≡ (nets, s)) × LeadUp nets

pub grows-none : (seed : ℕ) → Grows seed 10 [] seed
grows-none seed = (refl, networks-none seed, λ k other h. absurd (omega (arith, h)))

pub grows-next :
    (seed network s t : ℕ) (nets now : List Providers) (p : Providers) → Grows seed network nets s → providers_of network s ≡ (p, t)
    → IsAbove network p.first → IsAbove network p.second → now ≡ nets ++ p ∷ [] → Grows seed (network + 1) now t
grows-next seed network s t nets now p so_far drawn first second is =
    subst (λ now. Grows seed (network + 1) now t) (sym is) (
    let long : length (nets ++ p ∷ []) ≡ suc (length nets) = (let e = length-append nets (p ∷ []) in omega (arith, e)) in
    let here : network ≡ 10 + length nets = sym so_far.0 in
    let drawn' : providers_of (10 + length nets) s ≡ (p, t) = subst (λ i. providers_of i s ≡ (p, t)) here drawn in (
      omega (arith, long, here),
      subst (λ n. networks n seed ≡ (nets ++ p ∷ [], t)) (sym long) (networks-next (length nets) seed s t nets p so_far.1 drawn'),
      lead_up-next nets p so_far.2 (subst (λ i. IsAbove i p.first) here first) (subst (λ i. IsAbove i p.second) here second),
    ))

-- a climb ends at one of the first ten
pub climb-top : (n : ℕ) (nets : List Providers) (network s : ℕ) → network < 10 → climb_within n nets network s ≡ (network ∷ [], s)
unfolding climb_within
climb-top zero nets network s top = refl
climb-top (suc n) nets network s top =
    ap (λ b. (if b then just (network ∷ []) else provider_of nets network >>= (λ above. climb_within n nets above >>= (λ others. just (network ∷ others)))) s) (lt-ltb network 10 top)

-- and from another it goes on with a provider
pub climb-on :
    (n : ℕ) (nets : List Providers) (network above s t : ℕ) → 10 ≤ network → provider_of nets network s ≡ (above, t)
    → climb_within (suc n) nets network s ≡ behind (network ∷ []) (climb_within n nets above t)
unfolding climb_within
climb-on n nets network above s t low drawn =
    ap (λ b. (if b then just (network ∷ []) else provider_of nets network >>= (λ above. climb_within n nets above >>= (λ others. just (network ∷ others)))) s) (le-ltb network 10 low)
    ∙ ap (draw_on (λ above. climb_within n nets above >>= (λ others. just (network ∷ others)))) drawn

-- what a climb has come to: these networks, and then the rest from this one on
abbrev pub Climbs : List Providers → ℕ × ℕ → List ℕ → ℕ × ℕ → Type 0
Climbs nets start before now =
    (n : ℕ) × (length before + n ≤ 3) × (now.0 < bound n) × (climb nets start.0 start.1 ≡ behind before (climb_within n nets now.0 now.1))

pub climbs-none : (nets : List Providers) (network s : ℕ) → network < 2000 → Climbs nets (network, s) [] (network, s)
climbs-none nets network s h = (3, omega arith, h, refl)

pub climbs-next :
    (nets : List Providers) (start : ℕ × ℕ) (before now : List ℕ) (network above s t : ℕ) → Climbs nets start before (network, s) → 10 ≤ network
    → provider_of nets network s ≡ (above, t) → IsAbove network above → now ≡ before ++ network ∷ [] → Climbs nets start now (above, t)
climbs-next nets start before now network above s t so_far low drawn up is =
    subst (λ now. Climbs nets start now (above, t)) (sym is) (by_steps so_far.0 so_far.1 so_far.2 so_far.3)
  where
    further :
        (before : List ℕ) (network : ℕ) (made : List ℕ × ℕ)
        → behind before (behind (network ∷ []) made) ≡ behind (before ++ network ∷ []) made
    further before network made = ap (λ xs. (xs, made.1)) (sym (append_assoc before (network ∷ []) made.0))

    by_steps :
        (n : ℕ) → length before + n ≤ 3 → network < bound n → climb nets start.0 start.1 ≡ behind before (climb_within n nets network s)
        → Climbs nets start (before ++ network ∷ []) (above, t)
    by_steps zero room under so_far = absurd (omega (arith, low, under))
    by_steps (suc n) room under so_far = (
      n,
      (let e = length-append before (network ∷ []) in omega (arith, e, room)),
      bound-step n network above under up,
      so_far ∙ ap (behind before) (climb-on n nets network above s t low drawn) ∙ further before network (climb_within n nets above t),
    )

pub climbs-end :
    (nets : List Providers) (start : ℕ × ℕ) (before now : List ℕ) (network s : ℕ) → Climbs nets start before (network, s) → network < 10
    → now ≡ before ++ network ∷ [] → climb nets start.0 start.1 ≡ (now, s)
climbs-end nets start before now network s so_far top is =
    so_far.3 ∙ ap (behind before) (climb-top so_far.0 nets network s top) ∙ ap (λ xs. (xs, s)) (sym is)
