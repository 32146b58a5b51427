-- What is left where arcs or triples are cut off.
use Rattle.std.proofs.Common.{◌≡◌, ℕ, ◌+◌, ◌*◌, ◌<◌, ◌≤◌, ◌^◌, List, length, take, flat_map, sym, ap, ◌∙◌, subst, arith}
use Rattle.tor_digraph.specs.Walks.{Net, IsInside, first_part}
use Rattle.tor_arena.proofs.Gets.{slice_get-take}
use Rattle.tor_clauses.specs.declared.triple.Triple.{Triple}
use Rattle.tor_clauses.specs.Triples.{arcs_of}
use Rattle.tor_clauses.proofs.Arcs.{length-arcs, take-arcs}

pub inside_first : {N : Type 0} (place : N → ℕ) (net : Net N) (nodes n : ℕ) → nodes ≡ net.nodes → IsInside place net → IsInside place (first_part net nodes n)
inside_first place net nodes n e i = record {
  tails = λ k u v a. subst (λ m. place u < m) (sym e) (i.tails k u v (slice_get-take n net.arcs k (u, v) a).1);
  heads = λ k u v a. subst (λ m. place v < m) (sym e) (i.heads k u v (slice_get-take n net.arcs k (u, v) a).1);
}

pub arcs_enough : (n : ℕ) (ts : List Triple) (arcs : List (ℕ × ℕ)) → arcs ≡ flat_map arcs_of ts → n ≤ length ts → n * 2 ≤ length arcs
arcs_enough n ts arcs e le = let l : length arcs ≡ length ts * 2 = ap length e ∙ length-arcs ts in omega (arith, l, le)

pub arcs_few : (ts : List Triple) (arcs : List (ℕ × ℕ)) → arcs ≡ flat_map arcs_of ts → length ts < 2 ^ 27 → length arcs + 2 ≤ 2 ^ 28
arcs_few ts arcs e few = let l : length arcs ≡ length ts * 2 = ap length e ∙ length-arcs ts in omega (arith, l, few)

pub arcs_cut : (n : ℕ) (ts ts' : List Triple) (arcs arcs' : List (ℕ × ℕ)) → arcs ≡ flat_map arcs_of ts → arcs' ≡ take (n * 2) arcs → ts' ≡ take n ts → arcs' ≡ flat_map arcs_of ts'
arcs_cut n ts ts' arcs arcs' e f g = f ∙ ap (take (n * 2)) e ∙ take-arcs n ts ∙ ap (flat_map arcs_of) (sym g)
