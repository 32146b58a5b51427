-- What marks that are borne out line by line give together.
use Rattle.std.proofs.Common.{◌≡◌, ℕ, suc, ◌+◌, ◌-◌, ◌<◌, List, [], ◌∷◌, ◌++◌, length, take, refl, sym, subst, arith, append_assoc, append-nil, All, Some, slice_get}
use Rattle.std.proofs.lemmas.Option.{slice_get_within}
use Rattle.std.proofs.lemmas.List.Elements.{All-from_recursion}
use Rattle.relationships.specs.Checking.{Claim, IsBorneOut, IsProbe, ProbesFrom}
use Rattle.result_text.specs.declared.file.ResultFile.{ResultFile}
use Rattle.relationships.specs.declared.mark.Probe.{Probe}
use Rattle.result_rules.specs.File.{claim_on, its_claims, its_probes, shown_orders}
use Rattle.result_rules.specs.declared.rule.Rule.TheVariants.{MarksBorneOut}
use Rattle.result_rules.specs.Rules.{its_served, IsMet}
use Rattle.result_rules.proofs.Accepted.{each_at, same_length}

pub marks_are_borne_out : (file : ResultFile) → IsMet file MarksBorneOut →
    All (IsBorneOut (its_served file) (shown_orders file.whys) (its_probes file)) (its_claims file)
marks_are_borne_out file met =
    All-from_recursion (IsBorneOut (its_served file) (shown_orders file.whys) (its_probes file)) (its_claims file)
    (each_at (IsBorneOut (its_served file) (shown_orders file.whys) (its_probes file)) (its_claims file)
    (λ k claim at. (met k (within k claim at)).0 claim at))
  where
    within : (k : ℕ) (claim : Claim) → slice_get (its_claims file) k ≡ Some claim → k < length file.edges + length file.probes
    within k claim at =
        let lt = slice_get_within (its_claims file) k claim at in
        let same = same_length claim_on file.edges in
        omega (arith, lt, same)

-- from the open lines that came before, and each that is still to come behind those
module _ (kept : List (List ℕ)) (claims : List Claim) where
  probes_from : (earlier probes : List (ℕ × ℕ)) → ((k : ℕ) (p : ℕ × ℕ) → slice_get probes k ≡ Some p → IsProbe kept claims (earlier ++ take k probes) p) →
      ProbesFrom kept claims earlier probes
  probes_from earlier [] h = tt
  probes_from earlier (p ∷ probes) h = (
    subst (λ l. IsProbe kept claims l p) (append-nil earlier) (h 0 p refl),
    probes_from (earlier ++ p ∷ []) probes
        (λ k q at. subst (λ l. IsProbe kept claims l q) (sym (append_assoc earlier (p ∷ []) (take k probes))) (h (suc k) q at)),
  )

pub probes_serve : (file : ResultFile) → IsMet file MarksBorneOut → ProbesFrom (its_served file) (its_claims file) [] (its_probes file)
probes_serve file met = probes_from (its_served file) (its_claims file) [] (its_probes file) each
  where
    each : (k : ℕ) (p : ℕ × ℕ) → slice_get (its_probes file) k ≡ Some p → IsProbe (its_served file) (its_claims file) (take k (its_probes file)) p
    each k p at =
        let lt = slice_get_within (its_probes file) k p at in
        let same = same_length {Y = ℕ × ℕ} (λ (q : Probe). (q.over, q.under)) file.probes in
        let back : length file.edges + k - length file.edges ≡ k = omega arith in
        let at_back : slice_get (its_probes file) (length file.edges + k - length file.edges) ≡ Some p = subst (λ n. slice_get (its_probes file) n ≡ Some p) (sym back) at in
        subst (λ n. IsProbe (its_served file) (its_claims file) (take n (its_probes file)) p) back
        ((met (length file.edges + k) (omega (arith, lt, same))).1 (omega arith) p at_back)
