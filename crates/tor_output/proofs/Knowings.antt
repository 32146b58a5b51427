-- What is known in a run names two ASes each time, and no two of them twice.
use Rattle.std.proofs.Common.{◌≡◌, ◌∙◌, ◌++◌, ℕ, List, [], length, take, Option, Some, None, unwrap_or, sym, ap, append-nil}
use Rattle.relationships.specs.declared.given.Given.{Given}
use Rattle.relationships.specs.Givens.{NameTwo, NameOnce}
use Rattle.relationships.specs.Graph.{edges}
use Rattle.as_rel.specs.declared.givens.KnownLines.{KnownLines}
use Rattle.std.proofs.lemmas.List.{length-map}
use Rattle.result_text.specs.declared.file.PathLine.{PathLine}
use Rattle.result_text.specs.declared.file.ResultFile.{ResultFile}
use Rattle.result_rules.specs.File.{its_givens, its_paths}
use Rattle.rel_infer.specs.declared.earlier_table.Rest.{Rest}
use Rattle.rel_infer.specs.Earlier.{BeginsWithPathsOf, IsRestOf}
use Rattle.rel_infer.proofs.Acceptance.{same_givens}
use Rattle.top_laws.proofs.BoundLists.{top_behind_law}
use Rattle.top_givens.specs.TopGivens.{given_pairs, top_givens}
use Rattle.top_givens.proofs.Members.{given_paired, top_sound_law}
use Rattle.tor_output.specs.First.{AreSound}
use Rattle.tor_output.specs.Knowing.{known_of, known_on, said_givens, said_peers}

pub known_sound : (top : Option (List ℕ)) (said : Option KnownLines) (paths : List (List ℕ)) → AreSound said →
    NameTwo (unwrap_or (known_of top said paths) []) × NameOnce (unwrap_or (known_of top said paths) [])
known_sound None None paths sound = sound
known_sound None (Some s) paths sound = sound
known_sound (Some top) said paths sound =
    let gs = said_givens said in
    let law = top_sound_law top (given_pairs gs ++ said_peers said) paths gs (given_paired gs (said_peers said)) in
    (law.0 sound.0, law.1 sound.1)

-- no edges stand before the first path
pub none_before : (top : List ℕ) (named : List (ℕ × ℕ)) (paths : List (List ℕ)) → top_givens top (named ++ edges (take 0 paths)) paths ≡ top_givens top named paths
none_before top named paths = ap (λ (pairs : List (ℕ × ℕ)). top_givens top pairs paths) (append-nil named)

-- what is added on top of an earlier result is what is known on top of it
pub further_is : (top slice : List ℕ) (file : ResultFile) (start more : List Given) (known : Option (List Given)) (paths rows : List (List ℕ)) (first : ℕ) →
    slice ≡ top → rows ≡ paths → known ≡ file.givens → start ≡ unwrap_or known [] → take first paths ≡ its_paths file →
    more ≡ start ++ top_givens slice ((given_pairs start ++ []) ++ edges (take first rows)) rows → Some more ≡ known_on (Some top) file paths
further_is top slice file start more known paths rows first same_top same_rows knows starts begins is =
    ap (λ (gs : List Given). Some gs)
    (is ∙ ap (λ s. bound s slice rows) (starts ∙ same_givens file known (sym knows)) ∙ ap (λ t. bound (its_givens file) t rows) same_top ∙
    ap (λ r. bound (its_givens file) top r) same_rows ∙ top_behind_law (its_givens file) top (its_paths file) paths first begins)
  where
    bound : List Given → List ℕ → List (List ℕ) → List Given
    bound s t r = s ++ top_givens t ((given_pairs s ++ []) ++ edges (take first r)) r

-- so many fates are left of a result as it has paths, so the first paths, so many, are its own
pub first_own : (file : ResultFile) (rest : Rest) (paths : List (List ℕ)) (first : ℕ) → IsRestOf file rest → BeginsWithPathsOf paths file → first ≡ length rest.fates →
    take first paths ≡ its_paths file
first_own file rest paths first left begins many =
    ap (λ n. take n paths) (many ∙ ap length left.fates ∙ length-map file.paths (λ (p : PathLine). p.fate)) ∙ begins
