-- Texts of worked summaries, by computation.
use Rattle.std.proofs.Common.{◌≡◌, codes, refl, ◌^◌, ◌-◌}
use Rattle.std.specs.Prelude.{[], ◌∷◌, decimal}
use Rattle.std.specs.List.{concat}
use Rattle.std.specs.Fmt.{digits}
use Rattle.serde_json.proofs.OnLiterals.{serde_json_on_literals}
use Rattle.path_clean.specs.Counts.{CauseCounts, no_counts}
use Rattle.tor_output.specs.Summary.{all_asides, all_paths, summary_of}
use Rattle.result_text.specs.declared.file.Totals.{Totals}

summary_of-three_paths : summary_of no_counts (record { kept = 2; lost = 1; edges = 7; forced = 3; peers = 1 })
    ≡ codes "{\"asides\":0,\"edges\":7,\"forced\":3,\"kept\":2,\"lost\":1,\"paths\":3,\"peers\":1}"
unfolding serde_json_on_literals digits
summary_of-three_paths = refl

summary_of-realistic : summary_of (record no_counts { reserved = 1 }) (record { kept = 5; lost = 1; edges = 9; forced = 4; peers = 1 })
    ≡ codes "{\"asides\":1,\"edges\":9,\"forced\":4,\"kept\":5,\"lost\":1,\"paths\":6,\"peers\":1}"
unfolding serde_json_on_literals digits
summary_of-realistic = refl

-- of any numbers
summary_of-any : (asides : CauseCounts) (totals : Totals) → summary_of asides totals ≡ concat (
    codes "{\"asides\":" ∷ decimal (all_asides asides)
    ∷ codes ",\"edges\":" ∷ decimal totals.edges
    ∷ codes ",\"forced\":" ∷ decimal totals.forced
    ∷ codes ",\"kept\":" ∷ decimal totals.kept
    ∷ codes ",\"lost\":" ∷ decimal totals.lost
    ∷ codes ",\"paths\":" ∷ decimal (all_paths totals)
    ∷ codes ",\"peers\":" ∷ decimal totals.peers
    ∷ codes "}" ∷ [])
unfolding serde_json_on_literals
summary_of-any asides totals = refl

all_asides-stops : all_asides (record no_counts { loop = 2 ^ 64 - 1; short = 1 }) ≡ 2 ^ 64 - 1
all_asides-stops = refl
