-- What a run makes of its file, by where it stops.
use Rattle.std.proofs.Common.{◌≡◌, ℕ, List, [], Some, Ok, Err, refl, sym, arith}
use Rattle.std.proofs.lemmas.List.{append-nil}
use Rattle.std.specs.Io.KnownBytes.{IsAtEnd}
use Rattle.tor_io.specs.declared.shelf.Shelf as shelf
use Rattle.as_rel.specs.Limits.{max_rel}
use Rattle.as_rel.specs.Serial.{rel_in}
use Rattle.tor_words.specs.declared.rank_settings.RankSettings.{RankSettings}
use Rattle.run_base.specs.declared.notes.FirstFile.TheVariants.{Rel}
use Rattle.run_base.specs.declared.stop.Stop.TheVariants as stop
use Rattle.run_base.specs.Frames.{ReadsShelf}
use Rattle.run_base.specs.Programs.{First, Reads, HasOctets}
use Rattle.run_base.specs.Stopping.{Asks}
use Rattle.run_base.proofs.Askings.{ReadsFirst, all_made, first_stopped}
use Rattle.torrank_run.specs.declared.asking.Ranked.{Ranked}
use Rattle.torrank_run.specs.Ranking.{ranking, known_rel}

abbrev pub rel_file : RankSettings → First
rel_file settings = record { name = settings.rel; most = max_rel; kind = Rel }

abbrev pub its_reads : RankSettings → Reads
its_reads settings = record { first = Some (rel_file settings); dumps = [] }

module _ {H : Type 0} (settings : RankSettings) (h : shelf.Ghosts H) (old mid : H) (whole : ReadsFirst h (its_reads settings) old mid) (bytes : List ℕ)
    (octets : HasOctets (h.files old) settings.rel max_rel bytes) (at_end : IsAtEnd (h.left mid)) where
  pub bad_line : (line : ℕ) → rel_in bytes ≡ Err line → Asks ranking settings h known_rel (Err (stop.BadLine Rel line)) old mid
  bad_line line is =
      first_stopped ranking settings (its_reads settings) refl h known_rel (rel_file settings) (stop.BadLine Rel line) old mid refl whole (bytes, octets, is) refl refl at_end (λ f. f)

  pub memory : Asks ranking settings h known_rel (Err stop.NoMemory) old mid
  memory = first_stopped ranking settings (its_reads settings) refl h known_rel (rel_file settings) stop.NoMemory old mid refl whole tt tt tt tt (λ f. f)

  pub known : (ranked : Ranked) → rel_in bytes ≡ Ok ranked.rel → Asks ranking settings h known_rel (Ok ranked) old mid
  known ranked is =
      all_made ranking settings (its_reads settings) refl h known_rel ranked ⊥ old mid mid whole (bytes, octets, is) refl
      (sym (append-nil (h.opens mid))) at_end stays (λ f. f)
    where
      stays : ReadsShelf h ⊥ mid mid
      stays = record { keeps = record { files = refl; steady = λ held. held; later = omega arith }; rose = λ f. absurd f; quiet = λ _. refl }
