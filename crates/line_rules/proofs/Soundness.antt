-- The path lines that are sound, up to a place.
use Rattle.std.proofs.Common.{◌≡◌, ℕ, ◌+◌, ◌<◌, ◌≤◌, length, take, sum_by, IsTrue, refl, sym, ap, ◌∙◌, arith}
use Rattle.tor_arena.specs.Limits.{max_paths, max_numbers}
use Rattle.path_clean.specs.Paths.{is_cleaned}
use Rattle.result_text.specs.declared.file.PathLine.{PathLine}
use Rattle.result_text.specs.declared.file.ResultFile.{ResultFile}
use Rattle.result_rules.specs.File.{its_paths}
use Rattle.result_rules.specs.declared.rule.Rule.TheVariants.{PathsCleaned}
use Rattle.result_rules.specs.Rules.{Asks, IsSound, BreaksFirst}
use Rattle.line_rules.proofs.Lines.{IsLine, before-more, at-place, numbers-more}
use Rattle.std.proofs.lemmas.Option.{slice_get_read}

-- the lines before are sound, and have so many numbers
pub record AreSound (file : ResultFile) (place numbers : ℕ) : Type 0 where
  pub so_far : numbers ≡ sum_by length (take place (its_paths file))
  pub short : numbers ≤ max_numbers
  pub before : (j : ℕ) → j < place → Asks file PathsCleaned j

-- what is tested of a line
abbrev pub Tested : ℕ → ℕ → PathLine → Type 0
Tested place numbers line = IsTrue (is_cleaned line.path) × (1 ≤ line.times) × (place < max_paths) × (numbers + length line.path ≤ max_numbers)

sound-from_tested : (file : ResultFile) (place numbers : ℕ) (line : PathLine) → AreSound file place numbers → IsLine file place line → Tested place numbers line → IsSound file place line
sound-from_tested file place numbers line a l t = record {
  cleaned = t.0;
  seen = t.1;
  few = t.2;
  numbers = let so_far = a.so_far in let more = t.3 in omega (arith, so_far, more, numbers-more file place line l.within l.is);
}

tested-from_sound : (file : ResultFile) (place numbers : ℕ) (line : PathLine) → AreSound file place numbers → IsLine file place line → IsSound file place line → Tested place numbers line
tested-from_sound file place numbers line a l s =
    let so_far = a.so_far in
    let most = s.numbers in (
      s.cleaned,
      s.seen,
      s.few,
      omega (arith, so_far, most, numbers-more file place line l.within l.is),
    )

pub sound-more : (file : ResultFile) (place numbers : ℕ) (line : PathLine) → AreSound file place numbers → IsLine file place line → Tested place numbers line →
    AreSound file (place + 1) (numbers + length line.path)
sound-more file place numbers line a l t = record {
  so_far = ap (λ n. n + length line.path) a.so_far ∙ sym (numbers-more file place line l.within l.is);
  short = t.3;
  before = before-more (Asks file PathsCleaned) place a.before
      (at-place (IsSound file place) file.paths place line l.within l.is (sound-from_tested file place numbers line a l t));
}

pub unsound-first : (file : ResultFile) (place numbers : ℕ) (line : PathLine) → AreSound file place numbers → IsLine file place line → (Tested place numbers line → ⊥) →
    BreaksFirst file PathsCleaned place
unsound-first file place numbers line a l bad = record {
  within = l.within;
  breach = λ asks. bad (tested-from_sound file place numbers line a l (asks line (slice_get_read file.paths (length file.paths) place line refl l.within l.is)));
  before = a.before;
}
