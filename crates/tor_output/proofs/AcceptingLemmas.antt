-- What dumps give is as a table of paths has it, and a result of it is accepted.
use Rattle.dump_read.specs.Wanted.{all_wanted}
use Rattle.std.proofs.Common.{◌≡◌, ℕ, List, [], ◌∷◌, map, Option, Some, None, refl, sym, ap₂, subst, arith}
use Rattle.dump_read.specs.Laws.{Fit, cleaned_paths, routes_in_files}
use Rattle.as_rel.specs.declared.givens.KnownLines.{KnownLines}
use Rattle.tor_io.specs.Contents.{Files}
use Rattle.rel_infer.specs.SelfAcceptance.{AreTableRows, SelfAcceptanceLaw}
use Rattle.tor_words.specs.Given.{BoundsLaw}
use Rattle.tor_output.specs.Accepting.{FaithfulLaw, TableLaw}
use Rattle.tor_output.specs.First.{AreSound, First, Nothing, Givens, Result, Earlier, AreGivens, first_in}
use Rattle.path_table.specs.Rows.{row_paths}
use Rattle.tor_output.specs.Output.{known_for, paths_taken}
use Rattle.tor_output.proofs.Knowings.{known_sound}
use Rattle.tor_output.proofs.Known.{says_sound}
use Rattle.tor_output.proofs.Orderings.{taken_rows}
use Rattle.tor_output.proofs.ReadableLemmas.{readable}
use Rattle.tor_output.proofs.SeenLemmas.{seen_law}
use Rattle.tor_output.proofs.TableRows.{counted_rows}

pub same_octets : (a b : List (List ℕ)) → ◌≡◌ {A = List (Option (List ℕ))} (map Some a) (map Some b) → a ≡ b
same_octets [] [] e = refl
same_octets [] (y ∷ b) e = absurd cc
same_octets (x ∷ a) [] e = absurd cc
same_octets (x ∷ a) (y ∷ b) e =
    let head : x ≡ y = cc in
    let tail : ◌≡◌ {A = List (Option (List ℕ))} (map Some a) (map Some b) = cc in
    ap₂ (λ (t : List ℕ) (ts : List (List ℕ)). t ∷ ts) head (same_octets a b tail)

-- where nothing is known it is sound
pub none_sound : AreSound None
none_sound = (λ i d lt. absurd (omega (arith, lt)), λ i j d lt within. absurd (omega (arith, within)))

givens_sound : (f : First) (files : Files) (known : Option KnownLines) → AreGivens f files known → AreSound known
givens_sound Nothing files None is = none_sound
givens_sound Nothing files (Some givens) is = absurd is
givens_sound (Givens name) files None is = absurd is
givens_sound (Givens name) files (Some givens) is = says_sound is.0 givens is.2
givens_sound (Result name) files known is = absurd is
givens_sound (Earlier name) files known is = absurd is

pub table_law : BoundsLaw → TableLaw
table_law bounds words settings files known taken given comes =
    let seen = seen_law settings files taken comes.1 in
    let all = (readable settings files).0 (taken, comes.1) in
    let same = same_octets all.octets seen.octets (subst (λ ds. ds ≡ map Some seen.octets) all.there seen.there) in
    let fit : Fit settings.max_paths (cleaned_paths settings.sets (routes_in_files (all_wanted settings.sets) seen.octets)) =
    subst (λ (os : List (List ℕ)). Fit settings.max_paths (cleaned_paths settings.sets (routes_in_files (all_wanted settings.sets) os))) same all.fit in (
      subst AreTableRows (sym seen.routes.rows) (counted_rows settings.sets (routes_in_files (all_wanted settings.sets) seen.octets) settings.max_paths (bounds words settings given).most fit),
      givens_sound (first_in settings) files known comes.0,
    )

pub faithful_law : BoundsLaw → SelfAcceptanceLaw → FaithfulLaw
faithful_law bounds accept words settings known taken file given sound table faithful =
    let names = known_sound settings.top known (row_paths (paths_taken settings taken)) sound in
    accept (known_for settings known taken) settings.sets settings.ratio (paths_taken settings taken) taken.counts file (bounds words settings given).ratio
    (taken_rows settings taken table) names.0 names.1 faithful
