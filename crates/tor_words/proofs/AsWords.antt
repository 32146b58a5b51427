-- Words with and without AS before the number, and words of tellings that were read by hand, as clap reads them.
use Rattle.std.proofs.Common.{◌≡◌, ◌≢◌, ◌≤◌, ℕ, length, map, arith, List, [], ◌∷◌, ◌++◌, Some, None, Bool, true, inl, inr, refl, ap}
use Rattle.std.specs.Prelude.{◌==◌, codes, drop}
use Rattle.std.specs.List.{starts_with}
use Rattle.std.proofs.lemmas.Bool.{cases_Bool}
use Rattle.std.proofs.lemmas.Bool.Decides.{Decides-eqb}
use Rattle.std.proofs.lemmas.Slice.Eq.{starts_is}
use Rattle.clap.specs.Faults.{flags_fault, walk_fault, defaults_fault}
use Rattle.clap.specs.Walk.{bundle_met, walked}
use Rattle.tor_words.specs.declared.why_settings.Asked.TheVariants.{Edge, Path, Neighbours}
use Rattle.tor_words.specs.AsWords.{as_named}
use Rattle.tor_words.specs.Given.{short_number}
use Rattle.tor_words.specs.TorviewCommand.{torview_command}
use Rattle.tor_words.specs.TorwhyCommand.{torwhy_command}
use Rattle.tor_words.specs.ViewGiven.{view_settings_given}
use Rattle.tor_words.specs.WhyGiven.{ases_asked, why_settings_given}

abbrev has_as : List ℕ → Bool
has_as word = starts_with (λ a b. a == b) word (codes "AS")

module _ (word : List ℕ) where
  pub with_as : (number : List ℕ) → word ≡ codes "AS" ++ number → short_number number ≡ as_named word
  with_as number is =
      let begins : has_as word ≡ true = (starts_is Decides-eqb word (codes "AS") (has_as word) refl).1 number is in
      let rest : drop 2 word ≡ number = ap (drop 2) is in
      rw (begins, rest) refl

  pub without_as : ((rest : List ℕ) → word ≢ codes "AS" ++ rest) → short_number word ≡ as_named word
  without_as none =
      elim (cases_Bool (has_as word)) [
        | inl t ↦ absurd (none (drop 2 word) ((starts_is Decides-eqb word (codes "AS") (has_as word) refl).0 t))
        | inr f ↦ rw f refl
      ]

-- three ASes or more ask nothing
pub too_many : {X : Type 0} (text : X → List ℕ) (xs : List X) → 3 ≤ length xs → None ≡ ases_asked (map text xs)
too_many text [] many = absurd (omega (arith, many))
too_many text (a ∷ []) many = absurd (omega (arith, many))
too_many text (a ∷ b ∷ []) many = absurd (omega (arith, many))
too_many text (a ∷ b ∷ c ∷ xs) many = refl

-- ---- words

neighbours_of_a_number : why_settings_given (codes "r" ∷ codes "13175" ∷ []) ≡ Some (record { result = codes "r"; asked = Neighbours 13175 })
unfolding why_settings_given torwhy_command bundle_met walked flags_fault walk_fault defaults_fault
neighbours_of_a_number = refl

neighbours_of_an_as : why_settings_given (codes "r" ∷ codes "AS13175" ∷ []) ≡ Some (record { result = codes "r"; asked = Neighbours 13175 })
unfolding why_settings_given torwhy_command bundle_met walked flags_fault walk_fault defaults_fault
neighbours_of_an_as = refl

edge_of_an_as : why_settings_given (codes "r" ∷ codes "AS20" ∷ codes "+07" ∷ []) ≡ Some (record { result = codes "r"; asked = Edge 20 7 })
unfolding why_settings_given torwhy_command bundle_met walked flags_fault walk_fault defaults_fault
edge_of_an_as = refl

one_as_twice : why_settings_given (codes "r" ∷ codes "AS20" ∷ codes "20" ∷ []) ≡ None
unfolding why_settings_given torwhy_command bundle_met walked flags_fault walk_fault defaults_fault
one_as_twice = refl

as_in_small_letters : why_settings_given (codes "r" ∷ codes "as1" ∷ []) ≡ None
unfolding why_settings_given torwhy_command bundle_met walked flags_fault walk_fault defaults_fault
as_in_small_letters = refl

as_without_a_number : why_settings_given (codes "r" ∷ codes "AS" ∷ []) ≡ None
unfolding why_settings_given torwhy_command bundle_met walked flags_fault walk_fault defaults_fault
as_without_a_number = refl

as_before_an_as : why_settings_given (codes "r" ∷ codes "ASAS1" ∷ []) ≡ None
unfolding why_settings_given torwhy_command bundle_met walked flags_fault walk_fault defaults_fault
as_before_an_as = refl

path_beside_an_as : why_settings_given (codes "--path" ∷ codes "1" ∷ codes "r" ∷ codes "7" ∷ []) ≡ None
unfolding why_settings_given torwhy_command bundle_met walked flags_fault walk_fault defaults_fault
path_beside_an_as = refl

path_of_a_number : why_settings_given (codes "r" ∷ codes "--path=3" ∷ []) ≡ Some (record { result = codes "r"; asked = Path 3 })
unfolding why_settings_given torwhy_command bundle_met walked flags_fault walk_fault defaults_fault
path_of_a_number = refl

picture_of_an_as : view_settings_given (codes "r" ∷ codes "AS4294967295" ∷ []) ≡ Some (record { result = codes "r"; asked = 4294967295; most = 60; depth = 1; link = None })
unfolding view_settings_given torview_command bundle_met walked flags_fault walk_fault defaults_fault
picture_of_an_as = refl

picture_of_no_as : view_settings_given (codes "r" ∷ codes "As1" ∷ []) ≡ None
unfolding view_settings_given torview_command bundle_met walked flags_fault walk_fault defaults_fault
picture_of_no_as = refl
