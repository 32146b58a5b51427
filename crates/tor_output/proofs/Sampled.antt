-- What holds by the settings that words give, where these may ask for a sample.
use Rattle.std.proofs.Common.{◌≡◌, ℕ, List, Option, Some, None, sym, subst}
use Rattle.std.specs.Prelude.{IfSome}
use Rattle.tor_io.specs.Contents.{Files}
use Rattle.tor_words.specs.declared.settings.Settings.{Settings}
use Rattle.tor_words.specs.Given.{settings_given}
use Rattle.tor_output.specs.Sampling.{BySample, known_for, known_by, known_in}

-- this of both
pub by_sample : (o : Option ℕ) {P Q : Type 0} → P → Q → BySample o P Q
by_sample None p q = q
by_sample (Some seed) p q = p

pub sample_more : (o : Option ℕ) {P Q R S : Type 0} → (P → R) → (Q → S) → BySample o P Q → BySample o R S
sample_more None f g h = g h
sample_more (Some seed) f g h = f h

pub known-given :
    (words : List (List ℕ)) (settings : Settings) (known : Option Files) (P : Option Files → Type 0) → settings_given words ≡ Some settings
    → P (known_in settings known) → P (known_by words known)
known-given words settings known P given h = subst (λ o. P (known_for o known)) (sym given) h

pub any_known : (known : Option Files) (P : Files → Type 0) → ((files : Files) → P files) → IfSome known P
any_known None P f = tt
any_known (Some files) P f = f files

pub all_known : (known : Option Files) (P Q : Files → Type 0) → ((files : Files) → P files → Q files) → IfSome known P → IfSome known Q
all_known None P Q f h = tt
all_known (Some files) P Q f h = f files h
