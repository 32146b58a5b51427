-- Links, and words with one, that were judged by hand.
use Rattle.std.proofs.Common.{◌≡◌, [], ◌∷◌, Some, None, true, false, refl}
use Rattle.std.specs.Prelude.{codes}
use Rattle.clap.specs.Faults.{flags_fault, walk_fault, defaults_fault}
use Rattle.clap.specs.Walk.{bundle_met, walked}
use Rattle.tor_words.specs.Links.{is_link}
use Rattle.tor_words.specs.TorviewCommand.{torview_command}
use Rattle.tor_words.specs.ViewGiven.{view_settings_given}

of_web : (is_link (codes "http://") ≡ true) × (is_link (codes "https://as.example/AS{}?a=1&b={}#~!") ≡ true)
of_web = (refl, refl)

of_others : (is_link (codes "javascript:alert(1)") ≡ false) × (is_link (codes "HTTP://a") ≡ false) × (is_link (codes "http:/a") ≡ false) × (is_link [] ≡ false)
of_others = (refl, refl, refl, refl)

with_a_blank : (is_link (codes "http://a b") ≡ false) × (is_link (codes " http://a") ≡ false) × (is_link (codes "http://a\n") ≡ false)
with_a_blank = (refl, refl, refl)

with_an_end : (is_link (codes "http://\"") ≡ false) × (is_link (codes "http://'") ≡ false) × (is_link (codes "http://<") ≡ false) × (is_link (codes "http://>") ≡ false)
with_an_end = (refl, refl, refl, refl)

beyond_ascii : (is_link (104 ∷ 116 ∷ 116 ∷ 112 ∷ 58 ∷ 47 ∷ 47 ∷ 195 ∷ 169 ∷ []) ≡ false) × (is_link (104 ∷ 116 ∷ 116 ∷ 112 ∷ 58 ∷ 47 ∷ 47 ∷ 127 ∷ []) ≡ false)
beyond_ascii = (refl, refl)

picture_with_a_link : view_settings_given (codes "--link" ∷ codes "https://a/{}" ∷ codes "r" ∷ codes "7" ∷ [])
    ≡ Some (record { result = codes "r"; asked = 7; most = 60; depth = 1; link = Some (codes "https://a/{}") })
unfolding view_settings_given torview_command bundle_met walked flags_fault walk_fault defaults_fault
picture_with_a_link = refl

picture_with_a_blank : view_settings_given (codes "--link=https://a /{}" ∷ codes "r" ∷ codes "7" ∷ []) ≡ None
unfolding view_settings_given torview_command bundle_met walked flags_fault walk_fault defaults_fault
picture_with_a_blank = refl
