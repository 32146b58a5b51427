-- The notes of what isn't there, computed.
use Rattle.std.proofs.Common.{◌≡◌, codes, refl}
use Rattle.std.specs.Fmt.{digits}
use Rattle.tor_words.specs.declared.why_settings.Asked.TheVariants.{Edge, Path, Neighbours}
use Rattle.showing_run.specs.Views as views
use Rattle.showing_run.specs.Whys as whys

no_edge : whys.absent_note (Edge 20 7) ≡ codes "absent|20|7\n"
unfolding digits
no_edge = refl

no_path : whys.absent_note (Path 4) ≡ codes "absent|4\n"
unfolding digits
no_path = refl

no_neighbours : whys.absent_note (Neighbours 4294967295) ≡ codes "absent|4294967295\n"
unfolding digits
no_neighbours = refl

no_as : views.absent_note 20 ≡ codes "absent|20\n"
unfolding digits
no_as = refl
