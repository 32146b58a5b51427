-- Routes whose paths and counts were worked by hand.
use Rattle.std.proofs.Common.{◌≡◌, ℕ, List, [], ◌∷◌, length, Some, None, refl}
use Rattle.path_segments.specs.declared.as_path.Width.TheVariants.{Two}
use Rattle.path_segments.specs.Segments.{segment, segments_within, segments_of}
use Rattle.mrt_header.specs.declared.record_kind.Family.TheVariants.{Ipv4, Ipv6}
use Rattle.path_clean.specs.declared.cleaned.Sets.TheVariants.{Cut}
use Rattle.path_clean.specs.declared.cleaned.Cause.TheVariants.{NoPath, Loop, Short}
use Rattle.path_table.specs.Table.{counted}
use Rattle.dump_read.specs.Routes.{Route}
use Rattle.dump_read.specs.declared.wanted.Families.TheVariants.{Both, Only}
use Rattle.dump_read.specs.Wanted.{which_count}
use Rattle.dump_read.specs.Laws.{cleaned_paths, set_aside}

-- a route whose AS_PATH is one AS_SEQUENCE of three numbers
abbrev over : (x y z : ℕ) → Route
over x y z = record { attrs = record { code = 2; value = 2 ∷ 3 ∷ 0 ∷ x ∷ 0 ∷ y ∷ 0 ∷ z ∷ [] } ∷ []; width = Two; family = Ipv4; peer = 10 }

abbrev without_path : Route
without_path = record { attrs = []; width = Two; family = Ipv6; peer = 23456 }

abbrev routes : List Route
routes = over 10 20 30 ∷ over 10 20 10 ∷ over 20 30 40 ∷ without_path ∷ over 10 20 30 ∷ over 30 20 30 ∷ []

paths_counted : counted (cleaned_paths Cut routes) ≡ record { path = 10 ∷ 20 ∷ 30 ∷ []; times = 2 } ∷ record { path = 20 ∷ 30 ∷ 40 ∷ []; times = 1 } ∷ []
unfolding segments_of segments_within segment
paths_counted = refl

loops : set_aside Cut Loop routes ≡ 2
unfolding segments_of segments_within segment
loops = refl

no_path : set_aside Cut NoPath routes ≡ 1
unfolding segments_of segments_within segment
no_path = refl

short : set_aside Cut Short routes ≡ 0
unfolding segments_of segments_within segment
short = refl

-- ---- which of them count

-- the peer of an IPv6 route may have any AS, and so may that of an IPv4 route
of_ipv6 : which_count (record { sets = Cut; families = Only Ipv6; from = None }) routes ≡ without_path ∷ []
of_ipv6 = refl

of_a_peer : which_count (record { sets = Cut; families = Both; from = Some (1 ∷ 23456 ∷ []) }) routes ≡ without_path ∷ []
of_a_peer = refl

of_a_peer_and_family : which_count (record { sets = Cut; families = Only Ipv4; from = Some (1 ∷ 23456 ∷ []) }) routes ≡ []
of_a_peer_and_family = refl

of_another_as : which_count (record { sets = Cut; families = Both; from = Some (1 ∷ []) }) routes ≡ []
of_another_as = refl

of_ipv4 : length (which_count (record { sets = Cut; families = Only Ipv4; from = Some (10 ∷ []) }) routes) ≡ 5
of_ipv4 = refl
