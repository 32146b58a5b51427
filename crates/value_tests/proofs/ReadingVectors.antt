-- Values, fields, counts, figures and texts that were worked by hand.
use Rattle.std.proofs.Common.{◌≡◌, ℕ, List, [], ◌∷◌, ◌++◌, Some, None, Ok, Err, refl}
use Rattle.std.specs.Prelude.{codes}
use Rattle.std.specs.Fmt.{digits}
use Rattle.relationships.specs.declared.label.Label.{Label}
use Rattle.relationships.specs.declared.label.Label.TheVariants.{Low, High, Peer}
use Rattle.relationships.specs.declared.mark.Mark.{Mark}
use Rattle.relationships.specs.declared.walk.Link.{Link}
use Rattle.relationships.specs.declared.mark.Mark.TheVariants.{Open, Forced}
use Rattle.relationships.specs.declared.fate.Fate.TheVariants as fate
use Rattle.mrt_header.specs.declared.record_kind.RibForm.{RibForm}
use Rattle.mrt_header.specs.declared.record_kind.EntryForm.{EntryForm}
use Rattle.mrt_header.specs.declared.record_kind.EntryForm.TheVariants.{Plain, WithPathId}
use Rattle.mrt_header.specs.declared.record_kind.Family.TheVariants.{Ipv4}
use Rattle.mrt_frame.specs.Records.{Record, Well, cut, cut_within}
use Rattle.mrt_frame.specs.Counting.{with_records}
use Rattle.path_segments.specs.declared.as_path.SegKind.TheVariants.{Set, Sequence}
use Rattle.path_segments.specs.declared.as_path.Segment.{Segment}
use Rattle.path_segments.specs.declared.as_path.Width.TheVariants.{Two, Four}
use Rattle.path_attrs.specs.declared.fault.RibFault.TheVariants.{Cut, Tail, NoPeerTable, PeerRange}
use Rattle.path_segments.specs.declared.path.PathOf.TheVariants.{Absent, Malformed, Segments}
use Rattle.path_attrs.specs.Attributes.{attr_cut, attribute, attributes_within, attributes_of, attributes_in, first_value}
use Rattle.path_attrs.specs.Fields.{octets, number}
use Rattle.path_segments.specs.PathOf.{path_of}
use Rattle.path_segments.specs.Segments.{segment, segments_within, segments_of}
use Rattle.rib_bodies.specs.Rib.{head, entry, entry_fields, entries_of, rib_of}
use Rattle.record_counts.specs.declared.type_count.RecordType.{RecordType}
use Rattle.record_counts.specs.declared.type_count.TypeCount.{TypeCount}
use Rattle.record_counts.specs.Counting.{with_more, counts_together, type_counts}
use Rattle.path_clean.specs.declared.cleaned.Sets.TheVariants as sets
use Rattle.path_clean.specs.declared.cleaned.Cleaned.TheVariants.{Path}
use Rattle.path_clean.specs.Clean.{clean_of}
use Rattle.path_clean.specs.Counts.{no_counts}
use Rattle.result_text.specs.declared.file.EdgeLine.{EdgeLine}
use Rattle.result_text.specs.Text.{line_text, text}
use Rattle.tor_sample.specs.Records.{sample_record, sample_rib}
use Rattle.tor_survey.specs.declared.survey.Figures.{Figures}
use Rattle.tor_survey.specs.Figures.{figures_of}
use Rattle.tor_survey.specs.SurveyText.{survey_text}

-- ---- the first value of a code

-- the value of the AS_PATH 10 20 in numbers of four octets
value : List ℕ
value = 2 ∷ 2 ∷ 0 ∷ 0 ∷ 0 ∷ 10 ∷ 0 ∷ 0 ∷ 0 ∷ 20 ∷ []

-- ORIGIN, and that AS_PATH
block : List ℕ
block = 64 ∷ 1 ∷ 1 ∷ 0 ∷ 64 ∷ 2 ∷ 10 ∷ value

no_third_code : first_value 3 (attributes_in block) ≡ None
unfolding attributes_in attributes_of attributes_within attribute block value
no_third_code = refl

second_code : first_value 2 (attributes_in block) ≡ Some value
unfolding attributes_in attributes_of attributes_within attribute block value
second_code = refl

one_octet_less : attributes_of (64 ∷ 1 ∷ 1 ∷ 0 ∷ 64 ∷ 2 ∷ 10 ∷ 2 ∷ 2 ∷ 0 ∷ 0 ∷ 0 ∷ 10 ∷ 0 ∷ 0 ∷ 0 ∷ []) ≡ Err attr_cut
unfolding attributes_of attributes_within attribute
one_octet_less = refl

-- the AS4_PATH 70000 20 alone
no_second_code : first_value 2 (attributes_in (192 ∷ 17 ∷ 10 ∷ 2 ∷ 2 ∷ 0 ∷ 1 ∷ 17 ∷ 112 ∷ 0 ∷ 0 ∷ 0 ∷ 20 ∷ [])) ≡ None
unfolding attributes_in attributes_of attributes_within attribute
no_second_code = refl

-- ---- fields: an octet, a number of two octets, thirteen octets, and one that is left

behind_three : List ℕ
behind_three = 0 ∷ 64 ∷ 2 ∷ 10 ∷ value

an_octet : number Cut 1 block ≡ Ok (64, 1 ∷ 1 ∷ behind_three)
unfolding block behind_three value
an_octet = refl

a_number : number Cut 2 (1 ∷ 1 ∷ behind_three) ≡ Ok (257, behind_three)
unfolding behind_three value
a_number = refl

thirteen_octets : octets Cut 13 behind_three ≡ Ok (0 ∷ 64 ∷ 2 ∷ 10 ∷ 2 ∷ 2 ∷ 0 ∷ 0 ∷ 0 ∷ 10 ∷ 0 ∷ 0 ∷ 0 ∷ [], 20 ∷ [])
unfolding behind_three value
thirteen_octets = refl

no_number : number Cut 2 (20 ∷ []) ≡ Err Cut
no_number = refl

-- ---- segments, and the paths of routes

-- the AS_SET 10 20 and the AS_SEQUENCE 30 in numbers of two octets
abbrev set_and_one : List ℕ
set_and_one = 1 ∷ 2 ∷ 0 ∷ 10 ∷ 0 ∷ 20 ∷ 2 ∷ 1 ∷ 0 ∷ 30 ∷ []

abbrev sequence : List ℕ → Segment
sequence ases = record { kind = Sequence; ases = ases }

two_segments : segments_of Two set_and_one ≡ Some (record { kind = Set; ases = 10 ∷ 20 ∷ [] } ∷ sequence (30 ∷ []) ∷ [])
unfolding segments_of segments_within segment
two_segments = refl

segments_and_an_octet : segments_of Two (set_and_one ++ 2 ∷ []) ≡ None
unfolding segments_of segments_within segment
segments_and_an_octet = refl

segments_in_four_octets : segments_of Four value ≡ Some (sequence (10 ∷ 20 ∷ []) ∷ [])
unfolding segments_of segments_within segment value
segments_in_four_octets = refl

four_octets_read_as_two : segments_of Two value ≡ None
unfolding segments_of segments_within segment value
four_octets_read_as_two = refl

path_in_four_octets : path_of Four (attributes_in block) ≡ Segments (sequence (10 ∷ 20 ∷ []) ∷ [])
unfolding attributes_in attributes_of attributes_within attribute segments_of segments_within segment block value
path_in_four_octets = refl

path_read_as_of_two : path_of Two (attributes_in block) ≡ Malformed
unfolding attributes_in attributes_of attributes_within attribute segments_of segments_within segment block value
path_read_as_of_two = refl

-- the AS_PATH 10 23456 20 in numbers of two octets, and the AS4_PATH 70000 20
abbrev as4_path : List ℕ
as4_path = 192 ∷ 17 ∷ 10 ∷ 2 ∷ 2 ∷ 0 ∷ 1 ∷ 17 ∷ 112 ∷ 0 ∷ 0 ∷ 0 ∷ 20 ∷ []

abbrev with_as4_path : List ℕ
with_as4_path = 64 ∷ 2 ∷ 8 ∷ 2 ∷ 3 ∷ 0 ∷ 10 ∷ 91 ∷ 160 ∷ 0 ∷ 20 ∷ as4_path

merged_path : path_of Two (attributes_in with_as4_path) ≡ Segments (sequence (10 ∷ []) ∷ sequence (70000 ∷ 20 ∷ []) ∷ [])
unfolding attributes_in attributes_of attributes_within attribute segments_of segments_within segment
merged_path = refl

two_octets_read_as_four : path_of Four (attributes_in with_as4_path) ≡ Malformed
unfolding attributes_in attributes_of attributes_within attribute segments_of segments_within segment
two_octets_read_as_four = refl

as4_path_alone : path_of Two (attributes_in as4_path) ≡ Absent
unfolding attributes_in attributes_of attributes_within attribute
as4_path_alone = refl

origin_alone : path_of Two (attributes_in (64 ∷ 1 ∷ 1 ∷ 0 ∷ [])) ≡ Absent
unfolding attributes_in attributes_of attributes_within attribute
origin_alone = refl

-- in numbers of four octets AS4_PATH has no effect
no_merge_in_four_octets :
    clean_of sets.Cut Four (attributes_in (64 ∷ 2 ∷ 10 ∷ value ++ 192 ∷ 17 ∷ 10 ∷ 2 ∷ 2 ∷ 0 ∷ 0 ∷ 0 ∷ 30 ∷ 0 ∷ 0 ∷ 0 ∷ 20 ∷ []))
    ≡ Path (10 ∷ 20 ∷ [])
unfolding attributes_in attributes_of attributes_within attribute segments_of segments_within segment value
no_merge_in_four_octets = refl

-- ---- the entries of a RIB of 10.0.1.0/24

abbrev form : EntryForm → RibForm
form entries = record { family = Ipv4; entries = entries }

abbrev rib : ℕ → List ℕ → List ℕ
rib count entries = 0 ∷ 0 ∷ 0 ∷ 0 ∷ 24 ∷ 10 ∷ 0 ∷ 1 ∷ 0 ∷ count ∷ entries

-- one entry of peer 0 with ORIGIN and the AS_PATH 10 20
abbrev one : List ℕ
one = rib 1 (0 ∷ 0 ∷ 0 ∷ 0 ∷ 0 ∷ 0 ∷ 0 ∷ 17 ∷ block)

one_entry : rib_of (form Plain) (Some 1) one
    ≡ Ok (record { peer = 0; attrs = record { code = 1; value = 0 ∷ [] } ∷ record { code = 2; value = value } ∷ [] } ∷ [])
unfolding rib_of head entries_of entry entry_fields attributes_of attributes_within attribute block value
one_entry = refl

no_peer_table : rib_of (form Plain) None one ≡ Err NoPeerTable
unfolding rib_of
no_peer_table = refl

-- entries of peers 0 and 1: with the AS_PATH 10 20, and with ORIGIN alone
abbrev two : List ℕ
two = rib 2 (0 ∷ 0 ∷ 0 ∷ 0 ∷ 0 ∷ 0 ∷ 0 ∷ 13 ∷ 64 ∷ 2 ∷ 10 ∷ value ++ 0 ∷ 1 ∷ 0 ∷ 0 ∷ 0 ∷ 0 ∷ 0 ∷ 4 ∷ 64 ∷ 1 ∷ 1 ∷ 2 ∷ [])

two_entries : rib_of (form Plain) (Some 2) two
    ≡ Ok (record { peer = 0; attrs = record { code = 2; value = value } ∷ [] } ∷ record { peer = 1; attrs = record { code = 1; value = 2 ∷ [] } ∷ [] } ∷ [])
unfolding rib_of head entries_of entry entry_fields attributes_of attributes_within attribute value
two_entries = refl

one_peer_alone : rib_of (form Plain) (Some 1) two ≡ Err PeerRange
unfolding rib_of head entries_of entry entry_fields attributes_of attributes_within attribute value
one_peer_alone = refl

-- entries of peer 0 with the path identifiers 7 and 8: with the AS_PATHs 10 20 and 10 30, the last of its octets apart
abbrev other_value : List ℕ → List ℕ
other_value last = 2 ∷ 2 ∷ 0 ∷ 0 ∷ 0 ∷ 10 ∷ 0 ∷ 0 ∷ 0 ∷ last

abbrev with_path_ids : List ℕ → List ℕ
with_path_ids last =
    rib 2 (0 ∷ 0 ∷ 0 ∷ 0 ∷ 0 ∷ 0 ∷ 0 ∷ 0 ∷ 0 ∷ 7 ∷ 0 ∷ 13 ∷ 64 ∷ 2 ∷ 10 ∷ value
    ++ 0 ∷ 0 ∷ 0 ∷ 0 ∷ 0 ∷ 0 ∷ 0 ∷ 0 ∷ 0 ∷ 8 ∷ 0 ∷ 13 ∷ 64 ∷ 2 ∷ 10 ∷ other_value last)

entries_with_path_ids : rib_of (form WithPathId) (Some 1) (with_path_ids (30 ∷ []))
    ≡ Ok (record { peer = 0; attrs = record { code = 2; value = value } ∷ [] } ∷ record { peer = 0; attrs = record { code = 2; value = other_value (30 ∷ []) } ∷ [] } ∷ [])
unfolding rib_of head entries_of entry entry_fields attributes_of attributes_within attribute value
entries_with_path_ids = refl

entries_with_path_ids_cut : rib_of (form WithPathId) (Some 1) (with_path_ids []) ≡ Err Cut
unfolding rib_of head entries_of entry entry_fields attributes_of attributes_within attribute value
entries_with_path_ids_cut = refl

entries_with_path_ids_and_an_octet : rib_of (form WithPathId) (Some 1) (with_path_ids (30 ∷ 0 ∷ [])) ≡ Err Tail
unfolding rib_of head entries_of entry entry_fields attributes_of attributes_within attribute value
entries_with_path_ids_and_an_octet = refl

-- ---- counts of records, which stop at 2 ^ 64 - 1

abbrev of : ℕ → ℕ → RecordType
of kind subtype = record { kind = kind; subtype = subtype }

at_their_greatest : counts_together ((of 12 1, 18446744073709551615) ∷ []) ((of 12 1, 7) ∷ []) ≡ (of 12 1, 18446744073709551615) ∷ []
unfolding counts_together with_more
at_their_greatest = refl

-- records of the type 99 without a body, of TABLE_DUMP, of an update without a body, and of the type 99 again
abbrev body : List ℕ
body = 0 ∷ 0 ∷ 0 ∷ 0 ∷ 10 ∷ 0 ∷ 0 ∷ 0 ∷ 8 ∷ 1 ∷ 0 ∷ 0 ∷ 0 ∷ 0 ∷ 192 ∷ 0 ∷ 2 ∷ 1 ∷ 0 ∷ 10 ∷ 0 ∷ 9 ∷ 64 ∷ 2 ∷ 6 ∷ 2 ∷ 2 ∷ 0 ∷ 10 ∷ 0 ∷ 20 ∷ []

abbrev four_records : List ℕ
four_records =
    0 ∷ 0 ∷ 0 ∷ 0 ∷ 0 ∷ 99 ∷ 0 ∷ 0 ∷ 0 ∷ 0 ∷ 0 ∷ 0 ∷ 0 ∷ 0 ∷ 0 ∷ 0 ∷ 0 ∷ 12 ∷ 0 ∷ 1 ∷ 0 ∷ 0 ∷ 0 ∷ 31 ∷ body
    ++ 0 ∷ 0 ∷ 0 ∷ 0 ∷ 0 ∷ 16 ∷ 0 ∷ 4 ∷ 0 ∷ 0 ∷ 0 ∷ 0 ∷ 0 ∷ 0 ∷ 0 ∷ 0 ∷ 0 ∷ 99 ∷ 0 ∷ 0 ∷ 0 ∷ 0 ∷ 0 ∷ 0 ∷ []

abbrev first_two : List Record
first_two = record { at = record { number = 1; offset = 0 }; kind = 99; subtype = 0; body = [] }
    ∷ record { at = record { number = 2; offset = 12 }; kind = 12; subtype = 1; body = body } ∷ []

abbrev last_two : List Record
last_two = record { at = record { number = 3; offset = 55 }; kind = 16; subtype = 4; body = [] }
    ∷ record { at = record { number = 4; offset = 67 }; kind = 99; subtype = 0; body = [] } ∷ []

cut_into_four : cut four_records ≡ record { records = first_two ++ last_two; end = Well }
unfolding cut_within
cut_into_four = refl

abbrev counted : ℕ → ℕ → ℕ → TypeCount
counted kind subtype records = record { kind = kind; subtype = subtype; records = records }

-- up to the one that is read, and behind all of them
counted_up_to_two : type_counts (with_records first_two []) ≡ counted 12 1 1 ∷ counted 99 0 1 ∷ []
unfolding with_records with_more
counted_up_to_two = refl

counted_all : type_counts (with_records (first_two ++ last_two) []) ≡ counted 12 1 1 ∷ counted 16 4 1 ∷ counted 99 0 2 ∷ []
unfolding with_records with_more
counted_all = refl

-- ---- figures of paths, with the greatest number of an AS

abbrev figures : ℕ → ℕ → ℕ → ℕ → Figures
figures paths ases edges longest = record { paths = paths; ases = ases; edges = edges; longest = longest }

three_paths : figures_of ((4294967295 ∷ 1 ∷ 3 ∷ 4 ∷ []) ∷ (1 ∷ 3 ∷ 2 ∷ []) ∷ (2 ∷ 4294967295 ∷ []) ∷ []) ≡ figures 3 5 5 4
three_paths = refl

-- ---- the text of a survey

-- types that are read stand before those that are passed over
four_types : survey_text (record {
  types = counted 11 1 3 ∷ counted 12 1 2 ∷ counted 13 2 40 ∷ counted 13 3 18446744073709551615 ∷ [];
  peers = 5;
  routes = 42;
  asides = record no_counts { loop = 7 };
  figures = figures 2 4 3 3;
  dumps = 2;
  records = 18446744073709551615;
}) ≡ codes "read|12|1|2\nread|13|2|40\npassed|11|1|3\npassed|13|3|18446744073709551615\npeers|5\nroutes|42\naside|nopath|0\naside|badsegments|0\naside|confed|0\naside|sets|0\naside|reserved|0\naside|loop|7\naside|short|0\npaths|2\nases|4\nedges|3\nlongest|3\nend|2|18446744073709551615\n"
unfolding line_text digits
four_types = refl

nothing : survey_text (record { types = []; peers = 0; routes = 0; asides = no_counts; figures = figures 0 0 0 0; dumps = 0; records = 0 })
    ≡ codes "peers|0\nroutes|0\naside|nopath|0\naside|badsegments|0\naside|confed|0\naside|sets|0\naside|reserved|0\naside|loop|0\naside|short|0\npaths|0\nases|0\nedges|0\nlongest|0\nend|0|0\n"
unfolding line_text digits
nothing = refl

-- ---- the first route of the sample of 0, as octets: from its ASes, whose numbers are 1000 greater

first_record : sample_record 2 (sample_rib 0 (544 ∷ 117 ∷ 26 ∷ 0 ∷ 9 ∷ 27 ∷ 134 ∷ 324 ∷ []))
    ≡ 0 ∷ 0 ∷ 0 ∷ 0 ∷ 0 ∷ 13 ∷ 0 ∷ 2 ∷ 0 ∷ 0 ∷ 0 ∷ 59 ∷ 0 ∷ 0 ∷ 0 ∷ 0 ∷ 24 ∷ 10 ∷ 0 ∷ 0 ∷ 0 ∷ 1 ∷ 0 ∷ 0 ∷ 0 ∷ 0 ∷ 0 ∷ 0 ∷ 0 ∷ 41
    ∷ 64 ∷ 1 ∷ 1 ∷ 0 ∷ 64 ∷ 2 ∷ 34 ∷ 2 ∷ 8 ∷ 0 ∷ 0 ∷ 6 ∷ 8 ∷ 0 ∷ 0 ∷ 4 ∷ 93 ∷ 0 ∷ 0 ∷ 4 ∷ 2 ∷ 0 ∷ 0 ∷ 3 ∷ 232 ∷ 0 ∷ 0 ∷ 3 ∷ 241
    ∷ 0 ∷ 0 ∷ 4 ∷ 3 ∷ 0 ∷ 0 ∷ 4 ∷ 110 ∷ 0 ∷ 0 ∷ 5 ∷ 44 ∷ []
first_record = refl

-- ---- each field of the result of three paths

abbrev link : ℕ → ℕ → Link
link path at = record { path = path; at = at }

abbrev edge : (low high : ℕ) → Label → Mark → (support : ℕ) → EdgeLine
edge low high label mark support = record { low = low; high = high; label = label; mark = mark; support = support }

three_paths_text : text (record {
  sets = sets.Cut;
  ratio = 60;
  asides = no_counts;
  givens = None;
  paths = record { times = 1; path = 30 ∷ 40 ∷ 20 ∷ 10 ∷ 50 ∷ 60 ∷ []; fate = fate.Kept }
      ∷ record { times = 1; path = 10 ∷ 20 ∷ 30 ∷ 40 ∷ []; fate = fate.Kept }
      ∷ record {
        times = 1;
        path = 50 ∷ 60 ∷ 10 ∷ 20 ∷ [];
        fate = fate.Lost (record {
          ases = 10 ∷ 20 ∷ 30 ∷ 40 ∷ 20 ∷ 10 ∷ 50 ∷ 60 ∷ 10 ∷ 20 ∷ [];
          links = link 2 2 ∷ link 2 3 ∷ link 1 2 ∷ link 1 3 ∷ link 1 4 ∷ link 1 5 ∷ link 3 2 ∷ link 3 3 ∷ [];
        });
      } ∷ [];
  edges = edge 30 40 High Open 2 ∷ edge 20 40 Peer Open 1 ∷ edge 10 20 High Forced 2 ∷ edge 10 50 Low Forced 1 ∷ edge 50 60 Low Forced 1
      ∷ edge 20 30 High Open 1 ∷ edge 10 60 Low Open 0 ∷ [];
  whys = record { ases = 10 ∷ 20 ∷ 30 ∷ 40 ∷ 20 ∷ 10 ∷ []; links = link 2 2 ∷ link 2 3 ∷ link 1 2 ∷ link 1 3 ∷ [] }
      ∷ record { ases = 20 ∷ 10 ∷ 50 ∷ []; links = link 1 4 ∷ [] } ∷ record { ases = 10 ∷ 50 ∷ 60 ∷ []; links = link 1 5 ∷ [] } ∷ [];
  probes = record { over = 20; under = 30 } ∷ record { over = 60; under = 10 } ∷ [];
  totals = record { kept = 2; lost = 1; edges = 7; forced = 3; peers = 1 };
}) ≡ codes "tor|1\nsets|cut\nratio|60\naside|nopath|0\naside|badsegments|0\naside|confed|0\naside|sets|0\naside|reserved|0\naside|loop|0\naside|short|0\n"
    ++ codes "kept|1|30 40 20 10 50 60\nkept|1|10 20 30 40\nlost|1|50 60 10 20|10 20 30 40 20 10 50 60 10 20|2:2 2:3 1:2 1:3 1:4 1:5 3:2 3:3\n"
    ++ codes "edge|30|40|high|open|2\nedge|20|40|peer|open|1\nedge|10|20|high|forced|2\nedge|10|50|low|forced|1\nedge|50|60|low|forced|1\nedge|20|30|high|open|1\n"
    ++ codes "edge|10|60|low|open|0\nwhy|10 20 30 40 20 10|2:2 2:3 1:2 1:3\nwhy|20 10 50|1:4\nwhy|10 50 60|1:5\nopen|20|30\nopen|60|10\nend|2|1|7|3|1\n"
unfolding line_text digits
three_paths_text = refl
