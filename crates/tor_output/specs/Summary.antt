-- The summary of a result: one compact JSON object.
use Rattle.std.specs.Prelude.{ℕ, ◌+◌, ◌-◌, ◌^◌, min, List, codes}
use Rattle.serde_json.specs.Data.{Data, number, unsigned, object, member, no_members}
use Rattle.serde_json.specs.Written.{compact_text}
use Rattle.path_clean.specs.Counts.{CauseCounts}
use Rattle.result_text.specs.declared.file.ResultFile.{ResultFile}
use Rattle.result_text.specs.declared.file.Totals.{Totals}

-- a number that is at most 2 ^ 64 - 1
abbrev pub saturated : ℕ → ℕ
saturated n = min n (2 ^ 64 - 1)

-- how many routes were set aside, whatever the cause
abbrev pub all_asides : CauseCounts → ℕ
all_asides a = saturated (a.no_path + a.bad_segments + a.confed + a.sets + a.reserved + a.loop + a.short)

-- how many paths there are: the kept ones and the lost ones
abbrev pub all_paths : Totals → ℕ
all_paths totals = saturated (totals.kept + totals.lost)

-- the object, with its members in this order
abbrev pub summary_object : CauseCounts → Totals → Data
summary_object asides totals = object
    (member (codes "asides") (number (unsigned (all_asides asides)))
    (member (codes "edges") (number (unsigned totals.edges))
    (member (codes "forced") (number (unsigned totals.forced))
    (member (codes "kept") (number (unsigned totals.kept))
    (member (codes "lost") (number (unsigned totals.lost))
    (member (codes "paths") (number (unsigned (all_paths totals)))
    (member (codes "peers") (number (unsigned totals.peers)) no_members)))))))

-- the summary of a result with these counts of routes set aside and these totals, without a line feed
abbrev pub summary_of : CauseCounts → Totals → List ℕ
summary_of asides totals = compact_text (summary_object asides totals)

-- the same of a result
abbrev pub summary : ResultFile → List ℕ
summary file = summary_of file.asides file.totals
