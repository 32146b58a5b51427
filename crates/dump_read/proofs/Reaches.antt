-- How far a dump is read.
use Rattle.std.proofs.Common.{◌≡◌, ℕ, List, [], ◌∷◌, Option, Some, None, IfSome, Result, Ok, Err, refl, sym, ap, subst, ◌∙◌, arith}
use Rattle.std.specs.Prelude.{◌==◌, ◌+◌, IsSomeAnd, drop, is_some, length}
use Rattle.std.proofs.lemmas.List.{drop-drop}
use Rattle.tor_io.specs.Contents.{Files, Opens}
use Rattle.mrt_frame.specs.declared.header.At.{At}
use Rattle.mrt_frame.specs.declared.error.FrameError.{FrameError}
use Rattle.mrt_frame.specs.declared.error.FrameError.TheVariants as frame
use Rattle.mrt_frame.specs.Frames.{FindsNext}
use Rattle.mrt_frame.specs.Reach.{ReadsUpTo, LeavesBehindHeader, octets_of_records, max_read}
use Rattle.mrt_frame.specs.Records.{Record, place_behind, start, cut_from}
use Rattle.mrt_frame.proofs.Reaches.{IsBehind, behind_none, behind_found, behind_then}
use Rattle.path_attrs.specs.Fields.{◌>>=◌}
use Rattle.path_clean.specs.declared.cleaned.Cleaned.{Cleaned}
use Rattle.path_clean.specs.declared.cleaned.Cleaned.TheVariants.{Path, Aside}
use Rattle.path_clean.specs.declared.cleaned.Sets.{Sets}
use Rattle.path_clean.specs.Clean.{clean_of}
use Rattle.path_table.specs.Table.{place_of}
use Rattle.path_attrs.specs.declared.fault.RibFault.{RibFault}
use Rattle.dump_read.specs.declared.error.DumpError.{DumpError}
use Rattle.dump_read.specs.declared.error.DumpError.TheVariants as error
use Rattle.dump_read.specs.declared.error.LimitKind.{LimitKind}
use Rattle.dump_read.specs.declared.error.LimitKind.TheVariants.{Bytes}
use Rattle.dump_read.specs.declared.records.Unread.{Unread}
use Rattle.dump_read.specs.declared.records.Unread.TheVariants as unread
use Rattle.dump_read.specs.declared.taking.Untaken.TheVariants as untaken
use Rattle.dump_read.specs.Reach.{ReadsBounded, LeavesRestOfDump}
use Rattle.dump_read.specs.Refusals.{IsUnread, IsOfDump, of_frame, of_unread}
use Rattle.dump_read.specs.Routes.{Route}
use Rattle.dump_read.specs.Wanted.{Wanted, which_count}
use Rattle.dump_read.specs.Taking.{Taken, take_cleaned, take_route, take_routes, has_too_many_numbers, with_one}
use Rattle.dump_read.proofs.LimitLemmas.{refuses}

-- where the octets of a file are known, whole records were read up to this place, and what is behind them is left
abbrev pub BehindOf : Option (List ℕ) → Option (List ℕ) → At → Type 0
BehindOf None left at = Unit {0}
BehindOf (Some octets) left at = (rest : List ℕ) × (left ≡ Some rest) × IsBehind start octets at rest

pub begins : (left : Option (List ℕ)) → BehindOf left left start
begins None = tt
begins (Some octets) = (octets, refl, behind_none start octets)

pub goes_behind : (before left after : Option (List ℕ)) (at : At) (r : Record) → BehindOf before left at → IfSome left (λ octets. FindsNext at octets r after) → BehindOf before after (place_behind r)
goes_behind None left after at r so_far finds = tt
goes_behind (Some octets) left after at r so_far finds =
    let next : FindsNext at so_far.0 r after = subst (λ o. IfSome o (λ t. FindsNext at t r after)) so_far.1 finds in
    (next.rest, next.leaves, behind_then start octets at so_far.0 (place_behind r) next.rest so_far.2 (behind_found at so_far.0 r after next))

pub shown_behind : (before left after : Option (List ℕ)) (at : At) → BehindOf before left at → LeavesBehindHeader at left after → LeavesBehindHeader start before after
shown_behind None left after at so_far shown = tt
shown_behind (Some octets) left after at so_far shown =
    let rest = so_far.0 in
    let b = so_far.2 in
    let more = octets_of_records (cut_from at rest).records in
    let is : after ≡ Some (drop (more + 12) rest) = subst (λ o. LeavesBehindHeader at o after) so_far.1 shown in
    let same : b.many + (more + 12) ≡ octets_of_records (cut_from start octets).records + 12 = omega (arith, b.records) in
    is ∙ ap (λ (t : List ℕ). Some (drop (more + 12) t)) b.rest ∙ ap (λ (t : List ℕ). Some t) (drop-drop (more + 12) b.many octets) ∙ ap (λ n. Some (drop n octets)) same

-- ---- the limit on bytes

pub frame_bytes : (d : ℕ) (e : FrameError) → of_frame d e ≡ error.Limit Bytes → e ≡ frame.TooManyBytes
frame_bytes d (frame.HeadCut at) is = absurd cc
frame_bytes d (frame.BodyCut at) is = absurd cc
frame_bytes d (frame.Oversize at) is = absurd cc
frame_bytes d frame.TooManyBytes is = refl
frame_bytes d frame.ReadFault is = absurd cc
frame_bytes d frame.NoMemory is = absurd cc

same_kind : (x y : LimitKind) → ◌≡◌ {A = Result Taken LimitKind} (Err x) (Err y) → x ≡ y
same_kind x y e = cc

-- routes that are taken in don't meet it
no_route : (sets : Sets) (taken : Taken) (routes : List Route) → take_routes sets taken routes ≡ Err Bytes → ⊥
unfolding take_routes
no_route sets taken [] is = absurd cc
no_route sets taken (route ∷ routes) is =
    by (clean_of sets route.width route.attrs) (take_route sets taken route) refl is (λ further. no_route sets further routes)
  where
    by : (one : Cleaned) (taking : Result Taken LimitKind) → take_cleaned taken one ≡ taking → (taking >>= λ further. take_routes sets further routes) ≡ Err Bytes
        → ((further : Taken) → take_routes sets further routes ≡ Err Bytes → ⊥) → ⊥
    by one (Ok further) made e ih = ih further e
    by (Aside found) (Err k) made e ih = absurd cc
    by (Path path) (Err k) made e ih =
        refuses (is_some (place_of taken.table.rows path)) (length taken.table.rows == taken.table.limit) (has_too_many_numbers taken.table path)
        (record taken { table = with_one taken.table path }) Bytes (made ∙ ap (λ (t : LimitKind). Err t) (same_kind k Bytes e))

pub no_record : (wanted : Wanted) (d : ℕ) (at : At) (mid : Taken) (read : Result (List Route) RibFault) (why : Unread) → IsUnread wanted mid read why → of_unread d at why ≡ error.Limit Bytes → ⊥
no_record wanted d at mid read (unread.Fault broken) is e = absurd cc
no_record wanted d at mid read (unread.Untaken (untaken.Limit kind)) is e =
    let same : kind ≡ Bytes = kind_is kind e in no_route wanted.sets mid (which_count wanted is.0) (is.2 ∙ ap (λ (k : LimitKind). Err k) same)
  where
    kind_is : (kind : LimitKind) → ◌≡◌ {A = DumpError} (error.Limit kind) (error.Limit Bytes) → kind ≡ Bytes
    kind_is kind e = cc
no_record wanted d at mid read (unread.Untaken untaken.NoMemory) is e = absurd cc

-- ---- the file of a name

pub opened_bounded : (known : Option Files) (name : List ℕ) (before left : Option (List ℕ)) → Opens known name before → ReadsUpTo 0 max_read before left → ReadsBounded name known left
opened_bounded None name before left opens reads = tt
opened_bounded (Some files) name before left opens reads =
    subst (λ (file : Option (List ℕ)). IsSomeAnd file (λ octets. ReadsUpTo 0 max_read (Some octets) left)) (sym opens.1)
    (subst (λ (b : Option (List ℕ)). ReadsUpTo 0 max_read b left) opens.2 reads)

pub opened_shown : (known : Option Files) (name : List ℕ) (before left : Option (List ℕ)) → Opens known name before → LeavesBehindHeader start before left → LeavesRestOfDump name known left
opened_shown None name before left opens shown = tt
opened_shown (Some files) name before left opens shown =
    subst (λ (file : Option (List ℕ)). IsSomeAnd file (λ octets. LeavesBehindHeader start (Some octets) left)) (sym opens.1)
    (subst (λ (b : Option (List ℕ)). LeavesBehindHeader start b left) opens.2 shown)

-- ---- what an error of the records says of the dump

pub frame_fault : (d : ℕ) (e : FrameError) → of_frame d e ≡ error.ReadFault → e ≡ frame.ReadFault
frame_fault d (frame.HeadCut at) is = absurd cc
frame_fault d (frame.BodyCut at) is = absurd cc
frame_fault d (frame.Oversize at) is = absurd cc
frame_fault d frame.TooManyBytes is = absurd cc
frame_fault d frame.ReadFault is = refl
frame_fault d frame.NoMemory is = absurd cc

pub frame_place : (d : ℕ) (e : FrameError) → IsOfDump d (of_frame d e)
frame_place d (frame.HeadCut at) = refl
frame_place d (frame.BodyCut at) = refl
frame_place d (frame.Oversize at) = refl
frame_place d frame.TooManyBytes = tt
frame_place d frame.ReadFault = tt
frame_place d frame.NoMemory = tt

pub unread_fault : (d : ℕ) (at : At) (u : Unread) → of_unread d at u ≡ error.ReadFault → ⊥
unread_fault d at (unread.Fault broken) is = cc
unread_fault d at (unread.Untaken (untaken.Limit kind)) is = cc
unread_fault d at (unread.Untaken untaken.NoMemory) is = cc

pub unread_place : (d : ℕ) (at : At) (u : Unread) → IsOfDump d (of_unread d at u)
unread_place d at (unread.Fault broken) = refl
unread_place d at (unread.Untaken (untaken.Limit kind)) = tt
unread_place d at (unread.Untaken untaken.NoMemory) = tt
