-- Dumps that are read one after the other.
use Rattle.std.proofs.Common.{◌≡◌, ℕ, zero, suc, ◌+◌, ◌-◌, ◌<◌, ◌≤◌, List, [], ◌∷◌, ◌++◌, length, take, drop, get_or, Option, Some, None, Result, Ok, Err, refl, sym, ap, ap₂, subst, ◌∙◌, arith}
use Rattle.std.specs.Prelude.{IfSome, IsOk}
use Rattle.std.proofs.lemmas.List.{take_more, length-take, length-append}
use Rattle.path_attrs.specs.Fields.{◌>>=◌}
use Rattle.dump_read.specs.declared.wanted.Wanted.{Wanted}
use Rattle.tor_io.specs.Contents.{Files, LacksFile}
use Rattle.dump_read.specs.declared.error.DumpError.{DumpError}
use Rattle.dump_read.specs.declared.error.DumpError.TheVariants as error
use Rattle.dump_read.specs.declared.taking.Taken.{Taken}
use Rattle.dump_read.specs.Seen.{DumpsEnd, Absent, Malformed, Limit, IsOfSomeFile, of_file, of_octets, end_named}
use Rattle.run_base.specs.Programs.{DumpsEndAt, DumpsGive, ReadBefore}
use Rattle.run_base.specs.Reading.{IsOfSomeDumps, seen_from, seen_of, name_of_dump}
use Rattle.run_base.specs.Reach.{IsDumpInReach}
use Rattle.run_base.specs.Stopping.{StopsDumps}

-- the first dumps, and then the others
seen_from-append : (wanted : Wanted) (d : ℕ) (old mid : Taken) (prefix rest : List (List ℕ)) (files : Files) → seen_from wanted d old prefix files ≡ Ok mid
    → seen_from wanted d old (prefix ++ rest) files ≡ seen_from wanted (d + length prefix) mid rest files
seen_from-append wanted d old mid [] rest files is =
    ap₂ (λ n t. seen_from wanted n t rest files) (omega arith) (same old mid is)
  where
    same : (x y : Taken) → ◌≡◌ {A = Result Taken DumpsEnd} (Ok x) (Ok y) → x ≡ y
    same x y e = cc
seen_from-append wanted d old mid (name ∷ prefix) rest files is =
    by (of_file wanted d old (files name)) is (λ further h. seen_from-append wanted (d + 1) further mid prefix rest files h)
    ∙ ap (λ n. seen_from wanted n mid rest files) (omega arith)
  where
    by : (one : Result Taken DumpsEnd) → (one >>= λ further. seen_from wanted (d + 1) further prefix files) ≡ Ok mid
        → ((further : Taken) → seen_from wanted (d + 1) further prefix files ≡ Ok mid → seen_from wanted (d + 1) further (prefix ++ rest) files ≡ seen_from wanted (d + 1 + length prefix) mid rest files)
        → (one >>= λ further. seen_from wanted (d + 1) further (prefix ++ rest) files) ≡ seen_from wanted (d + 1 + length prefix) mid rest files
    by (Ok further) h ih = ih further h
    by (Err end) h ih = absurd cc

-- the dumps before one, that one, and those behind it
parts_at : (names : List (List ℕ)) (i : ℕ) (name : List ℕ) → i < length names → name ≡ get_or names i name → names ≡ take i names ++ name ∷ drop (suc i) names
parts_at [] i name lt is = absurd (omega arith)
parts_at (x ∷ xs) zero name lt is = ap (λ (y : List ℕ). y ∷ xs) (sym is)
parts_at (x ∷ xs) (suc i) name lt is = ap (λ (t : List (List ℕ)). x ∷ t) (parts_at xs i name (omega arith) is)

length_of : (names : List (List ℕ)) (i : ℕ) → i < length names → length (take i names) ≡ i
length_of names i lt = omega (arith, length-take i names)

one_dump : (wanted : Wanted) (d : ℕ) (mid new : Taken) (name : List ℕ) (files : Files) → of_file wanted d mid (files name) ≡ Ok new → seen_from wanted d mid (name ∷ []) files ≡ Ok new
one_dump wanted d mid new name files is = rw is refl

no_further : (wanted : Wanted) (d : ℕ) (mid : Taken) (name : List ℕ) (rest : List (List ℕ)) (files : Files) (end : DumpsEnd) →
    of_file wanted d mid (files name) ≡ Err end → seen_from wanted d mid (name ∷ rest) files ≡ Err end
no_further wanted d mid name rest files end is = rw is refl

pub one_more : (wanted : Wanted) (old mid new : Taken) (known : Option Files) (names : List (List ℕ)) (i : ℕ) (name : List ℕ) → i < length names → name ≡ get_or names i name
    → IfSome known (λ files. seen_from wanted 1 old (take i names) files ≡ Ok mid) → IfSome known (λ files. of_file wanted (i + 1) mid (files name) ≡ Ok new)
    → IfSome known (λ files. seen_from wanted 1 old (take (i + 1) names) files ≡ Ok new)
one_more wanted old mid new None names i name lt is before one = tt
one_more wanted old mid new (Some files) names i name lt is before one =
    ap (λ (t : List (List ℕ)). seen_from wanted 1 old t files) (take_more names i name lt ∙ ap (λ (x : List ℕ). take i names ++ x ∷ []) (sym is))
    ∙ seen_from-append wanted 1 old mid (take i names) (name ∷ []) files before
    ∙ ap (λ n. seen_from wanted n mid (name ∷ []) files) (omega (arith, length_of names i lt))
    ∙ one_dump wanted (i + 1) mid new name files one

-- where the reading of a dump stops, that of all of them does
stops_at : (wanted : Wanted) (old mid : Taken) (names : List (List ℕ)) (i : ℕ) (name : List ℕ) (files : Files) (end : DumpsEnd) → i < length names → name ≡ get_or names i name
    → seen_from wanted 1 old (take i names) files ≡ Ok mid → of_file wanted (i + 1) mid (files name) ≡ Err end → seen_from wanted 1 old names files ≡ Err end
stops_at wanted old mid names i name files end lt is before one =
    ap (λ (t : List (List ℕ)). seen_from wanted 1 old t files) (parts_at names i name lt is)
    ∙ seen_from-append wanted 1 old mid (take i names) (name ∷ drop (suc i) names) files before
    ∙ ap (λ n. seen_from wanted n mid (name ∷ drop (suc i) names) files) (omega (arith, length_of names i lt))
    ∙ no_further wanted (i + 1) mid name (drop (suc i) names) files end one

pub stops : (wanted : Wanted) (old mid : Taken) (known : Option Files) (names : List (List ℕ)) (i : ℕ) (name : List ℕ) (e : DumpError) → i < length names → name ≡ get_or names i name
    → IfSome known (λ files. seen_from wanted 1 old (take i names) files ≡ Ok mid)
    → IfSome (end_named (i + 1) e) (λ end. IfSome known (λ files. of_file wanted (i + 1) mid (files name) ≡ Err end))
    → IfSome (end_named (i + 1) e) (λ end. IfSome known (λ files. seen_from wanted 1 old names files ≡ Err end))
stops wanted old mid known names i name e lt is before one = by known (end_named (i + 1) e) before one
  where
    by : (t : Option Files) (o : Option DumpsEnd) → IfSome t (λ files. seen_from wanted 1 old (take i names) files ≡ Ok mid)
        → IfSome o (λ end. IfSome t (λ files. of_file wanted (i + 1) mid (files name) ≡ Err end)) → IfSome o (λ end. IfSome t (λ files. seen_from wanted 1 old names files ≡ Err end))
    by t None b h = tt
    by None (Some end) b h = tt
    by (Some files) (Some end) b h = stops_at wanted old mid names i name files end lt is b h

-- the dumps before it were read
pub read_before : (wanted : Wanted) (old mid : Taken) (known : Option Files) (names : List (List ℕ)) (i : ℕ) → IfSome known (λ files. seen_from wanted 1 old (take i names) files ≡ Ok mid)
    → IfSome known (λ files. IsOk (seen_from wanted 1 old (take ((i + 1) - 1) names) files))
read_before wanted old mid None names i before = tt
read_before wanted old mid (Some files) names i before =
    let same : (i + 1) - 1 ≡ i = omega arith in
    subst (λ n. IsOk (seen_from wanted 1 old (take n names) files)) (sym same) (subst (λ r. IsOk r) (sym before) refl)

-- a dump that isn't there
pub absent : (wanted : Wanted) (old mid : Taken) (known : Option Files) (names : List (List ℕ)) (i : ℕ) (name : List ℕ) → i < length names → name ≡ get_or names i name
    → IfSome known (λ files. seen_from wanted 1 old (take i names) files ≡ Ok mid) → LacksFile known name
    → IfSome known (λ files. seen_from wanted 1 old names files ≡ Err (Absent (i + 1)))
absent wanted old mid None names i name lt is before lacks = tt
absent wanted old mid (Some files) names i name lt is before lacks =
    stops_at wanted old mid names i name files (Absent (i + 1)) lt is before (ap (of_file wanted (i + 1) mid) lacks)

-- the name that stands at a place is that of the dump whose number is one more
pub named : (names : List (List ℕ)) (i : ℕ) (name : List ℕ) → i < length names → name ≡ get_or names i name → name ≡ name_of_dump names (i + 1)
named names i name lt is = is ∙ by names i lt ∙ ap (λ n. get_or names n []) (omega arith)
  where
    by : (xs : List (List ℕ)) (k : ℕ) → k < length xs → get_or xs k name ≡ get_or xs k []
    by [] k below = absurd (omega arith)
    by (x ∷ xs) zero below = refl
    by (x ∷ xs) (suc k) below = by xs k (omega arith)

-- ---- dumps of some octets

-- the first dumps, and then one more
seen_of-push : (wanted : Wanted) (d : ℕ) (old mid new : Taken) (dumps : List (List ℕ)) (octets : List ℕ) → seen_of wanted d old dumps ≡ Ok mid
    → of_octets wanted (d + length dumps) mid octets ≡ Ok new → seen_of wanted d old (dumps ++ octets ∷ []) ≡ Ok new
seen_of-push wanted d old mid new [] octets is one =
    let same : old ≡ mid = cc in
    let here : of_octets wanted d old octets ≡ Ok new = ap₂ (λ n t. of_octets wanted n t octets) (omega arith) same ∙ one in
    rw here refl
seen_of-push wanted d old mid new (first ∷ dumps) octets is one =
    by (of_octets wanted d old first) is (λ further h. seen_of-push wanted (d + 1) further mid new dumps octets h (ap (λ n. of_octets wanted n mid octets) (omega arith) ∙ one))
  where
    by : (taking : Result Taken DumpsEnd) → (taking >>= λ further. seen_of wanted (d + 1) further dumps) ≡ Ok mid
        → ((further : Taken) → seen_of wanted (d + 1) further dumps ≡ Ok mid → seen_of wanted (d + 1) further (dumps ++ octets ∷ []) ≡ Ok new)
        → (taking >>= λ further. seen_of wanted (d + 1) further (dumps ++ octets ∷ [])) ≡ Ok new
    by (Ok further) h ih = ih further h
    by (Err end) h ih = absurd cc

pub some_more : (wanted : Wanted) (old mid new : Taken) (i : ℕ) → IsOfSomeDumps wanted i old mid → IsOfSomeFile wanted (i + 1) mid new → IsOfSomeDumps wanted (i + 1) old new
some_more wanted old mid new i so_far one = (
  so_far.0 ++ one.0 ∷ [],
  omega (arith, length-append so_far.0 (one.0 ∷ []), so_far.1),
  seen_of-push wanted 1 old mid new so_far.0 one.0 so_far.2 (ap (λ n. of_octets wanted n mid one.0) (omega (arith, so_far.1)) ∙ one.1),
)

-- ---- as far as files are known

pub dumps_give : (known : Option Files) (wanted : Wanted) (dumps : List (List ℕ)) (old new : Taken) → IfSome known (λ files. seen_from wanted 1 old dumps files ≡ Ok new)
    → IsOfSomeDumps wanted (length dumps) old new → DumpsGive known wanted dumps old new
dumps_give None wanted dumps old new read some = some
dumps_give (Some files) wanted dumps old new read some = read

-- why reading stopped
pub dumps_stop : (known : Option Files) (steady : Type 0) (wanted : Wanted) (dumps : List (List ℕ)) (start : Taken) (dump : ℕ) (e : DumpError)
    → IfSome (end_named dump e) (λ end. IfSome known (λ files. seen_from wanted 1 start dumps files ≡ Err end)) → (1 ≤ dump) × (dump ≤ length dumps)
    → IfSome known (λ files. IsOk (seen_from wanted 1 start (take (dump - 1) dumps) files))
    → (steady → e ≡ error.ReadFault → IfSome known (λ files. seen_from wanted 1 start dumps files ≡ Err (Absent dump))) → StopsDumps known steady wanted dumps start dump e
dumps_stop known steady wanted dumps start dump (error.Malformed place fault) stopped named before absent = stopped
dumps_stop known steady wanted dumps start dump (error.Limit kind) stopped named before absent = stopped
dumps_stop known steady wanted dumps start dump error.ReadFault stopped named before absent = (named.0, named.1, before, λ held. absent held refl)
dumps_stop known steady wanted dumps start dump error.NoMemory stopped named before absent = tt

-- files that stay what they were, over a shelf that is as steady
pub stops_as_before : (known other : Option Files) (steady held : Type 0) (wanted : Wanted) (dumps : List (List ℕ)) (start : Taken) (dump : ℕ) (e : DumpError) → other ≡ known → (steady → held)
    → StopsDumps other held wanted dumps start dump e → StopsDumps known steady wanted dumps start dump e
stops_as_before known other steady held wanted dumps start dump (error.Malformed place fault) same holds stops = subst (λ o. DumpsEndAt o wanted dumps start (Malformed place fault)) same stops
stops_as_before known other steady held wanted dumps start dump (error.Limit kind) same holds stops = subst (λ o. DumpsEndAt o wanted dumps start (Limit kind dump)) same stops
stops_as_before known other steady held wanted dumps start dump error.ReadFault same holds stops =
    (stops.0, stops.1, subst (λ o. ReadBefore o wanted dumps start dump) same stops.2, λ is. subst (λ o. DumpsEndAt o wanted dumps start (Absent dump)) same (stops.3 (holds is)))
stops_as_before known other steady held wanted dumps start dump error.NoMemory same holds stops = tt

pub dumps_give_as : (known other : Option Files) (wanted : Wanted) (dumps : List (List ℕ)) (old new : Taken) → other ≡ known → DumpsGive other wanted dumps old new → DumpsGive known wanted dumps old new
dumps_give_as known other wanted dumps old new same gives = subst (λ o. DumpsGive o wanted dumps old new) same gives

pub reach_as_before : (other known : Option Files) (dumps : List (List ℕ)) (left : Option (List ℕ)) (dump : ℕ) (e : DumpError) → other ≡ known → IsDumpInReach dumps other left dump e
    → IsDumpInReach dumps known left dump e
reach_as_before other known dumps left dump e same reach = subst (λ o. IsDumpInReach dumps o left dump e) same reach
