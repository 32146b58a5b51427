-- Routes that are taken in one after the other.
use Rattle.std.proofs.Common.{◌≡◌, List, [], ◌∷◌, ◌++◌, length, take, Result, Ok, Err, refl, sym, ap, subst, ◌∙◌, arith}
use Rattle.std.proofs.lemmas.List.{append_assoc, append-nil, length-append}
use Rattle.std.proofs.Math.Seq.{take-append_seam}
use Rattle.path_attrs.specs.Fields.{◌>>=◌}
use Rattle.path_clean.specs.declared.cleaned.Sets.{Sets}
use Rattle.dump_read.specs.declared.error.LimitKind.{LimitKind}
use Rattle.path_attrs.specs.declared.fault.RibFault.{RibFault}
use Rattle.dump_read.specs.declared.records.Unread.TheVariants as unread
use Rattle.dump_read.specs.Wanted.{Wanted, which_count}
use Rattle.dump_read.specs.Routes.{Route}
use Rattle.dump_read.specs.declared.taking.Untaken.{Untaken}
use Rattle.dump_read.specs.declared.taking.Untaken.TheVariants as untaken
use Rattle.dump_read.specs.Refusals.{IsLimit, IsUnread, TakesSomeRead}
use Rattle.dump_read.specs.Taking.{Taken, take_route, take_routes, Takes, TakesSome}

-- what was taken in so far, and then the others
pub take_routes-append : (sets : Sets) (old mid : Taken) (prefix rest : List Route) → Takes sets old prefix mid → take_routes sets old (prefix ++ rest) ≡ take_routes sets mid rest
unfolding take_routes
take_routes-append sets old mid [] rest takes = ap (λ t. take_routes sets t rest) (same old mid takes)
  where
    same : (x y : Taken) → ◌≡◌ {A = Result Taken LimitKind} (Ok x) (Ok y) → x ≡ y
    same x y e = cc
take_routes-append sets old mid (r ∷ prefix) rest takes = by (take_route sets old r) takes (λ further. take_routes-append sets further mid prefix rest)
  where
    by : (one : Result Taken LimitKind) → (one >>= λ further. take_routes sets further prefix) ≡ Ok mid
        → ((further : Taken) → Takes sets further prefix mid → take_routes sets further (prefix ++ rest) ≡ take_routes sets mid rest)
        → (one >>= λ further. take_routes sets further (prefix ++ rest)) ≡ take_routes sets mid rest
    by (Ok further) is ih = ih further is
    by (Err kind) is ih = absurd cc

pub one_route : (sets : Sets) (old : Taken) (r : Route) → take_routes sets old (r ∷ []) ≡ take_route sets old r
unfolding take_routes
one_route sets old r = by (take_route sets old r)
  where
    by : (one : Result Taken LimitKind) → (one >>= λ further. Ok further) ≡ one
    by (Ok further) = refl
    by (Err kind) = refl

pub stops : (sets : Sets) (old : Taken) (r : Route) (rest : List Route) (kind : LimitKind) → take_route sets old r ≡ Err kind → take_routes sets old (r ∷ rest) ≡ Err kind
unfolding take_routes
stops sets old r rest kind is = rw is refl

pub takes_one_more : (sets : Sets) (old mid new : Taken) (prefix : List Route) (r : Route) → Takes sets old prefix mid → take_route sets mid r ≡ Ok new → Takes sets old (prefix ++ r ∷ []) new
takes_one_more sets old mid new prefix r takes one = take_routes-append sets old mid prefix (r ∷ []) takes ∙ one_route sets mid r ∙ one

pub stops_behind : (sets : Sets) (old mid : Taken) (prefix : List Route) (r : Route) (rest : List Route) (kind : LimitKind) → Takes sets old prefix mid → take_route sets mid r ≡ Err kind
    → take_routes sets old (prefix ++ r ∷ rest) ≡ Err kind
stops_behind sets old mid prefix r rest kind takes one = take_routes-append sets old mid prefix (r ∷ rest) takes ∙ stops sets mid r rest kind one

pub no_entry : (sets : Sets) (old : Taken) → Takes sets old [] old
unfolding take_routes
no_entry sets old = refl

-- some of the routes were taken in, and these are left
pub record SoFar (sets : Sets) (old mid : Taken) (all left : List Route) : Type 0 where
  pub prefix : List Route
  pub parts : all ≡ prefix ++ left
  pub takes : Takes sets old prefix mid

pub none_so_far : (sets : Sets) (old : Taken) (all : List Route) → SoFar sets old old all all
none_so_far sets old all = record { prefix = []; parts = refl; takes = no_entry sets old }

pub one_more : (sets : Sets) (old mid new : Taken) (all left : List Route) (r : Route) → SoFar sets old mid all (r ∷ left) → take_route sets mid r ≡ Ok new → SoFar sets old new all left
one_more sets old mid new all left r so_far one = record {
  prefix = so_far.prefix ++ r ∷ [];
  parts = so_far.parts ∙ sym (append_assoc so_far.prefix (r ∷ []) left);
  takes = takes_one_more sets old mid new so_far.prefix r so_far.takes one;
}

pub all_taken : (sets : Sets) (old mid : Taken) (all left : List Route) → SoFar sets old mid all left → left ≡ [] → Takes sets old all mid
all_taken sets old mid all left so_far none =
    ap (take_routes sets old) (so_far.parts ∙ ap (λ rest. so_far.prefix ++ rest) none ∙ append-nil so_far.prefix) ∙ so_far.takes

pub limit_at : (sets : Sets) (old mid : Taken) (all left : List Route) (r : Route) (why : Untaken) → SoFar sets old mid all (r ∷ left) → IsLimit (take_route sets mid r) why
    → IsLimit (take_routes sets old all) why
limit_at sets old mid all left r (untaken.Limit kind) so_far one =
    ap (take_routes sets old) so_far.parts ∙ stops_behind sets old mid so_far.prefix r left kind so_far.takes one
limit_at sets old mid all left r untaken.NoMemory so_far one = tt

pub some_taken : (sets : Sets) (old mid new : Taken) (all left : List Route) → SoFar sets old mid all left → new ≡ mid → TakesSome sets old all new
some_taken sets old mid new all left so_far same = (
  length so_far.prefix,
  omega (arith, ap length so_far.parts, length-append so_far.prefix left),
  ap (take_routes sets old) (ap (take (length so_far.prefix)) so_far.parts ∙ take-append_seam so_far.prefix left) ∙ so_far.takes ∙ ap (λ (t : Taken). Ok t) (sym same),
)

-- ---- a record

-- routes were read, and what became of them
pub unread_routes : (wanted : Wanted) (old : Taken) (read : Result (List Route) RibFault) (routes : List Route) (why : Untaken) → Ok routes ≡ read
    → IsLimit (take_routes wanted.sets old (which_count wanted routes)) why → IsUnread wanted old read (unread.Untaken why)
unread_routes wanted old read routes (untaken.Limit kind) is all = (routes, sym is, all)
unread_routes wanted old read routes untaken.NoMemory is all = tt

pub some_of : (wanted : Wanted) (old new : Taken) (read : Result (List Route) RibFault) (routes : List Route) → Ok routes ≡ read → TakesSome wanted.sets old (which_count wanted routes) new → TakesSomeRead wanted old read new
some_of wanted old new read routes is some = subst (λ (x : Result (List Route) RibFault). TakesSomeRead wanted old x new) is some

pub none_of : (wanted : Wanted) (old new : Taken) (read : Result (List Route) RibFault) → new ≡ old → TakesSomeRead wanted old read new
none_of wanted old new (Ok routes) same = (0, omega arith, no_entry wanted.sets old ∙ ap (λ (t : Taken). Ok t) (sym same))
none_of wanted old new (Err fault) same = same
