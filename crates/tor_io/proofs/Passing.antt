-- Texts that pass through a buffer to a sink, one behind the other.
use Rattle.std.proofs.Common.{◌≡◌, ℕ, ◌+◌, List, [], ◌++◌, length, take, Option, Some, None, Result, Ok, Err, refl, sym, ap, ◌∙◌, subst, append_assoc, arith}
use Rattle.std.specs.Prelude.{OnOk, OnErr}
use Rattle.std.proofs.Math.Seq.{take-append-add}
use Rattle.std.proofs.lemmas.List.{append-nil, length-append, take-append-le}
use Rattle.std.specs.Io.KnownBytes.{append_known}
use Rattle.tor_io.specs.Contents.{GainsPrefix, PassesOn}
use Rattle.tor_io.proofs.Known.{append_known-append}

-- what waited was written, and then a piece
pub both_written : {T E : Type 0} (r : Result T E) (old between new : Option (List ℕ)) (waiting piece : List ℕ) → between ≡ append_known old waiting →
    OnOk r (new ≡ append_known between piece) → OnOk r (PassesOn old new [] (waiting ++ piece))
both_written (Ok x) old between new waiting piece first second =
    (waiting ++ piece, second ∙ ap (λ known. append_known known piece) first ∙ append_known-append old waiting piece, append-nil (waiting ++ piece))
both_written (Err e) old between new waiting piece first second = tt

-- a whole part, and a prefix of what follows
pub part_and_prefix : (old between new : Option (List ℕ)) (part rest : List ℕ) → between ≡ append_known old part → GainsPrefix between new rest → GainsPrefix old new (part ++ rest)
part_and_prefix old between new part rest first gain = (
  length part + gain.0,
  omega (arith, gain.1, length-append part rest),
  gain.2 ∙ ap (λ known. append_known known (take gain.0 rest)) first ∙ append_known-append old part (take gain.0 rest) ∙ ap (append_known old) (sym (take-append-add part rest gain.0)),
)

-- where a write stopped, what waited was written, and a prefix of the piece
pub stopped_behind : {T E : Type 0} (r : Result T E) (old between new : Option (List ℕ)) (waiting piece : List ℕ) → between ≡ append_known old waiting →
    OnErr r (GainsPrefix between new piece) → OnErr r (GainsPrefix old new (waiting ++ piece))
stopped_behind (Ok x) old between new waiting piece first second = tt
stopped_behind (Err e) old between new waiting piece first second = part_and_prefix old between new waiting piece first second

-- a prefix of a text is one of a longer text
pub longer : (old new : Option (List ℕ)) (text more : List ℕ) → GainsPrefix old new text → GainsPrefix old new (text ++ more)
longer old new text more gain =
    (gain.0, omega (arith, gain.1, length-append text more), gain.2 ∙ ap (append_known old) (sym (take-append-le gain.0 text more gain.1)))

-- one text passes on, and then another
pub one_and_another : (old between new : Option (List ℕ)) (before waiting after text more : List ℕ) → PassesOn old between waiting (before ++ text) →
    PassesOn between new after (waiting ++ more) → PassesOn old new after (before ++ (text ++ more))
one_and_another old between new before waiting after text more first second = (
  first.0 ++ second.0,
  second.1 ∙ ap (λ known. append_known known second.0) first.1 ∙ append_known-append old first.0 second.0,
  append_assoc first.0 second.0 after ∙ ap (λ t. first.0 ++ t) second.2 ∙ sym (append_assoc first.0 waiting more) ∙ ap (λ t. t ++ more) first.2 ∙ append_assoc before text more,
)

-- one text passes on, and then a prefix of another
pub one_and_prefix : (old between new : Option (List ℕ)) (before waiting text more : List ℕ) → PassesOn old between waiting (before ++ text) →
    GainsPrefix between new (waiting ++ more) → GainsPrefix old new (before ++ (text ++ more))
one_and_prefix old between new before waiting text more first second =
    subst (GainsPrefix old new) (sym (append_assoc first.0 waiting more) ∙ ap (λ t. t ++ more) first.2 ∙ append_assoc before text more)
    (part_and_prefix old between new first.0 (waiting ++ more) first.1 second)

-- a prefix of one text is one of it and another
pub prefix_of_one : (old new : Option (List ℕ)) (before text more : List ℕ) → GainsPrefix old new (before ++ text) → GainsPrefix old new (before ++ (text ++ more))
prefix_of_one old new before text more gain = subst (GainsPrefix old new) (append_assoc before text more) (longer old new (before ++ text) more gain)

-- the same behind a call

pub rest_passes : {T E : Type 0} (r : Result T E) (old between new : Option (List ℕ)) (before waiting after text more : List ℕ) → PassesOn old between waiting (before ++ text) →
    OnOk r (PassesOn between new after (waiting ++ more)) → OnOk r (PassesOn old new after (before ++ (text ++ more)))
rest_passes (Ok x) old between new before waiting after text more first second = one_and_another old between new before waiting after text more first second
rest_passes (Err e) old between new before waiting after text more first second = tt

pub rest_stops : {T E : Type 0} (r : Result T E) (old between new : Option (List ℕ)) (before waiting text more : List ℕ) → PassesOn old between waiting (before ++ text) →
    OnErr r (GainsPrefix between new (waiting ++ more)) → OnErr r (GainsPrefix old new (before ++ (text ++ more)))
rest_stops (Ok x) old between new before waiting text more first second = tt
rest_stops (Err e) old between new before waiting text more first second = one_and_prefix old between new before waiting text more first second

-- what holds, holds at an error
pub at_error : {T E : Type 0} (r : Result T E) (P : Type 0) → P → OnErr r P
at_error (Ok x) P p = tt
at_error (Err e) P p = p

-- where the first text stops, so do both
pub first_stops : {T E : Type 0} (r : Result T E) (old new : Option (List ℕ)) (before text more : List ℕ) → GainsPrefix old new (before ++ text) →
    OnErr r (GainsPrefix old new (before ++ (text ++ more)))
first_stops (Ok x) old new before text more gain = tt
first_stops (Err e) old new before text more gain = prefix_of_one old new before text more gain

-- what waited is written at last

pub all_flushed : {T E : Type 0} (r : Result T E) (old between new : Option (List ℕ)) (waiting text : List ℕ) → PassesOn old between waiting text →
    OnOk r (new ≡ append_known between waiting) → OnOk r (new ≡ append_known old text)
all_flushed (Ok x) old between new waiting text first second =
    second ∙ ap (λ known. append_known known waiting) first.1 ∙ append_known-append old first.0 waiting ∙ ap (append_known old) first.2
all_flushed (Err e) old between new waiting text first second = tt

pub flush_stops : {T E : Type 0} (r : Result T E) (old between new : Option (List ℕ)) (waiting text : List ℕ) → PassesOn old between waiting text →
    OnErr r (GainsPrefix between new waiting) → OnErr r (GainsPrefix old new text)
flush_stops (Ok x) old between new waiting text first second = tt
flush_stops (Err e) old between new waiting text first second = subst (GainsPrefix old new) first.2 (part_and_prefix old between new first.0 waiting first.1 second)

-- nothing was put yet
pub none_passed : (known : Option (List ℕ)) (waiting : List ℕ) → PassesOn known known waiting (waiting ++ [])
none_passed None waiting = ([], refl, sym (append-nil waiting))
none_passed (Some held) waiting = ([], ap (λ t. Some t) (sym (append-nil held)), sym (append-nil waiting))

-- all of it waits
pub only_waits : (known : Option (List ℕ)) (waiting text : List ℕ) → waiting ≡ text → PassesOn known known waiting text
only_waits None waiting text is = ([], refl, is)
only_waits (Some held) waiting text is = ([], ap (λ t. Some t) (sym (append-nil held)), is)
