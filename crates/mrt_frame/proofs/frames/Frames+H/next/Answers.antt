use Rattle.std.proofs.Common.{◌≡◌, ◌≤◌, Bool, true, false, Result, Ok, Err, None, Some, IfOk, IfSome, rules, arith, refl, sym, ap, subst, ◌∙◌}
use Rattle.std.specs.Prelude.{IfNone}
use Rattle.mrt_frame.specs.declared.error.FrameError.{FrameError}
use Rattle.mrt_frame.specs.declared.header.At.{At}
use Rattle.mrt_frame.specs.Records.{Record, Well, place_behind}
use Rattle.mrt_frame.specs.declared.cursor.Cursor.{Cursor}
use Rattle.mrt_frame.specs.declared.error.FrameError.TheVariants.{TooManyBytes, ReadFault}
use Rattle.mrt_frame.specs.declared.frames.Frames.{Frames}
use Rattle.mrt_frame.specs.Frames.{FindsNext, StopsWith, IfFault, record_as, end_of_error}
use Rattle.mrt_frame.specs.Steps.{NextRecord, HasMoved, lent_record}
use Rattle.mrt_frame.specs.Counting.{CountsAll}
use Rattle.mrt_frame.proofs.Errors.{no_error, error_on}
use Rattle.mrt_frame.proofs.Converse.{Matches, conversely, same_seen, of_octets}
use Rattle.mrt_frame.specs.Some.{HasRead, GiveRecord}
use Rattle.mrt_frame.proofs.frames.Frames+H.next.Goals as goal

pub returns-in_err-advance : goal.returns-in_err-advance
returns-in_err-advance g c =
    let shelf = g.H.Shelf in
    let e = c.in_err-advance.field-0.0 in
    let is : ◌≡◌ {A = NextRecord} (Err e) c.from_residual.result = search rules in
    let facts = c.in_err-advance.ensures in
    let old = c.args.self.now in
    let place = old.cursor.next in
    let before = shelf.left old.shelf.now in
    let first = c.args.counts.now in
    let second = c.advance.new.counts in
    let new : Frames g.row.H.Denot Cursor = record { shelf = record old.shelf { now = c.advance.new.shelf }; cursor = c.advance.new.self } in
    let matches : IfSome before (λ octets. Matches (Err e) place octets None) = of_octets (end_of_error e) before place facts.stopped in
    let given = conversely c.from_residual.result before place None (subst (λ (r : NextRecord). IfSome before (λ octets. Matches r place octets None)) is matches) in
    let moved : HasMoved shelf old first second (Err e) new = record {
      same_reference = refl;
      leaves = record { files = facts.files; opens = facts.opens; later = facts.later; quiet = facts.quiet; failed = λ read. facts.failed (error_on e ReadFault read); steady = facts.steady };
      stands = tt;
      counted = tt;
      next = tt;
      rises = tt;
      live = tt;
      ended = tt;
      at_end = tt;
      broken = broken c.advance.new.self.live e facts.live.0;
      some = tt;
      some_end = tt;
      bounded = facts.bounded;
      reached = tt;
      within = facts.within;
      shown = λ is. facts.shown (error_on e TooManyBytes is);
    } in (
      (refl, (λ _. tt), subst (λ (r : NextRecord). HasMoved shelf old first second r new) is moved),
      record {
        ends = tt;
        onward = subst (λ (r : NextRecord). IfOk r (λ found. IfSome found (λ r. place.offset ≤ r.at.offset))) is tt;
        end = subst (λ (r : NextRecord). IfOk r (λ found. IfNone found (IfSome before (λ octets. StopsWith place octets Well)))) is tt;
        stopped = subst (λ (r : NextRecord). IfFault r (λ end. IfSome before (λ octets. StopsWith place octets end))) is facts.stopped;
        record_is_given = given.record_is_given;
        end_is_none = given.end_is_none;
        stop_is_error = given.stop_is_error;
        counted_all = subst (λ (r : NextRecord). IfOk r (λ found. IfNone found (CountsAll before place first second))) is tt;
        steady_reads = λ s read. facts.steady_reads s (error_on e ReadFault (is ∙ read));
      },
    )
  where
    broken : (live : Bool) (e : FrameError) → (live ≡ true → ◌≡◌ {A = Result Bool FrameError} (Err e) (Ok true)) → live ≡ false
    broken false e h = refl
    broken true e h = absurd (no_error true e (sym (h refl)))

pub returns-then-branch : goal.returns-then-branch
returns-then-branch g c =
    let shelf = g.H.Shelf in
    let ok : ◌≡◌ {A = Result Bool FrameError} (Ok c.in_ok-advance.field-0) (Ok true) = ap (λ (b : Bool). Ok b) c.if-branch.true in
    let facts = c.in_ok-advance.ensures in
    let place = c.args.self.now.cursor.next in
    let cursor = c.advance.new.self in
    let left = shelf.left c.advance.new.shelf in
    let before = shelf.left c.args.self.now.shelf.now in
    let lent = c.record.result in
    let same : record_as cursor.at cursor.kind cursor.body.items ≡ lent_record lent =
    same_seen cursor.at cursor.kind cursor.body.items lent c.record.ensures.at c.record.ensures.kind c.record.ensures.body in
    let stands : IfSome before (λ octets. FindsNext place octets (lent_record lent) left) = subst (λ (r : Record). IfSome before (λ octets. FindsNext place octets r left)) same (facts.record ok) in
    let given = conversely (Ok (Some lent)) before place left stands in (
      (
        refl,
        (λ _. tt),
        record {
          same_reference = refl;
          leaves = record { files = facts.files; opens = facts.opens; later = facts.later; quiet = λ _. facts.quiet tt; failed = λ is. absurd (no_error _ _ is); steady = facts.steady };
          stands = stands;
          counted = facts.counted ok;
          next = facts.next ok ∙ ap place_behind same;
          rises = omega (arith, ap (λ (a : At). a.offset) (facts.next ok), facts.onward ok);
          live = facts.live.1 ok;
          ended = tt;
          at_end = tt;
          broken = tt;
          bounded = facts.bounded;
          some = subst (λ (r : Record). HasRead before left (GiveRecord place c.args.counts.now r c.advance.new.counts)) same (facts.some ok);
          some_end = tt;
          reached = facts.reached ok;
          within = facts.within;
          shown = λ is. absurd (no_error _ _ is);
        },
      ),
      record {
        ends = tt;
        onward = subst (λ (a : At). place.offset ≤ a.offset) (sym c.record.ensures.at) (facts.onward ok);
        end = tt;
        stopped = tt;
        record_is_given = given.record_is_given;
        end_is_none = given.end_is_none;
        stop_is_error = given.stop_is_error;
        counted_all = tt;
        steady_reads = λ _ is. absurd (no_error _ _ is);
      },
    )

pub returns-else-branch : goal.returns-else-branch
returns-else-branch g c =
    let shelf = g.H.Shelf in
    let no : ◌≡◌ {A = Result Bool FrameError} (Ok c.in_ok-advance.field-0) (Ok false) = ap (λ (b : Bool). Ok b) c.if-branch.false in
    let facts = c.in_ok-advance.ensures in
    let place = c.args.self.now.cursor.next in
    let left = shelf.left c.advance.new.shelf in
    let before = shelf.left c.args.self.now.shelf.now in
    let given = conversely (Ok None) before place left (facts.end no) in (
      (
        refl,
        (λ _. tt),
        record {
          same_reference = refl;
          leaves = record { files = facts.files; opens = facts.opens; later = facts.later; quiet = λ _. facts.quiet tt; failed = λ is. absurd (no_error _ _ is); steady = facts.steady };
          stands = tt;
          counted = tt;
          next = tt;
          rises = tt;
          live = tt;
          ended = not_live c.advance.new.self.live c.in_ok-advance.field-0 c.if-branch.false facts.live.0;
          at_end = facts.at_end no;
          broken = tt;
          some = tt;
          some_end = facts.some_end no;
          bounded = facts.bounded;
          reached = tt;
          within = facts.within;
          shown = λ is. absurd (no_error _ _ is);
        },
      ),
      record {
        ends = tt;
        onward = tt;
        end = facts.end no;
        stopped = tt;
        record_is_given = given.record_is_given;
        end_is_none = given.end_is_none;
        stop_is_error = given.stop_is_error;
        counted_all = facts.counted_all no;
        steady_reads = λ _ is. absurd (no_error _ _ is);
      },
    )
  where
    not_live : (live found : Bool) → found ≡ false → (live ≡ true → ◌≡◌ {A = Result Bool FrameError} (Ok found) (Ok true)) → live ≡ false
    not_live false found is h = refl
    not_live true found is h = let yes : ◌≡◌ {A = Result Bool FrameError} (Ok found) (Ok true) = h refl in absurd cc
