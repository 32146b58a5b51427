use Rattle.std.proofs.Common.{◌≡◌, ◌<◌, length, IfSome, arith, refl, subst, sym, ◌∙◌}
use Rattle.mrt_header.specs.Headers.{Says}
use Rattle.mrt_frame.specs.declared.error.FrameError.{FrameError}
use Rattle.mrt_frame.specs.declared.error.FrameError.TheVariants.{HeadCut, Oversize, TooManyBytes, ReadFault}
use Rattle.mrt_frame.specs.Frames.{end_of_error}
use Rattle.mrt_frame.proofs.Errors.{no_error, same_error, error_on, no_fault, head_not_long, oversize_not_long}
use Rattle.mrt_frame.proofs.NextRecord.{takes_header, too_far, too_long, head_cut, no_header, left_behind, nothing_behind}
use Rattle.mrt_frame.proofs.Passing.{if_some}
use Rattle.mrt_frame.proofs.Somes.{header_of, nothing_read}
use Rattle.mrt_frame.proofs.next.read_header.Goals as goal

pub returns-in-Err : goal.returns-in-Err
returns-in-Err g c =
    let error = c.in-Err.error in
    let e = c.in-Err.ensures in
    record {
      files = e.files;
      opens = e.opens;
      header = tt;
      within = tt;
      some = tt;
      nothing = tt;
      end = tt;
      at_end = tt;
      stopped = if_some (end_of_error error) (λ _. ⊥) _ (λ _ no. absurd no) e.no_fault;
      reads = e.reads;
      shown = λ is. absurd (subst (λ (x : FrameError). IfSome (end_of_error x) (λ _. ⊥)) (same_error error TooManyBytes is) e.no_fault);
      later = e.later;
      quiet = e.quiet;
      failed = λ is. e.failed (error_on error ReadFault is);
      steady = e.steady;
      steady_reads = λ s is. e.steady_reads s (error_on error ReadFault is);
    }

pub returns-in-Nothing : goal.returns-in-Nothing
returns-in-Nothing g c =
    let before = g.H.Shelf.left c.args.shelf.now in
    let after = g.H.Shelf.left c.read_part.new.shelf in
    let at = c.args.at in
    let head = c.read_part.new.buffer.items in
    let e = c.in-Ok.ensures in
    let none : length head ≡ 0 = subst (λ t. length t ≡ 0) c.deref.ensures.value c.in-Nothing.ensures in
    record {
      files = e.files;
      opens = e.opens;
      header = tt;
      within = tt;
      some = tt;
      nothing = nothing_read before after head none e.gathered;
      end = no_header before after at head e.taken none;
      at_end = nothing_behind before after head e.taken none;
      stopped = tt;
      reads = e.reads;
      shown = λ bad. absurd (no_error _ _ bad);
      later = e.later;
      quiet = λ _. e.quiet tt;
      failed = λ bad. absurd (no_error _ _ bad);
      steady = e.steady;
      steady_reads = λ _ bad. no_error _ _ bad;
    }

pub returns-in-Cut : goal.returns-in-Cut
returns-in-Cut g c =
    let before = g.H.Shelf.left c.args.shelf.now in
    let after = g.H.Shelf.left c.read_part.new.shelf in
    let at = c.args.at in
    let head = c.read_part.new.buffer.items in
    let e = c.in-Ok.ensures in
    let few : (0 < length head) × (length head < 12) = subst (λ t. (0 < length t) × (length t < 12)) c.deref.ensures.value c.in-Cut.ensures in
    record {
      files = e.files;
      opens = e.opens;
      header = tt;
      within = tt;
      some = tt;
      nothing = tt;
      end = tt;
      at_end = tt;
      stopped = head_cut before after at head e.taken few.0 few.1;
      reads = e.reads;
      shown = λ is. absurd (head_not_long at (same_error (HeadCut at) TooManyBytes is));
      later = e.later;
      quiet = λ _. e.quiet tt;
      failed = λ is. absurd (no_fault (HeadCut at) _ refl (same_error (HeadCut at) ReadFault is));
      steady = e.steady;
      steady_reads = λ _ is. no_fault (HeadCut at) _ refl (same_error (HeadCut at) ReadFault is);
    }

pub returns-then-at-from-gt-MAX_FILE : goal.returns-then-at-from-gt-MAX_FILE
returns-then-at-from-gt-MAX_FILE g c =
    let before = g.H.Shelf.left c.args.shelf.now in
    let after = g.H.Shelf.left c.read_part.new.shelf in
    let at = c.args.at in
    let head = c.read_part.new.buffer.items in
    let e = c.in-Ok.ensures in
    let header = c.in-Whole.header in
    let whole : (length head ≡ 12) × Says head header = subst (λ t. (length t ≡ 12) × Says t header) c.deref.ensures.value c.in-Whole.ensures in
    record {
      files = e.files;
      opens = e.opens;
      header = tt;
      within = tt;
      some = tt;
      nothing = tt;
      end = tt;
      at_end = tt;
      stopped = too_far before after at header head e.taken (omega (arith, whole.0)) whole.1 (omega arith);
      reads = e.reads;
      shown = λ _. left_behind before after 12 head e.taken;
      later = e.later;
      quiet = λ _. e.quiet tt;
      failed = λ is. absurd (no_fault TooManyBytes _ refl (same_error TooManyBytes ReadFault is));
      steady = e.steady;
      steady_reads = λ _ is. no_fault TooManyBytes _ refl (same_error TooManyBytes ReadFault is);
    }

pub returns-then-is_oversize : goal.returns-then-is_oversize
returns-then-is_oversize g c =
    let before = g.H.Shelf.left c.args.shelf.now in
    let after = g.H.Shelf.left c.read_part.new.shelf in
    let at = c.args.at in
    let head = c.read_part.new.buffer.items in
    let e = c.in-Ok.ensures in
    let header = c.in-Whole.header in
    let whole : (length head ≡ 12) × Says head header = subst (λ t. (length t ≡ 12) × Says t header) c.deref.ensures.value c.in-Whole.ensures in
    record {
      files = e.files;
      opens = e.opens;
      header = tt;
      within = tt;
      some = tt;
      nothing = tt;
      end = tt;
      at_end = tt;
      stopped = too_long before after at header head e.taken (omega (arith, whole.0)) whole.1 (omega arith) (sym c.is_oversize.ensures ∙ c.if-is_oversize.true);
      reads = e.reads;
      shown = λ is. absurd (oversize_not_long at (same_error (Oversize at) TooManyBytes is));
      later = e.later;
      quiet = λ _. e.quiet tt;
      failed = λ is. absurd (no_fault (Oversize at) _ refl (same_error (Oversize at) ReadFault is));
      steady = e.steady;
      steady_reads = λ _ is. no_fault (Oversize at) _ refl (same_error (Oversize at) ReadFault is);
    }

pub returns : goal.returns
returns g c =
    let before = g.H.Shelf.left c.args.shelf.now in
    let after = g.H.Shelf.left c.read_part.new.shelf in
    let at = c.args.at in
    let head = c.read_part.new.buffer.items in
    let e = c.in-Ok.ensures in
    let header = c.in-Whole.header in
    let whole : (length head ≡ 12) × Says head header = subst (λ t. (length t ≡ 12) × Says t header) c.deref.ensures.value c.in-Whole.ensures in
    let small = sym c.is_oversize.ensures ∙ c.if-is_oversize.false in
    record {
      files = e.files;
      opens = e.opens;
      header = takes_header before after at header head e.taken (omega (arith, whole.0)) whole.1 (omega arith) small;
      within = omega arith;
      some = (head, e.gathered, header_of at header head whole.0 whole.1 (omega arith) small);
      nothing = tt;
      end = tt;
      at_end = tt;
      stopped = tt;
      reads = e.reads;
      shown = λ bad. absurd (no_error _ _ bad);
      later = e.later;
      quiet = λ _. e.quiet tt;
      failed = λ bad. absurd (no_error _ _ bad);
      steady = e.steady;
      steady_reads = λ _ bad. no_error _ _ bad;
    }
