use Rattle.std.proofs.Common.{◌≡◌, ◌-◌, ◌<◌, ◌%◌, true, false, ◌||◌, Some, set, drop, get_or, length, sym, ap, ap₂, subst, ◌∙◌, arith, length-set}
use Rattle.std.specs.Prelude.{slice_get}
use Rattle.std.specs.List.{list_any}
use Rattle.std.proofs.lemmas.Option.{slice_get-get_or}
use Rattle.path_clean.specs.Paths.{is_reserved}
use Rattle.path_clean.proofs.Distinct.{AreMarked, from, once, unmarked, marked_next}
use Rattle.path_clean.proofs.cleaned.is_plainly_sound.Goals as goal

pub numbers-preserved : goal.numbers-preserved
numbers-preserved c =
    let path = c.args.path.now in
    let at = c.numbers.at in
    let marks = c.numbers.marks in
    let n = get_or path (at - 1) 0 in
    let some : 0 < at = omega (arith, c.numbers-test.true) in
    let k = c.numbers.invariant in
    let mark : n % 128 < 128 = omega arith in
    let within : n % 128 < length marks = subst (λ m. n % 128 < m) (sym k.many) mark in
    let free : slice_get marks (n % 128) ≡ Some false = slice_get-get_or marks (n % 128) false within ∙ ap (λ b. Some b) c.if-marks-mark.false in
    let plain : is_reserved n ≡ false = sym c.is_reserved_number.ensures ∙ c.if-is_reserved_number.false in
    let parts = from path at some k.within in record {
      within = omega (arith, k.within);
      many = length-set marks (n % 128) true ∙ k.many;
      distinct = once path at some k.within (unmarked (drop at path) marks n k.marked free) k.distinct;
      reserved = ap (list_any is_reserved) parts ∙ ap₂ (λ a b. a || b) plain k.reserved;
      marked = subst (λ l. AreMarked l (set marks (n % 128) true)) (sym parts) (marked_next (drop at path) marks n within k.marked);
    }
