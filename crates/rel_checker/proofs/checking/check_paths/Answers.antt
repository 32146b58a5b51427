use Rattle.std.proofs.Common.{refl}
use Rattle.result_rules.specs.declared.rule.Rule.TheVariants.{PathsCleaned, PathsDistinct, LostRefuted}
use Rattle.rel_checker.proofs.Settling.{next_met, judged, refused, found_none, found_some}
use Rattle.rel_checker.proofs.checking.check_paths.Goals as goal

pub returns-in-Some-2 : goal.returns-in-Some-2
returns-in-Some-2 c =
    let file = c.args.file.now in
    let met2 = next_met file PathsCleaned 1 refl c.requires.met (found_none file PathsCleaned c.in_ok-place.field-0 c.in_ok-place.ensures c.in_default.is) in
    judged file c.no-in-Some-2.result c.path_line-in-Some-2.result 3 c.no-in-Some-2.ensures
    (refused file PathsDistinct 2 c.in-Some-2.place c.path_line-in-Some-2.result 3 refl met2
    (found_some file PathsDistinct c.in_ok-place-2.field-0 c.in-Some-2.place c.in_ok-place-2.ensures c.in-Some-2.is) refl c.path_line-in-Some-2.ensures)

pub returns-in-Some-find_unrefuted : goal.returns-in-Some-find_unrefuted
returns-in-Some-find_unrefuted c =
    let file = c.args.file.now in
    let met2 = next_met file PathsCleaned 1 refl c.requires.met (found_none file PathsCleaned c.in_ok-place.field-0 c.in_ok-place.ensures c.in_default.is) in
    let met3 = next_met file PathsDistinct 2 refl met2 (found_none file PathsDistinct c.in_ok-place-2.field-0 c.in_ok-place-2.ensures c.in_default-2.is) in
    judged file c.no-in-Some-find_unrefuted.result c.path_line-in-Some-find_unrefuted.result 4 c.no-in-Some-find_unrefuted.ensures
    (refused file LostRefuted 3 c.in-Some-find_unrefuted.place c.path_line-in-Some-find_unrefuted.result 4 refl met3
    (found_some file LostRefuted c.find_unrefuted.result c.in-Some-find_unrefuted.place c.find_unrefuted.ensures c.in-Some-find_unrefuted.is) refl c.path_line-in-Some-find_unrefuted.ensures)

pub returns-in-None : goal.returns-in-None
returns-in-None c =
    let file = c.args.file.now in
    let met2 = next_met file PathsCleaned 1 refl c.requires.met (found_none file PathsCleaned c.in_ok-place.field-0 c.in_ok-place.ensures c.in_default.is) in
    let met3 = next_met file PathsDistinct 2 refl met2 (found_none file PathsDistinct c.in_ok-place-2.field-0 c.in_ok-place-2.ensures c.in_default-2.is) in
    next_met file LostRefuted 3 refl met3 (found_none file LostRefuted c.find_unrefuted.result c.find_unrefuted.ensures c.in-None.is)
