use Rattle.std.proofs.Common.{length, refl}
use Rattle.std.proofs.lemmas.Option.{slice_get_read}
use Rattle.tor_mend.proofs.refusals.Refusals.use_again.Goals as goal

pub returns-then-is_due-clause-uses : goal.returns-then-is_due-clause-uses
returns-then-is_due-clause-uses c =
    let items = c.args.self.now.items.items in
    let r = c.index.result.now in
    (r, c.looked_for.result, slice_get_read items (length items) c.args.place r refl c.requires.there c.index.ensures, c.looked_for.ensures, refl)

pub returns-clause-uses : goal.returns-clause-uses
returns-clause-uses c =
    let items = c.args.self.now.items.items in
    let r = c.index.result.now in
    (r, c.used.result, slice_get_read items (length items) c.args.place r refl c.requires.there c.index.ensures, c.used.ensures, refl)

pub returns-clause-lost : goal.returns-clause-lost
returns-clause-lost c =
    let items = c.args.self.now.items.items in
    let r = c.index.result.now in
    (r, slice_get_read items (length items) c.args.place r refl c.requires.there c.index.ensures, refl)
