use Rattle.std.proofs.Common.{sym, length}
use Rattle.result_text.specs.Text.{link}
use Rattle.result_text.specs.Ranges.{LinkFits}
use Rattle.result_text.specs.Reading.{others_at, with_prefix, link_at}
use Rattle.result_text.proofs.Lists.{link_member}
use Rattle.text_fields.proofs.Readers.{shorter}
use Rattle.result_text.proofs.Loops.{list_goes_on, list_fails, list_ends, space_shorter}
use Rattle.result_text.specs.declared.error.LineError.TheVariants as errors
use Rattle.result_text.proofs.reading.other_links.Goals as goal

pub members-smaller : goal.members-smaller
members-smaller c =
    space_shorter c.members.rest.now c.in-Some.others.now c.in-Some-link_of.after.now (sym c.in-Some.ensures)
    (shorter LinkFits (link c.args.version) (link_at c.args.version) (link_member c.args.version).reads c.in-Some.others.now c.in-Some-link_of.link c.in-Some-link_of.after.now (sym c.in-Some-link_of.ensures))

pub members-preserved : goal.members-preserved
members-preserved c =
    let i = c.members.invariant in
    rw c.in_ok-push.ensures.ok (list_goes_on (link_at c.args.version) c.members.links i.0 c.members.rest.now c.in-Some.others.now c.in-Some-link_of.after.now c.in-Some-link_of.link
    (with_prefix c.args.links.now (others_at (link_at c.args.version) (length c.args.bytes.now) c.args.bytes.now)) i.1 (sym c.in-Some.ensures) (sym c.in-Some-link_of.ensures)
    (shorter LinkFits (link c.args.version) (link_at c.args.version) (link_member c.args.version).reads c.in-Some.others.now c.in-Some-link_of.link c.in-Some-link_of.after.now (sym c.in-Some-link_of.ensures)) i.2)

pub returns-in_default-link_of : goal.returns-in_default-link_of
returns-in_default-link_of c =
    let i = c.members.invariant in
    list_fails (link_at c.args.version) c.members.links i.0 c.members.rest.now c.in-Some.others.now
    (with_prefix c.args.links.now (others_at (link_at c.args.version) (length c.args.bytes.now) c.args.bytes.now)) errors.Bad i.1 (sym c.in-Some.ensures) (sym c.in_default-link_of.ensures) i.2

pub returns : goal.returns
returns c =
    let i = c.members.invariant in
    list_ends (link_at c.args.version) c.members.links i.0 c.members.rest.now
    (with_prefix c.args.links.now (others_at (link_at c.args.version) (length c.args.bytes.now) c.args.bytes.now)) (sym c.in_default.ensures) i.2
