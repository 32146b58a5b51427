use Rattle.std.proofs.Common.{sym, length}
use Rattle.std.specs.Fmt.{decimal}
use Rattle.text_fields.specs.Fields.{IsU32}
use Rattle.result_text.specs.Reading.{others_at, with_prefix}
use Rattle.text_fields.specs.Reading.{u32_at}
use Rattle.text_fields.proofs.Readers.{shorter, u32_reads}
use Rattle.result_text.proofs.Loops.{list_goes_on, list_fails, list_ends, space_shorter}
use Rattle.result_text.specs.declared.error.LineError.TheVariants as errors
use Rattle.result_text.proofs.reading.other_numbers.Goals as goal

pub members-smaller : goal.members-smaller
members-smaller c =
    space_shorter c.members.rest.now c.in-Some.others.now c.in-Some-u32_of.after.now (sym c.in-Some.ensures)
    (shorter IsU32 decimal u32_at u32_reads c.in-Some.others.now c.in-Some-u32_of.number c.in-Some-u32_of.after.now (sym c.in-Some-u32_of.ensures))

pub members-preserved : goal.members-preserved
members-preserved c =
    let i = c.members.invariant in
    rw c.in_ok-push.ensures.ok (list_goes_on u32_at c.members.numbers i.0 c.members.rest.now c.in-Some.others.now c.in-Some-u32_of.after.now c.in-Some-u32_of.number
    (with_prefix c.args.numbers.now (others_at u32_at (length c.args.bytes.now) c.args.bytes.now)) i.1 (sym c.in-Some.ensures) (sym c.in-Some-u32_of.ensures)
    (shorter IsU32 decimal u32_at u32_reads c.in-Some.others.now c.in-Some-u32_of.number c.in-Some-u32_of.after.now (sym c.in-Some-u32_of.ensures)) i.2)

pub returns-in_default-u32_of : goal.returns-in_default-u32_of
returns-in_default-u32_of c =
    let i = c.members.invariant in
    list_fails u32_at c.members.numbers i.0 c.members.rest.now c.in-Some.others.now
    (with_prefix c.args.numbers.now (others_at u32_at (length c.args.bytes.now) c.args.bytes.now)) errors.Bad i.1 (sym c.in-Some.ensures) (sym c.in_default-u32_of.ensures) i.2

pub returns : goal.returns
returns c =
    let i = c.members.invariant in
    list_ends u32_at c.members.numbers i.0 c.members.rest.now (with_prefix c.args.numbers.now (others_at u32_at (length c.args.bytes.now) c.args.bytes.now)) (sym c.in_default.ensures) i.2
