use Rattle.std.proofs.Common.{◌∙◌, ◌++◌, append_assoc, ap, sym}
use Rattle.std.specs.Fmt.{decimal}
use Rattle.std.proofs.lemmas.List.{append-nil}
use Rattle.tor_io.proofs.Putting.{puts_as, puts_then}
use Rattle.drawing.specs.Svg.{address, xml_character}
use Rattle.drawing.proofs.Addresses.{at_end, at_place, put_other}
use Rattle.drawing.proofs.printing.put_address.Goals as goal

pub parts-preserved-in-Some-after : goal.parts-preserved-in-Some-after
parts-preserved-in-Some-after g c =
    let put = c.parts.invariant.0 in
    let a = c.args.number in
    let rest = c.in-Some-after.behind.now in (
      put ++ decimal a,
      puts_then c.parts.invariant.1 (puts_as c.put_number.ensures (ap decimal c.from.ensures)),
      append_assoc put (decimal a) (address rest a) ∙ ap (λ t. put ++ t) (sym (at_place c.parts.rest.now rest a (sym c.in-Some-after.ensures))) ∙ c.parts.invariant.2,
    )

pub parts-preserved : goal.parts-preserved
parts-preserved g c =
    let put = c.parts.invariant.0 in
    let a = c.args.number in
    let octet = c.in-Some.octet.now in
    let rest = c.in-Some.others.now in (
      put ++ xml_character octet,
      puts_then c.parts.invariant.1 c.put_written.ensures,
      append_assoc put (xml_character octet) (address rest a)
          ∙ ap (λ t. put ++ t) (sym (put_other c.parts.rest.now octet rest a c.in-Some.ensures.cases.0 (sym c.in-None.ensures))) ∙ c.parts.invariant.2,
    )

pub returns : goal.returns
returns g c =
    let put = c.parts.invariant.0 in
    puts_as c.parts.invariant.1
    (sym (append-nil put) ∙ ap (λ t. put ++ t) (at_end c.parts.rest.now c.args.number c.in_default.ensures.cases) ∙ c.parts.invariant.2)
