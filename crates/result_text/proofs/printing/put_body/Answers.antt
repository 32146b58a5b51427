use Rattle.std.proofs.Common.{ap, map}
use Rattle.tor_io.proofs.Putting.{puts_as, puts_then}
use Rattle.result_text.specs.declared.line.Line.TheVariants as line
use Rattle.result_text.specs.Text.{text_of_lines}
use Rattle.result_text.proofs.Parts.{body_text}
use Rattle.result_text.proofs.printing.put_body.Goals as goal

pub returns : goal.returns
returns g c =
    let v = c.args.version in
    let edges = puts_as (c.put_edges.ensures v) (ap (λ xs. text_of_lines v (map (λ x. line.Edge x) xs)) c.as_slice.ensures) in
    let probes = puts_as (c.put_probes.ensures v) (ap (λ xs. text_of_lines v (map (λ x. line.Probe x) xs)) c.as_slice-2.ensures) in
    puts_as (puts_then (c.put_givens.ensures v) (puts_then c.put_paths.ensures (puts_then edges (puts_then c.put_whys.ensures (puts_then probes (c.put_end.ensures v)))))) (body_text c.args.file.now v)
