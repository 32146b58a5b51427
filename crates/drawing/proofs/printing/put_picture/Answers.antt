use Rattle.std.proofs.Common.{ap, sym}
use Rattle.std.specs.Prelude.{flat_map}
use Rattle.tor_io.proofs.Putting.{puts_as, puts_then}
use Rattle.drawing.specs.Svg.{band_nodes, item_nodes, link_nodes, post_nodes}
use Rattle.drawing.specs.Xml.{nodes_text}
use Rattle.drawing.proofs.WellFormed.{picture_parts}
use Rattle.drawing.proofs.printing.put_picture.Goals as goal

pub returns : goal.returns
returns g c =
    let bands = puts_as c.put_bands.ensures (ap (λ xs. nodes_text (flat_map band_nodes xs)) c.as_slice.ensures) in
    let items = puts_as c.put_items.ensures (ap (λ xs. nodes_text (flat_map (item_nodes c.args.link.now) xs)) c.as_slice-2.ensures) in
    let links = puts_as c.put_links.ensures (ap (λ xs. nodes_text (flat_map link_nodes xs)) c.as_slice-3.ensures) in
    let posts = puts_as c.put_posts.ensures (ap (λ xs. nodes_text (flat_map (post_nodes c.args.link.now) xs)) c.as_slice-4.ensures) in
    let above = puts_then links (puts_then posts c.put.ensures) in
    puts_as (puts_then c.put_start.ensures (puts_then c.put_head.ensures (puts_then bands (puts_then c.put_centre.ensures (puts_then items above)))))
    (sym (picture_parts c.args.link.now c.args.drawing.now))
