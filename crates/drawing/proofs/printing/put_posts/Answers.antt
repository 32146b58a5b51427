use Rattle.std.proofs.Common.{sym, ap, arith}
use Rattle.std.specs.Prelude.{flat_map}
use Rattle.std.proofs.lemmas.List.{take_all}
use Rattle.tor_io.proofs.Putting.{puts_as, puts_then}
use Rattle.drawing.specs.Svg.{post_nodes}
use Rattle.drawing.specs.Xml.{nodes_text}
use Rattle.drawing.proofs.WellFormed.{more_text}
use Rattle.drawing.proofs.printing.put_posts.Goals as goal

pub loop-post-preserved : goal.loop-post-preserved
loop-post-preserved g c =
    puts_as (puts_then c.loop-post.invariant c.put_post.ensures) (sym (more_text (post_nodes c.args.link.now) c.args.posts.now c.loop-post.post-index _ c.loop-post-test.true))

pub returns : goal.returns
returns g c =
    puts_as c.loop-post.invariant
    (ap (λ xs. nodes_text (flat_map (post_nodes c.args.link.now) xs)) (take_all c.loop-post.post-index c.args.posts.now (omega (arith, c.loop-post-test.false))))
