use Rattle.std.proofs.Common.{subst, sym}
use Rattle.as_ranks.specs.Named.{IsNetOf}
use Rattle.rank_text.specs.RankText.{IsConesText}
use Rattle.torrank_run.proofs.Writings.{wrote_such}
use Rattle.torrank_run.proofs.writing.answer_cones.Goals as goal

pub returns : goal.returns
returns g c = λ rel is.
    let made = c.in-Ok-new in
    let net : IsNetOf rel made.cones.ases made.cones.graph =
    subst (λ xs. IsNetOf rel xs made.cones.graph) (sym made.ensures.ases) (subst (IsNetOf rel c.args.net.now.net.ases.items) (sym made.ensures.graph) is.is_net) in
    let out = c.write_cones.ensures rel net in
    wrote_such g.O.Sink (IsConesText rel) c.answer_of.result c.args.out.now c.write_cones.new.out out.0 out.1
    c.write_cones.result out.2 out.3 out.4 c.answer_of.ensures.done c.answer_of.ensures.cut_off c.answer_of.ensures.note
