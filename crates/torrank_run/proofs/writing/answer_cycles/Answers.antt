use Rattle.std.proofs.Common.{refl}
use Rattle.rank_text.specs.RankText.{IsCyclesText, cycles_text}
use Rattle.torrank_run.proofs.Writings.{wrote_such}
use Rattle.torrank_run.proofs.writing.answer_cycles.Goals as goal

pub returns : goal.returns
returns g c = λ rel are is.
    let cycles = c.args.cycles.now.ases in
    let out = c.write_cycles.ensures rel is in
    wrote_such g.O.Sink (IsCyclesText rel) c.answer_of.result c.args.out.now c.write_cycles.new.out (cycles_text rel cycles) (cycles, are, refl)
    c.write_cycles.result out.0 out.1 out.2 c.answer_of.ensures.done c.answer_of.ensures.cut_off c.answer_of.ensures.note
