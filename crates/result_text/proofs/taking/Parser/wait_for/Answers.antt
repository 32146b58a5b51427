use Rattle.result_text.proofs.Pieces.{waits}
use Rattle.result_text.proofs.taking.Parser.wait_for.Goals as goal

pub returns : goal.returns
returns c = λ before taken. rw c.in_ok-extend_from_slice.ensures.ok (waits c.args.self.now c.args.octets.now before c.requires taken)
