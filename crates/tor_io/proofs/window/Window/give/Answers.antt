use Rattle.std.proofs.Common.{rules}
use Rattle.tor_io.proofs.Windows.{window_left}
use Rattle.tor_io.proofs.window.Window.give.Goals as goal

pub returns-clause-left : goal.returns-clause-left
returns-clause-left c = search (rules, window_left)
