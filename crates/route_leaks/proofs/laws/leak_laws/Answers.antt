use Rattle.route_leaks.proofs.Explaining.{lost_leak_law, refuted_leak_law, stays_leak_law}
use Rattle.route_leaks.proofs.laws.leak_laws.Goals as goal

pub returns : goal.returns
returns c = record { refuted = refuted_leak_law; lost = lost_leak_law; stays = stays_leak_law }
