use Rattle.gao_prefs.proofs.OrderLemmas.{settled}
use Rattle.gao_prefs.proofs.preferring.prefs_in_order.Goals as goal

pub returns : goal.returns
returns c graph kept voted known =
    settled graph kept c.args.votes.now c.args.degrees.now c.in_ok-prefs.prefs.items c.sort_by_lead.new.prefs.items c.from_vec.result voted known
    c.in_ok-prefs.ensures.length c.in_ok-prefs.ensures.each c.sort_by_lead.ensures.same c.sort_by_lead.ensures.sorted c.from_vec.ensures
