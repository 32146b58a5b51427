use Rattle.std.proofs.Common.{◌≡◌, ◌++◌, subst, ap, ◌∙◌}
use Rattle.tor_sample.specs.Networks.{networks}
use Rattle.tor_sample.specs.Records.{peer_table, records}
use Rattle.tor_sample.proofs.Octets.{sample-is}
use Rattle.tor_sample.proofs.dump.sample.Goals as goal

pub returns : goal.returns
returns c =
    sample-is c.args.seed c.drawn.new.draws.state c.in_ok-networks.networks c.put_records.new.out
    (subst (λ s. networks 1990 s ≡ (c.in_ok-networks.networks, c.drawn.new.draws.state)) c.new-draws.ensures c.in_ok-networks.ensures.drawn)
    (c.in_ok-put_records.ensures
    ∙ ap (λ front. front ++ (records c.in_ok-networks.networks 20000 c.drawn.new.draws.state).0) (c.in_ok-put_peer_table.ensures ∙ ap (λ xs. xs ++ peer_table) c.new-octets.ensures))
