use Rattle.std.proofs.Common.{rules, ◌≡◌, ◌≢◌, ◌<◌, ◌+◌, ◌-◌, length, get_or, sym, ap, subst, arith}
use Rattle.std.proofs.lemmas.Bool.{false≢true}
use Rattle.relationships.specs.declared.label.Label.{Label}
use Rattle.peering.specs.declared.partners.Link.{Link}
use Rattle.peering.specs.Chains.{chain}
use Rattle.peering.specs.Peerings.{NoPeers}
use Rattle.peering.proofs.Chaining.{peers_next, peer_here, none_left}
use Rattle.peering.proofs.partners.Partners.are_no_peers.Goals as goal

pub returns-then-eq : goal.returns-then-eq
returns-then-eq c =
    let links = c.self.inside.links.items in
    let link : Link = c.index-link.result.now in
    let i = c.loop-at.at - 1 in
    let test = c.loop-at-test.true in
    let within = c.loop-at.invariant.within in
    let at : c.loop-at.at ≡ i + 1 = omega (arith, test) in
    let lt : i < length links = omega (arith, test, within) in
    let peer : get_or c.args.labels.now link.partner Label.Low ≡ Label.Peer = search rules in (
      λ t. absurd (false≢true t),
      λ all. absurd (peer_here c.args.labels.now c.self.inside.heads.items links i link c.self.invariant lt
          (subst (λ (l : Link). get_or c.args.labels.now l.partner Label.Low ≡ Label.Peer) c.index-link.ensures peer)
          (subst (λ n. NoPeers c.args.labels.now (chain links n)) at (c.loop-at.invariant.same.1 all))),
    )

pub loop-at-preserved : goal.loop-at-preserved
loop-at-preserved c =
    let labels = c.args.labels.now in
    let links = c.self.inside.links.items in
    let link : Link = c.index-link.result.now in
    let i = c.loop-at.at - 1 in
    let test = c.loop-at-test.true in
    let inside = c.loop-at.invariant.within in
    let at : c.loop-at.at ≡ i + 1 = omega (arith, test) in
    let lt : i < length links = omega (arith, test, inside) in
    let apart : get_or labels link.partner Label.Low ≢ Label.Peer = search rules in
    let next = peers_next labels c.self.inside.heads.items links i link c.self.invariant lt
    (subst (λ (l : Link). get_or labels l.partner Label.Low ≢ Label.Peer) c.index-link.ensures apart) in
    let on = ap (λ (l : Link). l.next) c.index-link.ensures in
    let back = c.self.invariant.back i link lt in
    record {
      within = omega (arith, on, back, lt);
      same = (
        λ all. c.loop-at.invariant.same.0 (subst (λ n. NoPeers labels (chain links n)) (sym at) (next.1 (subst (λ n. NoPeers labels (chain links n)) on all))),
        λ all. subst (λ n. NoPeers labels (chain links n)) (sym on) (next.0 (subst (λ n. NoPeers labels (chain links n)) at (c.loop-at.invariant.same.1 all))),
      );
    }

pub returns : goal.returns
returns c =
    let links = c.self.inside.links.items in
    let test = c.loop-at-test.false in
    let end : 0 ≡ c.loop-at.at = omega (arith, test) in
    let none = c.loop-at.invariant.same.0 (subst (λ n. NoPeers c.args.labels.now (chain links n)) end (none_left c.args.labels.now links)) in (
      λ t. none,
      λ all. search rules,
    )
