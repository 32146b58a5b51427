use Rattle.std.proofs.Common.{rules, ◌≡◌, ◌∙◌, List, map, replicate, ap₂}
use Rattle.peering.specs.declared.partners.Link.{Link}
use Rattle.peering.specs.Chains.{chain}
use Rattle.peering.proofs.Chaining.{no_chains}
use Rattle.peering.proofs.partners.Partners.new.Goals as goal

pub returns : goal.returns
returns c =
    let heads : c.resize.new.self.items ≡ replicate c.args.count 0 = search rules in
    let links = c.new.ensures.items in
    ap₂ (λ (l : List Link) h. map (chain l) h) links heads ∙ no_chains c.args.count
