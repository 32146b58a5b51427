use Rattle.std.proofs.Common.{inl, inr, sym, ◌∙◌}
use Rattle.telling.proofs.DownLemmas.{low_high, peer_high, reads_over}
use Rattle.telling.proofs.table.over_at.Goals as goal

pub returns-in-High : goal.returns-in-High
returns-in-High c x y has =
    elim (reads_over c.args.file.now c.requires.accepted c.args.all.now.edges c.args.all.now.labels.items c.requires.labels c.args.place x y has c.edge-low.result.0
    c.edge-low.result.1 c.edge-low.ensures c.index.result.now) [
      | inl p ↦ absurd (low_high (sym p.0 ∙ sym c.index.ensures ∙ c.in-High.is))
      | inr p ↦ sym p.1
    ]

pub returns-in-Low : goal.returns-in-Low
returns-in-Low c x y has =
    elim (reads_over c.args.file.now c.requires.accepted c.args.all.now.edges c.args.all.now.labels.items c.requires.labels c.args.place x y has c.edge-low.result.0
    c.edge-low.result.1 c.edge-low.ensures c.index.result.now) [
      | inl p ↦ sym p.1
      | inr p ↦ absurd (low_high (sym c.in-Low.is ∙ c.index.ensures ∙ p.0))
    ]

pub returns-in-Peer : goal.returns-in-Peer
returns-in-Peer c x y has =
    elim (reads_over c.args.file.now c.requires.accepted c.args.all.now.edges c.args.all.now.labels.items c.requires.labels c.args.place x y has c.edge-low.result.0
    c.edge-low.result.1 c.edge-low.ensures c.index.result.now) [
      | inl p ↦ sym p.1
      | inr p ↦ absurd (peer_high (sym c.in-Peer.is ∙ c.index.ensures ∙ p.0))
    ]
