use Rattle.std.proofs.Common.{◌≡◌, ℕ, inl, inr, refl, sym, ap, ◌∙◌, subst, arith, Contains}
use Rattle.std.specs.Prelude.{slice_get}
use Rattle.std.proofs.lemmas.Bool.{cases_lt}
use Rattle.std.proofs.lemmas.Option.{same_Some, slice_get_within}
use Rattle.tor_digraph.proofs.Spreadings.{stays_contained}
use Rattle.tor_digraph.proofs.Members.{read-at}
use Rattle.order_trials.proofs.showing.Shown.show_heads.Goals as goal

pub loop-entry-init : goal.loop-entry-init
loop-entry-init c = record {
  showing = c.requires.showing;
  kept = λ k x at. at;
  heads = λ j e lt. absurd (omega (arith, lt));
}

pub show_head-requires-clause-there : goal.show_head-requires-clause-there
show_head-requires-clause-there c =
    let row = c.row-entry-items.result.now in
    let e = c.entry-item.result in
    let at = read-at row row c.loop-entry.entry-index e refl c.entry-item.is c.loop-entry-test.true in
    let arc = c.row-entry-items.ensures.only c.loop-entry.entry-index e at in
    c.facts.ensures.inside.heads e.0 c.args.tail e.1 arc

pub show_head-requires-clause-tail : goal.show_head-requires-clause-tail
show_head-requires-clause-tail c =
    let row = c.row-entry-items.result.now in
    let e = c.entry-item.result in
    let at = read-at row row c.loop-entry.entry-index e refl c.entry-item.is c.loop-entry-test.true in
    let arc = c.row-entry-items.ensures.only c.loop-entry.entry-index e at in (
      c.args.tail,
      arc,
      stays_contained c.args.self.now.nodes.items c.loop-entry.self.nodes.items c.loop-entry.invariant.kept c.args.tail c.requires.tail,
      c.order-order.ensures,
    )

pub loop-entry-preserved : goal.loop-entry-preserved
loop-entry-preserved c =
    let row = c.row-entry-items.result.now in
    let e = c.entry-item.result in
    let at = read-at row row c.loop-entry.entry-index e refl c.entry-item.is c.loop-entry-test.true in
    record {
      showing = c.in_ok-show_head.ensures.showing;
      kept = λ k x at-k. c.in_ok-show_head.ensures.kept k x (c.loop-entry.invariant.kept k x at-k);
      heads = λ j d lt at-d. elim (cases_lt j c.loop-entry.entry-index) [
        | inl less ↦ stays_contained c.loop-entry.self.nodes.items c.show_head.new.self.nodes.items c.in_ok-show_head.ensures.kept d.1 (c.loop-entry.invariant.heads j d less at-d)
        | inr le ↦
            let is : j ≡ c.loop-entry.entry-index = omega (arith, lt, le) in
            let same : ◌≡◌ {A = ℕ × ℕ} e d = same_Some e d (sym at ∙ ap (slice_get row) (sym is) ∙ at-d) in
            subst (λ (p : ℕ × ℕ). Contains c.show_head.new.self.nodes.items p.1) same c.in_ok-show_head.ensures.added
      ];
    }

pub returns-clause-heads : goal.returns-clause-heads
returns-clause-heads c = λ y h.
    let row = c.row-entry-items.result.now in
    let test = c.loop-entry-test.false in
    let end = c.loop-entry.auto.entry-index-end in
    let w = c.row-entry-items.ensures.each h.0 y h.1 in
    let lt = slice_get_within row w.0 (w.1, y) w.2 in
    c.loop-entry.invariant.heads w.0 (w.1, y) (omega (arith, lt, test, end)) w.2
