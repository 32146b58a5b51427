use Rattle.std.proofs.Common.{rules, ◌≡◌, ◌≢◌, ◌++◌, ◌∷◌, ◌∙◌, [], length, refl, ap, sym}
use Rattle.std.proofs.lemmas.Result.{IfOk-from_err}
use Rattle.as_graph.specs.Inside.{HasMoreAses}
use Rattle.as_graph.proofs.EdgeLemmas.{more_added, more_same}
use Rattle.as_graph.proofs.graph_edges.add_as.Goals as goal
use Rattle.as_graph.proofs.graph_edges.add_as.Goals.{then-place-len, else-place-len}

pub returns-in_err-reserve : goal.returns-in_err-reserve
returns-in_err-reserve c = record {
  each = ap length c.reserve.ensures.items ∙ c.requires;
  more = more_same _ _ _ _ refl c.reserve.ensures.items;
  place = IfOk-from_err c.from_residual.result _ c.from_residual.ensures.0;
}

pub returns-in_err-place : goal.returns-in_err-place
returns-in_err-place c =
    let kept = c.in_err-place.ensures.err in
    record {
      each = ap length c.reserve.ensures.items ∙ c.requires ∙ ap length (sym kept);
      more = more_same _ _ _ _ kept c.reserve.ensures.items;
      place = IfOk-from_err c.from_residual-in_err-place.result _ c.from_residual-in_err-place.ensures.0;
    }

pub returns : goal.returns
returns c =
    let ases = c.args.ases.now in
    let counts = c.args.counts.now.items in
    let place = c.in_ok-place.place in
    let count : c.len.result ≡ length counts = search rules in
    let both : HasMoreAses ases counts c.add.new.self c.if-place-len.counts.items × (length c.if-place-len.counts.items ≡ length c.add.new.self) =
    elim c.if-place-len.branch [
      | then-place-len w ↦
          let last : place ≡ length counts = w.if-place-len.true ∙ count in
          let pushed : c.if-place-len.counts.items ≡ counts ++ 0 ∷ [] =
          ap (λ v. v.items) w.counts-is ∙ w.push_reserved.ensures.items ∙ ap (λ ns. ns ++ 0 ∷ []) c.reserve.ensures.items in
          more_added ases counts c.add.new.self c.if-place-len.counts.items c.args.a place c.requires c.in_ok-place.ensures.ok c.in_ok-place.ensures.place
          (λ e. pushed) (λ ne. absurd (ne last))
      | else-place-len w ↦
          let not_last : place ≢ length counts = λ e. w.if-place-len.false (e ∙ sym count) in
          let kept : c.if-place-len.counts.items ≡ counts = ap (λ v. v.items) w.counts-is ∙ c.reserve.ensures.items in
          more_added ases counts c.add.new.self c.if-place-len.counts.items c.args.a place c.requires c.in_ok-place.ensures.ok c.in_ok-place.ensures.place
          (λ e. absurd (not_last e)) (λ ne. kept)
    ] in
    record { each = both.1; more = both.0; place = search rules }
