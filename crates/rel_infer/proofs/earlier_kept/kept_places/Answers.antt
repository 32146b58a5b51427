use Rattle.std.proofs.Common.{rules, ◌≡◌, ◌∙◌, ◌+◌, ◌++◌, ◌∷◌, ◌<◌, [], List, length, Some, slice_get, sym, ap, subst}
use Rattle.std.specs.Prelude.{All, option_map}
use Rattle.std.proofs.lemmas.List.Elements.{All-push}
use Rattle.relationships.specs.declared.fate.Fate.{Fate}
use Rattle.relationships.specs.Fates.{is_kept}
use Rattle.rel_infer.proofs.Keeping.{AreKeptBefore, kept_next, lost_next, line_at}
use Rattle.rel_infer.proofs.earlier_kept.kept_places.Goals as goal
use Rattle.rel_infer.proofs.earlier_kept.kept_places.Goals.{then-is_kept+in_ok-push, else-is_kept}

pub loop-place-preserved : goal.loop-place-preserved
loop-place-preserved c =
    let fates = c.args.rest.now.fates in
    let k = c.loop-place.place in
    let i = c.loop-place.invariant in
    let place : c.unwrap-path.result ≡ k = search rules in
    let within : k < length fates = search rules in
    let told = subst (λ n. option_map is_kept (slice_get fates n) ≡ Some c.is_kept.result) place c.is_kept.ensures in
    elim c.if-is_kept.branch [
      | then-is_kept+in_ok-push w ↦
          let pushed : c.if-is_kept.places ≡ c.loop-place.places ++ c.unwrap-path.result ∷ [] = search rules in
          let is = pushed ∙ ap (λ n. c.loop-place.places ++ n ∷ []) place in
          record {
            there = subst (All (λ path. path < length fates)) (sym is) (All-push (λ path. path < length fates) c.loop-place.places k i.there within);
            kept = λ graph file left begins.
                let line = line_at file.paths k c.is_kept.result (subst (λ (fs : List Fate). option_map is_kept (slice_get fs k) ≡ Some c.is_kept.result) left.fates told) in
                subst (AreKeptBefore graph file (k + 1)) (sym is)
                (kept_next graph file k line.0 line.1 c.loop-place.places begins (line.2 ∙ w.if-is_kept.true) (i.kept graph file left begins));
          }
      | else-is_kept w ↦ record {
        there = subst (All (λ path. path < length fates)) (sym w.places-is) i.there;
        kept = λ graph file left begins.
            let line = line_at file.paths k c.is_kept.result (subst (λ (fs : List Fate). option_map is_kept (slice_get fs k) ≡ Some c.is_kept.result) left.fates told) in
            subst (AreKeptBefore graph file (k + 1)) (sym w.places-is)
            (lost_next graph file k line.0 line.1 c.loop-place.places (line.2 ∙ w.if-is_kept.false) (i.kept graph file left begins));
      }
    ]
