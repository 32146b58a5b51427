use Rattle.std.proofs.Common.{◌≡◌, false, ap, sym, subst, ◌∙◌, ◌∷◌}
use Rattle.std.specs.List.{fold, flat_map, before_first, list_any}
use Rattle.path_segments.specs.PathOf.{is_confed}
use Rattle.path_segments.specs.declared.as_path.Segment.{Segment}
use Rattle.path_merge.specs.Merging.{is_mixed_set, ases_of}
use Rattle.path_merge.specs.Merging.{merged_behind, GoesBehind}
use Rattle.path_merge.proofs.MergeLemmas.{one_segment, none_mixed, none_confed, goes-behind, goes-on}
use Rattle.path_merge.proofs.merging.append_segments.Goals as goal

pub segments-preserved : goal.segments-preserved
segments-preserved c =
    let s : Segment = c.in-Some.segment in
    let behind = c.next.new.self in
    let old = c.segments.numbers.items in
    let new = c.append_segment.new.numbers.items in
    let put = c.in_ok-append_segment.ensures in
    let outside : is_confed s.kind ≡ false = sym (c.is_confed.ensures ∙ ap is_confed c.kind.ensures) ∙ c.if-is_confed.false in
    let plain : is_mixed_set s ≡ false = sym c.has_mixed_set.ensures ∙ c.if-has_mixed_set.false in
    let first : c.segments.left ≡ s ∷ behind = c.in-Some.ensures in (
      one_segment c.args.start old new s behind plain put
          ∙ ap (λ left. fold (merged_behind c.args.start) old (flat_map ases_of (before_first is_mixed_set left))) (sym first) ∙ c.segments.invariant.0,
      none_mixed s behind plain ∙ ap (list_any is_mixed_set) (sym first) ∙ c.segments.invariant.1,
      none_confed s behind outside ∙ ap (list_any (λ segment. is_confed segment.kind)) (sym first) ∙ c.segments.invariant.2,
      goes-on c.args.numbers.now.items old new c.segments.invariant.3 (subst (GoesBehind old) (sym put) (goes-behind c.args.start old (ases_of s))),
    )
