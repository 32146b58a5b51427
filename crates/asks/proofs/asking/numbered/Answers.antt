use Rattle.std.proofs.Common.{◌∙◌, ◌∷◌, [], ◌++◌, Some, length, map, sym, ap, subst, arith}
use Rattle.std.specs.Prelude.{slice_get}
use Rattle.std.proofs.lemmas.List.{map-append, length-append}
use Rattle.std.proofs.lemmas.Option.{slice_get-get_or}
use Rattle.tor_arena.proofs.Gets.{take_item}
use Rattle.relationships.specs.declared.label.End.{End}
use Rattle.tor_clauses.specs.Literals.{node_of}
use Rattle.asks.specs.declared.ask.Ask.{Ask}
use Rattle.asks.specs.Arriving.{IsArrivalCount}
use Rattle.asks.proofs.Askings.{number_more}
use Rattle.asks.proofs.asking.numbered.Goals as goal

pub loop-place-preserved : goal.loop-place-preserved
loop-place-preserved c =
    let places = c.args.places.now in
    let counts = c.args.counts.now in
    let of = c.args.parts.now.of in
    let place = c.loop-place.place in
    let asks = c.loop-place.asks.items in
    let a : Ask = record { edge = c.index-places-place.result; if_low = c.leading_to.result; if_high = c.leading_to-in-loop-place.result } in
    let pushed = c.push_reserved.ensures.items in
    let many = c.loop-place.invariant.many in
    let lt = c.loop-place-test.true in
    record {
      edges = ap (map (λ (a : Ask). a.edge)) pushed ∙ map-append (λ (a : Ask). a.edge) asks (a ∷ []) ∙ ap (λ l. l ++ a.edge ∷ []) c.loop-place.invariant.edges ∙
          sym (take_item places place a.edge lt c.index-places-place.is);
      many = (let l = ap length pushed in let m = length-append asks (a ∷ []) in omega (arith, l, m, many));
      numbers = number_more of counts places asks c.push_reserved.new.self.items a c.loop-place.invariant.numbers pushed
          (ap (slice_get places) many ∙ slice_get-get_or places place a.edge lt ∙ ap Some (sym c.index-places-place.is))
          (λ net arrive. subst (λ k. IsArrivalCount net net.nodes (node_of (record { edge = k; over = End.High })) a.if_low) (sym many) (c.leading_to.ensures net arrive))
          (λ net arrive. subst (λ k. IsArrivalCount net net.nodes (node_of (record { edge = k; over = End.Low })) a.if_high) (sym many)
          (c.leading_to-in-loop-place.ensures net arrive));
      room = (let cap = c.push_reserved.ensures.capacity in let room = c.loop-place.invariant.room in omega (arith, cap, room));
    }
