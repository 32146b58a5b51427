use Rattle.std.proofs.Common.{take, sym, ap, ◌∙◌, subst, arith}
use Rattle.std.proofs.lemmas.List.{length-map, take_all}
use Rattle.std.proofs.lemmas.Option.{slice_get-get_or}
use Rattle.relationships.specs.Evidence.{IsTriple}
use Rattle.line_rules.specs.Flipping.{flipped, flipped_orders, IsBuilt, returns_on}
use Rattle.line_rules.specs.EdgeLines.{edges_of}
use Rattle.tor_arena.proofs.Gets.{take_get}
use Rattle.line_rules.proofs.Returns.{returns_more}
use Rattle.line_rules.proofs.marks.flipping.Flips.note_givens.Goals as goal

pub loop-given-preserved : goal.loop-given-preserved
loop-given-preserved c =
    let lines = c.args.labels.now in
    let es = edges_of lines in
    let givens = c.args.givens.now in
    let i = c.loop-given.given-index in
    let self = c.note_given.new.self in
    let taken = take_get givens i _ (slice_get-get_or givens i _ c.loop-given-test.true) in
    record {
      built = subst (λ ps. IsBuilt (flipped_orders lines) (IsTriple ps) self.implied self.conflicting) (sym (ap (returns_on es) taken ∙ returns_more es (take i givens) _))
          (c.in_ok-note_given.ensures.built (returns_on es (take i givens)) c.loop-given.invariant.built);
      noted = c.in_ok-note_given.ensures.noted;
    }

pub loop-given-init : goal.loop-given-init
loop-given-init c = record { built = c.requires.none; noted = c.requires.noted }

pub note_given-requires-clause-implied : goal.note_given-requires-clause-implied
note_given-requires-clause-implied c = c.loop-given.invariant.built.implied_many ∙ length-map c.args.labels.now flipped

pub note_given-requires-clause-conflicting : goal.note_given-requires-clause-conflicting
note_given-requires-clause-conflicting c = c.loop-given.invariant.built.conflicting_many ∙ length-map c.args.labels.now flipped

pub returns-clause-built : goal.returns-clause-built
returns-clause-built c =
    let lines = c.args.labels.now in
    let self = c.loop-given.self in
    let all = take_all c.loop-given.given-index c.args.givens.now (omega (arith, c.loop-given-test.false)) in
    subst (λ gs. IsBuilt (flipped_orders lines) (IsTriple (returns_on (edges_of lines) gs)) self.implied self.conflicting) all c.loop-given.invariant.built

pub note_given-requires-clause-few : goal.note_given-requires-clause-few
note_given-requires-clause-few c = c.requires.few

pub note_given-requires-clause-proper : goal.note_given-requires-clause-proper
note_given-requires-clause-proper c = c.requires.proper

pub note_given-requires-clause-table : goal.note_given-requires-clause-table
note_given-requires-clause-table c = c.requires.table

pub note_given-requires-clause-noted : goal.note_given-requires-clause-noted
note_given-requires-clause-noted c = c.loop-given.invariant.noted

pub returns-clause-noted : goal.returns-clause-noted
returns-clause-noted c = c.loop-given.invariant.noted
