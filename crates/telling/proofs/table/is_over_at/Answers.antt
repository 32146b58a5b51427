use Rattle.std.proofs.Common.{refl, sym, ◌∙◌, arith}
use Rattle.std.proofs.lemmas.Bool.{false≢true}
use Rattle.std.proofs.lemmas.Option.{slice_get_within}
use Rattle.relationships.specs.Graph.{edge_of}
use Rattle.result_rules.specs.File.{its_labels}
use Rattle.telling.proofs.DownLemmas.{label_in, differ_in, over_if_down, not_over_up, not_over_flat}
use Rattle.telling.proofs.table.is_over_at.Goals as goal

pub index-requires : goal.index-requires
index-requires c =
    let lt = slice_get_within c.args.all.now.edges c.args.place (edge_of c.args.over c.args.under) c.requires.there in
    omega (arith, lt, c.requires.labels.many)

pub returns-in-Down : goal.returns-in-Down
returns-in-Down c =
    let file = c.args.file.now in
    let es = c.args.all.now.edges in
    let labels = c.args.all.now.labels.items in
    let a = c.args.over in
    let b = c.args.under in
    let its = label_in file c.requires.accepted es labels c.requires.labels a b c.args.place c.index.result.now c.requires.there in
    let goes = c.going_by.ensures (its_labels file) (differ_in file c.requires.accepted es labels c.requires.labels a b c.args.place c.requires.there) (sym (c.index.ensures ∙ its)) in
    (λ t. over_if_down (its_labels file) a b c.going_by.result goes c.in-Down.is, λ o. refl)

pub returns-in-Up : goal.returns-in-Up
returns-in-Up c =
    let file = c.args.file.now in
    let es = c.args.all.now.edges in
    let labels = c.args.all.now.labels.items in
    let a = c.args.over in
    let b = c.args.under in
    let its = label_in file c.requires.accepted es labels c.requires.labels a b c.args.place c.index.result.now c.requires.there in
    let goes = c.going_by.ensures (its_labels file) (differ_in file c.requires.accepted es labels c.requires.labels a b c.args.place c.requires.there) (sym (c.index.ensures ∙ its)) in
    (λ t. absurd (false≢true t), λ o. absurd (not_over_up (its_labels file) a b c.going_by.result goes c.in-Up.is o))

pub returns-in-Flat : goal.returns-in-Flat
returns-in-Flat c =
    let file = c.args.file.now in
    let es = c.args.all.now.edges in
    let labels = c.args.all.now.labels.items in
    let a = c.args.over in
    let b = c.args.under in
    let its = label_in file c.requires.accepted es labels c.requires.labels a b c.args.place c.index.result.now c.requires.there in
    let goes = c.going_by.ensures (its_labels file) (differ_in file c.requires.accepted es labels c.requires.labels a b c.args.place c.requires.there) (sym (c.index.ensures ∙ its)) in
    (λ t. absurd (false≢true t), λ o. absurd (not_over_flat (its_labels file) a b c.going_by.result goes c.in-Flat.is o))
