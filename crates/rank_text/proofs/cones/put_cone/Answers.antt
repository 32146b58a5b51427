use Rattle.std.proofs.Common.{◌≡◌, ◌∙◌, ℕ, List, get_or, ap, ap₂, refl}
use Rattle.std.proofs.lemmas.Option.{get_or_from_slice_get}
use Rattle.text_fields.specs.Joined.{row_text}
use Rattle.tor_io.proofs.Putting.{puts_as}
use Rattle.rank_text.proofs.cones.put_cone.Goals as goal

pub returns-clause-text : goal.returns-clause-text
returns-clause-text g c = λ rel a is at.
    let ases = c.args.cones.now.ases in
    let found = c.find.new.self.members in
    let names : c.ases.result.now ≡ ases = c.ases.ensures ∙ c.find.ensures.ases in
    let number : c.from.result ≡ a = c.from.ensures ∙ ap (λ xs. get_or xs c.args.place 0) names ∙ get_or_from_slice_get ases c.args.place a 0 at in
    let line = ap₂ (λ n (members : List ℕ). row_text n 32 32 members 10) number c.members.ensures in
    (record { of = a; members = found }, refl, c.find.ensures.cone rel a is at, puts_as c.put_row.ensures line)
