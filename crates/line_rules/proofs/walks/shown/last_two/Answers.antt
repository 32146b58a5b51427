use Rattle.std.proofs.Common.{◌≡◌, ◌+◌, ◌-◌, [], ◌∷◌, length, get_or, ap, ◌∙◌, arith}
use Rattle.line_rules.proofs.ShownOrders.{last_two-few, last_two-at}
use Rattle.line_rules.proofs.walks.shown.last_two.Goals as goal

pub returns-in_default : goal.returns-in_default
returns-in_default c = last_two-few c.args.ases.now c.in_default.len_below

pub returns-in-len2-up : goal.returns-in-len2-up
returns-in-len2-up c =
    let ases = c.args.ases.now in
    let e : length ases - 2 + 1 ≡ length ases - 1 = omega (arith, c.in-len2-up.len_at_least) in
    last_two-at ases (length ases - 2) (omega (arith, c.in-len2-up.len_at_least)) ∙ ap (λ i. (get_or ases (length ases - 2) 0, get_or ases i 0) ∷ []) e
