use Rattle.std.proofs.Common.{◌≡◌, ◌-◌, [], ◌∷◌, length, ap, ap₂, arith, codes}
use Rattle.std.specs.Prelude.{count_by}
use Rattle.tor_io.proofs.Putting.{puts_as}
use Rattle.rank_text.specs.RankText.{is_peering_line, is_transit_line, number_line}
use Rattle.rank_text.proofs.Items.{count_both}
use Rattle.rank_text.proofs.ranks.put_total.Goals as goal

pub returns : goal.returns
returns g c =
    let lines = c.args.lines.now in
    let transits = c.transits_in-transits.ensures.count in
    let both = count_both is_transit_line lines in
    let peerings : length lines - c.transits_in-transits.result ≡ count_by is_peering_line lines = omega (arith, transits, both) in
    puts_as c.put_line.ensures (ap₂ (λ n m. number_line (codes "ranks") (length c.args.ranks.now ∷ n ∷ m ∷ [])) transits peerings)
