use Rattle.std.proofs.Common.{◌≡◌, ◌+◌, ◌<◌, length, take, get_or, refl, ap, arith}
use Rattle.std.proofs.lemmas.Bool.{false≢true, both_ways}
use Rattle.std.proofs.lemmas.List.{get_or_default}
use Rattle.std.specs.Option.{option_copied}
use Rattle.relationships.specs.declared.walk.Link.{Link}
use Rattle.result_rules.specs.File.{its_givens}
use Rattle.line_rules.specs.Naming.{nameable}
use Rattle.line_rules.proofs.Linking.{fits_named, linked-from_index, index-from_linked, links_more}
use Rattle.line_rules.proofs.walks.links.is_walk.Goals as goal

abbrev no_link : Link
no_link = record { path = 0; at = 0 }

pub returns-then-ases-links : goal.returns-then-ases-links
returns-then-ases-links c = (
  λ t. absurd (false≢true t),
  λ f.
      let w = c.args.walk.now in
      let n = (index-from_linked (its_givens c.args.file.now)
      (nameable (take c.args.count c.args.file.now.paths) (option_copied c.args.next)) w.ases w.links f).0 in
      let a : length c.ases-ases.result.now ≡ length w.ases = ap length c.ases-ases.ensures in
      let l : length c.links-links.result.now ≡ length w.links = ap length c.links-links.ensures in
      absurd (omega arith),
)

pub returns-then-not-link_fits : goal.returns-then-not-link_fits
returns-then-not-link_fits c = (
  λ t. absurd (false≢true t),
  λ f.
      let w = c.args.walk.now in
      let l : length c.links-links.result.now ≡ length w.links = ap length c.links-links.ensures in
      let fits = (index-from_linked (its_givens c.args.file.now) (nameable (take c.args.count c.args.file.now.paths) (option_copied c.args.next)) w.ases w.links f).1
      c.loop-i.i no_link (omega arith) in
      let named = fits_named (its_givens c.args.file.now) (nameable (take c.args.count c.args.file.now.paths) (option_copied c.args.next)) (get_or c.links-links.result.now c.loop-i.i no_link)
      (option_copied c.path_named-path.result) (get_or c.ases-ases.result.now c.loop-i.i 0) (get_or c.ases-ases.result.now (c.loop-i.i + 1) 0) (get_or c.ases-ases.result.now (c.loop-i.i + 2) 0)
      c.path_named-path.ensures in
      absurd (both_ways c.link_fits.result c.if-not-link_fits.true (c.link_fits.ensures.1 (rw c.givens_of-givens.ensures (named.1 (rw (c.ases-ases.ensures, c.links-links.ensures) fits))))),
)

pub loop-i-preserved : goal.loop-i-preserved
loop-i-preserved c =
    let links = c.links-links.result.now in
    let within : c.loop-i.i < length links = omega arith in
    let named = fits_named c.givens_of-givens.result.now (nameable (take c.args.count c.args.file.now.paths) (option_copied c.args.next)) (get_or links c.loop-i.i no_link)
    (option_copied c.path_named-path.result) (get_or c.ases-ases.result.now c.loop-i.i 0) (get_or c.ases-ases.result.now (c.loop-i.i + 1) 0) (get_or c.ases-ases.result.now (c.loop-i.i + 2) 0)
    c.path_named-path.ensures in
    let fits = named.0 (c.link_fits.ensures.0 c.if-not-link_fits.false) in
    links_more (its_givens c.args.file.now) (nameable (take c.args.count c.args.file.now.paths) (option_copied c.args.next)) c.ases-ases.result.now links c.loop-i.i
    (get_or links c.loop-i.i no_link) c.loop-i.invariant within
    (get_or_default links c.loop-i.i no_link (get_or links c.loop-i.i no_link) within)
    (rw c.givens_of-givens.ensures at fits)

pub returns : goal.returns
returns c = (
  λ t.
      let w = c.args.walk.now in
      let h = linked-from_index (its_givens c.args.file.now) (nameable (take c.args.count c.args.file.now.paths) (option_copied c.args.next)) c.ases-ases.result.now c.links-links.result.now
      (omega arith)
      (λ k d lt. c.loop-i.invariant k d (omega arith)) in
      rw (c.ases-ases.ensures, c.links-links.ensures) at h,
  λ f. refl,
)
