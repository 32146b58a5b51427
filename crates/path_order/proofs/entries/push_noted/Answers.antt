use Rattle.std.proofs.Common.{◌≡◌, ◌++◌, ◌∷◌, [], List, ℕ, OnOk, subst}
use Rattle.path_order.proofs.SizeLemmas.{entry_path}
use Rattle.path_order.proofs.entries.push_noted.Goals as goal

pub returns : goal.returns
returns c =
    subst (λ (path : List ℕ). OnOk c.push_path-2.result (c.push_path-2.new.paths ≡ c.args.paths.now ++ path ∷ []))
    (entry_path c.args.rows.now c.args.size c.args.entry.now c.requires c.if-size-gt7.false) c.push_path-2.ensures
