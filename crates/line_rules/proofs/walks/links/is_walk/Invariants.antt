use Rattle.std.proofs.Common.{ℕ, ◌<◌, take}
use Rattle.std.specs.Option.{option_copied}
use Rattle.relationships.specs.declared.walk.Link.{Link}
use Rattle.result_rules.specs.File.{its_givens}
use Rattle.line_rules.specs.Naming.{nameable}
use Rattle.line_rules.proofs.Linking.{FitsAt}
use Rattle.line_rules.proofs.walks.links.is_walk.Given as goal

-- the links before this one fit
abbrev pub invariant-loop-i : goal.invariant-loop-i
invariant-loop-i l =
    (k : ℕ) (d : Link) → k < l.i → FitsAt (its_givens l.file) (nameable (take l.fn.count l.file.paths) (option_copied l.next)) l.ases l.links k d
