use Rattle.std.proofs.Common.{◌≡◌, ◌∙◌, ◌⊎◌, ◌+◌, ◌<◌, ◌++◌, ◌∷◌, [], Bool, ℕ, List, Some, inl, inr, length, suc, refl, sym, ap, ap₂, subst, arith}
use Rattle.std.specs.Prelude.{slice_get}
use Rattle.tor_io.proofs.Putting.{puts_as, puts_none}
use Rattle.result_text.specs.declared.file.PathLine.{PathLine}
use Rattle.telling.specs.PathText.{AreFlagged, was_named, path_text}
use Rattle.telling.specs.WalkText.{if_there, numbered}
use Rattle.telling.proofs.NamingLemmas.{absent_path, naming_as, naming_no_path}
use Rattle.telling.proofs.steps.put_path.Goals as goal

pub returns-in_default : goal.returns-in_default
returns-in_default g c =
    let paths = c.args.file.now.paths in
    let link = c.args.link.now in
    let none = c.in_default.ensures in
    let absent : (link.path ≡ 0) ⊎ (length c.args.named.now < link.path) = elim none [ inl z ↦ inl z | inr o ↦ inr (omega (arith, o, c.requires)) ] in
    naming_as (naming_no_path c.args.named.now link.path absent (puts_none _))
    (λ before. absent_path (λ (line : PathLine). path_text (was_named before link.path) line.path link.at) paths link.path none) refl

pub returns : goal.returns
returns g c =
    let paths = c.args.file.now.paths in
    let link = c.args.link.now in
    let k = c.in-Some.path in
    let found = c.in-Some.ensures in
    let next : k + 1 ≡ link.path = omega (arith, found.0) in
    let line = c.get.result in
    let there : numbered paths link.path ≡ Some line = ap (numbered paths) found.0 ∙ c.get.ensures in
    record {
      puts = λ before are.
          let text = λ (line : PathLine). path_text (was_named before link.path) line.path link.at in
          puts_as c.put_path_text.ensures (
          ap₂ (λ b ases. path_text b ases link.at) (c.name-before.ensures.before before are ∙ ap (was_named before) next) c.path.ensures
          ∙ sym (ap (if_there text) there)
          );
      named = λ before are. subst (λ n. AreFlagged (before ++ n ∷ []) c.name-before.new.self) next (c.name-before.ensures.after before are);
      many = c.name-before.ensures.count;
    }
