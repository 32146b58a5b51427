use Rattle.std.proofs.Common.{rules, ◌≤◌, ◌^◌}
use Rattle.std.proofs.lemmas.Fn.{always_returns_same}
use Rattle.std.proofs.lemmas.List.Sorted.{All-permutation}
use Rattle.std.specs.Int.RustNames.{unsigned_abs}
use Rattle.gao_prefs.specs.declared.preferring.Pref.{Pref}
use Rattle.gao_prefs.specs.Preferences.{key_of}
use Rattle.gao_prefs.proofs.PrefLemmas.{sorted_is}
use Rattle.gao_prefs.proofs.preferring.sort_by_lead.Goals as goal

pub returns-clause-sorted : goal.returns-clause-sorted
returns-clause-sorted c =
    sorted_is _ (All-permutation (λ (p : Pref). unsigned_abs p.lean ≤ 2 ^ 26) _ _ c.sort_unstable_by_key.ensures.permutation c.requires.small)
    (c.sort_unstable_by_key.ensures.sorted key_of (always_returns_same _ _ _ (λ a r q k. search rules)))
