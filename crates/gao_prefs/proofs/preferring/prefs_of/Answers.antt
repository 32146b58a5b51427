use Rattle.std.proofs.Common.{◌≡◌, ◌+◌, ◌++◌, ◌∷◌, [], rules, ap, sym, ◌∙◌, subst}
use Rattle.relationships.specs.declared.label.End.{End}
use Rattle.gao_prefs.specs.Preferences.{IsPref}
use Rattle.gao_prefs.proofs.PrefLemmas.{ArePrefs, prefs_more}
use Rattle.gao_prefs.proofs.preferring.prefs_of.Goals as goal

pub pref_of-requires-clause-low : goal.pref_of-requires-clause-low
pref_of-requires-clause-low c = c.requires.small c.loop-place.place End.Low

pub pref_of-requires-clause-high : goal.pref_of-requires-clause-high
pref_of-requires-clause-high c = c.requires.small c.loop-place.place End.High

pub loop-place-preserved : goal.loop-place-preserved
loop-place-preserved c =
    let votes = c.args.votes.now in
    let degrees = c.args.degrees.now in
    let place = c.loop-place.place in
    let is : IsPref votes degrees place c.pref_of.result = search rules in
    let pushed : c.push_reserved.new.self.items ≡ c.loop-place.prefs.items ++ c.pref_of.result ∷ [] =
    c.push_reserved.ensures.items ∙ ap (λ l. l ++ c.pref_of.result ∷ []) c.reserve.ensures.items in
    subst (ArePrefs votes degrees (place + 1)) (sym pushed) (prefs_more votes degrees place c.loop-place.prefs.items c.pref_of.result c.loop-place.invariant c.pref_of.ensures.small is)
