use Rattle.std.proofs.Common.{◌≡◌, ◌∙◌, ap, ap₂, map, sym, subst, IfOk}
use Rattle.clap.specs.Words.{HasKind, app_of, fault_of, is_simple, is_simple_and_free, matches_of}
use Rattle.tor_words.proofs.Taken.{faulted, map-same}
use Rattle.tor_words.proofs.matching.matches_of.Goals as goal

pub returns-in-Ok-try_get_matches_from-clause-ok : goal.returns-in-Ok-try_get_matches_from-clause-ok
returns-in-Ok-try_get_matches_from-clause-ok c app plain held =
    let is : app_of c.in-Ok.command ≡ app = subst (λ r. IfOk r (λ k. app_of k ≡ app)) c.in-Ok.is held in
    let words : map (λ n. n) c.as_slice.result.now ≡ c.args.words.now = map-same c.as_slice.result.now ∙ c.as_slice.ensures in
    let parse = c.in-Ok-try_get_matches_from.ensures in
    record {
      faultless = ap₂ fault_of (sym is) (sym words) ∙ parse.kinds (ap is_simple_and_free is ∙ plain.free);
      found = (parse.matches (ap is_simple is ∙ plain.simple)).0 ∙ ap₂ matches_of is words;
    }

pub returns-in-Err-clause-err : goal.returns-in-Err-clause-err
returns-in-Err-clause-err c app plain held u =
    let is : app_of c.in-Ok.command ≡ app = subst (λ r. IfOk r (λ k. app_of k ≡ app)) c.in-Ok.is held in
    let words : map (λ n. n) c.as_slice.result.now ≡ c.args.words.now = map-same c.as_slice.result.now ∙ c.as_slice.ensures in
    let fails = c.in-Err.ensures.kinds (ap is_simple_and_free is ∙ plain.free) in
    faulted (fault_of app c.args.words.now) c.in-Err.error (subst (λ kinds. HasKind kinds c.in-Err.error) (ap₂ fault_of is words) fails) (c.refusal.ensures.why u)
