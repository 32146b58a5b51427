-- What clap's clauses say of a command.
use Rattle.std.proofs.Common.{◌≡◌, ◌≢◌, ◌∙◌, List, [], ◌∷◌, map, refl, ap, ap₂, sym, inl, inr, IfOk, IfErr}
use Rattle.std.proofs.lemmas.Result.{IfOk-weaker, IfErr-weaker}
use Rattle.std.specs.Prelude.{Option, Some, None, Result}
use Rattle.clap.specs.Words.{App, Kinds, HasKind, Row, Text, fault_of, kind_of, matches_of}
use Rattle.clap.specs.declared.error.Error.{Error}
use Rattle.clap.specs.declared.error.kind.ErrorKind.TheVariants as kind
use Rattle.clap.proofs.OnLiterals.{clap_on_literals}
use Rattle.tor_words.specs.Given.{unless_fault}
use Rattle.tor_words.specs.declared.refused.WordsRefused.{WordsRefused}
use Rattle.tor_words.specs.Refused.{IsUsage}
use Rattle.tor_words.specs.Matching.{IsPlain, IsTaken}
use Rattle.tor_words.specs.TorCommand.{tor_command}
use Rattle.tor_words.specs.TorcheckCommand.{torcheck_command}
use Rattle.tor_words.specs.TorgradeCommand.{torgrade_command}
use Rattle.tor_words.specs.TorviewCommand.{torview_command}
use Rattle.tor_words.specs.TorwhyCommand.{torwhy_command}

-- ---- each command is one of which clap's clauses say everything

pub tor-is_plain : IsPlain tor_command
unfolding clap_on_literals tor_command
tor-is_plain = record { simple = refl; free = refl }

pub torcheck-is_plain : IsPlain torcheck_command
unfolding clap_on_literals torcheck_command
torcheck-is_plain = record { simple = refl; free = refl }

pub torgrade-is_plain : IsPlain torgrade_command
unfolding clap_on_literals torgrade_command
torgrade-is_plain = record { simple = refl; free = refl }

pub torview-is_plain : IsPlain torview_command
unfolding clap_on_literals torview_command
torview-is_plain = record { simple = refl; free = refl }

pub torwhy-is_plain : IsPlain torwhy_command
unfolding clap_on_literals torwhy_command
torwhy-is_plain = record { simple = refl; free = refl }

-- ---- words

pub map-same : (xs : List Text) → map (λ x. x) xs ≡ xs
map-same [] = refl
map-same (x ∷ xs) = ap (λ rest. x ∷ rest) (map-same xs)

pub faulted : (kinds : Kinds) (e : Error) → HasKind kinds e → kind_of e ≢ kind.OutOfMemory → kinds ≢ []
faulted [] e fails other = elim fails [
  | inl memory ↦ absurd (other memory)
  | inr among ↦ absurd among
]
faulted (k ∷ kinds) e fails other = λ same. cc

-- a command that takes the words gives what is in the rows
pub given-taken : {X : Type 0} (command : App) (read : List Row → Option X) (words : List Text) (rows : List Row) → IsTaken command words rows
    → unless_fault (fault_of command words) (read (matches_of command words)) ≡ read rows
given-taken command read words rows taken = ap₂ (λ k r. unless_fault k (read r)) taken.faultless (sym taken.found)

-- so what the rows give is what the words give
pub given-ok : {X E : Type 0} (command : App) (read : List Row → Option X) (words : List Text) (rows : List Row) (result : Result X E) → IsTaken command words rows
    → IfOk result (λ s. read rows ≡ Some s) → IfOk result (λ s. unless_fault (fault_of command words) (read (matches_of command words)) ≡ Some s)
given-ok command read words rows result taken held = IfOk-weaker result _ _ (λ s is. given-taken command read words rows taken ∙ is) held

-- and where they give nothing, the words give nothing
pub given-err : {X : Type 0} (command : App) (read : List Row → Option X) (words : List Text) (rows : List Row) (result : Result X WordsRefused)
    → IsTaken command words rows → IfErr result (λ e. IsUsage e → read rows ≡ None)
    → IfErr result (λ e. IsUsage e → unless_fault (fault_of command words) (read (matches_of command words)) ≡ None)
given-err command read words rows result taken held =
    IfErr-weaker result _ _ (λ e is usage. given-taken command read words rows taken ∙ is usage) held

-- one that refuses them gives nothing
pub given-refused : {X : Type 0} (kinds : Kinds) (settings : Option X) → kinds ≢ [] → unless_fault kinds settings ≡ None
given-refused [] settings some = absurd (some refl)
given-refused (k ∷ kinds) settings some = refl
