-- When either order of two ASes is possible.
use Rattle.std.proofs.Common.{◌≡◌, ◌↔◌, ◌⊎◌, ℕ, inl, inr, Bool, true, false, IsTrue, refl, ap}
use Rattle.std.proofs.lemmas.Bool.{false≢true}
use Rattle.relationships.specs.declared.label.End.{End}
use Rattle.relationships.specs.declared.label.Label.{Label}
use Rattle.relationships.specs.Relationship.{Labelling, label_of, labels_of, is_low, is_high, is_over}
use Rattle.relationships.specs.Laws.Evidence.{changed}
use Rattle.relationships.proofs.Slopes.{over_parts, over-low, over-high}
use Rattle.relationships.proofs.Checked.{read, reading, reading_serves}
use Rattle.relationships.proofs.Closures.{closure_law}
use Rattle.telling.specs.Laws.Telling.{EitherLaw, PeersLaw}
use Rattle.telling.proofs.Decided.{decided}

-- a reading of labels has their orders
read_low : (e : End) (l : Label) → is_low l ≡ true → is_low (label_of (read e l)) ≡ true
read_low e Label.Low h = refl
read_low e Label.High h = absurd (false≢true h)
read_low e Label.Peer h = absurd (false≢true h)

read_high : (e : End) (l : Label) → is_high l ≡ true → is_high (label_of (read e l)) ≡ true
read_high e Label.Low h = absurd (false≢true h)
read_high e Label.High h = refl
read_high e Label.Peer h = absurd (false≢true h)

read_over : (e : End) (L : Labelling) (a b : ℕ) → is_over L a b ≡ true → is_over (labels_of (reading e L)) a b ≡ true
read_over e L a b o =
    elim (over_parts L a b o) [
      | inl p ↦ over-low (labels_of (reading e L)) a b p.0 (read_low e (L a b) p.1)
      | inr p ↦ over-high (labels_of (reading e L)) b a p.0 (read_high e (L b a) p.1)
    ]

-- a test for what is decided
abbrev test_of : {P : Type 0} → P ⊎ (P → ⊥) → Bool
test_of (inl p) = true
test_of (inr n) = false

test_exact : {P : Type 0} (d : P ⊎ (P → ⊥)) → IsTrue (test_of d) ↔ P
test_exact (inl p) = (λ t. p, λ q. refl)
test_exact (inr n) = (λ t. absurd (false≢true t), λ q. absurd (n q))

pub either_law : EitherLaw
either_law L paths over under a b differ free labelled consistent reached =
    let O = reading End.Low L in
    let serves = reading_serves End.Low L paths free in
    let found : ℕ → ℕ → Bool = λ y z. test_of (decided paths over under y z) in
    let law = closure_law O paths over under found differ consistent (λ y z. test_exact (decided paths over under y z)) serves in
    record {
      one = changed O found;
      one_serves = law.0;
      one_order = law.1 a b reached;
      other = O;
      other_serves = serves;
      other_order = read_over End.Low L b a labelled;
    }

pub peers_law : PeersLaw
peers_law L paths low high free lt peer = record {
  one = reading End.Low L;
  one_serves = reading_serves End.Low L paths free;
  one_order = over-low (labels_of (reading End.Low L)) low high lt (ap (λ l. is_low (label_of (read End.Low l))) peer);
  other = reading End.High L;
  other_serves = reading_serves End.High L paths free;
  other_order = over-high (labels_of (reading End.High L)) low high lt (ap (λ l. is_high (label_of (read End.High l))) peer);
}
