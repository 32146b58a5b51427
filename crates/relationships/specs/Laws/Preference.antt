-- The preferred orientation, and the peerings that it is given.
-- Each law is proved as the contract of a function in src/laws/preference.rt.
use Rattle.std.specs.Prelude.{ℕ, List, All, Contains}
use Rattle.relationships.specs.declared.label.End.{End}
use Rattle.relationships.specs.Relationship.{Orientation, Labelling, labels_of, ValleyFree, Serves}
use Rattle.relationships.specs.Graph.{Edge, edges}
use Rattle.relationships.specs.Preference.{IsPreferred, IsRelabelled, NoneLeftOut}
use Rattle.relationships.specs.Selection.{IsServable}

-- where some orientation serves, the preferred one does
abbrev pub PreferenceLaw : Type 0
PreferenceLaw =
    (kept : List (List ℕ)) (wanted : Edge → End) (order : List Edge) (O : Orientation) → IsServable kept → IsPreferred kept wanted order O →
    ((e : Edge) → Contains (edges kept) e → Contains order e) → Serves O kept

-- the peerings leave each kept path valley-free
abbrev pub RelabellingLaw : Type 0
RelabellingLaw =
    (degree : ℕ → ℕ) (ratio : ℕ) (kept : List (List ℕ)) (es : List Edge) (O : Orientation) (last : Labelling) → Serves O kept →
    IsRelabelled degree ratio kept es (labels_of O) last → ((e : Edge) → Contains (edges kept) e → Contains es e) →
    All (ValleyFree last) kept

-- no further edge of a kept path, with ends alike in degree, could become a peering
abbrev pub MaximalLaw : Type 0
MaximalLaw =
    (degree : ℕ → ℕ) (ratio : ℕ) (kept : List (List ℕ)) (es : List Edge) (O : Orientation) (last : Labelling) →
    IsRelabelled degree ratio kept es (labels_of O) last → ((e : Edge) → Contains (edges kept) e → Contains es e) →
    NoneLeftOut degree ratio kept es last
