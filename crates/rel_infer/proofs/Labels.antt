-- Labels, from preferences, an orientation and peerings.
use Rattle.std.proofs.Common.{◌≡◌, ℕ, List, sym, subst}
use Rattle.relationships.specs.declared.label.End.{End}
use Rattle.relationships.specs.declared.label.Label.{Label}
use Rattle.relationships.specs.Relationship.{labels_of}
use Rattle.relationships.specs.Graph.{Edge, edges, degree, labelling, orientation}
use Rattle.relationships.specs.Preference.{IsPreferred, IsRelabelled, wanted}
use Rattle.as_graph.specs.Paths.{paths_at}
use Rattle.gao_prefs.specs.declared.preferring.Pref.{Pref}
use Rattle.gao_prefs.specs.Preferences.{AreInOrder, HaveWanted, edges_preferred}
use Rattle.tor_orient.specs.Wishes.{AreWishes}
use Rattle.rel_infer.specs.Finding.{AreLabelsBy}

pub labels_from : (ratio : ℕ) (graph : List (List ℕ)) (places kept served counted : List ℕ) (prefs read : List Pref) (ends : List End) (labels : List Label) →
    kept ≡ places → served ≡ places → read ≡ prefs → AreInOrder graph counted prefs → HaveWanted graph counted prefs →
    ((wanted : Edge → End) → AreWishes (edges graph) read wanted → IsPreferred (paths_at graph served) wanted (edges_preferred (edges graph) read) (orientation (edges graph) ends)) →
    IsRelabelled (degree graph) ratio (paths_at graph kept) (edges graph) (labels_of (orientation (edges graph) ends)) (labelling (edges graph) labels) →
    AreLabelsBy (degree graph) ratio (edges graph) (paths_at graph places) (paths_at graph counted) (labelling (edges graph) labels)
labels_from ratio graph places kept served counted prefs read ends labels same_kept same_served same_read order wants wishes relabelled =
    let es = edges graph in
    let O = orientation es ends in
    let by = wanted (degree graph) (paths_at graph counted) in
    let first : IsPreferred (paths_at graph served) by (edges_preferred es read) O = wishes by (subst (λ (l : List Pref). AreWishes es l by) (sym same_read) wants) in
    let second : IsPreferred (paths_at graph places) by (edges_preferred es read) O = subst (λ ps. IsPreferred (paths_at graph ps) by (edges_preferred es read) O) same_served first in
    record {
      order = edges_preferred es prefs;
      settling = order;
      providers = O;
      preferred = subst (λ (l : List Pref). IsPreferred (paths_at graph places) by (edges_preferred es l) O) same_read second;
      relabelled = subst (λ ps. IsRelabelled (degree graph) ratio (paths_at graph ps) es (labels_of O) (labelling es labels)) same_kept relabelled;
    }
