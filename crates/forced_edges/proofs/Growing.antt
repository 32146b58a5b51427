-- Lists of claims and probes that grow by one.
use Rattle.std.proofs.Common.{◌≡◌, ℕ, zero, suc, ◌⊎◌, inl, inr, List, [], ◌∷◌, ◌++◌, Some, refl, sym, ap, ◌∙◌, subst, append_assoc, append-nil}
use Rattle.std.specs.Prelude.{slice_get, Any, Contains}
use Rattle.relationships.specs.declared.label.Label.{Label}
use Rattle.relationships.specs.Graph.{Edge}
use Rattle.relationships.specs.Checking.{Claim, IsProbe, ProbesFrom}
use Rattle.tor_digraph.proofs.Members.{Contains-more, Contains-last, Contains-one_more}
use Rattle.relationships.specs.declared.mark.Mark.{Mark}
use Rattle.relationships.specs.Marking.{claim_of, claims_of}

-- ---- members

pub Any-of : {X : Type 0} (P : X → Type 0) (xs : List X) (x : X) → Contains xs x → P x → Any P xs
Any-of P xs x h p = (h.0, x, h.1, h.2, p)

pub Any-more : {X : Type 0} (P : X → Type 0) (xs ys : List X) → Any P xs → Any P (xs ++ ys)
Any-more P xs ys h = Any-of P (xs ++ ys) h.1 (Contains-more xs ys h.1 (h.0, h.2, h.3)) h.4

pub Any-last : {X : Type 0} (P : X → Type 0) (xs : List X) (x : X) → P x → Any P (xs ++ x ∷ [])
Any-last P xs x p = Any-of P (xs ++ x ∷ []) x (Contains-last xs x) p

pub Any-one_more : {X : Type 0} (P : X → Type 0) (xs : List X) (y : X) → Any P (xs ++ y ∷ []) → Any P xs ⊎ P y
Any-one_more P xs y h =
    elim (Contains-one_more xs y h.1 (h.0, h.2, h.3)) [ inl old ↦ inl (Any-of P xs h.1 old h.4) | inr new ↦ inr (subst P new h.4) ]

-- ---- claims

-- the claim at a place is of the edge there, with its label
pub claim_at : (es : List Edge) (labels : List Label) (marks : List Mark) (k : ℕ) (c : Claim) → slice_get (claims_of es labels marks) k ≡ Some c →
    (slice_get es k ≡ Some (c.low, c.high)) × (slice_get labels k ≡ Some c.label)
claim_at [] labels marks k c at = absurd (cc at)
claim_at (e ∷ es) [] marks k c at = absurd (cc at)
claim_at (e ∷ es) (l ∷ labels) [] k c at = absurd (cc at)
claim_at (e ∷ es) (l ∷ labels) (m ∷ marks) zero c at =
    let same : claim_of e l m ≡ c = cc at in
    subst (λ (d : Claim). (Some e ≡ Some (d.low, d.high)) × (Some l ≡ Some d.label)) same (refl, refl)
claim_at (e ∷ es) (l ∷ labels) (m ∷ marks) (suc k) c at = claim_at es labels marks k c at

-- and with its mark
pub claim_parts : (es : List Edge) (labels : List Label) (marks : List Mark) (k : ℕ) (c : Claim) → slice_get (claims_of es labels marks) k ≡ Some c →
    (mark : Mark) × (slice_get marks k ≡ Some mark) × (c ≡ claim_of (c.low, c.high) c.label mark)
claim_parts [] labels marks k c at = absurd (cc at)
claim_parts (e ∷ es) [] marks k c at = absurd (cc at)
claim_parts (e ∷ es) (l ∷ labels) [] k c at = absurd (cc at)
claim_parts (e ∷ es) (l ∷ labels) (m ∷ marks) zero c at =
    let same : claim_of e l m ≡ c = cc at in
    (m, refl, subst (λ (d : Claim). d ≡ claim_of (d.low, d.high) d.label m) same refl)
claim_parts (e ∷ es) (l ∷ labels) (m ∷ marks) (suc k) c at = claim_parts es labels marks k c at

-- the edge at a place has its claim there
pub claims_have : (es : List Edge) (labels : List Label) (marks : List Mark) (k : ℕ) (e : Edge) (label : Label) (mark : Mark) → slice_get es k ≡ Some e →
    slice_get labels k ≡ Some label → slice_get marks k ≡ Some mark → slice_get (claims_of es labels marks) k ≡ Some (claim_of e label mark)
claims_have [] labels marks k e label mark at there is = absurd (cc at)
claims_have (f ∷ es) [] marks k e label mark at there is = absurd (cc there)
claims_have (f ∷ es) (l ∷ labels) [] k e label mark at there is = absurd (cc is)
claims_have (f ∷ es) (l ∷ labels) (m ∷ marks) zero e label mark at there is =
    let one : f ≡ e = cc at in
    let two : l ≡ label = cc there in
    let three : m ≡ mark = cc is in
    ap (λ (g : Edge). Some (claim_of g l m)) one ∙ ap (λ (g : Label). Some (claim_of e g m)) two ∙ ap (λ (g : Mark). Some (claim_of e label g)) three
claims_have (f ∷ es) (l ∷ labels) (m ∷ marks) (suc k) e label mark at there is = claims_have es labels marks k e label mark at there is

-- ---- probes

module _ (kept : List (List ℕ)) where
  pub ProbesFrom-push : (claims : List Claim) (earlier probes : List (ℕ × ℕ)) (p : ℕ × ℕ) → ProbesFrom kept claims earlier probes →
      IsProbe kept claims (earlier ++ probes) p → ProbesFrom kept claims earlier (probes ++ p ∷ [])
  ProbesFrom-push claims earlier [] p h is = (subst (λ l. IsProbe kept claims l p) (append-nil earlier) is, tt)
  ProbesFrom-push claims earlier (q ∷ probes) p h is = (
    h.0,
    ProbesFrom-push claims (earlier ++ q ∷ []) probes p h.1 (subst (λ l. IsProbe kept claims l p) (sym (append_assoc earlier (q ∷ []) probes)) is),
  )
