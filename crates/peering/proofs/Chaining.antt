-- Chains of links.
use Rattle.std.proofs.Common.{◌≡◌, ◌≢◌, ◌↔◌, ℕ, zero, suc, ◌+◌, ◌<◌, ◌≤◌, inl, inr, List, [], ◌∷◌, ◌++◌, length, get_or, take, drop, map, reverse, replicate, set, refl, sym, ap, ap₂, ◌∙◌, subst}
use Rattle.std.proofs.Common.{arith, All}
use Rattle.std.proofs.Common.{eq-eqb}
use Rattle.std.proofs.lemmas.Bool.{ne_eqb, cases_lt}
use Rattle.std.proofs.lemmas.List.{length-reverse, reverse-append, take_more, take-append-drop, map-set, get_or-map, get_or_append_left, get_or_at, length-take, length-set, length-append}
use Rattle.std.proofs.lemmas.List.Elements.{All-push, All-set, All-weaker, All-nil, All-cons, All-head, All-tail}
use Rattle.peering.specs.declared.partners.Link.{Link}
use Rattle.relationships.specs.declared.label.Label.{Label}
use Rattle.peering.specs.Peerings.{NoPeers}
use Rattle.peering.specs.Chains.{chain_in, chain, AreChains}

-- links behind those up to a place change nothing
skipped : (later earlier : List Link) (at : ℕ) → at ≤ length earlier → chain_in (later ++ earlier) at ≡ chain_in earlier at
skipped [] earlier at le = refl
skipped (link ∷ later) earlier at le =
    let many = length-append later earlier in
    rw (ne_eqb at (length (later ++ earlier) + 1) (λ e. absurd (omega (arith, e, le, many)))) (skipped later earlier at le)

here : (link : Link) (links : List Link) (at : ℕ) → at ≡ length links + 1 → chain_in (link ∷ links) at ≡ link.partner ∷ chain_in links link.next
here link links at e = rw (eq-eqb at (length links + 1) e) refl

-- only the links up to the place are read
short : (links : List Link) (n at : ℕ) → n ≤ length links → at ≤ n → chain links at ≡ chain (take n links) at
short links n at le at_le =
    ap (λ l. chain_in (reverse l) at) (sym (take-append-drop n links)) ∙ ap (λ l. chain_in l at) (reverse-append (take n links) (drop n links)) ∙
    skipped (reverse (drop n links)) (reverse (take n links)) at (let many = length-reverse (take n links) in let short = length-take n links in omega (arith, many, short, le, at_le))

-- what the chain holds from a link on
pub chain_at : (links : List Link) (i : ℕ) (d : Link) → i < length links → (get_or links i d).next ≤ i → chain links (i + 1) ≡ (get_or links i d).partner ∷ chain links (get_or links i d).next
chain_at links i d lt le =
    short links (i + 1) (i + 1) (omega (arith, lt)) (omega arith) ∙ ap (λ l. chain l (i + 1)) (take_more links i d lt) ∙
    ap (λ l. chain_in l (i + 1)) (reverse-append (take i links) (get_or links i d ∷ [])) ∙
    here (get_or links i d) (reverse (take i links)) (i + 1) (let many = length-reverse (take i links) in let short = length-take i links in omega (arith, many, short, lt)) ∙
    ap (λ l. (get_or links i d).partner ∷ l) (sym (short links i (get_or links i d).next (omega (arith, lt)) le))

pub chain_end : (links : List Link) → chain links 0 ≡ []
chain_end links = go (reverse links)
  where
    go : (links : List Link) → chain_in links 0 ≡ []
    go [] = refl
    go (link ∷ links) = rw (ne_eqb 0 (length links + 1) (λ e. absurd (omega (arith, e)))) (go links)

pub no_chains : (n : ℕ) → map (chain []) (replicate n 0) ≡ replicate n []
no_chains zero = refl
no_chains (suc n) = ap (λ l. [] ∷ l) (no_chains n)

-- one link more
chain_same : (links : List Link) (link : Link) (at : ℕ) → at ≤ length links → chain (links ++ link ∷ []) at ≡ chain links at
chain_same links link at le =
    ap (λ l. chain_in l at) (reverse-append links (link ∷ [])) ∙ skipped (link ∷ []) (reverse links) at (let many = length-reverse links in omega (arith, many, le))

chain_new : (links : List Link) (link : Link) → chain (links ++ link ∷ []) (length links + 1) ≡ link.partner ∷ chain links link.next
chain_new links link =
    ap (λ l. chain_in l (length links + 1)) (reverse-append links (link ∷ [])) ∙ here link (reverse links) (length links + 1) (let many = length-reverse links in omega (arith, many))

same_chains : (links : List Link) (link : Link) (heads : List ℕ) → All (λ at. at ≤ length links) heads → map (chain (links ++ link ∷ [])) heads ≡ map (chain links) heads
same_chains links link [] h = refl
same_chains links link (at ∷ heads) h =
    ap₂ (λ x l. x ∷ l) (chain_same links link at (h 0 0 (omega arith))) (same_chains links link heads (λ k d lt. h (suc k) d (omega (arith, lt))))

pub chains_more : (heads : List ℕ) (links : List Link) (link : Link) (edge : ℕ) → edge < length heads → AreChains heads links → link.next ≡ get_or heads edge 0 →
    map (chain (links ++ link ∷ [])) (set heads edge (length links + 1)) ≡ set (map (chain links) heads) edge (link.partner ∷ get_or (map (chain links) heads) edge [])
chains_more heads links link edge lt h is =
    map-set (chain (links ++ link ∷ [])) heads edge (length links + 1) ∙
    ap₂ (λ l x. set l edge x) (same_chains links link heads h.begin)
    (chain_new links link ∙ ap (λ at. link.partner ∷ chain links at) is ∙ ap (λ l. link.partner ∷ l) (sym (get_or-map (chain links) heads edge 0 [] lt)))

pub still_chains : (heads : List ℕ) (links : List Link) (link : Link) (edge : ℕ) → edge < length heads → link.partner < length heads → AreChains heads links → link.next ≡ get_or heads edge 0 →
    AreChains (set heads edge (length links + 1)) (links ++ link ∷ [])
still_chains heads links link edge lt within h is = record {
  begin = All-set (λ at. at ≤ length (links ++ link ∷ [])) heads edge (length links + 1) (omega (arith, many))
      (All-weaker (λ at. at ≤ length links) (λ at. at ≤ length (links ++ link ∷ [])) (λ at le. omega (arith, many, le)) heads h.begin);
  back = λ k d k_lt. back k d k_lt;
  there =
      subst (λ n. All (λ (l : Link). l.partner < n) (links ++ link ∷ [])) (sym (length-set heads edge (length links + 1)))
      (All-push (λ (l : Link). l.partner < length heads) links link h.there within);
}
  where
    many : length (links ++ link ∷ []) ≡ length links + 1
    many = length-append links (link ∷ [])

    back : (k : ℕ) (d : Link) → k < length (links ++ link ∷ []) → (get_or (links ++ link ∷ []) k d).next ≤ k
    back k d k_lt = elim (cases_lt k (length links)) [
      | inl less ↦ subst (λ (l : Link). l.next ≤ k) (sym (get_or_append_left links (link ∷ []) d k less)) (h.back k d less)
      | inr ge ↦
          let at : k ≡ length links = omega (arith, many, k_lt, ge) in
          let first : link.next ≤ length links = subst (λ n. n ≤ length links) (sym is) (h.begin edge 0 lt) in
          subst (λ n. (get_or (links ++ link ∷ []) n d).next ≤ n) (sym at) (subst (λ (l : Link). l.next ≤ length links) (sym (get_or_at links link [] d (length links) refl)) first)
    ]

-- ---- whether there is a peering on a chain

pub peers_next : (labels : List Label) (heads : List ℕ) (links : List Link) (i : ℕ) (d : Link) → AreChains heads links → i < length links →
    get_or labels (get_or links i d).partner Label.Low ≢ Label.Peer → NoPeers labels (chain links (i + 1)) ↔ NoPeers labels (chain links (get_or links i d).next)
peers_next labels heads links i d h lt apart = (
  λ all. All-tail (λ p. get_or labels p Label.Low ≢ Label.Peer) link.partner (chain links link.next) (subst (NoPeers labels) is all),
  λ all. subst (NoPeers labels) (sym is) (All-cons (λ p. get_or labels p Label.Low ≢ Label.Peer) link.partner (chain links link.next) apart all),
)
  where
    link : Link
    link = get_or links i d

    is : chain links (i + 1) ≡ (get_or links i d).partner ∷ chain links (get_or links i d).next
    is = chain_at links i d lt (h.back i d lt)

pub peer_here : (labels : List Label) (heads : List ℕ) (links : List Link) (i : ℕ) (d : Link) → AreChains heads links → i < length links →
    get_or labels (get_or links i d).partner Label.Low ≡ Label.Peer → NoPeers labels (chain links (i + 1)) → ⊥
peer_here labels heads links i d h lt peer all =
    All-head (λ p. get_or labels p Label.Low ≢ Label.Peer) (get_or links i d).partner (chain links (get_or links i d).next) (subst (NoPeers labels) (chain_at links i d lt (h.back i d lt)) all) peer

pub none_left : (labels : List Label) (links : List Link) → NoPeers labels (chain links 0)
none_left labels links = subst (NoPeers labels) (sym (chain_end links)) (All-nil (λ p. get_or labels p Label.Low ≢ Label.Peer))
