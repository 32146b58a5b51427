-- The loop over the peers of a table.
use Rattle.std.proofs.Common.{◌≡◌, ℕ, suc, ◌+◌, ◌-◌, ◌<◌, ◌≤◌, ◌==◌, Bool, true, false, List, [], ◌∷◌, ◌++◌, length, Result, Ok, Err, is_ok, refl, sym, ap, ◌∙◌, arith}
use Rattle.std.specs.Result.{result_unwrap_or}
use Rattle.std.proofs.lemmas.List.{append_assoc, append-nil}
use Rattle.path_attrs.specs.declared.fault.RibFault.{RibFault}
use Rattle.path_attrs.specs.declared.fault.RibFault.TheVariants.{Tail}
use Rattle.path_attrs.specs.Fields.{◌>>=◌, fault_unless}
use Rattle.rib_bodies.specs.declared.peers.Peer.{Peer}
use Rattle.rib_bodies.specs.Peers.{first_peer, peers_at, peers_of_count, peers_named, table_head}

one_less : (count i : ℕ) → i < count → count - i ≡ suc (count - (i + 1))
one_less count i lt = omega arith

none_left : (count i : ℕ) → count ≤ i → count - i ≡ 0
none_left count i le = omega arith

-- the peers so far, and those that are read
abbrev pub with_peers : List Peer → Result (List Peer) RibFault → Result (List Peer) RibFault
with_peers before read = read >>= λ others. Ok (before ++ others)

pub from_no_peers : (read : Result (List Peer) RibFault) → with_peers [] read ≡ read
from_no_peers (Ok peers) = refl
from_no_peers (Err fault) = refl

pub named-step : (count i : ℕ) (bytes rest : List ℕ) (first : Peer) (before : List Peer) (all : Result (List Peer) RibFault) → i < count → first_peer bytes ≡ Ok (first, rest)
    → with_peers before (peers_at (count - i) bytes) ≡ all → with_peers (before ++ first ∷ []) (peers_at (count - (i + 1)) rest) ≡ all
unfolding peers_at
named-step count i bytes rest first before all lt is same =
    regroup (peers_at (count - (i + 1)) rest)
    ∙ sym (ap (λ k. with_peers before (peers_at k bytes)) (one_less count i lt)
    ∙ ap (λ (r : Result (Peer × List ℕ) RibFault). with_peers before (r >>= λ f. peers_at (count - (i + 1)) f.1 >>= λ others. Ok (f.0 ∷ others))) is)
    ∙ same
  where
    regroup : (read : Result (List Peer) RibFault) → with_peers (before ++ first ∷ []) read ≡ with_peers before (read >>= λ others. Ok (first ∷ others))
    regroup (Ok others) = ap (λ l. Ok l) (append_assoc before (first ∷ []) others)
    regroup (Err fault) = refl

pub named-fault : (count i : ℕ) (bytes : List ℕ) (fault : RibFault) (before : List Peer) (all : Result (List Peer) RibFault) → i < count → first_peer bytes ≡ Err fault
    → with_peers before (peers_at (count - i) bytes) ≡ all → all ≡ Err fault
unfolding peers_at
named-fault count i bytes fault before all lt is same =
    sym same ∙ ap (λ k. with_peers before (peers_at k bytes)) (one_less count i lt)
    ∙ ap (λ (r : Result (Peer × List ℕ) RibFault). with_peers before (r >>= λ f. peers_at (count - (i + 1)) f.1 >>= λ others. Ok (f.0 ∷ others))) is

pub named-end : (count i : ℕ) (bytes : List ℕ) (before : List Peer) (all : Result (List Peer) RibFault) → count ≤ i → (length bytes == 0) ≡ true
    → with_peers before (peers_at (count - i) bytes) ≡ all → all ≡ Ok before
unfolding peers_at
named-end count i bytes before all le none same =
    sym same ∙ ap (λ k. with_peers before (peers_at k bytes)) (none_left count i le)
    ∙ ap (λ b. with_peers before (fault_unless Tail b >>= λ end. Ok [])) none ∙ ap (λ l. Ok l) (append-nil before)

pub named-tail : (count i : ℕ) (bytes : List ℕ) (before : List Peer) (all : Result (List Peer) RibFault) → count ≤ i → (length bytes == 0) ≡ false
    → with_peers before (peers_at (count - i) bytes) ≡ all → all ≡ Err Tail
unfolding peers_at
named-tail count i bytes before all le more same =
    sym same ∙ ap (λ k. with_peers before (peers_at k bytes)) (none_left count i le)
    ∙ ap (λ b. with_peers before (fault_unless Tail b >>= λ end. Ok [])) more

-- ---- peers that are known to be whole

pub whole_peers : (count : ℕ) (bytes : List ℕ) → is_ok (peers_at count bytes) ≡ true → Ok (peers_of_count count bytes) ≡ peers_at count bytes
unfolding peers_of_count
whole_peers count bytes ok = by (peers_at count bytes) ok
  where
    by : (read : Result (List Peer) RibFault) → is_ok read ≡ true → Ok (result_unwrap_or read []) ≡ read
    by (Ok peers) t = refl
    by (Err fault) t = absurd cc

pub peers_of_count-is : (count : ℕ) (bytes : List ℕ) (peers : List Peer) → peers_at count bytes ≡ Ok peers → peers_of_count count bytes ≡ peers
unfolding peers_of_count
peers_of_count-is count bytes peers is = ap (λ r. result_unwrap_or r []) is

abbrev at_end : Bool → Result (List Peer) RibFault
at_end b = fault_unless Tail b >>= λ end. Ok []

pub none_named : (count : ℕ) (bytes : List ℕ) → count ≡ 0 → peers_of_count count bytes ≡ []
unfolding peers_at peers_of_count
none_named count bytes none = ap (λ n. peers_of_count n bytes) none ∙ by (length bytes == 0)
  where
    by : (b : Bool) → result_unwrap_or (at_end b) [] ≡ []
    by true = refl
    by false = refl

unrolled : (count : ℕ) (bytes : List ℕ) (read : Result (Peer × List ℕ) RibFault) → 0 < count → first_peer bytes ≡ read
    → peers_at count bytes ≡ (read >>= λ f. peers_at (count - 1) f.1 >>= λ others. Ok (f.0 ∷ others))
unfolding peers_at
unrolled count bytes read some is =
    let e : count ≡ suc (count - 1) = omega (arith, some) in
    ap (λ n. peers_at n bytes) e ∙ ap (λ (r : Result (Peer × List ℕ) RibFault). r >>= λ f. peers_at (count - 1) f.1 >>= λ others. Ok (f.0 ∷ others)) is

-- the first peer, and those behind it
pub record FirstNamed (count : ℕ) (bytes : List ℕ) (peer : Peer) (behind : List ℕ) : Type 0 where
  pub rest : is_ok (peers_at (count - 1) behind) ≡ true
  pub all : peers_of_count count bytes ≡ peer ∷ peers_of_count (count - 1) behind

pub first_named : (count : ℕ) (bytes : List ℕ) (peer : Peer) (behind : List ℕ) → 0 < count → first_peer bytes ≡ Ok (peer, behind) → is_ok (peers_at count bytes) ≡ true →
    FirstNamed count bytes peer behind
unfolding peers_of_count
first_named count bytes peer behind some is ok = by (peers_at (count - 1) behind) refl
  where
    first : peers_at count bytes ≡ (peers_at (count - 1) behind >>= λ others. Ok (peer ∷ others))
    first = unrolled count bytes (Ok (peer, behind)) some is

    by : (others : Result (List Peer) RibFault) → peers_at (count - 1) behind ≡ others → FirstNamed count bytes peer behind
    by (Ok others) eo =
        let all : peers_at count bytes ≡ Ok (peer ∷ others) = first ∙ ap (λ (r : Result (List Peer) RibFault). r >>= λ os. Ok (peer ∷ os)) eo in
        record {
          rest = ap is_ok eo;
          all = ap (λ r. result_unwrap_or r []) all ∙ sym (ap (λ (ps : List Peer). peer ∷ ps) (ap (λ r. result_unwrap_or r []) eo));
        }
    by (Err fault) eo = absurd (let none = sym ok ∙ ap is_ok (first ∙ ap (λ (r : Result (List Peer) RibFault). r >>= λ os. Ok (peer ∷ os)) eo) in cc)

pub no_peer_fault : (count : ℕ) (bytes : List ℕ) (fault : RibFault) → 0 < count → first_peer bytes ≡ Err fault → is_ok (peers_at count bytes) ≡ true → ⊥
no_peer_fault count bytes fault some is ok = let none = sym ok ∙ ap is_ok (unrolled count bytes (Err fault) some is) in absurd cc

-- ---- a table by its head

pub table-fault : (body : List ℕ) (fault : RibFault) → table_head body ≡ Err fault → peers_named body ≡ Err fault
unfolding peers_named
table-fault body fault is = ap (λ (r : Result (ℕ × List ℕ) RibFault). r >>= λ c. peers_at c.0 c.1) is

pub table-then : (body : List ℕ) (count : ℕ) (rest : List ℕ) → table_head body ≡ Ok (count, rest) → peers_named body ≡ peers_at count rest
unfolding peers_named
table-then body count rest is = ap (λ (r : Result (ℕ × List ℕ) RibFault). r >>= λ c. peers_at c.0 c.1) is
