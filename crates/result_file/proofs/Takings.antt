-- Octets of a file that are taken part by part.
use Rattle.std.proofs.Common.{◌≡◌, ℕ, List, [], ◌++◌, Option, None, Some, sym, ap, subst, ◌∙◌, append_assoc}
use Rattle.std.proofs.lemmas.List.{append-nil}
use Rattle.tor_io.specs.Contents.{Files, Opens}
use Rattle.result_text.specs.declared.taking.Parser.{Parser}
use Rattle.result_text.specs.Taking.{HasTaken, Takes}
use Rattle.result_file.specs.FileText.{IsRead, AreLeft, AreOf}

-- no part changes what was taken
pub takes_none : (p : Parser) → Takes p p []
takes_none p before taken = subst (HasTaken p) (sym (append-nil before)) taken

-- one part more
pub takes_more : (old mid new : Parser) (octets part : List ℕ) → Takes old mid octets → Takes mid new part → Takes old new (octets ++ part)
takes_more old mid new octets part first second before taken =
    subst (HasTaken new) (append_assoc before octets part) (second (before ++ octets) (first before taken))

-- what is left behind an open is the file
pub left_is_file : (known : Option Files) (name : List ℕ) (left : Option (List ℕ)) (octets : List ℕ) → Opens known name left → AreLeft left octets → AreOf known name octets
left_is_file None name left octets opens are = tt
left_is_file (Some files) name left octets opens are =
    let same : opens.0 ≡ octets = subst (λ (o : Option (List ℕ)). AreLeft o octets) opens.2 are in
    opens.1 ∙ ap (λ (x : List ℕ). Some x) same

pub read_of_file : (most : ℕ) (known : Option Files) (name : List ℕ) (left : Option (List ℕ)) (Such : List ℕ → Type 0) → Opens known name left
    → IsRead most (AreLeft left) Such → IsRead most (AreOf known name) Such
read_of_file most known name left Such opens r = record { octets = r.octets; short = r.short; stand = left_is_file known name left r.octets opens r.stand; such = r.such }

pub read_such : {most : ℕ} {Stand Such Other : List ℕ → Type 0} → IsRead most Stand Such → ((octets : List ℕ) → Such octets → Other octets) → IsRead most Stand Other
read_such r other = record { octets = r.octets; short = r.short; stand = r.stand; such = other r.octets r.such }
