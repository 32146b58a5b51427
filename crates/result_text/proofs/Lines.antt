-- A line that is read is encoded as it was written, and what was written is read again.
use Rattle.std.proofs.Common.{◌≡◌, ℕ, List, [], ◌∷◌, ◌++◌, Option, Some, refl, sym, ap, subst, ◌∙◌, append_assoc, inl, inr}
use Rattle.std.specs.Prelude.{codes}
use Rattle.std.specs.Fmt.{decimal}
use Rattle.std.specs.List.{AllByRecursion}
use Rattle.relationships.specs.declared.label.Label.{Label}
use Rattle.relationships.specs.declared.label.Label.TheVariants as label
use Rattle.relationships.specs.declared.walk.Link.{Link}
use Rattle.relationships.specs.declared.walk.Walk.{Walk}
use Rattle.path_clean.specs.declared.cleaned.Sets.{Sets}
use Rattle.path_clean.specs.declared.cleaned.Sets.TheVariants as sets
use Rattle.path_clean.specs.declared.cleaned.Cause.{Cause}
use Rattle.path_clean.specs.declared.cleaned.Cause.TheVariants as cause
use Rattle.relationships.specs.declared.fate.Fate.{Fate}
use Rattle.relationships.specs.declared.fate.Fate.TheVariants as fate
use Rattle.relationships.specs.declared.mark.Mark.{Mark}
use Rattle.relationships.specs.declared.mark.Mark.TheVariants as mark
use Rattle.result_text.specs.declared.line.Line.{Line}
use Rattle.result_text.specs.declared.line.Line.TheVariants as line
use Rattle.result_text.specs.declared.line.Version.{Version}
use Rattle.result_text.specs.declared.line.Version.TheVariants as version
use Rattle.result_text.specs.Text.{numbers_text, links, sets_name, cause_name, label_name, mark_name, line_text}
use Rattle.result_text.specs.Ranges.{AreU32, LinkFits, WalkFits, LineFits}
use Rattle.text_fields.specs.Fields.{IsU32, IsU64}
use Rattle.result_text.specs.Reading.{list_at, link_at, name_at, sets_at, cause_at, label_at, mark_at, walk_from, walk_at, sets_line_at, ratio_at, aside_from, aside_at, line_of_kept, kept_at}
use Rattle.result_text.specs.Reading.{lost_from, lost_at, edge_from, edge_line_at, why_at, given_from, given_at, probe_from, probe_at, end_from, end_at}
use Rattle.result_text.specs.Reading.{version_at, outer_readers, line_readers, by_word, line_at}
use Rattle.text_fields.specs.Reading.{u64_at, u32_at, before, both}
use Rattle.result_text.proofs.Lists.{EndsList, numbers_reads, links_reads}
use Rattle.text_fields.proofs.Readers.{some_is, on_word_takes, Reads, ReadsAs, before_reads, both_reads, mapped_reads, NoDigit, u64_reads, u32_reads}

-- ---- fields with the byte behind them

abbrev with : {X : Type 0} → (X → List ℕ) → ℕ → X → List ℕ
with encode c x = encode x ++ c ∷ []

u64_bar : Reads ℕ IsU64 (with decimal 124) (before 124 u64_at)
u64_bar = before_reads ℕ IsU64 decimal NoDigit u64_at 124 u64_reads (λ rest. refl)

u64_end : Reads ℕ IsU64 (with decimal 10) (before 10 u64_at)
u64_end = before_reads ℕ IsU64 decimal NoDigit u64_at 10 u64_reads (λ rest. refl)

u32_bar : Reads ℕ IsU32 (with decimal 124) (before 124 u32_at)
u32_bar = before_reads ℕ IsU32 decimal NoDigit u32_at 124 u32_reads (λ rest. refl)

u32_end : Reads ℕ IsU32 (with decimal 10) (before 10 u32_at)
u32_end = before_reads ℕ IsU32 decimal NoDigit u32_at 10 u32_reads (λ rest. refl)

numbers_bar : Reads (List ℕ) AreU32 (with numbers_text 124) (before 124 (list_at u32_at))
numbers_bar = before_reads (List ℕ) AreU32 numbers_text EndsList (list_at u32_at) 124 numbers_reads (λ rest. (refl, refl, refl))

numbers_end : Reads (List ℕ) AreU32 (with numbers_text 10) (before 10 (list_at u32_at))
numbers_end = before_reads (List ℕ) AreU32 numbers_text EndsList (list_at u32_at) 10 numbers_reads (λ rest. (refl, refl, refl))

links_end : (v : Version) → Reads (List Link) (AllByRecursion LinkFits) (with (links v) 10) (before 10 (list_at (link_at v)))
links_end v = before_reads (List Link) (AllByRecursion LinkFits) (links v) EndsList (list_at (link_at v)) 10 (links_reads v) (λ rest. (refl, refl, refl))

-- ---- names

abbrev Any : {X : Type 0} → X → Type 0
Any x = Unit {0}

-- each name stands beside the value that it encodes
names_take : {X : Type 0} (encode : X → List ℕ) (table : List (List ℕ × X)) (bytes : List ℕ) (x : X × List ℕ) → AllByRecursion (λ e. e.0 ≡ encode e.1) table
    → name_at table bytes ≡ Some x → bytes ≡ encode x.0 ++ x.1
names_take encode [] bytes x all e = absurd cc
names_take {X} encode (entry ∷ table) bytes x all e =
    elim (on_word_takes entry.0 (λ rest. Some (entry.1, rest)) (name_at table) bytes x e) [
      | inl t ↦ subst (λ (y : X × List ℕ). bytes ≡ encode y.0 ++ y.1) (some_is (entry.1, t.0) x t.2) (t.1 ∙ ap (λ (w : List ℕ). w ++ t.0) all.0)
      | inr t ↦ names_take encode table bytes x all.1 t
    ]

sets_takes : (bytes : List ℕ) (x : Sets × List ℕ) → sets_at bytes ≡ Some x → bytes ≡ with sets_name 10 x.0 ++ x.1
unfolding sets_at
sets_takes bytes x e = names_take (with sets_name 10) ((codes "cut\n", sets.Cut) ∷ (codes "skip\n", sets.Skip) ∷ []) bytes x (refl, (refl, tt)) e

sets_again : (x : Sets) (rest : List ℕ) → sets_at (with sets_name 10 x ++ rest) ≡ Some (x, rest)
unfolding sets_at
sets_again sets.Cut rest = refl
sets_again sets.Skip rest = refl

sets_reads : Reads Sets Any (with sets_name 10) sets_at
sets_reads = record { takes = λ bytes x e. (tt, sets_takes bytes x e); again = λ x rest fits. sets_again x rest }

cause_takes : (bytes : List ℕ) (x : Cause × List ℕ) → cause_at bytes ≡ Some x → bytes ≡ with cause_name 124 x.0 ++ x.1
unfolding cause_at
cause_takes bytes x e = names_take (with cause_name 124) ((codes "nopath|", cause.NoPath) ∷ (codes "badsegments|", cause.BadSegments) ∷ (codes "confed|", cause.Confed) ∷
    (codes "sets|", cause.Sets) ∷ (codes "reserved|", cause.Reserved) ∷ (codes "loop|", cause.Loop) ∷ (codes "short|", cause.Short) ∷ []) bytes x
    (refl, (refl, (refl, (refl, (refl, (refl, (refl, tt))))))) e

cause_again : (x : Cause) (rest : List ℕ) → cause_at (with cause_name 124 x ++ rest) ≡ Some (x, rest)
unfolding cause_at
cause_again cause.NoPath rest = refl
cause_again cause.BadSegments rest = refl
cause_again cause.Confed rest = refl
cause_again cause.Sets rest = refl
cause_again cause.Reserved rest = refl
cause_again cause.Loop rest = refl
cause_again cause.Short rest = refl

cause_reads : Reads Cause Any (with cause_name 124) cause_at
cause_reads = record { takes = λ bytes x e. (tt, cause_takes bytes x e); again = λ x rest fits. cause_again x rest }

label_takes : (bytes : List ℕ) (x : Label × List ℕ) → label_at bytes ≡ Some x → bytes ≡ with label_name 124 x.0 ++ x.1
unfolding label_at
label_takes bytes x e = names_take (with label_name 124) ((codes "low|", label.Low) ∷ (codes "high|", label.High) ∷ (codes "peer|", label.Peer) ∷ []) bytes x (refl, (refl, (refl, tt))) e

label_again : (x : Label) (rest : List ℕ) → label_at (with label_name 124 x ++ rest) ≡ Some (x, rest)
unfolding label_at
label_again label.Low rest = refl
label_again label.High rest = refl
label_again label.Peer rest = refl

label_reads : Reads Label Any (with label_name 124) label_at
label_reads = record { takes = λ bytes x e. (tt, label_takes bytes x e); again = λ x rest fits. label_again x rest }

mark_takes : (bytes : List ℕ) (x : Mark × List ℕ) → mark_at bytes ≡ Some x → bytes ≡ with mark_name 124 x.0 ++ x.1
unfolding mark_at
mark_takes bytes x e = names_take (with mark_name 124) ((codes "forced|", mark.Forced) ∷ (codes "open|", mark.Open) ∷ []) bytes x (refl, (refl, tt)) e

mark_again : (x : Mark) (rest : List ℕ) → mark_at (with mark_name 124 x ++ rest) ≡ Some (x, rest)
unfolding mark_at
mark_again mark.Forced rest = refl
mark_again mark.Open rest = refl

mark_reads : Reads Mark Any (with mark_name 124) mark_at
mark_reads = record { takes = λ bytes x e. (tt, mark_takes bytes x e); again = λ x rest fits. mark_again x rest }

-- ---- walks

abbrev walk_text : Version → Walk → List ℕ
walk_text v w = with numbers_text 124 w.ases ++ with (links v) 10 w.links

walk_reads : (v : Version) → Reads Walk WalkFits (walk_text v) (walk_at v)
unfolding walk_at
walk_reads v =
    let read_links = before 10 (list_at (link_at v)) in
    let parts = both_reads (List ℕ) (List Link) AreU32 (AllByRecursion LinkFits) (with numbers_text 124) (with (links v) 10) (before 124 (list_at u32_at)) read_links
    numbers_bar (links_end v) in
    let whole = mapped_reads (List ℕ × List Link) Walk (λ z. AreU32 z.0 × AllByRecursion LinkFits z.1) (λ z. with numbers_text 124 z.0 ++ with (links v) 10 z.1)
    (both (before 124 (list_at u32_at)) read_links) walk_from parts in
    record {
      takes = λ bytes w e.
          let t = whole.takes bytes w e in
          (subst WalkFits (sym t.1) t.2, t.3 ∙ ap (λ (u : Walk). walk_text v u ++ w.1) (sym t.1));
      again = λ w rest fits. whole.again (w.ases, w.links) rest fits;
    }

-- ---- lines, behind their first word

-- A reader of the lines that begin with this word, in a text of this version: what it reads is encoded so behind the word.
record ReadsLine (v : Version) (X : Type 0) (word : List ℕ) (f : X → Line) (Fits : X → Type 0) (encode : X → List ℕ) (read : List ℕ → Option (Line × List ℕ)) : Type 0 where
  reads : ReadsAs X Line f Fits encode read
  text : (x : X) → line_text v (f x) ≡ word ++ encode x
  fits : (x : X) → Fits x → LineFits (f x)

line_takes_by : {v : Version} {X : Type 0} {word : List ℕ} {f : X → Line} {Fits : X → Type 0} {encode : X → List ℕ} {read : List ℕ → Option (Line × List ℕ)}
    → ReadsLine v X word f Fits encode read
    → (bytes rest : List ℕ) (y : Line × List ℕ) → bytes ≡ word ++ rest → read rest ≡ Some y → LineFits y.0 × (bytes ≡ line_text v y.0 ++ y.1)
line_takes_by {v} {X} {word} {f} {Fits} {encode} {read} r bytes rest y w e =
    let t = r.reads.takes rest y e in
    let text : line_text v y.0 ≡ word ++ encode t.0 = ap (line_text v) t.1 ∙ r.text t.0 in
    (subst LineFits (sym t.1) (r.fits t.0 t.2), w ∙ ap (λ (z : List ℕ). word ++ z) t.3 ∙ sym (append_assoc word (encode t.0) y.1) ∙ ap (λ (z : List ℕ). z ++ y.1) (sym text))

line_again_by : {v : Version} {X : Type 0} {word : List ℕ} {f : X → Line} {Fits : X → Type 0} {encode : X → List ℕ} {read : List ℕ → Option (Line × List ℕ)}
    → ReadsLine v X word f Fits encode read
    → (x : X) (rest : List ℕ) → Fits x → ((bytes : List ℕ) → line_at v (word ++ bytes) ≡ read bytes) → line_at v (line_text v (f x) ++ rest) ≡ Some (f x, rest)
line_again_by {v} {X} {word} {f} {Fits} {encode} {read} r x rest fits goes =
    ap (line_at v) (ap (λ (z : List ℕ). z ++ rest) (r.text x) ∙ append_assoc word (encode x) rest) ∙ goes (encode x ++ rest) ∙ r.reads.again x rest fits

-- ---- each kind

ratio_line : (v : Version) → ReadsLine v ℕ (codes "ratio|") (λ n. line.Ratio n) IsU32 (with decimal 10) ratio_at
unfolding ratio_at line_text
ratio_line v = record { reads = mapped_reads ℕ Line IsU32 (with decimal 10) (before 10 u32_at) (λ n. line.Ratio n) u32_end; text = λ n. refl; fits = λ n h. h }

sets_line : (v : Version) → ReadsLine v Sets (codes "sets|") (λ s. line.Sets s) Any (with sets_name 10) sets_line_at
unfolding sets_line_at line_text
sets_line v = record { reads = mapped_reads Sets Line Any (with sets_name 10) sets_at (λ s. line.Sets s) sets_reads; text = λ s. refl; fits = λ s h. h }

abbrev Both : {X Y : Type 0} → (X → Type 0) → (Y → Type 0) → X × Y → Type 0
Both F G z = F z.0 × G z.1

abbrev then : {X Y : Type 0} → (X → List ℕ) → (Y → List ℕ) → X × Y → List ℕ
then s t z = s z.0 ++ t z.1

aside_line : (v : Version) → ReadsLine v (Cause × ℕ) (codes "aside|") aside_from (Both Any IsU64) (then (with cause_name 124) (with decimal 10)) aside_at
unfolding aside_at line_text
aside_line v =
    let parts = both_reads Cause ℕ Any IsU64 (with cause_name 124) (with decimal 10) cause_at (before 10 u64_at) cause_reads u64_end in
    record {
      reads = mapped_reads (Cause × ℕ) Line (Both Any IsU64) (then (with cause_name 124) (with decimal 10)) (both cause_at (before 10 u64_at)) aside_from parts;
      text = λ z. simp append_assoc;
      fits = λ z h. h.1;
    }

kept_line : (v : Version) → ReadsLine v (ℕ × List ℕ) (codes "kept|") line_of_kept (Both IsU64 AreU32) (then (with decimal 124) (with numbers_text 10)) kept_at
unfolding kept_at line_text
kept_line v =
    let parts = both_reads ℕ (List ℕ) IsU64 AreU32 (with decimal 124) (with numbers_text 10) (before 124 u64_at) (before 10 (list_at u32_at)) u64_bar numbers_end in
    record {
      reads = mapped_reads (ℕ × List ℕ) Line (Both IsU64 AreU32) (then (with decimal 124) (with numbers_text 10)) (both (before 124 u64_at) (before 10 (list_at u32_at))) line_of_kept parts;
      text = λ z. simp append_assoc;
      fits = λ z h. (h.0, h.1, tt);
    }

lost_line : (v : Version) → ReadsLine v (ℕ × (List ℕ × Walk)) (codes "lost|") lost_from (Both IsU64 (Both AreU32 WalkFits))
    (then (with decimal 124) (then (with numbers_text 124) (walk_text v))) (lost_at v)
unfolding lost_at line_text
lost_line v =
    let second = both_reads (List ℕ) Walk AreU32 WalkFits (with numbers_text 124) (walk_text v) (before 124 (list_at u32_at)) (walk_at v) numbers_bar (walk_reads v) in
    let parts = both_reads ℕ (List ℕ × Walk) IsU64 (Both AreU32 WalkFits) (with decimal 124) (then (with numbers_text 124) (walk_text v)) (before 124 u64_at)
    (both (before 124 (list_at u32_at)) (walk_at v)) u64_bar second in
    record {
      reads = mapped_reads (ℕ × (List ℕ × Walk)) Line (Both IsU64 (Both AreU32 WalkFits)) (then (with decimal 124) (then (with numbers_text 124) (walk_text v)))
          (both (before 124 u64_at) (both (before 124 (list_at u32_at)) (walk_at v))) lost_from parts;
      text = λ z. simp append_assoc;
      fits = λ z h. (h.0, h.1.0, h.1.1);
    }

edge_line : (v : Version) → ReadsLine v (ℕ × (ℕ × (Label × (Mark × ℕ)))) (codes "edge|") edge_from (Both IsU32 (Both IsU32 (Both Any (Both Any IsU64))))
    (then (with decimal 124) (then (with decimal 124) (then (with label_name 124) (then (with mark_name 124) (with decimal 10))))) edge_line_at
unfolding edge_line_at line_text
edge_line v =
    let r4 = both_reads Mark ℕ Any IsU64 (with mark_name 124) (with decimal 10) mark_at (before 10 u64_at) mark_reads u64_end in
    let r3 = both_reads Label (Mark × ℕ) Any (Both Any IsU64) (with label_name 124) (then (with mark_name 124) (with decimal 10)) label_at (both mark_at (before 10 u64_at)) label_reads r4 in
    let r2 = both_reads ℕ (Label × (Mark × ℕ)) IsU32 (Both Any (Both Any IsU64)) (with decimal 124)
    (then (with label_name 124) (then (with mark_name 124) (with decimal 10))) (before 124 u32_at) (both label_at (both mark_at (before 10 u64_at))) u32_bar r3 in
    let r1 = both_reads ℕ (ℕ × (Label × (Mark × ℕ))) IsU32 (Both IsU32 (Both Any (Both Any IsU64))) (with decimal 124)
    (then (with decimal 124) (then (with label_name 124) (then (with mark_name 124) (with decimal 10)))) (before 124 u32_at)
    (both (before 124 u32_at) (both label_at (both mark_at (before 10 u64_at)))) u32_bar r2 in
    record {
      reads = mapped_reads (ℕ × (ℕ × (Label × (Mark × ℕ)))) Line (Both IsU32 (Both IsU32 (Both Any (Both Any IsU64))))
          (then (with decimal 124) (then (with decimal 124) (then (with label_name 124) (then (with mark_name 124) (with decimal 10)))))
          (both (before 124 u32_at) (both (before 124 u32_at) (both label_at (both mark_at (before 10 u64_at))))) edge_from r1;
      text = λ z. simp append_assoc;
      fits = λ z h. (h.0, h.1.0, h.1.1.1.1);
    }

why_line : (v : Version) → ReadsLine v Walk (codes "why|") (λ w. line.Why w) WalkFits (walk_text v) (why_at v)
unfolding why_at line_text
why_line v = record { reads = mapped_reads Walk Line WalkFits (walk_text v) (walk_at v) (λ w. line.Why w) (walk_reads v); text = λ w. simp append_assoc; fits = λ w h. h }

given_line : (v : Version) → ReadsLine v (ℕ × ℕ) (codes "given|") given_from (Both IsU32 IsU32) (then (with decimal 124) (with decimal 10)) given_at
unfolding given_at line_text
given_line v =
    let parts = both_reads ℕ ℕ IsU32 IsU32 (with decimal 124) (with decimal 10) (before 124 u32_at) (before 10 u32_at) u32_bar u32_end in
    record {
      reads = mapped_reads (ℕ × ℕ) Line (Both IsU32 IsU32) (then (with decimal 124) (with decimal 10)) (both (before 124 u32_at) (before 10 u32_at)) given_from parts;
      text = λ z. simp append_assoc;
      fits = λ z h. h;
    }

probe_line : (v : Version) → ReadsLine v (ℕ × ℕ) (codes "open|") probe_from (Both IsU32 IsU32) (then (with decimal 124) (with decimal 10)) probe_at
unfolding probe_at line_text
probe_line v =
    let parts = both_reads ℕ ℕ IsU32 IsU32 (with decimal 124) (with decimal 10) (before 124 u32_at) (before 10 u32_at) u32_bar u32_end in
    record {
      reads = mapped_reads (ℕ × ℕ) Line (Both IsU32 IsU32) (then (with decimal 124) (with decimal 10)) (both (before 124 u32_at) (before 10 u32_at)) probe_from parts;
      text = λ z. simp append_assoc;
      fits = λ z h. h;
    }

end_line : (v : Version) → ReadsLine v (ℕ × (ℕ × (ℕ × (ℕ × ℕ)))) (codes "end|") end_from (Both IsU64 (Both IsU64 (Both IsU64 (Both IsU64 IsU64))))
    (then (with decimal 124) (then (with decimal 124) (then (with decimal 124) (then (with decimal 124) (with decimal 10))))) end_at
unfolding end_at line_text
end_line v =
    let r4 = both_reads ℕ ℕ IsU64 IsU64 (with decimal 124) (with decimal 10) (before 124 u64_at) (before 10 u64_at) u64_bar u64_end in
    let r3 = both_reads ℕ (ℕ × ℕ) IsU64 (Both IsU64 IsU64) (with decimal 124) (then (with decimal 124) (with decimal 10)) (before 124 u64_at)
    (both (before 124 u64_at) (before 10 u64_at)) u64_bar r4 in
    let r2 = both_reads ℕ (ℕ × (ℕ × ℕ)) IsU64 (Both IsU64 (Both IsU64 IsU64)) (with decimal 124) (then (with decimal 124) (then (with decimal 124) (with decimal 10)))
    (before 124 u64_at) (both (before 124 u64_at) (both (before 124 u64_at) (before 10 u64_at))) u64_bar r3 in
    let r1 = both_reads ℕ (ℕ × (ℕ × (ℕ × ℕ))) IsU64 (Both IsU64 (Both IsU64 (Both IsU64 IsU64))) (with decimal 124)
    (then (with decimal 124) (then (with decimal 124) (then (with decimal 124) (with decimal 10)))) (before 124 u64_at)
    (both (before 124 u64_at) (both (before 124 u64_at) (both (before 124 u64_at) (before 10 u64_at)))) u64_bar r2 in
    record {
      reads = mapped_reads (ℕ × (ℕ × (ℕ × (ℕ × ℕ)))) Line (Both IsU64 (Both IsU64 (Both IsU64 (Both IsU64 IsU64))))
          (then (with decimal 124) (then (with decimal 124) (then (with decimal 124) (then (with decimal 124) (with decimal 10)))))
          (both (before 124 u64_at) (both (before 124 u64_at) (both (before 124 u64_at) (both (before 124 u64_at) (before 10 u64_at))))) end_from r1;
      text = λ z. simp append_assoc;
      fits = λ z h. (h.0, h.1.0, h.1.1.0, h.1.1.1.0, h.1.1.1.1);
    }

-- ---- all lines

abbrev Taken : Version → List ℕ → Line × List ℕ → Type 0
Taken v bytes y = LineFits y.0 × (bytes ≡ line_text v y.0 ++ y.1)

-- what a reader reads behind its word is taken
abbrev Takes : Version → List ℕ × (List ℕ → Option (Line × List ℕ)) → Type 0
Takes v entry = (bytes rest : List ℕ) (y : Line × List ℕ) → bytes ≡ entry.0 ++ rest → entry.1 rest ≡ Some y → Taken v bytes y

first_takes : (v : Version) → Takes v (codes "tor|1\n", version_at version.One)
unfolding line_text
first_takes v bytes rest y w e = subst (Taken v bytes) (some_is (line.Version version.One, rest) y e) (tt, w)

second_takes : (v : Version) → Takes v (codes "tor|2\n", version_at version.Two)
unfolding line_text
second_takes v bytes rest y w e = subst (Taken v bytes) (some_is (line.Version version.Two, rest) y e) (tt, w)

by_word_takes : (v : Version) (readers : List (List ℕ × (List ℕ → Option (Line × List ℕ)))) (bytes : List ℕ) (y : Line × List ℕ) → AllByRecursion (Takes v) readers
    → by_word readers bytes ≡ Some y → Taken v bytes y
by_word_takes v [] bytes y all e = absurd cc
by_word_takes v (entry ∷ more) bytes y all e =
    elim (on_word_takes entry.0 entry.1 (by_word more) bytes y e) [
      | inl t ↦ all.0 bytes t.0 y t.1 t.2
      | inr t ↦ by_word_takes v more bytes y all.1 t
    ]

-- those of the outer lines, and all
outer_take : (v : Version) → AllByRecursion (Takes v) outer_readers
outer_take v =
    (line_takes_by (aside_line v), (first_takes v, (second_takes v, (line_takes_by (sets_line v), (line_takes_by (ratio_line v), (line_takes_by (given_line v), (line_takes_by (end_line v), tt)))))))

all_take : (v : Version) → AllByRecursion (Takes v) (line_readers v)
all_take v =
    (line_takes_by (kept_line v), (line_takes_by (edge_line v), (line_takes_by (why_line v), (line_takes_by (probe_line v), (line_takes_by (lost_line v), outer_take v)))))

pub line_takes : (v : Version) (bytes : List ℕ) (y : Line × List ℕ) → line_at v bytes ≡ Some y → LineFits y.0 × (bytes ≡ line_text v y.0 ++ y.1)
unfolding line_at
line_takes v bytes y e = by_word_takes v (line_readers v) bytes y (all_take v) e

path_again : (v : Version) (times : ℕ) (path : List ℕ) (f : Fate) (rest : List ℕ) → LineFits (line.Path (record { times = times; path = path; fate = f }))
    → line_at v (line_text v (line.Path (record { times = times; path = path; fate = f })) ++ rest) ≡ Some (line.Path (record { times = times; path = path; fate = f }), rest)
unfolding line_at
path_again v times path fate.Kept rest fits = line_again_by (kept_line v) (times, path) rest (fits.0, fits.1) (λ bytes. refl)
path_again v times path (fate.Lost w) rest fits = line_again_by (lost_line v) (times, (path, w)) rest (fits.0, (fits.1, fits.2)) (λ bytes. refl)

version_again : (v w : Version) (rest : List ℕ) → line_at v (line_text v (line.Version w) ++ rest) ≡ Some (line.Version w, rest)
unfolding line_at line_text
version_again v version.One rest = refl
version_again v version.Two rest = refl

pub line_again : (v : Version) (l : Line) (rest : List ℕ) → LineFits l → line_at v (line_text v l ++ rest) ≡ Some (l, rest)
unfolding line_at line_text
line_again v (line.Version w) rest fits = version_again v w rest
line_again v (line.Sets s) rest fits = line_again_by (sets_line v) s rest tt (λ bytes. refl)
line_again v (line.Ratio n) rest fits = line_again_by (ratio_line v) n rest fits (λ bytes. refl)
line_again v (line.Aside c n) rest fits = line_again_by (aside_line v) (c, n) rest (tt, fits) (λ bytes. refl)
line_again v (line.Given g) rest fits = line_again_by (given_line v) (g.over, g.under) rest fits (λ bytes. refl)
line_again v (line.Path p) rest fits = path_again v p.times p.path p.fate rest fits
line_again v (line.Edge e) rest fits = line_again_by (edge_line v) (e.low, (e.high, (e.label, (e.mark, e.support)))) rest (fits.0, (fits.1, (tt, (tt, fits.2)))) (λ bytes. refl)
line_again v (line.Why w) rest fits = line_again_by (why_line v) w rest fits (λ bytes. refl)
line_again v (line.Probe p) rest fits = line_again_by (probe_line v) (p.over, p.under) rest fits (λ bytes. refl)
line_again v (line.End t) rest fits = line_again_by (end_line v) (t.kept, (t.lost, (t.edges, (t.forced, t.peers)))) rest (fits.0, (fits.1, (fits.2, (fits.3, fits.4)))) (λ bytes. refl)

pub line_reads : (v : Version) → Reads Line LineFits (line_text v) (line_at v)
line_reads v = record { takes = line_takes v; again = line_again v }
