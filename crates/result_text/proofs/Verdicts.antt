-- What is read so far begins a text; where reading ends, it is the text, or its bad line is named.
use Rattle.std.proofs.Common.{◌≡◌, ℕ, zero, suc, ◌+◌, ◌<◌, ◌≤◌, Bool, cond, eqb, List, [], ◌∷◌, ◌++◌, length, map, take, drop, Option, Some, None, refl, sym, ap, subst, ◌∙◌}
use Rattle.std.proofs.Common.{append_assoc, arith, inl, inr}
use Rattle.std.specs.Prelude.{◌≢◌, ◌⊎◌, slice_set, option_map, IsSomeAnd}
use Rattle.std.specs.List.{AllByRecursion}
use Rattle.std.proofs.lemmas.List.{append-nil, take-append-drop, length-append, length-take-le}
use Rattle.std.proofs.lemmas.List.Concat.{flat_map-append}
use Rattle.path_clean.specs.declared.cleaned.Cause.{Cause}
use Rattle.path_clean.specs.declared.cleaned.Cause.TheVariants as cause
use Rattle.path_clean.specs.Counts.{counts_from}
use Rattle.relationships.specs.declared.given.Given.{Given}
use Rattle.result_text.specs.declared.file.ResultFile.{ResultFile}
use Rattle.result_text.specs.declared.line.Line.{Line}
use Rattle.result_text.specs.declared.line.Line.TheVariants as line
use Rattle.result_text.specs.declared.line.Version.{Version}
use Rattle.result_text.specs.declared.line.Version.TheVariants as version
use Rattle.result_text.specs.declared.draft.Draft.{Draft}
use Rattle.result_text.specs.declared.draft.Section.{Section}
use Rattle.result_text.specs.declared.draft.Section.TheVariants as section
use Rattle.result_text.specs.Text.{version_of, its_givens, fields, fields_of, line_text, head_lines, body_lines, lines_of, text_of_lines, text}
use Rattle.result_text.specs.Ranges.{GivenFits, PathFits, EdgeFits, WalkFits, ProbeFits, LineFits, CountsFit, IsInRange}
use Rattle.text_fields.specs.Fields.{IsU64}
use Rattle.result_text.specs.Grammar.{IsTextOf, IsText, BeginsText, first_lines, GoesWell, IsBadLine}
use Rattle.result_text.specs.Reading.{line_at}
use Rattle.text_fields.specs.Reading.{◌>>=◌}
use Rattle.result_text.specs.Order.{cause_index, after_head, takes_given, takes_path, takes_edge, takes_why, takes_probe, is_head, no_givens, with_given, step, empty_draft, file_of, finished, next_at}
use Rattle.text_fields.proofs.Readers.{bind_some, some_is, if_some}
use Rattle.result_text.proofs.Lines.{line_takes, line_again}
use Rattle.result_text.proofs.Machine.{run, run_append, done, runs_to_end, sofar, no_sections, Placed, head_section, some_givens, step_steps, seven_of}
use Rattle.result_text.proofs.LineFeeds.{line_first, lines_first}

-- ---- elements

all_push : {X : Type 0} (P : X → Type 0) (xs : List X) (x : X) → AllByRecursion P xs → P x → AllByRecursion P (xs ++ x ∷ [])
all_push P [] x all h = (h, tt)
all_push P (y ∷ xs) x all h = (all.0, all_push P xs x all.1 h)

all_append : {X : Type 0} (P : X → Type 0) (xs ys : List X) → AllByRecursion P xs → AllByRecursion P ys → AllByRecursion P (xs ++ ys)
all_append P [] ys all h = h
all_append P (x ∷ xs) ys all h = (all.0, all_append P xs ys all.1 h)

pub all_prefix : {X : Type 0} (P : X → Type 0) (xs ys : List X) → AllByRecursion P (xs ++ ys) → AllByRecursion P xs
all_prefix P [] ys all = tt
all_prefix P (x ∷ xs) ys all = (all.0, all_prefix P xs ys all.1)

all_map : {X Y : Type 0} (P : X → Type 0) (Q : Y → Type 0) (f : X → Y) (xs : List X) → ((x : X) → P x → Q (f x)) → AllByRecursion P xs → AllByRecursion Q (map f xs)
all_map P Q f [] h all = tt
all_map P Q f (x ∷ xs) h all = (h x all.0, all_map P Q f xs h all.1)

-- the lines of a result in range are in range
pub lines_fit : (f : ResultFile) → IsInRange f → AllByRecursion LineFits (lines_of f)
lines_fit f r =
    let a = r.asides in
    let last : AllByRecursion LineFits (line.End f.totals ∷ []) = (r.totals, tt) in
    let four = all_append LineFits (map (λ p. line.Probe p) f.probes) (line.End f.totals ∷ []) (all_map ProbeFits LineFits (λ p. line.Probe p) f.probes (λ x h. h) r.probes) last in
    let three = all_append LineFits (map (λ w. line.Why w) f.whys) (map (λ p. line.Probe p) f.probes ++ line.End f.totals ∷ [])
    (all_map WalkFits LineFits (λ w. line.Why w) f.whys (λ x h. h) r.whys) four in
    let two = all_append LineFits (map (λ e. line.Edge e) f.edges) (map (λ w. line.Why w) f.whys ++ (map (λ p. line.Probe p) f.probes ++ line.End f.totals ∷ []))
    (all_map EdgeFits LineFits (λ e. line.Edge e) f.edges (λ x h. h) r.edges) three in
    let one = all_append LineFits (map (λ p. line.Path p) f.paths)
    (map (λ e. line.Edge e) f.edges ++ (map (λ w. line.Why w) f.whys ++ (map (λ p. line.Probe p) f.probes ++ line.End f.totals ∷ [])))
    (all_map PathFits LineFits (λ p. line.Path p) f.paths (λ x h. h) r.paths) two in
    let body : AllByRecursion LineFits (body_lines f) = all_append LineFits (map (λ g. line.Given g) (its_givens f))
    (map (λ p. line.Path p) f.paths ++ (map (λ e. line.Edge e) f.edges ++ (map (λ w. line.Why w) f.whys ++ (map (λ p. line.Probe p) f.probes ++ line.End f.totals ∷ []))))
    (all_map GivenFits LineFits (λ g. line.Given g) (its_givens f) (λ x h. h) r.givens) one in
    (tt, (tt, (r.ratio, (a.0, (a.1, (a.2, (a.3, (a.4, (a.5, (a.6, body))))))))))

-- the version of a draft
abbrev pub its_version : Draft → Version
its_version d = version_of d.givens

-- ---- ranges, step by step

counts_fit_at : (c : Cause) (n x0 x1 x2 x3 x4 x5 x6 : ℕ) → IsU64 n → CountsFit (counts_from (x0 ∷ x1 ∷ x2 ∷ x3 ∷ x4 ∷ x5 ∷ x6 ∷ []))
    → CountsFit (counts_from (slice_set (x0 ∷ x1 ∷ x2 ∷ x3 ∷ x4 ∷ x5 ∷ x6 ∷ []) (cause_index c) n))
counts_fit_at cause.NoPath n x0 x1 x2 x3 x4 x5 x6 h a = (h, a.1, a.2, a.3, a.4, a.5, a.6)
counts_fit_at cause.BadSegments n x0 x1 x2 x3 x4 x5 x6 h a = (a.0, h, a.2, a.3, a.4, a.5, a.6)
counts_fit_at cause.Confed n x0 x1 x2 x3 x4 x5 x6 h a = (a.0, a.1, h, a.3, a.4, a.5, a.6)
counts_fit_at cause.Sets n x0 x1 x2 x3 x4 x5 x6 h a = (a.0, a.1, a.2, h, a.4, a.5, a.6)
counts_fit_at cause.Reserved n x0 x1 x2 x3 x4 x5 x6 h a = (a.0, a.1, a.2, a.3, h, a.5, a.6)
counts_fit_at cause.Loop n x0 x1 x2 x3 x4 x5 x6 h a = (a.0, a.1, a.2, a.3, a.4, h, a.6)
counts_fit_at cause.Short n x0 x1 x2 x3 x4 x5 x6 h a = (a.0, a.1, a.2, a.3, a.4, a.5, h)

counts_fit : (c : Cause) (n : ℕ) (counts : List ℕ) → length counts ≡ 7 → IsU64 n → CountsFit (counts_from counts) → CountsFit (counts_from (slice_set counts (cause_index c) n))
counts_fit c n counts seven h a =
    let s = seven_of counts seven in
    subst (λ (xs : List ℕ). CountsFit (counts_from xs) → CountsFit (counts_from (slice_set xs (cause_index c) n))) (sym s.is) (counts_fit_at c n s.a s.b s.c s.d s.e s.f s.g h) a

changed : (b : Bool) (new e : Draft) → IsInRange (file_of new) → cond b (Some new) None ≡ Some e → IsInRange (file_of e)
changed b new e r s =
    let g = if_some b (Some new) e s in
    subst (λ (x : Draft). IsInRange (file_of x)) (some_is new e g.1) r

-- no givens are in range
none_fit : (v : Version) → AllByRecursion GivenFits (its_givens (file_of (record empty_draft { givens = no_givens v })))
none_fit version.One = tt
none_fit version.Two = tt

given_in_range : (d e : Draft) (x : Given) → IsInRange (file_of d) → GivenFits x → with_given d x ≡ Some e → IsInRange (file_of e)
given_in_range d e x r h s =
    let some = some_givens d e x s in
    let old : AllByRecursion GivenFits some.0 = subst (λ (o : Option (List Given)). AllByRecursion GivenFits (its_givens (file_of (record d { givens = o })))) some.1 r.givens in
    subst (λ (y : Draft). IsInRange (file_of y)) some.2
    (record { ratio = r.ratio; asides = r.asides; givens = all_push GivenFits some.0 x old h; paths = r.paths; edges = r.edges; whys = r.whys; probes = r.probes; totals = r.totals })

step_in_range : (d e : Draft) (l : Line) → length d.counts ≡ 7 → IsInRange (file_of d) → LineFits l → step d l ≡ Some e → IsInRange (file_of e)
step_in_range d e (line.Version v) seven r h s = changed (is_head 0 d.section) (record d { givens = no_givens v; section = after_head 1 }) e
    (record { ratio = r.ratio; asides = r.asides; givens = none_fit v; paths = r.paths; edges = r.edges; whys = r.whys; probes = r.probes; totals = r.totals }) s
step_in_range d e (line.Sets x) seven r h s = changed (is_head 1 d.section) (record d { sets = x; section = after_head 2 }) e
    (record { ratio = r.ratio; asides = r.asides; givens = r.givens; paths = r.paths; edges = r.edges; whys = r.whys; probes = r.probes; totals = r.totals }) s
step_in_range d e (line.Ratio n) seven r h s = changed (is_head 2 d.section) (record d { ratio = n; section = after_head 3 }) e
    (record { ratio = h; asides = r.asides; givens = r.givens; paths = r.paths; edges = r.edges; whys = r.whys; probes = r.probes; totals = r.totals }) s
step_in_range d e (line.Aside c n) seven r h s = changed (is_head (3 + cause_index c) d.section)
    (record d { counts = slice_set d.counts (cause_index c) n; section = after_head (3 + cause_index c + 1) }) e
    (record { ratio = r.ratio; asides = counts_fit c n d.counts seven h r.asides; givens = r.givens; paths = r.paths; edges = r.edges; whys = r.whys; probes = r.probes; totals = r.totals }) s
step_in_range d e (line.Given x) seven r h s =
    let g = if_some (takes_given d.section) (with_given d x) e s in
    given_in_range d e x r h g.1
step_in_range d e (line.Path x) seven r h s = changed (takes_path d.section) (record d { section = section.Paths; paths = d.paths ++ x ∷ [] }) e
    (record { ratio = r.ratio; asides = r.asides; givens = r.givens; paths = all_push PathFits d.paths x r.paths h; edges = r.edges; whys = r.whys; probes = r.probes; totals = r.totals }) s
step_in_range d e (line.Edge x) seven r h s = changed (takes_edge d.section) (record d { section = section.Edges; edges = d.edges ++ x ∷ [] }) e
    (record { ratio = r.ratio; asides = r.asides; givens = r.givens; paths = r.paths; edges = all_push EdgeFits d.edges x r.edges h; whys = r.whys; probes = r.probes; totals = r.totals }) s
step_in_range d e (line.Why x) seven r h s = changed (takes_why d.section) (record d { section = section.Whys; whys = d.whys ++ x ∷ [] }) e
    (record { ratio = r.ratio; asides = r.asides; givens = r.givens; paths = r.paths; edges = r.edges; whys = all_push WalkFits d.whys x r.whys h; probes = r.probes; totals = r.totals }) s
step_in_range d e (line.Probe x) seven r h s = changed (takes_probe d.section) (record d { section = section.Probes; probes = d.probes ++ x ∷ [] }) e
    (record { ratio = r.ratio; asides = r.asides; givens = r.givens; paths = r.paths; edges = r.edges; whys = r.whys; probes = all_push ProbeFits d.probes x r.probes h; totals = r.totals }) s
step_in_range d e (line.End x) seven r h s = changed (takes_probe d.section) (record d { section = section.End; totals = x }) e
    (record { ratio = r.ratio; asides = r.asides; givens = r.givens; paths = r.paths; edges = r.edges; whys = r.whys; probes = r.probes; totals = h }) s

-- ---- drafts that reading can come to

pub record Reached (d : Draft) : Type 0 where
  pub seven : length d.counts ≡ 7
  pub placed : Placed d.section d
  pub in_range : IsInRange (file_of d)
  pub ran : run empty_draft (sofar d) ≡ Some d
  pub fit : AllByRecursion LineFits (sofar d)

pub start_reached : Reached empty_draft
start_reached = record {
  seven = refl;
  placed = (refl, refl, refl, refl, refl);
  in_range = record {
    ratio = omega arith;
    asides = (omega arith, omega arith, omega arith, omega arith, omega arith, omega arith, omega arith);
    givens = tt;
    paths = tt;
    edges = tt;
    whys = tt;
    probes = tt;
    totals = (omega arith, omega arith, omega arith, omega arith, omega arith);
  };
  ran = refl;
  fit = tt;
}

pub step_reached : (d e : Draft) (l : Line) → Reached d → LineFits l → step d l ≡ Some e → Reached e × (sofar e ≡ sofar d ++ l ∷ [])
step_reached d e l r h s =
    let t = step_steps d e l r.seven r.placed s in
    let ran : run empty_draft (sofar d ++ l ∷ []) ≡ Some e = run_append empty_draft (sofar d) (l ∷ []) ∙ rw (r.ran, s) refl in (
      record {
        seven = t.seven;
        placed = t.placed;
        in_range = step_in_range d e l r.seven r.in_range h s;
        ran = ap (run empty_draft) t.more ∙ ran;
        fit = subst (AllByRecursion LineFits) (sym t.more) (all_push LineFits (sofar d) l r.fit h);
      },
      t.more,
    )

regroup : (h g a b c d e : List Line) → h ++ (g ++ (a ++ (b ++ (c ++ (d ++ e))))) ≡ (h ++ ((g ++ (a ++ (b ++ (c ++ d)))) ++ [])) ++ e
regroup h g a b c d e = simp (append-nil, append_assoc)

regroup_all : (h g a b c d e : List Line) → h ++ (g ++ (a ++ (b ++ (c ++ (d ++ e))))) ≡ h ++ ((g ++ (a ++ (b ++ (c ++ d)))) ++ e)
regroup_all h g a b c d e = simp append_assoc

body_parts : (d : Draft) → lines_of (file_of d) ≡ sofar (record d { section = section.Paths }) ++ line.End d.totals ∷ []
body_parts d = regroup (head_lines (file_of d)) (map (λ g. line.Given g) (its_givens (file_of d))) (map (λ p. line.Path p) d.paths) (map (λ e. line.Edge e) d.edges)
    (map (λ w. line.Why w) d.whys) (map (λ p. line.Probe p) d.probes) (line.End d.totals ∷ [])

whole_parts : (d : Draft) → lines_of (file_of d) ≡ sofar (record d { section = section.End })
whole_parts d = regroup_all (head_lines (file_of d)) (map (λ g. line.Given g) (its_givens (file_of d))) (map (λ p. line.Path p) d.paths) (map (λ e. line.Edge e) d.edges)
    (map (λ w. line.Why w) d.whys) (map (λ p. line.Probe p) d.probes) (line.End d.totals ∷ [])

-- the lines so far are the first lines of the draft's own result
goes_on : (p : Section) (d : Draft) → Placed p d → (more : List Line) × (lines_of (file_of d) ≡ sofar (record d { section = p }) ++ more)
goes_on (section.Head n) d h =
    let nothing = no_sections d h.0 h.1 h.2 h.3 h.4 in
    let head = head_lines (file_of d) in
    let prefix : sofar (record d { section = section.Head n }) ≡ take n head = ap (λ (x : List Line). take n head ++ (x ++ [])) nothing ∙ append-nil (take n head) in (
      drop n head ++ body_lines (file_of d),
      ap (λ (x : List Line). x ++ body_lines (file_of d)) (sym (take-append-drop n head)) ∙ append_assoc (take n head) (drop n head) (body_lines (file_of d))
          ∙ ap (λ (x : List Line). x ++ (drop n head ++ body_lines (file_of d))) (sym prefix),
    )
goes_on section.Givens d h = (line.End d.totals ∷ [], body_parts d)
goes_on section.Paths d h = (line.End d.totals ∷ [], body_parts d)
goes_on section.Edges d h = (line.End d.totals ∷ [], body_parts d)
goes_on section.Whys d h = (line.End d.totals ∷ [], body_parts d)
goes_on section.Probes d h = (line.End d.totals ∷ [], body_parts d)
goes_on section.End d h = ([], whole_parts d ∙ sym (append-nil (sofar (record d { section = section.End }))))

-- ---- texts that begin alike

nothing_at : (v : Version) → line_at v [] ≡ None
unfolding line_at
nothing_at v = refl

no_line : (v : Version) (l : Line) (more : List ℕ) → LineFits l → [] ≡ line_text v l ++ more → ⊥
no_line v l more fits e =
    let some : None ≡ Some (l, more) = sym (nothing_at v) ∙ ap (line_at v) e ∙ line_again v l more fits in
    absurd (none_some (l, more) some)
  where
    none_some : (x : Line × List ℕ) → (let none : Option (Line × List ℕ) = None in none) ≡ Some x → ⊥
    none_some x e = absurd cc

-- where the lines of a text go on behind these lines
lines_begin : (v : Version) (ls fs : List Line) (rest : List ℕ) → AllByRecursion LineFits ls → AllByRecursion LineFits fs → text_of_lines v fs ≡ text_of_lines v ls ++ rest
    → (more : List Line) × (fs ≡ ls ++ more) × (text_of_lines v more ≡ rest)
lines_begin v [] fs rest a b e = (fs, refl, e)
lines_begin v (l ∷ ls) [] rest a b e = absurd (no_line v l (text_of_lines v ls ++ rest) a.0 (e ∙ append_assoc (line_text v l) (text_of_lines v ls) rest))
lines_begin v (l ∷ ls) (f ∷ fs) rest a b e =
    let left = line_again v f (text_of_lines v fs) b.0 in
    let right = line_again v l (text_of_lines v ls ++ rest) a.0 in
    let regrouped : line_text v f ++ text_of_lines v fs ≡ line_text v l ++ (text_of_lines v ls ++ rest) = e ∙ append_assoc (line_text v l) (text_of_lines v ls) rest in
    let pair : (f, text_of_lines v fs) ≡ (l, text_of_lines v ls ++ rest) =
    some_is (f, text_of_lines v fs) (l, text_of_lines v ls ++ rest) (sym left ∙ ap (line_at v) regrouped ∙ right) in
    let t = lines_begin v ls fs rest a.1 b.1 (ap (λ (p : Line × List ℕ). p.1) pair) in
    (t.0, ap (λ (p : Line × List ℕ). p.0 ∷ fs) pair ∙ ap (λ (x : List Line). l ∷ x) t.1, t.2)

-- ---- the version of a text

-- the first line is the same in both versions
first_line : (v w u : Version) → line_text v (line.Version u) ≡ line_text w (line.Version u)
unfolding line_text
first_line v w u = refl

abbrev named : Line → Version
named (line.Version v) = v
named _ = version.One

-- texts that begin alike are of one version
same_version : (v w : Version) (xs ys : List ℕ) → line_text v (line.Version v) ++ xs ≡ line_text w (line.Version w) ++ ys → v ≡ w
same_version v w xs ys e =
    let other : line_text v (line.Version v) ++ xs ≡ line_text v (line.Version w) ++ ys = e ∙ ap (λ (x : List ℕ). x ++ ys) (first_line w v w) in
    let pair : (line.Version v, xs) ≡ (line.Version w, ys) =
    some_is (line.Version v, xs) (line.Version w, ys) (sym (line_again v (line.Version v) xs tt) ∙ ap (line_at v) other ∙ line_again v (line.Version w) ys tt) in
    ap (λ (p : Line × List ℕ). named p.0) pair

-- nothing is read, or the first line has said the version
starts : (p : Section) (d : Draft) → Placed p d → (sofar (record d { section = p }) ≡ []) ⊎ ((ls : List Line) × (sofar (record d { section = p }) ≡ line.Version (its_version d) ∷ ls))
starts (section.Head zero) d h = inl (ap (λ (x : List Line). x ++ []) (no_sections d h.0 h.1 h.2 h.3 h.4))
starts (section.Head (suc n)) d h = inr (_, refl)
starts section.Givens d h = inr (_, refl)
starts section.Paths d h = inr (_, refl)
starts section.Edges d h = inr (_, refl)
starts section.Whys d h = inr (_, refl)
starts section.Probes d h = inr (_, refl)
starts section.End d h = inr (_, refl)

-- the lines of a result whose text goes on behind the lines so far: the next of them has one text in its version and in that of the draft
record Behind (d : Draft) (f : ResultFile) (rest : List ℕ) : Type 0 where
  more : List Line
  whole : lines_of f ≡ sofar d ++ more
  left : text_of_lines (version_of f.givens) more ≡ rest
  next : (l : Line) (ms : List Line) → more ≡ l ∷ ms → line_text (version_of f.givens) l ≡ line_text (its_version d) l

behind : (d : Draft) (f : ResultFile) (rest : List ℕ) → Placed d.section d → AllByRecursion LineFits (sofar d) → IsInRange f → text f ≡ text_of_lines (its_version d) (sofar d) ++ rest
    → Behind d f rest
behind d f rest placed fit r e = elim (starts d.section d placed) [
  | inl none ↦ record {
    more = lines_of f;
    whole = ap (λ (x : List Line). x ++ lines_of f) (sym none);
    left = e ∙ ap (λ (x : List Line). text_of_lines (its_version d) x ++ rest) none;
    next = λ l ms is. first is;
  }
  | inr some ↦
      let v = version_of f.givens in
      let w = its_version d in
      let begins : text_of_lines w (sofar d) ++ rest ≡ line_text w (line.Version w) ++ (text_of_lines w some.0 ++ rest) =
      ap (λ (x : List Line). text_of_lines w x ++ rest) some.1 ∙ append_assoc (line_text w (line.Version w)) (text_of_lines w some.0) rest in
      let same : v ≡ w = same_version v w _ (text_of_lines w some.0 ++ rest) (e ∙ begins) in
      let b = lines_begin v (sofar d) (lines_of f) rest fit (lines_fit f r) (e ∙ ap (λ (u : Version). text_of_lines u (sofar d) ++ rest) (sym same)) in
      record { more = b.0; whole = b.1; left = b.2; next = λ l ms is. ap (λ (u : Version). line_text u l) same }
]
  where
    first : {l : Line} {ms : List Line} → lines_of f ≡ l ∷ ms → line_text (version_of f.givens) l ≡ line_text (its_version d) l
    first {l} {ms} is =
        let same : line.Version (version_of f.givens) ≡ l = cc in
        ap (λ (x : Line). line_text (version_of f.givens) x) (sym same) ∙ first_line (version_of f.givens) (its_version d) (version_of f.givens)
        ∙ ap (λ (x : Line). line_text (its_version d) x) same

all_back : {X : Type 0} (P : X → Type 0) (xs ys : List X) → AllByRecursion P (xs ++ ys) → AllByRecursion P ys
all_back P [] ys all = all
all_back P (x ∷ xs) ys all = all_back P xs ys all.1

map_some : {A B : Type 0} (f : A → B) (o : Option A) (y : B) → option_map f o ≡ Some y → (x : A) × (o ≡ Some x) × (f x ≡ y)
map_some f (Some x) y e = (x, refl, some_is (f x) y e)
map_some f None y e = absurd cc

-- the first lines are the first lines of themselves, and the bytes go on behind them
first_again : (n : ℕ) (bytes prefix more : List ℕ) → first_lines n bytes ≡ Some prefix → first_lines n (prefix ++ more) ≡ Some prefix
first_again zero bytes prefix more e = e
first_again (suc n) [] prefix more e = absurd cc
first_again (suc n) (b ∷ bytes) prefix more e =
    let m = cond (eqb b 10) n (suc n) in
    let t = map_some (λ (f : List ℕ). b ∷ f) (first_lines m bytes) prefix e in
    let rest = first_again m bytes t.0 more t.1 in
    let one : first_lines (suc n) ((b ∷ t.0) ++ more) ≡ Some (b ∷ t.0) = ap (option_map (λ (f : List ℕ). b ∷ f)) rest in
    subst (λ (f : List ℕ). first_lines (suc n) (f ++ more) ≡ Some f) t.2 one

first_rest : (n : ℕ) (bytes prefix : List ℕ) → first_lines n bytes ≡ Some prefix → (rest : List ℕ) × (bytes ≡ prefix ++ rest)
first_rest zero bytes prefix e = (bytes, ap (λ (f : List ℕ). f ++ bytes) (some_is [] prefix e))
first_rest (suc n) [] prefix e = absurd cc
first_rest (suc n) (b ∷ bytes) prefix e =
    let m = cond (eqb b 10) n (suc n) in
    let t = map_some (λ (f : List ℕ). b ∷ f) (first_lines m bytes) prefix e in
    let more = first_rest m bytes t.0 t.1 in
    (more.0, ap (λ (x : List ℕ). b ∷ x) more.1 ∙ ap (λ (f : List ℕ). f ++ more.0) t.2)

-- ---- lines that go well

goes_well : (ls more : List Line) (rest : List ℕ) (f : ResultFile) → IsInRange f → AllByRecursion LineFits ls → lines_of f ≡ ls ++ more
    → GoesWell (length ls) (text_of_lines (version_of f.givens) ls ++ rest)
goes_well ls more rest f in_range fit e =
    let v = version_of f.givens in
    let count : length ls + 0 ≡ length ls = omega arith in
    let prefix : first_lines (length ls) (text_of_lines v ls ++ rest) ≡ Some (text_of_lines v ls ++ []) = ap (λ (k : ℕ). first_lines k (text_of_lines v ls ++ rest)) (sym count)
    ∙ lines_first v ls rest 0 fit in
    let encoded : (text_of_lines v ls ++ []) ++ text_of_lines v more ≡ text f = ap (λ (x : List ℕ). x ++ text_of_lines v more) (append-nil (text_of_lines v ls))
    ∙ sym (flat_map-append (line_text v) ls more) ∙ ap (text_of_lines v) (sym e) in
    let begins : BeginsText (text_of_lines v ls ++ []) = (text_of_lines v more, (f, record { in_range = in_range; encoded = encoded })) in
    subst (λ (o : Option (List ℕ)). IsSomeAnd o BeginsText) (sym prefix) begins

-- the text of the lines so far
abbrev pub text_sofar : Draft → List ℕ
text_sofar d = text_of_lines (its_version d) (sofar d)

well_before : (d : Draft) (rest : List ℕ) → Reached d → (m : ℕ) → m ≤ length (sofar d) → GoesWell m (text_sofar d ++ rest)
well_before d rest r m le =
    let v = its_version d in
    let ls = take m (sofar d) in
    let ms = drop m (sofar d) in
    let split : ls ++ ms ≡ sofar d = take-append-drop m (sofar d) in
    let on = goes_on d.section d r.placed in
    let whole : lines_of (file_of d) ≡ ls ++ (ms ++ on.0) = on.1 ∙ ap (λ (x : List Line). x ++ on.0) (sym split) ∙ append_assoc ls ms on.0 in
    let fit : AllByRecursion LineFits ls = all_prefix LineFits ls ms (subst (AllByRecursion LineFits) (sym split) r.fit) in
    let well = goes_well ls (ms ++ on.0) (text_of_lines v ms ++ rest) (file_of d) r.in_range fit whole in
    let bytes : text_of_lines v ls ++ (text_of_lines v ms ++ rest) ≡ text_sofar d ++ rest = sym (append_assoc (text_of_lines v ls) (text_of_lines v ms) rest)
    ∙ ap (λ (x : List ℕ). x ++ rest) (sym (flat_map-append (line_text v) ls ms) ∙ ap (text_of_lines v) split) in
    subst (λ (k : ℕ). GoesWell k (text_sofar d ++ rest)) (length-take-le m (sofar d) le) (subst (λ (x : List ℕ). GoesWell (length ls) x) bytes well)

-- ---- where a text can't go on

-- no line that comes next may come here
abbrev pub Stops : Draft → List ℕ → Type 0
Stops d rest = (l : Line) (after : List ℕ) → line_at (its_version d) rest ≡ Some (l, after) → step d l ≡ None

pub none_is_some : {A : Type 0} (x : A) → (let none : Option A = None in none) ≡ Some x → ⊥
none_is_some x e = absurd cc

-- a result whose lines begin with those so far goes on from the draft
runs_on : (d : Draft) (f : ResultFile) (more : List Line) → Reached d → lines_of f ≡ sofar d ++ more → run d more ≡ Some (done f)
runs_on d f more r e =
    let whole : run empty_draft (sofar d ++ more) ≡ run d more = run_append empty_draft (sofar d) more ∙ rw r.ran refl in
    sym whole ∙ ap (run empty_draft) (sym e) ∙ runs_to_end f

no_step : (d : Draft) (rest after : List ℕ) (l : Line) (ms : List Line) (f : ResultFile) → Stops d rest → LineFits l → rest ≡ line_text (its_version d) l ++ after
    → run d (l ∷ ms) ≡ Some (done f) → ⊥
no_step d rest after l ms f stops fits e runs =
    let v = its_version d in
    let none : step d l ≡ None = stops l after (ap (line_at v) e ∙ line_again v l after fits) in
    let stopped : run d (l ∷ ms) ≡ None = rw none refl in
    none_is_some (done f) (sym stopped ∙ runs)

-- the lines of the result that are behind those so far are in range
fit_behind : (d : Draft) (f : ResultFile) (more : List Line) → IsInRange f → lines_of f ≡ sofar d ++ more → AllByRecursion LineFits more
fit_behind d f more r whole = all_back LineFits (sofar d) more (subst (AllByRecursion LineFits) whole (lines_fit f r))

no_text : (d : Draft) (rest : List ℕ) → Reached d → Stops d rest → (rest ≡ [] → finished d ≡ None) → IsText (text_sofar d ++ rest) → ⊥
no_text d rest r stops unfinished t =
    let f = t.0 in
    let b = behind d f rest r.placed r.fit t.1.in_range (sym t.1.encoded) in
    by_more b.more (fit_behind d f b.more t.1.in_range b.whole) b.left b.next (runs_on d f b.more r b.whole)
  where
    by_more : (more : List Line) → AllByRecursion LineFits more → text_of_lines (version_of t.0.givens) more ≡ rest
        → ((l : Line) (ms : List Line) → more ≡ l ∷ ms → line_text (version_of t.0.givens) l ≡ line_text (its_version d) l)
        → run d more ≡ Some (done t.0) → ⊥
    by_more [] fit e next runs =
        let ended : finished (done t.0) ≡ None = ap finished (sym (some_is d (done t.0) runs)) ∙ unfinished (sym e) in
        none_is_some (file_of (done t.0)) (sym ended)
    by_more (l ∷ ms) fit e next runs =
        let after = text_of_lines (version_of t.0.givens) ms in
        no_step d rest after l ms t.0 stops fit.0 (sym e ∙ ap (λ (x : List ℕ). x ++ after) (next l ms refl)) runs

no_next : (d : Draft) (rest : List ℕ) → Reached d → Stops d rest → GoesWell (length (sofar d) + 1) (text_sofar d ++ rest) → ⊥
no_next d rest r stops well =
    by_first (first_lines 1 rest) refl (subst (λ (o : Option (List ℕ)). IsSomeAnd o BeginsText) (lines_first (its_version d) (sofar d) rest 1 r.fit) well)
  where
    by_more : (prefix more : List ℕ) (f : ResultFile) (ms : List Line) → first_lines 1 rest ≡ Some prefix → AllByRecursion LineFits ms
        → text_of_lines (version_of f.givens) ms ≡ prefix ++ more
        → ((l : Line) (ls : List Line) → ms ≡ l ∷ ls → line_text (version_of f.givens) l ≡ line_text (its_version d) l)
        → run d ms ≡ Some (done f) → ⊥
    by_more prefix more f [] is fit e next runs = none_is_some prefix (ap (first_lines 1) e ∙ first_again 1 rest prefix more is)
    by_more prefix more f (l ∷ ms) is fit e next runs =
        let v = version_of f.givens in
        let one : first_lines 1 (line_text v l ++ text_of_lines v ms) ≡ Some (line_text v l ++ []) = line_first v l (text_of_lines v ms) 0 fit.0 in
        let same : prefix ≡ line_text v l ++ [] = some_is prefix (line_text v l ++ []) (sym (first_again 1 rest prefix more is) ∙ ap (first_lines 1) (sym e) ∙ one) in
        let left = first_rest 1 rest prefix is in
        let encoded : rest ≡ line_text (its_version d) l ++ left.0 = left.1 ∙ ap (λ (x : List ℕ). x ++ left.0) (same ∙ append-nil (line_text v l) ∙ next l ms refl) in
        no_step d rest left.0 l ms f stops fit.0 encoded runs

    by_first : (o : Option (List ℕ)) → first_lines 1 rest ≡ o → IsSomeAnd (option_map (λ f. text_sofar d ++ f) o) BeginsText → ⊥
    by_first None is h = h
    by_first (Some prefix) is h =
        let f = h.1.0 in
        let t = h.1.1 in
        let b = behind d f (prefix ++ h.0) r.placed r.fit t.in_range (sym t.encoded ∙ append_assoc (text_sofar d) prefix h.0) in
        by_more prefix h.0 f b.more is (fit_behind d f b.more t.in_range b.whole) b.left b.next (runs_on d f b.more r b.whole)

-- ---- what reading comes to

pub bad_line : (d : Draft) (bytes rest : List ℕ) → Reached d → bytes ≡ text_sofar d ++ rest → Stops d rest → (rest ≡ [] → finished d ≡ None) → IsBadLine (length (sofar d) + 1) bytes
bad_line d bytes rest r e stops unfinished = subst (IsBadLine (length (sofar d) + 1)) (sym e) (record {
  outside = no_text d rest r stops unfinished;
  bad = no_next d rest r stops;
  least = λ m less. well_before d rest r m (omega arith);
})

finished_at : (p : Section) (d : Draft) (f : ResultFile) → finished (record d { section = p }) ≡ Some f → (p ≡ section.End) × (file_of d ≡ f)
finished_at (section.Head n) d f e = absurd cc
finished_at section.Givens d f e = absurd cc
finished_at section.Paths d f e = absurd cc
finished_at section.Edges d f e = absurd cc
finished_at section.Whys d f e = absurd cc
finished_at section.Probes d f e = absurd cc
finished_at section.End d f e = (refl, some_is (file_of d) f e)

pub is_text : (d : Draft) (bytes : List ℕ) (f : ResultFile) → Reached d → bytes ≡ text_sofar d ++ [] → finished d ≡ Some f → IsTextOf f bytes
is_text d bytes f r e ends =
    let t = finished_at d.section d f ends in
    let all : sofar d ≡ lines_of (file_of d) = ap (λ (p : Section). sofar (record d { section = p })) t.0 ∙ sym (whole_parts d) in
    subst (λ (g : ResultFile). IsTextOf g bytes) t.1 (record { in_range = r.in_range; encoded = e ∙ append-nil (text_sofar d) ∙ ap (text_of_lines (its_version d)) all })

-- ---- each text has one value

pub one_value : (f g : ResultFile) → IsInRange f → IsInRange g → text f ≡ text g → f ≡ g
one_value f g r s e =
    let v = version_of f.givens in
    let w = version_of g.givens in
    let versions : v ≡ w = same_version v w _ _ e in
    let alike : text_of_lines v (lines_of f) ≡ text_of_lines v (lines_of g) ++ [] = e ∙ ap (λ (u : Version). text_of_lines u (lines_of g)) (sym versions)
    ∙ sym (append-nil (text_of_lines v (lines_of g))) in
    let b = lines_begin v (lines_of g) (lines_of f) [] (lines_fit g s) (lines_fit f r) alike in
    let fit = all_back LineFits (lines_of g) b.0 (subst (AllByRecursion LineFits) b.1 (lines_fit f r)) in
    let none : b.0 ≡ [] = no_lines v b.0 fit b.2 in
    let same : lines_of f ≡ lines_of g = b.1 ∙ ap (λ (x : List Line). lines_of g ++ x) none ∙ append-nil (lines_of g) in
    let ends : done f ≡ done g = some_is (done f) (done g) (sym (runs_to_end f) ∙ ap (run empty_draft) same ∙ runs_to_end g) in
    ap file_of ends
  where
    no_lines : (v : Version) (ls : List Line) → AllByRecursion LineFits ls → text_of_lines v ls ≡ [] → ls ≡ []
    no_lines v [] fit e = refl
    no_lines v (l ∷ ls) fit e = absurd (no_line v l (text_of_lines v ls) fit.0 (sym e))

-- ---- the loop over the lines

pub record Progress (d : Draft) (bytes rest : List ℕ) (read : ℕ) : Type 0 where
  pub reached : Reached d
  pub encoded : bytes ≡ text_sofar d ++ rest
  pub count : length (sofar d) ≡ read

line_long : (v : Version) (l : Line) → 0 < length (line_text v l)
unfolding line_text
line_long v l = omega (arith, length-append (fields (fields_of v l)) (10 ∷ []))

pub next_parts : (d e : Draft) (rest after : List ℕ) → next_at d rest ≡ Some (e, after) → (l : Line) × (line_at (its_version d) rest ≡ Some (l, after)) × (step d l ≡ Some e)
unfolding next_at
next_parts d e rest after n =
    let a = bind_some (line_at (its_version d) rest) (λ x. step d x.0 >>= λ e. Some (e, x.1)) (e, after) n in
    let b = bind_some (step d a.0.0) (λ e. Some (e, a.0.1)) (e, after) a.2 in
    let pair : (b.0, a.0.1) ≡ (e, after) = some_is (b.0, a.0.1) (e, after) b.2 in
    (a.0.0, a.1 ∙ ap (λ (r : List ℕ). Some (a.0.0, r)) (ap (λ (p : Draft × List ℕ). p.1) pair), b.1 ∙ ap (λ (x : Draft). Some x) (ap (λ (p : Draft × List ℕ). p.0) pair))

pub next_shorter : (d e : Draft) (rest after : List ℕ) → next_at d rest ≡ Some (e, after) → length after < length rest
next_shorter d e rest after n =
    let t = next_parts d e rest after n in
    let r = line_takes (its_version d) rest (t.0, after) t.1 in
    omega (arith, ap length r.1, line_long (its_version d) t.0, length-append (line_text (its_version d) t.0) after)

pub progress_starts : (bytes : List ℕ) → Progress empty_draft bytes bytes 0
progress_starts bytes = record { reached = start_reached; encoded = refl; count = refl }

-- a step that changes no version
kept : (b : Bool) (d new e : Draft) → its_version new ≡ its_version d → cond b (Some new) None ≡ Some e → its_version e ≡ its_version d
kept b d new e same s =
    let g = if_some b (Some new) e s in
    ap its_version (sym (some_is new e g.1)) ∙ same

-- a line more changes the version only where it is the first, whose text is the same in both
version_stays : (d e : Draft) (l : Line) → step d l ≡ Some e → (its_version e ≡ its_version d) ⊎ ((d.section ≡ section.Head 0) × ((v : Version) × (l ≡ line.Version v)))
version_stays d e (line.Version v) s = inr (head_section 0 d.section (if_some (is_head 0 d.section) (Some (record d { givens = no_givens v; section = after_head 1 })) e s).0, (v, refl))
version_stays d e (line.Sets x) s = inl (kept (is_head 1 d.section) d (record d { sets = x; section = after_head 2 }) e refl s)
version_stays d e (line.Ratio n) s = inl (kept (is_head 2 d.section) d (record d { ratio = n; section = after_head 3 }) e refl s)
version_stays d e (line.Aside c n) s = inl (kept (is_head (3 + cause_index c) d.section) d
    (record d { counts = slice_set d.counts (cause_index c) n; section = after_head (3 + cause_index c + 1) }) e refl s)
version_stays d e (line.Given x) s =
    let some = some_givens d e x (if_some (takes_given d.section) (with_given d x) e s).1 in
    inl (ap its_version (sym some.2) ∙ ap version_of (sym some.1))
version_stays d e (line.Path x) s = inl (kept (takes_path d.section) d (record d { section = section.Paths; paths = d.paths ++ x ∷ [] }) e refl s)
version_stays d e (line.Edge x) s = inl (kept (takes_edge d.section) d (record d { section = section.Edges; edges = d.edges ++ x ∷ [] }) e refl s)
version_stays d e (line.Why x) s = inl (kept (takes_why d.section) d (record d { section = section.Whys; whys = d.whys ++ x ∷ [] }) e refl s)
version_stays d e (line.Probe x) s = inl (kept (takes_probe d.section) d (record d { section = section.Probes; probes = d.probes ++ x ∷ [] }) e refl s)
version_stays d e (line.End x) s = inl (kept (takes_probe d.section) d (record d { section = section.End; totals = x }) e refl s)

-- so the text of the lines so far goes on with that of the line
text_grows : (d e : Draft) (l : Line) → Reached d → step d l ≡ Some e → sofar e ≡ sofar d ++ l ∷ [] → text_sofar e ≡ text_sofar d ++ line_text (its_version d) l
text_grows d e l r s more = elim (version_stays d e l s) [
  | inl same ↦
      ap (λ (u : Version). text_of_lines u (sofar e)) same ∙ ap (text_of_lines (its_version d)) more ∙ flat_map-append (line_text (its_version d)) (sofar d) (l ∷ [])
      ∙ ap (λ (x : List ℕ). text_sofar d ++ x) (append-nil (line_text (its_version d) l))
  | inr first ↦
      let placed : Placed (section.Head 0) d = subst (λ (p : Section). Placed p d) first.0 r.placed in
      let nothing : sofar d ≡ [] = ap (λ (p : Section). sofar (record d { section = p })) first.0
      ∙ ap (λ (x : List Line). x ++ []) (no_sections d placed.0 placed.1 placed.2 placed.3 placed.4) in
      let alone : sofar e ≡ l ∷ [] = more ∙ ap (λ (x : List Line). x ++ l ∷ []) nothing in
      let texts : line_text (its_version e) l ≡ line_text (its_version d) l = ap (λ (x : Line). line_text (its_version e) x) first.1.1
      ∙ first_line (its_version e) (its_version d) first.1.0 ∙ ap (λ (x : Line). line_text (its_version d) x) (sym first.1.1) in
      ap (text_of_lines (its_version e)) alone ∙ append-nil (line_text (its_version e) l) ∙ texts
      ∙ ap (λ (x : List Line). text_of_lines (its_version d) x ++ line_text (its_version d) l) (sym nothing)
]

pub progress_goes_on : (d e : Draft) (bytes rest after : List ℕ) (read : ℕ) → Progress d bytes rest read → next_at d rest ≡ Some (e, after) → Progress e bytes after (read + 1)
progress_goes_on d e bytes rest after read p n =
    let t = next_parts d e rest after n in
    let v = its_version d in
    let r = line_takes v rest (t.0, after) t.1 in
    let s = step_reached d e t.0 p.reached r.0 t.2 in
    let lines = text_grows d e t.0 p.reached t.2 s.1 in
    record {
      reached = s.0;
      encoded = p.encoded ∙ ap (λ (x : List ℕ). text_sofar d ++ x) r.1 ∙ sym (append_assoc (text_sofar d) (line_text v t.0) after) ∙ ap (λ (x : List ℕ). x ++ after) (sym lines);
      count = ap length s.1 ∙ length-append (sofar d) (t.0 ∷ []) ∙ ap (λ (k : ℕ). k + 1) p.count;
    }

stops_where_none : (d : Draft) (rest : List ℕ) → next_at d rest ≡ None → Stops d rest
unfolding next_at
stops_where_none d rest n l after e = by_step (step d l) (sym (rw e refl) ∙ n)
  where
    by_step : (o : Option Draft) → (o >>= λ e. let s : Option (Draft × List ℕ) = Some (e, after) in s) ≡ None → o ≡ None
    by_step (Some x) h = absurd cc
    by_step None h = refl

pub stopped : (d : Draft) (bytes rest : List ℕ) (read : ℕ) → Progress d bytes rest read → length rest ≢ 0 → next_at d rest ≡ None → IsBadLine (read + 1) bytes
stopped d bytes rest read p some n =
    subst (λ (k : ℕ). IsBadLine (k + 1) bytes) p.count (bad_line d bytes rest p.reached p.encoded (stops_where_none d rest n) (λ e. absurd (some (ap length e))))

pub unfinished : (d : Draft) (bytes rest : List ℕ) (read : ℕ) → Progress d bytes rest read → rest ≡ [] → finished d ≡ None → IsBadLine (read + 1) bytes
unfinished d bytes rest read p e n =
    let v = its_version d in
    let stops : Stops d rest = λ l after s. absurd (none_is_some (l, after) (sym (nothing_at v) ∙ ap (line_at v) (sym e) ∙ s)) in
    subst (λ (k : ℕ). IsBadLine (k + 1) bytes) p.count (bad_line d bytes rest p.reached p.encoded stops (λ _. n))

pub whole_text : (d : Draft) (bytes rest : List ℕ) (read : ℕ) (f : ResultFile) → Progress d bytes rest read → rest ≡ [] → finished d ≡ Some f → IsTextOf f bytes
whole_text d bytes rest read f p e ends = is_text d bytes f p.reached (p.encoded ∙ ap (λ (x : List ℕ). text_sofar d ++ x) e) ends
