-- Lines in order: each result's lines are read to its end, and what is read so far can be gone on with.
use Rattle.std.proofs.Common.{◌≡◌, ℕ, ◌+◌, Bool, true, cond, List, [], ◌∷◌, ◌++◌, length, map, take, Option, Some, None, refl, sym, ap, subst, ◌∙◌, append_assoc, arith}
use Rattle.std.specs.Prelude.{slice_set, option_map}
use Rattle.std.proofs.lemmas.Bool.{eqb-true}
use Rattle.std.proofs.lemmas.List.{append-nil, map_push}
use Rattle.path_clean.specs.declared.cleaned.Cause.{Cause}
use Rattle.path_clean.specs.declared.cleaned.Cause.TheVariants as cause
use Rattle.path_clean.specs.Counts.{CauseCounts}
use Rattle.result_text.specs.declared.file.ResultFile.{ResultFile}
use Rattle.result_text.specs.declared.file.PathLine.{PathLine}
use Rattle.result_text.specs.declared.file.EdgeLine.{EdgeLine}
use Rattle.relationships.specs.declared.given.Given.{Given}
use Rattle.relationships.specs.declared.mark.Probe.{Probe}
use Rattle.result_text.specs.declared.file.Totals.{Totals}
use Rattle.relationships.specs.declared.walk.Walk.{Walk}
use Rattle.result_text.specs.declared.line.Line.{Line}
use Rattle.result_text.specs.declared.line.Line.TheVariants as line
use Rattle.result_text.specs.declared.line.Version.{Version}
use Rattle.result_text.specs.declared.line.Version.TheVariants as version
use Rattle.result_text.specs.declared.draft.Draft.{Draft}
use Rattle.result_text.specs.declared.draft.Section.{Section}
use Rattle.result_text.specs.declared.draft.Section.TheVariants as section
use Rattle.result_text.specs.Text.{version_of, its_givens, head_lines, body_lines, lines_of}
use Rattle.text_fields.specs.Reading.{◌>>=◌}
use Rattle.result_text.specs.Order.{cause_index, is_head, after_head, takes_given, takes_path, takes_edge, takes_why, takes_probe, pass_head, no_givens, with_given, step, empty_draft, file_of}
use Rattle.text_fields.proofs.Readers.{some_is, if_some}

-- the lines one after the other
abbrev pub run : Draft → List Line → Option Draft
run d [] = Some d
run d (l ∷ ls) = step d l >>= λ e. run e ls

pub run_append : (d : Draft) (ls ms : List Line) → run d (ls ++ ms) ≡ (run d ls >>= λ e. run e ms)
run_append d [] ms = refl
run_append d (l ∷ ls) ms = by_step (λ e. run_append e ls ms) (step d l)
  where
    by_step : ((e : Draft) → run e (ls ++ ms) ≡ (run e ls >>= λ f. run f ms)) → (o : Option Draft) → (o >>= λ e. run e (ls ++ ms)) ≡ ((o >>= λ e. run e ls) >>= λ e. run e ms)
    by_step rest (Some e) = rest e
    by_step rest None = refl

-- ---- each result is read to its end

abbrev pub listed : CauseCounts → List ℕ
listed c = c.no_path ∷ c.bad_segments ∷ c.confed ∷ c.sets ∷ c.reserved ∷ c.loop ∷ c.short ∷ []

-- the draft of a result that is read
abbrev pub done : ResultFile → Draft
done f = record {
  section = section.End;
  sets = f.sets;
  ratio = f.ratio;
  counts = listed f.asides;
  givens = f.givens;
  paths = f.paths;
  edges = f.edges;
  whys = f.whys;
  probes = f.probes;
  totals = f.totals;
}

path_takes_edge : (q : Section) → takes_path q ≡ true → takes_edge q ≡ true
path_takes_edge (section.Head n) t = absurd cc
path_takes_edge section.Givens t = refl
path_takes_edge section.Paths t = refl
path_takes_edge section.Edges t = absurd cc
path_takes_edge section.Whys t = absurd cc
path_takes_edge section.Probes t = absurd cc
path_takes_edge section.End t = absurd cc

edge_takes_why : (q : Section) → takes_edge q ≡ true → takes_why q ≡ true
edge_takes_why (section.Head n) t = absurd cc
edge_takes_why section.Givens t = refl
edge_takes_why section.Paths t = refl
edge_takes_why section.Edges t = refl
edge_takes_why section.Whys t = refl
edge_takes_why section.Probes t = absurd cc
edge_takes_why section.End t = absurd cc

why_takes_probe : (q : Section) → takes_why q ≡ true → takes_probe q ≡ true
why_takes_probe (section.Head n) t = absurd cc
why_takes_probe section.Givens t = refl
why_takes_probe section.Paths t = refl
why_takes_probe section.Edges t = refl
why_takes_probe section.Whys t = refl
why_takes_probe section.Probes t = refl
why_takes_probe section.End t = absurd cc

-- a section goes through
givens_run : (d : Draft) (old gs : List Given) (more : List Line) → run (record d { section = section.Givens; givens = Some old }) (map (λ g. line.Given g) gs ++ more) ≡ run
    (record d { section = section.Givens; givens = Some (old ++ gs) }) more
givens_run d old [] more = ap (λ (gs : List Given). run (record d { section = section.Givens; givens = Some gs }) more) (sym (append-nil old))
givens_run d old (g ∷ gs) more = givens_run d (old ++ g ∷ []) gs more ∙ ap
    (λ (hs : List Given). run (record d { section = section.Givens; givens = Some hs }) more) (append_assoc old (g ∷ []) gs)

paths_run : (d : Draft) (ps : List PathLine) (more : List Line) → takes_path d.section ≡ true
    → (q : Section) × (takes_path q ≡ true) × (run d (map (λ p. line.Path p) ps ++ more) ≡ run (record d { section = q; paths = d.paths ++ ps }) more)
paths_run d [] more t = (d.section, t, ap (λ (ps : List PathLine). run (record d { paths = ps }) more) (sym (append-nil d.paths)))
paths_run d (p ∷ ps) more t =
    let next = paths_run (record d { section = section.Paths; paths = d.paths ++ p ∷ [] }) ps more refl in
    let one : run d (line.Path p ∷ (map (λ p. line.Path p) ps ++ more)) ≡ run (record d { section = section.Paths; paths = d.paths ++ p ∷ [] }) (map (λ p. line.Path p) ps ++ more) = rw t refl in
    (next.0, next.1, one ∙ next.2 ∙ ap (λ (xs : List PathLine). run (record d { section = next.0; paths = xs }) more) (append_assoc d.paths (p ∷ []) ps))

edges_run : (d : Draft) (es : List EdgeLine) (more : List Line) → takes_edge d.section ≡ true
    → (q : Section) × (takes_edge q ≡ true) × (run d (map (λ e. line.Edge e) es ++ more) ≡ run (record d { section = q; edges = d.edges ++ es }) more)
edges_run d [] more t = (d.section, t, ap (λ (es : List EdgeLine). run (record d { edges = es }) more) (sym (append-nil d.edges)))
edges_run d (e ∷ es) more t =
    let next = edges_run (record d { section = section.Edges; edges = d.edges ++ e ∷ [] }) es more refl in
    let one : run d (line.Edge e ∷ (map (λ e. line.Edge e) es ++ more)) ≡ run (record d { section = section.Edges; edges = d.edges ++ e ∷ [] }) (map (λ e. line.Edge e) es ++ more) = rw t refl in
    (next.0, next.1, one ∙ next.2 ∙ ap (λ (xs : List EdgeLine). run (record d { section = next.0; edges = xs }) more) (append_assoc d.edges (e ∷ []) es))

whys_run : (d : Draft) (ws : List Walk) (more : List Line) → takes_why d.section ≡ true
    → (q : Section) × (takes_why q ≡ true) × (run d (map (λ w. line.Why w) ws ++ more) ≡ run (record d { section = q; whys = d.whys ++ ws }) more)
whys_run d [] more t = (d.section, t, ap (λ (ws : List Walk). run (record d { whys = ws }) more) (sym (append-nil d.whys)))
whys_run d (w ∷ ws) more t =
    let next = whys_run (record d { section = section.Whys; whys = d.whys ++ w ∷ [] }) ws more refl in
    let one : run d (line.Why w ∷ (map (λ w. line.Why w) ws ++ more)) ≡ run (record d { section = section.Whys; whys = d.whys ++ w ∷ [] }) (map (λ w. line.Why w) ws ++ more) = rw t refl in
    (next.0, next.1, one ∙ next.2 ∙ ap (λ (xs : List Walk). run (record d { section = next.0; whys = xs }) more) (append_assoc d.whys (w ∷ []) ws))

probes_run : (d : Draft) (ps : List Probe) (more : List Line) → takes_probe d.section ≡ true
    → (q : Section) × (takes_probe q ≡ true) × (run d (map (λ p. line.Probe p) ps ++ more) ≡ run (record d { section = q; probes = d.probes ++ ps }) more)
probes_run d [] more t = (d.section, t, ap (λ (ps : List Probe). run (record d { probes = ps }) more) (sym (append-nil d.probes)))
probes_run d (p ∷ ps) more t =
    let next = probes_run (record d { section = section.Probes; probes = d.probes ++ p ∷ [] }) ps more refl in
    let one : run d (line.Probe p ∷ (map (λ p. line.Probe p) ps ++ more)) ≡ run (record d { section = section.Probes; probes = d.probes ++ p ∷ [] }) (map (λ p. line.Probe p) ps ++ more) = rw t refl in
    (next.0, next.1, one ∙ next.2 ∙ ap (λ (xs : List Probe). run (record d { section = next.0; probes = xs }) more) (append_assoc d.probes (p ∷ []) ps))

-- where the ten first lines are read, and there are these givens
headed : ResultFile → Option (List Given) → Draft
headed f givens = record {
  section = section.Givens;
  sets = f.sets;
  ratio = f.ratio;
  counts = listed f.asides;
  givens = givens;
  paths = [];
  edges = [];
  whys = [];
  probes = [];
  totals = record { kept = 0; lost = 0; edges = 0; forced = 0; peers = 0 };
}

head_run : (f : ResultFile) (more : List Line) → run empty_draft (head_lines f ++ more) ≡ run (headed f (no_givens (version_of f.givens))) more
unfolding headed
head_run f more = refl

-- the given lines of a result that has these
its_givens_run : (f : ResultFile) (givens : Option (List Given)) (more : List Line)
    → run (headed f (no_givens (version_of givens))) (map (λ g. line.Given g) (its_givens (record f { givens = givens })) ++ more) ≡ run (headed f givens) more
unfolding headed
its_givens_run f None more = refl
its_givens_run f (Some gs) more = givens_run (headed f None) [] gs more

pub runs_to_end : (f : ResultFile) → run empty_draft (lines_of f) ≡ Some (done f)
unfolding headed
runs_to_end f =
    let d0 = headed f f.givens in
    let m4 : List Line = line.End f.totals ∷ [] in
    let m3 : List Line = map (λ p. line.Probe p) f.probes ++ m4 in
    let m2 : List Line = map (λ w. line.Why w) f.whys ++ m3 in
    let m1 : List Line = map (λ e. line.Edge e) f.edges ++ m2 in
    let m0 : List Line = map (λ p. line.Path p) f.paths ++ m1 in
    let a = paths_run d0 f.paths m1 refl in
    let d1 : Draft = record d0 { section = a.0; paths = f.paths } in
    let b = edges_run d1 f.edges m2 (path_takes_edge a.0 a.1) in
    let d2 : Draft = record d1 { section = b.0; edges = f.edges } in
    let c = whys_run d2 f.whys m3 (edge_takes_why b.0 b.1) in
    let d3 : Draft = record d2 { section = c.0; whys = f.whys } in
    let d = probes_run d3 f.probes m4 (why_takes_probe c.0 c.1) in
    let d4 : Draft = record d3 { section = d.0; probes = f.probes } in
    let last : run d4 m4 ≡ Some (done f) = rw d.1 refl in
    let begun : run empty_draft (lines_of f) ≡ run d0 m0 = head_run f (body_lines f) ∙ its_givens_run f f.givens m0 in
    begun ∙ a.2 ∙ b.2 ∙ c.2 ∙ ◌∙◌ {b = run d4 m4} d.2 last

-- ---- what is read so far

-- the lines of the sections
abbrev pub sections : List Given → List PathLine → List EdgeLine → List Walk → List Probe → List Line
sections gs ps es ws os =
    map (λ g. line.Given g) gs ++ (map (λ p. line.Path p) ps ++ (map (λ e. line.Edge e) es ++ (map (λ w. line.Why w) ws ++ map (λ p. line.Probe p) os)))

-- the givens that are read so far
abbrev pub givens_of : Draft → List Given
givens_of d = its_givens (file_of d)

abbrev pub sections_of : Draft → List Line
sections_of d = sections (givens_of d) d.paths d.edges d.whys d.probes

abbrev pub head_part : Section → ResultFile → List Line
head_part (section.Head n) f = take n (head_lines f)
head_part _ f = head_lines f

abbrev pub end_part : Section → ResultFile → List Line
end_part section.End f = line.End f.totals ∷ []
end_part _ f = []

-- the lines that are read so far
abbrev pub sofar : Draft → List Line
sofar d = head_part d.section (file_of d) ++ (sections_of d ++ end_part d.section (file_of d))

-- the sections that are still to come are empty
abbrev pub Placed : Section → Draft → Type 0
Placed (section.Head n) d = (givens_of d ≡ []) × (d.paths ≡ []) × (d.edges ≡ []) × (d.whys ≡ []) × (d.probes ≡ [])
Placed section.Givens d = (d.paths ≡ []) × (d.edges ≡ []) × (d.whys ≡ []) × (d.probes ≡ [])
Placed section.Paths d = (d.edges ≡ []) × (d.whys ≡ []) × (d.probes ≡ [])
Placed section.Edges d = (d.whys ≡ []) × (d.probes ≡ [])
Placed section.Whys d = d.probes ≡ []
Placed section.Probes d = Unit {0}
Placed section.End d = Unit {0}

Placed-elsewhere : (p q : Section) (d : Draft) → Placed p d → Placed p (record d { section = q })
Placed-elsewhere (section.Head n) q d h = h
Placed-elsewhere section.Givens q d h = h
Placed-elsewhere section.Paths q d h = h
Placed-elsewhere section.Edges q d h = h
Placed-elsewhere section.Whys q d h = h
Placed-elsewhere section.Probes q d h = h
Placed-elsewhere section.End q d h = h

pub no_sections : (d : Draft) → givens_of d ≡ [] → d.paths ≡ [] → d.edges ≡ [] → d.whys ≡ [] → d.probes ≡ [] → sections_of d ≡ []
no_sections d g p e w o = rw (g, p, e, w, o) refl

given_section : (gs : List Given) (ps : List PathLine) (es : List EdgeLine) (ws : List Walk) (os : List Probe) (x : Given) → ps ≡ [] → es ≡ [] → ws ≡ [] → os ≡ []
    → sections (gs ++ x ∷ []) ps es ws os ≡ sections gs ps es ws os ++ line.Given x ∷ []
given_section gs ps es ws os x p e w o = rw (p, e, w, o) (append-nil (map (λ g. line.Given g) (gs ++ x ∷ [])) ∙ map_push (λ g. line.Given g) gs x
    ∙ ap (λ (ls : List Line). ls ++ line.Given x ∷ []) (sym (append-nil (map (λ g. line.Given g) gs))))

path_section : (gs : List Given) (ps : List PathLine) (es : List EdgeLine) (ws : List Walk) (os : List Probe) (x : PathLine) → es ≡ [] → ws ≡ [] → os ≡ []
    → sections gs (ps ++ x ∷ []) es ws os ≡ sections gs ps es ws os ++ line.Path x ∷ []
path_section gs ps es ws os x e w o =
    let a = map (λ g. line.Given g) gs in
    rw (e, w, o) (ap (λ (ls : List Line). a ++ ls) (append-nil (map (λ p. line.Path p) (ps ++ x ∷ [])) ∙ map_push (λ p. line.Path p) ps x
    ∙ ap (λ (ls : List Line). ls ++ line.Path x ∷ []) (sym (append-nil (map (λ p. line.Path p) ps))))
    ∙ sym (append_assoc a (map (λ p. line.Path p) ps ++ []) (line.Path x ∷ [])))

edge_section : (gs : List Given) (ps : List PathLine) (es : List EdgeLine) (ws : List Walk) (os : List Probe) (x : EdgeLine) → ws ≡ [] → os ≡ []
    → sections gs ps (es ++ x ∷ []) ws os ≡ sections gs ps es ws os ++ line.Edge x ∷ []
edge_section gs ps es ws os x w o =
    let a = map (λ g. line.Given g) gs in
    let b = map (λ p. line.Path p) ps in
    let c = map (λ e. line.Edge e) es in
    rw (w, o) (ap (λ (ls : List Line). a ++ (b ++ ls)) (append-nil (map (λ e. line.Edge e) (es ++ x ∷ [])) ∙ map_push (λ e. line.Edge e) es x
    ∙ ap (λ (ls : List Line). ls ++ line.Edge x ∷ []) (sym (append-nil c)))
    ∙ two a b (c ++ []) (line.Edge x ∷ []))
  where
    two : (a b c d : List Line) → a ++ (b ++ (c ++ d)) ≡ (a ++ (b ++ c)) ++ d
    two a b c d = simp append_assoc

why_section : (gs : List Given) (ps : List PathLine) (es : List EdgeLine) (ws : List Walk) (os : List Probe) (x : Walk) → os ≡ []
    → sections gs ps es (ws ++ x ∷ []) os ≡ sections gs ps es ws os ++ line.Why x ∷ []
why_section gs ps es ws os x o =
    let a = map (λ g. line.Given g) gs in
    let b = map (λ p. line.Path p) ps in
    let c = map (λ e. line.Edge e) es in
    let d = map (λ w. line.Why w) ws in
    rw o (ap (λ (ls : List Line). a ++ (b ++ (c ++ ls))) (append-nil (map (λ w. line.Why w) (ws ++ x ∷ [])) ∙ map_push (λ w. line.Why w) ws x
    ∙ ap (λ (ls : List Line). ls ++ line.Why x ∷ []) (sym (append-nil d)))
    ∙ three a b c (d ++ []) (line.Why x ∷ []))
  where
    three : (a b c d e : List Line) → a ++ (b ++ (c ++ (d ++ e))) ≡ (a ++ (b ++ (c ++ d))) ++ e
    three a b c d e = simp append_assoc

probe_section : (gs : List Given) (ps : List PathLine) (es : List EdgeLine) (ws : List Walk) (os : List Probe) (x : Probe)
    → sections gs ps es ws (os ++ x ∷ []) ≡ sections gs ps es ws os ++ line.Probe x ∷ []
probe_section gs ps es ws os x =
    let a = map (λ g. line.Given g) gs in
    let b = map (λ p. line.Path p) ps in
    let c = map (λ e. line.Edge e) es in
    let d = map (λ w. line.Why w) ws in
    ap (λ (ls : List Line). a ++ (b ++ (c ++ (d ++ ls)))) (map_push (λ p. line.Probe p) os x) ∙ four a b c d (map (λ p. line.Probe p) os) (line.Probe x ∷ [])
  where
    four : (a b c d e f : List Line) → a ++ (b ++ (c ++ (d ++ (e ++ f)))) ≡ (a ++ (b ++ (c ++ (d ++ e)))) ++ f
    four a b c d e f = simp append_assoc

-- e is d with one more line
pub record Stepped (d e : Draft) (l : Line) : Type 0 where
  pub seven : length e.counts ≡ 7
  pub placed : Placed e.section e
  pub more : sofar e ≡ sofar d ++ l ∷ []

-- ---- the ten first lines

head_sofar : (d new : Draft) (k : ℕ) (l : Line) (p : Section) → sections_of d ≡ [] → sections_of new ≡ [] → end_part p (file_of new) ≡ []
    → head_part p (file_of new) ≡ take k (head_lines (file_of d)) ++ l ∷ []
    → sofar (record new { section = p }) ≡ sofar (record d { section = section.Head k }) ++ l ∷ []
head_sofar d new k l p s t en h =
    let prefix = head_part p (file_of new) in
    let old = take k (head_lines (file_of d)) in
    ap (λ (x : List Line). prefix ++ (x ++ end_part p (file_of new))) t ∙ ap (λ (x : List Line). prefix ++ x) en ∙ append-nil prefix ∙ h
    ∙ sym (ap (λ (x : List Line). (old ++ (x ++ [])) ++ l ∷ []) s ∙ ap (λ (x : List Line). x ++ l ∷ []) (append-nil old))

pub head_section : (k : ℕ) (p : Section) → is_head k p ≡ true → p ≡ section.Head k
head_section k (section.Head n) t = ap (λ (m : ℕ). section.Head m) (eqb-true n k t)
head_section k section.Givens t = absurd cc
head_section k section.Paths t = absurd cc
head_section k section.Edges t = absurd cc
head_section k section.Whys t = absurd cc
head_section k section.Probes t = absurd cc
head_section k section.End t = absurd cc

-- the new draft differs in what its first lines say
record ChangesHead (d new : Draft) (k : ℕ) (l : Line) : Type 0 where
  givens : givens_of d ≡ [] → givens_of new ≡ []
  paths : new.paths ≡ d.paths
  edges : new.edges ≡ d.edges
  whys : new.whys ≡ d.whys
  probes : new.probes ≡ d.probes
  seven : length new.counts ≡ 7
  ends : end_part (after_head (k + 1)) (file_of new) ≡ []
  placed : Placed (section.Head k) new → Placed (after_head (k + 1)) new
  head : head_part (after_head (k + 1)) (file_of new) ≡ take k (head_lines (file_of d)) ++ l ∷ []

head_stepped : (k : ℕ) (d new e : Draft) (l : Line) → ChangesHead d new k l → Placed d.section d → pass_head k d new ≡ Some e → Stepped d e l
head_stepped k d new e l c placed s =
    let g = if_some (is_head k d.section) (Some (record new { section = after_head (k + 1) })) e s in
    let at : d.section ≡ section.Head k = head_section k d.section g.0 in
    let h : Placed (section.Head k) d = subst (λ (p : Section). Placed p d) at placed in
    let old : sections_of d ≡ [] = no_sections d h.0 h.1 h.2 h.3 h.4 in
    let hn : Placed (section.Head k) new = (c.givens h.0, c.paths ∙ h.1, c.edges ∙ h.2, c.whys ∙ h.3, c.probes ∙ h.4) in
    let fresh : sections_of new ≡ [] = no_sections new hn.0 hn.1 hn.2 hn.3 hn.4 in
    let made : Stepped (record d { section = section.Head k }) (record new { section = after_head (k + 1) }) l = record {
      seven = c.seven;
      placed = Placed-elsewhere (after_head (k + 1)) (after_head (k + 1)) new (c.placed hn);
      more = head_sofar d new k l (after_head (k + 1)) old fresh c.ends c.head;
    } in
    subst (λ (x : Draft). Stepped d x l) (some_is (record new { section = after_head (k + 1) }) e g.1)
    (subst (λ (p : Section). Stepped (record d { section = p }) (record new { section = after_head (k + 1) }) l) (sym at) made)

pub record Seven (counts : List ℕ) : Type 0 where
  pub a : ℕ
  pub b : ℕ
  pub c : ℕ
  pub d : ℕ
  pub e : ℕ
  pub f : ℕ
  pub g : ℕ
  pub is : counts ≡ a ∷ b ∷ c ∷ d ∷ e ∷ f ∷ g ∷ []

pub seven_of : (counts : List ℕ) → length counts ≡ 7 → Seven counts
seven_of [] h = absurd (omega arith)
seven_of (a ∷ []) h = absurd (omega arith)
seven_of (a ∷ b ∷ []) h = absurd (omega arith)
seven_of (a ∷ b ∷ c ∷ []) h = absurd (omega arith)
seven_of (a ∷ b ∷ c ∷ d ∷ []) h = absurd (omega arith)
seven_of (a ∷ b ∷ c ∷ d ∷ e ∷ []) h = absurd (omega arith)
seven_of (a ∷ b ∷ c ∷ d ∷ e ∷ f ∷ []) h = absurd (omega arith)
seven_of (a ∷ b ∷ c ∷ d ∷ e ∷ f ∷ g ∷ []) h = record { a = a; b = b; c = c; d = d; e = e; f = f; g = g; is = refl }
seven_of (a ∷ b ∷ c ∷ d ∷ e ∷ f ∷ g ∷ x ∷ xs) h = absurd (omega arith)

-- what setting one of seven counts does to the lines
abbrev SetsCount : Draft → Cause → ℕ → List ℕ → Type 0
SetsCount d c n counts = (head_part (after_head (3 + cause_index c + 1)) (file_of (record d { counts = slice_set counts (cause_index c) n })) ≡ take (3 + cause_index c)
    (head_lines (file_of (record d { counts = counts }))) ++ line.Aside c n ∷ [])
    × (length (slice_set counts (cause_index c) n) ≡ 7)

sets_count_at : (d : Draft) (c : Cause) (n x0 x1 x2 x3 x4 x5 x6 : ℕ) → SetsCount d c n (x0 ∷ x1 ∷ x2 ∷ x3 ∷ x4 ∷ x5 ∷ x6 ∷ [])
sets_count_at d cause.NoPath n x0 x1 x2 x3 x4 x5 x6 = (refl, refl)
sets_count_at d cause.BadSegments n x0 x1 x2 x3 x4 x5 x6 = (refl, refl)
sets_count_at d cause.Confed n x0 x1 x2 x3 x4 x5 x6 = (refl, refl)
sets_count_at d cause.Sets n x0 x1 x2 x3 x4 x5 x6 = (refl, refl)
sets_count_at d cause.Reserved n x0 x1 x2 x3 x4 x5 x6 = (refl, refl)
sets_count_at d cause.Loop n x0 x1 x2 x3 x4 x5 x6 = (refl, refl)
sets_count_at d cause.Short n x0 x1 x2 x3 x4 x5 x6 = (refl, refl)

sets_count : (d : Draft) (c : Cause) (n : ℕ) → length d.counts ≡ 7 → SetsCount d c n d.counts
sets_count d c n h =
    let s = seven_of d.counts h in
    subst (SetsCount d c n) (sym s.is) (sets_count_at d c n s.a s.b s.c s.d s.e s.f s.g)

aside_placed : (c : Cause) (new : Draft) → Placed (section.Head (3 + cause_index c)) new → Placed (after_head (3 + cause_index c + 1)) new
aside_placed cause.NoPath new h = h
aside_placed cause.BadSegments new h = h
aside_placed cause.Confed new h = h
aside_placed cause.Sets new h = h
aside_placed cause.Reserved new h = h
aside_placed cause.Loop new h = h
aside_placed cause.Short new h = (h.1, h.2, h.3, h.4)

aside_ends : (c : Cause) (f : ResultFile) → end_part (after_head (3 + cause_index c + 1)) f ≡ []
aside_ends cause.NoPath f = refl
aside_ends cause.BadSegments f = refl
aside_ends cause.Confed f = refl
aside_ends cause.Sets f = refl
aside_ends cause.Reserved f = refl
aside_ends cause.Loop f = refl
aside_ends cause.Short f = refl

-- ---- sections

body_more : (h s t : List Line) (l : Line) → t ≡ s ++ l ∷ [] → h ++ (t ++ []) ≡ (h ++ (s ++ [])) ++ l ∷ []
body_more h s t l e = ap (λ (x : List Line). h ++ (x ++ [])) e ∙ regroup h s (l ∷ [])
  where
    regroup : (a b c : List Line) → a ++ ((b ++ c) ++ []) ≡ (a ++ (b ++ [])) ++ c
    regroup a b c = simp (append-nil, append_assoc)

end_more : (h s : List Line) (l : Line) → h ++ (s ++ l ∷ []) ≡ (h ++ (s ++ [])) ++ l ∷ []
end_more h s l = simp (append-nil, append_assoc)

-- a draft with a list of givens, and one more
given_added : (d : Draft) (gs : List Given) (x : Given) → Placed section.Givens d → length d.counts ≡ 7
    → Stepped (record d { section = section.Givens; givens = Some gs }) (record d { section = section.Givens; givens = Some (gs ++ x ∷ []) }) (line.Given x)
given_added d gs x h seven = record {
  seven = seven;
  placed = h;
  more = body_more (head_lines (file_of (record d { givens = Some gs }))) (sections gs d.paths d.edges d.whys d.probes) (sections (gs ++ x ∷ []) d.paths d.edges d.whys d.probes) (line.Given x)
      (given_section gs d.paths d.edges d.whys d.probes x h.0 h.1 h.2 h.3);
}

givens_section : (p : Section) → takes_given p ≡ true → p ≡ section.Givens
givens_section (section.Head n) t = absurd cc
givens_section section.Givens t = refl
givens_section section.Paths t = absurd cc
givens_section section.Edges t = absurd cc
givens_section section.Whys t = absurd cc
givens_section section.Probes t = absurd cc
givens_section section.End t = absurd cc

-- where a given was added there is a list of them
pub some_givens : (d e : Draft) (x : Given) → with_given d x ≡ Some e → (gs : List Given) × (d.givens ≡ Some gs) × (record d { givens = Some (gs ++ x ∷ []) } ≡ e)
some_givens d e x s = by d.givens refl s
  where
    by : (o : Option (List Given)) → d.givens ≡ o → option_map (λ gs. record d { givens = Some (gs ++ x ∷ []) }) o ≡ Some e
        → (gs : List Given) × (d.givens ≡ Some gs) × (record d { givens = Some (gs ++ x ∷ []) } ≡ e)
    by None is s = absurd cc
    by (Some gs) is s = (gs, is, some_is (record d { givens = Some (gs ++ x ∷ []) }) e s)

given_stepped : (d e : Draft) (x : Given) → Placed d.section d → length d.counts ≡ 7 → takes_given d.section ≡ true → with_given d x ≡ Some e → Stepped d e (line.Given x)
given_stepped d e x placed seven t s =
    let some = some_givens d e x s in
    let at : d.section ≡ section.Givens = givens_section d.section t in
    let made = given_added d some.0 x (subst (λ (p : Section). Placed p d) at placed) seven in
    let there : Stepped (record d { givens = Some some.0 }) (record d { givens = Some (some.0 ++ x ∷ []) }) (line.Given x) =
    subst (λ (p : Section). Stepped (record d { section = p; givens = Some some.0 }) (record d { section = p; givens = Some (some.0 ++ x ∷ []) }) (line.Given x)) (sym at) made in
    subst (λ (y : Draft). Stepped d y (line.Given x)) some.2
    (subst (λ (o : Option (List Given)). Stepped (record d { givens = o }) (record d { givens = Some (some.0 ++ x ∷ []) }) (line.Given x)) (sym some.1) there)

path_added : (d : Draft) (x : PathLine) → d.edges ≡ [] → d.whys ≡ [] → d.probes ≡ [] → sofar (record d { section = section.Paths; paths = d.paths ++ x ∷ [] }) ≡ sofar
    (record d { section = section.Paths }) ++ line.Path x ∷ []
path_added d x e w o = body_more (head_lines (file_of d)) (sections_of d) (sections (givens_of d) (d.paths ++ x ∷ []) d.edges d.whys d.probes) (line.Path x)
    (path_section (givens_of d) d.paths d.edges d.whys d.probes x e w o)

path_stepped : (p : Section) (d : Draft) (x : PathLine) → takes_path p ≡ true → Placed p d → length d.counts ≡ 7
    → Stepped (record d { section = p }) (record d { section = section.Paths; paths = d.paths ++ x ∷ [] }) (line.Path x)
path_stepped (section.Head n) d x t h seven = absurd cc
path_stepped section.Givens d x t h seven = record { seven = seven; placed = (h.1, h.2, h.3); more = path_added d x h.1 h.2 h.3 }
path_stepped section.Paths d x t h seven = record { seven = seven; placed = h; more = path_added d x h.0 h.1 h.2 }
path_stepped section.Edges d x t h seven = absurd cc
path_stepped section.Whys d x t h seven = absurd cc
path_stepped section.Probes d x t h seven = absurd cc
path_stepped section.End d x t h seven = absurd cc

edge_added : (d : Draft) (x : EdgeLine) → d.whys ≡ [] → d.probes ≡ [] → sofar (record d { section = section.Edges; edges = d.edges ++ x ∷ [] }) ≡ sofar
    (record d { section = section.Edges }) ++ line.Edge x ∷ []
edge_added d x w o = body_more (head_lines (file_of d)) (sections_of d) (sections (givens_of d) d.paths (d.edges ++ x ∷ []) d.whys d.probes) (line.Edge x)
    (edge_section (givens_of d) d.paths d.edges d.whys d.probes x w o)

edge_stepped : (p : Section) (d : Draft) (x : EdgeLine) → takes_edge p ≡ true → Placed p d → length d.counts ≡ 7
    → Stepped (record d { section = p }) (record d { section = section.Edges; edges = d.edges ++ x ∷ [] }) (line.Edge x)
edge_stepped (section.Head n) d x t h seven = absurd cc
edge_stepped section.Givens d x t h seven = record { seven = seven; placed = (h.2, h.3); more = edge_added d x h.2 h.3 }
edge_stepped section.Paths d x t h seven = record { seven = seven; placed = (h.1, h.2); more = edge_added d x h.1 h.2 }
edge_stepped section.Edges d x t h seven = record { seven = seven; placed = h; more = edge_added d x h.0 h.1 }
edge_stepped section.Whys d x t h seven = absurd cc
edge_stepped section.Probes d x t h seven = absurd cc
edge_stepped section.End d x t h seven = absurd cc

why_added : (d : Draft) (x : Walk) → d.probes ≡ [] → sofar (record d { section = section.Whys; whys = d.whys ++ x ∷ [] }) ≡ sofar (record d { section = section.Whys }) ++ line.Why x ∷ []
why_added d x o = body_more (head_lines (file_of d)) (sections_of d) (sections (givens_of d) d.paths d.edges (d.whys ++ x ∷ []) d.probes) (line.Why x)
    (why_section (givens_of d) d.paths d.edges d.whys d.probes x o)

why_stepped : (p : Section) (d : Draft) (x : Walk) → takes_why p ≡ true → Placed p d → length d.counts ≡ 7
    → Stepped (record d { section = p }) (record d { section = section.Whys; whys = d.whys ++ x ∷ [] }) (line.Why x)
why_stepped (section.Head n) d x t h seven = absurd cc
why_stepped section.Givens d x t h seven = record { seven = seven; placed = h.3; more = why_added d x h.3 }
why_stepped section.Paths d x t h seven = record { seven = seven; placed = h.2; more = why_added d x h.2 }
why_stepped section.Edges d x t h seven = record { seven = seven; placed = h.1; more = why_added d x h.1 }
why_stepped section.Whys d x t h seven = record { seven = seven; placed = h; more = why_added d x h }
why_stepped section.Probes d x t h seven = absurd cc
why_stepped section.End d x t h seven = absurd cc

probe_added : (d : Draft) (x : Probe) → sofar (record d { section = section.Probes; probes = d.probes ++ x ∷ [] }) ≡ sofar (record d { section = section.Probes }) ++ line.Probe x ∷ []
probe_added d x = body_more (head_lines (file_of d)) (sections_of d) (sections (givens_of d) d.paths d.edges d.whys (d.probes ++ x ∷ [])) (line.Probe x)
    (probe_section (givens_of d) d.paths d.edges d.whys d.probes x)

probe_stepped : (p : Section) (d : Draft) (x : Probe) → takes_probe p ≡ true → Placed p d → length d.counts ≡ 7
    → Stepped (record d { section = p }) (record d { section = section.Probes; probes = d.probes ++ x ∷ [] }) (line.Probe x)
probe_stepped (section.Head n) d x t h seven = absurd cc
probe_stepped section.Givens d x t h seven = record { seven = seven; placed = tt; more = probe_added d x }
probe_stepped section.Paths d x t h seven = record { seven = seven; placed = tt; more = probe_added d x }
probe_stepped section.Edges d x t h seven = record { seven = seven; placed = tt; more = probe_added d x }
probe_stepped section.Whys d x t h seven = record { seven = seven; placed = tt; more = probe_added d x }
probe_stepped section.Probes d x t h seven = record { seven = seven; placed = tt; more = probe_added d x }
probe_stepped section.End d x t h seven = absurd cc

end_stepped : (p : Section) (d : Draft) (x : Totals) → takes_probe p ≡ true → Placed p d → length d.counts ≡ 7
    → Stepped (record d { section = p }) (record d { section = section.End; totals = x }) (line.End x)
end_stepped (section.Head n) d x t h seven = absurd cc
end_stepped section.Givens d x t h seven = record { seven = seven; placed = tt; more = end_more (head_lines (file_of d)) (sections_of d) (line.End x) }
end_stepped section.Paths d x t h seven = record { seven = seven; placed = tt; more = end_more (head_lines (file_of d)) (sections_of d) (line.End x) }
end_stepped section.Edges d x t h seven = record { seven = seven; placed = tt; more = end_more (head_lines (file_of d)) (sections_of d) (line.End x) }
end_stepped section.Whys d x t h seven = record { seven = seven; placed = tt; more = end_more (head_lines (file_of d)) (sections_of d) (line.End x) }
end_stepped section.Probes d x t h seven = record { seven = seven; placed = tt; more = end_more (head_lines (file_of d)) (sections_of d) (line.End x) }
end_stepped section.End d x t h seven = absurd cc

-- ---- any line

body_step : (b : Bool) (d new e : Draft) (l : Line) → (b ≡ true → Stepped d new l) → cond b (Some new) None ≡ Some e → Stepped d e l
body_step b d new e l made s =
    let g = if_some b (Some new) e s in
    subst (λ (x : Draft). Stepped d x l) (some_is new e g.1) (made g.0)

-- the first line changes the version
version_changes : (d : Draft) (v : Version) → length d.counts ≡ 7 → ChangesHead d (record d { givens = no_givens v }) 0 (line.Version v)
version_changes d version.One seven = record {
  givens = λ h. refl;
  paths = refl;
  edges = refl;
  whys = refl;
  probes = refl;
  seven = seven;
  ends = refl;
  placed = λ h. h;
  head = refl;
}
version_changes d version.Two seven = record {
  givens = λ h. refl;
  paths = refl;
  edges = refl;
  whys = refl;
  probes = refl;
  seven = seven;
  ends = refl;
  placed = λ h. h;
  head = refl;
}

pub step_steps : (d e : Draft) (l : Line) → length d.counts ≡ 7 → Placed d.section d → step d l ≡ Some e → Stepped d e l
step_steps d e (line.Version v) seven placed s = head_stepped 0 d (record d { givens = no_givens v }) e (line.Version v) (version_changes d v seven) placed s
step_steps d e (line.Sets x) seven placed s =
    head_stepped 1 d (record d { sets = x }) e (line.Sets x)
    (record { givens = λ h. h; paths = refl; edges = refl; whys = refl; probes = refl; seven = seven; ends = refl; placed = λ h. h; head = refl }) placed s
step_steps d e (line.Ratio n) seven placed s =
    head_stepped 2 d (record d { ratio = n }) e (line.Ratio n)
    (record { givens = λ h. h; paths = refl; edges = refl; whys = refl; probes = refl; seven = seven; ends = refl; placed = λ h. h; head = refl }) placed s
step_steps d e (line.Aside c n) seven placed s =
    let set = sets_count d c n seven in
    let new : Draft = record d { counts = slice_set d.counts (cause_index c) n } in
    head_stepped (3 + cause_index c) d new e (line.Aside c n) (record {
      givens = λ h. h;
      paths = refl;
      edges = refl;
      whys = refl;
      probes = refl;
      seven = set.1;
      ends =
          aside_ends c (file_of new);
      placed = aside_placed c new;
      head = set.0;
    }) placed s
step_steps d e (line.Given x) seven placed s =
    let g = if_some (takes_given d.section) (with_given d x) e s in
    given_stepped d e x placed seven g.0 g.1
step_steps d e (line.Path x) seven placed s = body_step (takes_path d.section) d (record d { section = section.Paths; paths = d.paths ++ x ∷ [] }) e (line.Path x)
    (λ t. path_stepped d.section d x t placed seven) s
step_steps d e (line.Edge x) seven placed s = body_step (takes_edge d.section) d (record d { section = section.Edges; edges = d.edges ++ x ∷ [] }) e (line.Edge x)
    (λ t. edge_stepped d.section d x t placed seven) s
step_steps d e (line.Why x) seven placed s = body_step (takes_why d.section) d (record d { section = section.Whys; whys = d.whys ++ x ∷ [] }) e (line.Why x)
    (λ t. why_stepped d.section d x t placed seven) s
step_steps d e (line.Probe x) seven placed s = body_step (takes_probe d.section) d (record d { section = section.Probes; probes = d.probes ++ x ∷ [] }) e (line.Probe x)
    (λ t. probe_stepped d.section d x t placed seven) s
step_steps d e (line.End x) seven placed s = body_step (takes_probe d.section) d (record d { section = section.End; totals = x }) e (line.End x) (λ t. end_stepped d.section d x t placed seven) s
