use Rattle.std.proofs.Common.{◌≡◌, ℕ, List, length, Ok, Err, ap, sym, subst, arith}
use Rattle.dump_read.specs.declared.error.DumpError.{DumpError}
use Rattle.dump_read.specs.declared.taking.Taken.{Taken}
use Rattle.dump_read.specs.declared.wanted.Wanted.{Wanted}
use Rattle.dump_read.specs.Wanted.{all_wanted}
use Rattle.result_rules.specs.declared.rule.Rule.TheVariants.{HeadSound}
use Rattle.result_rules.proofs.GivenLines.{name_once}
use Rattle.run_base.specs.declared.stop.Stop.TheVariants as stop
use Rattle.run_base.specs.Stopping.{Asks, ReadsDumps}
use Rattle.result_file.specs.Ruled.{IsRulingIn}
use Rattle.top_laws.proofs.Fewness.{few_in_result}
use Rattle.torleak_run.specs.Hunting.{Basis, error_of, hunting}
use Rattle.torleak_run.proofs.Stops.{all_found, dumps_end, limit_end, not_ruled}
use Rattle.torleak_run.proofs.asking.hunted_of.Goals as goal

pub returns-in-Err : goal.returns-in-Err
returns-in-Err g c =
    let ruled = c.in-Err.ensures in
    not_ruled c.args.settings.now g.H.Shelf c.as_text.result.now c.in-Err.unread c.args.shelf.now c.ruling_of_file.new.shelf c.as_text.ensures ruled.unruled ruled.opens
    (λ is. ruled.rest (ap (λ u. Err u) is)) ruled.unread ruled.reads_shelf

pub leaks_among-requires-clause-few : goal.leaks_among-requires-clause-few
leaks_among-requires-clause-few g c =
    let file = c.in-Ok-Met.file in
    let ruled = subst (IsRulingIn (g.H.Shelf.files c.args.shelf.now) c.as_text.result.now) c.in-Ok-Met.field-0-is c.in-Ok-Met.ensures.ruling in
    let few = few_in_result file ruled.0 ruled.2.text ruled.1.short (name_once file (ruled.2.rules HeadSound)) in
    omega (arith, few)

pub returns-in-Ok-leaks_among : goal.returns-in-Ok-leaks_among
returns-in-Ok-leaks_among g c =
    let shelf = g.H.Shelf in
    let settings = c.args.settings.now in
    let old = c.args.shelf.now in
    let mid = c.ruling_of_file.new.shelf in
    let new = c.read_onto.new.shelf in
    let file = c.in-Ok-Met.file in
    let taken = c.in-Ok.taken in
    let ruled = subst (IsRulingIn (shelf.files old) c.as_text.result.now) c.in-Ok-Met.field-0-is c.in-Ok-Met.ensures.ruling in
    let read = subst (λ (t : Taken). ReadsDumps shelf (all_wanted file.sets) settings.dumps t (Ok taken) mid new) c.nothing_taken-start.ensures
    (subst (λ (d : List (List ℕ)). ReadsDumps shelf (all_wanted file.sets) d c.nothing_taken-start.result (Ok taken) mid new) c.as_slice-dumps.ensures
    (subst (λ (w : Wanted). ReadsDumps shelf w c.as_slice-dumps.result.now c.nothing_taken-start.result (Ok taken) mid new) c.all-wanted.ensures c.in-Ok.ensures)) in
    let basis : Basis = record { file = file; taken = taken } in (
      basis,
      all_found settings shelf c.as_text.result.now old mid c.as_text.ensures c.in-Ok-Met.ensures.opens c.in-Ok-Met.ensures.reads_shelf file ruled taken new c.requires.named read c.in-Ok-leaks_among.ensures.room,
      c.in-Ok-leaks_among.ensures.leaks,
    )

pub returns-in-Ok : goal.returns-in-Ok
returns-in-Ok g c =
    let shelf = g.H.Shelf in
    let settings = c.args.settings.now in
    let old = c.args.shelf.now in
    let mid = c.ruling_of_file.new.shelf in
    let new = c.read_onto.new.shelf in
    let file = c.in-Ok-Met.file in
    let taken = c.in-Ok.taken in
    let refused = c.in-Err-leaks_among.refused in
    let ruled = subst (IsRulingIn (shelf.files old) c.as_text.result.now) c.in-Ok-Met.field-0-is c.in-Ok-Met.ensures.ruling in
    let read = subst (λ (t : Taken). ReadsDumps shelf (all_wanted file.sets) settings.dumps t (Ok taken) mid new) c.nothing_taken-start.ensures
    (subst (λ (d : List (List ℕ)). ReadsDumps shelf (all_wanted file.sets) d c.nothing_taken-start.result (Ok taken) mid new) c.as_slice-dumps.ensures
    (subst (λ (w : Wanted). ReadsDumps shelf w c.as_slice-dumps.result.now c.nothing_taken-start.result (Ok taken) mid new) c.all-wanted.ensures c.in-Ok.ensures)) in
    let many : length c.as_slice-dumps.result.now ≡ length settings.dumps = ap length c.as_slice-dumps.ensures in
    subst (λ (e : DumpError). Asks hunting settings shelf (λ (made : Basis). made) (Err (stop.Dumps (record { dump = length c.as_slice-dumps.result.now; error = e }))) old new) (sym c.error_of.ensures)
    (subst (λ (n : ℕ). Asks hunting settings shelf (λ (made : Basis). made) (Err (stop.Dumps (record { dump = n; error = error_of refused }))) old new) (sym many)
    (limit_end settings shelf c.as_text.result.now old mid c.as_text.ensures c.in-Ok-Met.ensures.opens c.in-Ok-Met.ensures.reads_shelf file ruled taken new c.requires.named read
    (g.met.H.Shelf.known_together new) refused c.in-Err-leaks_among.ensures.limit_met))

pub returns : goal.returns
returns g c =
    let shelf = g.H.Shelf in
    let settings = c.args.settings.now in
    let old = c.args.shelf.now in
    let mid = c.ruling_of_file.new.shelf in
    let new = c.read_onto.new.shelf in
    let file = c.in-Ok-Met.file in
    let stopped = c.in-Err-read_onto.stopped in
    let ruled = subst (IsRulingIn (shelf.files old) c.as_text.result.now) c.in-Ok-Met.field-0-is c.in-Ok-Met.ensures.ruling in
    dumps_end settings shelf c.as_text.result.now old mid c.as_text.ensures c.in-Ok-Met.ensures.opens c.in-Ok-Met.ensures.reads_shelf file ruled stopped new
    (subst (λ (t : Taken). ReadsDumps shelf (all_wanted file.sets) settings.dumps t (Err stopped) mid new) c.nothing_taken-start.ensures
    (subst (λ (d : List (List ℕ)). ReadsDumps shelf (all_wanted file.sets) d c.nothing_taken-start.result (Err stopped) mid new) c.as_slice-dumps.ensures
    (subst (λ (w : Wanted). ReadsDumps shelf w c.as_slice-dumps.result.now c.nothing_taken-start.result (Err stopped) mid new) c.all-wanted.ensures c.in-Err-read_onto.ensures)))
