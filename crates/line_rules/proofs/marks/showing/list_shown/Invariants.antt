use Rattle.std.proofs.Common.{◌≡◌, length, take}
use Rattle.result_rules.specs.File.{shown_orders}
use Rattle.line_rules.specs.Serving.{IsShownBy}
use Rattle.line_rules.proofs.marks.showing.list_shown.Given as goal

abbrev pub invariant-loop-place : goal.invariant-loop-place
invariant-loop-place l = record {
  many : length l.shown.items ≡ length l.file.edges;
  shown : IsShownBy l.file.edges (shown_orders (take l.place l.file.whys)) l.shown.items;
}
