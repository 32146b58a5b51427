use Rattle.std.proofs.Common.{◌≡◌, ◌+◌, ◌*◌, ◌≤◌, ◌++◌, length, map, take}
use Rattle.std.specs.Fmt.{decimal}
use Rattle.std.specs.List.{join_with_byte}
use Rattle.text_fields.proofs.numbers.write_joined.Given as goal

-- the numbers so far are written, in the room that they have
abbrev pub invariant-loop-place : goal.invariant-loop-place
invariant-loop-place l = record {
  begun : 1 ≤ l.place;
  within : l.end ≤ l.at + 21 * l.place;
  length : length l.bytes ≡ length l.fn.bytes;
  digits : take l.end l.bytes ≡ take l.at l.fn.bytes ++ join_with_byte l.byte (map decimal (take l.place l.numbers));
}
