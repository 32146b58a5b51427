-- What callers see of a `Frames`: the shelf that it reads, the place of the record that is next, and whether it is live.
use Rattle.std.specs.Prelude.{Bool}
use Rattle.std.specs.Borrow.{GName}
use Rattle.mrt_frame.specs.declared.header.At.{At}
use Rattle.mrt_frame.specs.declared.cursor.Cursor.{Cursor}
use Rattle.mrt_frame.specs.declared.frames.Frames.{Frames}

-- the shelf, as it stands now
abbrev pub shelf_of : {H C : Type 0} → Frames H C → H
shelf_of frames = frames.shelf.now

-- the reference through which the shelf is read
abbrev pub reference_of : {H C : Type 0} → Frames H C → GName
reference_of frames = frames.shelf.ghost_name

-- the place of the record that is next
abbrev pub next_place : {H : Type 0} → Frames H Cursor → At
next_place frames = frames.cursor.next

-- whether no call has answered an error or the end
abbrev pub is_live : {H : Type 0} → Frames H Cursor → Bool
is_live frames = frames.cursor.live
