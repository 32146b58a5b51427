-- What becomes of a path: it is kept, or it is lost with a walk that refutes.
use Rattle.std.specs.Prelude.{Bool, Option, Some, None, is_none}
use Rattle.relationships.specs.declared.walk.Walk.{Walk}
use Rattle.relationships.specs.declared.fate.Fate.{Fate}

-- the walk with which a path is lost
abbrev pub walk_of : Fate → Option Walk
walk_of Fate.Kept = None
walk_of (Fate.Lost walk) = Some walk

-- a path is kept if it isn't lost
abbrev pub is_kept : Fate → Bool
is_kept fate = is_none (walk_of fate)
