-- Members of an object whose values are numbers.
use Rattle.std.specs.Prelude.{ℕ, List, [], ◌∷◌}
use Rattle.serde_json.specs.Data.{Members, number, unsigned, put}

-- the members, with these numbers put under their names, one after the other
abbrev pub with_members : List (List ℕ × ℕ) → Members → Members
with_members [] members = members
with_members ((name, count) ∷ counts) members = with_members counts (put name (number (unsigned count)) members)
