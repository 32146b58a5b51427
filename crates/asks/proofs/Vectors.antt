-- The definitions on rows that were worked by hand.
use Rattle.std.proofs.Common.{◌≡◌, ◌∙◌, ℕ, inl, List, [], ◌∷◌, refl, sym, lit<}
use Rattle.std.proofs.lemmas.List.Elements.{All-from_recursion}
use Rattle.std.specs.Prelude.{codes}
use Rattle.std.specs.Fmt.{digits}
use Rattle.std.proofs.Common.{Less, Greater}
use Rattle.relationships.specs.declared.label.End.{End}
use Rattle.relationships.specs.declared.mark.Mark.{Mark}
use Rattle.relationships.specs.Relationship.{Orientation, labels_of, is_over, slope, ValleyFree, Serves}
use Rattle.relationships.specs.Graph.{edges, orientation}
use Rattle.relationships.specs.Evidence.{IsTriple, start, imply}
use Rattle.asks.specs.declared.ask.Ask.{Ask}
use Rattle.asks.specs.declared.table.AskLine.{AskLine}
use Rattle.asks.specs.Asks.{ask_cmp, IsForcedBy}
use Rattle.asks.specs.AsksText.{asks_text}
use Rattle.asks.specs.Narrowing.{opens_before, narrow_node}
use Rattle.asks.proofs.Forcings.{led_to}

-- ---- texts

abbrev line : ℕ → ℕ → ℕ → ℕ → AskLine
line low high if_low if_high = record { low = low; high = high; if_low = if_low; if_high = if_high }

-- a ring of three, each edge of which forces both others, and behind it an edge that forces itself alone
ring_and_one : asks_text (line 10 20 3 3 ∷ line 20 30 3 3 ∷ line 10 30 3 3 ∷ line 40 50 1 1 ∷ []) ≡
    codes "ask|10|20|3|3\nask|20|30|3|3\nask|10|30|3|3\nask|40|50|1|1\nasks|4\n"
unfolding digits
ring_and_one = refl

none_open : asks_text [] ≡ codes "asks|0\n"
unfolding digits
none_open = refl

-- ---- the order

abbrev ask : ℕ → ℕ → ℕ → Ask
ask edge if_low if_high = record { edge = edge; if_low = if_low; if_high = if_high }

-- what settles more at least comes first, also where another settles more in one case
more_at_least : ask_cmp (ask 7 3 3) (ask 2 2 9) ≡ Less
more_at_least = refl

-- then what settles more in both cases together
more_in_both : ask_cmp (ask 2 2 4) (ask 7 5 2) ≡ Greater
more_in_both = refl

-- and then the earlier edge, whichever end settles more
earlier : ask_cmp (ask 2 1 4) (ask 7 4 1) ≡ Less
earlier = refl

-- ---- open edges

abbrev marks : List Mark
marks = Mark.Open ∷ Mark.Forced ∷ Mark.Open ∷ Mark.Open ∷ []

two_before_the_last : opens_before marks 3 ≡ 2
two_before_the_last = refl

-- the higher end of the last edge
its_node : narrow_node marks 7 ≡ 5
its_node = refl

-- ---- a path of four: where its first step goes down, all behind it go down; where it goes up, the others may go either way

abbrev chain : List (List ℕ)
chain = (10 ∷ 20 ∷ 30 ∷ 40 ∷ []) ∷ []

chain_edges : edges chain ≡ (10, 20) ∷ (20, 30) ∷ (30, 40) ∷ []
chain_edges = refl

first_three : IsTriple chain 10 20 30
first_three = (10 ∷ 20 ∷ 30 ∷ 40 ∷ [], (0, lit< tt, refl), (2, inl (record { before = []; after = 40 ∷ []; whole = refl; place = refl })))

last_three : IsTriple chain 20 30 40
last_three = (10 ∷ 20 ∷ 30 ∷ 40 ∷ [], (0, lit< tt, refl), (3, inl (record { before = 10 ∷ []; after = []; whole = refl; place = refl })))

-- the lower number of the first edge forces the other two
forces_second : IsForcedBy chain (10, 20) End.Low (20, 30)
forces_second O O' serves serves' is is' =
    led_to chain (10, 20) (20, 30) End.Low End.Low (lit< tt) (lit< tt) (imply start first_three) O serves is ∙
    sym (led_to chain (10, 20) (20, 30) End.Low End.Low (lit< tt) (lit< tt) (imply start first_three) O' serves' is')

forces_third : IsForcedBy chain (10, 20) End.Low (30, 40)
forces_third O O' serves serves' is is' =
    led_to chain (10, 20) (30, 40) End.Low End.Low (lit< tt) (lit< tt) (imply (imply start first_three) last_three) O serves is ∙
    sym (led_to chain (10, 20) (30, 40) End.Low End.Low (lit< tt) (lit< tt) (imply (imply start first_three) last_three) O' serves' is')

abbrev by : End → End → Orientation
by b c = orientation (edges chain) (End.High ∷ b ∷ c ∷ [])

up_up : Serves (by End.High End.High) chain
unfolding slope is_over
up_up = All-from_recursion (ValleyFree (labels_of (by End.High End.High))) chain ((3, 0, inl refl), tt)

up_down : Serves (by End.High End.Low) chain
unfolding slope is_over
up_down = All-from_recursion (ValleyFree (labels_of (by End.High End.Low))) chain ((2, 1, inl refl), tt)

down_down : Serves (by End.Low End.Low) chain
unfolding slope is_over
down_down = All-from_recursion (ValleyFree (labels_of (by End.Low End.Low))) chain ((1, 2, inl refl), tt)

two_ends : End.High ≡ End.Low → ⊥
two_ends e = cc

-- and its higher number neither
spares_second : IsForcedBy chain (10, 20) End.High (20, 30) → ⊥
spares_second forced = two_ends (forced (by End.High End.High) (by End.Low End.Low) up_up down_down refl refl)

spares_third : IsForcedBy chain (10, 20) End.High (30, 40) → ⊥
spares_third forced = two_ends (forced (by End.High End.High) (by End.High End.Low) up_up up_down refl refl)
