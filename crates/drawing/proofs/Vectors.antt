-- Worked examples.
use Rattle.std.proofs.Common.{◌≡◌, ℕ, true, false, List, [], ◌∷◌, codes, refl}
use Rattle.std.specs.Fmt.{digits}
use Rattle.relationships.specs.declared.label.Label.{Label}
use Rattle.relationships.specs.declared.label.Label.TheVariants as label
use Rattle.relationships.specs.declared.mark.Mark.{Mark}
use Rattle.relationships.specs.declared.mark.Mark.TheVariants as mark
use Rattle.result_text.specs.declared.file.EdgeLine.{EdgeLine}
use Rattle.drawing.specs.declared.group.Group.{Group}
use Rattle.drawing.specs.declared.page.Plan.{Plan}
use Rattle.drawing.specs.Neighbours.{neighbours}
use Rattle.drawing.specs.declared.page.Cell.{Cell}
use Rattle.drawing.specs.declared.drawing.BoxEntry.TheVariants as entry
use Rattle.drawing.specs.Page.{axis, spot_of, centre_box, page_height, page_width, high_box, slant_of}
use Rattle.drawing.specs.Svg.{address, comma_digits, entry_title, thousands}
use Rattle.drawing.specs.Xml.{is_value}

abbrev edge : ℕ → ℕ → Label → Mark → ℕ → EdgeLine
edge low high l m support = record { low = low; high = high; label = l; mark = m; support = support }

-- 10 over 20, 20 over 30, 20 and 40 peers, 10 over 30
abbrev four : List EdgeLine
four =
    edge 10 20 label.Low mark.Forced 3 ∷ edge 20 30 label.Low mark.Open 2 ∷ edge 20 40 label.Peer mark.Open 1 ∷ edge 10 30 label.Low mark.Open 1 ∷ []

provider : neighbours 20 Group.Providers four ≡ record { number = 10; mark = mark.Forced; support = 3 } ∷ []
provider = refl

customer : neighbours 20 Group.Customers four ≡ record { number = 30; mark = mark.Open; support = 2 } ∷ []
customer = refl

peer : neighbours 20 Group.Peers four ≡ record { number = 40; mark = mark.Open; support = 1 } ∷ []
peer = refl

abbrev small : Plan
small = record { columns = 8; above = 1; beside = 2; below = 12; further = 0 }

-- eight columns take 980, and the one above stands on the axis, at 552
width : page_width small ≡ 980
width = refl

middle : axis small ≡ 552
middle = refl

above : (spot_of small 0).at ≡ record { x = 508; y = 88; width = 88; height = 32 }
above = refl

centre : centre_box small ≡ record { x = 492; y = 164; width = 120; height = 32 }
centre = refl

-- its line runs left to the trunk, and below its row
above_line : (spot_of small 0).line ≡ record { start_x = 492; start_y = 180; trunk_x = 130; rail_y = 130; end_x = 552; end_y = 120 }
above_line = refl

-- two peers beside the axis, and the twelfth customer in the second row, with four
peers : (spot_of small 1).at ≡ record { x = 456; y = 240; width = 88; height = 32 }
peers = refl

last : (spot_of small 14).at ≡ record { x = 664; y = 400; width = 88; height = 32 }
last = refl

last_line : (spot_of small 14).line ≡ record { start_x = 492; start_y = 180; trunk_x = 130; rail_y = 390; end_x = 708; end_y = 400 }
last_line = refl

height : page_height small ≡ 460
height = refl

-- with two further generations, of two and of three boxes
abbrev taller : Plan
taller = record { columns = 3; above = 1; beside = 0; below = 1; further = 2 }

abbrev cell : ℕ → ℕ → ℕ → Cell
cell count place row = record { count = count; place = place; row = row }

first_above : high_box taller (cell 2 0 1) ≡ record { x = 196; y = 192; width = 88; height = 32 }
first_above = refl

top_last : high_box taller (cell 3 2 2) ≡ record { x = 352; y = 88; width = 88; height = 32 }
top_last = refl

above_them : (spot_of taller 0).at ≡ record { x = 248; y = 296; width = 88; height = 32 }
above_them = refl

-- the line to the third of three arrives at the first of two places, and leaves at the third of three
slant : slant_of taller (cell 2 0 1) (cell 3 2 2) ≡ record { start_x = 260; start_y = 192; end_x = 382; end_y = 120 }
slant = refl

-- commas before each three digits
digits_of : (comma_digits 6 999 ≡ codes "999") × (comma_digits 6 1000 ≡ codes "1,000") × (comma_digits 6 2385007 ≡ codes "2,385,007")
unfolding digits
digits_of = (refl, refl, refl)

neighbour : entry_title Group.Peers (entry.One (record { number = 31946; mark = mark.Open; support = 2385 })) ≡ codes "AS31946, peer, open, 2,385 paths"
unfolding thousands digits
neighbour = refl

-- links
of_an_as : (address (codes "https://a/AS{}?b={}&c") 20 ≡ codes "https://a/AS20?b=20&amp;c") × (address (codes "http://a") 20 ≡ codes "http://a")
unfolding address digits
of_an_as = (refl, refl)

braces : (address (codes "{{}}{}{a}&amp;}{") 7 ≡ codes "{7}7{a}&amp;amp;}{") × (address (codes "{") 7 ≡ codes "{") × (address (codes "{}{}") 4294967295 ≡ codes "42949672954294967295")
unfolding address digits
braces = (refl, refl, refl)

values : (is_value (codes "a&amp;b&amp;") ≡ true) × (is_value (codes "a&b") ≡ false) × (is_value (codes "&amp") ≡ false) × (is_value (codes "a\"b") ≡ false)
values = (refl, refl, refl, refl)
