-- Where the boxes of a picture lead.
use Rattle.std.specs.Prelude.{ℕ, Bool, not, ◌&&◌, ◌||◌, ◌==◌, nat_le, Option, Some, None, IsTrue, is_some, codes, if◌then◌else◌}
use Rattle.std.specs.List.{list_all}
use Rattle.clap.specs.Words.{Text}
use Rattle.text_fields.specs.Reading.{word_at}

-- a printable character of ASCII, and none of blank, quote, apostrophe, < and >, which end an address where it stands in a text
abbrev pub is_link_character : ℕ → Bool
is_link_character c = (nat_le 33 c && nat_le c 126) && not ((c == 34) || ((c == 39) || ((c == 60) || (c == 62))))

-- the text is of such characters, and begins with the name of the web, so that nothing runs in a browser that follows it
abbrev pub is_link : Text → Bool
is_link text = (is_some (word_at (codes "http://") text) || is_some (word_at (codes "https://") text)) && list_all is_link_character text

abbrev pub IsLink : Text → Type 0
IsLink text = IsTrue (is_link text)

-- the link, if one is named
abbrev pub link_or_none : Option Text → Option (Option Text)
link_or_none None = Some None
link_or_none (Some text) = if is_link text then Some (Some text) else None
