-- The settings that words give to a picture.
use Rattle.std.specs.Prelude.{◌≤◌, ℕ, List, Option, IfSome, option_map, option_and_then, nat_lt, if◌then◌else◌, codes}
use Rattle.clap.specs.Words.{Row, Text, first_of, fault_of, matches_of}
use Rattle.tor_words.specs.declared.view_settings.ViewSettings.{ViewSettings}
use Rattle.tor_words.specs.AsWords.{as_named}
use Rattle.tor_words.specs.Given.{number_or, unless_fault}
use Rattle.tor_words.specs.Links.{IsLink, link_or_none}
use Rattle.tor_words.specs.TorviewCommand.{torview_command}

-- how many neighbours of each group are drawn at most, where `--most` isn't there: 60, and 11 beside further generations, so that no
-- generation has more than 12 boxes with that of those left out
abbrev pub usual_most : ℕ → ℕ
usual_most depth = if nat_lt 1 depth then 11 else 60

abbrev pub most_in : ℕ → List Row → Option ℕ
most_in depth rows = number_or 1 2000 (usual_most depth) (first_of (codes "most") rows)

-- how many generations of providers are drawn: one where `--depth` isn't there
abbrev pub depth_in : List Row → Option ℕ
depth_in rows = number_or 1 8 1 (first_of (codes "depth") rows)

-- the AS that is drawn with its neighbours
abbrev pub drawn_in : List Row → Option ℕ
drawn_in rows = option_and_then as_named (first_of (codes "as") rows)

-- where its boxes lead: nowhere where `--link` isn't there
abbrev pub link_in : List Row → Option (Option Text)
link_in rows = link_or_none (first_of (codes "link") rows)

-- the settings that these matches give: the first word is the result, and the second the AS
abbrev pub view_settings_in : List Row → Option ViewSettings
view_settings_in rows =
    option_and_then (λ result.
    option_and_then (λ asked.
    option_and_then (λ depth.
    option_and_then (λ most.
    option_map (λ link. record { result = result; asked = asked; most = most; depth = depth; link = link })
    (link_in rows))
    (most_in depth rows))
    (depth_in rows))
    (drawn_in rows))
    (first_of (codes "result") rows)

-- the settings that the words give, where clap takes them
unfoldable pub view_settings_given : List Text → Option ViewSettings
view_settings_given words = unless_fault (fault_of torview_command words) (view_settings_in (matches_of torview_command words))

-- the two numbers are within their bounds, and the link is one
pub record AreWithin (settings : ViewSettings) : Type 0 where
  pub some : 1 ≤ settings.most
  pub most : settings.most ≤ 2000
  pub near : 1 ≤ settings.depth
  pub deep : settings.depth ≤ 8
  pub leading : IfSome settings.link IsLink
