-- Characters that can't be seen (own).
use Rattle.std.specs.Prelude.{◌==◌, ◌&&◌, ◌||◌, not, nat_le, ℕ, Bool, List, chars}
use Rattle.std.specs.Char.{is_control}
use Rattle.std.specs.List.{list_any}

-- a number lies between two others, or is one of them
abbrev pub is_between : ℕ → ℕ → ℕ → Bool
is_between low high c = nat_le low c && nat_le c high

-- a character looks like a blank, and is none: the spaces of Unicode but U+0020, and the fillers of Hangul (Unicode, general category Zs); those of no width
-- that follow the spaces of U+2000 too
unfoldable pub is_other_blank : ℕ → Bool
is_other_blank c = (c == 160) || ((c == 5760) || ((c == 12288) || ((c == 12644) || ((c == 65440) || is_between 8192 8207 c))))

-- a character has no width, turns the order of writing, or ends a line (general categories Cf, Zl and Zp)
unfoldable pub is_mark : ℕ → Bool
is_mark c = (c == 173) || ((c == 1564) || ((c == 6158) || ((c == 65279) || (is_between 8232 8239 c || (is_between 8287 8303 c || is_between 65529 65531 c)))))

-- a character that is no control character can't be seen
abbrev pub is_hidden : ℕ → Bool
is_hidden c = is_other_blank c || is_mark c

-- a character can't be seen as it stands, or a terminal may obey it: a control character, which is one below U+0020 or from U+007F to U+009F (general
-- category Cc), but a tab is none
abbrev pub is_unseen : ℕ → Bool
is_unseen c = (is_control c && not (c == 9)) || is_hidden c

-- a text has such a character
unfoldable pub has_unseen : List ℕ → Bool
has_unseen text = list_any is_unseen (chars text)
