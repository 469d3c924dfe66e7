-- A copy action of BuildKit as its message says it (BuildKit's LLB, `FileActionCopy`; `docopy` and `cleanPath` in
-- solver/llbsolver/file/backend.go).
use Rattle.std.specs.Prelude.{ℕ, ℤ, pos, negsuc, Bool, true, false, ◌&&◌, ◌||◌, not, Option, Some, None, List, [], ◌∷◌, ◌++◌, ◌==◌, nat_lt, nat_le, bytes_eq, option_and_then, if◌then◌else◌}
use Rattle.paths.specs.Path.{text_of}
use Rattle.paths.specs.Reading.{pieces, cleaned}
use Rattle.plain.specs.declared.owner.Owner.{Owner}
use Rattle.trees.specs.TreeMap.{TreeMap}
use Rattle.llbmessages.specs.declared.file.ChownOpt.{ChownOpt}
use Rattle.llbmessages.specs.declared.file.CopyAction.{CopyAction}
use Rattle.fileactions.specs.Copying.{Outcome, Setting, with_paths}

-- the path that a text names from the root (`cleanPath`; of a folder or a file that is made, `mkdir` and `mkfile`)
abbrev pub path_of : List ℕ → List (List ℕ)
path_of text = cleaned (pieces text)

-- whether a text is that of its path, or has a `/` behind that; others aren't modelled
abbrev pub is_clean_text : List ℕ → Bool
is_clean_text text = bytes_eq text (text_of (path_of text)) || bytes_eq text (text_of (path_of text) ++ 47 ∷ [])

-- whether a text ends in `/` (`cleanPath`)
abbrev pub ends_in_slash : List ℕ → Bool
ends_in_slash [] = false
ends_in_slash (byte ∷ []) = byte == 47
ends_in_slash (byte ∷ next ∷ bytes) = ends_in_slash (next ∷ bytes)

-- the owner that an action sets
abbrev pub owner_of : Option ChownOpt → Option Owner
owner_of None = None
owner_of (Some chown) = Some (record { user = chown.user; group = chown.group })

-- the mode that an action sets: none for -1
abbrev pub mode_of : ℤ → Option ℕ
mode_of (pos bits) = Some bits
mode_of (negsuc n) = None

-- whether an action's mode is one, or -1; others aren't modelled
abbrev pub is_mode : ℤ → Bool
is_mode (pos bits) = nat_le bits 4095
is_mode (negsuc n) = n == 0

-- whether an owner's numbers can be set: the system takes 4294967295 for none
abbrev pub can_be_set : Option ChownOpt → Bool
can_be_set None = true
can_be_set (Some chown) = nat_lt chown.user 4294967295 && nat_lt chown.group 4294967295

-- what an action sets of what it copies
abbrev pub setting_of : CopyAction → Setting
setting_of copy = record { owner = owner_of copy.owner; mode = mode_of copy.mode }

-- what BuildKit finds of a pattern in a tree, in the order in which it goes through it (`ResolveWildcards`; Go's filepath.Match). This isn't modelled
abbrev pub Finder : Type 0
Finder = List ℕ → TreeMap → List (List (List ℕ))

-- paths, of which there has to be one
abbrev pub some_of : List (List (List ℕ)) → Option (List (List (List ℕ)))
some_of [] = None
some_of (path ∷ paths) = Some (path ∷ paths)

-- the paths that an action copies: those of a pattern, or the one that is named
abbrev pub paths_of : Finder → CopyAction → TreeMap → Option (List (List (List ℕ)))
paths_of finder copy from =
    if copy.allow_wildcard then some_of (finder copy.src from) else Some (path_of copy.src ∷ [])

-- whether an action is modelled: it follows links, copies a folder's entries, makes the folders above the destination and has to find something; its
-- mode and its owner can be set, and its texts are clean
abbrev pub is_modelled : CopyAction → Bool
is_modelled copy =
    copy.follow_symlink && (copy.dir_copy_contents && (copy.create_dest_path && (not copy.allow_empty_wildcard
    && (is_mode copy.mode && (can_be_set copy.owner && (is_clean_text copy.dest && (copy.allow_wildcard || is_clean_text copy.src)))))))

-- a copy action from one tree onto another; nothing for one that isn't modelled
unfoldable pub copied_by : Finder → CopyAction → TreeMap → TreeMap → Outcome
copied_by finder copy from tree =
    if is_modelled copy
    then option_and_then (λ paths. with_paths (ends_in_slash copy.dest) (setting_of copy) from (path_of copy.dest) paths tree) (paths_of finder copy from)
    else None
