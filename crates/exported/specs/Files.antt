-- What making folders and copying files are in a definition (BuildKit's LLB, `FileOp`). An action's number is counted from that of the
-- operation's inputs on; an action works on the tree that the one before it made, and the last one's is the operation's.
use Rattle.std.specs.Prelude.{ℕ, ◌+◌, ℤ, pos, negsuc, Bool, true, false, Option, Some, None, List, [], ◌∷◌, ◌++◌, length, if◌then◌else◌}
use Rattle.paths.specs.Path.{text_of}
use Rattle.plain.specs.declared.owner.Owner.{Owner}
use Rattle.llb.specs.declared.op.FileSource.{FileSource}
use Rattle.llb.specs.declared.op.FileSource.TheVariants.{Pattern, Data}
use Rattle.llb.specs.declared.op.CopyFiles.{CopyFiles}
use Rattle.llbmessages.specs.declared.file.ChownOpt.{ChownOpt}
use Rattle.llbmessages.specs.declared.file.CopyAction.{CopyAction}
use Rattle.llbmessages.specs.declared.file.FileActionKind.TheVariants.{Copy, MakeFile, MakeDir}
use Rattle.llbmessages.specs.declared.file.FileAction.{FileAction}
use Rattle.exported.specs.Places.{inputs_of, index_at}
use Rattle.exported.specs.Patterns.{source_path, allows_wildcard}

-- the number of no tree, of the time at which something is made, and of a mode that stays
abbrev pub none : ℤ
none = negsuc 0

-- a folder with its parents, 0755 and root's where they aren't there (Dockerfile reference, WORKDIR)
unfoldable pub make_dir_actions : List (Option (List ℕ)) → List (List ℕ) → List FileAction
make_dir_actions places path =
    record {
      input = index_at (inputs_of places) places 0;
      secondary_input = none;
      output = pos 0;
      kind = MakeDir (record { path = text_of path; mode = pos 493; make_parents = true; owner = None; timestamp = none });
    } ∷ []

-- the mode of what is copied
abbrev pub mode_number : Option ℕ → ℤ
mode_number None = none
mode_number (Some bits) = pos bits

-- the owner of what is copied, by its numbers
abbrev pub owner_by_id : Option Owner → Option ChownOpt
owner_by_id None = None
owner_by_id (Some owner) = Some (record { user = owner.user; group = owner.group })

-- where to: a `/` at the end where files go into a folder; the root has it already
abbrev pub dest_of : List (List ℕ) → Bool → List ℕ
dest_of [] into = text_of []
dest_of (name ∷ names) into = if into then text_of (name ∷ names) ++ 47 ∷ [] else text_of (name ∷ names)

-- a copy as COPY makes it: what links lead to, a folder's entries and not the folder, and the folders above the destination; a pattern that
-- relates to nothing fails (Dockerfile reference, COPY; own)
unfoldable pub copy_action : CopyFiles → List ℕ → Bool → CopyAction
copy_action files src wild =
    record {
      src = src;
      dest = dest_of files.dest files.options.into;
      owner = owner_by_id files.options.owner;
      mode = mode_number files.options.mode;
      follow_symlink = true;
      dir_copy_contents = true;
      create_dest_path = true;
      allow_wildcard = wild;
      allow_empty_wildcard = false;
      timestamp = none;
    }

-- a file of a COPY's own, 0644 and root's, alone in a tree of its own (Dockerfile reference, here-documents)
unfoldable pub own_file_action : List ℕ → List ℕ → FileAction
own_file_action name content =
    record {
      input = none;
      secondary_input = none;
      output = none;
      kind = MakeFile (record { path = 47 ∷ name; mode = pos 420; «data» = content; owner = None; timestamp = none });
    }

-- the output that an action is, before these sources
abbrev pub output_before : List FileSource → ℤ
output_before [] = pos 0
output_before (source ∷ sources) = none

-- the actions of one source, onto the tree of number `input`: `number` is that of its first action, `from` that of the tree in which
-- patterns are looked for
unfoldable pub source_actions : CopyFiles → ℤ → ℕ → ℤ → ℤ → FileSource → List FileAction
source_actions files from number input output (Pattern text) =
    record { input = input; secondary_input = from; output = output; kind = Copy (copy_action files (source_path text) (allows_wildcard text)) } ∷ []
source_actions files from number input output (Data name content) =
    own_file_action name content
    ∷ record { input = input; secondary_input = pos number; output = output; kind = Copy (copy_action files (47 ∷ name) false) } ∷ []

-- the number of a source's last action, whose tree the next source is copied onto
abbrev pub last_number : ℕ → FileSource → ℕ
last_number number (Pattern text) = number
last_number number (Data name content) = number + 1

-- the actions of sources one after another
abbrev pub copy_actions : CopyFiles → ℤ → ℕ → ℤ → List FileSource → List FileAction
copy_actions files from number input [] = []
copy_actions files from number input (source ∷ sources) =
    source_actions files from number input (output_before sources) source
    ++ copy_actions files from (last_number number source + 1) (pos (last_number number source)) sources

-- a COPY onto the tree of the first place, of what is in that of the second
unfoldable pub copied : CopyFiles → List (Option (List ℕ)) → List FileAction
copied files places =
    copy_actions files (index_at (inputs_of places) places 1) (length (inputs_of places)) (index_at (inputs_of places) places 0) files.sources
