-- What is said of a flag that an instruction doesn't take (own).
use Rattle.std.specs.Prelude.{◌++◌, ◌==◌, ◌||◌, ℕ, Bool, List, [], ◌∷◌, Option, Some, None, bytes_eq, codes, length, if◌then◌else◌}
use Rattle.sentences.specs.declared.message.Message.{Message}
use Rattle.meant.specs.Mounts.{key_of, value_of_item}
use Rattle.meant.specs.Said.{said, said_near}

-- what helps against a flag of COPY that Docker has, and that is left out here
unfoldable pub copy_help : List ℕ → Option (List ℕ)
copy_help name = if bytes_eq name (codes "--parents") then Some (codes "write a COPY for each folder, and the folder in its destination")
    else (if bytes_eq name (codes "--exclude") then Some (codes "leave files out by .dockerignore, or copy by name what is needed") else None)

-- the same of RUN
unfoldable pub run_help : List ℕ → Option (List ℕ)
run_help name = if bytes_eq name (codes "--network") then Some (codes "drop it, and give dfsolve llb the network of all commands by --network")
    else (if bytes_eq name (codes "--security") || bytes_eq name (codes "--device") then Some (codes "drop it") else None)

-- what is said of a flag that is left out here
abbrev pub left_out : List ℕ → List ℕ → Message
left_out name helps = said (codes "the flag " ++ (name ++ codes " is left out here on purpose")) helps

-- of one that needs a value
abbrev pub unvalued : List ℕ → List ℕ → Message
unvalued name helps = said (codes "the flag " ++ (name ++ codes " has no value")) helps

-- of one that stands on the line before
abbrev pub repeated : List ℕ → Message
repeated name = said (codes "the flag " ++ (name ++ codes " stands twice")) (codes "write it once")

-- a flag of COPY needs a value
unfoldable pub is_valued : List ℕ → Bool
is_valued name = bytes_eq name (codes "--from") || (bytes_eq name (codes "--chown") || bytes_eq name (codes "--chmod"))

-- what is said of such a flag: it has none, or stands there for the second time
abbrev pub valued_flag : List ℕ → List ℕ → Message
valued_flag name value =
    if length value == 0 then unvalued name (codes "write --from=name, --chown=1000:1000 or --chmod=644") else repeated name

-- `--link` takes a value; the empty one stands for none
unfoldable pub takes_link : List ℕ → Bool
takes_link value = (length value == 0) || (bytes_eq value (codes "true") || bytes_eq value (codes "false"))

-- what is said of `--link`: it doesn't take this value, or stands there for the second time
abbrev pub link_flag : List ℕ → Message
link_flag value = if takes_link value then repeated (codes "--link") else said (codes "the flag --link takes true or false") (codes "write --link, or drop it")

-- what is said of a flag that COPY doesn't have
abbrev pub unknown_copy_flag : List ℕ → Message
unknown_copy_flag name = said_near (codes "COPY has no flag " ++ name) name (codes "--from" ∷ codes "--chown" ∷ codes "--chmod" ∷ codes "--link" ∷ [])
    (codes "write --from=name, --chown=1000:1000, --chmod=644 or --link, each once at most")

abbrev pub other_copy_flag : List ℕ → Option (List ℕ) → Message
other_copy_flag name (Some helps) = left_out name helps
other_copy_flag name None = unknown_copy_flag name

-- what is said of a flag that a COPY doesn't take
unfoldable pub copy_flag : List ℕ → Message
copy_flag flag = if is_valued (key_of flag) then valued_flag (key_of flag) (value_of_item flag)
    else (if bytes_eq (key_of flag) (codes "--link") then link_flag (value_of_item flag)
    else other_copy_flag (key_of flag) (copy_help (key_of flag)))

abbrev pub other_run_flag : List ℕ → Option (List ℕ) → Message
other_run_flag name (Some helps) = left_out name helps
other_run_flag name None =
    said_near (codes "RUN has no flag " ++ name) name (codes "--mount" ∷ []) (codes "drop the flag, or write --mount=type=cache,target=/path")

-- what is said of a flag that a RUN doesn't take
unfoldable pub run_flag : List ℕ → Message
run_flag flag = if bytes_eq (key_of flag) (codes "--mount") then unvalued (key_of flag) (codes "write --mount=type=cache,target=/path")
    else other_run_flag (key_of flag) (run_help (key_of flag))
