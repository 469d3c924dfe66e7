-- Changes of trees are read as they were written.
use Rattle.std.proofs.lemmas.Int.{ints}
use Rattle.std.proofs.Common.{arith, ◌≡◌, ℕ, ℤ, Option, Some, None, option_map, [], ◌∷◌, refl, ap, ◌∙◌}
use Rattle.std.specs.Option.{option_and_then, ForSome}
use Rattle.std.specs.Int.{w32, w64}
use Rattle.std.specs.Int.RustNames.{FitsSigned}
use Rattle.wire.specs.Fields.{number}
use Rattle.wire.specs.Messages.{message_bytes}
use Rattle.wire.specs.Kinds.{message_field, numbers_of, blocks_of, int_at, flag_at, bytes_at, joined, read_as, message_at, optional_at, messages_at}
use Rattle.wire.proofs.ReadLemmas.{reads, last-int, last-flag, last-bytes, joined-one, ReadsBack, fields-back, optional-back, each-back, all_map}
use Rattle.llbmessages.specs.declared.file.ChownOpt.{ChownOpt}
use Rattle.llbmessages.specs.declared.file.CopyAction.{CopyAction}
use Rattle.llbmessages.specs.declared.file.MakeFileAction.{MakeFileAction}
use Rattle.llbmessages.specs.declared.file.MakeDirAction.{MakeDirAction}
use Rattle.llbmessages.specs.declared.file.FileActionKind.{FileActionKind}
use Rattle.llbmessages.specs.declared.file.FileActionKind.TheVariants.{Copy, MakeFile, MakeDir}
use Rattle.llbmessages.specs.declared.file.FileAction.{FileAction}
use Rattle.llbmessages.specs.declared.file.FileOp.{FileOp}
use Rattle.llbmessages.specs.File.{chown_fields, copy_fields, make_file_fields, make_dir_fields, action_kind_fields, action_fields, file_fields, id_of, chown_of, copy_of, make_file_of, make_dir_of, action_kind_read, action_of, file_of, FitsActionKind, FitsAction, FitsFile}

-- a number of 32 bits has 64 bits
wide : (value : ℤ) → FitsSigned w32 value → FitsSigned w64 value
wide value fits = omega (arith, ints)

id-back : (id : ℕ) → ReadsBack (λ n. number 2 n ∷ []) (read_as id_of) id
unfolding numbers_of
id-back id = fields-back (λ n. number 2 n ∷ []) id_of id refl

chown-back : (owner : ChownOpt) → chown_of (chown_fields owner) ≡ Some owner
unfolding chown_of chown_fields
chown-back owner =
    let user : message_at (read_as id_of) 1 (chown_fields owner) ≡ Some owner.user =
    simp reads (id-back owner.user) in
    let group : message_at (read_as id_of) 2 (chown_fields owner) ≡ Some owner.group =
    simp reads (id-back owner.group) in
    λ i. option_and_then (λ user. option_map (λ group. record { user = user; group = group }) (group i)) (user i)

owner-back : (owner : Option ChownOpt) → ForSome owner (ReadsBack chown_fields (read_as chown_of))
owner-back owner = λ chown _. fields-back chown_fields chown_of chown (chown-back chown)

copy-back : (copy : CopyAction) → FitsActionKind (Copy copy) → copy_of (copy_fields copy) ≡ Some copy
unfolding copy_of copy_fields
copy-back copy fits =
    let src : bytes_at 1 (copy_fields copy) ≡ copy.src = simp reads (last-bytes copy.src) in
    let dest : bytes_at 2 (copy_fields copy) ≡ copy.dest = simp reads (last-bytes copy.dest) in
    let owner : optional_at (read_as chown_of) 3 (copy_fields copy) ≡ Some copy.owner =
    simp reads (optional-back chown_fields (read_as chown_of) copy.owner (owner-back copy.owner)) in
    let mode : int_at 4 (copy_fields copy) ≡ copy.mode = simp reads (last-int copy.mode (wide copy.mode fits.0)) in
    let follow_symlink : flag_at 5 (copy_fields copy) ≡ copy.follow_symlink = simp reads (last-flag copy.follow_symlink) in
    let dir_copy_contents : flag_at 6 (copy_fields copy) ≡ copy.dir_copy_contents = simp reads (last-flag copy.dir_copy_contents) in
    let create_dest_path : flag_at 8 (copy_fields copy) ≡ copy.create_dest_path = simp reads (last-flag copy.create_dest_path) in
    let allow_wildcard : flag_at 9 (copy_fields copy) ≡ copy.allow_wildcard = simp reads (last-flag copy.allow_wildcard) in
    let allow_empty_wildcard : flag_at 10 (copy_fields copy) ≡ copy.allow_empty_wildcard = simp reads (last-flag copy.allow_empty_wildcard) in
    let timestamp : int_at 11 (copy_fields copy) ≡ copy.timestamp = simp reads (last-int copy.timestamp fits.1) in
    λ i. option_map
    (λ owner. record { src = src i; dest = dest i; owner = owner; mode = mode i; follow_symlink = follow_symlink i; dir_copy_contents = dir_copy_contents i; create_dest_path = create_dest_path i; allow_wildcard = allow_wildcard i; allow_empty_wildcard = allow_empty_wildcard i; timestamp = timestamp i })
    (owner i)

make_file-back : (file : MakeFileAction) → FitsActionKind (MakeFile file) → make_file_of (make_file_fields file) ≡ Some file
unfolding make_file_of make_file_fields
make_file-back file fits =
    let path : bytes_at 1 (make_file_fields file) ≡ file.path = simp reads (last-bytes file.path) in
    let mode : int_at 2 (make_file_fields file) ≡ file.mode = simp reads (last-int file.mode (wide file.mode fits.0)) in
    let content : bytes_at 3 (make_file_fields file) ≡ file.data = simp reads (last-bytes file.data) in
    let owner : optional_at (read_as chown_of) 4 (make_file_fields file) ≡ Some file.owner =
    simp reads (optional-back chown_fields (read_as chown_of) file.owner (owner-back file.owner)) in
    let timestamp : int_at 5 (make_file_fields file) ≡ file.timestamp = simp reads (last-int file.timestamp fits.1) in
    λ i. option_map (λ owner. record { path = path i; mode = mode i; «data» = content i; owner = owner; timestamp = timestamp i }) (owner i)

make_dir-back : (dir : MakeDirAction) → FitsActionKind (MakeDir dir) → make_dir_of (make_dir_fields dir) ≡ Some dir
unfolding make_dir_of make_dir_fields
make_dir-back dir fits =
    let path : bytes_at 1 (make_dir_fields dir) ≡ dir.path = simp reads (last-bytes dir.path) in
    let mode : int_at 2 (make_dir_fields dir) ≡ dir.mode = simp reads (last-int dir.mode (wide dir.mode fits.0)) in
    let make_parents : flag_at 3 (make_dir_fields dir) ≡ dir.make_parents = simp reads (last-flag dir.make_parents) in
    let owner : optional_at (read_as chown_of) 4 (make_dir_fields dir) ≡ Some dir.owner =
    simp reads (optional-back chown_fields (read_as chown_of) dir.owner (owner-back dir.owner)) in
    let timestamp : int_at 5 (make_dir_fields dir) ≡ dir.timestamp = simp reads (last-int dir.timestamp fits.1) in
    λ i. option_map (λ owner. record { path = path i; mode = mode i; make_parents = make_parents i; owner = owner; timestamp = timestamp i }) (owner i)

kind-numbers : (key : ℕ) (kind : FileActionKind) → numbers_of key (action_kind_fields kind) ≡ []
unfolding action_kind_fields numbers_of message_field
kind-numbers key (Copy copy) = refl
kind-numbers key (MakeFile file) = refl
kind-numbers key (MakeDir dir) = refl

kind-back : (kind : FileActionKind) → FitsActionKind kind
    → action_kind_read (joined (blocks_of 4 (action_kind_fields kind))) (joined (blocks_of 5 (action_kind_fields kind)))
    (joined (blocks_of 6 (action_kind_fields kind))) ≡ Some kind
unfolding action_kind_fields blocks_of message_field
kind-back (Copy copy) fits =
    ap (λ bytes. action_kind_read bytes None None) (joined-one (message_bytes (copy_fields copy)))
    ∙ ap (option_map Copy) (fields-back copy_fields copy_of copy (copy-back copy fits))
kind-back (MakeFile file) fits =
    ap (λ bytes. action_kind_read None bytes None) (joined-one (message_bytes (make_file_fields file)))
    ∙ ap (option_map MakeFile) (fields-back make_file_fields make_file_of file (make_file-back file fits))
kind-back (MakeDir dir) fits =
    ap (λ bytes. action_kind_read None None bytes) (joined-one (message_bytes (make_dir_fields dir)))
    ∙ ap (option_map MakeDir) (fields-back make_dir_fields make_dir_of dir (make_dir-back dir fits))

action-back : (action : FileAction) → FitsAction action → action_of (action_fields action) ≡ Some action
unfolding action_of action_fields
action-back action fits =
    let input : int_at 1 (action_fields action) ≡ action.input = simp (reads, kind-numbers) (last-int action.input fits.0) in
    let secondary : int_at 2 (action_fields action) ≡ action.secondary_input = simp (reads, kind-numbers) (last-int action.secondary_input fits.1) in
    let output : int_at 3 (action_fields action) ≡ action.output = simp (reads, kind-numbers) (last-int action.output fits.2) in
    let kind : action_kind_read (joined (blocks_of 4 (action_fields action))) (joined (blocks_of 5 (action_fields action)))
    (joined (blocks_of 6 (action_fields action))) ≡ Some action.kind = simp reads (kind-back action.kind fits.3) in
    λ i. option_map (λ kind. record { input = input i; secondary_input = secondary i; output = output i; kind = kind }) (kind i)

pub file-back : (file : FileOp) → FitsFile file → file_of (file_fields file) ≡ Some file
unfolding file_of file_fields
file-back file fits =
    let actions : messages_at (read_as action_of) 2 (file_fields file) ≡ Some file.actions =
    simp reads (each-back action_fields (read_as action_of) file.actions
    (all_map FitsAction (ReadsBack action_fields (read_as action_of)) file.actions
    (λ action fit. fields-back action_fields action_of action (action-back action fit)) fits)) in
    λ i. option_map (λ actions. record { actions = actions }) (actions i)
