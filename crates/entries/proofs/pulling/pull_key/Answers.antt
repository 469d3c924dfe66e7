use Rattle.entries.proofs.KeyFacts.{put_dir, put_gid, put_hex, put_mode, put_path, put_text, put_uid}
use Rattle.entries.proofs.pulling.pull_key.Goals as goal

pub returns-in_ok-next_text-in-path : goal.returns-in_ok-next_text-in-path
returns-in_ok-next_text-in-path c depth =
    let pulled = c.in_ok-next_text-in-path.ensures depth in
    (pulled.0, pulled.1, λ found h. put_path c.args.spelled.now c.in_ok-next_text-in-path.field-0 pulled.0 c.args.key.now found c.in-path.is pulled.2 h)

pub returns-in_ok-next_text-in-text : goal.returns-in_ok-next_text-in-text
returns-in_ok-next_text-in-text c depth =
    let pulled = c.in_ok-next_text-in-text.ensures depth in
    (pulled.0, pulled.1, λ found h. put_text c.args.spelled.now c.in_ok-next_text-in-text.field-0 pulled.0 c.args.key.now found c.in-text.is pulled.2 h)

pub returns-in_ok-next_text-in-hex : goal.returns-in_ok-next_text-in-hex
returns-in_ok-next_text-in-hex c depth =
    let pulled = c.in_ok-next_text-in-hex.ensures depth in
    (pulled.0, pulled.1, λ found h. put_hex c.args.spelled.now c.in_ok-next_text-in-hex.field-0 pulled.0 c.args.key.now found c.in-hex.is pulled.2 h)

pub returns-in_ok-next_text-in-mode : goal.returns-in_ok-next_text-in-mode
returns-in_ok-next_text-in-mode c depth =
    let pulled = c.in_ok-next_text-in-mode.ensures depth in
    (pulled.0, pulled.1, λ found h. put_mode c.args.spelled.now c.in_ok-next_text-in-mode.field-0 pulled.0 c.args.key.now found c.in-mode.is pulled.2 h)

pub returns-in_ok-next_number-in-uid : goal.returns-in_ok-next_number-in-uid
returns-in_ok-next_number-in-uid c depth =
    let pulled = c.in_ok-next_number-in-uid.ensures depth in
    (pulled.0, pulled.1, λ found h. put_uid c.args.spelled.now c.in_ok-next_number-in-uid.field-0 pulled.0 c.args.key.now found c.in-uid.is pulled.2 h)

pub returns-in_ok-next_number-in-gid : goal.returns-in_ok-next_number-in-gid
returns-in_ok-next_number-in-gid c depth =
    let pulled = c.in_ok-next_number-in-gid.ensures depth in
    (pulled.0, pulled.1, λ found h. put_gid c.args.spelled.now c.in_ok-next_number-in-gid.field-0 pulled.0 c.args.key.now found c.in-gid.is pulled.2 h)

pub returns-in_ok-next_flag-in-dir : goal.returns-in_ok-next_flag-in-dir
returns-in_ok-next_flag-in-dir c depth =
    let pulled = c.in_ok-next_flag-in-dir.ensures depth in
    (pulled.0, pulled.1, λ found h. put_dir c.args.spelled.now c.in_ok-next_flag-in-dir.field-0 pulled.0 c.args.key.now found c.in-dir.is pulled.2 h)
