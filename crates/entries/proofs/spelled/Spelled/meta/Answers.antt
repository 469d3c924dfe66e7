use Rattle.std.proofs.Common.{◌≡◌, Some, unwrap_or, ◌∙◌, codes, rules}
use Rattle.serde_json.specs.Find.{get_member}
use Rattle.entries.proofs.KeyFacts.{meta_read}
use Rattle.entries.proofs.spelled.Spelled.meta.Goals as goal

pub returns : goal.returns
returns c found h =
    let default = c.args.default in
    let mode : unwrap_or c.in_ok-mode.mode default.mode ≡ c.unwrap_or.result = search rules in
    let uid : unwrap_or c.args.self.uid default.uid ≡ c.unwrap_or-2.result = search rules in
    let gid : unwrap_or c.args.self.gid default.gid ≡ c.unwrap_or-3.result = search rules in
    meta_read default (get_member (codes "mode") found) (get_member (codes "uid") found) (get_member (codes "gid") found) c.in_ok-mode.mode c.args.self.uid c.args.self.gid (c.in_ok-mode.ensures found h) h.uid h.gid
    ∙ (λ i. Some (record { mode = mode i; uid = uid i; gid = gid i }))
