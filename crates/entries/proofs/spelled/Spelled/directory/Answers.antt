use Rattle.std.proofs.Common.{◌≡◌, ℕ, List, Option, Some, false, true, is_some, ap, sym, ◌∙◌, codes, rules}
use Rattle.serde_json.specs.Data.{Data}
use Rattle.serde_json.specs.Find.{as_bool, as_str, get_member}
use Rattle.trees.specs.declared.entry.Entry.TheVariants.{Directory}
use Rattle.entries.specs.PrivateKeys.{lent_text}
use Rattle.entries.specs.Reading.{meta_at}
use Rattle.entries.proofs.KeyFacts.{directory_read, directory_row, is_there, missing, none_is}
use Rattle.entries.proofs.spelled.Spelled.directory.Goals as goal

pub returns : goal.returns
returns c found h is =
    let at : List ℕ → Option Data = λ key. get_member key found in
    let text : is_some c.args.self.text ≡ false = search rules in
    let hex : is_some c.args.self.hex ≡ false = search rules in
    let flag = h.dir ∙ ap Some is in
    let meta = ap (λ default. meta_at default (at (codes "mode")) (at (codes "uid")) (at (codes "gid"))) (sym c.directory.ensures) ∙ c.in_ok-meta.ensures found h in
    directory_row found h.known (c.in_ok-path.path, Directory c.in_ok-meta.meta) (is_there as_bool (at (codes "dir")) true flag)
    (missing as_str (at (codes "text")) (h.text ∙ ap (λ o. Some (lent_text o)) (none_is c.args.self.text text)))
    (missing as_str (at (codes "hex")) (h.hex ∙ ap (λ o. Some (lent_text o)) (none_is c.args.self.hex hex)))
    (directory_read _ c.in_ok-path.path c.in_ok-meta.meta (at (codes "dir")) (at (codes "path")) flag (c.in_ok-path.ensures found h) meta)
