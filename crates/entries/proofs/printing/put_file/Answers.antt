use Rattle.std.proofs.Common.{◌<◌, ◌++◌, codes, decimal, sym, ap, ◌∙◌, arith}
use Rattle.hex.specs.Hex.{IsBytes, encode_lower}
use Rattle.serde_json.specs.Written.{comma_if}
use Rattle.trees.specs.Rows.{lent_names}
use Rattle.counted.proofs.GatheringFacts.{says_both, says_as}
use Rattle.entries.specs.PrivatePrinting.{end_text}
use Rattle.entries.proofs.PrintingFacts.{file-text, start-then}
use Rattle.entries.proofs.printing.put_file.Goals as goal

pub returns-clause-says : goal.returns-clause-says
returns-clause-says g c =
    let small : c.args.meta.mode < 4096 = omega (arith, c.bits-mode.ensures.value, c.bits-mode.ensures.small) in
    let fits : IsBytes c.args.bytes.now = λ i. let f = c.type_inv.bytes i in omega arith in
    let names = lent_names c.args.names.now in
    let bytes = c.args.bytes.now in
    says_as (says_both c.gather_piece.ensures.says (says_both c.put_hex.ensures.says (says_both c.gather.ensures.says c.put_end.ensures.says)))
    (start-then (comma_if c.args.later) (codes "{\"gid\":") (decimal c.args.meta.gid) (codes ",\"hex\":\"") (encode_lower bytes ++ (codes "\",\"mode\":\"" ++ end_text names c.args.meta))
    ∙ ap (λ t. comma_if c.args.later ++ t) (sym (file-text names c.args.meta bytes small fits)))
