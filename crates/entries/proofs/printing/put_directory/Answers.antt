use Rattle.std.proofs.Common.{◌<◌, ◌++◌, codes, decimal, sym, ap, ◌∙◌, arith}
use Rattle.serde_json.specs.Written.{comma_if}
use Rattle.trees.specs.Rows.{lent_names}
use Rattle.counted.proofs.GatheringFacts.{says_both, says_as}
use Rattle.entries.specs.PrivatePrinting.{end_text}
use Rattle.entries.proofs.PrintingFacts.{directory-text, start-then}
use Rattle.entries.proofs.printing.put_directory.Goals as goal

pub returns-clause-says : goal.returns-clause-says
returns-clause-says g c =
    let small : c.args.meta.mode < 4096 = omega (arith, c.bits-mode.ensures.value, c.bits-mode.ensures.small) in
    let names = lent_names c.args.names.now in
    says_as (says_both c.gather_piece.ensures.says c.put_end.ensures.says)
    (start-then (comma_if c.args.later) (codes "{\"dir\":true,\"gid\":") (decimal c.args.meta.gid) (codes ",\"mode\":\"") (end_text names c.args.meta)
    ∙ ap (λ t. comma_if c.args.later ++ t) (sym (directory-text names c.args.meta small)))
