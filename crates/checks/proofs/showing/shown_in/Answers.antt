use Rattle.std.proofs.Common.{◌≡◌, ◌∙◌, ℕ, Bor, IfOk, List, ap, map, subst}
use Rattle.std.specs.Option.{option_copied}
use Rattle.std.specs.String.{string_bytes}
use Rattle.lines.specs.Text.{text_lines}
use Rattle.checks.specs.Shown.{shown_faults}
use Rattle.checks.proofs.showing.shown_in.Goals as goal

pub returns : goal.returns
returns c =
    let same : map (λ (line : Bor (List ℕ)). line.now) c.as_slice.result.now ≡ text_lines c.args.text.now =
    ap (map (λ (line : Bor (List ℕ)). line.now)) c.as_slice.ensures.value ∙ c.in_ok-lines.ensures in
    subst (λ (lines : List (List ℕ)). IfOk c.shown_each.result (λ shown. string_bytes shown ≡ shown_faults c.args.file.now c.args.form (option_copied c.args.target) c.args.images.now lines c.args.faults.now)) same
    c.shown_each.ensures
