use Rattle.std.proofs.Common.{◌≡◌, ◌∙◌, ℕ, List, Some, None, ap, sym}
use Rattle.std.specs.List.{list_any, filter_map}
use Rattle.plain.specs.declared.refusal.Code.TheVariants.{R16}
use Rattle.scopes.specs.Scope.{value_in}
use Rattle.imageconfig.specs.Lines.{values_of, words_fault, is_bad_port}
use Rattle.imageconfig.specs.Ports.{port_key}
use Rattle.imageconfig.proofs.LineFacts.{words_given}
use Rattle.imageconfig.proofs.StepFacts.{no_reason}
use Rattle.imageconfig.proofs.line.port_keys.Goals as goal

pub returns : goal.returns
returns c =
    let none : words_fault (value_in c.args.before.now) c.args.ports.now ≡ None = sym c.in_ok-values.ensures.fault ∙ c.in_default.is in (
      ap (λ (keys : List (List ℕ)). Some keys)
          (sym (c.in_ok-keys_of.ensures ∙ ap (filter_map port_key) (c.as_slice-2.ensures ∙ c.in_ok-values.ensures.values ∙ words_given (value_in c.args.before.now) c.args.ports.now none))),
      no_reason R16 (list_any is_bad_port (values_of (value_in c.args.before.now) c.args.ports.now)) (words_fault (value_in c.args.before.now) c.args.ports.now)
          (ap (list_any is_bad_port) (sym (c.as_slice.ensures ∙ c.in_ok-values.ensures.values)) ∙ sym c.have_bad_port.ensures ∙ c.if-have_bad_port.false) none,
    )
