use Rattle.std.proofs.Common.{◌≡◌, ◌∙◌, ℕ, Bool, List, Option, Result, is_some, ap, subst}
use Rattle.plain.specs.declared.fault.Fault.{Fault}
use Rattle.plain.specs.declared.refusal.Code.{Code}
use Rattle.lines.specs.declared.escape.Escape.{Escape}
use Rattle.lines.specs.declared.line.Heredoc.{Heredoc}
use Rattle.words.specs.Flag.{flags, behind_flags}
use Rattle.words.specs.Form.{json_form}
use Rattle.words.specs.declared.flag.Flag.{Flag}
use Rattle.instructions.specs.Copy.{copy_read, copy_due}
use Rattle.instructions.specs.Expanded.{is_list, texts, texts_by}
use Rattle.instructions.specs.Least.{Meets}
use Rattle.instructions.specs.PrivateCopy.{parts_read, parts_due}
use Rattle.instructions.specs.PrivateLent.{lent_texts}
use Rattle.instructions.specs.declared.instruction.InstructionKind.{InstructionKind}
use Rattle.instructions.proofs.copy.read_copy.Goals as goal

-- what reads the parts of a text reads the text
text_read : (escape : Escape) (heredocs : List Heredoc) (text rest : List ℕ) (ts : List (List ℕ)) (fs : List Flag) (listed : Bool)
    (form : Option (List (List ℕ))) (result : Result InstructionKind (Fault Code))
    → fs ≡ flags text → rest ≡ behind_flags text → form ≡ json_form rest → listed ≡ is_some form → ts ≡ texts_by escape rest form
    → Meets (parts_read listed escape heredocs ts fs) (parts_due listed escape heredocs rest ts fs) result
    → Meets (copy_read escape heredocs text) (copy_due escape heredocs text) result
text_read escape heredocs text rest ts fs listed form result flags_are rest_is form_is list_is texts_are meets =
    let behind = behind_flags text in
    let form_there : form ≡ json_form behind = form_is ∙ ap json_form rest_is in
    let list_there : listed ≡ is_list behind = list_is ∙ ap is_some form_there in
    let texts_there : ts ≡ texts escape behind = texts_are ∙ ap (λ r. texts_by escape r form) rest_is ∙ ap (texts_by escape behind) form_there in
    let a = subst (λ (f : List Flag). Meets (parts_read listed escape heredocs ts f) (parts_due listed escape heredocs rest ts f) result) flags_are meets in
    let b = subst (λ (r : List ℕ). Meets (parts_read listed escape heredocs ts (flags text)) (parts_due listed escape heredocs r ts (flags text)) result) rest_is a in
    let d = subst (λ (l : Bool). Meets (parts_read l escape heredocs ts (flags text)) (parts_due l escape heredocs behind ts (flags text)) result) list_there b in
    subst (λ (s : List (List ℕ)). Meets (parts_read (is_list behind) escape heredocs s (flags text)) (parts_due (is_list behind) escape heredocs behind s (flags text)) result) texts_there d

pub returns : goal.returns
returns c =
    text_read c.args.escape c.args.heredocs.now c.args.text.now c.in_ok-flags.rest.now (lent_texts c.deref.result.now) c.as_slice.result.now
    c.is_some-is_list.result c.in_ok-form.form c.read_parts.result (c.as_slice.ensures ∙ c.in_ok-flags.ensures.flags) c.in_ok-flags.ensures.rest
    c.in_ok-form.ensures c.is_some-is_list.ensures (ap lent_texts c.deref.ensures.value ∙ c.in_ok-texts.ensures) c.read_parts.ensures
