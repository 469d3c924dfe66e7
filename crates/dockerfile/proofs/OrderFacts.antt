-- Facts on the order of instructions.
use Rattle.std.specs.Prelude.{◌≡◌, ◌<◌, ◌≤◌, ◌+◌, ℕ, List, ◌∷◌, length, drop}
use Rattle.std.specs.List.{All}
use Rattle.std.proofs.Common.{sym, ◌∙◌, ap, subst, get_or}
use Rattle.std.proofs.lemmas.List.{at_drop_more}
use Rattle.std.proofs.lemmas.List.Elements.{All-cons}
use Rattle.plain.specs.Limits.{most_line_number}
use Rattle.instructions.specs.Instruction.{Instruction, IsInstruction}
use Rattle.dockerfile.specs.Dockerfile.{AscendBelow}

-- what is left decides: the instructions before it ascend to this line, and are whole
pub record GoesOn (all rest : List Instruction) (last : ℕ) : Type 0 where
  pub on : AscendBelow last rest → AscendBelow 0 all
  pub back : AscendBelow 0 all → AscendBelow last rest
  pub whole : All (λ i. IsInstruction i.kind) rest → All (λ i. IsInstruction i.kind) all

rest_is : (all : List Instruction) (index : ℕ) (i : Instruction) → index < length all → i ≡ get_or all index i → drop index all ≡ i ∷ drop (index + 1) all
rest_is all index i lt is = at_drop_more (λ (js : List Instruction). js) all index i lt ∙ ap (λ (j : Instruction). j ∷ drop (index + 1) all) (sym is)

pub goes_on_more : (all : List Instruction) (index last : ℕ) (i : Instruction) → index < length all → i ≡ get_or all index i → last < i.line → i.line ≤ most_line_number → IsInstruction i.kind
    → GoesOn all (drop index all) last → GoesOn all (drop (index + 1) all) i.line
goes_on_more all index last i lt is above within good far =
    let now : GoesOn all (i ∷ drop (index + 1) all) last = subst (λ (js : List Instruction). GoesOn all js last) (rest_is all index i lt is) far in
    record {
      on = λ h. now.on (above, within, h);
      back = λ h. (now.back h).2;
      whole = λ h. now.whole (All-cons (λ (j : Instruction). IsInstruction j.kind) i (drop (index + 1) all) good h);
    }
