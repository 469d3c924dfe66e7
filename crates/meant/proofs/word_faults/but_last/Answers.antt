use Rattle.std.proofs.Common.{◌-◌, ◌∙◌, ℕ, Bor, List, ap, length, map, sym, take}
use Rattle.std.proofs.lemmas.List.{length-map}
use Rattle.meant.proofs.LineFacts.{first_lines}
use Rattle.meant.proofs.word_faults.but_last.Goals as goal

pub returns : goal.returns
returns c =
    let words = c.args.words.now in
    let texts = map (λ (word : Bor (List ℕ)). word.now) words in
    first_lines (length words - 1) words ∙ ap (λ (count : ℕ). take (count - 1) texts) (sym (length-map words (λ (word : Bor (List ℕ)). word.now)))
