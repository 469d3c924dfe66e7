use Rattle.std.proofs.Common.{◌≡◌, ◌+◌, ◌-◌, ◌≤◌, length, take, drop, ◌++◌, ap, ◌∙◌, arith, length-append, length-take-le, length-drop}
use Rattle.std.proofs.lemmas.List.{with_items_is}
use Rattle.std.proofs.lemmas.Slice.{take-put_mid}
use Rattle.counted.proofs.GatheringFacts.{says_taken}
use Rattle.counted.proofs.gathering.Gathered.take_in.Goals as goal

pub returns-clause-says : goal.returns-clause-says
returns-clause-says c = λ contents failures.
    let buffer = c.deref_mut.result.now in
    let filled = c.self.inside.filled in
    let bytes = c.args.bytes.now in
    let put = c.copy_from_slice.new.self in
    let size : length put ≡ length bytes = ap length c.copy_from_slice.ensures.after in
    let room = filled + length bytes - filled in
    let behind = drop room (drop filled buffer) in
    let within : filled ≤ length buffer = omega arith in
    let whole : length (take filled buffer ++ (put ++ behind)) ≡ c.self.inside.buffer.len = omega (
      arith,
      size,
      length-append (take filled buffer) (put ++ behind),
      length-append put behind,
      length-take-le filled buffer within,
      length-drop room (drop filled buffer),
      length-drop filled buffer,
    ) in
    let front : take filled buffer ≡ c.args.self.now.bytes = ap (take filled) c.deref_mut.ensures.value ∙ ap (λ g. g.bytes) c.self.view_is in
    let end : filled + length bytes ≡ filled + length put = omega (arith, size) in
    says_taken contents failures c.args.self.now _ bytes
    (ap (take (filled + length bytes)) (with_items_is c.self.inside.buffer (take filled buffer ++ (put ++ behind)) whole)
    ∙ take-put_mid filled room buffer put (filled + length bytes) end within ∙ ap (λ t. take filled buffer ++ t) c.copy_from_slice.ensures.after ∙ ap (λ t. t ++ bytes) front)
    (ap (λ g. g.failed) c.self.view_is)
