use Rattle.std.proofs.Common.{◌≡◌, ◌+◌, ◌-◌, ◌≤◌, length, take, drop, ◌++◌, ap, ◌∙◌, arith, length-append, length-take-le, length-drop}
use Rattle.std.proofs.lemmas.List.{with_items_is, take-append-le}
use Rattle.std.proofs.Math.Seq.{take-append-add}
use Rattle.counted.proofs.GatheringFacts.{says_taken}
use Rattle.counted.proofs.gathering.Gathered.take_piece.Goals as goal

pub returns-clause-says : goal.returns-clause-says
returns-clause-says g c = λ contents failures.
    let buffer = c.deref_mut.result.now in
    let filled = c.self.inside.filled in
    let room = c.write-size.new.room in
    let size = c.write-size.result in
    let left = length buffer - filled in
    let behind = drop left (drop filled buffer) in
    let within : filled ≤ length buffer = omega arith in
    let inside : size ≤ length room = c.write-size.ensures.inside in
    let whole : length (take filled buffer ++ (room ++ behind)) ≡ c.self.inside.buffer.len = omega (
      arith,
      c.write-size.ensures.long,
      length-append (take filled buffer) (room ++ behind),
      length-append room behind,
      length-take-le filled buffer within,
      length-drop left (drop filled buffer),
      length-drop filled buffer,
    ) in
    let front : take filled buffer ≡ c.args.self.now.bytes = ap (take filled) c.deref_mut.ensures.value ∙ ap (λ g. g.bytes) c.self.view_is in
    let end : filled + size ≡ length (take filled buffer) + size = omega (arith, length-take-le filled buffer within) in
    says_taken contents failures c.args.self.now _ (g.P.Piece.text c.args.piece)
    (ap (take (filled + size)) (with_items_is c.self.inside.buffer (take filled buffer ++ (room ++ behind)) whole)
    ∙ ap (λ n. take n (take filled buffer ++ (room ++ behind))) end
    ∙ take-append-add (take filled buffer) (room ++ behind) size
    ∙ ap (λ t. take filled buffer ++ t) (take-append-le size room behind inside ∙ c.write-size.ensures.text)
    ∙ ap (λ t. t ++ g.P.Piece.text c.args.piece) front)
    (ap (λ g. g.failed) c.self.view_is)
