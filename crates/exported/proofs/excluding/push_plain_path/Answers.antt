use Rattle.std.proofs.Common.{◌≡◌, ◌∷◌, rules}
use Rattle.std.specs.Str.{chars}
use Rattle.std.specs.String.{string_bytes}
use Rattle.exported.proofs.ExcludingFacts.{plain_more}
use Rattle.exported.proofs.excluding.push_plain_path.Goals as goal

pub loop-c-preserved : goal.loop-c-preserved
loop-c-preserved c =
    let first : chars c.loop-c.left.now ≡ c.in-Some.c ∷ chars c.in-Some.rest.now = search rules in (
      search rules,
      plain_more (string_bytes c.loop-c.pattern) (string_bytes c.push_plain.new.pattern) _ c.loop-c.left.now c.in-Some.rest.now c.in-Some.c c.loop-c.begins c.is_over.result
          first c.is_over.ensures c.in_ok-push_plain.ensures c.loop-c.invariant.1,
    )
