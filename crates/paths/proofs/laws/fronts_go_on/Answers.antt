use Rattle.std.proofs.Common.{ap, ◌∙◌}
use Rattle.paths.specs.Fronts.{is_front}
use Rattle.paths.proofs.FrontLaws.{front-parts, front-of, under_parts, under_from, any-fronts}
use Rattle.paths.proofs.laws.fronts_go_on.Goals as goal

pub returns : goal.returns
returns c = record {
  front = λ front path. (front-parts front path, λ h. ap (is_front front) h.1.1 ∙ front-of front h.0 h.1.0);
  under = λ p top. (under_parts p top, under_from p top);
  fronts = any-fronts;
}
