use Rattle.globs.proofs.Relating.{spelled-once}
use Rattle.globs.proofs.Spelling.{read-spelled, spelled-read}
use Rattle.globs.proofs.laws.a_component_is_read_as_it_is_spelled.Goals as goal

pub returns : goal.returns
returns c = record {
  read = λ characters parts. ((λ h. read-spelled characters parts h), (λ sp. spelled-read characters parts sp));
  once = λ characters parts others p q. spelled-once characters parts others p q;
}
