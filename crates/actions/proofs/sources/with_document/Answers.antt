use Rattle.std.proofs.Common.{rules}
use Rattle.actions.proofs.LimitFacts.{worse_added}
use Rattle.actions.proofs.sources.with_document.Goals as goal

pub returns : goal.returns
returns c = record {
  files = search rules;
  patterns = search rules;
  documents = search (rules, worse_added);
}
