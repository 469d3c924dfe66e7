use Rattle.std.proofs.Common.{arith}
use Rattle.ignorefile.proofs.Deciding.{deciding-none, deciding-some, keeps-none, keeps-some}
use Rattle.ignorefile.proofs.ignore.Ignore.deciding.Goals as goal

pub returns-then-rank-eq0-clause-line : goal.returns-then-rank-eq0-clause-line
returns-then-rank-eq0-clause-line c = deciding-none _ _ _ c.if-rank-eq0.true c.rank-rank.ensures

pub returns-then-rank-eq0-clause-kept : goal.returns-then-rank-eq0-clause-kept
returns-then-rank-eq0-clause-kept c = keeps-none _ _ _ c.if-rank-eq0.true c.rank-rank.ensures

pub returns-clause-line : goal.returns-clause-line
returns-clause-line c = deciding-some _ _ _ (let h = c.if-rank-eq0.false in omega arith) c.rank-rank.ensures

pub returns-clause-kept : goal.returns-clause-kept
returns-clause-kept c = keeps-some _ _ _ (let h = c.if-rank-eq0.false in omega arith) c.rank-rank.ensures
