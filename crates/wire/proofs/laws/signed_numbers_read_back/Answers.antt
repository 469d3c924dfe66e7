use Rattle.std.proofs.Common.{arith}
use Rattle.std.specs.Int.{w64}
use Rattle.std.proofs.lemmas.Int.{to_z-of_z}
use Rattle.wire.proofs.VarintLemmas.{ten-bytes}
use Rattle.wire.proofs.laws.signed_numbers_read_back.Goals as goal

pub returns-clause-read : goal.returns-clause-read
returns-clause-read c = λ value fits. to_z-of_z w64 value fits

pub returns-clause-ten_bytes : goal.returns-clause-ten_bytes
returns-clause-ten_bytes c = λ n small. ten-bytes _ (omega arith)
