use Rattle.std.proofs.Common.{refl, arith}
use Rattle.bc_super.proofs.Buckets.{is_bucket, is_one}
use Rattle.bc_super.proofs.layout.is_bucket.Goals as goal

pub returns-in-64 : goal.returns-in-64
returns-in-64 c = ((λ _. is_bucket c.args.bucket c.in-64.is), λ _. refl)

pub returns-in_default : goal.returns-in_default
returns-in_default c = ((λ never. absurd (cc)), λ is. let one = is_one c.args.bucket is in grind arith)
