use Rattle.std.proofs.Common.{arith}
use Rattle.bc_record.proofs.Blocks.{block_some, some_blocks}
use Rattle.bc_record.proofs.Found.{one_found, found_fits, found_stays, reads_back}
use Rattle.bc_set.specs.SetBytes.{bytes_of}
use Rattle.bc_set.specs.Records.{set_kind}
use Rattle.bc_set.proofs.Records.{set_codec, none_in_zeros}
use Rattle.bc_set.proofs.laws.sets_in_sectors.Goals as goal

pub returns-clause-one : goal.returns-clause-one
returns-clause-one c = λ g start kind. one_found (set_kind g start kind) (set_codec g start kind)

pub returns-clause-some : goal.returns-clause-some
returns-clause-some c = λ g s. some_blocks g.block (bytes_of s) (block_some g) (omega arith)

pub returns-clause-fits : goal.returns-clause-fits
returns-clause-fits c = λ g start kind. found_fits (set_kind g start kind) (set_codec g start kind)

pub returns-clause-stays : goal.returns-clause-stays
returns-clause-stays c = λ g start kind. found_stays (set_kind g start kind) (set_codec g start kind)

pub returns-clause-reads_back : goal.returns-clause-reads_back
returns-clause-reads_back c = λ g start kind. reads_back (set_kind g start kind) (set_codec g start kind)

pub returns-clause-zeros : goal.returns-clause-zeros
returns-clause-zeros c = none_in_zeros
