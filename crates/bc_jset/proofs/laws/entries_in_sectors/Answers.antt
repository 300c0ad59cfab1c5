use Rattle.bc_record.proofs.Found.{takes_some, one_found, found_fits, found_stays, reads_back}
use Rattle.bc_jset.specs.Records.{entry_kind}
use Rattle.bc_jset.proofs.Records.{entry_codec, none_in_zeros}
use Rattle.bc_jset.proofs.laws.entries_in_sectors.Goals as goal

pub returns-clause-one : goal.returns-clause-one
returns-clause-one c = λ g. one_found (entry_kind g) (entry_codec g)

pub returns-clause-some : goal.returns-clause-some
returns-clause-some c = λ g. takes_some (entry_kind g) (entry_codec g)

pub returns-clause-fits : goal.returns-clause-fits
returns-clause-fits c = λ g. found_fits (entry_kind g) (entry_codec g)

pub returns-clause-stays : goal.returns-clause-stays
returns-clause-stays c = λ g. found_stays (entry_kind g) (entry_codec g)

pub returns-clause-reads_back : goal.returns-clause-reads_back
returns-clause-reads_back c = λ g. reads_back (entry_kind g) (entry_codec g)

pub returns-clause-zeros : goal.returns-clause-zeros
returns-clause-zeros c = none_in_zeros
