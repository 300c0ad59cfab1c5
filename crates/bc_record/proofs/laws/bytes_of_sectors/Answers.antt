use Rattle.bc_record.proofs.Parts.{bytes_in-has, bytes_in-image_of, bytes_in-agree}
use Rattle.bc_record.proofs.laws.bytes_of_sectors.Goals as goal

pub returns-clause-read : goal.returns-clause-read
returns-clause-read c = bytes_in-has

pub returns-clause-part : goal.returns-clause-part
returns-clause-part c = bytes_in-image_of

pub returns-clause-alone : goal.returns-clause-alone
returns-clause-alone c = bytes_in-agree
