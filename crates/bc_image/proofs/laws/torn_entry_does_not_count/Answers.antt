use Rattle.bc_image.proofs.Torn.{torn_entries, torn_reading}
use Rattle.bc_image.proofs.TornShown.{torn_shown}
use Rattle.bc_image.proofs.laws.torn_entry_does_not_count.Goals as goal

pub returns-clause-entries : goal.returns-clause-entries
returns-clause-entries c = torn_entries

pub returns-clause-reading : goal.returns-clause-reading
returns-clause-reading c = torn_reading

pub returns-clause-shown : goal.returns-clause-shown
returns-clause-shown c = torn_shown
