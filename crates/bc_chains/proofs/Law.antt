-- The laws.
use Rattle.bc_chains.specs.Laws.{LawMade, LawWrite}
use Rattle.bc_chains.proofs.Keeping as keeping
use Rattle.bc_chains.proofs.Writing.{made, may_fail, may_write, others}

pub law_write : LawWrite
law_write x o g i q part bytes values is on divided its set values_are = record {
  may = may_write x o g i q part bytes values is on divided its set values_are;
  may_fail = may_fail x o g i q part bytes values is on divided its set values_are;
  made = made x o g i q part bytes values is on divided its set values_are;
  others = others x o g i q part bytes values is on divided its set values_are;
}

pub law_made : LawMade
law_made = keeping.law_made
