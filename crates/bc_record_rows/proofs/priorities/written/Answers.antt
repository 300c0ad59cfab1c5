use Rattle.std.proofs.Common.{◌∷◌, [], refl}
use Rattle.bc_prio.proofs.Examples.{from_all_differ}
use Rattle.bc_record_rows.proofs.priorities.written.Goals as goal

pub write_chain-requires-clause-distinct : goal.write_chain-requires-clause-distinct
write_chain-requires-clause-distinct g c = from_all_differ (20 ∷ 9 ∷ 30 ∷ 12 ∷ 11 ∷ 40 ∷ 10 ∷ []) refl
