use Rattle.bc_leaves_runs.proofs.Replay as proof
use Rattle.bc_leaves_runs.proofs.laws.law_replays.Goals as goal

pub returns : goal.returns
returns c = proof.law_replays
