use Rattle.bc_opening_runs.proofs.Replay.{has_replay}
use Rattle.bc_opening_runs.proofs.laws.has_replay.Goals as goal

pub returns : goal.returns
returns c = has_replay
