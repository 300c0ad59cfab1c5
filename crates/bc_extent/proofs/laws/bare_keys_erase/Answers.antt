use Rattle.std.proofs.Common.{ap, ◌∙◌}
use Rattle.bc_extent.specs.LastKey.{last_key}
use Rattle.bc_extent.specs.Calls.{with_pointer}
use Rattle.bc_extent.proofs.LastKeys.{last_key-push}
use Rattle.bc_extent.proofs.Looks.{live_erased, live_bare}
use Rattle.bc_extent.proofs.laws.bare_keys_erase.Goals as goal

pub returns : goal.returns
returns c = record {
  erased = live_erased;
  bare = λ keys key sector extent none. ap with_pointer (last_key-push keys key sector) ∙ live_bare (last_key keys) key sector extent none;
}
