use Rattle.std.proofs.Common.{subst, sym, ℕ, List}
use Rattle.bc_plain_pair.specs.Uses.{AreLive}
use Rattle.bc_plain_pair.proofs.sound.has_buckets.Goals as goal

pub has_one_use-requires-clause-live : goal.has_one_use-requires-clause-live
has_one_use-requires-clause-live c =
    subst (λ (l : List ℕ). AreLive c.args.v.now.geometry c.args.v.now.reading l) (sym c.deref.ensures.value) c.in_ok-live.ensures

pub has_spare-requires : goal.has_spare-requires
has_spare-requires c =
    subst (λ (l : List ℕ). AreLive c.args.v.now.geometry c.args.v.now.reading l) (sym c.deref-then-has_one_use.ensures.value) c.in_ok-live.ensures
