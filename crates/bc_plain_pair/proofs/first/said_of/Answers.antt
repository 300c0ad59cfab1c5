use Rattle.std.proofs.Common.{sym, subst}
use Rattle.bc_plain_pair.specs.Uses.{AreLive}
use Rattle.bc_plain_pair.proofs.first.said_of.Goals as goal

pub first_twice-requires : goal.first_twice-requires
first_twice-requires c = subst (AreLive c.args.v.now.geometry c.args.v.now.reading) (sym c.deref-2.ensures.value) c.in_ok-live.ensures

pub count_spare-found-requires : goal.count_spare-found-requires
count_spare-found-requires c = subst (AreLive c.args.v.now.geometry c.args.v.now.reading) (sym c.deref-3.ensures.value) c.in_ok-live.ensures
