use Rattle.std.proofs.Common.{◌≡◌, ◌<◌, sym, subst, arith}
use Rattle.bc_alloc.specs.Reserves.{Reserves, times_listed}
use Rattle.bc_alloc.specs.Inside.{reserves_in}
use Rattle.bc_alloc.proofs.Times.{raised_room}
use Rattle.bc_alloc.proofs.reserves.Reserves.push_raised.Goals as goal

pub push-requires : goal.push-requires
push-requires c =
    let loose = subst (λ (r : Reserves). times_listed r c.args.bucket ≡ 0) (sym c.self.view_is) c.requires.loose in
    let below = subst (λ (r : Reserves). c.args.bucket < r.count) (sym c.self.view_is) c.requires.bucket in
    let most = raised_room (reserves_in c.self.inside) c.self.inside.listed.items c.args.bucket c.self.invariant.flagged below loose in
    let room = c.self.invariant.raised_room in
    omega arith
