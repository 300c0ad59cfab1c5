use Rattle.std.proofs.Common.{arith}
use Rattle.bc_fill.proofs.Opens.{cut_open}
use Rattle.bc_fill.proofs.fill.place.Goals as goal

pub cut-requires-clause-held : goal.cut-requires-clause-held
cut-requires-clause-held c = λ k some.
    let e = c.in-Ok.ensures.opens.each k some in
    let low = e.0 in
    let same = c.in-Ok.ensures.fit.same_count in
    (omega arith, e.1)

pub returns-clause-opens : goal.returns-clause-opens
returns-clause-opens c = cut_open c.open_one.new.f c.cut.new.self c.open_one.new.r c.open_one.new.b c.cut.new.b c.args.count c.cut.result c.in-Ok.ensures.opens c.cut.ensures.cut
