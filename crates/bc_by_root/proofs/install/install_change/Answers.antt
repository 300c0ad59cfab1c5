use Rattle.std.proofs.Common.{◌-◌, length}
use Rattle.bc_by_root.proofs.Before.{buckets_in, install_both, installed_around, keeps_around, nothing_around, taken_done}
use Rattle.bc_by_root.proofs.Later.{as_done}
use Rattle.bc_by_root.proofs.install.install_change.Goals as goal

pub install-done-requires-clause-may : goal.install-done-requires-clause-may
install-done-requires-clause-may g c =
    let cf = g.C.Disk.facts in
    let bf = g.B.Disk.facts in
    let took = c.borrow_buckets-buckets in
    let back = c.return_buckets in
    let at = (c.requires.may took.result.0).at in
    install_both cf bf c.args.parts.now c.args.seat.now took.new.seat back.new.seat c.args.hand.now
    c.requires.works at.spine at.is_spine took.ensures.waited back.ensures.waited
    back.ensures.seen c.args.plan c.args.given c.requires.may took.result.0 back.new.hand
    (buckets_in cf bf c.args.hand.now took.new.hand back.new.hand took.result.0 took.ensures.hand
    back.ensures.hand)

pub returns-clause-ok : goal.returns-clause-ok
returns-clause-ok g c =
    let cf = g.C.Disk.facts in
    let bf = g.B.Disk.facts in
    let took = c.borrow_buckets-buckets in
    let back = c.return_buckets in
    let last = c.return_buckets-2 in
    installed_around cf bf c.args.seat.now back.new.seat c.install-done.new.seat last.new.seat
    (taken_done cf bf c.args.seat.now took.new.seat back.new.seat took.ensures.waited
    back.ensures.waited)
    (as_done cf bf c.install-done.new.seat last.new.seat last.ensures.waited) c.args.hand.now
    back.new.hand c.install-done.new.hand last.new.hand took.result.0
    (buckets_in cf bf c.args.hand.now took.new.hand back.new.hand took.result.0 took.ensures.hand
    back.ensures.hand) last.ensures.hand
    (length c.args.parts.now.run.start - 6) c.args.plan c.args.given c.install-done.result
    c.install-done.ensures.ok

pub returns-clause-err : goal.returns-clause-err
returns-clause-err g c =
    let cf = g.C.Disk.facts in
    let bf = g.B.Disk.facts in
    let took = c.borrow_buckets-buckets in
    let back = c.return_buckets in
    let last = c.return_buckets-2 in
    nothing_around cf bf c.args.seat.now back.new.seat c.install-done.new.seat last.new.seat
    (taken_done cf bf c.args.seat.now took.new.seat back.new.seat took.ensures.waited
    back.ensures.waited)
    (as_done cf bf c.install-done.new.seat last.new.seat last.ensures.waited) c.args.hand.now
    back.new.hand c.install-done.new.hand last.new.hand took.result.0
    (buckets_in cf bf c.args.hand.now took.new.hand back.new.hand took.result.0 took.ensures.hand
    back.ensures.hand) last.ensures.hand
    (length c.args.parts.now.run.start - 6) c.args.plan c.args.given c.install-done.result
    c.install-done.ensures.err

pub returns-clause-places : goal.returns-clause-places
returns-clause-places g c =
    let cf = g.C.Disk.facts in
    let bf = g.B.Disk.facts in
    let took = c.borrow_buckets-buckets in
    let back = c.return_buckets in
    let last = c.return_buckets-2 in
    keeps_around cf bf c.args.seat.now back.new.seat c.install-done.new.seat last.new.seat
    (taken_done cf bf c.args.seat.now took.new.seat back.new.seat took.ensures.waited
    back.ensures.waited) c.install-done.ensures.places
    (as_done cf bf c.install-done.new.seat last.new.seat last.ensures.waited)
