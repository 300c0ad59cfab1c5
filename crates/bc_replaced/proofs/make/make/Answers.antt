use Rattle.std.proofs.Common.{◌+◌, ◌-◌, ◌≤◌, true, length, sym, ap, ◌∙◌, subst, arith}
use Rattle.std.specs.Prelude.{is_some}
use Rattle.bc_by_root.proofs.Handed.{install_as, some_of}
use Rattle.bc_by_root.specs.Done.{HasNotPut, IsToInstall, KeepsPromises, MayAgain}
use Rattle.bc_by_root.specs.declared.error.ByRootError.{ByRootError}
use Rattle.bc_new_nodes.proofs.of_bc_place.Keeping.{keeps_both}
use Rattle.bc_new_nodes.specs.bc_hand.Seats.{HasNoneBehindLeaves, Kinds, kinds, world}
use Rattle.bc_new_nodes.specs.bc_hand.declared.hand.Hand.{Hand}
use Rattle.bc_new_nodes.specs.bc_machine.World.{cache_among}
use Rattle.bc_new_nodes.specs.bc_machine.declared.part.SpinePart.{SpinePart}
use Rattle.bc_replaced.proofs.After.{cut_at, hand_is, has_made, kept_written, may_change, none_behind, not_begun, not_installed, not_written}
use Rattle.bc_replaced.specs.Made.{HasNotMade, KeepsEnough}
use Rattle.bc_replaced.proofs.make.make.Goals as goal

pub write_new_nodes-requires-clause-order : goal.write_new_nodes-requires-clause-order
write_new_nodes-requires-clause-order g c none = record { backing = c.requires.behind.backing }

pub write_new_nodes-requires-clause-may : goal.write_new_nodes-requires-clause-may
write_new_nodes-requires-clause-may g c = c.requires.may.write

pub returns-in-Err-clause-err : goal.returns-in-Err-clause-err
returns-in-Err-clause-err g c =
    let cf = g.C.Disk.facts in
    let bf = g.B.Disk.facts in
    let may = c.requires.may in
    let sp = may.write.spine in
    let parts = length c.args.parts.now.run.start in
    let sectors = (cache_among cf bf c.args.parts.now.run.start).sectors in
    let h = c.args.hand.now in
    let bs = c.args.buckets.now in
    let p = c.args.plan in
    let v = c.args.seat.now in
    let k = c.write_new_nodes.new.hand in
    let w = c.write_new_nodes.new.seat in
    subst (λ e. HasNotMade cf bf sectors parts c.args.before e h k bs p v w) (sym c.failed.ensures)
    (not_written cf bf sectors parts c.args.before h sp may.write.in_hand p bs c.in-Err.error
    c.write_new_nodes.new.plan k v w (c.in-Err.ensures.err sp may.write.in_hand))

pub returns-in-Err-clause-kept : goal.returns-in-Err-clause-kept
returns-in-Err-clause-kept g c =
    let cf = g.C.Disk.facts in
    let bf = g.B.Disk.facts in
    let may = c.requires.may in
    let sp = may.write.spine in
    let parts = length c.args.parts.now.run.start in
    let sectors = (cache_among cf bf c.args.parts.now.run.start).sectors in
    let h = c.args.hand.now in
    let bs = c.args.buckets.now in
    let p = c.args.plan in
    let v = c.args.seat.now in
    let k = c.write_new_nodes.new.hand in
    let w = c.write_new_nodes.new.seat in
    subst (λ e. KeepsEnough e v.promises w.promises) (sym c.failed.ensures)
    (kept_written cf bf sectors parts c.args.before h sp may.write.in_hand p bs c.in-Err.error
    c.write_new_nodes.new.plan k v w (c.in-Err.ensures.err sp may.write.in_hand))

pub tree_in-requires : goal.tree_in-requires
tree_in-requires g c =
    let cf = g.C.Disk.facts in
    let bf = g.B.Disk.facts in
    let may = c.requires.may in
    let sp = may.write.spine in
    let parts = length c.args.parts.now.run.start in
    let sectors = (cache_among cf bf c.args.parts.now.run.start).sectors in
    let h = c.args.hand.now in
    let bs = c.args.buckets.now in
    let p = c.args.plan in
    let v = c.args.seat.now in
    let at : SpinePart = record sp { next_seq = sp.next_seq + length bs; changing = true } in
    let d = c.in_default.ensures in
    (at, ap (λ (x : Hand _ _). x.spine) (d.hand sp may.write.in_hand))

pub put_root-requires-clause-behind : goal.put_root-requires-clause-behind
put_root-requires-clause-behind g c =
    let cf = g.C.Disk.facts in
    let bf = g.B.Disk.facts in
    let may = c.requires.may in
    let sp = may.write.spine in
    let parts = length c.args.parts.now.run.start in
    let sectors = (cache_among cf bf c.args.parts.now.run.start).sectors in
    let h = c.args.hand.now in
    let bs = c.args.buckets.now in
    let p = c.args.plan in
    let v = c.args.seat.now in
    let d = c.in_default.ensures in
    let q = c.write_new_nodes.new.plan in
    let u = c.write_new_nodes.new.seat in
    let k = c.write_new_nodes.new.hand in
    let is = hand_is h k sp bs c.requires.behind c.write_new_nodes.ensures.kinds
    (d.hand sp may.write.in_hand) in
    subst (λ (x : Hand _ _). HasNoneBehindLeaves x) (sym is) (none_behind h sp bs c.requires.behind)

pub put_root-requires-clause-may : goal.put_root-requires-clause-may
put_root-requires-clause-may g c =
    let cf = g.C.Disk.facts in
    let bf = g.B.Disk.facts in
    let may = c.requires.may in
    let sp = may.write.spine in
    let parts = length c.args.parts.now.run.start in
    let sectors = (cache_among cf bf c.args.parts.now.run.start).sectors in
    let h = c.args.hand.now in
    let bs = c.args.buckets.now in
    let p = c.args.plan in
    let v = c.args.seat.now in
    let d = c.in_default.ensures in
    let q = c.write_new_nodes.new.plan in
    let u = c.write_new_nodes.new.seat in
    let k = c.write_new_nodes.new.hand in
    let is = hand_is h k sp bs c.requires.behind c.write_new_nodes.ensures.kinds
    (d.hand sp may.write.in_hand) in
    may_change cf bf h parts sectors p bs may c.args.before u.first q v u (world cf bf u) k is
    (d.ok sp may.write.in_hand) (d.fits sp may.write.in_hand) d.same c.tree_in.ensures
    c.proper_keys.ensures d.ready

pub returns-in-Err-NotBegun-clause-kinds : goal.returns-in-Err-NotBegun-clause-kinds
returns-in-Err-NotBegun-clause-kinds g c =
    ap (λ (x : Hand _ _). kinds x) c.put_root.ensures.same ∙ c.write_new_nodes.ensures.kinds

pub returns-in-Err-NotBegun-clause-err : goal.returns-in-Err-NotBegun-clause-err
returns-in-Err-NotBegun-clause-err g c =
    let cf = g.C.Disk.facts in
    let bf = g.B.Disk.facts in
    let may = c.requires.may in
    let sp = may.write.spine in
    let parts = length c.args.parts.now.run.start in
    let sectors = (cache_among cf bf c.args.parts.now.run.start).sectors in
    let h = c.args.hand.now in
    let bs = c.args.buckets.now in
    let p = c.args.plan in
    let v = c.args.seat.now in
    let d = c.in_default.ensures in
    let q = c.write_new_nodes.new.plan in
    let u = c.write_new_nodes.new.seat in
    let k = c.write_new_nodes.new.hand in
    let is = hand_is h k sp bs c.requires.behind c.write_new_nodes.ensures.kinds
    (d.hand sp may.write.in_hand) in
    let w = c.put_root.new.seat in
    let now = c.put_root.new.hand in
    let e = c.in-Err-NotBegun.field-0-is in
    let why = c.in-Err-NotBegun.ensures in
    not_begun cf bf sectors parts c.args.before h sp may.write.in_hand p bs q v u k is
    (d.ok sp may.write.in_hand) c.in-Err-NotBegun.why now w c.put_root.ensures.same
    (subst (λ (x : ByRootError). HasNotPut cf bf sectors k q x u w) e why.err)
    (subst (λ (x : ByRootError). MayAgain x now parts w.first q (world cf bf w)) e why.again)

pub returns-in-Err-NotBegun-clause-kept : goal.returns-in-Err-NotBegun-clause-kept
returns-in-Err-NotBegun-clause-kept g c =
    let u = c.write_new_nodes.new.seat in
    let w = c.put_root.new.seat in
    let all : u.promises ≤ w.promises = subst (λ (x : ByRootError).
    KeepsPromises x u.promises w.promises) c.in-Err-NotBegun.field-0-is
    c.in-Err-NotBegun.ensures.kept in
    let had = c.requires.promise in
    let left = c.write_new_nodes.ensures.left in
    omega (arith, all, had, left)

pub returns-in-Err-NotBegun-clause-places : goal.returns-in-Err-NotBegun-clause-places
returns-in-Err-NotBegun-clause-places g c =
    keeps_both g.C.Disk.facts g.B.Disk.facts c.args.seat.now c.write_new_nodes.new.seat
    c.put_root.new.seat c.write_new_nodes.ensures.places c.put_root.ensures.places

pub returns-in-Err-Entry-clause-kinds : goal.returns-in-Err-Entry-clause-kinds
returns-in-Err-Entry-clause-kinds g c =
    ap (λ (x : Hand _ _). kinds x) c.put_root.ensures.same ∙ c.write_new_nodes.ensures.kinds

pub returns-in-Err-Entry-clause-err : goal.returns-in-Err-Entry-clause-err
returns-in-Err-Entry-clause-err g c =
    let cf = g.C.Disk.facts in
    let bf = g.B.Disk.facts in
    let may = c.requires.may in
    let sp = may.write.spine in
    let parts = length c.args.parts.now.run.start in
    let sectors = (cache_among cf bf c.args.parts.now.run.start).sectors in
    let h = c.args.hand.now in
    let bs = c.args.buckets.now in
    let p = c.args.plan in
    let v = c.args.seat.now in
    let d = c.in_default.ensures in
    let q = c.write_new_nodes.new.plan in
    let u = c.write_new_nodes.new.seat in
    let k = c.write_new_nodes.new.hand in
    let is = hand_is h k sp bs c.requires.behind c.write_new_nodes.ensures.kinds
    (d.hand sp may.write.in_hand) in
    let w = c.put_root.new.seat in
    let now = c.put_root.new.hand in
    cut_at cf bf sectors parts c.args.before h sp may.write.in_hand p bs q v u k is
    (d.ok sp may.write.in_hand) c.in-Err-Entry.error now w c.put_root.ensures.same
    (subst (λ (x : ByRootError). HasNotPut cf bf sectors k q x u w) c.in-Err-Entry.field-0-is
    c.in-Err-Entry.ensures.err)

pub returns-in-Err-Entry-clause-places : goal.returns-in-Err-Entry-clause-places
returns-in-Err-Entry-clause-places g c =
    keeps_both g.C.Disk.facts g.B.Disk.facts c.args.seat.now c.write_new_nodes.new.seat
    c.put_root.new.seat c.write_new_nodes.ensures.places c.put_root.ensures.places

pub unreachable-requires : goal.unreachable-requires
unreachable-requires g c =
    let cf = g.C.Disk.facts in
    let bf = g.B.Disk.facts in
    let sectors = (cache_among cf bf c.args.parts.now.run.start).sectors in
    subst (λ (x : ByRootError). HasNotPut cf bf sectors c.write_new_nodes.new.hand
    c.write_new_nodes.new.plan x c.write_new_nodes.new.seat c.put_root.new.seat)
    c.in-Err-Install.field-0-is c.in-Err-Install.ensures.err

pub install_change-requires-clause-behind : goal.install_change-requires-clause-behind
install_change-requires-clause-behind g c =
    let cf = g.C.Disk.facts in
    let bf = g.B.Disk.facts in
    let may = c.requires.may in
    let sp = may.write.spine in
    let parts = length c.args.parts.now.run.start in
    let sectors = (cache_among cf bf c.args.parts.now.run.start).sectors in
    let h = c.args.hand.now in
    let bs = c.args.buckets.now in
    let p = c.args.plan in
    let v = c.args.seat.now in
    let d = c.in_default.ensures in
    let q = c.write_new_nodes.new.plan in
    let u = c.write_new_nodes.new.seat in
    let k = c.write_new_nodes.new.hand in
    let is = hand_is h k sp bs c.requires.behind c.write_new_nodes.ensures.kinds
    (d.hand sp may.write.in_hand) in
    subst (λ (x : Hand _ _). HasNoneBehindLeaves x) (sym (c.put_root.ensures.same ∙ is))
    (none_behind h sp bs c.requires.behind)

pub install_change-requires-clause-may : goal.install_change-requires-clause-may
install_change-requires-clause-may g c =
    let cf = g.C.Disk.facts in
    let bf = g.B.Disk.facts in
    let parts = length c.args.parts.now.run.start in
    let u = c.write_new_nodes.new.seat in
    let w = c.put_root.new.seat in
    let now = c.put_root.new.hand in
    let put = c.in-Ok.ensures.ok in
    subst (λ n. IsToInstall now parts n c.write_new_nodes.new.plan c.in-Ok.given (world cf bf w))
    (sym (put.put.done.same.first ∙ put.stood.before.same.first))
    (install_as c.write_new_nodes.new.hand now parts u.first c.write_new_nodes.new.plan
    c.in-Ok.given (world cf bf w) (record {
      spine = sym (ap (λ (x : Hand _ _). x.spine) c.put_root.ensures.same);
      leaves = sym (ap (λ (x : Hand _ _). x.leaves) c.put_root.ensures.same);
    }) c.in-Ok.ensures.may)

pub returns-in-Err-install_change-clause-kinds : goal.returns-in-Err-install_change-clause-kinds
returns-in-Err-install_change-clause-kinds g c =
    c.install_change.ensures.kinds ∙ ap (λ (x : Hand _ _). kinds x) c.put_root.ensures.same
    ∙ c.write_new_nodes.ensures.kinds

pub returns-in-Err-install_change-clause-err : goal.returns-in-Err-install_change-clause-err
returns-in-Err-install_change-clause-err g c =
    let cf = g.C.Disk.facts in
    let bf = g.B.Disk.facts in
    let may = c.requires.may in
    let sp = may.write.spine in
    let parts = length c.args.parts.now.run.start in
    let sectors = (cache_among cf bf c.args.parts.now.run.start).sectors in
    let h = c.args.hand.now in
    let bs = c.args.buckets.now in
    let p = c.args.plan in
    let v = c.args.seat.now in
    let d = c.in_default.ensures in
    let q = c.write_new_nodes.new.plan in
    let u = c.write_new_nodes.new.seat in
    let k = c.write_new_nodes.new.hand in
    let is = hand_is h k sp bs c.requires.behind c.write_new_nodes.ensures.kinds
    (d.hand sp may.write.in_hand) in
    let t = c.put_root.new.seat in
    let w = c.install_change.new.seat in
    let now = c.install_change.new.hand in
    let not = c.in-Err-install_change.ensures in
    not_installed cf bf sectors parts c.args.before h sp may.write.in_hand p bs q v u k is
    (d.ok sp may.write.in_hand) c.in-Ok.given t c.in-Ok.ensures.ok c.in-Err-install_change.error now
    w (not.same ∙ c.put_root.ensures.same) not.err not.cause

pub returns-in-Err-install_change-clause-places : goal.returns-in-Err-install_change-clause-places
returns-in-Err-install_change-clause-places g c =
    let cf = g.C.Disk.facts in
    let bf = g.B.Disk.facts in
    let v = c.args.seat.now in
    let u = c.write_new_nodes.new.seat in
    let t = c.put_root.new.seat in
    let w = c.install_change.new.seat in
    keeps_both cf bf v u w c.write_new_nodes.ensures.places
    (keeps_both cf bf u t w c.put_root.ensures.places c.install_change.ensures.places)

pub tree_in-requires-2 : goal.tree_in-requires-2
tree_in-requires-2 g c =
    let cf = g.C.Disk.facts in
    let bf = g.B.Disk.facts in
    let may = c.requires.may in
    let sp = may.write.spine in
    let parts = length c.args.parts.now.run.start in
    let sectors = (cache_among cf bf c.args.parts.now.run.start).sectors in
    let h = c.args.hand.now in
    let bs = c.args.buckets.now in
    let p = c.args.plan in
    let v = c.args.seat.now in
    let at : SpinePart = record sp { next_seq = sp.next_seq + length bs; changing = true } in
    let d = c.in_default.ensures in
    let has = ap (λ (x : Hand _ _). x.spine) (d.hand sp may.write.in_hand) in
    some_of c.install_change.new.hand.spine
    (ap (λ (x : Kinds). x.spine) (c.install_change.ensures.kinds
    ∙ ap (λ (x : Hand _ _). kinds x) c.put_root.ensures.same) ∙ ap is_some has)

pub returns-clause-kinds : goal.returns-clause-kinds
returns-clause-kinds g c =
    c.install_change.ensures.kinds ∙ ap (λ (x : Hand _ _). kinds x) c.put_root.ensures.same
    ∙ c.write_new_nodes.ensures.kinds

pub returns-clause-ok : goal.returns-clause-ok
returns-clause-ok g c =
    let cf = g.C.Disk.facts in
    let bf = g.B.Disk.facts in
    let may = c.requires.may in
    let sp = may.write.spine in
    let parts = length c.args.parts.now.run.start in
    let sectors = (cache_among cf bf c.args.parts.now.run.start).sectors in
    let h = c.args.hand.now in
    let bs = c.args.buckets.now in
    let p = c.args.plan in
    let v = c.args.seat.now in
    let d = c.in_default.ensures in
    let q = c.write_new_nodes.new.plan in
    let u = c.write_new_nodes.new.seat in
    let k = c.write_new_nodes.new.hand in
    let is = hand_is h k sp bs c.requires.behind c.write_new_nodes.ensures.kinds
    (d.hand sp may.write.in_hand) in
    let t = c.put_root.new.seat in
    let w = c.install_change.new.seat in
    let now = c.install_change.new.hand in
    let at : SpinePart = record sp { next_seq = sp.next_seq + length bs; changing = true } in
    let has = ap (λ (x : Hand _ _). x.spine) (d.hand sp may.write.in_hand) in
    has_made cf bf sectors parts c.args.before h sp may.write.in_hand p bs q v u k is
    (d.ok sp may.write.in_hand) c.in-Ok.given t c.in-Ok.ensures.ok (parts - 6) c.put_root.new.hand
    now w c.put_root.ensures.same c.in_default-install_change.ensures.ok (c.tree_in.ensures at has)
    may.write.fits d.same c.tree_in-2.ensures

pub returns-clause-places : goal.returns-clause-places
returns-clause-places g c =
    let cf = g.C.Disk.facts in
    let bf = g.B.Disk.facts in
    let v = c.args.seat.now in
    let u = c.write_new_nodes.new.seat in
    let t = c.put_root.new.seat in
    let w = c.install_change.new.seat in
    keeps_both cf bf v u w c.write_new_nodes.ensures.places
    (keeps_both cf bf u t w c.put_root.ensures.places c.install_change.ensures.places)
