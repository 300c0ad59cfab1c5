use Rattle.std.proofs.Common.{◌≡◌, ◌+◌, ◌*◌, ℕ, List, Some, refl, sym, ap, ◌∙◌, subst, arith}
use Rattle.std.specs.Prelude.{Err, Ok, drop, length, slice_get, take, true}
use Rattle.std.proofs.lemmas.List.{take_at}
use Rattle.bc_append.proofs.Held.{one_cached}
use Rattle.bc_append.proofs.Sending.{has_appended, has_lost, holds_err, holds_ok, may_err, may_ok, occupied, same_leaves, there_in, values_are, works_err, works_ok}
use Rattle.bc_append.specs.Append.{FitsOn, HasAppended, HasLost, IsSent, place_in}
use Rattle.bc_cache.specs.declared.slots.Cached.{Cached}
use Rattle.bc_events.specs.declared.event.Deed.{Deed}
use Rattle.bc_events.specs.declared.event.Deed.TheVariants as deed
use Rattle.bc_events.specs.declared.event.Failure.TheVariants as failure
use Rattle.bc_events.specs.declared.event.Written.TheVariants as written
use Rattle.bc_key.specs.declared.ptr.Ptr.{Ptr}
use Rattle.bc_model.specs.Sector.{Value}
use Rattle.bc_node.specs.Leaf.{Leaf}
use Rattle.bc_place.specs.bc_hand.Seats.{Did, MayDo, Works, by}
use Rattle.bc_place.specs.bc_hand.declared.hand.LeafHand.{LeafHand}
use Rattle.bc_place.specs.bc_machine.World.{changes}
use Rattle.bc_place.proofs.of_bc_hand.Knowing.{m}
use Rattle.bc_seats.specs.Seats.{Kept}
use Rattle.bc_append.proofs.append.append_in.Goals as goal

pub leaf-own-requires : goal.leaf-own-requires
leaf-own-requires g c = occupied c.args.hand.now c.args.slot c.args.leaf c.requires.can.0.at
    c.in-Some.leaves (sym c.take.ensures.value ∙ c.in-Some.is)

pub write_set-sent-requires-clause-leaf : goal.write_set-sent-requires-clause-leaf
write_set-sent-requires-clause-leaf g c =
    let can = c.requires.can.0 in
    let one = can.at.cached in
    let same = same_leaves c.args.hand.now c.args.slot c.args.leaf can.at c.in-Some.leaves
    (sym c.take.ensures.value ∙ c.in-Some.is) in (
      one,
      there_in c.args.hand.now c.args.slot c.args.leaf can.at c.in-Some.leaves
          (sym c.take.ensures.value ∙ c.in-Some.is),
      can.own,
      subst (λ (y : LeafHand). FitsOn y.cache.geometry one.leaf
          (g.C.Disk.facts c.args.cache.now).sectors) same c.requires.can.3,
    )

pub called-requires-clause-holds : goal.called-requires-clause-holds
called-requires-clause-holds g c k on =
    let cf = g.C.Disk.facts in
    let bf = g.B.Disk.facts in
    let v = c.args.seat.now in
    let h = c.args.hand.now in
    let can = c.requires.can.0 in
    let one = can.at.cached in
    let is = sym c.take.ensures.value ∙ c.in-Some.is in
    let same = same_leaves h c.args.slot c.args.leaf can.at c.in-Some.leaves is in
    let there = there_in h c.args.slot c.args.leaf can.at c.in-Some.leaves is in
    let own = c.leaf-own.ensures in
    let own_is : c.leaf-own.result.now ≡ one.leaf = sym own.2 ∙ ap (λ (x : Cached). x.leaf)
    (one_cached (slice_get c.in-Some.leaves.cache.slots c.args.slot) own.0 one own.1 there) in
    let bytes = c.write_set-sent.new.buffer in
    let whole = c.write_set-sent.auto.buffer
    ∙ ap (λ (l : List ℕ). length l) c.deref_mut.ensures.value ∙ c.requires.can.4 in
    let back = take_at bytes (drop (length bytes) c.args.buffer.items) c.args.buffer.len
    (c.write_set-sent.auto.buffer ∙ c.deref_mut.ensures.len) in
    let offset = ap (λ (q : Ptr). q.offset) c.ptr.ensures
    ∙ ap (λ (x : Leaf). x.ptr.offset) own_is in
    let taken = c.from.ensures ∙ c.taken.ensures ∙ ap (λ (x : Leaf). x.taken) own_is in
    let place : c.ptr.result.offset + c.from.result ≡ place_in one.leaf =
    omega (arith, offset, taken) in
    let values = values_are can.at.leaves.cache.geometry one.leaf c.geometry.result.now
    c.leaf-own.result.now
    (c.geometry.ensures ∙ ap (λ (y : LeafHand). y.cache.geometry) (sym same)) own_is
    c.written_sectors-len.result c.written_sectors-len.ensures.count bytes
    c.truncate.new.self.items (c.truncate.ensures.items
    ∙ ap (take (512 * c.written_sectors-len.result)) back) c.from_raw-values.result
    c.from_raw-values.ensures in
    let its = ap (λ n. deed.CacheWrite n (written.Set c.args.leaf) c.from_raw-values.result) place
    ∙ ap (λ (vs : List Value). deed.CacheWrite (place_in one.leaf) (written.Set c.args.leaf) vs)
    values in
    let sent = subst (λ (y : LeafHand). IsSent c.args.slot one (Ok c.in-Ok.field-0) bytes
    (cf c.args.cache.now) (cf c.write_set-sent.new.disk) y.cache c.write_set-sent.new.cache)
    (sym same) (c.in-Ok.ensures one there) in
    holds_ok cf bf c.args.parts.now v h c.args.cache.now c.requires.works
    c.requires.unheard c.requires.cached c.args.slot c.args.leaf can c.requires.can.1
    c.requires.can.2 c.requires.can.3 c.write_set-sent.new.disk c.write_set-sent.new.cache bytes
    whole k
    (subst (λ (x : Deed). changes (length v.run.start) (by v.first x) k ≡ true) its on)

pub called-requires-clause-may : goal.called-requires-clause-may
called-requires-clause-may g c =
    let cf = g.C.Disk.facts in
    let bf = g.B.Disk.facts in
    let v = c.args.seat.now in
    let h = c.args.hand.now in
    let can = c.requires.can.0 in
    let one = can.at.cached in
    let is = sym c.take.ensures.value ∙ c.in-Some.is in
    let same = same_leaves h c.args.slot c.args.leaf can.at c.in-Some.leaves is in
    let there = there_in h c.args.slot c.args.leaf can.at c.in-Some.leaves is in
    let own = c.leaf-own.ensures in
    let own_is : c.leaf-own.result.now ≡ one.leaf = sym own.2 ∙ ap (λ (x : Cached). x.leaf)
    (one_cached (slice_get c.in-Some.leaves.cache.slots c.args.slot) own.0 one own.1 there) in
    let bytes = c.write_set-sent.new.buffer in
    let whole = c.write_set-sent.auto.buffer
    ∙ ap (λ (l : List ℕ). length l) c.deref_mut.ensures.value ∙ c.requires.can.4 in
    let back = take_at bytes (drop (length bytes) c.args.buffer.items) c.args.buffer.len
    (c.write_set-sent.auto.buffer ∙ c.deref_mut.ensures.len) in
    let offset = ap (λ (q : Ptr). q.offset) c.ptr.ensures
    ∙ ap (λ (x : Leaf). x.ptr.offset) own_is in
    let taken = c.from.ensures ∙ c.taken.ensures ∙ ap (λ (x : Leaf). x.taken) own_is in
    let place : c.ptr.result.offset + c.from.result ≡ place_in one.leaf =
    omega (arith, offset, taken) in
    let values = values_are can.at.leaves.cache.geometry one.leaf c.geometry.result.now
    c.leaf-own.result.now
    (c.geometry.ensures ∙ ap (λ (y : LeafHand). y.cache.geometry) (sym same)) own_is
    c.written_sectors-len.result c.written_sectors-len.ensures.count bytes
    c.truncate.new.self.items (c.truncate.ensures.items
    ∙ ap (take (512 * c.written_sectors-len.result)) back) c.from_raw-values.result
    c.from_raw-values.ensures in
    let its = ap (λ n. deed.CacheWrite n (written.Set c.args.leaf) c.from_raw-values.result) place
    ∙ ap (λ (vs : List Value). deed.CacheWrite (place_in one.leaf) (written.Set c.args.leaf) vs)
    values in
    let sent = subst (λ (y : LeafHand). IsSent c.args.slot one (Ok c.in-Ok.field-0) bytes
    (cf c.args.cache.now) (cf c.write_set-sent.new.disk) y.cache c.write_set-sent.new.cache)
    (sym same) (c.in-Ok.ensures one there) in
    subst (λ (x : Deed). MayDo cf bf v x) (sym its) (may_ok cf bf c.args.parts.now v h c.args.cache.now c.requires.works
    c.requires.unheard c.requires.cached c.args.slot c.args.leaf can c.requires.can.1
    c.requires.can.2 c.requires.can.3 c.write_set-sent.new.disk c.write_set-sent.new.cache bytes
    whole sent.set)

pub returns-in-Ok-clause-works : goal.returns-in-Ok-clause-works
returns-in-Ok-clause-works g c =
    let cf = g.C.Disk.facts in
    let bf = g.B.Disk.facts in
    let v = c.args.seat.now in
    let h = c.args.hand.now in
    let can = c.requires.can.0 in
    let one = can.at.cached in
    let is = sym c.take.ensures.value ∙ c.in-Some.is in
    let same = same_leaves h c.args.slot c.args.leaf can.at c.in-Some.leaves is in
    let there = there_in h c.args.slot c.args.leaf can.at c.in-Some.leaves is in
    let own = c.leaf-own.ensures in
    let own_is : c.leaf-own.result.now ≡ one.leaf = sym own.2 ∙ ap (λ (x : Cached). x.leaf)
    (one_cached (slice_get c.in-Some.leaves.cache.slots c.args.slot) own.0 one own.1 there) in
    let bytes = c.write_set-sent.new.buffer in
    let whole = c.write_set-sent.auto.buffer
    ∙ ap (λ (l : List ℕ). length l) c.deref_mut.ensures.value ∙ c.requires.can.4 in
    let back = take_at bytes (drop (length bytes) c.args.buffer.items) c.args.buffer.len
    (c.write_set-sent.auto.buffer ∙ c.deref_mut.ensures.len) in
    let offset = ap (λ (q : Ptr). q.offset) c.ptr.ensures
    ∙ ap (λ (x : Leaf). x.ptr.offset) own_is in
    let taken = c.from.ensures ∙ c.taken.ensures ∙ ap (λ (x : Leaf). x.taken) own_is in
    let place : c.ptr.result.offset + c.from.result ≡ place_in one.leaf =
    omega (arith, offset, taken) in
    let values = values_are can.at.leaves.cache.geometry one.leaf c.geometry.result.now
    c.leaf-own.result.now
    (c.geometry.ensures ∙ ap (λ (y : LeafHand). y.cache.geometry) (sym same)) own_is
    c.written_sectors-len.result c.written_sectors-len.ensures.count bytes
    c.truncate.new.self.items (c.truncate.ensures.items
    ∙ ap (take (512 * c.written_sectors-len.result)) back) c.from_raw-values.result
    c.from_raw-values.ensures in
    let its = ap (λ n. deed.CacheWrite n (written.Set c.args.leaf) c.from_raw-values.result) place
    ∙ ap (λ (vs : List Value). deed.CacheWrite (place_in one.leaf) (written.Set c.args.leaf) vs)
    values in
    let sent = subst (λ (y : LeafHand). IsSent c.args.slot one (Ok c.in-Ok.field-0) bytes
    (cf c.args.cache.now) (cf c.write_set-sent.new.disk) y.cache c.write_set-sent.new.cache)
    (sym same) (c.in-Ok.ensures one there) in
    subst (λ (y : LeafHand). Works cf bf c.args.parts.now c.called.new.seat (record h {
      leaves = Some (record y { cache = c.write_set-sent.new.cache });
      cache = Some c.write_set-sent.new.disk;
    })) same (works_ok cf bf c.args.parts.now v h c.args.cache.now c.requires.works
    c.requires.unheard c.requires.cached c.args.slot c.args.leaf can c.requires.can.1
    c.requires.can.2 c.requires.can.3 c.write_set-sent.new.disk c.write_set-sent.new.cache bytes
    whole
    c.called.new.seat c.in-Ok.field-0 sent
    (subst (λ (x : Deed). Did cf bf (Some x) v c.called.new.seat) its c.called.ensures.did)
    (subst (λ (x : Deed). Kept (m cf bf) v c.called.new.seat (changes (length v.run.start)
    (by v.first x))) its c.called.ensures.kept))

pub returns-in-Ok-clause-ok : goal.returns-in-Ok-clause-ok
returns-in-Ok-clause-ok g c =
    let cf = g.C.Disk.facts in
    let bf = g.B.Disk.facts in
    let v = c.args.seat.now in
    let h = c.args.hand.now in
    let can = c.requires.can.0 in
    let one = can.at.cached in
    let is = sym c.take.ensures.value ∙ c.in-Some.is in
    let same = same_leaves h c.args.slot c.args.leaf can.at c.in-Some.leaves is in
    let there = there_in h c.args.slot c.args.leaf can.at c.in-Some.leaves is in
    let own = c.leaf-own.ensures in
    let own_is : c.leaf-own.result.now ≡ one.leaf = sym own.2 ∙ ap (λ (x : Cached). x.leaf)
    (one_cached (slice_get c.in-Some.leaves.cache.slots c.args.slot) own.0 one own.1 there) in
    let bytes = c.write_set-sent.new.buffer in
    let whole = c.write_set-sent.auto.buffer
    ∙ ap (λ (l : List ℕ). length l) c.deref_mut.ensures.value ∙ c.requires.can.4 in
    let back = take_at bytes (drop (length bytes) c.args.buffer.items) c.args.buffer.len
    (c.write_set-sent.auto.buffer ∙ c.deref_mut.ensures.len) in
    let offset = ap (λ (q : Ptr). q.offset) c.ptr.ensures
    ∙ ap (λ (x : Leaf). x.ptr.offset) own_is in
    let taken = c.from.ensures ∙ c.taken.ensures ∙ ap (λ (x : Leaf). x.taken) own_is in
    let place : c.ptr.result.offset + c.from.result ≡ place_in one.leaf =
    omega (arith, offset, taken) in
    let values = values_are can.at.leaves.cache.geometry one.leaf c.geometry.result.now
    c.leaf-own.result.now
    (c.geometry.ensures ∙ ap (λ (y : LeafHand). y.cache.geometry) (sym same)) own_is
    c.written_sectors-len.result c.written_sectors-len.ensures.count bytes
    c.truncate.new.self.items (c.truncate.ensures.items
    ∙ ap (take (512 * c.written_sectors-len.result)) back) c.from_raw-values.result
    c.from_raw-values.ensures in
    let its = ap (λ n. deed.CacheWrite n (written.Set c.args.leaf) c.from_raw-values.result) place
    ∙ ap (λ (vs : List Value). deed.CacheWrite (place_in one.leaf) (written.Set c.args.leaf) vs)
    values in
    let sent = subst (λ (y : LeafHand). IsSent c.args.slot one (Ok c.in-Ok.field-0) bytes
    (cf c.args.cache.now) (cf c.write_set-sent.new.disk) y.cache c.write_set-sent.new.cache)
    (sym same) (c.in-Ok.ensures one there) in
    subst (λ (y : LeafHand). HasAppended cf bf c.args.leaf h (record h {
      leaves = Some (record y { cache = c.write_set-sent.new.cache });
    }) v c.called.new.seat) same (has_appended cf bf c.args.parts.now v h c.args.cache.now c.requires.works
    c.requires.unheard c.requires.cached c.args.slot c.args.leaf can c.requires.can.1
    c.requires.can.2 c.requires.can.3 c.write_set-sent.new.disk c.write_set-sent.new.cache bytes
    whole
    c.called.new.seat c.in-Ok.field-0 sent
    (subst (λ (x : Deed). Did cf bf (Some x) v c.called.new.seat) its c.called.ensures.did)
    (subst (λ (x : Deed). Kept (m cf bf) v c.called.new.seat (changes (length v.run.start)
    (by v.first x))) its c.called.ensures.kept))

pub called-requires-in-Err-clause-holds : goal.called-requires-in-Err-clause-holds
called-requires-in-Err-clause-holds g c k on =
    let cf = g.C.Disk.facts in
    let bf = g.B.Disk.facts in
    let v = c.args.seat.now in
    let h = c.args.hand.now in
    let can = c.requires.can.0 in
    let one = can.at.cached in
    let is = sym c.take.ensures.value ∙ c.in-Some.is in
    let same = same_leaves h c.args.slot c.args.leaf can.at c.in-Some.leaves is in
    let there = there_in h c.args.slot c.args.leaf can.at c.in-Some.leaves is in
    let own = c.leaf-own.ensures in
    let own_is : c.leaf-own.result.now ≡ one.leaf = sym own.2 ∙ ap (λ (x : Cached). x.leaf)
    (one_cached (slice_get c.in-Some.leaves.cache.slots c.args.slot) own.0 one own.1 there) in
    let bytes = c.write_set-sent.new.buffer in
    let whole = c.write_set-sent.auto.buffer
    ∙ ap (λ (l : List ℕ). length l) c.deref_mut.ensures.value ∙ c.requires.can.4 in
    let back = take_at bytes (drop (length bytes) c.args.buffer.items) c.args.buffer.len
    (c.write_set-sent.auto.buffer ∙ c.deref_mut.ensures.len) in
    let offset = ap (λ (q : Ptr). q.offset) c.ptr.ensures
    ∙ ap (λ (x : Leaf). x.ptr.offset) own_is in
    let taken = c.from.ensures ∙ c.taken.ensures ∙ ap (λ (x : Leaf). x.taken) own_is in
    let place : c.ptr.result.offset + c.from.result ≡ place_in one.leaf =
    omega (arith, offset, taken) in
    let values = values_are can.at.leaves.cache.geometry one.leaf c.geometry.result.now
    c.leaf-own.result.now
    (c.geometry.ensures ∙ ap (λ (y : LeafHand). y.cache.geometry) (sym same)) own_is
    c.written_sectors-len.result c.written_sectors-len.ensures.count bytes
    c.truncate.new.self.items (c.truncate.ensures.items
    ∙ ap (take (512 * c.written_sectors-len.result)) back) c.from_raw-values.result
    c.from_raw-values.ensures in
    let its = ap (λ n. deed.DeviceFault
    (failure.CacheWrite n (written.Set c.args.leaf) c.from_raw-values.result)) place
    ∙ ap (λ (vs : List Value). deed.DeviceFault
    (failure.CacheWrite (place_in one.leaf) (written.Set c.args.leaf) vs)) values in
    let sent = subst (λ (y : LeafHand). IsSent c.args.slot one (Err c.in-Err.field-0) bytes
    (cf c.args.cache.now) (cf c.write_set-sent.new.disk) y.cache c.write_set-sent.new.cache)
    (sym same) (c.in-Err.ensures one there) in
    holds_err cf bf c.args.parts.now v h c.args.cache.now c.requires.works
    c.requires.unheard c.requires.cached c.args.slot c.args.leaf can c.requires.can.1
    c.requires.can.2 c.requires.can.3 c.write_set-sent.new.disk c.write_set-sent.new.cache bytes
    whole k
    (subst (λ (x : Deed). changes (length v.run.start) (by v.first x) k ≡ true) its on)

pub called-requires-in-Err-clause-may : goal.called-requires-in-Err-clause-may
called-requires-in-Err-clause-may g c =
    let cf = g.C.Disk.facts in
    let bf = g.B.Disk.facts in
    let v = c.args.seat.now in
    let h = c.args.hand.now in
    let can = c.requires.can.0 in
    let one = can.at.cached in
    let is = sym c.take.ensures.value ∙ c.in-Some.is in
    let same = same_leaves h c.args.slot c.args.leaf can.at c.in-Some.leaves is in
    let there = there_in h c.args.slot c.args.leaf can.at c.in-Some.leaves is in
    let own = c.leaf-own.ensures in
    let own_is : c.leaf-own.result.now ≡ one.leaf = sym own.2 ∙ ap (λ (x : Cached). x.leaf)
    (one_cached (slice_get c.in-Some.leaves.cache.slots c.args.slot) own.0 one own.1 there) in
    let bytes = c.write_set-sent.new.buffer in
    let whole = c.write_set-sent.auto.buffer
    ∙ ap (λ (l : List ℕ). length l) c.deref_mut.ensures.value ∙ c.requires.can.4 in
    let back = take_at bytes (drop (length bytes) c.args.buffer.items) c.args.buffer.len
    (c.write_set-sent.auto.buffer ∙ c.deref_mut.ensures.len) in
    let offset = ap (λ (q : Ptr). q.offset) c.ptr.ensures
    ∙ ap (λ (x : Leaf). x.ptr.offset) own_is in
    let taken = c.from.ensures ∙ c.taken.ensures ∙ ap (λ (x : Leaf). x.taken) own_is in
    let place : c.ptr.result.offset + c.from.result ≡ place_in one.leaf =
    omega (arith, offset, taken) in
    let values = values_are can.at.leaves.cache.geometry one.leaf c.geometry.result.now
    c.leaf-own.result.now
    (c.geometry.ensures ∙ ap (λ (y : LeafHand). y.cache.geometry) (sym same)) own_is
    c.written_sectors-len.result c.written_sectors-len.ensures.count bytes
    c.truncate.new.self.items (c.truncate.ensures.items
    ∙ ap (take (512 * c.written_sectors-len.result)) back) c.from_raw-values.result
    c.from_raw-values.ensures in
    let its = ap (λ n. deed.DeviceFault
    (failure.CacheWrite n (written.Set c.args.leaf) c.from_raw-values.result)) place
    ∙ ap (λ (vs : List Value). deed.DeviceFault
    (failure.CacheWrite (place_in one.leaf) (written.Set c.args.leaf) vs)) values in
    let sent = subst (λ (y : LeafHand). IsSent c.args.slot one (Err c.in-Err.field-0) bytes
    (cf c.args.cache.now) (cf c.write_set-sent.new.disk) y.cache c.write_set-sent.new.cache)
    (sym same) (c.in-Err.ensures one there) in
    subst (λ (x : Deed). MayDo cf bf v x) (sym its) (may_err cf bf c.args.parts.now v h c.args.cache.now c.requires.works
    c.requires.unheard c.requires.cached c.args.slot c.args.leaf can c.requires.can.1
    c.requires.can.2 c.requires.can.3 c.write_set-sent.new.disk c.write_set-sent.new.cache bytes
    whole sent.set)

pub returns-in-Err-clause-works : goal.returns-in-Err-clause-works
returns-in-Err-clause-works g c =
    let cf = g.C.Disk.facts in
    let bf = g.B.Disk.facts in
    let v = c.args.seat.now in
    let h = c.args.hand.now in
    let can = c.requires.can.0 in
    let one = can.at.cached in
    let is = sym c.take.ensures.value ∙ c.in-Some.is in
    let same = same_leaves h c.args.slot c.args.leaf can.at c.in-Some.leaves is in
    let there = there_in h c.args.slot c.args.leaf can.at c.in-Some.leaves is in
    let own = c.leaf-own.ensures in
    let own_is : c.leaf-own.result.now ≡ one.leaf = sym own.2 ∙ ap (λ (x : Cached). x.leaf)
    (one_cached (slice_get c.in-Some.leaves.cache.slots c.args.slot) own.0 one own.1 there) in
    let bytes = c.write_set-sent.new.buffer in
    let whole = c.write_set-sent.auto.buffer
    ∙ ap (λ (l : List ℕ). length l) c.deref_mut.ensures.value ∙ c.requires.can.4 in
    let back = take_at bytes (drop (length bytes) c.args.buffer.items) c.args.buffer.len
    (c.write_set-sent.auto.buffer ∙ c.deref_mut.ensures.len) in
    let offset = ap (λ (q : Ptr). q.offset) c.ptr.ensures
    ∙ ap (λ (x : Leaf). x.ptr.offset) own_is in
    let taken = c.from.ensures ∙ c.taken.ensures ∙ ap (λ (x : Leaf). x.taken) own_is in
    let place : c.ptr.result.offset + c.from.result ≡ place_in one.leaf =
    omega (arith, offset, taken) in
    let values = values_are can.at.leaves.cache.geometry one.leaf c.geometry.result.now
    c.leaf-own.result.now
    (c.geometry.ensures ∙ ap (λ (y : LeafHand). y.cache.geometry) (sym same)) own_is
    c.written_sectors-len.result c.written_sectors-len.ensures.count bytes
    c.truncate.new.self.items (c.truncate.ensures.items
    ∙ ap (take (512 * c.written_sectors-len.result)) back) c.from_raw-values.result
    c.from_raw-values.ensures in
    let its = ap (λ n. deed.DeviceFault
    (failure.CacheWrite n (written.Set c.args.leaf) c.from_raw-values.result)) place
    ∙ ap (λ (vs : List Value). deed.DeviceFault
    (failure.CacheWrite (place_in one.leaf) (written.Set c.args.leaf) vs)) values in
    let sent = subst (λ (y : LeafHand). IsSent c.args.slot one (Err c.in-Err.field-0) bytes
    (cf c.args.cache.now) (cf c.write_set-sent.new.disk) y.cache c.write_set-sent.new.cache)
    (sym same) (c.in-Err.ensures one there) in
    subst (λ (y : LeafHand). Works cf bf c.args.parts.now c.called-in-Err.new.seat (record h {
      leaves = Some (record y { cache = c.write_set-sent.new.cache });
      cache = Some c.write_set-sent.new.disk;
    })) same (works_err cf bf c.args.parts.now v h c.args.cache.now c.requires.works
    c.requires.unheard c.requires.cached c.args.slot c.args.leaf can c.requires.can.1
    c.requires.can.2 c.requires.can.3 c.write_set-sent.new.disk c.write_set-sent.new.cache bytes
    whole
    c.called-in-Err.new.seat c.in-Err.field-0 sent
    (subst (λ (x : Deed). Did cf bf (Some x) v c.called-in-Err.new.seat) its c.called-in-Err.ensures.did)
    (subst (λ (x : Deed). Kept (m cf bf) v c.called-in-Err.new.seat (changes (length v.run.start)
    (by v.first x))) its c.called-in-Err.ensures.kept))

pub returns-in-Err-clause-err : goal.returns-in-Err-clause-err
returns-in-Err-clause-err g c =
    let cf = g.C.Disk.facts in
    let bf = g.B.Disk.facts in
    let v = c.args.seat.now in
    let h = c.args.hand.now in
    let can = c.requires.can.0 in
    let one = can.at.cached in
    let is = sym c.take.ensures.value ∙ c.in-Some.is in
    let same = same_leaves h c.args.slot c.args.leaf can.at c.in-Some.leaves is in
    let there = there_in h c.args.slot c.args.leaf can.at c.in-Some.leaves is in
    let own = c.leaf-own.ensures in
    let own_is : c.leaf-own.result.now ≡ one.leaf = sym own.2 ∙ ap (λ (x : Cached). x.leaf)
    (one_cached (slice_get c.in-Some.leaves.cache.slots c.args.slot) own.0 one own.1 there) in
    let bytes = c.write_set-sent.new.buffer in
    let whole = c.write_set-sent.auto.buffer
    ∙ ap (λ (l : List ℕ). length l) c.deref_mut.ensures.value ∙ c.requires.can.4 in
    let back = take_at bytes (drop (length bytes) c.args.buffer.items) c.args.buffer.len
    (c.write_set-sent.auto.buffer ∙ c.deref_mut.ensures.len) in
    let offset = ap (λ (q : Ptr). q.offset) c.ptr.ensures
    ∙ ap (λ (x : Leaf). x.ptr.offset) own_is in
    let taken = c.from.ensures ∙ c.taken.ensures ∙ ap (λ (x : Leaf). x.taken) own_is in
    let place : c.ptr.result.offset + c.from.result ≡ place_in one.leaf =
    omega (arith, offset, taken) in
    let values = values_are can.at.leaves.cache.geometry one.leaf c.geometry.result.now
    c.leaf-own.result.now
    (c.geometry.ensures ∙ ap (λ (y : LeafHand). y.cache.geometry) (sym same)) own_is
    c.written_sectors-len.result c.written_sectors-len.ensures.count bytes
    c.truncate.new.self.items (c.truncate.ensures.items
    ∙ ap (take (512 * c.written_sectors-len.result)) back) c.from_raw-values.result
    c.from_raw-values.ensures in
    let its = ap (λ n. deed.DeviceFault
    (failure.CacheWrite n (written.Set c.args.leaf) c.from_raw-values.result)) place
    ∙ ap (λ (vs : List Value). deed.DeviceFault
    (failure.CacheWrite (place_in one.leaf) (written.Set c.args.leaf) vs)) values in
    let sent = subst (λ (y : LeafHand). IsSent c.args.slot one (Err c.in-Err.field-0) bytes
    (cf c.args.cache.now) (cf c.write_set-sent.new.disk) y.cache c.write_set-sent.new.cache)
    (sym same) (c.in-Err.ensures one there) in (
      refl,
      subst (λ (y : LeafHand). HasLost cf bf c.args.leaf h (record h {
        leaves = Some (record y { cache = c.write_set-sent.new.cache });
      }) v c.called-in-Err.new.seat) same (has_lost cf bf c.args.parts.now v h c.args.cache.now c.requires.works
          c.requires.unheard c.requires.cached c.args.slot c.args.leaf can c.requires.can.1
          c.requires.can.2 c.requires.can.3 c.write_set-sent.new.disk c.write_set-sent.new.cache bytes
          whole
          c.called-in-Err.new.seat c.in-Err.field-0 sent
          (subst (λ (x : Deed). Did cf bf (Some x) v c.called-in-Err.new.seat) its c.called-in-Err.ensures.did)
          (subst (λ (x : Deed). Kept (m cf bf) v c.called-in-Err.new.seat (changes (length v.run.start)
          (by v.first x))) its c.called-in-Err.ensures.kept)),
    )
