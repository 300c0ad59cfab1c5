use Rattle.std.proofs.Common.{◌≡◌, ◌*◌, ◌/◌, ℕ, List, sym, ap, ◌∙◌, subst, arith}
use Rattle.std.specs.Prelude.{OnErr, OnOk, drop, length, take}
use Rattle.std.proofs.lemmas.List.{length-take-le, take_at}
use Rattle.bc_disk.specs.Disk.{IsFailedWrite, IsWritten}
use Rattle.bc_inner.specs.Inner.{Inner}
use Rattle.bc_key.specs.declared.key.Key.{Key}
use Rattle.bc_model.specs.Sector.{Value, values_of}
use Rattle.bc_node.specs.Writing.{set_of}
use Rattle.bc_plan.specs.Parent.{HasMoreIn}
use Rattle.bc_set.specs.Records.{set_sectors}
use Rattle.bc_tree.specs.Append.{IsSetWrite}
use Rattle.bc_tree.proofs.Appends.{room_says}
use Rattle.bc_parent_set.specs.Write.{parent_place, parent_values}
use Rattle.bc_parent_set.proofs.Sets.{values_behind}
use Rattle.bc_parent_set.proofs.Taker.{same_takes, takes_set}
use Rattle.bc_parent_set.proofs.write.send.Goals as goal

pub write_parent-sent-requires-clause-set : goal.write_parent-sent-requires-clause-set
write_parent-sent-requires-clause-set g c =
    let can = c.requires in (
      can.taker,
      can.put,
      takes_set c.args.spine.now c.args.plan.now can.at can.taker can.put can.fits can.takes,
      record { room = can.room; within = can.inside },
    )

whole_blocks : (items : List ℕ) (n : ℕ) → length items ≡ 512 * n
    → length items ≡ 512 * (length items / 512)
whole_blocks items n is = omega (arith, is)

pub from_raw-requires-clause-whole : goal.from_raw-requires-clause-whole
from_raw-requires-clause-whole g c =
    let can = c.requires in
    let sp = c.args.spine.now in
    let n = set_sectors sp.geometry (set_of can.taker.seq can.put) in
    let bytes = c.write_parent-sent.new.buffer in
    let fits = (room_says sp.geometry can.taker can.put can.room).2 in
    let whole = c.write_parent-sent.auto.buffer
    ∙ ap (λ (l : List ℕ). length l) c.deref_mut.ensures.value ∙ can.whole in
    let back = take_at bytes (drop (length bytes) c.args.buffer.items) c.args.buffer.len
    (c.write_parent-sent.auto.buffer ∙ c.deref_mut.ensures.len) in
    let count = c.place_and_length-place.ensures.count can.at can.taker can.put can.takes in
    let front : length (take (512 * n) bytes) ≡ 512 * n =
    length-take-le (512 * n) bytes (omega (arith, whole, fits)) in
    whole_blocks c.truncate.new.self.items n
    (ap (λ (l : List ℕ). length l) (c.truncate.ensures.items
    ∙ ap (take c.place_and_length-place.result.1) back ∙ ap (λ k. take k bytes) count) ∙ front)

pub returns-clause-sent : goal.returns-clause-sent
returns-clause-sent g c =
    let can = c.requires in
    let sp = c.args.spine.now in
    let plan = c.args.plan.now in
    let r = c.write_parent-sent.result in
    let bytes = c.write_parent-sent.new.buffer in
    let old = g.D.Disk.facts c.args.disk.now in
    let new = g.D.Disk.facts c.write_parent-sent.new.disk in
    let n = set_sectors sp.geometry (set_of can.taker.seq can.put) in
    let takes = takes_set sp plan can.at can.taker can.put can.fits can.takes in
    let wrote = c.write_parent-sent.ensures.set in
    let one = same_takes sp plan.place plan.bottom plan.top wrote.0 can.taker wrote.1 can.put
    wrote.2 takes in
    let write = subst (λ (k : Inner). IsSetWrite sp.geometry k can.put bytes old new r) one.0
    (subst (λ (ks : List Key). IsSetWrite sp.geometry wrote.0 ks bytes old new r) one.1 wrote.3) in
    let has = c.write_parent-sent.ensures.more in
    let two = same_takes sp plan.place plan.bottom plan.top has.0 can.taker has.1 can.put has.2
    takes in
    let more = subst (λ (k : Inner). HasMoreIn r k can.put sp c.write_parent-sent.new.spine) two.0
    (subst (λ (ks : List Key). HasMoreIn r has.0 ks sp c.write_parent-sent.new.spine) two.1 has.3) in
    let place = c.place_and_length-place.ensures.place can.at can.taker can.put can.takes in
    let count = c.place_and_length-place.ensures.count can.at can.taker can.put can.takes in
    let back = take_at bytes (drop (length bytes) c.args.buffer.items) c.args.buffer.len
    (c.write_parent-sent.auto.buffer ∙ c.deref_mut.ensures.len) in
    let says = room_says sp.geometry can.taker can.put can.room in
    let values : c.from_raw.result ≡ parent_values sp.geometry can.taker can.put bytes =
    c.from_raw.ensures ∙ ap values_of (c.truncate.ensures.items
    ∙ ap (take c.place_and_length-place.result.1) back ∙ ap (λ k. take k bytes) count)
    ∙ sym (values_behind sp.geometry can.taker can.put bytes says.1) in
    record {
      at = can.at;
      taker = can.taker;
      put = can.put;
      takes = can.takes;
      bytes = bytes;
      set = write.has;
      whole = c.write_parent-sent.auto.buffer
          ∙ ap (λ (l : List ℕ). length l) c.deref_mut.ensures.value ∙ can.whole;
      place_is = place;
      values_are = values;
      good = subst (λ k. OnOk r (IsWritten k c.from_raw.result old new)) (sym place)
          (subst (λ (vs : List Value). OnOk r (IsWritten (parent_place can.taker) vs old new))
          (sym values) write.ok);
      failed = subst (λ k. OnErr r (IsFailedWrite k c.from_raw.result old new)) (sym place)
          (subst (λ (vs : List Value). OnErr r (IsFailedWrite (parent_place can.taker) vs old new))
          (sym values) write.failed);
      counted = write.counted;
      more = more;
    }

pub returns-clause-fits : goal.returns-clause-fits
returns-clause-fits g c = c.write_parent-sent.ensures.fits c.args.plan.now c.requires.fits
