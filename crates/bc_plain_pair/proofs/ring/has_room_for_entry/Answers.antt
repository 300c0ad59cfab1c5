use Rattle.std.proofs.Common.{List, subst}
use Rattle.std.specs.Bool.{MatchBool}
use Rattle.bc_disk.specs.Bytes.{image_of}
use Rattle.bc_jset.specs.Entries.{FoundEntry}
use Rattle.bc_jset.specs.Ring.{HasRoom}
use Rattle.bc_plain_pair.proofs.Rings.{no_number, room_for}
use Rattle.bc_plain_pair.proofs.ring.has_room_for_entry.Goals as goal

pub returns-then-seq-ge-LAST_SEQ : goal.returns-then-seq-ge-LAST_SEQ
returns-then-seq-ge-LAST_SEQ c = λ r entries last. no_number c.args.g.now (image_of c.args.image.now) c.args.entries.now c.args.entries.now c.args.newest.now r entries last c.if-seq-ge-LAST_SEQ.true

pub returns : goal.returns
returns c = λ r entries last.
    room_for c.args.g.now (image_of c.args.image.now) c.args.entries.now c.in_ok-all.all.items c.args.newest.now r entries last c.has_room.result c.if-seq-ge-LAST_SEQ.false c.in_ok-all.ensures
    (subst (λ (xs : List FoundEntry). MatchBool c.has_room.result (HasRoom c.args.g.now xs c.args.entries.now c.args.newest.now) (HasRoom c.args.g.now xs c.args.entries.now c.args.newest.now → ⊥)) c.deref.ensures.value c.has_room.ensures)
