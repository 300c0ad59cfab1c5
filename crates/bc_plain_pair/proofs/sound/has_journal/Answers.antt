use Rattle.std.proofs.Common.{◌≡◌, ap, sym, subst, ◌∙◌}
use Rattle.bc_disk.specs.Bytes.{image_of}
use Rattle.bc_disk.specs.declared.geometry.Geometry.{Geometry}
use Rattle.bc_image.specs.Reading.{Reading}
use Rattle.bc_image.specs.Sound.{HasNoStrayEntry, HasRoomForEntry}
use Rattle.bc_plain_pair.proofs.sound.has_journal.Goals as goal

pub returns-then-not-branch : goal.returns-then-not-branch
returns-then-not-branch c = λ journal.
    let es : c.args.v.now.reading.entries ≡ c.entries-entries.result.now = sym (c.entries-entries.ensures ∙ ap (λ (r : Reading). r.entries) c.reading-r.ensures) in
    let last : c.args.v.now.reading.newest ≡ c.newest-newest.result.now = sym (c.newest-newest.ensures ∙ ap (λ (r : Reading). r.newest) c.reading-r.ensures) in
    let none = rw c.if-not-branch.true at (c.in_ok-has_room_for_entry.ensures c.args.v.now.reading es last) in
    none (subst (λ (g : Geometry). HasRoomForEntry g (image_of c.args.cache.now) c.args.v.now.reading) (sym c.geometry-g.ensures) journal.room)

pub returns-in-Some : goal.returns-in-Some
returns-in-Some c = λ journal.
    let es : c.args.v.now.reading.entries ≡ c.entries-entries.result.now = sym (c.entries-entries.ensures ∙ ap (λ (r : Reading). r.entries) c.reading-r.ensures) in
    let last : c.args.v.now.reading.newest ≡ c.newest-newest.result.now = sym (c.newest-newest.ensures ∙ ap (λ (r : Reading). r.newest) c.reading-r.ensures) in
    let stray = rw c.in-Some.is at (c.in_ok-first_stray.ensures c.args.v.now.reading es last) in
    stray (subst (λ (g : Geometry). HasNoStrayEntry g (image_of c.args.cache.now) c.args.v.now.reading) (sym c.geometry-g.ensures) journal.no_stray)

pub returns-in-None : goal.returns-in-None
returns-in-None c =
    let es : c.args.v.now.reading.entries ≡ c.entries-entries.result.now = sym (c.entries-entries.ensures ∙ ap (λ (r : Reading). r.entries) c.reading-r.ensures) in
    let last : c.args.v.now.reading.newest ≡ c.newest-newest.result.now = sym (c.newest-newest.ensures ∙ ap (λ (r : Reading). r.newest) c.reading-r.ensures) in
    let room = rw c.if-not-branch.false at (c.in_ok-has_room_for_entry.ensures c.args.v.now.reading es last) in
    let none = rw c.in-None.is at (c.in_ok-first_stray.ensures c.args.v.now.reading es last) in
    record {
      room = subst (λ (g : Geometry). HasRoomForEntry g (image_of c.args.cache.now) c.args.v.now.reading) c.geometry-g.ensures room;
      no_stray = subst (λ (g : Geometry). HasNoStrayEntry g (image_of c.args.cache.now) c.args.v.now.reading) c.geometry-g.ensures none;
    }
