use Rattle.std.proofs.Common.{◌≡◌, inl, inr, ℕ, ◌<◌, ◌≤◌, List, Some, length, get_or, refl, subst, sym, ap, ◌∙◌, arith}
use Rattle.std.specs.Prelude.{Contains, slice_get}
use Rattle.std.proofs.lemmas.List.Elements.{All-get_or}
use Rattle.std.proofs.lemmas.Option.{slice_get_within, get_or_from_slice_get}
use Rattle.std.proofs.lemmas.Result.{err_from_is_err_and}
use Rattle.bc_jset.specs.Entries.{FoundEntry}
use Rattle.bc_jset.specs.Ring.{HasRoom}
use Rattle.bc_entries.specs.Lists.{picked, AreListed}
use Rattle.bc_entries.specs.Reading.{EndsWithin}
use Rattle.bc_entries.proofs.Lists.{unfit_by}
use Rattle.bc_entries.proofs.Rooms.{picked_has, room_same}
use Rattle.bc_entries.proofs.read.journal_of.Goals as goal
use Rattle.bc_entries.proofs.read.journal_of.Goals.{then-seq-ge-LAST_NUMBERS-via-then-seq-ge-LAST_NUMBERS, then-seq-ge-LAST_NUMBERS-via-else-seq-ge-LAST_NUMBERS+then-not-has_room}

-- the newest entry, as it was listed and as it is read
module _ (all other : List FoundEntry) (order : List ℕ) (newest : ℕ) (read : FoundEntry) where
  abbrev pub Listed : Type 0
  Listed = (e : FoundEntry) × (slice_get other newest ≡ Some e) × AreListed other (picked other order) e

  inside : other ≡ all → Listed → newest < length all
  inside is so = subst (λ (xs : List FoundEntry). newest < length xs) is (slice_get_within other newest so.0 so.1)

  is_read : other ≡ all → (so : Listed) → read ≡ get_or all newest read → read ≡ so.0
  is_read is so at = at ∙ ap (λ (xs : List FoundEntry). get_or xs newest read) (sym is) ∙ get_or_from_slice_get other newest so.0 read so.1

  listed_so : other ≡ all → (so : Listed) → AreListed all (picked all order) so.0
  listed_so is so = subst (λ (xs : List FoundEntry). AreListed xs (picked xs order) so.0) is so.2

pub returns-in_err-order-clause-unfit : goal.returns-in_err-order-clause-unfit
returns-in_err-order-clause-unfit c =
    let p = err_from_is_err_and c.from_residual.result c.from_residual.ensures.1 in
    rw (p.1, p.2) (unfit_by c.args.g.now c.args.all.items c.deref.result.now c.in_err-order.field-0.0 c.deref.ensures.value c.in_err-order.ensures.unlisted)

pub index-requires : goal.index-requires
index-requires c =
    let all = c.args.all.items in
    let low = slice_get_within c.deref.result.now c.in_ok-order.newest c.in_ok-order.ensures.listed.0 c.in_ok-order.ensures.listed.1 in
    omega (arith, low, ap (λ (xs : List FoundEntry). length xs) c.deref.ensures.value, c.args.all.ok.0)

pub index-requires-else-seq-ge-LAST_NUMBERS : goal.index-requires-else-seq-ge-LAST_NUMBERS
index-requires-else-seq-ge-LAST_NUMBERS c =
    let low = slice_get_within c.deref.result.now c.in_ok-order.newest c.in_ok-order.ensures.listed.0 c.in_ok-order.ensures.listed.1 in
    omega (arith, low, ap (λ (xs : List FoundEntry). length xs) c.deref.ensures.value, c.args.all.ok.0)

pub has_room-requires-clause-within : goal.has_room-requires-clause-within
has_room-requires-clause-within c =
    let g = c.args.g.now in
    let all = c.args.all.items in
    let e = c.index-else-seq-ge-LAST_NUMBERS.result.now in
    let low = inside all c.deref.result.now c.in_ok-order.order.items c.in_ok-order.newest e c.deref.ensures.value c.in_ok-order.ensures.listed in
    subst (λ (x : FoundEntry). EndsWithin g x) (sym c.index-else-seq-ge-LAST_NUMBERS.ensures) (All-get_or (EndsWithin g) all c.in_ok-order.newest e low c.requires.ends)

pub has_room-requires-clause-counts : goal.has_room-requires-clause-counts
has_room-requires-clause-counts c =
    let all = c.args.all.items in
    let order = c.in_ok-order.order.items in
    let e = c.index-else-seq-ge-LAST_NUMBERS.result.now in
    let so = c.in_ok-order.ensures.listed in
    let same = is_read all c.deref.result.now order c.in_ok-order.newest e c.deref.ensures.value so c.index-else-seq-ge-LAST_NUMBERS.ensures in
    let here = subst (λ (xs : List FoundEntry). slice_get xs c.in_ok-order.newest ≡ Some e) c.deref.ensures.value (so.1 ∙ ap Some (sym same)) in
    let has = picked_has all order c.in_ok-order.newest e c.in_ok-order.ensures.counts here in
    subst (λ (xs : List FoundEntry). Contains (picked xs c.deref-else-seq-ge-LAST_NUMBERS-2.result.now) e) (sym c.deref-else-seq-ge-LAST_NUMBERS.ensures.value)
    (subst (λ (os : List ℕ). Contains (picked all os) e) (sym c.deref-else-seq-ge-LAST_NUMBERS-2.ensures.value) has)

pub returns-then-seq-ge-LAST_NUMBERS-clause-unfit : goal.returns-then-seq-ge-LAST_NUMBERS-clause-unfit
returns-then-seq-ge-LAST_NUMBERS-clause-unfit c =
    let g = c.args.g.now in
    let all = c.args.all.items in
    let order = c.in_ok-order.order.items in
    let so = c.in_ok-order.ensures.listed in
    let same = is_read all c.deref.result.now order c.in_ok-order.newest c.index.result.now c.deref.ensures.value so c.index.ensures in
    record {
      es = picked all order;
      newest = so.0;
      listed = listed_so all c.deref.result.now order c.in_ok-order.newest c.index.result.now c.deref.ensures.value so;
      number = ap (λ (x : FoundEntry). x.item.seq) (sym same);
      full = elim c.then-seq-ge-LAST_NUMBERS.branch [
        | then-seq-ge-LAST_NUMBERS-via-then-seq-ge-LAST_NUMBERS w ↦ inl w.if-seq-ge-LAST_NUMBERS.true
        | then-seq-ge-LAST_NUMBERS-via-else-seq-ge-LAST_NUMBERS+then-not-has_room w ↦
            let e = w.index-else-seq-ge-LAST_NUMBERS.result.now in
            let is = is_read all c.deref.result.now order c.in_ok-order.newest e c.deref.ensures.value so w.index-else-seq-ge-LAST_NUMBERS.ensures in
            inr (λ room. w.if-not-has_room.ensures (room_same g w.deref-else-seq-ge-LAST_NUMBERS.result.now all w.deref-else-seq-ge-LAST_NUMBERS-2.result.now order e so.0
            (sym w.deref-else-seq-ge-LAST_NUMBERS.ensures.value) (sym w.deref-else-seq-ge-LAST_NUMBERS-2.ensures.value) (sym is) room))
      ];
    }

pub returns-clause-fit : goal.returns-clause-fit
returns-clause-fit c =
    let g = c.args.g.now in
    let all = c.args.all.items in
    let order = c.in_ok-order.order.items in
    let so = c.in_ok-order.ensures.listed in
    let e = c.index-else-seq-ge-LAST_NUMBERS.result.now in
    let same = is_read all c.deref.result.now order c.in_ok-order.newest c.index.result.now c.deref.ensures.value so c.index.ensures in
    let is = is_read all c.deref.result.now order c.in_ok-order.newest e c.deref.ensures.value so c.index-else-seq-ge-LAST_NUMBERS.ensures in (
      refl,
      record {
        newest = so.0;
        listed = listed_so all c.deref.result.now order c.in_ok-order.newest e c.deref.ensures.value so;
        number = subst (λ (x : FoundEntry). x.item.seq < 9223372036854775806) same c.if-seq-ge-LAST_NUMBERS.false;
        room = room_same g all c.deref-else-seq-ge-LAST_NUMBERS.result.now order c.deref-else-seq-ge-LAST_NUMBERS-2.result.now so.0 e
            c.deref-else-seq-ge-LAST_NUMBERS.ensures.value c.deref-else-seq-ge-LAST_NUMBERS-2.ensures.value is c.if-not-has_room.ensures;
      },
    )

pub returns-clause-counts : goal.returns-clause-counts
returns-clause-counts c = let h = returns-clause-fit c in h.1

pub returns-clause-places : goal.returns-clause-places
returns-clause-places c = c.requires.places
