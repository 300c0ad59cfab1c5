-- When the keys of a write may come into a leaf in hand.
use Rattle.std.proofs.Common.{◌≡◌, ◌≢◌, ℕ, ◌+◌, ◌-◌, ◌<◌, ◌≤◌, ◌⊎◌, inl, inr, true, false, List, [], ◌∷◌, length, Option, Some, refl, sym, ap, ◌∙◌, subst, arith}
use Rattle.std.specs.Prelude.{reverse}
use Rattle.std.proofs.lemmas.Bool.{cases_lt, lt-ltb}
use Rattle.std.proofs.lemmas.List.Elements.{All-head, All-tail}
use Rattle.bc_model.specs.Sector.{Value, at_run}
use Rattle.bc_books.specs.Enabled.{CanPut}
use Rattle.bc_books.specs.Index as index
use Rattle.bc_cache.specs.Slots.{IsSlotOf}
use Rattle.bc_cache.specs.declared.slots.Cached.{Cached}
use Rattle.bc_data.specs.Data as flow
use Rattle.bc_data.specs.Data.{claim_of}
use Rattle.bc_data.specs.Enabled.{CanInsertWrite}
use Rattle.bc_data.specs.Seats.{Covers}
use Rattle.bc_place.specs.bc_deed.Asked.{IsWithin, MayWrite, size_of}
use Rattle.bc_place.proofs.of_bc_deed.May.{low, size_at}
use Rattle.bc_disk.specs.Disk.{DiskFacts}
use Rattle.bc_events.specs.Keys.{book_keys}
use Rattle.bc_events.specs.Run as core
use Rattle.bc_events.specs.declared.event.Deed.{Deed}
use Rattle.bc_events.specs.declared.event.Deed.TheVariants as deed
use Rattle.bc_events.specs.declared.event.LineNumber.{LineNumber}
use Rattle.bc_fill.specs.declared.fill.Placed.{Placed}
use Rattle.bc_place.specs.bc_hand.Seats.{AtDeed, MayDo, Works, by, note, world}
use Rattle.bc_place.specs.bc_hand.declared.hand.Hand.{Hand}
use Rattle.bc_place.proofs.of_bc_hand.Knowing.{View}
use Rattle.bc_image.specs.Sound.{LiesWithin}
use Rattle.bc_key.specs.declared.key.Key.{Key}
use Rattle.bc_known.specs.Acts as known
use Rattle.bc_known.specs.Acts.{Keyed}
use Rattle.bc_known.specs.Run.{IsEnabled}
use Rattle.bc_place.specs.bc_machine.Frame.{Range, range_of}
use Rattle.bc_place.specs.bc_machine.Plain.{worker_of}
use Rattle.bc_place.proofs.of_bc_machine.Viewing.{opening_stays}
use Rattle.bc_place.specs.bc_machine.Standing.{origin_before}
use Rattle.bc_place.specs.bc_machine.World.{AreLeaves, FromEach, IsCourseOf, IsOrigin, Origin, World, are_plain, opening, replay, seen_from}
use Rattle.bc_place.specs.bc_machine.declared.part.CorePart.{CorePart}
use Rattle.bc_place.specs.bc_machine.declared.part.CorePart.TheVariants as part
use Rattle.bc_node.specs.Leaf.{AreWithin}
use Rattle.bc_parts.specs.Seat.{PartsView}
use Rattle.bc_place.specs.Named.{AreFilled, AreKeysFor, AreOnDevice, AreOwnIn, sectors_of}
use Rattle.bc_place.proofs.Inserting.{books_for, can_insert_write, can_put, keys_are}
use Rattle.bc_place.proofs.Keeping.{Lasts, law_written_at, own_lasts, since_by}
use Rattle.bc_place.proofs.Knowing.{may_each}
use Rattle.bc_place.proofs.Saying.{law_said}
use Rattle.bc_shares.specs.Shares.{books_of}
use Rattle.bc_whole.specs.State as whole
use Rattle.bc_insert.specs.Insert.{CanPutIn}
use Rattle.bc_insert.specs.Write.{AreAllApart, AreReady}
use Rattle.bc_insert.proofs.InHand.{ComesInto, all_in_leaf, has_leaves, leaves_in, role_there, slot_is}
use Rattle.bc_insert.proofs.Putting.{all_reversed}

pub write_into : (number : ℕ) (keys : List Key) (of : LineNumber) (first : ℕ) (values : List Value)
    → ComesInto number (deed.InsertWrite number keys of first values)
write_into number keys of first values = record {
  spine = refl;
  cache = refl;
  backing = refl;
  leaves = λ count part. refl;
}

-- ---- what the seat knows of its places

filled_lasts : (first : ℕ) (want : ℕ → Option Value) (ps : List Placed)
    → Lasts (λ i. AreFilled i first want ps)
filled_lasts first want [] x e i ne h o is course = tt
filled_lasts first want (p ∷ ps) x e i ne h o is course = (
  record {
    own = own_lasts p x e i ne (λ o is course. (h o is course).0.own) o is course;
    holds = λ s t v at wants. law_written_at x e i t v ne
        (λ o is course. (h o is course).0.holds s t v at wants) o is course;
  },
  filled_lasts (first + p.count) want ps x e i ne (λ o is course. (h o is course).1) o is course,
)

pub ready_lasts : (first : ℕ) (values : List Value) (ps : List Placed)
    → Lasts (λ i. AreReady i first values ps)
ready_lasts first values ps x e i ne h o is course = record {
  filled = filled_lasts first (at_run first values) ps x e i ne
      (λ o is course. (h o is course).filled) o is course;
  apart = (h o (origin_before x e o is) course.2).apart;
}

-- they are the seat's own as the books say it
pub own_in : (i first : ℕ) (want : ℕ → Option Value) (ps : List Placed) (o : Origin)
    (st : core.State) → AreFilled i first want ps o st → AreAllApart ps
    → AreOwnIn o.opening.machine i (books_of st.machine) ps
own_in i first want [] o st filled apart = tt
own_in i first want (p ∷ ps) o st filled apart = (
  record {
    some = filled.0.own.some;
    own = filled.0.own.own;
    lies = filled.0.own.lies;
    generation = filled.0.own.generation;
  },
  (apart.0, own_in i (first + p.count) want ps o st filled.1 apart.1),
)

-- each sector of the places lies within what has all their keys
sectors_within : (from end n : ℕ) (ps : List Placed) (keys : List Key) → AreKeysFor n ps keys
    → AreWithin from end keys → (s : ℕ) → n ≤ s → s < n + sectors_of ps → (from ≤ s) × (s < end)
sectors_within from end n [] keys are within s low high = absurd (omega (arith, low, high))
sectors_within from end n (p ∷ ps) [] are within s low high = absurd are
sectors_within from end n (p ∷ ps) (k ∷ ks) are within s low high = go
    (λ more. sectors_within from end (n + p.count) ps ks are.1
    (All-tail (LiesWithin 0 from end) k ks within) s more (omega (arith, high)))
    (cases_lt s (n + p.count))
  where
    go : (n + p.count ≤ s → (from ≤ s) × (s < end)) → (s < n + p.count) ⊎ (n + p.count ≤ s)
        → (from ≤ s) × (s < end)
    go rest (inl less) =
        let here = All-head (LiesWithin 0 from end) k ks within in
        let a = here.0 in
        let b = here.1 in
        let size = are.0.size in
        let stop = are.0.end in (
          omega (arith, a, size, stop, low),
          omega (arith, b, stop, less),
        )
    go rest (inr more) = rest more

module _ {C B : Type 0} (cache_facts : C → DiskFacts) (backing_facts : B → DiskFacts)
    (p : PartsView (CorePart C B)) (v : View cache_facts backing_facts) (h : Hand C B)
    (works : Works cache_facts backing_facts p v h) (number slot : ℕ) (cached : Cached)
    (keys : List Key) (can : CanPutIn h (length p.run.start) slot number cached keys)
    (only : IsSlotOf can.leaves.cache.slots number slot) (of : LineNumber) (first : ℕ)
    (values : List Value) (ps : List Placed) (are : AreKeysFor first ps keys)
    (total : sectors_of ps ≡ length values) (some : 1 ≤ length values)
    (inside : first + length values ≤ size_of cache_facts backing_facts v.run.start)
    (may : MayWrite (note cache_facts backing_facts v) first (length values))
    (device : AreOnDevice ps) where
  abbrev d : Deed
  d = deed.InsertWrite number keys of first values

  abbrev r : Range
  r = (note cache_facts backing_facts v).range

  abbrev turned : List Key
  turned = reverse keys

  within : AreWithin cached.leaf.from cached.leaf.end turned
  within = all_reversed (LiesWithin 0 cached.leaf.from cached.leaf.end) keys can.can.within

  -- in a state in which it may be committed
  module _ (x : World) (o : Origin) (origin : IsOrigin x o) (course : IsCourseOf o x.log)
      (leaves : AreLeaves (can.leaves.part - 6) can.leaves.cache x)
      (ready : AreReady v.first first values ps o (replay o x.log)) where
    abbrev w : whole.Opening
    w = o.opening.machine

    abbrev st : known.State
    st = (replay o x.log).machine

    abbrev version : ℕ → ℕ
    version = st.whole.flow.books.generations.version

    abbrev bucket : ℕ → ℕ
    bucket = w.flow.books.bucket

    abbrev ks : List index.Key
    ks = reverse (books_for bucket version first ps)

    same_keys : book_keys bucket version turned ≡ ks
    same_keys = keys_are o (replay o x.log) v.first (at_run first values) first ps keys are
        ready.filled

    module _ (sectors : w.flow.books.size ≡ size_of cache_facts backing_facts v.run.start)
        (claim : range_of (claim_of st.whole.flow v.first) ≡ r)
        (wrote : (claim_of st.whole.flow v.first).wrote ≡ false)
        (running : st.whole.flow.halted ≡ false) where
      puts : CanPut w.flow.books (books_of st).index version (books_of st).owner number ks
      puts = can_put o (replay o x.log) v.first (at_run first values) first ps ready.filled number
          (λ s low high.
          (let both = sectors_within cached.leaf.from cached.leaf.end first ps keys are
          can.can.within s low high in (
            omega (arith, high, total, inside, sectors),
            slot_is cache_facts backing_facts p v h works number slot cached keys can only x o
                origin course leaves s both.0 both.1,
          )))

      covers : (s : ℕ) → first ≤ s → s < first + sectors_of ps
          → Covers (claim_of st.whole.flow v.first) s
      covers s low high =
          let from = ap (λ (z : Range). z.first) claim in
          let count = ap (λ (z : Range). z.count) claim in
          let below = may.covered.0 in
          let above = may.covered.1 in (
            omega (arith, from, below, low),
            omega (arith, from, count, above, high, total),
          )

      writes : CanInsertWrite w.flow st.whole.flow v.first ks first values
      writes = can_insert_write o (replay o x.log) v.first (at_run first values) first ps
          ready.filled values (λ s. refl) total some
          (ap (λ (z : Range). z.exclusive) claim ∙ may.exclusive) wrote covers origin.cached

      allowed : IsEnabled w st v.first (Keyed (flow.InsertWrite of.line number
          (book_keys bucket version turned) first values) number turned)
      allowed = record {
        data_allows = (
          record {
            heard = running;
            steps = (
              subst (λ (l : List index.Key). CanPut w.flow.books (books_of st).index version
                  (books_of st).owner number l) (sym same_keys) puts,
              tt,
            );
            can = subst (λ (l : List index.Key). CanInsertWrite w.flow st.whole.flow v.first l first
                values) (sym same_keys) writes;
          },
          tt,
        );
        asks = (
          (
            refl,
            law_said w (books_of st) v.first first ps keys are
                (own_in v.first first (at_run first values) ps o (replay o x.log) ready.filled
                ready.apart) device,
          ),
          role_there cache_facts backing_facts p v h works number slot cached keys can only x o
              origin course leaves,
          all_in_leaf cache_facts backing_facts p v h works number slot cached keys can only x o
              origin course leaves turned within,
        );
      }

  worker_at : (x y : World) → AtDeed cache_facts backing_facts v d x y
      → worker_of v.first ≡ of.worker → y.opening.worker v.first ≡ of.worker
  worker_at x y at line = at.worker ∙ ap (λ (o : core.Opening). o.worker v.first)
      (opening_stays (opening cache_facts backing_facts v.run.start) v.seen) ∙ line

  pub may_insert : are_plain cache_facts backing_facts v.run.start ≡ false
      → worker_of v.first ≡ of.worker
      → FromEach (world cache_facts backing_facts v) (AreReady v.first first values ps)
      → MayDo cache_facts backing_facts v d
  may_insert cached_run line ready = may_each cache_facts backing_facts v cached_run d
      (λ o x origin course at. (
        record {
          seat = lt-ltb v.first 320 (low cache_facts backing_facts v works.seat);
          course = (
            allowed x o origin course
                (at.stand can.leaves.part (part.Leaves can.leaves.cache)
                (has_leaves cache_facts backing_facts p v h works number slot cached keys can)
                (leaves_in cache_facts backing_facts p v h works number slot cached keys can)).1
                (since_by cache_facts backing_facts (λ i. AreReady i first values ps)
                (ready_lasts first values ps) v x works.seat at.since ready o origin course)
                (size_at cache_facts backing_facts v d x (seen_from o x) at) at.note.range
                (at.note.wrote ∙ may.first_write) (at.running refl),
            tt,
          );
          fit = tt;
          its_line = worker_at x (seen_from o x) at line;
          plain = λ plain. absurd (let both : true ≡ false = sym plain ∙ origin.cached in cc);
        },
        tt,
        tt,
      ))
