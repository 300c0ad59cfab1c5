-- What stands behind keys without pointers that came into a leaf in hand.
use Rattle.std.proofs.Common.{◌≡◌, ℕ, ◌+◌, ◌≤◌, false, List, length, Some, refl, sym, ap, ◌∙◌, subst}
use Rattle.std.specs.Prelude.{reverse}
use Rattle.bc_cache.specs.Slots.{IsSlotOf}
use Rattle.bc_cache.specs.declared.slots.Cached.{Cached}
use Rattle.bc_data.specs.Data as flow
use Rattle.bc_data.specs.Data.{DropKeys}
use Rattle.bc_place.specs.bc_deed.Asked.{size_of}
use Rattle.bc_disk.specs.Disk.{DiskFacts}
use Rattle.bc_events.specs.Keys.{book_keys}
use Rattle.bc_events.specs.declared.event.Deed.{Deed}
use Rattle.bc_events.specs.declared.event.Deed.TheVariants as deed
use Rattle.bc_events.specs.declared.event.Form.TheVariants as form
use Rattle.bc_place.specs.bc_hand.Seats.{Did, Works, by, note, world}
use Rattle.bc_place.specs.bc_hand.declared.hand.Hand.{Hand}
use Rattle.bc_place.proofs.of_bc_hand.Knowing.{View, m}
use Rattle.bc_journal.specs.Journal.{IsJournal as IsGoodJournal}
use Rattle.bc_key.specs.declared.key.Key.{Key}
use Rattle.bc_known.specs.Acts as known
use Rattle.bc_place.specs.bc_machine.Containers.{AreBucketsOf}
use Rattle.bc_place.specs.bc_machine.World.{AreBuckets, Origin, are_plain, changes, replay}
use Rattle.bc_place.specs.bc_machine.declared.part.CorePart.{CorePart}
use Rattle.bc_parts.specs.Seat.{PartsView}
use Rattle.bc_seats.specs.Seats.{Kept}
use Rattle.bc_shares.specs.Shares.{books_of}
use Rattle.bc_keyed.specs.Parts.{PointNowhere}
use Rattle.bc_keyed.proofs.Nowhere.{law_nowhere}
use Rattle.bc_insert.specs.Drop.{MayDrop}
use Rattle.bc_insert.specs.Insert.{CanPutIn, HasPutIn}
use Rattle.bc_insert.proofs.Behind.{behind, buckets_before, journal_before, leaves_before, works_behind}
use Rattle.bc_insert.proofs.Dropping.{drop_into, ks_are, nowhere}

-- the keys as the books have them
abbrev pub act_of : ℕ → List Key → Origin → known.State → flow.Act
act_of number keys o st = flow.Insert DropKeys number (book_keys o.opening.machine.flow.books.bucket
    st.whole.flow.books.generations.version (reverse keys))

module _ {C B : Type 0} (cache_facts : C → DiskFacts) (backing_facts : B → DiskFacts)
    (p : PartsView (CorePart C B)) (v : View cache_facts backing_facts) (h : Hand C B)
    (works : Works cache_facts backing_facts p v h)
    (cached_run : are_plain cache_facts backing_facts v.run.start ≡ false)
    (number slot : ℕ) (cached : Cached) (keys : List Key)
    (can : CanPutIn h (length p.run.start) slot number cached keys)
    (only : IsSlotOf can.leaves.cache.slots number slot) (good : IsGoodJournal can.journal)
    (may : MayDrop (note cache_facts backing_facts v).range cached.leaf
    can.buckets.buckets.size keys)
    (inside : (note cache_facts backing_facts v).range.first
    + (note cache_facts backing_facts v).range.count
    ≤ size_of cache_facts backing_facts v.run.start)
    (w : View cache_facts backing_facts)
    (did : Did cache_facts backing_facts (Some (deed.Insert number keys form.Drop)) v w) where
  abbrev e : Deed
  e = deed.Insert number keys form.Drop

  buckets_behind : AreBuckets can.buckets (world cache_facts backing_facts w)
  buckets_behind = behind cache_facts backing_facts p v h works number slot cached keys can only e
      (drop_into number keys) (act_of number keys) (λ o st. refl) w did
      (λ o st. AreBucketsOf o.opening.machine (books_of st.machine) can.buckets)
      (λ o origin course.
      (let st = (replay o did.is.before.log).machine in
      let ks = book_keys o.opening.machine.flow.books.bucket
      st.whole.flow.books.generations.version (reverse keys) in
      law_nowhere o.opening.machine (books_of st) can.buckets number ks
      (subst PointNowhere (sym (ks_are cache_facts backing_facts p v h works cached_run number slot
      cached keys can only good may inside did.is.before o origin course
      (leaves_before cache_facts backing_facts p v h works number slot cached keys can only e
      (drop_into number keys) (act_of number keys) (λ o st. refl) w did)
      (buckets_before cache_facts backing_facts p v h works number slot cached keys can only e
      (drop_into number keys) (act_of number keys) (λ o st. refl) w did)
      (journal_before cache_facts backing_facts p v h works number slot cached keys can only e
      (drop_into number keys) (act_of number keys) (λ o st. refl) w did))) (nowhere (reverse keys)))
      (buckets_before cache_facts backing_facts p v h works number slot cached keys can only e
      (drop_into number keys) (act_of number keys) (λ o st. refl) w did o origin course)))

  pub drop_works : (new : Hand C B) → HasPutIn h new slot cached keys
      → Kept (m cache_facts backing_facts) v w (changes (length v.run.start) (by v.first e))
      → Works cache_facts backing_facts p w new
  drop_works new put kept = works_behind cache_facts backing_facts p v h works number slot cached
      keys can only e (drop_into number keys) (act_of number keys) (λ o st. refl) w did refl may.some new new put can.buckets
      (same_buckets new put) buckets_behind kept
    where
      same_buckets : (new : Hand C B) → HasPutIn h new slot cached keys
          → new ≡ record new { buckets = Some can.buckets }
      same_buckets new put = ap (λ o. record new { buckets = o })
          (ap (λ (x : Hand C B). x.buckets) put.is ∙ can.are_buckets)
