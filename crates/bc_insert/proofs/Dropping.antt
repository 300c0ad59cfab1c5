-- When keys without pointers may come into a leaf in hand, and what stands behind them.
use Rattle.std.proofs.Common.{◌≡◌, ◌≢◌, ◌⊎◌, inl, inr, ℕ, zero, suc, ◌+◌, ◌-◌, ◌*◌, ◌%◌, ◌<◌, ◌≤◌, Bool, true, false, List, [], ◌∷◌, length, Option, Some, None, refl, sym, ap, ◌∙◌, subst, arith}
use Rattle.std.specs.Prelude.{◌==◌, All, if◌then◌else◌, nat_lt, reverse, slice_get}
use Rattle.std.proofs.lemmas.Bool.{lt-ltb}
use Rattle.std.proofs.lemmas.Grind.{common_steps}
use Rattle.std.proofs.lemmas.List.Elements.{All-head, All-tail}
use Rattle.bc_books.specs.Enabled.{CanPut, IsLawful}
use Rattle.bc_books.specs.Index as index
use Rattle.bc_books.specs.Index.{AreWhole, Clean, Dirty, Kind, Pointer, first_hit, hit, is_dirty, latest, names, pointer_of, run_place}
use Rattle.bc_books.proofs.Cases.{place_range}
use Rattle.bc_cache.specs.Slots.{IsSlotOf, NodeCache}
use Rattle.bc_cache.specs.declared.slots.Cached.{Cached}
use Rattle.bc_data.specs.Data as flow
use Rattle.bc_data.specs.Data.{DropKeys, claim_of, index_of}
use Rattle.bc_data.specs.Enabled.{CanInsert, IsBacked}
use Rattle.bc_data.proofs.Runs.{sector_range}
use Rattle.bc_place.specs.bc_deed.Asked.{size_of}
use Rattle.bc_place.proofs.of_bc_deed.May.{low, size_at}
use Rattle.bc_disk.specs.Disk.{DiskFacts}
use Rattle.bc_disk.specs.declared.geometry.Geometry.{Geometry}
use Rattle.bc_facts.specs.Layout.{IsLayoutOf}
use Rattle.bc_meta.proofs.Lists.{by_test}
use Rattle.bc_events.specs.Keys.{ArePlain, IfPoints, IsPlain, book_keys, points_by}
use Rattle.bc_events.specs.declared.event.Deed.{Deed}
use Rattle.bc_events.specs.declared.event.Deed.TheVariants as deed
use Rattle.bc_events.specs.declared.event.Form.TheVariants as form
use Rattle.bc_events.proofs.Keys.{law_keys as same_keys}
use Rattle.bc_place.specs.bc_hand.Seats.{MayDo, Works, by, note, numbers, with_leaves, with_part, world}
use Rattle.bc_place.specs.bc_hand.declared.hand.Hand.{Hand}
use Rattle.bc_place.specs.bc_hand.declared.hand.LeafHand.{LeafHand}
use Rattle.bc_place.proofs.of_bc_hand.Knowing.{View, is_plain_at}
use Rattle.bc_image.specs.Sound.{LiesWithin}
use Rattle.bc_key.specs.Key.{Covers, start_of}
use Rattle.bc_key.specs.Key as key
use Rattle.bc_key.specs.declared.key.Key.{Key}
use Rattle.bc_journal.specs.Journal.{IsJournal as IsGoodJournal, Journal}
use Rattle.bc_known.specs.Acts.{Keyed}
use Rattle.bc_known.specs.Acts as known
use Rattle.bc_known.specs.Known.{AreLaid}
use Rattle.bc_known.specs.Run.{IsEnabled}
use Rattle.bc_leaves.specs.Frame.{AllWithin}
use Rattle.bc_leaves.specs.Parts.{Coming, Draft, Free, Leaving, NoNode, Role}
use Rattle.bc_leaves.specs.Parts as parts
use Rattle.bc_sight.proofs.of_bc_looks.Law.{law_keys, law_slots}
use Rattle.bc_place.specs.bc_machine.Containers.{AreLeavesOf, IsInTree, IsLeafFor}
use Rattle.bc_place.specs.bc_machine.Frame.{Range, range_of}
use Rattle.bc_place.specs.bc_machine.Note.{note_of}
use Rattle.bc_place.specs.bc_machine.World.{AreBuckets, AreLeaves, CanFollow, IsJournal, changes, IsCourseOf, IsOrigin, IsSeenFrom, Origin, World, are_plain, data_of, replay}
use Rattle.bc_place.specs.bc_machine.declared.part.CorePart.{CorePart}
use Rattle.bc_place.specs.bc_machine.declared.part.CorePart.TheVariants as part
use Rattle.bc_meta.specs.Keys.{Ref}
use Rattle.bc_node.specs.Leaf.{AreWithin, Leaf}
use Rattle.bc_parts.specs.Seat.{Holds, PartsView}
use Rattle.bc_seats.proofs.Knowing.{held}
use Rattle.bc_shares.specs.Shares.{books_of, leaf_share}
use Rattle.bc_sight.specs.Sight.{IsOnBacking, said_in}
use Rattle.bc_sight.proofs.Looking.{holds_buckets, some_of}
use Rattle.bc_whole.specs.State as whole
use Rattle.bc_whole.specs.Together.{ref_of}
use Rattle.bc_keyed.specs.Parts.{PointNowhere}
use Rattle.bc_keyed.proofs.Nowhere.{names_none}
use Rattle.bc_insert.specs.Drop.{IsGone, MayDrop}
use Rattle.bc_insert.specs.Insert.{CanPutIn}
use Rattle.bc_insert.proofs.InHand.{ComesInto, all_in_leaf, buckets_in_hand, has_buckets, has_journal, has_leaves, journal_in_hand, leaves_in, role_there, says, slot_is}
use Rattle.bc_insert.proofs.Putting.{all_reversed}

-- ---- keys without pointers, as the books have them

-- what the books have of one
abbrev bare : Key → index.Key
bare k = record { first = start_of k; count = k.size; kind = None; place = 0; version = 0 }

abbrev bares : List Key → List index.Key
bares [] = []
bares (k ∷ ks) = bare k ∷ bares ks

pub nowhere : (ks : List Key) → PointNowhere (bares ks)
nowhere [] = tt
nowhere (k ∷ ks) = (refl, nowhere ks)

module _ (r : Range) (leaf : Leaf) (size : ℕ) where
  abbrev Gone : Key → Type 0
  Gone k = IsGone r leaf size k

  no_pointer : (k : Key) → Gone k → key.pointer_of k ≡ None
  no_pointer k h = ap (λ n. if nat_lt 0 n then Some (key.ptr_at k 0) else None) h.none

  pub all_bare : (bucket version : ℕ → ℕ) (ks : List Key) → All Gone ks
      → book_keys bucket version ks ≡ bares ks
  all_bare bucket version [] all = refl
  all_bare bucket version (k ∷ ks) all =
      ap (λ o. points_by bucket version k o ∷ book_keys bucket version ks)
      (no_pointer k (All-head Gone k ks all))
      ∙ ap (λ (l : List index.Key). bare k ∷ l)
      (all_bare bucket version ks (All-tail Gone k ks all))

  -- they say the same of each sector as the records have them
  pub plain : (bucket version : ℕ → ℕ) (ks : List Key) → All Gone ks
      → ArePlain bucket version ks
  plain bucket version [] all = tt
  plain bucket version (k ∷ ks) all = (
    (let h = All-head Gone k ks all in let from = h.from in omega (arith, from)),
    (
      subst (λ o. IfPoints o (IsPlain bucket version k))
          (sym (no_pointer k (All-head Gone k ks all))) tt,
      plain bucket version ks (All-tail Gone k ks all),
    ),
  )

  -- a sector that one has points nowhere by it
  pub record IsHit (s : ℕ) (o : Option Pointer) : Type 0 where
    pub by_key : Key
    pub gone : Gone by_key
    pub within : LiesWithin 0 leaf.from leaf.end by_key
    pub covers : Covers by_key s
    pub none : o ≡ None

  pub hit_bare : (ks : List Key) → All Gone ks → AreWithin leaf.from leaf.end ks → (s : ℕ)
      (o : Option Pointer) → hit (bares ks) s ≡ Some o → IsHit s o
  hit_bare [] all within s o at = absurd (cc)
  hit_bare (k ∷ ks) all within s o at = go (run_place (start_of k) 0 k.size s) refl
      (hit_bare ks (All-tail Gone k ks all) (All-tail (LiesWithin 0 leaf.from leaf.end) k ks within)
      s o) at
    where
      one : (o : Option Pointer) → Some None ≡ Some o → o ≡ None
      one o same = cc

      go : (q : Option ℕ) → run_place (start_of k) 0 k.size s ≡ q
          → (hit (bares ks) s ≡ Some o → IsHit s o)
          → first_hit (bare k) q (hit (bares ks) s) ≡ Some o → IsHit s o
      go None e later at = later at
      go (Some p) e later at =
          let h = All-head Gone k ks all in
          let range = sector_range (start_of k) 0 k.size s p e in
          let first = range.0 in
          let last = range.1 in
          let from = h.from in
          record {
            by_key = k;
            gone = h;
            within = All-head (LiesWithin 0 leaf.from leaf.end) k ks within;
            covers = (first, omega (arith, last, from));
            none = one o at;
          }

  pub are_whole : (bucket : ℕ → ℕ) → ((p : ℕ) → p < size → bucket p ≡ bucket 0) → (ks : List Key)
      → All Gone ks → AreWhole bucket (bares ks)
  are_whole bucket same [] all = tt
  are_whole bucket same (k ∷ ks) all =
      let h = All-head Gone k ks all in
      let few = h.few in (
        h.some,
        (λ s p at. same p (let high = (place_range (start_of k) 0 k.size s p at).1 in
            omega (arith, high, few))),
        are_whole bucket same ks (All-tail Gone k ks all),
      )

-- ---- what a leaf in hand says of the core's index

clean_kind : (k : Kind) → is_dirty k ≡ false → k ≡ Clean
clean_kind Clean off = refl
clean_kind Dirty off = absurd (cc)

pub is_backed : (leaf : Leaf) (s : ℕ) (o : Option Pointer) → ref_of o ≡ said_in leaf s
    → IsOnBacking leaf s → IsBacked o
is_backed leaf s None is on = tt
is_backed leaf s (Some r) is (inl none) =
    absurd (let same : ref_of (Some r) ≡ None = is ∙ none in cc)
is_backed leaf s (Some r) is (inr (ref, at, clean)) =
    clean_kind r.kind (dirty_of (ref_of (Some r)) ref (is ∙ at) ∙ clean)
  where
    dirty_in : Option Ref → Bool
    dirty_in None = false
    dirty_in (Some x) = x.dirty

    dirty_of : (a : Option Ref) (b : Ref) → a ≡ Some b → dirty_in a ≡ b.dirty
    dirty_of a b e = ap dirty_in e

-- ---- when they may come in

-- the sectors below a device's buckets, and its first bucket
low_bucket : (w : whole.Opening) (g : Geometry) → IsLayoutOf g w.layout → AreLaid w
    → 0 < g.journal → (bucket : ℕ → ℕ) → bucket ≡ w.flow.books.bucket
    → ((s t : ℕ) → s ≤ t → bucket s ≤ bucket t) → (p : ℕ) → p < g.bucket
    → bucket p ≡ bucket 0
low_bucket w g layout laid some bucket is order p low =
    let first = layout.first 0 in
    let buckets = layout.buckets in
    let sectors = layout.bucket_sectors in
    let within = g.journal_within in
    let from = g.bucket_from in
    let behind_super = g.first_behind_super in
    let there : bucket (w.layout.first 0) ≡ 0 =
    ap (λ (f : ℕ → ℕ). f (w.layout.first 0)) is
    ∙ laid.sector 0 (w.layout.first 0) (omega (arith, buckets, within, some)) (omega arith)
    (omega (arith, sectors, from)) in
    let high : p ≤ w.layout.first 0 = below g.bucket g.first_bucket p (w.layout.first 0)
    behind_super low first in
    let up = order p (w.layout.first 0) high in
    let down = order 0 p (omega arith) in
    omega (arith, up, down, there)
  where
    below : (b n p f : ℕ) → 0 < n → p < b → f ≡ b * (n + 0) → p ≤ f
    below b zero p f some low is = absurd (omega (arith, some))
    below b (suc n) p f some low is = grind (arith, common_steps)

pub drop_into : (number : ℕ) (keys : List Key)
    → ComesInto number (deed.Insert number keys form.Drop)
drop_into number keys = record {
  spine = refl;
  cache = refl;
  backing = refl;
  leaves = λ count part. refl;
}

module _ {C B : Type 0} (cache_facts : C → DiskFacts) (backing_facts : B → DiskFacts)
    (p : PartsView (CorePart C B)) (v : View cache_facts backing_facts) (h : Hand C B)
    (works : Works cache_facts backing_facts p v h)
    (cached_run : are_plain cache_facts backing_facts v.run.start ≡ false)
    (number slot : ℕ) (cached : Cached) (keys : List Key)
    (can : CanPutIn h (length p.run.start) slot number cached keys)
    (only : IsSlotOf can.leaves.cache.slots number slot) (good : IsGoodJournal can.journal)
    (may : MayDrop (note cache_facts backing_facts v).range cached.leaf
    can.buckets.buckets.size keys)
    (inside : (note cache_facts backing_facts v).range.first
    + (note cache_facts backing_facts v).range.count
    ≤ size_of cache_facts backing_facts v.run.start) where
  abbrev r : Range
  r = (note cache_facts backing_facts v).range

  abbrev size : ℕ
  size = can.buckets.buckets.size

  abbrev turned : List Key
  turned = reverse keys

  abbrev e : Deed
  e = deed.Insert number keys form.Drop

  pub gone : All (IsGone r cached.leaf size) turned
  gone = all_reversed (IsGone r cached.leaf size) keys may.gone

  pub within : AreWithin cached.leaf.from cached.leaf.end turned
  within = all_reversed (LiesWithin 0 cached.leaf.from cached.leaf.end) keys can.can.within

  -- in a state in which it may be committed
  module _ (x : World) (o : Origin) (origin : IsOrigin x o) (course : IsCourseOf o x.log)
      (leaves : AreLeaves (can.leaves.part - 6) can.leaves.cache x)
      (buckets : AreBuckets can.buckets x) (journal : IsJournal can.journal x) where
    abbrev w : whole.Opening
    w = o.opening.machine

    abbrev st : known.State
    st = (replay o x.log).machine

    abbrev version : ℕ → ℕ
    version = st.whole.flow.books.generations.version

    abbrev bucket : ℕ → ℕ
    bucket = w.flow.books.bucket

    same_bucket : (t : ℕ) → t < size → bucket t ≡ bucket 0
    same_bucket t low =
        let cut = (buckets o origin course).cut in
        let ring = (journal.stands o origin course).ring in
        let g = can.journal.ring.geometry in
        let next = good.ring.next.bucket in
        let sectors = cut.sectors in
        let long = ring.layout.bucket_sectors in
        low_bucket w g ring.layout origin.sound.laid (omega (arith, next)) bucket refl
        origin.order t (omega (arith, low, sectors, long))

    pub ks_are : book_keys bucket version turned ≡ bares turned
    ks_are = all_bare r cached.leaf size bucket version turned gone

    at_hit : (s : ℕ) (q : Option Pointer) → hit (bares turned) s ≡ Some q
        → IsHit r cached.leaf size s q
    at_hit = hit_bare r cached.leaf size turned gone within

    -- a sector that one of the keys has lies in the leaf and in the claim
    low_in : (s : ℕ) (q : Option Pointer) (hit_is : IsHit r cached.leaf size s q)
        → (cached.leaf.from ≤ s) × (s < cached.leaf.end)
    low_in s q x =
        let a = x.within.0 in
        let b = x.within.1 in
        let c = x.covers.0 in
        let d = x.covers.1 in (omega (arith, a, c), omega (arith, b, d))

    claim_in : (s : ℕ) (q : Option Pointer) (hit_is : IsHit r cached.leaf size s q)
        → (r.first ≤ s) × (s < r.first + r.count)
    claim_in s q x =
        let a = x.gone.from in
        let b = x.gone.to in
        let c = x.covers.0 in
        let d = x.covers.1 in (omega (arith, a, c), omega (arith, b, d))

    module _ (sectors : w.flow.books.size ≡ size_of cache_facts backing_facts v.run.start)
        (claim : range_of (claim_of st.whole.flow v.first) ≡ r)
        (running : st.whole.flow.halted ≡ false) where
      can_put : CanPut w.flow.books (books_of st).index version (books_of st).owner number
          (bares turned)
      can_put = record {
        whole = are_whole r cached.leaf size bucket same_bucket turned gone;
        inside = λ s q at. (let its = at_hit s q at in
            let high = (claim_in s q its).1 in
            let both = low_in s q its in (
              omega (arith, high, inside, sectors),
              slot_is cache_facts backing_facts p v h works number slot cached keys can only x o
                  origin course leaves s both.0 both.1,
            ));
        lawful = λ s q at. subst (λ n. IsLawful bucket version (books_of st).owner
            (latest (books_of st).index s) n) (sym (at_hit s q at).none) tt;
        named = λ t on. absurd (no_name t on);
      }
        where
          no_name : (t : ℕ) → names (bares turned) t ≡ true → ⊥
          no_name t on = let off = names_none (bares turned) (nowhere turned) t in
              let both : true ≡ false = sym on ∙ off in cc

      can_drop : CanInsert w.flow st.whole.flow v.first DropKeys (bares turned)
      can_drop = record {
        using = λ t on. absurd (no_name t on);
        hits = λ s q at. (let its = at_hit s q at in
            let both = claim_in s q its in
            let inside = low_in s q its in
            let low = both.0 in
            let high = both.1 in
            let first = ap (λ (z : Range). z.first) claim in
            let count = ap (λ (z : Range). z.count) claim in
            record {
              exclusive = ap (λ (z : Range). z.exclusive) claim ∙ may.alone;
              covers = (omega (arith, low, first), omega (arith, high, first, count));
              is = its.none;
              backed = is_backed cached.leaf s (index_of st.whole.flow s) (says cache_facts backing_facts p v h works number slot cached keys can only
                  x o origin course leaves s inside.0 inside.1)
                  (its.gone.backed s its.covers);
            });
        not_plain = origin.cached;
      }
        where
          no_name : (t : ℕ) → names (bares turned) t ≡ true → ⊥
          no_name t on = let off = names_none (bares turned) (nowhere turned) t in
              let both : true ≡ false = sym on ∙ off in cc

      allowed : IsEnabled w st v.first
          (Keyed (flow.Insert DropKeys number (book_keys bucket version turned)) number turned)
      allowed = record {
        data_allows = (
          record {
            heard = running;
            steps = (
              subst (λ (l : List index.Key). CanPut w.flow.books (books_of st).index version
                  (books_of st).owner number l) (sym ks_are) can_put,
              tt,
            );
            can = subst (λ (l : List index.Key). CanInsert w.flow st.whole.flow v.first DropKeys l)
                (sym ks_are) can_drop;
          },
          tt,
        );
        asks = (
          (
            refl,
            same_keys bucket version turned
                (plain r cached.leaf size bucket version turned gone),
          ),
          role_there cache_facts backing_facts p v h works number slot cached keys can
              only x o origin course leaves,
          all_in_leaf cache_facts backing_facts p v h works number slot cached keys can
              only x o origin course leaves turned within,
        );
      }

  pub may_drop : MayDo cache_facts backing_facts v e
  may_drop x y at told =
      let seen = at.from (is_plain_at cache_facts backing_facts v x at.since ∙ cached_run) in
      go x y seen.0 seen.1
      (at.stand can.leaves.part (part.Leaves can.leaves.cache)
      (has_leaves cache_facts backing_facts p v h works number slot cached keys can) (leaves_in cache_facts backing_facts p v h works number slot cached keys can)).1
      (at.stand 2 (part.Buckets can.buckets) (has_buckets cache_facts backing_facts p v h works number slot cached keys can)
      (refl, buckets_in_hand cache_facts backing_facts p v h works number slot cached keys can)).1
      (at.stand 3 (part.Journal can.journal) (has_journal cache_facts backing_facts p v h works number slot cached keys can)
      (refl, journal_in_hand cache_facts backing_facts p v h works number slot cached keys can)).1
      (size_at cache_facts backing_facts v e x y at) at.note.range (at.running refl)
    where
      go : (x y : World) (o : Origin) → IsSeenFrom o x y
          → AreLeaves (can.leaves.part - 6) can.leaves.cache x → AreBuckets can.buckets x
          → IsJournal can.journal x
          → y.opening.machine.flow.books.size ≡ size_of cache_facts backing_facts v.run.start
          → (note_of y v.first).range ≡ r → (data_of y).halted ≡ false
          → CanFollow y (by v.first e)
      go x y o seen leaves buckets journal = subst (λ (z : World).
          z.opening.machine.flow.books.size ≡ size_of cache_facts backing_facts v.run.start
          → (note_of z v.first).range ≡ r → (data_of z).halted ≡ false
          → CanFollow z (by v.first e)) (sym seen.is)
          (λ sectors claim running. record {
            enabled = record {
              seat = lt-ltb v.first 320 (low cache_facts backing_facts v works.seat);
              course = (
                allowed x o seen.origin seen.course leaves buckets journal sectors claim
                    running,
                tt,
              );
              fit = tt;
              its_line = tt;
              plain = λ plain. absurd (let both : true ≡ false = sym plain ∙ seen.origin.cached in
                  cc);
            };
            names = tt;
            number = tt;
          })
