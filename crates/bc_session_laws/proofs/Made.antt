-- What the opening's entry brings is well made.
use Rattle.std.proofs.Common.{◌≡◌, ℕ, suc, List, [], ◌∷◌, ◌++◌, Option, Some, None, refl, sym, ap, ◌∙◌, subst, arith}
use Rattle.std.specs.Prelude.{fold, map, reverse, Vec}
use Rattle.std.specs.declared.alloc.Global.{Global}
use Rattle.bc_disk.specs.Disk.{DiskFacts}
use Rattle.bc_disk.specs.declared.geometry.Geometry.{Geometry}
use Rattle.bc_enter.specs.Entry.{IsOpeningEntry}
use Rattle.bc_enter.specs.Next.{IsNext}
use Rattle.bc_session.proofs.of_bc_entered.Entry.{root_in}
use Rattle.bc_session.specs.bc_entry.Put.{IsPut, seal_by, write_by}
use Rattle.bc_session.specs.bc_entry.Seal.{begun_by}
use Rattle.bc_events.specs.declared.event.Deed.{Deed}
use Rattle.bc_events.specs.declared.event.Deed.TheVariants as deed
use Rattle.bc_events.specs.declared.event.Event.{Event}
use Rattle.bc_facts.specs.Seen as seen
use Rattle.bc_facts.specs.Seen.{counted, entry_rest, seen_entry, word_of}
use Rattle.bc_facts.proofs.Stood.{all_in}
use Rattle.bc_plain_laws.specs.bc_hand.Seats.{View, by}
use Rattle.bc_image.specs.Pair.{Pair}
use Rattle.bc_image.specs.Reading as pairs
use Rattle.bc_image.specs.Sound.{IsNodeKey}
use Rattle.bc_image.specs.Tree.{Node}
use Rattle.bc_image.proofs.Unique.{one_view}
use Rattle.bc_jset.specs.Entries.{FoundEntry}
use Rattle.bc_jset.specs.declared.entry.JEntry.{JEntry}
use Rattle.bc_jset.proofs.Entries.{newest_is_last}
use Rattle.bc_journal.specs.Journal.{Journal}
use Rattle.bc_key.specs.declared.key.Key.{Key}
use Rattle.bc_leaves.specs.Events.{same_root}
use Rattle.bc_session.specs.bc_loaded.declared.loading.Loaded.{Loaded}
use Rattle.bc_recoverable.specs.bc_machine.World.{Origin, World, after, opening}
use Rattle.bc_recoverable.specs.bc_machine.declared.part.CorePart.{CorePart}
use Rattle.bc_meta.specs.Entries.{Entry}
use Rattle.bc_meta.specs.Layout.{Layout}
use Rattle.bc_meta.specs.Records.{Records}
use Rattle.bc_model.specs.Sector.{Image}
use Rattle.bc_pair.specs.Found.{pair_of}
use Rattle.bc_parts.specs.Seat.{PartsView}
use Rattle.bc_recoverable.specs.bc_ranges.Laws.{frame_of}
use Rattle.bc_recoverable.specs.bc_ranges.Made.{Frame, IsGoodEntry}
use Rattle.bc_recover.specs.Read.{IsReadOf}
use Rattle.bc_recoverable.specs.Made.{AreMade, IsMadeAt}
use Rattle.bc_recoverable.proofs.Made.{law_brings_nothing}
use Rattle.bc_replay.specs.declared.held.Survey.{Survey}
use Rattle.bc_super.specs.declared.backing.BackingSuper.{BackingSuper}
use Rattle.bc_session_laws.specs.Events.{BringNothing, OnlyReads, left_by}
use Rattle.bc_session_laws.specs.Laws.{IsFrom, IsOpenedOn, LawMade}

-- two ends of a list are one entry
one_end : (xs ys : List FoundEntry) (a b : FoundEntry) → xs ++ a ∷ [] ≡ ys ++ b ∷ [] → a ≡ b
one_end [] [] a b same = cc
one_end [] (y ∷ []) a b same = absurd (cc)
one_end [] (y ∷ (z ∷ ys)) a b same = absurd (cc)
one_end (x ∷ []) [] a b same = absurd (cc)
one_end (x ∷ (z ∷ xs)) [] a b same = absurd (cc)
one_end (x ∷ xs) (y ∷ ys) a b same =
    one_end xs ys a b (tails x y (xs ++ a ∷ []) (ys ++ b ∷ []) same)
  where
    tails : (x y : FoundEntry) (xs ys : List FoundEntry) → x ∷ xs ≡ y ∷ ys → xs ≡ ys
    tails x y xs ys same = cc

all_quiet : (f : Frame) (o : Origin) (x : World) (es : List Event) → AreMade f o x.log
    → BringNothing es → AreMade f o (fold after x es).log
all_quiet f o x [] made none = made
all_quiet f o x (e ∷ es) made none =
    all_quiet f o (after x e) es (law_brings_nothing f o x.log e none.0, made) none.1

module _ {C B : Type 0} (cache_facts : C → DiskFacts) (backing_facts : B → DiskFacts) where
  module _ (s : Survey) (b : BackingSuper) (cache : C) (backing : B) (c d : Image)
      (v : pairs.View) (layout : Layout) (loaded : Loaded) (parts : PartsView (CorePart C B))
      (seat : View cache_facts backing_facts)
      (opened : IsOpenedOn cache_facts backing_facts s b cache backing c d v layout loaded parts
      seat) (next_seq : ℕ) (o : Origin)
      (from : IsFrom cache_facts backing_facts s b cache backing c d v layout loaded parts seat
      opened next_seq o) where
    abbrev p : Pair
    p = pair_of (cache_facts cache) (backing_facts backing) c d

    abbrev g : Geometry
    g = v.geometry

    abbrev f : Frame
    f = frame_of p v

    abbrev e : JEntry
    e = opened.over.started.next.sealed.entry

    -- ---- the newest entry that was read

    abbrev r : IsReadOf s p
    r = opened.hold.read

    view_is : r.view ≡ v
    view_is = one_view p r.view v r.is_view opened.hold.view

    entries_are : s.journal.entries ≡ v.reading.entries
    entries_are = sym r.entries ∙ ap (λ (w : pairs.View). w.reading.entries) view_is

    abbrev next : IsNext s.supers.geometry s.journal opened.over.started.next.sealed
    next = opened.over.started.begun.entry

    newest_is : next.newest ≡ v.reading.newest
    newest_is =
        let reading = opened.hold.view.reading in
        let last = newest_is_last g p.cache v.reading.entries reading.entries in
        one_end next.older last.0 next.newest reading.entries.newest
        (sym next.parts ∙ entries_are ∙ last.1) ∙ reading.newest

    follows : IsOpeningEntry s.journal.entries v.reading.newest e
    follows = subst (λ (n : FoundEntry). IsOpeningEntry s.journal.entries n e) newest_is next.entry

    before : o.parts.records.newest ≡ seen_entry g v.reading.newest.item
    before = ap (λ (z : Records). z.newest) from.opened.records
        ∙ sym from.opened.store.opens.means.newest_is

    -- ---- the entry

    entry_is : (rest : List ℕ) → rest ≡ entry_rest e
        → same_root o.parts.records e.last_seq o.parts.records.newest.prio rest ≡ seen_entry g e
    entry_is rest rest_is =
        let n = before in
        let here = ap (λ (z : Entry). z.number) n in
        let next = follows.number in
        let number : suc o.parts.records.newest.number ≡ e.seq = omega (arith, here, next) in
        let root = ap (λ (z : Entry). z.root) n ∙ ap (seen.bucket_of g) (sym follows.root) in
        let word = ap (λ (z : Entry). z.word) n ∙ ap word_of (sym follows.root) in
        let level = ap (λ (z : Entry). z.level) n ∙ sym follows.level in
        let prio = ap (λ (z : Entry). z.prio) n ∙ ap (counted g) (sym follows.prio) in
        let keys = ap (λ (z : Records). z.waiting) from.opened.records
        ∙ ap (λ (ks : List Key). reverse ks) (sym follows.none) in
        λ i. record {
          number = number i;
          last_seq = e.last_seq;
          root = root i;
          word = word i;
          level = level i;
          prio = prio i;
          keys = keys i;
          rest = rest_is i;
        }

    root : IsNodeKey g e.root
    root = let reading = opened.hold.view.reading in
        let n = root_in g p.cache v.reading.newest.item.level 0 v.reading.newest.item.root
        v.reading.nodes reading.nodes in
        subst (IsNodeKey g) (n.2 ∙ sym follows.root)
        (all_in (λ (n : Node). IsNodeKey g n.key) v.reading.nodes n.0
        opened.hold.sound.pointers.nodes n.1)

    good : (rest : List ℕ) → rest ≡ entry_rest e → IsGoodEntry g v.reading.newest.item.uuid_bucket
        (same_root o.parts.records e.last_seq o.parts.records.newest.prio rest)
    good rest rest_is = record {
      entry = e;
      seen = sym (entry_is rest rest_is);
      names = follows.uuid_bucket;
      root = root;
      end = ap (λ (k : Key). k.end) follows.root ∙ opened.hold.sound.pointers.root;
    }

    sealed : (begun : Option ℕ) (rest : Vec ℕ Global) → rest.items ≡ entry_rest e
        → IsMadeAt f o [] (by 0 (deed.Seal e.last_seq begun rest None None))
    sealed None rest rest_is = (good rest.items rest_is, tt)
    sealed (Some q) rest rest_is = (tt, (good rest.items rest_is, tt))

    -- ---- the run

    abbrev first : World
    first = opening cache_facts backing_facts parts.run.start

    put_made : (ds : List Deed) (j : Journal) → IsPut j opened.over.started.next.sealed ds
        → AreMade f o (fold after first (map (by 0) ds)).log
    put_made ds j put =
        let seal : Event = by 0 (seal_by j opened.over.started.next.sealed put.rest) in
        let barrier : Event = by 0 deed.CacheBarrier in
        let write : Event = by 0 (write_by opened.over.started.next.sealed put.values) in
        subst (λ (l : List Deed). AreMade f o (fold after first (map (by 0) l)).log) (sym put.is) (
          law_brings_nothing f o (barrier ∷ write ∷ barrier ∷ seal ∷ []) (by 0 deed.Sealed) refl,
          (
            law_brings_nothing f o (write ∷ barrier ∷ seal ∷ []) barrier refl,
            (
              law_brings_nothing f o (barrier ∷ seal ∷ []) write refl,
              (
                law_brings_nothing f o (seal ∷ []) barrier refl,
                (sealed (begun_by j) put.rest put.rest_is, tt),
              ),
            ),
          ),
        )

    fold_more : (x : World) (es fs : List Event)
        → fold after x (es ++ fs) ≡ fold after (fold after x es) fs
    fold_more x [] fs = refl
    fold_more x (y ∷ es) fs = fold_more (after x y) es fs

    pub all_made : (events : List Event) → OnlyReads cache_facts backing_facts seat events
        → AreMade f o (left_by cache_facts backing_facts parts events).log
    all_made events only =
        let h = opened.over.started in
        let base = subst (λ (l : List Event). AreMade f o (fold after first l).log) (sym h.seen)
        (put_made h.deeds h.unsealed h.put) in
        subst (λ (l : List Event). AreMade f o (fold after first l).log) (sym only.is)
        (subst (λ (z : World). AreMade f o z.log) (sym (fold_more first seat.seen only.more))
        (all_quiet f o (fold after first seat.seen) only.more base only.nothing))

  pub law_made : LawMade {C = C} {B = B} cache_facts backing_facts
  law_made s b cache backing c d v layout loaded parts seat opened next_seq o from events only =
      all_made s b cache backing c d v layout loaded parts seat opened next_seq o from events only
