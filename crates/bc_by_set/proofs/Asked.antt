-- That the set may be written which makes the change.
use Rattle.std.proofs.Common.{◌≡◌, ℕ, ◌∷◌, ◌+◌, ◌*◌, ◌≤◌, length, Option, None, Some, sym, ◌∙◌, subst, arith}
use Rattle.std.specs.Prelude.{Contains, IfSome}
use Rattle.bc_by_root.proofs.Sealing.{few_buckets, some_bucket}
use Rattle.bc_by_root.proofs.of_bc_install.Numbered.{law_change, tree_node}
use Rattle.bc_by_root.proofs.of_bc_install.of_bc_append.Lasting.{law_told}
use Rattle.bc_by_root.proofs.of_bc_install.of_bc_change.Lists.{get_in}
use Rattle.bc_by_root.proofs.of_bc_install.of_bc_hand.Knowing.{View}
use Rattle.bc_by_root.specs.bc_install.bc_append.Durable.{IsDurableTo}
use Rattle.bc_by_root.specs.bc_install.bc_change.Goes.{IsChangeBy}
use Rattle.bc_by_root.specs.bc_install.bc_hand.Seats.{Works, world}
use Rattle.bc_by_root.specs.bc_install.bc_hand.declared.hand.Hand.{Hand}
use Rattle.bc_by_root.specs.bc_install.bc_machine.Containers.{inner_slot}
use Rattle.bc_by_root.specs.bc_install.bc_machine.World.{FromEach, IsJournal, IsSpinePart}
use Rattle.bc_by_root.specs.bc_install.bc_machine.declared.part.CorePart.{CorePart}
use Rattle.bc_by_root.specs.bc_install.bc_machine.declared.part.SpinePart.{SpinePart}
use Rattle.bc_by_set.specs.Given.{CanSet, MayChangeBySet}
use Rattle.bc_by_set.specs.Prepared.{IsPreparedSet}
use Rattle.bc_by_set.specs.declared.prepare.PreparedSet.{PreparedSet}
use Rattle.bc_disk.specs.Disk.{DiskFacts}
use Rattle.bc_disk.specs.declared.geometry.Geometry.{Geometry}
use Rattle.bc_journal.specs.Journal.{Journal}
use Rattle.bc_node.specs.declared.pending.Entries.{Entries}
use Rattle.bc_by_root.specs.bc_install.bc_parent_set.Write.{IsGoingNow, MayWriteParent}
use Rattle.bc_parts.specs.Seat.{PartsView}
use Rattle.bc_spine.specs.Exchange.{going}
use Rattle.bc_spine.specs.declared.leaf.LeafRange.{LeafRange}
use Rattle.bc_tree.specs.declared.plan.Plan.{Plan}

map_some : (o : Option Entries) (P Q : Entries → Type 0) → ((e : Entries) → P e → Q e)
    → IfSome o P → IfSome o Q
map_some None P Q f h = tt
map_some (Some e) P Q f h = f e h

module _ {C B : Type 0} (cache_facts : C → DiskFacts) (backing_facts : B → DiskFacts)
    (p : PartsView (CorePart C B)) (v : View cache_facts backing_facts) (h : Hand C B)
    (works : Works cache_facts backing_facts p v h) (plan : Plan)
    (may : MayChangeBySet h (length p.run.start) v.first plan (world cache_facts backing_facts v))
    (j : Journal) (is : h.journal ≡ Some j) (r : PreparedSet)
    (ready : IsPreparedSet j.ring.geometry may.spine.spine plan may.taker r) where
  abbrev sp : SpinePart
  sp = may.spine

  abbrev g : Geometry
  g = j.ring.geometry

  pub spine_now : IsSpinePart sp (world cache_facts backing_facts v)
  spine_now = subst (λ (o : Option SpinePart). IfSome o
      (λ q. IsSpinePart q (world cache_facts backing_facts v))) may.is_spine works.stand.spine

  pub journal_now : IsJournal j (world cache_facts backing_facts v)
  journal_now = subst (λ (o : Option Journal). IfSome o
      (λ q. IsJournal q (world cache_facts backing_facts v))) is works.stand.journal

  pub change_at : FromEach (world cache_facts backing_facts v)
      (λ o st. IsChangeBy o.opening.machine sp.spine plan r.change)
  change_at o origin course = law_change (world cache_facts backing_facts v) o origin course g
      sp.spine plan r.change v.first (journal_now.stands o origin course).ring.layout
      (some_bucket g) (few_buckets g) (spine_now o origin course).spine
      (may.ready o origin course).holds ready.change

  pub slot_at : FromEach (world cache_facts backing_facts v)
      (λ o st. inner_slot o.opening.machine may.taker ≡ r.slot)
  slot_at o origin course =
      sym (tree_node (world cache_facts backing_facts v) o origin course g
      (journal_now.stands o origin course).ring.layout (some_bucket g) (few_buckets g) sp.spine plan
      (spine_now o origin course).spine may.taker
      (get_in (sp.spine.root ∷ sp.spine.below) may.at may.taker may.by.takes.there))
      ∙ sym ready.slot

  module _ (sectors : ℕ) (can : CanSet sectors h plan j) where
    goes_now : (range : LeafRange) → Contains (going sp.spine.leaves plan.leaves) range
        → IsGoingNow may.leaves (length p.run.start) may.keys (world cache_facts backing_facts v)
        range
    goes_now range m = let t = may.gone range m in record {
      slot = t.slot;
      cached = t.cached;
      there = t.there;
      number_is = t.number_is;
      held = t.held;
      its_part = t.its_part;
      keys_are = t.keys_are;
      durable = map_some t.cached.leaf.entries (λ e. e.last ≤ j.durable.seq)
          (λ e. FromEach (world cache_facts backing_facts v) (IsDurableTo e.last))
          (λ e few o origin course.
          let told = law_told (world cache_facts backing_facts v) j journal_now o origin course in
          omega (arith, told, few))
          (can.durable sp may.leaves may.is_spine may.are_leaves range m t.slot t.cached t.there
          t.number_is);
    }

    pub may_write : (c : C) → h.cache ≡ Some c → sectors ≡ (cache_facts c).sectors
        → (it : MayWriteParent h (length p.run.start) v.first plan r.slot r.change
        (world cache_facts backing_facts v))
        × ((d : C) × (h.cache ≡ Some d)
        × (it.taker.ptr.offset + it.spine.spine.geometry.node_sectors ≤ (cache_facts d).sectors))
        × (length r.room.items ≡ 512 * it.spine.spine.geometry.node_sectors)
    may_write c there same = (
      record {
        keys = may.keys;
        spine = sp;
        is_spine = may.is_spine;
        changing = may.changing;
        fits = may.by.fits;
        both = may.by.both;
        leaves = may.leaves;
        are_leaves = may.are_leaves;
        gone = goes_now;
        same = may.same;
        at = may.at;
        taker = may.taker;
        put = may.put;
        takes = may.by.takes;
        room = may.by.room;
        kind = may.by.kind;
        goes = ready.change.gone;
        change = change_at;
        ready = may.ready;
        slot_is = slot_at;
        divided = may.divided;
        points = may.points;
        named = may.named;
      },
      (
        c,
        there,
        subst (λ n. may.taker.ptr.offset + sp.spine.geometry.node_sectors ≤ n) same
            (can.within sp may.is_spine may.at may.taker may.put may.by.takes),
      ),
      ready.room,
    )
