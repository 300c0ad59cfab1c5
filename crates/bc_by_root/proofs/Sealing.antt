-- That the entry may be sealed which makes the change.
use Rattle.std.proofs.Common.{◌≡◌, ℕ, ◌<◌, ◌^◌, length, Option, Some, sym, ap, ◌∙◌, subst, arith}
use Rattle.std.specs.Prelude.{IfSome}
use Rattle.bc_disk.specs.Disk.{DiskFacts}
use Rattle.bc_disk.specs.declared.geometry.Geometry.{Geometry}
use Rattle.bc_install.proofs.Numbered.{law_change}
use Rattle.bc_install.proofs.of_bc_entry.CacheDevice.{cache_sectors}
use Rattle.bc_install.proofs.of_bc_hand.Knowing.{View}
use Rattle.bc_install.specs.bc_change.Goes.{IsChangeBy}
use Rattle.bc_install.specs.bc_change.Root.{HasInHand, MaySealRoot}
use Rattle.bc_install.specs.bc_hand.Seats.{Works, world}
use Rattle.bc_install.specs.bc_hand.declared.hand.Hand.{Hand}
use Rattle.bc_install.specs.bc_machine.World.{FromEach, IsCache, IsJournal, IsSpinePart, cache_among}
use Rattle.bc_install.specs.bc_machine.declared.part.CorePart.{CorePart}
use Rattle.bc_install.specs.bc_machine.declared.part.SpinePart.{SpinePart}
use Rattle.bc_journal.specs.Journal.{Journal}
use Rattle.bc_jset.specs.EntryBytes.{IsLevel}
use Rattle.bc_parts.specs.Seat.{PartsView, Run}
use Rattle.bc_tree.specs.declared.plan.Plan.{Plan}
use Rattle.bc_by_root.proofs.Named.{names_next}
use Rattle.bc_by_root.specs.Given.{CanPut, MayChange}
use Rattle.bc_by_root.specs.Prepared.{IsPrepared}
use Rattle.bc_by_root.specs.declared.prepare.Prepared.{Prepared}

pub some_bucket : (g : Geometry) → 0 < g.bucket
some_bucket g = let from = g.bucket_from in omega (arith, from)

pub few_buckets : (g : Geometry) → g.nbuckets < 2 ^ 32
few_buckets g = let to = g.buckets_to in omega (arith, to)

-- a device in hand has as many sectors as it had
pub sectors_in : {C B : Type 0} (cache_facts : C → DiskFacts) (backing_facts : B → DiskFacts)
    (p : PartsView (CorePart C B)) (v : View cache_facts backing_facts) (h : Hand C B) (c : C)
    → Works cache_facts backing_facts p v h → h.cache ≡ Some c
    → (cache_facts c).sectors ≡ (cache_among cache_facts backing_facts p.run.start).sectors
sectors_in {C} {B} cache_facts backing_facts p v h c works is =
    cache_sectors cache_facts backing_facts v c
    (subst (λ (o : Option C). IfSome o (λ d. IsCache {B = B} cache_facts backing_facts d
    (world cache_facts backing_facts v))) is works.stand.cache)
    ∙ ap (λ (r : Run (CorePart C B)). (cache_among cache_facts backing_facts r.start).sectors)
    works.run

module _ {C B : Type 0} (cache_facts : C → DiskFacts) (backing_facts : B → DiskFacts)
    (p : PartsView (CorePart C B)) (v : View cache_facts backing_facts) (h : Hand C B)
    (works : Works cache_facts backing_facts p v h) (plan : Plan)
    (may : MayChange h (length p.run.start) v.first plan (world cache_facts backing_facts v))
    (j : Journal) (is : h.journal ≡ Some j) (r : Prepared)
    (ready : IsPrepared j.ring.geometry may.spine.spine plan may.root j.heads r) where
  abbrev sp : SpinePart
  sp = may.spine

  abbrev g : Geometry
  g = j.ring.geometry

  pub spine_now : IsSpinePart sp (world cache_facts backing_facts v)
  spine_now = subst (λ (o : Option SpinePart). IfSome o
      (λ q. IsSpinePart q (world cache_facts backing_facts v))) may.is_spine works.stand.spine

  pub journal_now : IsJournal j (world cache_facts backing_facts v)
  journal_now = subst (λ (o : Option Journal). IfSome o
      (λ q. IsJournal q (world cache_facts backing_facts v))) is works.stand.journal

  pub change_now : FromEach (world cache_facts backing_facts v)
      (λ o st. IsChangeBy o.opening.machine sp.spine plan r.change)
  change_now o origin course = law_change (world cache_facts backing_facts v) o origin course g
      sp.spine plan r.change v.first (journal_now.stands o origin course).ring.layout
      (some_bucket g) (few_buckets g) (spine_now o origin course).spine
      (may.ready o origin course).holds ready.change

  module _ (sectors : ℕ) (can : CanPut sectors h plan j) where
    in_hand : HasInHand h (length p.run.start) plan may.keys
    in_hand = record {
      spine = sp;
      is_spine = may.is_spine;
      changing = may.changing;
      fits = may.up.fits;
      both = may.up.both;
      leaves = may.leaves;
      are_leaves = may.are_leaves;
      journal = j;
      is_journal = is;
      gone = λ range m. let t = may.gone range m in record {
        slot = t.slot;
        cached = t.cached;
        there = t.there;
        number_is = t.number_is;
        held = t.held;
        its_part = t.its_part;
        keys_are = t.keys_are;
        durable = can.durable sp may.leaves may.is_spine may.are_leaves range m t.slot t.cached
            t.there t.number_is;
      };
      same = may.same;
    }

    pub may_seal : MaySealRoot h (length p.run.start) v.first plan r.heads r.slot r.change
        (world cache_facts backing_facts v)
    unfolding in_hand
    may_seal = record {
      keys = may.keys;
      can = in_hand;
      root = may.root;
      brings = may.up.brings;
      seals = can.seals;
      prio = ready.heads.prio;
      names = λ o origin course. names_next (world cache_facts backing_facts v) o origin course g
          (journal_now.stands o origin course).ring.layout (some_bucket g) (few_buckets g) v.first
          sp.spine plan may.root may.up.brings (may.ready o origin course).holds j.heads r.heads
          r.slot ready.heads ready.slot;
      gone = ready.change.gone;
      change = change_now;
      ready = may.ready;
    }

  pub level_is : IsLevel r.heads.level
  level_is = subst IsLevel (sym ready.heads.level) may.level
