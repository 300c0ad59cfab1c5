-- What was read and both devices are such that a run may be started with them.
use Rattle.std.proofs.Common.{◌≡◌, inl, ℕ, ◌+◌, ◌*◌, ◌≤◌, [], ◌∷◌, Option, Some, None, refl, sym, subst, arith}
use Rattle.std.specs.Prelude.{option_map}
use Rattle.bc_disk.specs.Device.{quiet}
use Rattle.bc_disk.specs.Disk.{Allows, BothTold, DiskFacts, IfTold, Overwritten, StandsFor}
use Rattle.bc_disk.specs.Stands.{settled_model}
use Rattle.bc_entries.specs.Journal.{HasJournal}
use Rattle.bc_loaded.specs.declared.loading.Loaded.{Loaded}
use Rattle.bc_started.specs.bc_machine.declared.part.BackingPart.{BackingPart}
use Rattle.bc_model.specs.Sector.{Image}
use Rattle.bc_open.specs.Left.{IsStill}
use Rattle.bc_open.proofs.States.{if_held, told_of}
use Rattle.bc_pair.specs.Found.{pair_of}
use Rattle.bc_recover.specs.Read.{HasParts, IsReadOf}
use Rattle.bc_replay.specs.Causes.{OfHeld}
use Rattle.bc_replay.specs.declared.held.Survey.{Survey}
use Rattle.bc_started.specs.Start.{CanStart}
use Rattle.bc_state.specs.State.{super_in}
use Rattle.bc_super.specs.Reading.{ReadsSuper}
use Rattle.bc_super.specs.Super.{IsUsable}
use Rattle.bc_super.specs.Writing.{IsBackingStored}
use Rattle.bc_super.specs.declared.backing.BackingSuper.{BackingSuper}
use Rattle.bc_super.specs.declared.state.BackingState.TheVariants as states
use Rattle.bc_session.specs.Open.{IsLoaded, IsPartOf, ready_of}
use Rattle.bc_session.proofs.Contents.{one}

-- ---- a device of which a crash leaves just what it holds

abbrev LeavesOnly : (Image → Type 0) → Image → Type 0
LeavesOnly left held = (image : Image) → left image → (s : ℕ) → image s ≡ held s

pub stands_still : (d : DiskFacts) → StandsFor d (settled_model d) → IsStill d
stands_still d h = go d.holds h.content
  where
    go : (o : Option Image) → Allows (option_map quiet o) o d.may_leave
        → IfTold o (LeavesOnly d.may_leave)
    go None on = tt
    go (Some held) on = λ image may s. one (image s) (held s) (on.1 image may s)

pub still_stands : (d : DiskFacts) → IsStill d → StandsFor d (settled_model d)
still_stands d h = record {
  sectors = refl;
  content = go d.holds h;
  calls = refl;
  faults = refl;
}
  where
    go : (o : Option Image) → IfTold o (LeavesOnly d.may_leave)
        → Allows (option_map quiet o) o d.may_leave
    go None on = tt
    go (Some held) on = (λ s. inl refl, λ image may s. inl (on image may s))

-- another state in its superblock leaves the device as large as it was
pub usable_still : (b : BackingSuper) (old new : DiskFacts) → ReadsSuper old b
    → IsBackingStored (super_in states.Dirty b) old new → IsUsable new.sectors b
usable_still b old new (bytes, there, super) stored =
    subst (λ n. IsUsable n b) (sym stored.2.sectors) super.usable

-- a device that tells what it holds told it before
told_before : (R : Image → Image → Type 0) (x y : Option Image) (other : Image) → y ≡ Some other
    → BothTold R x y → (image : Image) × (x ≡ Some image)
told_before R None y other is both = absurd (subst (λ (o : Option Image). BothTold R None o) is both)
told_before R (Some image) y other is both = (image, refl)

module _ {C B : Type 0} (cache_facts : C → DiskFacts) (backing_facts : B → DiskFacts) (s : Survey)
    (b : BackingSuper) (cache : C) (backing between : B)
    (read : OfHeld (IsReadOf s) (cache_facts cache) (backing_facts backing))
    (stored : IsBackingStored (super_in states.Dirty b) (backing_facts backing)
    (backing_facts between)) where
  abbrev HeldBy : Image → Type 0
  HeldBy image = HasJournal s.supers.geometry image s.journal

  -- the journal is in the pair that was read, whatever the backing device says by now
  held : IfTold (cache_facts cache).holds
      (λ image. IfTold (backing_facts between).holds (λ other. HeldBy image))
  held = if_held (λ image. IfTold (backing_facts between).holds (λ other. HeldBy image))
      (cache_facts cache).holds (λ image tells.
      if_held (λ other. HeldBy image) (backing_facts between).holds (λ other told.
      (let d = told_before (Overwritten 8 (stored.0 ∷ [])) (backing_facts backing).holds
      (backing_facts between).holds other told stored.2.holds in
      let h : IsReadOf s (pair_of (cache_facts cache) (backing_facts backing) image d.0) =
      told_of (λ i. IsReadOf s (pair_of (cache_facts cache) (backing_facts backing) image i))
      (backing_facts backing).holds d.0 d.1
      (told_of (λ c. IfTold (backing_facts backing).holds
      (λ i. IsReadOf s (pair_of (cache_facts cache) (backing_facts backing) c i)))
      (cache_facts cache).holds image tells read) in
      h.journal)))

  module _ (loaded : Loaded) (is : IsLoaded cache_facts s cache loaded) (part : BackingPart B)
      (of : IsPartOf backing_facts b between part) where
    pub can_start : HasParts s
        → s.supers.geometry.bucket * s.supers.geometry.nbuckets ≤ (cache_facts cache).sectors
        → StandsFor (cache_facts cache) (settled_model (cache_facts cache))
        → part.offset + part.size ≤ (backing_facts between).sectors
        → CanStart cache_facts backing_facts s.supers.geometry s.journal
        (ready_of loaded cache part)
    can_start parts room still inside = record {
      fit = parts.heads.journal.counts;
      places = parts.heads.journal.places;
      held = subst (λ (d : B). IfTold (cache_facts cache).holds
          (λ image. IfTold (backing_facts d).holds (λ other. HeldBy image))) (sym of.disk_is) held;
      journal = is.are.journal;
      leaves = record {
        count = is.count;
        some = is.some;
        pending = is.are.leaves.pending;
        keys = is.are.leaves.keys;
        was = is.are.was;
        are = is.are.leaves.are;
      };
      lists = is.are.fit;
      few = (let each = is.are.leaves.are.each in let few = is.few in omega (arith, each, few));
      division = room;
      cache = still;
      backing = subst (λ (d : B). StandsFor (backing_facts d) (settled_model (backing_facts d)))
          (sym of.disk_is) (still_stands (backing_facts between) stored.2.leaves);
      inside = subst (λ (d : B). part.offset + part.size ≤ (backing_facts d).sectors)
          (sym of.disk_is) inside;
    }
