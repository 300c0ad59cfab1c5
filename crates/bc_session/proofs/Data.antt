-- The backing device behind deeds that don't call it.
use Rattle.std.proofs.Common.{◌≡◌, ◌⊎◌, inl, inr, ℕ, ◌+◌, ◌-◌, ◌<◌, ◌≤◌, Bool, false, List, [], ◌∷◌, Option, Some, None, refl, sym, ap, ◌∙◌, subst, arith, if◌then◌else◌}
use Rattle.std.specs.Prelude.{fold, map, nat_lt}
use Rattle.std.proofs.lemmas.Bool.{cases_lt, le-ltb, lt-ltb}
use Rattle.bc_started.specs.bc_begun.Begin.{Beginning, parts_of}
use Rattle.bc_disk.specs.Device.{Among, Content, next_count, quiet, settled}
use Rattle.bc_disk.specs.Disk.{Allows, DiskFacts, IsSettled}
use Rattle.bc_disk.specs.declared.disk.Device.{Device}
use Rattle.bc_disk.specs.declared.disk.Device.TheVariants.{Backing}
use Rattle.bc_events.specs.Columns.{Call, call_by}
use Rattle.bc_events.specs.declared.event.Deed.{Deed}
use Rattle.bc_events.specs.declared.event.Deed.TheVariants as deed
use Rattle.bc_events.specs.declared.event.Failure.TheVariants as failure
use Rattle.bc_started.specs.bc_hand.Seats.{by}
use Rattle.bc_started.specs.bc_machine.Frame.{OnBacking, stays_event}
use Rattle.bc_started.specs.bc_machine.World.{IsBacking, Side, World, after, behind, called, counted, data_of, is_call_of, opening}
use Rattle.bc_started.specs.bc_machine.declared.part.BackingPart.{BackingPart}
use Rattle.bc_model.specs.Sector.{Image, Value}
use Rattle.bc_tree.specs.Spine.{Spine}
use Rattle.bc_session.proofs.Contents.{IsOnly, one, only_stands}

-- ---- what lies before the data, and the data

abbrev IsAhead : Image → ℕ → ℕ → Value → Bool → Type 0
IsAhead image offset t v b =
    Among v (if b then image t ∷ [] else image (offset + (t - offset)) ∷ []) → v ≡ image t

all_of : (image : Image) (offset t : ℕ) (v : Value)
    → Among v (if nat_lt t offset then image t ∷ [] else image (offset + (t - offset)) ∷ [])
    → v ≡ image t
all_of image offset t v = go (cases_lt t offset)
  where
    go : (t < offset) ⊎ (offset ≤ t) → IsAhead image offset t v (nat_lt t offset)
    go (inl low) = subst (IsAhead image offset t v) (sym (lt-ltb t offset low)) (one v (image t))
    go (inr high) = subst (IsAhead image offset t v) (sym (le-ltb t offset high))
        (λ h. one v (image (offset + (t - offset))) h ∙ ap image (omega arith))

pub behind_only : (offset : ℕ)
    → IsOnly (λ image. behind offset image (quiet (λ s. image (offset + s))))
behind_only offset = record {
  reads = λ image t v. all_of image offset t v;
  leaves = λ image t v. all_of image offset t v;
}

-- ---- deeds

called_none : (device : Device) (o : Option Call) (x : Side) → is_call_of device o ≡ false
    → called device o x ≡ x
called_none device None x off = refl
called_none device (Some call) x off = ap (λ b. if b then counted call.failed x else x) off

abbrev pub AreOff : List Deed → Type 0
AreOff [] = Unit {0}
AreOff (d ∷ ds) = (is_call_of Backing (call_by d) ≡ false) × AreOff ds

-- what of a state these deeds leave alone
pub record SameData (x y : World) : Type 0 where
  pub content : (data_of y).backing ≡ (data_of x).backing
  pub side : y.backing ≡ x.backing
  pub offset : y.offset ≡ x.offset
  pub ahead : y.ahead ≡ x.ahead

pub off_run : (x : World) (ds : List Deed) → AreOff ds
    → SameData x (fold after x (map (by 0) ds))
off_run x [] off = record { content = refl; side = refl; offset = refl; ahead = refl }
off_run x (d ∷ ds) off = let rest = off_run (after x (by 0 d)) ds off.1 in record {
  content = rest.content ∙ stays_event OnBacking x (by 0 d) off.0;
  side = rest.side ∙ called_none Backing (call_by d) x.backing off.0;
  offset = rest.offset;
  ahead = rest.ahead;
}

module _ {C B : Type 0} (cache_facts : C → DiskFacts) (backing_facts : B → DiskFacts)
    (tree : Spine) (k : Beginning C B) where
  abbrev first : World
  first = opening cache_facts backing_facts (parts_of tree k)

  pub record HasRested (d : BackingPart B) : Type 0 where
    pub settled : IsSettled (backing_facts k.backing.disk) (backing_facts d.disk)
    pub calls : (backing_facts d.disk).calls ≡ (backing_facts k.backing.disk).calls
    pub faults : (backing_facts d.disk).faults ≡ (backing_facts k.backing.disk).faults

  -- what is held, as the run began
  module _ (holds : Option Image) (left : Image → Type 0) where
    abbrev Is : Side → ℕ → Image → Content → Type 0
    Is x offset ahead c = Allows (if x.told then Some (behind offset ahead c) else None) holds left

    at_first : (f : Content → Content) (y : World) → SameData first y
        → Is y.backing y.offset y.ahead (f (data_of y).backing)
        → Is first.backing first.offset first.ahead (f (data_of first).backing)
    at_first f y same on =
        subst (λ (c : Content). Is first.backing first.offset first.ahead (f c)) same.content
        (subst (λ (i : Image). Is first.backing first.offset i (f (data_of y).backing)) same.ahead
        (subst (λ n. Is first.backing n y.ahead (f (data_of y).backing)) same.offset
        (subst (λ (x : Side). Is x y.offset y.ahead (f (data_of y).backing)) same.side on)))

  settled_at : (d : BackingPart B) → (backing_facts d.disk).sectors ≡ first.backing.sectors
      → Allows (if first.backing.told
      then Some (behind first.offset first.ahead (data_of first).backing) else None)
      (backing_facts d.disk).holds (backing_facts d.disk).may_leave
      → IsSettled (backing_facts k.backing.disk) (backing_facts d.disk)
  settled_at d sectors on =
      let both = only_stands
      (λ image. behind k.backing.offset image (quiet (λ s. image (k.backing.offset + s))))
      (behind_only k.backing.offset) (backing_facts k.backing.disk).holds
      (backing_facts d.disk).holds (backing_facts d.disk).may_leave on in
      record { sectors = sectors; holds = both.0; leaves = both.1 }

  module _ (d : BackingPart B) (ds : List Deed) (off : AreOff ds) where
    abbrev y : World
    y = fold after first (map (by 0) ds)

    abbrev same : SameData first y
    same = off_run first ds off

    -- it is as it was
    pub rested : IsBacking {C = C} cache_facts backing_facts d y → HasRested d
    rested on =
        let here = (on y (inl refl)).stands in
        record {
          settled = settled_at d (here.sectors ∙ ap (λ (x : Side). x.sectors) same.side)
              (at_first (backing_facts d.disk).holds (backing_facts d.disk).may_leave (λ c. c) y
              same here.content);
          calls = here.calls ∙ ap (λ (x : Side). x.calls) same.side;
          faults = here.faults ∙ ap (λ (x : Side). x.faults) same.side;
        }

    -- behind a barrier more, and one that failed
    pub record HasCalled (faults : ℕ) : Type 0 where
      pub settled : IsSettled (backing_facts k.backing.disk) (backing_facts d.disk)
      pub calls : (backing_facts d.disk).calls
          ≡ next_count (backing_facts k.backing.disk).calls
      pub faults_are : (backing_facts d.disk).faults ≡ faults

    pub barrier_rested : IsBacking {C = C} cache_facts backing_facts d
        (after y (by 0 deed.BackingBarrier)) → HasCalled (backing_facts k.backing.disk).faults
    barrier_rested on =
        let here = (on (after y (by 0 deed.BackingBarrier)) (inl refl)).stands in
        record {
          settled = settled_at d (here.sectors ∙ ap (λ (x : Side). x.sectors) same.side)
              (at_first (backing_facts d.disk).holds (backing_facts d.disk).may_leave settled y
              same here.content);
          calls = here.calls ∙ ap (λ (x : Side). next_count x.calls) same.side;
          faults_are = here.faults ∙ ap (λ (x : Side). x.faults) same.side;
        }

    pub fault_rested : IsBacking {C = C} cache_facts backing_facts d
        (after y (by 0 (deed.DeviceFault (failure.Barrier Backing))))
        → HasCalled (next_count (backing_facts k.backing.disk).faults)
    fault_rested on =
        let here = (on (after y (by 0 (deed.DeviceFault (failure.Barrier Backing)))) (inl refl)).stands
        in
        record {
          settled = settled_at d (here.sectors ∙ ap (λ (x : Side). x.sectors) same.side)
              (at_first (backing_facts d.disk).holds (backing_facts d.disk).may_leave (λ c. c) y
              same here.content);
          calls = here.calls ∙ ap (λ (x : Side). next_count x.calls) same.side;
          faults_are = here.faults ∙ ap (λ (x : Side). next_count x.faults) same.side;
        }
