-- What an opening's entry leaves of the cache device, however far it came.
use Rattle.std.proofs.Common.{◌≡◌, ◌⊎◌, inl, inr, ℕ, List, [], ◌∷◌, Option, Some, None, sym, ap, ◌∙◌, subst, arith}
use Rattle.std.specs.Prelude.{fold, map}
use Rattle.bc_started.specs.bc_begun.Begin.{Beginning, parts_of}
use Rattle.bc_disk.specs.Device.{Content, quiet}
use Rattle.bc_disk.specs.Disk.{Allows, BothTold, DiskFacts, IfTold, IsSettled, Overwritten, Torn}
use Rattle.bc_disk.specs.declared.geometry.Geometry.{Geometry}
use Rattle.bc_enter.specs.Begun.{IsUnsealed}
use Rattle.bc_enter.specs.Next.{IsNext}
use Rattle.bc_enter.specs.Written.{IsPartly}
use Rattle.bc_enter.proofs.Following.{sealed_next}
use Rattle.bc_open.specs.bc_entered.Enter.{KeepsThePair}
use Rattle.bc_open.specs.bc_entered.Laws.{IsSameImage}
use Rattle.bc_open.proofs.of_bc_entered.Safe.{moved}
use Rattle.bc_entries.specs.Journal.{Journal as Read}
use Rattle.bc_entries.specs.Lists.{IsFit}
use Rattle.bc_started.specs.bc_entry.Entry.{AreValuesOf}
use Rattle.bc_started.specs.bc_entry.Put.{HasFailedBehind, IsCut, IsCutAt, failed_barrier, lost_by, seal_by, write_by}
use Rattle.bc_events.specs.declared.event.Deed.{Deed}
use Rattle.bc_events.specs.declared.event.Deed.TheVariants as deed
use Rattle.bc_started.specs.bc_hand.Seats.{by}
use Rattle.bc_started.specs.bc_hand.declared.error.StepError.{StepError}
use Rattle.bc_started.specs.bc_hand.declared.error.StepError.TheVariants as step
use Rattle.bc_journal.specs.Journal.{Journal}
use Rattle.bc_journal.specs.Sealed.{AreBytesOf, Sealed, sector_at}
use Rattle.bc_started.specs.bc_machine.World.{IsCache, World, after, opening}
use Rattle.bc_model.specs.Sector.{Image, Value, values_of}
use Rattle.bc_open.specs.Open.{HasFailed}
use Rattle.bc_open.proofs.Left.{as_it_was}
use Rattle.bc_open.proofs.States.{everywhere, if_held, later_of, over_torn, told_of}
use Rattle.bc_super.specs.Writing.{IsStored}
use Rattle.bc_tree.specs.Spine.{Spine}
use Rattle.bc_session.specs.Open.{HasStayed}
use Rattle.bc_session.proofs.Contents.{IsPartial, lost_over, lost_partial, only_stands, over, quiet_only, torn_stands, written_over, written_partial}

told_map : (P Q : Image → Type 0) (o : Option Image) → ((image : Image) → P image → Q image)
    → IfTold o P → IfTold o Q
told_map P Q None f p = tt
told_map P Q (Some image) f p = f image p

module _ (g : Geometry) (read : Read) (old new : DiskFacts) where
  -- nothing was written
  pub stayed_keeps : IsSettled old new → KeepsThePair g read old new
  stayed_keeps settled p v held view sound geometry was tears image may =
      let l = later_of IsSameImage old.holds new.holds p.cache held.holds settled.holds in
      let same = told_of (λ held. (image : Image) → new.may_leave image → IsSameImage held image)
      new.holds l.image l.is settled.leaves image may in
      as_it_was p v view sound image (λ s. same s ∙ l.related s)

  -- the entry that comes next was, or some of it
  pub partly_keeps : (s : Sealed) (values : List Value) → IsNext g read s → AreValuesOf s values
      → IsPartly (sector_at s.geometry s.place) values old new → KeepsThePair g read old new
  partly_keeps s values next (bytes, are, is) partly =
      moved read s bytes old new g next
      (subst (λ (q : Geometry). AreBytesOf q s.entry bytes) next.geometry are)
      (subst (λ (q : Geometry). IsPartly (sector_at q s.place) (values_of bytes) old new)
      next.geometry (subst (λ (vs : List Value). IsPartly (sector_at s.geometry s.place) vs old new)
      is partly))

  -- and all of it
  pub stored_partly : (at : ℕ) (values : List Value) → IsStored at values old new
      → IsPartly at values old new
  stored_partly at values stored = record {
    sectors = stored.sectors;
    holds = both old.holds new.holds stored.holds;
    leaves = if_held (λ held. (image : Image) → new.may_leave image
        → old.may_leave image ⊎ Torn at values held image) old.holds (λ held is image may.
        (let l = later_of (Overwritten at values) old.holds new.holds held is stored.holds in
        let same = told_of (λ h. (i : Image) → new.may_leave i → IsSameImage h i) new.holds l.image
        l.is stored.leaves image may in
        inr (over_torn at values held image (subst (λ (x : Image). Overwritten at values held x)
        (sym (everywhere l.image image same)) l.related))));
  }
    where
      both : (x y : Option Image) → BothTold (Overwritten at values) x y
          → BothTold (Torn at values) x y
      both None None over = tt
      both None (Some n) over = absurd over
      both (Some o) None over = absurd over
      both (Some o) (Some n) over = over_torn at values o n over

module _ {C B : Type 0} (cache_facts : C → DiskFacts) (backing_facts : B → DiskFacts)
    (g : Geometry) (read : Read) (fit : IsFit g read.all read.entries) (tree : Spine)
    (k : Beginning C B) (u : Journal) (is : IsUnsealed g read u) (c : C) where
  abbrev first : World
  first = opening cache_facts backing_facts (parts_of tree k)

  abbrev old : DiskFacts
  old = cache_facts k.cache

  abbrev new : DiskFacts
  new = cache_facts c

  abbrev Leaves : List Deed → Type 0
  Leaves ds = IsCache {C = C} {B = B} cache_facts backing_facts c
      (fold after first (map (by 0) ds))

  -- the deeds were these
  with_deeds : (ds es : List Deed) → ds ≡ es → Leaves ds → Leaves es
  with_deeds ds es same on = subst (λ (l : List Deed). Leaves l) same on

  -- one call failed, and the pair is kept
  pub record IsCutOff : Type 0 where
    pub keeps : KeepsThePair g read old new
    pub failed : HasFailed 3 old new

  abbrev pub IsLeft : StepError → Type 0
  IsLeft (step.Fault device) = IsCutOff
  IsLeft (step.Halted device) = Unit {0}
  IsLeft step.Memory = HasStayed old new

  stays : new.sectors ≡ old.sectors → Allows (over old.holds quiet) new.holds new.may_leave
      → IsSettled old new
  stays sectors content =
      let both = only_stands quiet quiet_only old.holds new.holds new.may_leave content in
      record { sectors = sectors; holds = both.0; leaves = both.1 }

  partly : (at : ℕ) (values : List Value) (f : Image → Content) → IsPartial at values f
      → new.sectors ≡ old.sectors → Allows (over old.holds f) new.holds new.may_leave
      → IsPartly at values old new
  partly at values f some sectors content =
      let both = torn_stands at values f some old.holds new.holds new.may_leave content in
      record {
        sectors = sectors;
        holds = both.0;
        leaves = told_map (λ held. (image : Image) → new.may_leave image → Torn at values held image)
            (λ held. (image : Image) → new.may_leave image
            → old.may_leave image ⊎ Torn at values held image) old.holds
            (λ held torn image may. inr (torn image may)) both.1;
      }

  module _ (e : StepError) (ds : List Deed) (on : Leaves ds) (at : IsCutAt e u ds) where
    abbrev s : Sealed
    s = at.sealed

    abbrev seal : Deed
    seal = seal_by u s at.rest

    next : IsNext g read s
    next = (sealed_next g read fit u (record { journal = at.behind; sealed = at.sealed }) is
        at.entry).entry

    -- what came behind the seal
    came : (es : List Deed) → at.more ≡ es → Leaves (seal ∷ es)
    came es more = with_deeds ds (seal ∷ es) (at.is ∙ ap (λ (l : List Deed). seal ∷ l) more) on

    pub cut_off : HasFailedBehind s at.more → IsCutOff
    cut_off (inl barrier) =
        let here = (came (failed_barrier ∷ []) barrier).stands in
        record {
          keeps = stayed_keeps g read old new (stays here.sectors here.content);
          failed = record {
            calls = (1, omega arith, omega arith, here.calls);
            faults = here.faults;
          };
        }
    cut_off (inr (values, are, inl lost)) =
        let here = (came (deed.CacheBarrier ∷ lost_by s values ∷ []) lost).stands in
        let place = sector_at s.geometry s.place in
        record {
          keeps = partly_keeps g read old new s values next are
              (partly place values (lost_over place values) (lost_partial place values) here.sectors
              here.content);
          failed = record {
            calls = (2, omega arith, omega arith, here.calls);
            faults = here.faults;
          };
        }
    cut_off (inr (values, are, inr written)) =
        let here = (came (deed.CacheBarrier ∷ write_by s values ∷ failed_barrier ∷ []) written).stands
        in
        let place = sector_at s.geometry s.place in
        record {
          keeps = partly_keeps g read old new s values next are
              (partly place values (written_over place values) (written_partial place values)
              here.sectors here.content);
          failed = record {
            calls = (3, omega arith, omega arith, here.calls);
            faults = here.faults;
          };
        }

  none_done : (ds : List Deed) → Leaves ds → ds ≡ [] → HasStayed old new
  none_done ds on none =
      let here = (with_deeds ds [] none on).stands in
      record { settled = stays here.sectors here.content; faults = here.faults }

  pub cut_left : (e : StepError) (ds : List Deed) → IsCut e u ds → Leaves ds
      → IsLeft e
  cut_left (step.Fault device) ds (inl none) on = absurd none.0
  cut_left (step.Fault device) ds (inr at) on = cut_off (step.Fault device) ds on at at.cut.1
  cut_left (step.Halted device) ds cut on = tt
  cut_left step.Memory ds (inl none) on = none_done ds on none.1
  cut_left step.Memory ds (inr at) on = absurd at.cut
