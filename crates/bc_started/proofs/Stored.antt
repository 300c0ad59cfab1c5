-- What the entry of an opening leaves of the cache device.
use Rattle.std.proofs.Common.{◌≡◌, inl, inr, ℕ, List, [], ◌∷◌, Option, Some, None, sym, ap, ◌∙◌, subst}
use Rattle.std.specs.Prelude.{fold, map, if◌then◌else◌}
use Rattle.bc_cached.specs.bc_begun.Begin.{parts_of}
use Rattle.bc_disk.specs.Device.{Among, instead, quiet, settled, written}
use Rattle.bc_disk.specs.Disk.{Allows, BothTold, DiskFacts, IfTold, Overwritten}
use Rattle.bc_disk.specs.declared.geometry.Geometry.{Geometry}
use Rattle.bc_entry.specs.Put.{put_by}
use Rattle.bc_events.specs.declared.event.Deed.{Deed}
use Rattle.bc_events.specs.declared.event.Event.{Event}
use Rattle.bc_entry.specs.bc_hand.Seats.{by, world}
use Rattle.bc_journal.specs.Sealed.{sector_at}
use Rattle.bc_entry.specs.bc_machine.World.{IsCache, World, after, image_of, is_some_image, opening}
use Rattle.bc_entry.specs.bc_machine.declared.part.CorePart.{CorePart}
use Rattle.bc_model.specs.Sector.{Image, Value, at_run, unless}
use Rattle.bc_parts.specs.Seat.{Run}
use Rattle.bc_super.specs.Writing.{IsStored}
use Rattle.bc_started.specs.Stored.{HasEntry, LawStored}

one_of : (r : Option Value) (x v : Value) → Among v (instead r (x ∷ [])) → v ≡ unless r x
one_of None x v (inl is) = is
one_of None x v (inr none) = absurd none
one_of (Some w) x v (inl is) = is
one_of (Some w) x v (inr none) = absurd none

-- between two barriers, the values over what it held
stands : (at : ℕ) (values : List Value) (o n : Option Image) (left : Image → Type 0)
    → Allows (if is_some_image o then Some (settled (written at values
    (settled (quiet (image_of o))))) else None) n left
    → BothTold (Overwritten at values) o n
    × IfTold n (λ held. (image : Image) → left image → (s : ℕ) → image s ≡ held s)
stands at values None None left on = (tt, tt)
stands at values None (Some held) left on = absurd on
stands at values (Some image) None left on = absurd on
stands at values (Some image) (Some held) left on = (
  λ s. one_of (at_run at values s) (image s) (held s) (on.0 s),
  λ later may s. one_of (at_run at values s) (image s) (later s) (on.1 later may s)
      ∙ sym (one_of (at_run at values s) (image s) (held s) (on.0 s)),
)

module _ {C B : Type 0} (cache_facts : C → DiskFacts) (backing_facts : B → DiskFacts) where
  pub law_stored : LawStored {C = C} {B = B} cache_facts backing_facts
  law_stored g read ready parts seat cache h is =
      let bytes = h.put.values_are.0 in
      let at = sector_at h.next.sealed.geometry h.next.sealed.place in
      let first : World = opening cache_facts backing_facts (parts_of ready.tree h.beginning) in
      let events : List Event =
      map (by 0) (put_by h.unsealed h.next.sealed h.put.rest h.put.values) in
      let now : world cache_facts backing_facts seat ≡ fold after first events =
      ap (λ (r : Run (CorePart C B)).
      fold after (opening cache_facts backing_facts r.start) seat.seen) h.works.run
      ∙ ap (λ (ps : List (CorePart C B)).
      fold after (opening cache_facts backing_facts ps) seat.seen) h.start
      ∙ ap (λ (es : List Event). fold after first es) (h.seen
      ∙ ap (λ (ds : List Deed). map (by 0) ds) h.put.is) in
      let device = subst (λ (y : World). IsCache {C = C} {B = B} cache_facts backing_facts cache y)
      now is in
      let both = stands at h.put.values (cache_facts h.beginning.cache).holds
      (cache_facts cache).holds (cache_facts cache).may_leave device.stands.content in
      let made : HasEntry h.next.sealed.geometry h.next.sealed
      (cache_facts h.beginning.cache) (cache_facts cache) = record {
        bytes = bytes;
        are = h.put.values_are.1;
        stored = subst (λ (vs : List Value).
            IsStored at vs (cache_facts h.beginning.cache) (cache_facts cache))
            h.put.values_are.2 (record {
              sectors = device.stands.sectors;
              holds = both.0;
              leaves = both.1;
            });
        calls = device.stands.calls;
        faults = device.stands.faults;
      } in
      subst (λ (q : Geometry). HasEntry q h.next.sealed (cache_facts ready.cache)
      (cache_facts cache)) h.begun.entry.geometry
      (subst (λ (c : C). HasEntry h.next.sealed.geometry h.next.sealed (cache_facts c)
      (cache_facts cache)) h.made.cache made)
