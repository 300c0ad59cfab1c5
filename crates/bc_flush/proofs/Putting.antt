-- What is durable behind an entry.
use Rattle.std.proofs.Common.{◌≡◌, ℕ, List, [], ◌∷◌, sym, ap, ◌∙◌, subst}
use Rattle.std.specs.Prelude.{Vec, fold, map}
use Rattle.std.specs.declared.alloc.Global.{Global}
use Rattle.bc_disk.specs.Disk.{DiskFacts}
use Rattle.bc_entry.specs.Put.{put_by, seal_by, write_by}
use Rattle.bc_entry.specs.Seal.{begun_by}
use Rattle.bc_events.specs.declared.event.Deed.{Deed}
use Rattle.bc_events.specs.declared.event.Deed.TheVariants as deed
use Rattle.bc_events.specs.declared.event.Event.{Event}
use Rattle.bc_entry.specs.bc_hand.Seats.{by, world}
use Rattle.bc_journal.specs.Journal.{Journal}
use Rattle.bc_journal.specs.Sealed.{Sealed}
use Rattle.bc_entry.specs.bc_machine.World.{FromEach, Origin, World, after}
use Rattle.bc_model.specs.Sector.{Value}
use Rattle.bc_flush.specs.Durable.{AreDurable, AreSealed, HaveComeIn}
use Rattle.bc_flush.specs.Laws.{LawLasts, LawPut}
use Rattle.bc_flush.proofs.Counting.{behind_end, behind_seal, come_lasts, durable_lasts, sealed_lasts}
use Rattle.bc_flush.proofs.Walking.{Reached, behind, lasts_fold, own, through}

pub law_lasts : LawLasts
law_lasts = record {
  come = λ x e n. come_lasts n x e;
  durable = λ x e n. durable_lasts n x e;
}

module _ (n : Origin → ℕ) (i : ℕ) where
  -- what comes behind the seal
  abbrev Behind : Sealed → List Value → List Deed
  Behind s values =
      deed.CacheBarrier ∷ write_by s values ∷ deed.CacheBarrier ∷ deed.Sealed ∷ []

  to_seal : (x : World) (es : List Event) (j : Journal) (s : Sealed) (rest : Vec ℕ Global)
      (values : List Value) → own i es ≡ map (by i) (put_by j s rest values)
      → FromEach x (HaveComeIn n) → Reached i (AreSealed n) (fold after x es) (Behind s values)
  to_seal x es j s rest values = through i (HaveComeIn n) (AreSealed n) (come_lasts n)
      (seal_by j s rest) (λ y. behind_seal n y i s.entry.last_seq (begun_by j) rest) x es []
      (Behind s values)

  to_end : (y : World) (s : Sealed) (values : List Value)
      → Reached i (AreSealed n) y (Behind s values) → Reached i (AreDurable n) y []
  to_end y s values at =
      let rest = through i (AreSealed n) (AreDurable n) (sealed_lasts n) deed.Sealed
      (λ z. behind_end n z i) at.state at.events
      (deed.CacheBarrier ∷ write_by s values ∷ deed.CacheBarrier ∷ []) [] at.own_is at.knows in
      record {
        state = rest.state;
        events = rest.events;
        end_is = at.end_is ∙ rest.end_is;
        own_is = rest.own_is;
        knows = rest.knows;
      }

  all_durable : (y : World) → Reached i (AreDurable n) y [] → FromEach y (AreDurable n)
  all_durable y at = subst (λ z. FromEach z (AreDurable n)) (sym at.end_is)
      (lasts_fold (AreDurable n) (durable_lasts n) at.state at.events at.knows)

  put_durable : (x : World) (es : List Event) (j : Journal) (s : Sealed) (rest : Vec ℕ Global)
      (values : List Value) → own i es ≡ map (by i) (put_by j s rest values)
      → FromEach x (HaveComeIn n) → FromEach (fold after x es) (AreDurable n)
  put_durable x es j s rest values is h = all_durable (fold after x es)
      (to_end (fold after x es) s values (to_seal x es j s rest values is h))

module _ {C B : Type 0} (cache_facts : C → DiskFacts) (backing_facts : B → DiskFacts) where
  pub law_put : LawPut {C = C} {B = B} cache_facts backing_facts
  law_put j v w n put h =
      let way = behind cache_facts backing_facts put.deeds v w put.done in
      subst (λ x. FromEach x (AreDurable n)) (sym way.state)
      (put_durable n v.first (world cache_facts backing_facts v) way.more j put.sealed
      put.put.rest put.put.values
      (way.own_is ∙ ap (λ (ds : List Deed). map (by v.first) ds) put.put.is) h)
