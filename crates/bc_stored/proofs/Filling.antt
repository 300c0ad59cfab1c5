-- Places that are filled one behind the other.
use Rattle.std.proofs.Common.{◌≡◌, ℕ, ◌+◌, ◌≤◌, ◌^◌, List, [], ◌∷◌, ◌++◌, drop, refl, sym, subst}
use Rattle.std.proofs.lemmas.List.{drop-drop}
use Rattle.bc_disk.specs.Disk.{DiskFacts}
use Rattle.bc_fill.specs.declared.fill.Placed.{Placed}
use Rattle.bc_insert.proofs.of_bc_hand.Knowing.{View}
use Rattle.bc_model.specs.Sector.{Value}
use Rattle.bc_insert.specs.bc_place.Named.{AreOnDevice, sectors_of}
use Rattle.bc_stored.specs.All.{HaveStored}
use Rattle.bc_stored.specs.Stored.{HasStoredAt}

pub device_then : (ps : List Placed) (p : Placed) → AreOnDevice ps → p.ptr.dev ≡ 0
    → p.ptr.offset + p.count ≤ 2 ^ 43 → AreOnDevice (ps ++ p ∷ [])
device_then [] p all device lies = ((device, lies), tt)
device_then (q ∷ qs) p all device lies = (all.0, device_then qs p all.1 device lies)

module _ {C B : Type 0} (cache_facts : C → DiskFacts) (backing_facts : B → DiskFacts) where
  pub stored_then : (before sectors : ℕ) (ps : List Placed) (p : Placed) (values : List Value)
      (u v w : View cache_facts backing_facts)
      → HaveStored cache_facts backing_facts before sectors ps values u v
      → HasStoredAt cache_facts backing_facts before sectors p (drop (sectors_of ps) values) v w
      → HaveStored cache_facts backing_facts before sectors (ps ++ p ∷ []) values u w
  stored_then before sectors [] p values u v w were it = (
    w,
    subst (λ x. HasStoredAt cache_facts backing_facts before sectors p values x w) were it,
    refl,
  )
  stored_then before sectors (q ∷ qs) p values u v w were it = (
    were.0,
    were.1,
    stored_then before sectors qs p (drop q.count values) were.0 v w were.2
        (subst (λ vs. HasStoredAt cache_facts backing_facts before sectors p vs v w)
        (sym (drop-drop (sectors_of qs) q.count values)) it),
  )
