-- The lists of buckets that are ready to be taken, as the machine has them.
use Rattle.std.specs.Prelude.{◌≡◌, ℕ, Bool, List, length, map, Option, Some, None, if◌then◌else◌}
use Rattle.bc_alloc.specs.Reserves.{Reserves, list_of}
use Rattle.bc_alloc.specs.declared.purpose.Purpose as lists
use Rattle.bc_alloc.specs.declared.purpose.Purpose.TheVariants as purposes
use Rattle.bc_books.specs.Shelves.{Purpose, Moving, Plain, Priorities, Tree}
use Rattle.bc_disk.specs.Chain.{sets_in_chain}
use Rattle.bc_disk.specs.declared.geometry.Geometry.{Geometry}
use Rattle.bc_facts.specs.Reads.{back}
use Rattle.bc_facts.specs.Seen.{counted}
use Rattle.bc_image.specs.Reading.{Reading}
use Rattle.bc_image.specs.Sound.{HasSpareBuckets}
use Rattle.bc_image.specs.Uses.{IsSpare}
use Rattle.bc_leaves.specs.After.{has}
use Rattle.bc_meta.specs.Chain.{Distinct}
use Rattle.bc_meta.specs.Facts.{In}
use Rattle.bc_recover.specs.Spare.{HasReserves}

abbrev pub is_on : lists.Purpose → Reserves → ℕ → Bool
is_on p reserves k = has (list_of p reserves).buckets k

-- the list on which a bucket stands
abbrev pub list_with : Reserves → ℕ → Option Purpose
list_with reserves k =
    if is_on purposes.Priorities reserves k then Some Priorities
    else (if is_on purposes.Moving reserves k then Some Moving
    else (if is_on purposes.Tree reserves k then Some Tree
    else (if is_on purposes.Plain reserves k then Some Plain else None)))

abbrev pub listed_at : Geometry → Reserves → ℕ → Option Purpose
listed_at g reserves q = list_with reserves (back g q)

-- those that are kept for a chain
abbrev pub kept_by : Geometry → Reserves → List ℕ
kept_by g reserves = map (counted g) (list_of purposes.Priorities reserves).buckets

-- What stands on a list is spare, and as many buckets as a chain takes are kept for the next one.
pub record AreListed (g : Geometry) (r : Reading) (list : ℕ → Option Purpose)
    (keeps : List ℕ) : Type 0 where
  pub listed : (q : ℕ) (p : Purpose) → list q ≡ Some p → IsSpare g r (back g q)
  pub kept : (q : ℕ) → In q keeps → list q ≡ Some Priorities
  pub distinct : Distinct keeps
  pub enough : length keeps ≡ sets_in_chain g

-- Lists that were filled with all spare buckets are such.
abbrev pub LawLists : Type 0
LawLists =
    (g : Geometry) (r : Reading) (reserves : Reserves) → HasReserves g r reserves
    → HasSpareBuckets g r → AreListed g r (listed_at g reserves) (kept_by g reserves)
