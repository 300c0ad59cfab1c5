-- What a refill looks up before it does anything.
use Rattle.std.specs.Prelude.{◌≡◌, ◌≢◌, ◌⊎◌, ℕ, ◌+◌, ◌*◌, ◌^◌, ◌≤◌, [], length, is_some, true}
use Rattle.bc_alloc.specs.Reserves.{Reserves, list_of, wanted}
use Rattle.bc_alloc.specs.Victims.{IsCandidate}
use Rattle.bc_alloc.specs.declared.purpose.Purpose.TheVariants as list
use Rattle.bc_disk.specs.Chain.{sets_in_chain}
use Rattle.bc_disk.specs.declared.geometry.Geometry.{Geometry}
use Rattle.bc_journal.specs.Journal.{HasRoom, Journal, number_of}
use Rattle.bc_new_chain.specs.bc_machine.declared.part.BucketsPart.{BucketsPart}
use Rattle.bc_refill.specs.declared.answer.Refilled.{Refilled}
use Rattle.bc_refill.specs.declared.answer.Refilled.TheVariants as answer

-- the lists have room for so many buckets, all in all
abbrev pub most_of : Reserves → ℕ
most_of r = (list_of list.Priorities r).room + ((list_of list.Moving r).room
    + ((list_of list.Tree r).room + (list_of list.Plain r).room))

-- Each deed of a refill, at most: a bucket is taken for each set, and its set written or the bucket
-- let go; as many victims are raised as the lists have room for; the entry is sealed, a barrier, it
-- is written, a barrier, it is durable; and all is made ready.
abbrev pub deeds_of : Geometry → Reserves → ℕ
deeds_of g r = 2 * sets_in_chain g + (most_of r + 6)

-- No raised bucket waits, and none would be raised.
pub record IsNothing (p : BucketsPart) : Type 0 where
  pub none_waits : p.reserves.raised ≡ []
  pub none_raised : (wanted p.reserves ≡ 0)
      ⊎ ((k : ℕ) → IsCandidate p.reserves p.buckets k → ⊥)

-- why nothing is done
abbrev pub IsIdle : Refilled → BucketsPart → Journal → Type 0
IsIdle answer.Done p j = ⊥
IsIdle answer.Nothing p j = IsNothing p
IsIdle (answer.NoBucket none) p j = ⊥
IsIdle answer.NoNumber p j = 2 ^ 63 ≤ number_of j
IsIdle answer.NoPlace p j = HasRoom j 0 → ⊥
IsIdle answer.Cut p j = (p.renewing ≡ true) ⊎ (is_some j.sealed ≡ true)
IsIdle answer.Unsound p j = length p.buckets.records ≢ j.ring.geometry.nbuckets
