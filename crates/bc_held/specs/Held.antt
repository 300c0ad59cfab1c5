-- A bucket that a seat holds for a chain, for what moves, or for a node: what the seat knows of it,
-- and which of its own deeds leave it alone. It is said from each opening of the core from which the
-- run so far is one.
use Rattle.std.specs.Prelude.{◌≡◌, ◌≢◌, ℕ, ◌+◌, ◌%◌, ◌<◌, Bool, true, false, not, ◌==◌, Option, Some, None}
use Rattle.bc_books.specs.Enabled.{IsFresh}
use Rattle.bc_books.specs.Shelves.{Held}
use Rattle.bc_events.specs.Acts.{purpose_of}
use Rattle.bc_events.specs.Run.{State}
use Rattle.bc_events.specs.declared.event.Deed.{Deed}
use Rattle.bc_events.specs.declared.event.Deed.TheVariants as deed
use Rattle.bc_events.specs.declared.event.NewChain.{NewChain}
use Rattle.bc_events.specs.declared.event.UnpinKind.TheVariants as unpin
use Rattle.bc_held.specs.declared.held.HeldBucket.{HeldBucket}
use Rattle.bc_leaves.specs.After.{has}
use Rattle.bc_leaves.specs.Enabled.{IsVacant}
use Rattle.bc_place.specs.bc_machine.World.{Origin}
use Rattle.bc_shares.specs.Shares.{books_of}

-- the core's number of the bucket that begins there
abbrev pub number_in : HeldBucket → Origin → ℕ
number_in b o = o.opening.machine.flow.books.bucket b.to.offset

-- where it lies, to the core
pub record LiesAt (b : HeldBucket) (o : Origin) : Type 0 where
  pub number : b.bucket ≡ o.opening.machine.before + number_in b o
  pub inside : number_in b o < o.opening.machine.layout.buckets
  pub begins : o.opening.machine.layout.first (number_in b o) ≡ b.to.offset
  pub device : b.to.dev ≡ 0

-- The bucket is the seat's, for its purpose. No place of it was pinned since it was raised, no chain
-- has it, and its pointer has the generation that it has, since it isn't raised meanwhile.
pub record IsHeldFor (i : ℕ) (b : HeldBucket) (o : Origin) (st : State) : Type 0 where
  pub lies : LiesAt b o
  pub held : (books_of st.machine).shelf (number_in b o) ≡ Held i (purpose_of b.purpose)
  pub fresh : IsFresh o.opening.machine.flow.books.bucket (books_of st.machine).owner
      (number_in b o)
  pub unnamed : (books_of st.machine).chains.of (number_in b o) ≡ None
  pub generation : b.to.generation ≡ (books_of st.machine).generations.version (number_in b o) % 256

-- no node lies in it
abbrev pub IsVacantIn : HeldBucket → Origin → State → Type 0
IsVacantIn b o st = IsVacant st.machine.whole.parts (number_in b o)

-- it is another bucket
abbrev pub AreOther : HeldBucket → HeldBucket → Origin → State → Type 0
AreOther a b o st = number_in a o ≢ number_in b o

-- ---- deeds

-- the entry's chain isn't of this bucket
abbrev pub chain_leaves : ℕ → Option NewChain → Bool
chain_leaves q None = true
chain_leaves q (Some chain) = not (has chain.buckets.items q)

-- The seat that does it pins no places, since they may be in the bucket, doesn't let it go, puts it
-- into no chain, and makes no node of it.
abbrev pub leaves_held : ℕ → Deed → Bool
leaves_held q (deed.Pin at count full) = false
leaves_held q (deed.Unpin (unpin.Hold bucket back)) = not (bucket == q)
leaves_held q (deed.Seal last_seq bucket rest new_root chain) = chain_leaves q chain
leaves_held q (deed.Install change come gone) = not (has come.items q)
leaves_held q d = true

-- so it is with this bucket
abbrev pub Leaves : HeldBucket → Deed → Origin → State → Type 0
Leaves b d o st = leaves_held (number_in b o) d ≡ true
