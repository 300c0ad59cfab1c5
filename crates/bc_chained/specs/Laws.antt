-- When the core allows it that an entry names a new chain, and what the buckets in hand stand for
-- then.
use Rattle.std.specs.Prelude.{◌≡◌, ℕ, ◌≤◌, false, List, map}
use Rattle.bc_books.specs.After as books
use Rattle.bc_books.specs.Books.{Books, SealChain}
use Rattle.bc_books.specs.Enabled.{CanSealChain}
use Rattle.bc_chained.specs.Chained.{AreForChain, AreSetsOf, AreShown, HasRenewing, IsSealedNext}
use Rattle.bc_chains.specs.Written.{IsDivided}
use Rattle.bc_disk.specs.declared.gens.BucketRecord.{BucketRecord}
use Rattle.bc_disk.specs.declared.geometry.Geometry.{Geometry}
use Rattle.bc_events.specs.Acts.{bytes_in}
use Rattle.bc_events.specs.Keys.{versions_by}
use Rattle.bc_facts.specs.Seen.{counted}
use Rattle.bc_known.specs.Asked.{AsksChain}
use Rattle.bc_leaves.specs.After.{has}
use Rattle.bc_chains.specs.bc_machine.Containers.{AreBucketsOf}
use Rattle.bc_chains.specs.bc_machine.World.{IsCourseOf, IsOrigin, Origin, World, replay}
use Rattle.bc_chains.specs.bc_machine.declared.part.BucketsPart.{BucketsPart}
use Rattle.bc_shares.specs.Shares.{books_of, buckets_in, counts_in}
use Rattle.bc_whole.specs.State.{NewChain}
use Rattle.bc_whole.specs.Together.{gen_from}

-- A seat has the buckets in hand, of which no newer chain is sealed than the one that was made ready
-- last; and it wrote the sets of one, with the generations of now, into buckets that it holds.
pub record HasChain (x : World) (o : Origin) (i : ℕ) (p : BucketsPart) (g : Geometry)
    (records : List BucketRecord) (new : List ℕ) : Type 0 where
  pub origin : IsOrigin x o
  pub course : IsCourseOf o x.log
  pub stand : AreBucketsOf o.opening.machine (books_of (replay o x.log).machine) p
  pub settled : p.renewing ≡ false
  pub divided : IsDivided g o (replay o x.log)
  pub before : o.opening.machine.before ≡ g.first_bucket
  pub each : AreForChain i new o (replay o x.log)
  pub shown : AreShown records p
  pub sets : AreSetsOf g records new x

-- the core's numbers of these buckets
abbrev pub numbers : Geometry → List ℕ → List ℕ
numbers g new = map (counted g) new

-- the versions that the sets in these buckets mean
abbrev pub versions_in : Origin → World → List ℕ → List ℕ
versions_in o x qs = versions_by o.opening.machine.before
    (books_of (replay o x.log).machine).generations.version 0 (bytes_in (replay o x.log).machine qs)

abbrev pub books_then : (x : World) (o : Origin) (i : ℕ) (qs : List ℕ) → Books
books_then x o i qs = books.after o.opening.machine.flow.books (books_of (replay o x.log).machine)
    (SealChain i (gen_from o.opening.machine.before (versions_in o x qs)) (has qs))

-- Then an entry may name it, if none is sealed already; and behind that the chain is the newest
-- sealed one, with the generations of now.
pub record AllowsChain (x : World) (o : Origin) (i : ℕ) (p : BucketsPart) (new qs : List ℕ) :
    Type 0 where
  pub can : (books_of (replay o x.log).machine).journal.waiting ≡ false
      → CanSealChain o.opening.machine.flow.books (books_of (replay o x.log).machine) i
      (gen_from o.opening.machine.before (versions_in o x qs)) (has qs)
  pub asks : AsksChain o.opening.machine (replay o x.log).machine
      (NewChain qs (versions_in o x qs))
  pub stands : (r : BucketsPart) → HasRenewing p r
      → AreBucketsOf o.opening.machine (books_then x o i qs) r
  pub sealed : IsSealedNext i new o.opening.machine (buckets_in (books_then x o i qs))
      (counts_in (books_then x o i qs))

abbrev pub LawChain : Type 0
LawChain = (x : World) (o : Origin) (i : ℕ) (p : BucketsPart) (g : Geometry)
    (records : List BucketRecord) (new : List ℕ) → HasChain x o i p g records new
    → AllowsChain x o i p new (numbers g new)

-- No bucket behind the device's last one has a generation: so a chain says all that there are.
abbrev pub LawBehind : Type 0
LawBehind = (x : World) (o : Origin) (g : Geometry) (q : ℕ) → IsOrigin x o → IsCourseOf o x.log
    → IsDivided g o (replay o x.log) → o.opening.machine.before ≡ g.first_bucket
    → o.opening.machine.layout.buckets ≤ q
    → (books_of (replay o x.log).machine).generations.version q ≡ 0
