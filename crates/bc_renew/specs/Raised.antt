-- A bucket that nothing needs is raised: what is in hand then. That it may be given up and is on no
-- list, the containers say (`IsCandidate`), and which ones a refill raises (`AreVictims`).
use Rattle.std.specs.Prelude.{◌≡◌, ℕ, List, ◌++◌}
use Rattle.bc_alloc.specs.Buckets.{all_changed}
use Rattle.bc_bucket.specs.Bucket.{raised}
use Rattle.bc_machine.specs.Containers.{SameRest}
use Rattle.bc_machine.specs.declared.part.BucketsPart.{BucketsPart}

-- These buckets were raised, in order: each has its next generation, and is behind those that were
-- raised before it.
pub record HasRaised (p : BucketsPart) (ns : List ℕ) (q : BucketsPart) : Type 0 where
  pub reserves : q.reserves ≡ record p.reserves { raised = p.reserves.raised ++ ns }
  pub buckets : q.buckets ≡ all_changed raised ns p.buckets
  pub fill : q.fill ≡ p.fill
  pub rest : SameRest p q
