-- A chain that is written and then named.
use Rattle.std.proofs.Common.{◌≡◌, inl, inr, ℕ, List, length, Some, refl, sym, ap, ◌∙◌, subst}
use Rattle.std.specs.Prelude.{Err, IfErr, Ok, OnOk, Result, Vec}
use Rattle.std.specs.declared.alloc.Global.{Global}
use Rattle.bc_disk.specs.Disk.{DiskFacts}
use Rattle.bc_disk.specs.declared.gens.BucketRecord.{BucketRecord}
use Rattle.bc_disk.specs.declared.geometry.Geometry.{Geometry}
use Rattle.bc_journal.specs.Journal.{Journal}
use Rattle.bc_new_chain.proofs.InHand.{same_some}
use Rattle.bc_new_chain.proofs.of_bc_chain.of_bc_hand.Knowing.{View}
use Rattle.bc_new_chain.specs.Seal.{MaySealChain}
use Rattle.bc_new_chain.specs.bc_chained.Chained.{AreForChain, AreSetsOf}
use Rattle.bc_new_chain.specs.bc_hand.Seats.{world}
use Rattle.bc_new_chain.specs.bc_hand.declared.error.StepError.{StepError}
use Rattle.bc_new_chain.specs.bc_hand.declared.hand.Hand.{Hand}
use Rattle.bc_new_chain.specs.bc_machine.World.{FromEach}
use Rattle.bc_new_chain.specs.bc_machine.declared.part.BucketsPart.{BucketsPart}
use Rattle.bc_refill.proofs.Renewing.{some_of}
use Rattle.bc_refill.proofs.Writing.{WithCache}
use Rattle.bc_refill.specs.Hands.{HasAll}
use Rattle.bc_refill.specs.Named.{CanName, HasFinished, HasNamed, HasNotFinished, HasNotNamed, records_of}
use Rattle.bc_refill.specs.Sets.{HaveNotWritten, HaveWritten}

module _ {C B : Type 0} (cache_facts : C → DiskFacts) (backing_facts : B → DiskFacts) where
  pub may_seal : (g : Geometry) (ns new : List ℕ) (rs : List BucketRecord) (p : BucketsPart)
      (j : Journal) (h k : Hand C B) (v w : View cache_facts backing_facts)
      → HasAll g h → HasAll g k → WithCache h k → h.buckets ≡ Some p → h.journal ≡ Some j
      → CanName g p j → rs ≡ records_of p → ns ≡ new → w.first ≡ v.first
      → FromEach (world cache_facts backing_facts w) (AreForChain v.first ns)
      → AreSetsOf g rs ns (world cache_facts backing_facts w)
      → MaySealChain k w.first new (world cache_facts backing_facts w)
  may_seal g ns new rs p j h k v w before all rest buckets journal can records same first each sets =
      let cache = some_of k.cache all.cache in
      let own = same_some h.journal before.journal j before.is_journal journal in record {
        buckets = p;
        are_buckets = ap (λ (x : Hand C B). x.buckets) rest ∙ buckets;
        settled = can.settled;
        journal = j;
        is_journal = ap (λ (x : Hand C B). x.journal) rest ∙ journal;
        seals = can.seals;
        cache = cache.0;
        is_cache = cache.1;
        records = records_of p;
        ready = record {
          shown = refl;
          each = subst (λ n. FromEach (world cache_facts backing_facts w) (AreForChain n new))
              (sym first)
              (subst (λ (l : List ℕ). FromEach (world cache_facts backing_facts w)
              (AreForChain v.first l)) same each);
          sets = subst (λ (y : Geometry). AreSetsOf y (records_of p) new
              (world cache_facts backing_facts w))
              (sym before.divided ∙ ap (λ (x : Journal). x.ring.geometry) own)
              (subst (λ (l : List ℕ). AreSetsOf g (records_of p) l
              (world cache_facts backing_facts w)) same
              (subst (λ (r : List BucketRecord). AreSetsOf g r ns
              (world cache_facts backing_facts w)) records sets));
        };
      }

  pub named : (g : Geometry) (ns : List ℕ) (new : Vec ℕ Global) (rs : List BucketRecord)
      (h k l : Hand C B) (v u w : View cache_facts backing_facts) → ns ≡ new.items
      → ((p : BucketsPart) → h.buckets ≡ Some p → rs ≡ records_of p) → WithCache h k
      → HaveWritten cache_facts backing_facts g rs ns 0 (length ns) v u
      → (r : Result (Unit {0}) StepError)
      → OnOk r (HasFinished cache_facts backing_facts g new k l u w)
      → OnOk r ((p : BucketsPart) → h.buckets ≡ Some p
      → HasNamed cache_facts backing_facts g new p h l v w)
  named g ns new rs h k l v u w same records rest written (Ok z) done = λ p is. record {
    written_at = u;
    written = subst (λ (y : List BucketRecord). HaveWritten cache_facts backing_facts g y new.items
        0 (length new.items) v u) (records p is)
        (subst (λ (x : List ℕ). HaveWritten cache_facts backing_facts g rs x 0 (length x) v u) same
        written);
    then_ = k;
    between = rest;
    finished = done;
  }
  named g ns new rs h k l v u w same records rest written (Err e) done = tt

  pub not_named : (g : Geometry) (ns new : List ℕ) (rs : List BucketRecord)
      (h k l : Hand C B) (v u w : View cache_facts backing_facts) → ns ≡ new
      → ((p : BucketsPart) → h.buckets ≡ Some p → rs ≡ records_of p) → WithCache h k
      → HaveWritten cache_facts backing_facts g rs ns 0 (length ns) v u
      → (r : Result (Unit {0}) StepError)
      → IfErr r (λ e. HasNotFinished cache_facts backing_facts e new k l u w)
      → IfErr r (λ e. (p : BucketsPart) → h.buckets ≡ Some p
      → HasNotNamed cache_facts backing_facts e g new p h l v w)
  not_named g ns new rs h k l v u w same records rest written (Ok z) not = tt
  not_named g ns new rs h k l v u w same records rest written (Err e) not = λ p is. inr (record {
    written_at = u;
    written = subst (λ (y : List BucketRecord). HaveWritten cache_facts backing_facts g y new
        0 (length new) v u) (records p is)
        (subst (λ (x : List ℕ). HaveWritten cache_facts backing_facts g rs x 0 (length x) v u) same
        written);
    then_ = k;
    between = rest;
    not_finished = not;
  })

  pub not_written : (e : StepError) (g : Geometry) (ns new : List ℕ) (rs : List BucketRecord)
      (h k : Hand C B) (v w : View cache_facts backing_facts) → ns ≡ new
      → ((p : BucketsPart) → h.buckets ≡ Some p → rs ≡ records_of p) → WithCache h k
      → HaveNotWritten cache_facts backing_facts e g rs ns v w → (p : BucketsPart)
      → h.buckets ≡ Some p → HasNotNamed cache_facts backing_facts e g new p h k v w
  not_written e g ns new rs h k v w same records rest lost p is = inl (record {
    written = subst (λ (y : List BucketRecord). HaveNotWritten cache_facts backing_facts e g y new v
        w) (records p is)
        (subst (λ (x : List ℕ). HaveNotWritten cache_facts backing_facts e g rs x v w) same lost);
    hand = rest;
  })
