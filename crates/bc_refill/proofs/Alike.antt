-- Whatever a refill did, it is the same seat of the same run.
use Rattle.std.proofs.Common.{◌≡◌, inl, inr, ℕ, zero, suc, List, [], ◌∷◌, Some, refl, ◌∙◌, subst}
use Rattle.std.specs.Prelude.{Err, IfErr, IfOk, Ok, Result, Vec}
use Rattle.std.specs.declared.alloc.Global.{Global}
use Rattle.bc_disk.specs.Disk.{DiskFacts}
use Rattle.bc_disk.specs.declared.gens.BucketRecord.{BucketRecord}
use Rattle.bc_disk.specs.declared.geometry.Geometry.{Geometry}
use Rattle.bc_new_chain.proofs.of_bc_chain.of_bc_hand.Knowing.{View, m}
use Rattle.bc_new_chain.specs.bc_chain.Written.{HasLostSet}
use Rattle.bc_new_chain.specs.bc_hand.declared.error.StepError.{StepError}
use Rattle.bc_new_chain.specs.bc_hand.declared.error.StepError.TheVariants as error
use Rattle.bc_new_chain.specs.bc_hand.declared.hand.Hand.{Hand}
use Rattle.bc_new_chain.specs.bc_held.declared.held.HeldBucket.{HeldBucket}
use Rattle.bc_new_chain.specs.bc_machine.declared.part.BucketsPart.{BucketsPart}
use Rattle.bc_refill.specs.Named.{HasFinished, HasNamed, HasNotFinished, HasNotNamed}
use Rattle.bc_refill.specs.Raised.{HasNotRenewed, HasRenewed}
use Rattle.bc_refill.specs.Refill.{HasAnsweredIn, HasNoChainAgain, HasNotRefilledIn}
use Rattle.bc_refill.specs.Sets.{HaveWritten}
use Rattle.bc_refill.specs.Taken.{HasGivenBack, HasStoppedBack, HasStoppedGoing, HasStoppedTaking, HaveLetGo, HaveTaken}
use Rattle.bc_refill.specs.declared.answer.Refilled.{Refilled}
use Rattle.bc_refill.specs.declared.answer.Refilled.TheVariants as answer
use Rattle.bc_seats.specs.Seats.{Same}

module _ {C B : Type 0} (cache_facts : C → DiskFacts) (backing_facts : B → DiskFacts) where
  abbrev pub Alike : View cache_facts backing_facts → View cache_facts backing_facts → Type 0
  Alike v w = Same (m cache_facts backing_facts) v w

  pub alike : (v : View cache_facts backing_facts) → Alike v v
  alike v = record { run = refl; first = refl; end = refl }

  pub alike_then : (u v w : View cache_facts backing_facts) → Alike u v → Alike v w → Alike u w
  alike_then u v w a b = record {
    run = b.run ∙ a.run;
    first = b.first ∙ a.first;
    end = b.end ∙ a.end;
  }

  alike_at : (v w : View cache_facts backing_facts) → w ≡ v → Alike v w
  alike_at v w is = subst (λ (x : View cache_facts backing_facts). Alike x w) is (alike w)

  -- ---- steps, one behind the other

  taken : (before : ℕ) (bs : List HeldBucket) (p q : BucketsPart)
      (v w : View cache_facts backing_facts)
      → HaveTaken cache_facts backing_facts before bs p q v w → Alike v w
  taken before [] p q v w is = alike_at v w is.1
  taken before (b ∷ bs) p q v w is = alike_then v is.1 w is.2.did.is.same
      (taken before bs is.0 q is.1 w is.3)

  gone : (before : ℕ) (bs : List HeldBucket) (p q : BucketsPart)
      (v w : View cache_facts backing_facts)
      → HaveLetGo cache_facts backing_facts before bs p q v w → Alike v w
  gone before [] p q v w is = alike_at v w is.1
  gone before (b ∷ bs) p q v w is = alike_then v is.1 w is.2.did.is.same
      (gone before bs is.0 q is.1 w is.3)

  written : (g : Geometry) (rs : List BucketRecord) (new : List ℕ) (part n : ℕ)
      (v w : View cache_facts backing_facts)
      → HaveWritten cache_facts backing_facts g rs new part n v w → Alike v w
  written g rs new part zero v w is = alike_at v w is
  written g rs new part (suc n) v w is = alike_then v is.0 w is.1.did.is.same
      (written g rs new (suc part) n is.0 w is.2)

  lost : (e : StepError) (g : Geometry) (rs : List BucketRecord) (bucket part next : ℕ)
      (v w : View cache_facts backing_facts)
      → HasLostSet cache_facts backing_facts e g rs bucket part next v w → Alike v w
  lost (error.Fault device) g rs bucket part next v w h = h.1.4.is.same
  lost (error.Halted device) g rs bucket part next v w h = h.1.is.same
  lost error.Memory g rs bucket part next v w h = absurd h

  -- ---- the buckets of the chain

  stopped_going : (before : ℕ) (e : StepError) (bs : List HeldBucket) (p q : BucketsPart)
      (v w : View cache_facts backing_facts)
      → HasStoppedGoing cache_facts backing_facts before e bs p q v w → Alike v w
  stopped_going before e bs p q v w h = alike_then v h.last w
      (gone before h.gone p q v h.last h.went) h.did.is.same

  given_back : (before most : ℕ) (a : Refilled) (p q : BucketsPart)
      (v w : View cache_facts backing_facts)
      → HasGivenBack cache_facts backing_facts before most a p q v w → Alike v w
  given_back before most a p q v w h = alike_then v h.then_ w
      (alike_then v h.none.had h.then_ (taken before h.taken p h.left v h.none.had h.none.took)
      h.none.waited.same) (gone before _ h.left q h.then_ w h.gone)

  stopped_taking : (before most : ℕ) (e : StepError) (p q : BucketsPart)
      (v w : View cache_facts backing_facts)
      → HasStoppedTaking cache_facts backing_facts before most e p q v w → Alike v w
  stopped_taking before most e p q v w h = alike_then v h.had w
      (taken before h.taken p q v h.had h.took) h.did.is.same

  stopped_back : (before most : ℕ) (e : StepError) (p q : BucketsPart)
      (v w : View cache_facts backing_facts)
      → HasStoppedBack cache_facts backing_facts before most e p q v w → Alike v w
  stopped_back before most e p q v w h = alike_then v h.then_ w
      (alike_then v h.none.had h.then_ (taken before h.taken p h.left v h.none.had h.none.took)
      h.none.waited.same) (stopped_going before e h.taken h.left q h.then_ w h.stopped)

  -- ---- the chain

  finished : (g : Geometry) (new : Vec ℕ Global) (h k : Hand C B)
      (v w : View cache_facts backing_facts)
      → HasFinished cache_facts backing_facts g new h k v w → Alike v w
  finished g new h k v w is = alike_then v is.put_at w is.put.done.same is.readied.did.is.same

  not_finished : (e : StepError) (new : List ℕ) (h k : Hand C B)
      (v w : View cache_facts backing_facts)
      → HasNotFinished cache_facts backing_facts e new h k v w → Alike v w
  not_finished e new h k v w not = elim not [
    | inl cut ↦ cut.cut.done.same
    | inr put ↦ alike_then v put.put_at w put.put.done.same put.did.is.same
  ]

  named : (g : Geometry) (new : Vec ℕ Global) (p : BucketsPart) (h k : Hand C B)
      (v w : View cache_facts backing_facts)
      → HasNamed cache_facts backing_facts g new p h k v w → Alike v w
  named g new p h k v w is = alike_then v is.written_at w
      (written g _ _ 0 _ v is.written_at is.written)
      (finished g new is.then_ k is.written_at w is.finished)

  not_named : (e : StepError) (g : Geometry) (new : List ℕ) (p : BucketsPart) (h k : Hand C B)
      (v w : View cache_facts backing_facts)
      → HasNotNamed cache_facts backing_facts e g new p h k v w → Alike v w
  not_named e g new p h k v w not = elim not [
    | inl none ↦ alike_then v none.written.had w
        (written g _ _ 0 _ v none.written.had none.written.written)
        (lost e g _ _ _ _ none.written.had w none.written.lost)
    | inr more ↦ alike_then v more.written_at w
        (written g _ _ 0 _ v more.written_at more.written)
        (not_finished e new more.then_ k more.written_at w more.not_finished)
  ]

  renewed : (g : Geometry) (new : Vec ℕ Global) (h k : Hand C B)
      (v w : View cache_facts backing_facts)
      → HasRenewed cache_facts backing_facts g new h k v w → Alike v w
  renewed g new h k v w is = alike_then v is.raised_at w is.raise.same
      (named g new is.raised _ k is.raised_at w is.named)

  not_renewed : (e : StepError) (g : Geometry) (new : List ℕ) (h k : Hand C B)
      (v w : View cache_facts backing_facts)
      → HasNotRenewed cache_facts backing_facts e g new h k v w → Alike v w
  not_renewed e g new h k v w not = elim not [
    | inl some ↦ some.some.done.same
    | inr more ↦ alike_then v more.raised_at w more.raise.same
        (not_named e g new more.raised _ k more.raised_at w more.not_named)
  ]

  -- ---- all of it

  no_chain : (a : Refilled) (g : Geometry) (p : BucketsPart) (h k : Hand C B)
      (v w : View cache_facts backing_facts)
      → HasNoChainAgain cache_facts backing_facts a g p h k v w → Alike v w
  no_chain a g p h k v w is = given_back g.first_bucket _ a p is.then_ v w is.back

  answered : (a : Refilled) (g : Geometry) (p : BucketsPart) (h k : Hand C B)
      (v w : View cache_facts backing_facts)
      → HasAnsweredIn cache_facts backing_facts a g p h k v w → Alike v w
  answered answer.Done g p h k v w is = alike_then v is.taken_at w
      (taken g.first_bucket is.taken p is.left v is.taken_at is.took)
      (renewed g is.new _ k is.taken_at w is.renewed)
  answered answer.Nothing g p h k v w is = no_chain answer.Nothing g p h k v w is
  answered (answer.NoBucket none) g p h k v w is = no_chain (answer.NoBucket none) g p h k v w is
  answered answer.NoNumber g p h k v w is = no_chain answer.NoNumber g p h k v w is
  answered answer.NoPlace g p h k v w is = no_chain answer.NoPlace g p h k v w is
  answered answer.Cut g p h k v w is = no_chain answer.Cut g p h k v w is
  answered answer.Unsound g p h k v w is = no_chain answer.Unsound g p h k v w is

  not_refilled : (e : StepError) (g : Geometry) (p : BucketsPart) (h k : Hand C B)
      (v w : View cache_facts backing_facts)
      → HasNotRefilledIn cache_facts backing_facts e g p h k v w → Alike v w
  not_refilled e g p h k v w not = elim not [
    | inl early ↦ elim early.stopped [
      | inl taking ↦ stopped_taking g.first_bucket _ e p early.then_ v w taking
      | inr back ↦ stopped_back g.first_bucket _ e p early.then_ v w back
    ]
    | inr more ↦ alike_then v more.taken_at w
        (taken g.first_bucket more.taken p more.left v more.taken_at more.took)
        (not_renewed e g _ _ k more.taken_at w more.not_renewed)
  ]

  -- by its answer, of the buckets that were in hand
  pub alike_all : (r : Result Refilled StepError) (g : Geometry) (p : BucketsPart)
      (h k : Hand C B) (v w : View cache_facts backing_facts) → h.buckets ≡ Some p
      → IfOk r (λ a. (q : BucketsPart) → h.buckets ≡ Some q
      → HasAnsweredIn cache_facts backing_facts a g q h k v w)
      → IfErr r (λ e. (q : BucketsPart) → h.buckets ≡ Some q
      → HasNotRefilledIn cache_facts backing_facts e g q h k v w) → Alike v w
  alike_all (Ok a) g p h k v w is good bad = answered a g p h k v w (good p is)
  alike_all (Err e) g p h k v w is good bad = not_refilled e g p h k v w (bad p is)
