-- The whole refill, of its steps.
use Rattle.std.proofs.Common.{◌≡◌, ◌⊎◌, inl, inr, ℕ, ◌+◌, ◌≤◌, List, [], length, Option, None, Some, refl, sym, ap, ◌∙◌, subst, arith}
use Rattle.std.specs.Prelude.{All, Err, IfErr, IfNone, IfOk, IfSome, Ok, Result, Vec, vec_capacity}
use Rattle.std.specs.declared.alloc.Global.{Global}
use Rattle.bc_disk.specs.Chain.{sets_in_chain}
use Rattle.bc_disk.specs.Disk.{DiskFacts}
use Rattle.bc_disk.specs.declared.geometry.Geometry.{Geometry}
use Rattle.bc_journal.specs.Journal.{Journal}
use Rattle.bc_new_chain.proofs.Behind.{cause_halt}
use Rattle.bc_new_chain.proofs.of_bc_chain.of_bc_deed.May.{did_nothing}
use Rattle.bc_new_chain.proofs.of_bc_chain.of_bc_deed.Sequence.{done_one}
use Rattle.bc_new_chain.proofs.of_bc_chain.of_bc_hand.Knowing.{View}
use Rattle.bc_new_chain.specs.Put.{IsChainCause}
use Rattle.bc_new_chain.specs.bc_deed.Flushed.{HasDone}
use Rattle.bc_new_chain.specs.bc_hand.Seats.{Works, world}
use Rattle.bc_new_chain.specs.bc_hand.declared.error.StepError.{StepError}
use Rattle.bc_new_chain.specs.bc_hand.declared.error.StepError.TheVariants as error
use Rattle.bc_new_chain.specs.bc_hand.declared.hand.Hand.{Hand}
use Rattle.bc_new_chain.specs.bc_held.Taken.{TiesBuckets}
use Rattle.bc_new_chain.specs.bc_held.declared.held.HeldBucket.{HeldBucket}
use Rattle.bc_new_chain.specs.bc_machine.World.{AreBuckets, World}
use Rattle.bc_new_chain.specs.bc_machine.declared.part.BucketsPart.{BucketsPart}
use Rattle.bc_new_chain.specs.bc_machine.declared.part.CorePart.{CorePart}
use Rattle.bc_parts.specs.Seat.{PartsView}
use Rattle.bc_refill.proofs.Filled.{filled, lists_same}
use Rattle.bc_refill.proofs.Going.{IsCut, WithBuckets, cut_in}
use Rattle.bc_refill.proofs.Renewing.{stays_taken}
use Rattle.bc_refill.specs.Hands.{HasAll}
use Rattle.bc_refill.specs.Most.{IsIdle, deeds_of, most_of}
use Rattle.bc_refill.specs.Named.{CanName, IsNamingRoom}
use Rattle.bc_refill.specs.Raised.{HasNotRenewed, HasRenewed}
use Rattle.bc_refill.specs.Refill.{HasAnswered, HasAnsweredIn, HasIdled, HasNoChainAgain, HasNotBegun, HasNotRefilled, HasNotRefilledIn, HasNotRefilledThen, HasNotTaken, HasRefilled, IsRefusal}
use Rattle.bc_refill.specs.Taken.{HasGivenBack, HasMine, HasStoppedBack, HasStoppedTaking, HaveTaken, IsForSet, IsNoChain, IsUnsound, numbers_of}
use Rattle.bc_refill.specs.declared.answer.Refilled.{Refilled}
use Rattle.bc_refill.specs.declared.answer.Refilled.TheVariants as answer
use Rattle.bc_refill.specs.declared.room.NamingRoom.{NamingRoom}

module _ {C B : Type 0} (cache_facts : C → DiskFacts) (backing_facts : B → DiskFacts) where
  -- a bucket was taken for each set of a chain
  pub record HasTakenChain (g : Geometry) (bs : List HeldBucket) (h k : Hand C B)
      (v w : View cache_facts backing_facts) : Type 0 where
    pub many : length bs ≡ sets_in_chain g
    pub took : TiesBuckets h k (λ p q. HaveTaken cache_facts backing_facts g.first_bucket bs p q v w)
    pub fit : All (IsForSet g) bs
    pub mine : HasMine cache_facts backing_facts bs v w
    pub ready : v.promises ≤ w.promises + sets_in_chain g

  pub taken_chain : (g : Geometry) (bs : List HeldBucket) (h k : Hand C B)
      (v w : View cache_facts backing_facts) (o : Option Refilled) → o ≡ None
      → IfNone o (length bs ≡ sets_in_chain g)
      → IfNone o (TiesBuckets h k (λ p q. HaveTaken cache_facts backing_facts g.first_bucket bs p q
      v w)) → IfNone o (All (IsForSet g) bs) → IfNone o (HasMine cache_facts backing_facts bs v w)
      → IfNone o (v.promises ≤ w.promises + sets_in_chain g) → HasTakenChain g bs h k v w
  taken_chain g bs h k v w None is many took fit mine ready = record {
    many = many;
    took = took;
    fit = fit;
    mine = mine;
    ready = ready;
  }
  taken_chain g bs h k v w (Some a) is many took fit mine ready = absurd (cc)

  -- behind the takes the buckets in hand may be named, and there is memory and room for it
  pub can_renew : (g : Geometry) (bs : List HeldBucket) (p q : BucketsPart) (j : Journal)
      (v w : View cache_facts backing_facts) (room : NamingRoom)
      → HaveTaken cache_facts backing_facts g.first_bucket bs p q v w
      → length bs ≡ sets_in_chain g → CanName g p j → deeds_of g p.reserves ≤ v.promises
      → v.promises ≤ w.promises + sets_in_chain g
      → IsNamingRoom g (sets_in_chain g) (length p.reserves.raised + most_of p.reserves)
      (length p.chain.items) room
      → CanName g q j × (most_of q.reserves + (length bs + 6) ≤ w.promises)
      × IsNamingRoom g (length bs) (length q.reserves.raised + most_of q.reserves)
      (length q.chain.items) room
  can_renew g bs p q j v w room took many can promised left rooms =
      let stays = stays_taken cache_facts backing_facts g.first_bucket bs p q v w took in
      let most = stays.most in
      let long = ap (λ (ks : List ℕ). length ks) stays.raised in (
        record {
          settled = stays.renewing ∙ can.settled;
          each = stays.each ∙ can.each;
          seals = can.seals;
        },
        omega (arith, promised, left, many, most),
        record {
          sets = rooms.sets ∙ sym many;
          set_rooms = rooms.set_rooms;
          records = rooms.records;
          none_back = rooms.none_back;
          back = subst (λ (c : Vec ℕ Global). length c.items ≤ vec_capacity room.back)
              (sym stays.chain) rooms.back;
          none_listed = rooms.none_listed;
          listed = let room_is = rooms.listed in omega (arith, room_is, most, long);
          chain = let room_is = rooms.chain in omega (arith, room_is, many);
        },
      )

  pub has_refilled : (g : Geometry) (bs : List HeldBucket) (new : Vec ℕ Global)
      (p q : BucketsPart) (h k l : Hand C B) (v u w : View cache_facts backing_facts)
      → length bs ≡ sets_in_chain g → new.items ≡ numbers_of bs
      → HaveTaken cache_facts backing_facts g.first_bucket bs p q v u
      → k.buckets ≡ Some q → WithBuckets h k
      → HasRenewed cache_facts backing_facts g new k l u w
      → HasRefilled cache_facts backing_facts g p h l v w
  has_refilled g bs new p q h k l v u w many new_is took is rest renewed =
      let hand = rest ∙ ap (λ (o : Option BucketsPart). record h { buckets = o }) is in
      let all = subst (λ (x : Hand C B). HasRenewed cache_facts backing_facts g new x l u w) hand
      renewed in
      let end = filled cache_facts backing_facts g new q h l u w all in record {
        taken = bs;
        many = many;
        left = q;
        taken_at = u;
        took = took;
        new = new;
        new_is = new_is;
        renewed = all;
        then_ = end.0;
        now = end.1;
        filled = end.2;
      }

  pub has_not_refilled : (e : StepError) (g : Geometry) (bs : List HeldBucket) (new : List ℕ)
      (p q : BucketsPart) (h k l : Hand C B) (v u w : View cache_facts backing_facts)
      → length bs ≡ sets_in_chain g → new ≡ numbers_of bs
      → HaveTaken cache_facts backing_facts g.first_bucket bs p q v u
      → k.buckets ≡ Some q → WithBuckets h k
      → HasNotRenewed cache_facts backing_facts e g new k l u w
      → HasNotRefilledThen cache_facts backing_facts e g p h l v w
  has_not_refilled e g bs new p q h k l v u w many new_is took is rest not =
      let hand = rest ∙ ap (λ (o : Option BucketsPart). record h { buckets = o }) is in
      let all = subst (λ (x : Hand C B). HasNotRenewed cache_facts backing_facts e g (numbers_of bs)
      x l u w) hand (subst (λ (ns : List ℕ). HasNotRenewed cache_facts backing_facts e g ns k l u w)
      new_is not) in
      let end = lists_same cache_facts backing_facts e g (numbers_of bs) q h l u w all in record {
        taken = bs;
        many = many;
        left = q;
        taken_at = u;
        took = took;
        not_renewed = all;
        then_ = end.0;
        now = end.1;
        lists = end.2;
      }

  -- ---- there was no chain

  no_chain_in : (a : Refilled) (g : Geometry) (p q : BucketsPart) (h k : Hand C B)
      (v w : View cache_facts backing_facts) → k.buckets ≡ Some q → WithBuckets h k
      → HasGivenBack cache_facts backing_facts g.first_bucket (sets_in_chain g) a p q v w
      → HasNoChainAgain cache_facts backing_facts a g p h k v w
  no_chain_in a g p q h k v w is rest back = record {
    then_ = q;
    hand = rest ∙ ap (λ (o : Option BucketsPart). record h { buckets = o }) is;
    back = back;
  }

  -- a chain that was given up isn't one that came to be
  by_answer : (a : Refilled) (g : Geometry) (p : BucketsPart) (h k : Hand C B)
      (v w : View cache_facts backing_facts) (left : BucketsPart) (x : World)
      → IsNoChain a left x → HasNoChainAgain cache_facts backing_facts a g p h k v w
      → HasAnsweredIn cache_facts backing_facts a g p h k v w
  by_answer answer.Done g p h k v w left x why again = absurd why
  by_answer answer.Nothing g p h k v w left x why again = again
  by_answer (answer.NoBucket none) g p h k v w left x why again = again
  by_answer answer.NoNumber g p h k v w left x why again = again
  by_answer answer.NoPlace g p h k v w left x why again = again
  by_answer answer.Cut g p h k v w left x why again = again
  by_answer answer.Unsound g p h k v w left x why again = again

  pub has_no_chain : (a : Refilled) (g : Geometry) (p : BucketsPart) (h k : Hand C B)
      (v w : View cache_facts backing_facts) → h.buckets ≡ Some p → WithBuckets h k
      → TiesBuckets h k (λ p q. HasGivenBack cache_facts backing_facts g.first_bucket
      (sets_in_chain g) a p q v w) → HasAnsweredIn cache_facts backing_facts a g p h k v w
  has_no_chain a g p h k v w is rest tie = let back = tie p is in
      by_answer a g p h k v w back.2.left (world cache_facts backing_facts back.2.then_)
      back.2.none.why (no_chain_in a g p back.0 h k v w back.1 rest back.2)

  pub has_not_taken : (e : StepError) (g : Geometry) (p : BucketsPart) (h k : Hand C B)
      (v w : View cache_facts backing_facts) → h.buckets ≡ Some p → WithBuckets h k
      → TiesBuckets h k (λ p q. HasStoppedTaking cache_facts backing_facts g.first_bucket
      (sets_in_chain g) e p q v w ⊎ HasStoppedBack cache_facts backing_facts g.first_bucket
      (sets_in_chain g) e p q v w) → HasNotTaken cache_facts backing_facts e g p h k v w
  has_not_taken e g p h k v w is rest tie = let stopped = tie p is in record {
    then_ = stopped.0;
    hand = rest ∙ ap (λ (o : Option BucketsPart). record h { buckets = o }) stopped.1;
    stopped = stopped.2;
  }

  pub cause_taken : (e : StepError) (g : Geometry) (h k : Hand C B) (p : BucketsPart)
      (v w : View cache_facts backing_facts) → h.buckets ≡ Some p
      → TiesBuckets h k (λ p q. HasStoppedTaking cache_facts backing_facts g.first_bucket
      (sets_in_chain g) e p q v w ⊎ HasStoppedBack cache_facts backing_facts g.first_bucket
      (sets_in_chain g) e p q v w) → IsChainCause e w.seen
  cause_taken e g h k p v w is tie = elim (tie p is).2 [
    | inl early ↦ cause_halt e w.seen early.halted
    | inr late ↦ cause_halt e w.seen late.stopped.halted
  ]

  -- records that aren't as many as the device has buckets are of no sound pair
  pub unsound : (g : Geometry) (p : BucketsPart) (x : World) → IsCut g x → AreBuckets p x
      → (length p.buckets.records ≡ g.nbuckets → ⊥) → IsUnsound x
  unsound g p x cut stand ne o origin course =
      let count = (stand o origin course).cut.buckets in
      let many = (cut.layout o origin course).buckets in
      let first = cut.before o origin course in
      let within = g.journal_within in
      ne (omega (arith, count, many, first, within))

  pub idled : (a : Refilled) (g : Geometry) (p : BucketsPart) (j : Journal)
      (ps : PartsView (CorePart C B)) (h : Hand C B) (v : View cache_facts backing_facts)
      → Works cache_facts backing_facts ps v h → HasAll g h → h.buckets ≡ Some p
      → j.ring.geometry ≡ g → IsIdle a p j → HasIdled cache_facts backing_facts a p j h h v v
  idled a g p j ps h v works all is same why = record {
    why = why;
    unsound = λ bad. unsound g p (world cache_facts backing_facts v)
        (cut_in cache_facts backing_facts ps v h g works all)
        (subst (λ (o : Option BucketsPart). IfSome o (λ b. AreBuckets b
        (world cache_facts backing_facts v))) is works.stand.buckets)
        (λ fits. (subst (λ x. IsIdle x p j) bad why) (fits ∙ ap (λ (y : Geometry). y.nbuckets)
        (sym same)));
    same = refl;
    done = done_one cache_facts backing_facts None v v
        (did_nothing cache_facts backing_facts v works.seat);
  }

  pub not_begun : (h k : Hand C B) (v w : View cache_facts backing_facts) → k ≡ h
      → HasDone cache_facts backing_facts [] v w → HasNotBegun cache_facts backing_facts h k v w
  not_begun h k v w same done = record { same = same; done = done }

  -- room for the deeds was promised before
  pub answered : (a : Refilled) (g : Geometry) (p : BucketsPart) (j : Journal) (h s k : Hand C B)
      (v u w : View cache_facts backing_facts) → s ≡ h
      → HasDone cache_facts backing_facts [] v u
      → ((q : BucketsPart) → s.buckets ≡ Some q
      → HasAnsweredIn cache_facts backing_facts a g q s k u w) → h.buckets ≡ Some p
      → HasAnswered cache_facts backing_facts a g p j h k v w
  answered a g p j h s k v u w same done in_hand is = inr (record {
    ready_at = u;
    waited = done;
    answered = subst (λ (x : Hand C B). HasAnsweredIn cache_facts backing_facts a g p x k u w) same
        (in_hand p (ap (λ (x : Hand C B). x.buckets) same ∙ is));
  })

  pub refused : (e : StepError) (g : Geometry) (p : BucketsPart) (h s k : Hand C B)
      (v u w : View cache_facts backing_facts) → IsChainCause e w.seen → s ≡ h
      → HasDone cache_facts backing_facts [] v u
      → ((q : BucketsPart) → s.buckets ≡ Some q
      → HasNotRefilledIn cache_facts backing_facts e g q s k u w) → h.buckets ≡ Some p
      → HasNotRefilled cache_facts backing_facts e g p h k v w
  refused error.Memory g p h s k v u w cause same done far is = absurd cause
  refused (error.Fault device) g p h s k v u w cause same done far is = inr (record {
    ready_at = u;
    waited = done;
    far = subst (λ (x : Hand C B). HasNotRefilledIn cache_facts backing_facts (error.Fault device) g
        p x k u w) same (far p (ap (λ (x : Hand C B). x.buckets) same ∙ is));
  })
  refused (error.Halted device) g p h s k v u w cause same done far is = inr (record {
    ready_at = u;
    waited = done;
    far = subst (λ (x : Hand C B). HasNotRefilledIn cache_facts backing_facts (error.Halted device)
        g p x k u w) same (far p (ap (λ (x : Hand C B). x.buckets) same ∙ is));
  })

  pub refusal : (e : StepError) (w : View cache_facts backing_facts) → IsChainCause e w.seen
      → IsRefusal cache_facts backing_facts e w
  refusal (error.Fault device) w cause = cause
  refusal (error.Halted device) w cause = cause
  refusal error.Memory w cause = absurd cause

  module _ (g : Geometry) (h s k : Hand C B) (v u w : View cache_facts backing_facts)
      (divided : (j : Journal) → h.journal ≡ Some j → g ≡ j.ring.geometry) (same : s ≡ h)
      (done : HasDone cache_facts backing_facts [] v u) where
    pub ok_all : (r : Result Refilled StepError)
        → IfOk r (λ a. (q : BucketsPart) → s.buckets ≡ Some q
        → HasAnsweredIn cache_facts backing_facts a g q s k u w)
        → IfOk r (λ a. (p : BucketsPart) (j : Journal) → h.buckets ≡ Some p → h.journal ≡ Some j
        → HasAnswered cache_facts backing_facts a j.ring.geometry p j h k v w)
    ok_all (Ok a) all = λ p j is at. subst (λ (y : Geometry). HasAnswered cache_facts backing_facts
        a y p j h k v w) (divided j at) (answered a g p j h s k v u w same done all is)
    ok_all (Err e) all = tt

    pub err_all : (r : Result Refilled StepError) → IfErr r (λ e. IsChainCause e w.seen)
        → IfErr r (λ e. (q : BucketsPart) → s.buckets ≡ Some q
        → HasNotRefilledIn cache_facts backing_facts e g q s k u w)
        → IfErr r (λ e. (p : BucketsPart) (j : Journal) → h.buckets ≡ Some p
        → h.journal ≡ Some j
        → HasNotRefilled cache_facts backing_facts e j.ring.geometry p h k v w)
    err_all (Ok a) cause all = tt
    err_all (Err e) cause all = λ p j is at. subst (λ (y : Geometry). HasNotRefilled cache_facts
        backing_facts e y p h k v w) (divided j at)
        (refused e g p h s k v u w cause same done all is)

  pub cause_all : (w : View cache_facts backing_facts) (r : Result Refilled StepError)
      → IfErr r (λ e. IsChainCause e w.seen)
      → IfErr r (λ e. IsRefusal cache_facts backing_facts e w)
  cause_all w (Ok a) cause = tt
  cause_all w (Err e) cause = refusal e w cause
