-- Victims that are raised, and then named.
use Rattle.std.proofs.Common.{◌≡◌, inl, inr, ℕ, ◌+◌, ◌≤◌, List, length, Some, sym, ap, ◌∙◌, subst, arith}
use Rattle.std.proofs.lemmas.List.{length-append}
use Rattle.std.specs.Prelude.{Err, IfErr, Ok, OnOk, Result, Vec, is_some, vec_capacity}
use Rattle.std.specs.declared.alloc.Global.{Global}
use Rattle.bc_alloc.specs.Victims.{AreVictims}
use Rattle.bc_bucket.specs.Buckets.{Buckets}
use Rattle.bc_disk.specs.Disk.{DiskFacts}
use Rattle.bc_disk.specs.declared.geometry.Geometry.{Geometry}
use Rattle.bc_journal.specs.Journal.{Journal}
use Rattle.bc_new_chain.proofs.InHand.{same_some}
use Rattle.bc_new_chain.proofs.of_bc_chain.of_bc_hand.Knowing.{View}
use Rattle.bc_new_chain.specs.bc_deed.Flushed.{HasDone}
use Rattle.bc_new_chain.specs.bc_hand.Seats.{kinds}
use Rattle.bc_new_chain.specs.bc_hand.declared.error.StepError.{StepError}
use Rattle.bc_new_chain.specs.bc_hand.declared.hand.Hand.{Hand}
use Rattle.bc_new_chain.specs.bc_machine.declared.part.BucketsPart.{BucketsPart}
use Rattle.bc_new_chain.specs.bc_renew.Raised.{HasRaised}
use Rattle.bc_ready.specs.bc_raise.Raise.{HasRaisedIn, HasRaisedSome, raises}
use Rattle.bc_refill.proofs.Renewing.{count_raised, few_wanted, raised_of_same}
use Rattle.bc_refill.specs.Hands.{HasAll}
use Rattle.bc_refill.specs.Most.{most_of}
use Rattle.bc_refill.specs.Named.{CanName, HasNamed, HasNotNamed, IsNamingRoom}
use Rattle.bc_refill.specs.Raised.{HasNotRenewed, HasRenewed, IsSame}
use Rattle.bc_refill.specs.declared.room.NamingRoom.{NamingRoom}

-- as many at most as the lists have room for
pub count_victims : (p : BucketsPart) (vs : List ℕ) → AreVictims p.reserves p.buckets vs
    → length vs ≤ most_of p.reserves
count_victims p vs are = let few = are.few in let most = few_wanted p.reserves p.order in
    omega (arith, few, most)

-- ---- hands

-- these were raised of what was in hand
pub record IsRaisedIn {C B : Type 0} (p : BucketsPart) (vs : List ℕ) (h k : Hand C B) : Type 0 where
  pub raised : BucketsPart
  pub hand : k ≡ record h { buckets = Some raised }
  pub has : HasRaised p vs raised

pub raised_in : {C B : Type 0} (p q : BucketsPart) (vs : List ℕ) (h s k : Hand C B)
    → s ≡ record h { buckets = Some q } → IsSame p q → HasRaisedIn s vs k → IsRaisedIn p vs h k
raised_in p q vs h s k search same part = record {
  raised = part.1;
  hand = part.3 ∙ ap (λ (x : Hand _ _). record x { buckets = Some part.1 }) search;
  has = raised_of_same p q part.1 vs same (subst (λ (x : BucketsPart). HasRaised x vs part.1)
      (same_some s.buckets part.0 q part.2 (ap (λ (x : Hand _ _). x.buckets) search)) part.4);
}

pub all_raised : {C B : Type 0} (g : Geometry) (p : BucketsPart) (vs : List ℕ) (h k : Hand C B)
    → IsRaisedIn p vs h k → HasAll g h → HasAll g k
all_raised g p vs h k is all = record {
  buckets = ap (λ (x : Hand _ _). is_some x.buckets) is.hand;
  journal = all.journal;
  is_journal = ap (λ (x : Hand _ _). x.journal) is.hand ∙ all.is_journal;
  divided = all.divided;
  cache = ap (λ (x : Hand _ _). is_some x.cache) is.hand ∙ all.cache;
}

pub kinds_raised : {C B : Type 0} (p : BucketsPart) (h k : Hand C B) (q : BucketsPart)
    → h.buckets ≡ Some p → k ≡ record h { buckets = Some q } → kinds k ≡ kinds h
kinds_raised p h k q is hand = ap kinds hand
    ∙ ap (λ b. record (kinds h) { buckets = b }) (sym (ap is_some is))

-- they may be named
pub can_raised : {C B : Type 0} (g : Geometry) (p : BucketsPart) (j : Journal) (vs new : List ℕ)
    (h k : Hand C B) (many : ℕ) (room : NamingRoom) (is : IsRaisedIn p vs h k)
    → h.journal ≡ Some j → CanName g p j → length vs ≤ most_of p.reserves → length new ≡ many
    → IsNamingRoom g many (length p.reserves.raised + most_of p.reserves) (length p.chain.items)
    room → (q : BucketsPart) × (i : Journal) × (k.buckets ≡ Some q) × (k.journal ≡ Some i)
    × CanName g q i × IsNamingRoom g (length new) (length q.reserves.raised)
    (length q.chain.items) room
can_raised g p j vs new h k many room is journal can few same rooms = (
  is.raised,
  j,
  ap (λ (x : Hand _ _). x.buckets) is.hand,
  ap (λ (x : Hand _ _). x.journal) is.hand ∙ journal,
  record {
    settled = is.has.rest.renewing ∙ can.settled;
    each = ap (λ (b : Buckets). length b.records) is.has.buckets ∙ count_raised vs p.buckets
        ∙ can.each;
    seals = can.seals;
  },
  record {
    sets = rooms.sets ∙ sym same;
    set_rooms = rooms.set_rooms;
    records = rooms.records;
    none_back = rooms.none_back;
    back = subst (λ (c : Vec ℕ Global). length c.items ≤ vec_capacity room.back)
        (sym is.has.rest.chain) rooms.back;
    none_listed = rooms.none_listed;
    listed = let long = ap (λ r. length r.raised) is.has.reserves
        ∙ length-append p.reserves.raised vs in
        let most = rooms.listed in omega (arith, long, few, most);
    chain = let most = rooms.chain in omega (arith, most, same);
  },
)

module _ {C B : Type 0} (cache_facts : C → DiskFacts) (backing_facts : B → DiskFacts) where
  pub renewed : (g : Geometry) (new : Vec ℕ Global) (p : BucketsPart) (vs : List ℕ)
      (h k l : Hand C B) (v u w : View cache_facts backing_facts) → h.buckets ≡ Some p
      → AreVictims p.reserves p.buckets vs
      → HasDone cache_facts backing_facts (raises g.first_bucket vs) v u
      → (is : IsRaisedIn p vs h k) → (r : Result (Unit {0}) StepError)
      → OnOk r ((q : BucketsPart) → k.buckets ≡ Some q
      → HasNamed cache_facts backing_facts g new q k l u w)
      → OnOk r (HasRenewed cache_facts backing_facts g new h l v w)
  renewed g new p vs h k l v u w was are done is (Ok z) named = record {
    old = p;
    was = was;
    victims = vs;
    victims_are = are;
    raised_at = u;
    raise = done;
    raised = is.raised;
    has_raised = is.has;
    named = subst (λ (x : Hand C B). HasNamed cache_facts backing_facts g new is.raised x l u w)
        is.hand (named is.raised (ap (λ (x : Hand C B). x.buckets) is.hand));
  }
  renewed g new p vs h k l v u w was are done is (Err e) named = tt

  pub not_renewed : (g : Geometry) (new : List ℕ) (p : BucketsPart) (vs : List ℕ)
      (h k l : Hand C B) (v u w : View cache_facts backing_facts) → h.buckets ≡ Some p
      → AreVictims p.reserves p.buckets vs
      → HasDone cache_facts backing_facts (raises g.first_bucket vs) v u
      → (is : IsRaisedIn p vs h k) → (r : Result (Unit {0}) StepError)
      → IfErr r (λ e. (q : BucketsPart) → k.buckets ≡ Some q
      → HasNotNamed cache_facts backing_facts e g new q k l u w)
      → IfErr r (λ e. HasNotRenewed cache_facts backing_facts e g new h l v w)
  not_renewed g new p vs h k l v u w was are done is (Ok z) not = tt
  not_renewed g new p vs h k l v u w was are done is (Err e) not = inr (record {
    old = p;
    was = was;
    victims = vs;
    victims_are = are;
    raised_at = u;
    raise = done;
    raised = is.raised;
    has_raised = is.has;
    not_named = subst (λ (x : Hand C B). HasNotNamed cache_facts backing_facts e g new is.raised x
        l u w) is.hand (not is.raised (ap (λ (x : Hand C B). x.buckets) is.hand));
  })

  pub not_raised : (e : StepError) (g : Geometry) (new : List ℕ) (p q : BucketsPart)
      (vs : List ℕ) (h s k : Hand C B) (v w : View cache_facts backing_facts)
      → h.buckets ≡ Some p → s ≡ record h { buckets = Some q } → IsSame p q
      → AreVictims p.reserves p.buckets vs
      → HasRaisedSome cache_facts backing_facts g.first_bucket s vs k v w
      → HasNotRenewed cache_facts backing_facts e g new h k v w
  not_raised e g new p q vs h s k v w was search same are some = inl (record {
    old = p;
    was = was;
    searched = q;
    same = same;
    victims = vs;
    victims_are = are;
    some = subst (λ (x : Hand C B). HasRaisedSome cache_facts backing_facts g.first_bucket x vs k v
        w) search some;
  })
