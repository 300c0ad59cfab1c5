-- The entry of a new chain, and what is made ready behind it.
use Rattle.std.proofs.Common.{◌≡◌, inr, ℕ, ◌+◌, ◌≤◌, true, List, length, take, Option, None, Some, refl, sym, ap, ◌∙◌, subst, arith}
use Rattle.std.specs.Prelude.{Err, IfErr, Ok, OnErr, OnOk, Result, Vec, is_some}
use Rattle.std.specs.declared.alloc.Global.{Global}
use Rattle.bc_disk.specs.Disk.{DiskFacts}
use Rattle.bc_disk.specs.declared.geometry.Geometry.{Geometry}
use Rattle.bc_journal.specs.Journal.{Journal}
use Rattle.bc_new_chain.proofs.of_bc_chain.of_bc_hand.Knowing.{View}
use Rattle.bc_new_chain.proofs.of_bc_held.Keeping.{keeps_deed as held_deed, keeps_waited as held_waited}
use Rattle.bc_new_chain.proofs.InHand.{same_some}
use Rattle.bc_new_chain.specs.Put.{GoesOnWith, HasPutChain, IsRenewingIn}
use Rattle.bc_new_chain.specs.bc_deed.Asked.{IsHalted}
use Rattle.bc_new_chain.specs.bc_hand.Seats.{Did, IsCoreSeat, kinds, world}
use Rattle.bc_new_chain.specs.bc_hand.declared.error.StepError.{StepError}
use Rattle.bc_new_chain.specs.bc_hand.declared.hand.Hand.{Hand}
use Rattle.bc_new_chain.specs.bc_held.Taken.{KeepsHeld}
use Rattle.bc_new_chain.specs.bc_machine.World.{FromEach}
use Rattle.bc_new_chain.specs.bc_machine.declared.part.BucketsPart.{BucketsPart}
use Rattle.bc_new_chain.specs.bc_renew.Ready.{HasMadeReady, MayReady}
use Rattle.bc_events.specs.declared.event.Deed.TheVariants as deed
use Rattle.bc_ready.specs.Ready.{HasMadeReadyIn, HasReadied}
use Rattle.bc_refill.specs.Hands.{HasAll}
use Rattle.bc_refill.specs.Named.{HasFinished, HasNotFinished}

-- ---- hands behind the entry

-- what has changed of it
abbrev pub Behind : {C B : Type 0} → Hand C B → Hand C B → Type 0
Behind h k = k ≡ record h { buckets = k.buckets; journal = k.journal; cache = k.cache }

-- it is durable
pub record IsPutIn {C B : Type 0} (new : List ℕ) (h k : Hand C B) : Type 0 where
  pub journal : Journal
  pub behind : Journal
  pub was : h.journal ≡ Some journal
  pub now : k.journal ≡ Some behind
  pub goes_on : GoesOnWith journal new behind
  pub renewing : IsRenewingIn h k
  pub rest : Behind h k

pub all_put : {C B : Type 0} (g : Geometry) (new : List ℕ) (h k : Hand C B) → IsPutIn new h k
    → is_some k.cache ≡ true → HasAll g h → HasAll g k
all_put g new h k put cache all = record {
  buckets = ap is_some put.renewing.now;
  journal = put.behind;
  is_journal = put.now;
  divided = put.goes_on.geometry
      ∙ ap (λ (j : Journal). j.ring.geometry)
      (same_some h.journal put.journal all.journal put.was all.is_journal) ∙ all.divided;
  cache = cache;
}

-- ---- behind it

-- what a step that makes ready did to the hand
hand_ready : {C B : Type 0} (h k l : Hand C B) (behind : Journal) (ready : BucketsPart)
    → Behind h k → k.journal ≡ Some behind → l ≡ record k { buckets = Some ready }
    → l ≡ record h { buckets = Some ready; journal = Some behind; cache = l.cache }
hand_ready h k l behind ready rest journal now = now
    ∙ ap (λ (x : Hand _ _). record x { buckets = Some ready }) rest
    ∙ ap (λ (j : Option Journal). record h {
      buckets = Some ready;
      journal = j;
      cache = k.cache;
    }) journal
    ∙ ap (λ (c : Option _). record h {
      buckets = Some ready;
      journal = Some behind;
      cache = c;
    }) (sym (ap (λ (x : Hand _ _). x.cache) now))

hand_still : {C B : Type 0} (h k l : Hand C B) (behind : Journal) (renewing : BucketsPart)
    → Behind h k → k.journal ≡ Some behind → k.buckets ≡ Some renewing → l ≡ k
    → l ≡ record h { buckets = Some renewing; journal = Some behind; cache = l.cache }
hand_still h k l behind renewing rest journal buckets same = same ∙ rest
    ∙ ap (λ (b : Option BucketsPart). record h {
      buckets = b;
      journal = k.journal;
      cache = k.cache;
    }) buckets
    ∙ ap (λ (j : Option Journal). record h {
      buckets = Some renewing;
      journal = j;
      cache = k.cache;
    }) journal
    ∙ ap (λ (x : Hand _ _). record h {
      buckets = Some renewing;
      journal = Some behind;
      cache = x.cache;
    }) (sym same)

module _ {C B : Type 0} (cache_facts : C → DiskFacts) (backing_facts : B → DiskFacts) where
  -- of the raised buckets and the chain, as they are in hand then
  pub may_ready : (g : Geometry) (new : List ℕ) (j : Journal) (h k : Hand C B)
      (put : IsPutIn new h k) (v w : View cache_facts backing_facts) (named back : ℕ)
      → HasPutChain cache_facts backing_facts j new v w
      → ((p : BucketsPart) → k.buckets ≡ Some p → named ≡ length p.reserves.raised)
      → ((p : BucketsPart) → h.buckets ≡ Some p → length p.chain.items ≤ back)
      → ((raised : List ℕ) → FromEach (world cache_facts backing_facts w)
      (MayReady v.first raised new))
      → (p : BucketsPart) × (k.buckets ≡ Some p) × (named ≤ length p.reserves.raised)
      × (length p.chain.items ≤ back) × FromEach (world cache_facts backing_facts w)
      (MayReady w.first (take named p.reserves.raised) new)
  may_ready g new j h k put v w named back done count room next =
      let p = put.renewing.then_ in
      let is = count p put.renewing.now in
      let few = room put.renewing.old put.renewing.was in (
        p,
        put.renewing.now,
        omega (arith, is),
        subst (λ (c : Vec ℕ Global). length c.items ≤ back) (sym put.renewing.renews.chain) few,
        subst (λ i. FromEach (world cache_facts backing_facts w)
            (MayReady i (take named p.reserves.raised) new)) (sym done.done.same.first)
            (next (take named p.reserves.raised)),
      )

  pub few_listed : (new : List ℕ) (h k : Hand C B) (put : IsPutIn new h k) (named room : ℕ)
      → ((p : BucketsPart) → k.buckets ≡ Some p → named ≡ length p.reserves.raised)
      → ((p : BucketsPart) → h.buckets ≡ Some p → length p.reserves.raised ≤ room)
      → named ≤ room
  few_listed new h k put named room count few =
      let is = count put.renewing.then_ put.renewing.now in
      let most = few put.renewing.old put.renewing.was in
      let same = ap (λ r. length r.raised) put.renewing.renews.reserves in
      omega (arith, is, most, same)

  pub finished : (g : Geometry) (new : Vec ℕ Global) (j : Journal) (h k l : Hand C B)
      (put : IsPutIn new.items h k) (v w x : View cache_facts backing_facts) (named : ℕ)
      → h.journal ≡ Some j
      → HasPutChain cache_facts backing_facts j new.items v w
      → ((p : BucketsPart) → k.buckets ≡ Some p → named ≡ length p.reserves.raised)
      → (r : Result (Unit {0}) StepError)
      → OnOk r (HasMadeReadyIn cache_facts backing_facts k named new l x)
      → OnOk r ((p : BucketsPart) × (k.buckets ≡ Some p)
      × HasReadied cache_facts backing_facts g.first_bucket p named w x)
      → OnOk r (HasFinished cache_facts backing_facts g new h l v x)
  finished g new j h k l put v w x named was done count (Ok z) part did =
      let p = put.renewing.then_ in
      let its = same_some k.buckets part.old p part.was put.renewing.now in
      let too = same_some k.buckets did.0 p did.1 put.renewing.now in
      let is = count p put.renewing.now in
      let first = same_some h.journal put.journal j put.was was in record {
        old = put.renewing.old;
        was = put.renewing.was;
        journal = j;
        was_journal = was;
        put_at = w;
        put = done;
        renewing = p;
        renews = put.renewing.renews;
        behind = put.behind;
        goes_on = subst (λ (y : Journal). GoesOnWith y new.items put.behind) first put.goes_on;
        readied = subst (λ n. HasReadied cache_facts backing_facts g.first_bucket p n w x) is
            (subst (λ (q : BucketsPart). HasReadied cache_facts backing_facts g.first_bucket q
            named w x) too did.2);
        ready = part.then_;
        made = subst (λ n. FromEach (world cache_facts backing_facts x)
            (λ o st. HasMadeReady p n new part.then_)) is
            (subst (λ (q : BucketsPart). FromEach (world cache_facts backing_facts x)
            (λ o st. HasMadeReady q named new part.then_)) its part.made);
        hand = hand_ready h k l put.behind part.then_ put.rest put.now part.now;
      }
  finished g new j h k l put v w x named was done count (Err e) part did = tt

  pub not_finished : (new : List ℕ) (j : Journal) (h k l : Hand C B)
      (put : IsPutIn new h k) (v w x : View cache_facts backing_facts)
      → h.journal ≡ Some j → HasPutChain cache_facts backing_facts j new v w
      → (r : Result (Unit {0}) StepError) → OnErr r (Did cache_facts backing_facts None w x)
      → OnErr r (l ≡ k) → IfErr r (λ e. IsHalted e x.seen)
      → IfErr r (λ e. HasNotFinished cache_facts backing_facts e new h l v x)
  not_finished new j h k l put v w x was done (Ok z) did same halted = tt
  not_finished new j h k l put v w x was done (Err e) did same halted =
      let first = same_some h.journal put.journal j put.was was in inr (record {
        old = put.renewing.old;
        was = put.renewing.was;
        journal = j;
        was_journal = was;
        put_at = w;
        put = done;
        renewing = put.renewing.then_;
        renews = put.renewing.renews;
        behind = put.behind;
        goes_on = subst (λ (y : Journal). GoesOnWith y new put.behind) first put.goes_on;
        did = did;
        halted = halted;
        hand = hand_still h k l put.behind put.renewing.then_ put.rest put.now put.renewing.now same;
      })

  pub held_ready : (before : ℕ) (h : Hand C B) (named : ℕ) (v w : View cache_facts backing_facts)
      → IsCoreSeat cache_facts backing_facts v → (r : Result (Unit {0}) StepError)
      → OnOk r ((p : BucketsPart) × (h.buckets ≡ Some p)
      × HasReadied cache_facts backing_facts before p named v w)
      → OnErr r (Did cache_facts backing_facts None v w) → KeepsHeld cache_facts backing_facts v w
  held_ready before h named v w seat (Ok z) good bad = held_deed cache_facts backing_facts v w
      (deed.Ready good.2.back good.2.listed) seat (λ q. refl) refl good.2.did
  held_ready before h named v w seat (Err e) good bad = held_waited cache_facts backing_facts None
      v w seat bad.is

  pub spent_ready : (before : ℕ) (h : Hand C B) (named : ℕ) (v w : View cache_facts backing_facts)
      → (r : Result (Unit {0}) StepError)
      → OnOk r ((p : BucketsPart) × (h.buckets ≡ Some p)
      × HasReadied cache_facts backing_facts before p named v w)
      → OnErr r (Did cache_facts backing_facts None v w) → v.promises ≤ w.promises + 1
  spent_ready before h named v w (Ok z) good bad = let spent = good.2.did.is.promises in
      omega (arith, spent)
  spent_ready before h named v w (Err e) good bad = let same = bad.is.promises in
      omega (arith, same)

-- the kinds stay
pub kinds_ready : {C B : Type 0} (k l : Hand C B) (p : BucketsPart) → k.buckets ≡ Some p
    → (r : Result (Unit {0}) StepError)
    → OnOk r ((q : BucketsPart) × (l ≡ record k { buckets = Some q })) → OnErr r (l ≡ k)
    → kinds l ≡ kinds k
kinds_ready k l p is (Ok z) good bad = ap kinds good.1
    ∙ ap (λ b. record (kinds k) { buckets = b }) (sym (ap is_some is))
kinds_ready k l p is (Err e) good bad = ap kinds bad

-- so it is, by whatever list
pub put_in : {C B : Type 0} (ns new : List ℕ) (h k : Hand C B) → ns ≡ new
    → ((x y : Journal) × (h.journal ≡ Some x) × (k.journal ≡ Some y) × GoesOnWith x ns y)
    → IsRenewingIn h k → Behind h k → IsPutIn new h k
put_in ns new h k same journal renewing rest = subst (λ (l : List ℕ). IsPutIn l h k) same (record {
  journal = journal.0;
  behind = journal.1;
  was = journal.2;
  now = journal.3;
  goes_on = journal.4;
  renewing = renewing;
  rest = rest;
})

module _ {C B : Type 0} (cache_facts : C → DiskFacts) (backing_facts : B → DiskFacts) where
  pub part_ready : (k l : Hand C B) (named : ℕ) (new : Vec ℕ Global)
      (x : View cache_facts backing_facts) (r : Result (Unit {0}) StepError)
      → OnOk r (HasMadeReadyIn cache_facts backing_facts k named new l x)
      → OnOk r ((q : BucketsPart) × (l ≡ record k { buckets = Some q }))
  part_ready k l named new x (Ok z) part = (part.then_, part.now)
  part_ready k l named new x (Err e) part = tt
