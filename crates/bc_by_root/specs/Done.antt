-- What a seat has done that changed the tree, and where it came no further.
use Rattle.std.specs.Prelude.{◌≡◌, ◌⊎◌, ℕ, List, Option, ◌*◌, ◌^◌, ◌<◌, ◌≤◌, true, [], None, Some, is_some}
use Rattle.bc_by_root.specs.Given.{AreDurableTo, MayChange}
use Rattle.bc_by_root.specs.Prepared.{NamesNode, SameChange}
use Rattle.bc_by_root.specs.declared.error.ByRootError.{ByRootError}
use Rattle.bc_by_root.specs.declared.error.ByRootError.TheVariants as error
use Rattle.bc_by_root.specs.declared.error.NotBegun.{NotBegun}
use Rattle.bc_by_root.specs.declared.error.NotBegun.TheVariants as no
use Rattle.bc_by_root.specs.declared.prepare.Installing.{Installing}
use Rattle.bc_install.specs.bc_change.Goes.{BringsRoot}
use Rattle.bc_install.specs.bc_deed.Asked.{IsHalted}
use Rattle.bc_install.specs.bc_deed.Flushed.{HasDone}
use Rattle.bc_install.specs.bc_entry.Put.{IsNoFault}
use Rattle.bc_install.specs.bc_hand.Seats.{View, world}
use Rattle.bc_install.specs.bc_hand.declared.error.StepError.{StepError}
use Rattle.bc_install.specs.bc_hand.declared.error.StepError.TheVariants as step
use Rattle.bc_install.specs.bc_hand.declared.hand.Hand.{Hand}
use Rattle.bc_install.specs.bc_hand.declared.hand.LeafHand.{LeafHand}
use Rattle.bc_install.specs.bc_machine.World.{IsJournal, World}
use Rattle.bc_install.specs.bc_machine.declared.part.BucketsPart.{BucketsPart}
use Rattle.bc_install.specs.bc_machine.declared.part.SpinePart.{SpinePart}
use Rattle.bc_disk.specs.Disk.{DiskFacts}
use Rattle.bc_disk.specs.declared.disk.Device.{Device}
use Rattle.bc_disk.specs.declared.disk.Device.TheVariants.{Cache}
use Rattle.bc_events.specs.Columns.{halt_of}
use Rattle.bc_events.specs.declared.event.Change.{Change}
use Rattle.bc_events.specs.declared.event.Event.{Event}
use Rattle.bc_inner.specs.Inner.{Inner}
use Rattle.bc_install.specs.RootPut.{HasCutRootAt, HasPutRoot}
use Rattle.bc_install.specs.Step.{HasInstalled, MayInstall}
use Rattle.bc_journal.specs.Journal.{HasRoom, Journal, number_of}
use Rattle.bc_journal.specs.declared.heads.Heads.{Heads}
use Rattle.bc_spine.specs.Exchange.{going}
use Rattle.bc_tree.specs.declared.plan.Plan.{Plan}

-- ---- why nothing was done

-- A leaf that goes has keys pending of entries that aren't durable yet.
abbrev pub IsPending : {C B : Type 0} → Hand C B → Plan → Journal → Type 0
IsPending h plan j = (p : SpinePart) (l : LeafHand) → h.spine ≡ Some p → h.leaves ≡ Some l
    → AreDurableTo l.cache.slots (going p.spine.leaves plan.leaves) j.durable.seq → ⊥

-- the journal tells why there can be no entry
abbrev pub IsNoEntry : NotBegun → Journal → Type 0
IsNoEntry no.Unwritten j = is_some j.sealed ≡ true
IsNoEntry no.Number j = 2 ^ 63 ≤ number_of j
IsNoEntry no.Place j = HasRoom j 0 → ⊥
IsNoEntry why j = ⊥

-- or there was no memory, or the leaves that go or the device tell why
abbrev pub IsWhy : {C B : Type 0} → (sectors : ℕ) → Hand C B → Plan → NotBegun → Journal → Type 0
IsWhy sectors h plan no.Memory j = Unit {0}
IsWhy sectors h plan no.Unwritten j = is_some j.sealed ≡ true
IsWhy sectors h plan no.Number j = 2 ^ 63 ≤ number_of j
IsWhy sectors h plan no.Place j = HasRoom j 0 → ⊥
IsWhy sectors h plan no.Pending j = IsPending h plan j
IsWhy sectors h plan no.Outside j = sectors < j.ring.geometry.bucket * j.ring.geometry.nbuckets

-- Where no entry was begun, the seat had heard of no halt: that is never taken for something behind
-- which a change may be tried again.
abbrev pub IsUnheardAt : ByRootError → Option Device → Type 0
IsUnheardAt (error.NotBegun why) heard = heard ≡ None
IsUnheardAt (error.Entry e) heard = Unit {0}
IsUnheardAt (error.Install e) heard = Unit {0}

-- Where no entry was begun, the same change may be tried again.
abbrev pub MayAgain : {C B : Type 0} → ByRootError → Hand C B → (parts i : ℕ) → Plan → World
    → Type 0
MayAgain (error.NotBegun why) h parts i plan x = MayChange h parts i plan x
MayAgain (error.Entry e) h parts i plan x = Unit {0}
MayAgain (error.Install e) h parts i plan x = Unit {0}

-- Then the seat has all promises that it had.
abbrev pub KeepsPromises : ByRootError → ℕ → ℕ → Type 0
KeepsPromises (error.NotBegun why) before after = before ≤ after
KeepsPromises (error.Entry e) before after = Unit {0}
KeepsPromises (error.Install e) before after = Unit {0}

-- ---- why the entry came no further

-- a call of the cache device failed, or a device had halted the run
abbrev pub IsStop : StepError → List Event → Type 0
IsStop (step.Fault device) es = device ≡ Cache
IsStop (step.Halted device) es = halt_of es ≡ Some device
IsStop step.Memory es = ⊥

-- What a step's error is as one of the change: for want of memory no entry was begun.
abbrev pub refused_by : StepError → ByRootError
refused_by (step.Fault device) = error.Entry (step.Fault device)
refused_by (step.Halted device) = error.Entry (step.Halted device)
refused_by step.Memory = error.NotBegun no.Memory

-- ---- once the entry is durable

-- The change may be installed, with whatever buckets are taken for it.
abbrev pub IsToInstall : {C B : Type 0} → Hand C B → (parts i : ℕ) → Plan → Installing → World
    → Type 0
IsToInstall h parts i plan s x = (b : BucketsPart) → MayInstall (record h { buckets = Some b })
    parts i s.first plan s.change s.come s.gone x

-- the root that the plan brings to the tree in hand
abbrev pub IsBroughtTo : {C B : Type 0} → Hand C B → Plan → Inner → Type 0
IsBroughtTo h plan root =
    (p : SpinePart) → h.spine ≡ Some p → BringsRoot p.spine plan root

module _ {C B : Type 0} (cache_facts : C → DiskFacts) (backing_facts : B → DiskFacts) where
  -- The seat waited, and a journal stood for the run then.
  pub record HasStood (j : Journal) (v w : View cache_facts backing_facts) : Type 0 where
    pub before : HasDone cache_facts backing_facts [] v w
    pub stands : IsJournal j (world cache_facts backing_facts w)

  -- Nothing was done, since that journal told so.
  pub record HasNotBegun (sectors : ℕ) (h : Hand C B) (plan : Plan) (why : NotBegun)
      (v w : View cache_facts backing_facts) : Type 0 where
    pub at : View cache_facts backing_facts
    pub journal : Journal
    pub stood : HasStood journal v at
    pub why_is : IsWhy sectors h plan why journal
    pub since : HasDone cache_facts backing_facts [] at w

  -- The entry was put that names the plan's root, and else what the journal's last one named. By it
  -- the change is under way, which the install is given once more.
  pub record HasPut (h : Hand C B) (plan : Plan) (s : Installing)
      (v w : View cache_facts backing_facts) : Type 0 where
    pub at : View cache_facts backing_facts
    pub journal : Journal
    pub stood : HasStood journal v at
    pub root : Inner
    pub brought : IsBroughtTo h plan root
    pub heads : Heads
    pub named : NamesNode journal.heads root heads
    pub change : Change
    pub same : SameChange change s.change
    pub slot : ℕ
    pub put : HasPutRoot cache_facts backing_facts journal heads slot plan change at w

  -- It came so far behind its seal, for this error.
  pub record HasCutAt (h : Hand C B) (plan : Plan) (e : StepError)
      (v w : View cache_facts backing_facts) : Type 0 where
    pub at : View cache_facts backing_facts
    pub journal : Journal
    pub stood : HasStood journal v at
    pub root : Inner
    pub brought : IsBroughtTo h plan root
    pub heads : Heads
    pub named : NamesNode journal.heads root heads
    pub change : Change
    pub slot : ℕ
    pub cut : HasCutRootAt cache_facts backing_facts e journal heads slot change at w

  -- Nothing was done, since a device had halted the run, or it came so far.
  pub record HasCut (h : Hand C B) (plan : Plan) (e : StepError)
      (v w : View cache_facts backing_facts) : Type 0 where
    pub far : (IsNoFault e × HasDone cache_facts backing_facts [] v w) ⊎ HasCutAt h plan e v w
    pub cause : IsStop e w.seen

  -- ---- the install

  -- The buckets were taken, the change was installed, and the buckets are given back. Leaves are in
  -- so many parts.
  pub record HasInstalledIn (count : ℕ) (plan : Plan) (s : Installing) (h k : Hand C B)
      (v w : View cache_facts backing_facts) : Type 0 where
    pub from : View cache_facts backing_facts
    pub to : View cache_facts backing_facts
    pub before : HasDone cache_facts backing_facts [] v from
    pub taken : BucketsPart
    pub with_them : Hand C B
    pub installed : HasInstalled cache_facts backing_facts count plan s.change s.first s.come
        s.gone (record h { buckets = Some taken }) with_them from to
    pub is : k ≡ record with_them { buckets = None }
    pub since : HasDone cache_facts backing_facts [] to w

  -- ---- the whole

  pub record HasChanged (count : ℕ) (plan : Plan) (h k : Hand C B)
      (v w : View cache_facts backing_facts) : Type 0 where
    pub given : Installing
    pub between : View cache_facts backing_facts
    pub put : HasPut h plan given v between
    pub installed : HasInstalledIn count plan given h k between w

  -- The entry was put, and a device had halted the run before the install.
  pub record HasNotInstalled (h : Hand C B) (plan : Plan) (e : StepError)
      (v w : View cache_facts backing_facts) : Type 0 where
    pub given : Installing
    pub between : View cache_facts backing_facts
    pub put : HasPut h plan given v between
    pub since : HasDone cache_facts backing_facts [] between w
    pub cause : IsHalted e w.seen

  -- it came no further than to the entry
  abbrev pub HasNotPut : (sectors : ℕ) → Hand C B → Plan → ByRootError
      → View cache_facts backing_facts → View cache_facts backing_facts → Type 0
  HasNotPut sectors h plan (error.NotBegun why) v w = HasNotBegun sectors h plan why v w
  HasNotPut sectors h plan (error.Entry e) v w = HasCut h plan e v w
  HasNotPut sectors h plan (error.Install e) v w = ⊥

  abbrev pub HasNotChanged : (sectors : ℕ) → Hand C B → Plan → ByRootError
      → View cache_facts backing_facts → View cache_facts backing_facts → Type 0
  HasNotChanged sectors h plan (error.NotBegun why) v w = HasNotBegun sectors h plan why v w
  HasNotChanged sectors h plan (error.Entry e) v w = HasCut h plan e v w
  HasNotChanged sectors h plan (error.Install e) v w = HasNotInstalled h plan e v w
