-- What was done between taking parts and giving them back.
use Rattle.std.proofs.Common.{◌≡◌, ◌⊎◌, inl, inr, ℕ, sym, ◌∙◌, subst}
use Rattle.std.specs.Prelude.{Err, IfErr, IfOk, Ok, Result, []}
use Rattle.bc_disk.specs.Disk.{DiskFacts}
use Rattle.bc_install.proofs.of_bc_hand.Knowing.{View}
use Rattle.bc_install.specs.bc_deed.Flushed.{HasDone}
use Rattle.bc_install.specs.bc_entry.Put.{IsNoFault}
use Rattle.bc_install.specs.bc_hand.Seats.{world}
use Rattle.bc_install.specs.bc_hand.declared.error.StepError.{StepError}
use Rattle.bc_install.specs.bc_hand.declared.hand.Hand.{Hand}
use Rattle.bc_install.specs.bc_machine.World.{FromEach, World}
use Rattle.bc_install.specs.bc_change.Under.{IsByRoot}
use Rattle.bc_install.specs.bc_entry.Entry.{IsNewestEntry}
use Rattle.bc_journal.specs.Journal.{Journal}
use Rattle.bc_tree.specs.declared.plan.Plan.{Plan}
use Rattle.bc_by_root.proofs.Handed.{SameTree}
use Rattle.bc_by_root.proofs.Later.{then_done, twice_done}
use Rattle.bc_by_root.specs.Done.{HasCutAt, HasNotPut, HasPut, HasStood, IsStop, IsWhy}
use Rattle.bc_by_root.specs.declared.error.ByRootError.{ByRootError}
use Rattle.bc_by_root.specs.declared.error.ByRootError.TheVariants as error
use Rattle.bc_by_root.specs.declared.error.NotBegun.{NotBegun}
use Rattle.bc_by_root.specs.declared.error.NotBegun.TheVariants as no
use Rattle.bc_by_root.specs.declared.prepare.Installing.{Installing}

module _ {C B : Type 0} (cache_facts : C → DiskFacts) (backing_facts : B → DiskFacts)
    (t u v w : View cache_facts backing_facts) (first : HasDone cache_facts backing_facts [] t u)
    (last : HasDone cache_facts backing_facts [] v w) (same : w.seen ≡ v.seen)
    (world_is : world cache_facts backing_facts w ≡ world cache_facts backing_facts v)
    (h k : Hand C B) (tree : SameTree h k) (plan : Plan) where
  stood_on : (j : Journal) (at : View cache_facts backing_facts)
      → HasStood cache_facts backing_facts j u at → HasStood cache_facts backing_facts j t at
  stood_on j at h = record {
    before = twice_done cache_facts backing_facts t u at first h.before;
    stands = h.stands;
  }

  why_as : (sectors : ℕ) (why : NotBegun) (j : Journal) → IsWhy sectors k plan why j
      → IsWhy sectors h plan why j
  why_as sectors no.Memory j is = tt
  why_as sectors no.Unwritten j is = is
  why_as sectors no.Number j is = is
  why_as sectors no.Place j is = is
  why_as sectors no.Pending j is =
      λ p l spine leaves. is p l (tree.spine ∙ spine) (tree.leaves ∙ leaves)
  why_as sectors no.Outside j is = is

  put_on : (s : Installing) → HasPut cache_facts backing_facts k plan s u v
      → HasPut cache_facts backing_facts h plan s t w
  put_on s it = record {
    at = it.at;
    journal = it.journal;
    stood = stood_on it.journal it.at it.stood;
    root = it.root;
    brought = λ p spine. it.brought p (tree.spine ∙ spine);
    heads = it.heads;
    named = it.named;
    change = it.change;
    same = it.same;
    slot = it.slot;
    put = record {
      deeds = it.put.deeds;
      at = it.put.at;
      values = it.put.values;
      values_are = it.put.values_are;
      more_is = it.put.more_is;
      done = then_done cache_facts backing_facts it.put.deeds it.at v w it.put.done last;
      newest = subst (λ (x : World). FromEach x
          (IsNewestEntry it.put.at.sealed.geometry it.put.at.sealed.entry)) (sym world_is)
          it.put.newest;
      under = subst (λ (x : World). FromEach x
          (IsByRoot it.at.first plan it.change it.put.at.sealed.entry.seq it.slot))
          (sym world_is) it.put.under;
    };
  }

  pub put_around : {E : Type 0} (r : Result Installing E)
      → IfOk r (λ s. HasPut cache_facts backing_facts k plan s u v)
      → IfOk r (λ s. HasPut cache_facts backing_facts h plan s t w)
  put_around (Ok s) it = put_on s it
  put_around (Err e) it = tt

  cut_on : (e : StepError) → HasCutAt cache_facts backing_facts k plan e u v
      → HasCutAt cache_facts backing_facts h plan e t w
  cut_on e it = record {
    at = it.at;
    journal = it.journal;
    stood = stood_on it.journal it.at it.stood;
    root = it.root;
    brought = λ p spine. it.brought p (tree.spine ∙ spine);
    heads = it.heads;
    named = it.named;
    change = it.change;
    slot = it.slot;
    cut = record {
      deeds = it.cut.deeds;
      cut = it.cut.cut;
      done = then_done cache_facts backing_facts it.cut.deeds it.at v w it.cut.done last;
    };
  }

  far_on : (e : StepError) → (IsNoFault e × HasDone cache_facts backing_facts [] u v)
      ⊎ HasCutAt cache_facts backing_facts k plan e u v
      → (IsNoFault e × HasDone cache_facts backing_facts [] t w)
      ⊎ HasCutAt cache_facts backing_facts h plan e t w
  far_on e (inl none) = inl (
    none.0,
    twice_done cache_facts backing_facts t v w
        (twice_done cache_facts backing_facts t u v first none.1) last,
  )
  far_on e (inr it) = inr (cut_on e it)

  refused_on : (sectors : ℕ) (e : ByRootError)
      → HasNotPut cache_facts backing_facts sectors k plan e u v
      → HasNotPut cache_facts backing_facts sectors h plan e t w
  refused_on sectors (error.NotBegun why) it = record {
    at = it.at;
    journal = it.journal;
    stood = stood_on it.journal it.at it.stood;
    why_is = why_as sectors why it.journal it.why_is;
    since = twice_done cache_facts backing_facts it.at v w it.since last;
  }
  refused_on sectors (error.Entry e) it = record {
    far = far_on e it.far;
    cause = subst (IsStop e) (sym same) it.cause;
  }
  refused_on sectors (error.Install e) it = it

  pub refused_around : {A : Type 0} (sectors : ℕ) (r : Result A ByRootError)
      → IfErr r (λ e. HasNotPut cache_facts backing_facts sectors k plan e u v)
      → IfErr r (λ e. HasNotPut cache_facts backing_facts sectors h plan e t w)
  refused_around sectors (Ok s) it = tt
  refused_around sectors (Err e) it = refused_on sectors e it
