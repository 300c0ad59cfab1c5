-- What the buckets in hand are behind a refill, and behind one that a device stopped.
use Rattle.std.proofs.Common.{◌≡◌, inl, inr, ℕ, List, ◌++◌, length, Option, Some, refl, sym, ap, ◌∙◌, subst, arith}
use Rattle.std.proofs.Math.Seq.{drop-length}
use Rattle.std.proofs.lemmas.List.{take_all}
use Rattle.std.specs.Prelude.{IfSome, Vec}
use Rattle.std.specs.declared.alloc.Global.{Global}
use Rattle.bc_alloc.specs.Reserves.{Reserves, returned_all, stored_all}
use Rattle.bc_disk.specs.Disk.{DiskFacts}
use Rattle.bc_disk.specs.declared.geometry.Geometry.{Geometry}
use Rattle.bc_facts.specs.Seen.{counted}
use Rattle.bc_journal.specs.Journal.{Journal}
use Rattle.bc_new_chain.proofs.InHand.{same_some}
use Rattle.bc_new_chain.proofs.of_bc_chain.of_bc_hand.Knowing.{View}
use Rattle.bc_new_chain.specs.bc_chained.Chained.{HasRenewing}
use Rattle.bc_new_chain.specs.bc_hand.Seats.{Works, world}
use Rattle.bc_new_chain.specs.bc_hand.declared.error.StepError.{StepError}
use Rattle.bc_new_chain.specs.bc_hand.declared.hand.Hand.{Hand}
use Rattle.bc_new_chain.specs.bc_machine.World.{FromEach, IsJournal}
use Rattle.bc_new_chain.specs.bc_machine.declared.part.BucketsPart.{BucketsPart}
use Rattle.bc_new_chain.specs.bc_machine.declared.part.CorePart.{CorePart}
use Rattle.bc_new_chain.specs.bc_renew.Raised.{HasRaised}
use Rattle.bc_new_chain.specs.bc_renew.Ready.{HasMadeReady}
use Rattle.bc_parts.specs.Seat.{PartsView}
use Rattle.bc_refill.specs.Named.{HasNotFinished, HasNotNamed, HasNotPut}
use Rattle.bc_refill.specs.Raised.{HasNotRenewed, HasRenewed}
use Rattle.bc_refill.specs.Refill.{FindsChain, IsFilled}

-- ---- all of it

filled_by : (p r s t : BucketsPart) (victims : List ℕ) (new : Vec ℕ Global)
    → HasRaised p victims r → HasRenewing r s
    → HasMadeReady s (length s.reserves.raised) new t → IsFilled p victims new.items t
filled_by p r s t victims new raise renew made =
    let all : s.reserves ≡ record p.reserves { raised = p.reserves.raised ++ victims }
    = renew.reserves ∙ raise.reserves in
    let chain : s.chain ≡ p.chain = renew.chain ∙ raise.rest.chain in record {
      lists = ap (λ (x : Reserves). x.lists) made.reserves
          ∙ ap (λ (ks : List ℕ). stored_all ks (returned_all s.chain.items s.reserves.lists))
          (take_all (length s.reserves.raised) s.reserves.raised (omega arith))
          ∙ ap (λ (x : Reserves). stored_all x.raised (returned_all s.chain.items x.lists)) all
          ∙ ap (λ (c : Vec ℕ Global). stored_all (p.reserves.raised ++ victims)
          (returned_all c.items p.reserves.lists)) chain;
      none_waits = ap (λ (x : Reserves). x.raised) made.reserves ∙ drop-length s.reserves.raised;
      chain = ap (λ (c : Vec ℕ Global). c.items) made.chain;
      settled = made.renewing;
    }

module _ {C B : Type 0} (cache_facts : C → DiskFacts) (backing_facts : B → DiskFacts) where
  pub filled : (g : Geometry) (new : Vec ℕ Global) (left : BucketsPart) (h k : Hand C B)
      (v w : View cache_facts backing_facts)
      (is : HasRenewed cache_facts backing_facts g new (record h { buckets = Some left }) k v w)
      → (q : BucketsPart) × (k.buckets ≡ Some q) × FromEach (world cache_facts backing_facts w)
      (λ o st. IsFilled left is.victims new.items q)
  filled g new left h k v w is =
      let end = is.named.finished in
      let first = same_some (Some left) is.old left is.was refl in
      let second = same_some is.named.then_.buckets end.old is.raised end.was
      (ap (λ (x : Hand C B). x.buckets) is.named.between) in (
        end.ready,
        ap (λ (x : Hand C B). x.buckets) end.hand,
        λ o origin course. filled_by left is.raised end.renewing end.ready is.victims new
            (subst (λ (p : BucketsPart). HasRaised p is.victims is.raised) first is.has_raised)
            (subst (λ (p : BucketsPart). HasRenewing p end.renewing) second end.renews)
            (end.made o origin course),
      )

  -- ---- or less

  -- the lists are those of these buckets
  abbrev pub HasListsOf : BucketsPart → Hand C B → Type 0
  HasListsOf p k = (q : BucketsPart) × (k.buckets ≡ Some q) × (q.reserves.lists ≡ p.reserves.lists)

  lists_put : (e : StepError) (new : List ℕ) (p : BucketsPart) (h k : Hand C B)
      (v w : View cache_facts backing_facts) → h.buckets ≡ Some p
      → HasNotPut cache_facts backing_facts e new h k v w → HasListsOf p k
  lists_put e new p h k v w is cut = elim cut.cut.cut [
    | inl none ↦ (p, ap (λ (x : Hand C B). x.buckets) none.same ∙ is, refl)
    | inr some ↦ (
      some.buckets.then_,
      some.buckets.now,
      ap (λ (x : Reserves). x.lists) some.buckets.renews.reserves
          ∙ ap (λ (x : BucketsPart). x.reserves.lists)
          (same_some h.buckets some.buckets.old p some.buckets.was is),
    )
  ]

  lists_end : (e : StepError) (new : List ℕ) (p : BucketsPart) (h k : Hand C B)
      (v w : View cache_facts backing_facts) → h.buckets ≡ Some p
      → HasNotFinished cache_facts backing_facts e new h k v w → HasListsOf p k
  lists_end e new p h k v w is not = elim not [
    | inl cut ↦ lists_put e new p h k v w is cut
    | inr none ↦ (
      none.renewing,
      ap (λ (x : Hand C B). x.buckets) none.hand,
      ap (λ (x : Reserves). x.lists) none.renews.reserves
          ∙ ap (λ (x : BucketsPart). x.reserves.lists)
          (same_some h.buckets none.old p none.was is),
    )
  ]

  lists_named : (e : StepError) (g : Geometry) (new : List ℕ) (p : BucketsPart) (h k : Hand C B)
      (v w : View cache_facts backing_facts) → h.buckets ≡ Some p
      → HasNotNamed cache_facts backing_facts e g new p h k v w → HasListsOf p k
  lists_named e g new p h k v w is not = elim not [
    | inl lost ↦ (p, ap (λ (x : Hand C B). x.buckets) lost.hand ∙ is, refl)
    | inr more ↦ lists_end e new p more.then_ k more.written_at w
        (ap (λ (x : Hand C B). x.buckets) more.between ∙ is) more.not_finished
  ]

  pub lists_same : (e : StepError) (g : Geometry) (new : List ℕ) (left : BucketsPart)
      (h k : Hand C B) (v w : View cache_facts backing_facts)
      → HasNotRenewed cache_facts backing_facts e g new (record h { buckets = Some left }) k v w
      → HasListsOf left k
  lists_same e g new left h k v w not = elim not [
    | inl some ↦
        let part = some.some.part in
        let one = same_some (Some left) some.old left some.was refl in
        let two = same_some (Some some.searched) part.0 some.searched part.2 refl in (
          part.1,
          ap (λ (x : Hand C B). x.buckets) part.3,
          ap (λ (x : Reserves). x.lists) part.4.reserves
              ∙ ap (λ (x : BucketsPart). x.reserves.lists) two
              ∙ ap (λ (x : Reserves). x.lists) some.same.reserves
              ∙ ap (λ (x : BucketsPart). x.reserves.lists) one,
        )
    | inr more ↦
        let one = same_some (Some left) more.old left more.was refl in
        let at = lists_named e g new more.raised
        (record h { buckets = Some more.raised }) k more.raised_at w refl more.not_named in (
          at.0,
          at.1,
          at.2 ∙ ap (λ (x : Reserves). x.lists) more.has_raised.reserves
              ∙ ap (λ (x : BucketsPart). x.reserves.lists) one,
        )
  ]

  -- ---- what a crash finds

  pub finds : (p : PartsView (CorePart C B)) (v : View cache_facts backing_facts) (h : Hand C B)
      → Works cache_facts backing_facts p v h → (j : Journal) → h.journal ≡ Some j
      → FromEach (world cache_facts backing_facts v) (FindsChain j.ring.geometry j.heads.prio)
  finds p v h works j is o origin course =
      let stands = subst (λ (o : Option Journal). IfSome o (λ j. IsJournal j
      (world cache_facts backing_facts v))) is works.stand.journal in
      let heads = (stands.stands o origin course).heads in
      ap (λ e. e.prio) heads.is ∙ ap (λ x. counted j.ring.geometry x.prio) (sym heads.heads_are)
