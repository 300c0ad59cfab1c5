-- One refusal is the first, and none where everything was found.
use Rattle.std.proofs.Common.{◌≡◌, inl, inr, ℕ, List, refl, sym, subst, ap, ◌∙◌, arith}
use Rattle.bc_disk.specs.Gens.{Gens}
use Rattle.bc_disk.specs.declared.disk.Device.{Device}
use Rattle.bc_disk.specs.declared.disk.Device.TheVariants.{Cache, Backing}
use Rattle.bc_disk.specs.declared.geometry.Geometry.{Geometry}
use Rattle.bc_entries.specs.Journal.{Journal, HasJournal, IsRefused as IsJournalRefused}
use Rattle.bc_entries.specs.declared.error.JournalError.{JournalError}
use Rattle.bc_entries.specs.declared.error.JournalError.TheVariants as journal
use Rattle.bc_entries.proofs.OneAnswer.{one_cause as one_journal_cause, no_cause}
use Rattle.bc_image.specs.Pair.{Pair, super_bytes, HasBacking, HasCache}
use Rattle.bc_image.specs.Sound.{HasSuperblocks}
use Rattle.bc_image.proofs.Unique.{one_backing, one_cache, same_newest}
use Rattle.bc_jset.specs.Entries.{FoundEntry}
use Rattle.bc_prio.specs.Records.{ChainIn, RefusedIn}
use Rattle.bc_prio.specs.declared.error.PrioError.{PrioError}
use Rattle.bc_prio.proofs.Refused.{never_both as no_chain_cause, one_cause as one_chain_cause}
use Rattle.bc_super.specs.Cache.{IsCacheRefused}
use Rattle.bc_super.specs.Super.{IsRefused, Unless}
use Rattle.bc_super.specs.declared.backing.BackingSuper.{BackingSuper}
use Rattle.bc_super.specs.declared.cache.CacheSuper.{CacheSuper}
use Rattle.bc_super.specs.declared.error.SuperError.{SuperError}
use Rattle.bc_super.proofs.Geometries.{one_geometry}
use Rattle.bc_super.proofs.Readings.{apart, never_both_cache}
use Rattle.bc_super.specs.Division.{IsGeometryOf}
use Rattle.bc_replay.specs.declared.error.OpenError.{OpenError}
use Rattle.bc_replay.specs.declared.error.OpenError.TheVariants as errors
use Rattle.bc_replay.specs.First.{IsBackingRefused, IsCacheDeviceRefused, IsReady, IsSuperRefused, BehindSupers, BehindJournal, BehindGens, IsJournalFirst, IsFirstHead}
use Rattle.bc_replay.specs.Heads.{HasSupers, NamesDevice, HasHeads}
use Rattle.bc_replay.specs.Stages.{open_of, IsOne}
use Rattle.bc_replay.specs.Stages.IsOne.{super as of_super, entries as of_entries, chain as of_chain, table as of_table}

-- ---- the superblocks

both : {p r s : Type 0} {e f x : SuperError} → Unless p (e ≡ x) r → Unless p (f ≡ x) s → (r → s → e ≡ f) → e ≡ f
both (inl a) (inl b) on = a.1 ∙ sym b.1
both (inl a) (inr b) on = absurd (a.0 b.0)
both (inr a) (inl b) on = absurd (b.0 a.0)
both (inr a) (inr b) on = on a.1 b.1

one_refused : (bytes : List ℕ) (n : ℕ) (e f : SuperError) → IsRefused bytes n e → IsRefused bytes n f → e ≡ f
one_refused bytes n e f p q =
    both p q (λ p q. both p q (λ p q. both p q (λ p q. both p q (λ p q. both p q (λ p q. both p q (λ p q. both p q (λ p q. both p q (λ p q. absurd p))))))))

one_cache_refused : (bytes : List ℕ) (n : ℕ) (e f : SuperError) → IsCacheRefused bytes n e → IsCacheRefused bytes n f → e ≡ f
one_cache_refused bytes n e f p q =
    both p q (λ p q. both p q (λ p q. both p q (λ p q. both p q (λ p q. both p q (λ p q. both p q (λ p q. both p q (λ p q. both p q (λ p q. both p q (λ p q. both p q (λ p q. both p q (λ p q. both p q (λ p q.
    both p q (λ p q. both p q (λ p q. both p q (λ p q. absurd p)))))))))))))))

module _ (p : Pair) where
  one_own : (e f : SuperError) → IsBackingRefused p e → IsBackingRefused p f → e ≡ f
  one_own e f (inl a) (inl b) = a.1 ∙ sym b.1
  one_own e f (inl a) (inr b) = let low = a.0 in let high = b.0 in absurd (omega (arith, low, high))
  one_own e f (inr a) (inl b) = let high = a.0 in let low = b.0 in absurd (omega (arith, low, high))
  one_own e f (inr a) (inr b) = one_refused (super_bytes p.backing) p.backing_sectors e f a.1 b.1

  one_cache_own : (e f : SuperError) → IsCacheDeviceRefused p e → IsCacheDeviceRefused p f → e ≡ f
  one_cache_own e f (inl a) (inl b) = a.1 ∙ sym b.1
  one_cache_own e f (inl a) (inr b) = let low = a.0 in let high = b.0 in absurd (omega (arith, low, high))
  one_cache_own e f (inr a) (inl b) = let high = a.0 in let low = b.0 in absurd (omega (arith, low, high))
  one_cache_own e f (inr a) (inr b) = one_cache_refused (super_bytes p.cache) p.cache_sectors e f a.1 b.1

  not_backing : (e : SuperError) (b : BackingSuper) → IsBackingRefused p e → HasBacking p b → ⊥
  not_backing e b (inl small) has = let low = small.0 in let high = has.0 in absurd (omega (arith, low, high))
  not_backing e b (inr own) has = apart (super_bytes p.backing) p.backing_sectors b e has.1 own.1

  not_cache : (e : SuperError) (c : CacheSuper) → IsCacheDeviceRefused p e → HasCache p c → ⊥
  not_cache e c (inl small) has = let low = small.0 in let high = has.0 in absurd (omega (arith, low, high))
  not_cache e c (inr own) has = never_both_cache (super_bytes p.cache) p.cache_sectors c e has.1 own.1

  same_ready : (a b : BackingSuper) (c d : CacheSuper) → HasBacking p a → HasBacking p b → HasCache p c → HasCache p d → IsReady a c → IsReady b d
  same_ready a b c d x y z w ready = subst (λ (s : BackingSuper). IsReady s d) (one_backing p a b x y) (subst (λ (s : CacheSuper). IsReady a s) (one_cache p c d z w) ready)

  one_super : (d e : Device) (why cause : SuperError) → IsSuperRefused p d why → IsSuperRefused p e cause → errors.Super d why ≡ errors.Super e cause
  one_super Backing Backing why cause (inl x) (inl y) = ap (λ w. errors.Super Backing w) (one_own why cause x y)
  one_super Backing Backing why cause (inl x) (inr y) = absurd (not_backing why y.0 x y.2)
  one_super Backing Backing why cause (inr x) (inl y) = absurd (not_backing cause x.0 y x.2)
  one_super Backing Backing why cause (inr x) (inr y) = ap (λ w. errors.Super Backing w) (x.6 ∙ sym y.6)
  one_super Backing Cache why cause (inl x) (inl y) = absurd (not_backing why y.0 x y.1)
  one_super Backing Cache why cause (inl x) (inr y) = absurd (not_backing why y.0 x y.2)
  one_super Backing Cache why cause (inr x) (inl y) = absurd (not_cache cause x.1 y.2 x.3)
  one_super Backing Cache why cause (inr x) (inr y) = absurd (y.4 (same_ready x.0 y.0 x.1 y.1 x.2 y.2 x.3 y.3 x.4))
  one_super Cache Backing why cause (inl x) (inl y) = absurd (not_backing cause x.0 y x.1)
  one_super Cache Backing why cause (inr x) (inl y) = absurd (not_backing cause x.0 y x.2)
  one_super Cache Backing why cause (inl x) (inr y) = absurd (not_cache why y.1 x.2 y.3)
  one_super Cache Backing why cause (inr x) (inr y) = absurd (x.4 (same_ready y.0 x.0 y.1 x.1 y.2 x.2 y.3 x.3 y.4))
  one_super Cache Cache why cause (inl x) (inl y) = ap (λ w. errors.Super Cache w) (one_cache_own why cause x.2 y.2)
  one_super Cache Cache why cause (inl x) (inr y) = absurd (not_cache why y.1 x.2 y.3)
  one_super Cache Cache why cause (inr x) (inl y) = absurd (not_cache cause x.1 y.2 x.3)
  one_super Cache Cache why cause (inr x) (inr y) = ap (λ w. errors.Super Cache w) (x.5 ∙ sym y.5)

  ready : (b : BackingSuper) (c : CacheSuper) → HasSuperblocks b c → IsReady b c
  ready b c fit = ((λ none. elim fit.state [ inl clean ↦ absurd (omega (arith, none, clean)) | inr dirty ↦ absurd (omega (arith, none, dirty)) ]), fit.initialised)

  no_super : (d : Device) (why : SuperError) (b : BackingSuper) (c : CacheSuper) (g : Geometry) → IsSuperRefused p d why → HasSupers p b c g → ⊥
  no_super Backing why b c g (inl x) has = not_backing why b x has.backing
  no_super Backing why b c g (inr x) has =
      x.5 (subst (λ (s : BackingSuper). s.set_uuid ≡ x.1.set_uuid) (one_backing p b x.0 has.backing x.2) (subst (λ (s : CacheSuper). b.set_uuid ≡ s.set_uuid) (one_cache p c x.1 has.cache x.3) has.fit.same_set))
  no_super Cache why b c g (inl x) has = not_cache why c x.2 has.cache
  no_super Cache why b c g (inr x) has = x.4 (same_ready b x.0 c x.1 has.backing x.2 has.cache x.3 (ready b c has.fit))

  -- ---- what stands behind them

  at_supers : (P : BackingSuper → Geometry → Type 0) (b : BackingSuper) (c : CacheSuper) (g : Geometry) → HasSupers p b c g → BehindSupers p P → P b g
  at_supers P b c g has x =
      let cache = one_cache p x.1 c x.3.cache has.cache in
      let geometry = one_geometry c x.2 g (subst (λ (s : CacheSuper). IsGeometryOf s x.2) cache x.3.geometry) has.geometry in
      subst (λ (k : Geometry). P b k) geometry (subst (λ (s : BackingSuper). P s x.2) (one_backing p x.0 b x.3.backing has.backing) x.4)

  abbrev JournalAt : (FoundEntry → Type 0) → Geometry → Type 0
  JournalAt Q g = (j : Journal) × ((has : HasJournal g p.cache j) × Q has.entries.newest)

  at_journal : (g : Geometry) (Q : FoundEntry → Type 0) (j : Journal) (has : HasJournal g p.cache j) → JournalAt Q g → Q has.entries.newest
  at_journal g Q j has x = subst Q (same_newest g p.cache x.0.entries j.entries x.1.0.entries has.entries) x.1.1

  no_entries : (g : Geometry) (Q : FoundEntry → Type 0) (why : JournalError) → JournalAt Q g → IsJournalRefused g p.cache why → ⊥
  no_entries g Q why x refused = no_cause g p.cache x.0 why x.1.0 refused

  -- ---- one refusal

  pub which : (e : OpenError) → IsFirstHead p e → IsOne p e
  which (errors.Super d why) first = of_super d why refl first
  which errors.NoJournal first = of_entries journal.NoJournal refl first
  which (errors.JournalGap from to) first = of_entries (journal.Gap from to) refl first
  which (errors.JournalEnd seq) first = of_entries (journal.End seq) refl first
  which (errors.Prio why) first = of_chain why refl first
  which errors.Uuid first = of_table refl first
  which (errors.Node bucket why) first = absurd first
  which (errors.PointerRange word) first = absurd first
  which (errors.TwoUses bucket) first = absurd first
  which (errors.NoSpare found) first = absurd first
  which (errors.Fault d) first = absurd first
  which errors.Memory first = absurd first

  abbrev ChainRefused : PrioError → BackingSuper → Geometry → FoundEntry → Type 0
  ChainRefused why b g newest = RefusedIn g p.cache newest.item.prio why

  abbrev NotNamed : BackingSuper → Geometry → FoundEntry → Type 0
  NotNamed b g newest = ¬ (NamesDevice g p.cache newest.item.uuid_bucket b.uuid)

  abbrev WithGens : (BackingSuper → Geometry → FoundEntry → Type 0) → BackingSuper → Geometry → FoundEntry → Type 0
  WithGens P b g newest = (gens : Gens) × ChainIn g p.cache newest.item.prio gens × P b g newest

  entries_or_behind : (why : JournalError) (P : BackingSuper → Geometry → FoundEntry → Type 0) → IsJournalFirst p why → BehindJournal p P → ⊥
  entries_or_behind why P x y =
      let at = at_supers (λ b g. JournalAt (P b g) g) x.0 x.1 x.2 x.3 y in
      no_entries x.2 (P x.0 x.2) why at x.4

  one_entries : (e f : JournalError) → IsJournalFirst p e → IsJournalFirst p f → e ≡ f
  one_entries e f x y = one_journal_cause x.2 p.cache e f x.4 (at_supers (λ b g. IsJournalRefused g p.cache f) x.0 x.1 x.2 x.3 y)

  one_chain : (e f : PrioError) → BehindJournal p (ChainRefused e) → BehindJournal p (ChainRefused f) → e ≡ f
  one_chain e f x y =
      let at = at_supers (λ b g. JournalAt (ChainRefused f b g) g) x.0 x.1 x.2 x.3 y in
      let other = at_journal x.2 (ChainRefused f x.0 x.2) x.4.0 x.4.1.0 at in
      one_chain_cause x.2 p.cache x.4.1.0.entries.newest.item.prio e f x.4.1.1 other

  chain_or_table : (e : PrioError) → BehindJournal p (ChainRefused e) → BehindGens p NotNamed → ⊥
  chain_or_table e x y =
      let at = at_supers (λ b g. JournalAt (WithGens NotNamed b g) g) x.0 x.1 x.2 x.3 y in
      let other = at_journal x.2 (WithGens NotNamed x.0 x.2) x.4.0 x.4.1.0 at in
      no_chain_cause x.2 p.cache x.4.1.0.entries.newest.item.prio other.0 e other.1 x.4.1.1

  same : (e f : OpenError) → IsOne p e → IsOne p f → e ≡ f
  same e f (of_super d why is x) (of_super k cause at y) = is ∙ one_super d k why cause x y ∙ sym at
  same e f (of_super d why is x) (of_entries cause at y) = absurd (no_super d why y.0 y.1 y.2 x y.3)
  same e f (of_super d why is x) (of_chain cause at y) = absurd (no_super d why y.0 y.1 y.2 x y.3)
  same e f (of_super d why is x) (of_table at y) = absurd (no_super d why y.0 y.1 y.2 x y.3)
  same e f (of_entries why is x) (of_super d cause at y) = absurd (no_super d cause x.0 x.1 x.2 y x.3)
  same e f (of_entries why is x) (of_entries cause at y) = is ∙ ap open_of (one_entries why cause x y) ∙ sym at
  same e f (of_entries why is x) (of_chain cause at y) = absurd (entries_or_behind why (ChainRefused cause) x y)
  same e f (of_entries why is x) (of_table at y) = absurd (entries_or_behind why (WithGens NotNamed) x y)
  same e f (of_chain why is x) (of_super d cause at y) = absurd (no_super d cause x.0 x.1 x.2 y x.3)
  same e f (of_chain why is x) (of_entries cause at y) = absurd (entries_or_behind cause (ChainRefused why) y x)
  same e f (of_chain why is x) (of_chain cause at y) = is ∙ ap errors.Prio (one_chain why cause x y) ∙ sym at
  same e f (of_chain why is x) (of_table at y) = absurd (chain_or_table why x y)
  same e f (of_table is x) (of_super d cause at y) = absurd (no_super d cause x.0 x.1 x.2 y x.3)
  same e f (of_table is x) (of_entries cause at y) = absurd (entries_or_behind cause (WithGens NotNamed) y x)
  same e f (of_table is x) (of_chain cause at y) = absurd (chain_or_table cause y x)
  same e f (of_table is x) (of_table at y) = is ∙ sym at

  pub one_first : (e f : OpenError) → IsFirstHead p e → IsFirstHead p f → e ≡ f
  one_first e f x y = same e f (which e x) (which f y)

  -- ---- none

  none : (b : BackingSuper) (c : CacheSuper) (g : Geometry) (j : Journal) (gens : Gens) (e : OpenError) → HasHeads p b c g j gens → IsOne p e → ⊥
  none b c g j gens e has (of_super d why is x) = no_super d why b c g x has.supers
  none b c g j gens e has (of_entries why is x) = no_cause g p.cache j why has.journal (at_supers (λ s k. IsJournalRefused k p.cache why) b c g has.supers x)
  none b c g j gens e has (of_chain why is x) =
      let at = at_journal g (ChainRefused why b g) j has.journal (at_supers (λ s k. JournalAt (ChainRefused why s k) k) b c g has.supers x) in
      no_chain_cause g p.cache has.journal.entries.newest.item.prio gens why has.chain at
  none b c g j gens e has (of_table is x) =
      let at = at_journal g (WithGens NotNamed b g) j has.journal (at_supers (λ s k. JournalAt (WithGens NotNamed s k) k) b c g has.supers x) in
      at.2 has.uuids

  pub no_first : (b : BackingSuper) (c : CacheSuper) (g : Geometry) (j : Journal) (gens : Gens) (e : OpenError) → HasHeads p b c g j gens → IsFirstHead p e → ⊥
  no_first b c g j gens e has first = none b c g j gens e has (which e first)
