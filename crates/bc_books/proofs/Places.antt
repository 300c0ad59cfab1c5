-- Each step keeps where pins stand, and where the buckets of chains are.
use Rattle.std.proofs.Common.{◌≡◌, ◌≢◌, inl, inr, ℕ, suc, Bool, true, false, Option, Some, None, if◌then◌else◌, ◌==◌, refl, sym, ap, ◌∙◌, subst, arith}
use Rattle.bc_books.specs.Index.{within, put, names}
use Rattle.bc_books.specs.Shelves.{Purpose, Priorities, Moving, Tree, Plain, Shelf, Loose, Listed, Raised, Open, Held, Owner, Fresh, Own, Kept, Spent, IsPinned, WasPinned, IsForData, IsUnwritten, taken_to, put_back, by_room, back, fresh_in}
use Rattle.bc_books.specs.Marks.{is_free}
use Rattle.bc_books.specs.Chains.{Chains, given_up, at_ready}
use Rattle.bc_books.specs.Books.{Setup, Books, Step, Put, Take, Shut, LetGo, Pin, Unpin, Keep, BeginNode, MakeNode, Raise, MakeReady, ReadyChain, SealChain, Sealed}
use Rattle.bc_books.specs.Enabled.{IsFresh, CanStep}
use Rattle.bc_books.specs.After.{after, owner_after}
use Rattle.bc_books.specs.Invariant.{IsPlaced, IsLink, IsChained, IsInOrder}
use Rattle.bc_model.proofs.Cases.{by_test}
use Rattle.bc_books.proofs.Cases.{by_bool, put_cases, put_kept, put_run_cases, some_number}
use Rattle.bc_books.proofs.Counts.{calm_taken, calm_back, calm_room, calm_list}

pub was_pinned_fresh : (o : Owner) → o ≡ Fresh → WasPinned o → ⊥
was_pinned_fresh o e t = subst (λ x. WasPinned x) e t

pub pinned_fresh : (o : Owner) → o ≡ Fresh → IsPinned o → ⊥
pinned_fresh o e p = subst (λ x. IsPinned x) e p

pub pinned_spent : (o : Owner) → o ≡ Spent → IsPinned o → ⊥
pinned_spent o e p = subst (λ x. IsPinned x) e p

pub unwritten_data : (i : ℕ) (x : Shelf) → IsForData i x → IsUnwritten x → ⊥
unwritten_data i x (inl e) u = subst (λ y. IsUnwritten y) e u
unwritten_data i x (inr e) u = subst (λ y. IsUnwritten y) e u

-- no pin of this step is in the bucket
abbrev pub Avoids : (ℕ → ℕ) → Step → ℕ → Type 0
Avoids bucket (Pin i place count) b = (t : ℕ) → within place count t ≡ true → bucket t ≢ b
Avoids bucket x b = Unit {0}

module _ (w : Setup) (k : Books) where
  pub fresh_step : (b : ℕ) (x : Step) → CanStep w k x → Avoids w.bucket x b → IsFresh w.bucket k.owner b
      → IsFresh w.bucket (owner_after w.bucket k.owner x) b
  fresh_step b (Put leaf keys) on away h = λ t is. by_bool (names keys t) (λ z. (if z then Spent else k.owner t) ≡ Fresh) (λ e. absurd (was_pinned_fresh (k.owner t) (h t is) (on.named t e))) (λ _. h t is)
  fresh_step b (Pin i place count) on away h = λ t is. put_run_cases k.owner place count t (Own i) (λ o. o ≡ Fresh) (λ _. h t is) (λ e. absurd (away t e is))
  fresh_step b (Unpin place count) on away h = λ t is. put_run_cases k.owner place count t Spent (λ o. o ≡ Fresh) (λ _. h t is) (λ e. absurd (was_pinned_fresh (k.owner t) (h t is) (on t e)))
  fresh_step b (Keep c place count) on away h = λ t is. put_run_cases k.owner place count t (Kept c) (λ o. o ≡ Fresh) (λ _. h t is) (λ e. absurd (pinned_fresh (k.owner t) (h t is) (on t e)))
  fresh_step b (Raise c) on away h = λ t is. by_test (w.bucket t) c (λ z. (if z then Fresh else k.owner t) ≡ Fresh) (λ _. refl) (λ _. h t is)
  fresh_step b x on away h = h

  -- nobody pins in a bucket for no data
  pub avoids : (b : ℕ) (x : Step) → CanStep w k x → ((i : ℕ) → IsForData i (k.shelf b) → ⊥) → Avoids w.bucket x b
  avoids b (Pin i place count) on none = λ t e is. none i (subst (λ c. IsForData i (k.shelf c)) is (on.for_data t e))
  avoids b x on none = tt

unwritten_back : (room : Bool) (x : Shelf) → IsUnwritten (put_back room x) → IsUnwritten x
unwritten_back room Loose u = u
unwritten_back room (Listed p) u = tt
unwritten_back room Raised u = tt
unwritten_back room Open u = u
unwritten_back room (Held i Priorities) u = tt
unwritten_back room (Held i Moving) u = u
unwritten_back room (Held i Tree) u = tt
unwritten_back room (Held i Plain) u = tt

module _ (w : Setup) (k : Books) (f : IsInOrder w k) where
  listed_unwritten : (b : ℕ) (p : Purpose) → k.shelf b ≡ Listed p → IsUnwritten (k.shelf b)
  listed_unwritten b p e = subst (λ x. IsUnwritten x) (sym e) tt

  -- a bucket goes elsewhere; where it is for no data then, it was so before
  placed_put : (b : ℕ) (x : Shelf) → x ≢ Raised → (IsUnwritten x → IsFresh w.bucket k.owner b)
      → IsPlaced w.bucket (put k.shelf b x) k.owner
  placed_put b x calm new = record {
    calm = λ t pin. put_kept k.shelf b (w.bucket t) x (λ y. y ≢ Raised) (f.placed.calm t pin) calm;
    unwritten = λ c. put_cases k.shelf b c x (λ y. IsUnwritten y
        → IsFresh w.bucket k.owner c) (λ _. f.placed.unwritten c) (λ is u t at. new u t (at ∙ is));
  }

  kept_unwritten : (x : Step) → CanStep w k x → (b : ℕ) → IsUnwritten (k.shelf b)
      → IsFresh w.bucket (owner_after w.bucket k.owner x) b
  kept_unwritten x on b u = fresh_step w k b x on (avoids w k b x on (λ i d. unwritten_data i (k.shelf b) d u)) (f.placed.unwritten b u)

  pub keep_placed : (x : Step) → CanStep w k x → IsPlaced w.bucket (after w k x).shelf (after w k x).owner
  keep_placed (Put leaf keys) on = record {
    calm = λ t. by_bool (names keys t) (λ z. IsPinned (if z then Spent else k.owner t)
        → k.shelf (w.bucket t) ≢ Raised) (λ _ p. absurd p) (λ _. f.placed.calm t);
    unwritten = kept_unwritten (Put leaf keys) on;
  }
  keep_placed (Take i p b) on = placed_put b (taken_to i p) (calm_taken i p) (λ _. f.placed.unwritten b (elim on [ inl e ↦ listed_unwritten b Plain e | inr (inl e) ↦ listed_unwritten b p e | inr (inr e) ↦ listed_unwritten b Moving e.1 ]))
  keep_placed (Shut b) on = placed_put b Loose (λ e. cc) (λ u. absurd u)
  keep_placed (LetGo i b room) on = placed_put b (put_back room (k.shelf b)) (calm_back room (k.shelf b)) (λ u. f.placed.unwritten b (unwritten_back room (k.shelf b) u))
  keep_placed (Pin i place count) on = record {
    calm = λ t. put_run_cases k.owner place count t (Own i) (λ o. IsPinned o
        → k.shelf (w.bucket t) ≢ Raised) (λ _. f.placed.calm t) (λ e _ r. elim (on.for_data t e) [ inl x ↦ absurd (cc) | inr x ↦ absurd (cc) ]);
    unwritten = kept_unwritten (Pin i place count) on;
  }
  keep_placed (Unpin place count) on = record {
    calm = λ t. put_run_cases k.owner place count t Spent (λ o. IsPinned o
        → k.shelf (w.bucket t) ≢ Raised) (λ _. f.placed.calm t) (λ _ p. absurd p);
    unwritten = kept_unwritten (Unpin place count) on;
  }
  keep_placed (Keep c place count) on = record {
    calm = λ t. put_run_cases k.owner place count t (Kept c) (λ o. IsPinned o
        → k.shelf (w.bucket t) ≢ Raised) (λ _. f.placed.calm t) (λ e _. f.placed.calm t (on t e));
    unwritten = kept_unwritten (Keep c place count) on;
  }
  keep_placed (BeginNode i b) on = placed_put b (Held i Tree) (λ e. cc) (λ _. on.1)
  keep_placed (MakeNode i b) on = placed_put b Loose (λ e. cc) (λ u. absurd u)
  keep_placed (Raise b) on = record {
    calm = λ t. by_test (w.bucket t) b (λ z. IsPinned (if z then Fresh else k.owner t)
        → (if z then Raised else k.shelf (w.bucket t)) ≢ Raised) (λ _ p. absurd p) (λ _. f.placed.calm t);
    unwritten = λ c. by_test c b (λ z. IsUnwritten (if z then Raised else k.shelf c)
        → IsFresh w.bucket (fresh_in w.bucket b k.owner) c)
        (λ is _ t at. by_test (w.bucket t) b (λ z. (if z then Fresh else k.owner t) ≡ Fresh) (λ _. refl) (λ ne. absurd (ne (at ∙ is))))
        (λ _ u. kept_unwritten (Raise b) on c u);
  }
  keep_placed (MakeReady b room) on = placed_put b (by_room room) (calm_room room) (λ _. f.placed.unwritten b (subst (λ x. IsUnwritten x) (sym on.0) tt))
  keep_placed (ReadyChain room) on = record {
    calm = λ t pin. calm (w.bucket t) (k.chains.of (w.bucket t)) (f.placed.calm t pin);
    unwritten = λ b. by_chain b (k.chains.of b) refl;
  }
    where
      calm : (b : ℕ) (o : Option ℕ) → k.shelf b ≢ Raised → at_ready k.chains.ready o (room b) (k.shelf b) ≢ Raised
      calm b None h = h
      calm b (Some c) h = by_test c k.chains.ready (λ z. (if z then back (room b) else (if c == suc k.chains.ready then Loose else k.shelf b)) ≢ Raised) (λ _. calm_list (room b)) (λ _. by_test c (suc k.chains.ready) (λ z. (if z then Loose else k.shelf b) ≢ Raised) (λ _ x. cc) (λ _. h))

      by_chain : (b : ℕ) (o : Option ℕ) → k.chains.of b ≡ o
          → IsUnwritten (at_ready k.chains.ready o (room b) (k.shelf b)) → IsFresh w.bucket k.owner b
      by_chain b None e u = f.placed.unwritten b u
      by_chain b (Some c) e u = (f.chained.links b c e).fresh
  keep_placed x on = f.placed

  -- a bucket of a chain is nobody's, or held for it
  pub chain_shelf : (b c : ℕ) (P : Type 0) → k.chains.of b ≡ Some c → (c ≡ k.chains.ready → k.shelf b ≡ Loose → P)
      → ((i : ℕ) → k.shelf b ≡ Held i Priorities → P) → P
  chain_shelf b c P e loose held = let l = f.chained.links b c e in let low = l.low in
      by_test c k.chains.ready (λ _. P) (λ is. loose is (l.loose is)) (λ ne. let h = l.held (omega arith) in held h.0 h.1)

  pub chain_no_data : (b c : ℕ) → k.chains.of b ≡ Some c → (i : ℕ) → IsForData i (k.shelf b) → ⊥
  chain_no_data b c e i d = chain_shelf b c ⊥ e (λ _ x. elim d [ inl y ↦ cc | inr y ↦ cc ]) (λ j x. elim d [ inl y ↦ cc | inr y ↦ absurd (cc) ])

  -- what is marked for no use and stands nowhere is of no chain
  pub loose_free : (b : ℕ) → is_free (k.mark b) ≡ true → k.shelf b ≡ Loose → (c : ℕ) → k.chains.of b ≡ Some c → ⊥
  loose_free b free loose c e = chain_shelf b c ⊥ e (λ is _. let m = f.marked.marked b (inr (inr (e ∙ ap (λ (z : ℕ). Some z) is))) in absurd (cc)) (λ i x. absurd (cc))

  link_of : (b c : ℕ) (x : Shelf) (owner : ℕ → Owner) → IsLink w.bucket k.chains (k.shelf b) k.owner b c → k.shelf b ≡ x
      → IsFresh w.bucket owner b → IsLink w.bucket k.chains x owner b c
  link_of b c x owner l is new = record {
    low = l.low;
    high = l.high;
    loose = λ e. sym is
        ∙ l.loose e;
    held = λ lt. let h = l.held lt in (h.0, sym is ∙ h.1);
    fresh = new;
  }

  -- a bucket of no chain goes elsewhere
  chained_put : (b : ℕ) (x : Shelf) → ((c : ℕ) → k.chains.of b ≡ Some c → ⊥)
      → IsChained w.bucket k.chains (put k.shelf b x) k.owner
  chained_put b x free = record {
    durable = f.chained.durable;
    sealed = f.chained.sealed;
    links = λ a c e. put_cases k.shelf b a x (λ y. IsLink w.bucket k.chains y k.owner a c) (λ _. f.chained.links a c e) (λ is. absurd (free c (sym (ap k.chains.of is) ∙ e)));
  }

  -- places get other owners
  chained_step : (x : Step) → CanStep w k x → IsChained w.bucket k.chains k.shelf (owner_after w.bucket k.owner x)
  chained_step x on = record {
    durable = f.chained.durable;
    sealed = f.chained.sealed;
    links = λ b c e. let l = f.chained.links b c e in link_of b c (k.shelf b) (owner_after w.bucket k.owner x) l refl (fresh_step w k b x on (avoids w k b x on (chain_no_data b c e)) l.fresh);
  }

  pub keep_chained : (x : Step) → CanStep w k x
      → IsChained w.bucket (after w k x).chains (after w k x).shelf (after w k x).owner
  keep_chained (Put leaf keys) on = chained_step (Put leaf keys) on
  keep_chained (Take i p b) on = chained_put b (taken_to i p) (λ c e. elim on [
    | inl x ↦ chain_shelf b c ⊥ e (λ _ y. absurd (cc)) (λ j y. absurd (cc))
    | inr (inl x) ↦ chain_shelf b c ⊥ e (λ _ y. absurd (cc)) (λ j y. absurd (cc))
    | inr (inr x) ↦ (let z = x.1 in chain_shelf b c ⊥ e (λ _ y. absurd (cc)) (λ j y. absurd (cc)))
  ])
  keep_chained (Shut b) on = chained_put b Loose (λ c e. chain_shelf b c ⊥ e (λ _ y. absurd (cc)) (λ j y. absurd (cc)))
  keep_chained (LetGo i b room) on = chained_put b (put_back room (k.shelf b)) (λ c e. let x = on.1 in absurd (cc))
  keep_chained (Pin i place count) on = chained_step (Pin i place count) on
  keep_chained (Unpin place count) on = chained_step (Unpin place count) on
  keep_chained (Keep c place count) on = chained_step (Keep c place count) on
  keep_chained (BeginNode i b) on = chained_put b (Held i Tree) (λ c e. elim on.0 [
    | inl x ↦ chain_shelf b c ⊥ e (λ _ y. absurd (cc)) (λ j y. absurd (cc))
    | inr x ↦ chain_shelf b c ⊥ e (λ _ y. absurd (cc)) (λ j y. absurd (cc))
  ])
  keep_chained (MakeNode i b) on = chained_put b Loose (λ c e. chain_shelf b c ⊥ e (λ _ y. absurd (cc)) (λ j y. absurd (cc)))
  keep_chained (Raise b) on = record {
    durable = f.chained.durable;
    sealed = f.chained.sealed;
    links = λ a c e. put_cases k.shelf b a Raised (λ y. IsLink w.bucket k.chains y (fresh_in w.bucket b k.owner) a c)
        (λ _. let l = f.chained.links a c e in link_of a c (k.shelf a) (fresh_in w.bucket b k.owner) l refl (fresh_step w k a (Raise b) on tt l.fresh))
        (λ is. absurd (loose_free b on.0.free on.1 c (sym (ap k.chains.of is) ∙ e)));
  }
  keep_chained (MakeReady b room) on = chained_put b (by_room room) (λ c e. chain_shelf b c ⊥ e (λ _ y. let x = on.0 in absurd (cc)) (λ j y. let x = on.0 in absurd (cc)))
  keep_chained (ReadyChain room) on = record { durable = on; sealed = f.chained.sealed; links = λ b c e. link b c (k.chains.of b) refl e }
    where
      next : Chains
      next = record { of = λ b. given_up k.chains.ready (k.chains.of b); ready = suc k.chains.ready; durable = k.chains.durable; sealed = k.chains.sealed }

      link : (b c : ℕ) (o : Option ℕ) → k.chains.of b ≡ o → given_up k.chains.ready o ≡ Some c
          → IsLink w.bucket next (at_ready k.chains.ready o (room b) (k.shelf b)) k.owner b c
      link b c None e g = absurd (cc)
      link b c (Some a) e g = by_test a k.chains.ready
          (λ z. (if z then None else Some a) ≡ Some c
          → IsLink w.bucket next (if z then back (room b) else (if a == suc k.chains.ready then Loose else k.shelf b)) k.owner b c)
          (λ _ h. absurd (cc))
          (λ ne h. let is : a ≡ c = some_number a c h in let l = f.chained.links b a e in let low = l.low in let high = l.high in record {
            low = omega arith;
            high = omega arith;
            loose = λ s. by_test a (suc k.chains.ready) (λ z. (if z then Loose else k.shelf b) ≡ Loose) (λ _. refl) (λ no. absurd (no (is ∙ s)));
            held = λ lt. by_test a (suc k.chains.ready) (λ z. (i : ℕ)
                × ((if z then Loose else k.shelf b) ≡ Held i Priorities)) (λ s. absurd (omega arith)) (λ _. l.held (omega arith));
            fresh = l.fresh;
          }) g
  keep_chained (SealChain i versions chain) on = record {
    durable = f.chained.durable;
    sealed = let o = f.chained.sealed in omega arith;
    links = λ b c e. link b c (chain b) refl e;
  }
    where
      next : Chains
      next = record { of = λ b. if chain b then Some (suc k.chains.sealed) else k.chains.of b; ready = k.chains.ready; durable = k.chains.durable; sealed = suc k.chains.sealed }

      link : (b c : ℕ) (z : Bool) → chain b ≡ z → (if z then Some (suc k.chains.sealed) else k.chains.of b) ≡ Some c
          → IsLink w.bucket next (k.shelf b) k.owner b c
      link b c true e h = let x = on.held b e in let p = f.chained.durable in let q = f.chained.sealed in let is : suc k.chains.sealed ≡ c = some_number _ c h in record {
        low = omega arith;
        high = omega arith;
        loose = λ s. absurd (omega arith);
        held = λ _. (i, x.0);
        fresh = f.placed.unwritten b (subst (λ y. IsUnwritten y) (sym x.0) tt);
      }
      link b c false e h = let l = f.chained.links b c h in let high = l.high in record { low = l.low; high = omega arith; loose = l.loose; held = l.held; fresh = l.fresh }
  keep_chained Sealed on = record { durable = let p = f.chained.durable in let q = f.chained.sealed in omega arith; sealed = omega arith; links = λ b c e. let l = f.chained.links b c e in record { low = l.low; high = l.high; loose = l.loose; held = l.held; fresh = l.fresh } }
  keep_chained x on = f.chained
