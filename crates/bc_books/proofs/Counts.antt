-- Each step keeps the order of counts, and that of generations; and what a leaf has after its last insertion.
use Rattle.std.proofs.Common.{◌≡◌, ◌≢◌, inl, inr, ℕ, suc, ◌+◌, ◌≤◌, Bool, true, false, Option, Some, None, if◌then◌else◌, refl, sym, ap, ◌∙◌, arith}
use Rattle.bc_books.specs.Index.{Pointer, latest, put, hit, over, inserted}
use Rattle.bc_books.specs.Shelves.{Purpose, Priorities, Moving, Tree, Plain, Shelf, Loose, Listed, Raised, Open, Held, taken_to, put_back, by_room, back}
use Rattle.bc_books.specs.Marks.{oldest}
use Rattle.bc_books.specs.Chains.{at_ready}
use Rattle.bc_books.specs.Books.{Setup, Books, Step, Put, Regroup, Take, Shut, LetGo, BeginNode, MakeNode, Raise, MakeReady, ReadyChain, Seal, SealChain, Sealed, Begin, Walk, End}
use Rattle.bc_books.specs.Enabled.{CanStep}
use Rattle.bc_books.specs.After.{after}
use Rattle.bc_books.specs.Invariant.{IsCounted, IsDated, IsStill, IsInOrder}
use Rattle.bc_model.proofs.Cases.{by_test, by_le}
use Rattle.bc_books.proofs.Cases.{by_hit, put_kept, put_cases, oldest_from, by_unless}

pub calm_taken : (i : ℕ) (p : Purpose) → taken_to i p ≢ Raised
calm_taken i Priorities e = cc
calm_taken i Moving e = cc
calm_taken i Tree e = cc
calm_taken i Plain e = cc

pub calm_room : (room : Option Purpose) → by_room room ≢ Raised
calm_room None e = cc
calm_room (Some p) e = cc

pub calm_list : (room : Bool) → back room ≢ Raised
calm_list true e = cc
calm_list false e = cc

pub calm_back : (room : Bool) (x : Shelf) → put_back room x ≢ Raised
calm_back room Loose e = cc
calm_back room (Listed p) e = cc
calm_back room Raised e = cc
calm_back room Open e = cc
calm_back room (Held i Priorities) e = calm_list room e
calm_back room (Held i Moving) e = cc
calm_back room (Held i Tree) e = cc
calm_back room (Held i Plain) e = cc

module _ (w : Setup) (k : Books) (f : IsInOrder w k) where
  -- a bucket of a chain isn't raised
  pub chain_calm : (b c : ℕ) → k.chains.of b ≡ Some c → k.shelf b ≢ Raised
  chain_calm b c e raised = let l = f.chained.links b c e in let low = l.low in
      by_test c k.chains.ready (λ _. ⊥) (λ is. let x = l.loose is in absurd (cc)) (λ ne. let h = l.held (omega arith) in let x = h.1 in absurd (cc))

  pub keep_counted : (x : Step) → CanStep w k x
      → IsCounted (after w k x).index.count (after w k x).index.changed (after w k x).journal (after w k x).round.upto
  keep_counted (Put leaf keys) on = let c = f.counted in let sealed = c.sealed in let walk = c.walk in record {
    durable = c.durable;
    sealed = omega arith;
    leaves = λ l. put_kept k.index.changed leaf l (suc k.index.count) (λ n. n ≤ suc k.index.count) (let h = c.leaves l in omega arith) (omega arith);
    walk = omega arith;
  }
  keep_counted (Regroup leaf changed counts last) on = let c = f.counted in let walk = c.walk in let known = on.last_known in record { durable = c.durable; sealed = c.sealed; leaves = on.known; walk = omega arith }
  keep_counted Seal on = let c = f.counted in let durable = c.durable in let sealed = c.sealed in record { durable = omega arith; sealed = omega arith; leaves = c.leaves; walk = c.walk }
  keep_counted (SealChain i versions chain) on = let c = f.counted in let durable = c.durable in let sealed = c.sealed in record { durable = omega arith; sealed = omega arith; leaves = c.leaves; walk = c.walk }
  keep_counted Sealed on = let c = f.counted in record { durable = omega arith; sealed = c.sealed; leaves = c.leaves; walk = c.walk }
  keep_counted Begin on = let c = f.counted in record { durable = c.durable; sealed = c.sealed; leaves = c.leaves; walk = omega arith }
  keep_counted (Walk leaf) on = let c = f.counted in let walk = c.walk in let h = c.leaves leaf in record { durable = c.durable; sealed = c.sealed; leaves = c.leaves; walk = omega arith }
  keep_counted x on = f.counted

  pub keep_still : (x : Step) → CanStep w k x → IsStill (after w k x).index
  keep_still (Put leaf keys) on = record {
    still = λ n s. by_le (suc k.index.count) n (λ z. put k.index.changed leaf (suc k.index.count) (k.index.leaf s) ≤ n
        → (if z then newest else k.index.at n) s ≡ latest (inserted leaf keys k.index) s)
        (λ _ _. sym (top s))
        (λ lt. put_cases k.index.changed leaf (k.index.leaf s) (suc k.index.count) (λ x. x ≤ n → k.index.at n s ≡ latest (inserted leaf keys k.index) s)
        (λ ne le. f.still.still n s le
        ∙ by_hit (hit keys s) (latest k.index s) (λ o. latest k.index s ≡ o) (λ o h. absurd (ne (on.inside s o h).1)) (λ _. refl) ∙ sym (top s))
        (λ _ le. absurd (omega arith)));
  }
    where
      newest : ℕ → Option Pointer
      newest = λ s. over (hit keys s) (latest k.index s)

      top : (s : ℕ) → latest (inserted leaf keys k.index) s ≡ over (hit keys s) (latest k.index s)
      top s = by_le (suc k.index.count) (suc k.index.count) (λ z. (if z then newest else k.index.at (suc k.index.count)) s ≡ over (hit keys s) (latest k.index s)) (λ _. refl) (λ lt. absurd (omega arith))
  keep_still (Regroup leaf changed counts last) on = record { still = λ n s le. f.still.still n s (let x = on.later s in omega arith) }
  keep_still x on = f.still

  -- a bucket goes elsewhere
  dated_put : (b : ℕ) (x : Shelf) → x ≢ Raised → k.generations.durable b ≡ k.generations.version b
      → IsDated k.generations (put k.shelf b x)
  dated_put b x calm same = let d = f.dated in record {
    sealed = d.sealed;
    version = d.version;
    ahead = d.ahead;
    settled = λ c. put_cases k.shelf b c x (λ y. y ≢ Raised
        → k.generations.durable c ≡ k.generations.version c) (λ _. d.settled c) (λ e _. ap k.generations.durable e
        ∙ same ∙ sym (ap k.generations.version e));
    oldest = d.oldest;
    window = d.window;
  }

  pub keep_dated : (x : Step) → CanStep w k x → IsDated (after w k x).generations (after w k x).shelf
  keep_dated (Take i p b) on = dated_put b (taken_to i p) (calm_taken i p) (f.dated.settled b (λ e. elim on [ inl x ↦ absurd (cc) | inr (inl x) ↦ absurd (cc) | inr (inr x) ↦ (let y = x.1 in absurd (cc)) ]))
  keep_dated (Shut b) on = dated_put b Loose (λ e. cc) (f.dated.settled b (λ e. absurd (cc)))
  keep_dated (LetGo i b room) on = dated_put b (put_back room (k.shelf b)) (calm_back room (k.shelf b)) (f.dated.settled b (λ e. let x = on.0.1 in absurd (cc)))
  keep_dated (BeginNode i b) on = dated_put b (Held i Tree) (λ e. cc) (f.dated.settled b (λ e. elim on.0 [ inl x ↦ absurd (cc) | inr x ↦ absurd (cc) ]))
  keep_dated (MakeNode i b) on = dated_put b Loose (λ e. cc) (f.dated.settled b (λ e. absurd (cc)))
  keep_dated (MakeReady b room) on = dated_put b (by_room room) (calm_room room) on.1
  keep_dated (Raise b) on = let d = f.dated in let same = d.settled b (λ e. let x = on.1 in absurd (cc)) in record {
    sealed = d.sealed;
    version = λ c. put_cases k.generations.version b c (suc (k.generations.version b)) (λ x. k.generations.sealed c ≤ x) (λ _. d.version c) (λ is. let x : k.generations.sealed c ≡ k.generations.sealed b = ap k.generations.sealed is in let y = d.version b in omega arith);
    ahead = λ c. put_cases k.generations.version b c (suc (k.generations.version b)) (λ x. x ≤ suc (k.generations.durable c)) (λ _. d.ahead c) (λ is. let y : k.generations.durable c ≡ k.generations.durable b = ap k.generations.durable is in omega arith);
    settled = λ c. by_test c b (λ z. ((if z then Raised else k.shelf c) ≡ Raised → ⊥)
        → k.generations.durable c ≡ (if z then suc (k.generations.version b) else k.generations.version c)) (λ _ e. absurd (e refl)) (λ _ e. d.settled c e);
    oldest = λ c. put_cases k.generations.version b c (suc (k.generations.version b)) (λ x. k.generations.last_gc c ≤ x) (λ _. d.oldest c) (λ is. let x : k.generations.last_gc c ≡ k.generations.last_gc b = ap k.generations.last_gc is in let y = d.oldest b in omega arith);
    window = λ c. put_cases k.generations.version b c (suc (k.generations.version b)) (λ x. x ≤ k.generations.last_gc c + 96) (λ _. d.window c) (λ is. let x : k.generations.last_gc c ≡ k.generations.last_gc b = ap k.generations.last_gc is in let y = on.0.near in omega arith);
  }
  keep_dated (ReadyChain room) on = let d = f.dated in record { sealed = d.sealed; version = d.version; ahead = d.ahead; settled = λ b. same b (k.chains.of b) refl; oldest = d.oldest; window = d.window }
    where
      same : (b : ℕ) (o : Option ℕ) → k.chains.of b ≡ o → at_ready k.chains.ready o (room b) (k.shelf b) ≢ Raised
          → k.generations.durable b ≡ k.generations.version b
      same b None e h = f.dated.settled b h
      same b (Some c) e h = f.dated.settled b (chain_calm b c e)
  keep_dated (SealChain i versions chain) on = let d = f.dated in record {
    sealed = λ b. let x = d.sealed b in let y = (on.order b).0 in omega arith;
    version = λ b. (on.order b).1;
    ahead = d.ahead;
    settled = d.settled;
    oldest = d.oldest;
    window = d.window;
  }
  keep_dated Sealed on = let d = f.dated in record {
    sealed = λ b. omega arith;
    version = d.version;
    ahead = λ b. let x = d.ahead b in let y = d.sealed b in omega arith;
    settled = λ b e. let x = d.settled b e in let y = d.sealed b in let z = d.version b in omega arith;
    oldest = d.oldest;
    window = d.window;
  }
  keep_dated End on = let d = f.dated in record {
    sealed = d.sealed;
    version = d.version;
    ahead = d.ahead;
    settled = d.settled;
    oldest = λ b. by_unless (k.round.touched b) (k.generations.last_gc b) (found b) (λ x. x ≤ k.generations.version b) (λ _. d.oldest b)
        (λ _. oldest_from w.bucket b (k.generations.version b) k.round.seen w.size (λ x. x ≤ k.generations.version b) (omega arith)
        (λ s r lt e is. let y = f.within.high s r e on.going in let x : k.generations.version (w.bucket r.place) ≡ k.generations.version b = ap k.generations.version is in omega arith));
    window = λ b. by_unless (k.round.touched b) (k.generations.last_gc b) (found b) (λ x. k.generations.version b ≤ x + 96) (λ _. d.window b)
        (λ _. oldest_from w.bucket b (k.generations.version b) k.round.seen w.size (λ x. k.generations.version b ≤ x + 96) (omega arith)
        (λ s r lt e is. let y = f.within.low s r e on.going in let x : k.generations.last_gc (w.bucket r.place) ≡ k.generations.last_gc b = ap k.generations.last_gc is in let z = d.window b in omega arith));
  }
    where
      found : ℕ → ℕ
      found b = oldest w.bucket b (k.generations.version b) k.round.seen w.size
  keep_dated x on = f.dated
