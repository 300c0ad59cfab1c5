-- There is room for a next chain in whatever a crash leaves.
use Rattle.std.proofs.Common.{◌≡◌, ◌≢◌, ◌⊎◌, inl, inr, ℕ, suc, ◌<◌, ◌≤◌, Bool, true, false, List, [], ◌∷◌, Option, Some, None, if◌then◌else◌, ◌==◌, refl, sym, ap, ◌∙◌, subst, arith}
use Rattle.bc_books.specs.Index.{Pointer, hit, over, latest}
use Rattle.bc_books.specs.Shelves.{Purpose, Priorities, Moving, Tree, Plain, Shelf, Loose, Listed, Raised, Open, Held, IsForData, IsUnwritten, taken_to, put_back, by_room, back}
use Rattle.bc_books.specs.Chains.{Many, given_up, at_ready}
use Rattle.bc_books.specs.Books.{Setup, Books, Step, Put, Take, Shut, LetGo, BeginNode, MakeNode, DropNode, Raise, MakeReady, ReadyChain, SealChain, Sealed, unused, opened, IsSound}
use Rattle.bc_books.specs.Enabled.{IsLawful, IsFresh, CanStep}
use Rattle.bc_books.specs.After.{after, IsRun, fold}
use Rattle.bc_books.specs.Invariant.{IsInOrder}
use Rattle.bc_books.specs.Laws.{Snapshot, durable_snapshot, sealed_snapshot, MayLeave}
use Rattle.bc_collect.specs.Spare.{HasNoUse, LawSpare}
use Rattle.bc_model.proofs.Cases.{by_test, by_le}
use Rattle.bc_books.proofs.Cases.{by_bool, by_hit, put_cases, put_kept, not_both, off, some_number}
use Rattle.bc_books.proofs.Places.{pinned_fresh, fresh_step, avoids, chain_shelf, chain_no_data}
use Rattle.bc_books.proofs.Known.{newest, keep}
use Rattle.bc_books.proofs.Opening.{kept_opened, kept_at, fresh_at, listed_unused, chain_unused, chain_at, no_chain_at}

pub many_map : (count : ℕ) (P Q : ℕ → Type 0) → ((b : ℕ) → P b → Q b) → Many count P → Many count Q
many_map count P Q f m = (m.0, m.1, λ j lt. f (m.0 j) (m.2 j lt))

-- nothing was put there since its raise, and no key from that time points to it
pub record IsEmpty (w : Setup) (k : Books) (b : ℕ) : Type 0 where
  fresh : IsFresh w.bucket k.owner b
  not_fixed : w.fixed b ≡ false
  no_node : k.node b ≡ false
  old : (n s : ℕ) (r : Pointer) → k.journal.durable ≤ n → k.index.at n s ≡ Some r → w.bucket r.place ≡ b
      → r.version < k.generations.durable b

-- let go, on the list priorities or taken from it, or raised with a generation that no entry has yet
abbrev IsIdle : Shelf → ℕ → ℕ → Type 0
IsIdle Loose sealed version = Unit {0}
IsIdle (Listed Priorities) sealed version = Unit {0}
IsIdle (Listed Moving) sealed version = ⊥
IsIdle (Listed Tree) sealed version = ⊥
IsIdle (Listed Plain) sealed version = ⊥
IsIdle Raised sealed version = sealed < version
IsIdle Open sealed version = ⊥
IsIdle (Held i Priorities) sealed version = Unit {0}
IsIdle (Held i Moving) sealed version = ⊥
IsIdle (Held i Tree) sealed version = ⊥
IsIdle (Held i Plain) sealed version = ⊥

abbrev IsIdleAt : Books → ℕ → Type 0
IsIdleAt k b = IsIdle (k.shelf b) (k.generations.sealed b) (k.generations.version b)

-- spare whatever a crash leaves of the durable entry
abbrev IsSpot : Setup → Books → ℕ → Type 0
IsSpot w k b = IsEmpty w k b
    × (((k.chains.of b ≡ None) × IsIdleAt k b) ⊎ ((m : ℕ) × ((k.chains.of b ≡ Some m) × (m ≢ k.chains.durable))))

-- of chain m, and spare for the entries of others
abbrev IsFull : Setup → Books → ℕ → ℕ → Type 0
IsFull w k m b = IsEmpty w k b × (k.chains.of b ≡ Some m)

-- steps that leave the numbers of chains as they are
abbrev IsPlain : Step → Type 0
IsPlain (SealChain i versions chain) = ⊥
IsPlain Sealed = ⊥
IsPlain x = Unit {0}

-- neither for data nor for a node
abbrev IsOff : Shelf → Type 0
IsOff x = (i : ℕ) → (IsForData i x → ⊥) × (x ≢ Held i Tree)

idle_off : (x : Shelf) (sealed version : ℕ) → IsIdle x sealed version → IsOff x
idle_off x sealed version idle i = ((λ d. elim d [ inl e ↦ subst (λ y. IsIdle y sealed version) e idle | inr e ↦ subst (λ y. IsIdle y sealed version) e idle ]), λ e. subst (λ y. IsIdle y sealed version) e idle)

idle_taken : (i : ℕ) (p : Purpose) (sealed version : ℕ) → IsIdle (Listed p) sealed version
    → IsIdle (taken_to i p) sealed version
idle_taken i Priorities sealed version h = tt
idle_taken i Moving sealed version h = absurd h
idle_taken i Tree sealed version h = absurd h
idle_taken i Plain sealed version h = absurd h

idle_list : (room : Bool) (sealed version : ℕ) → IsIdle (back room) sealed version
idle_list true sealed version = tt
idle_list false sealed version = tt

idle_back : (room : Bool) (x : Shelf) (sealed version : ℕ) → IsIdle (put_back room x) sealed version
idle_back room Loose sealed version = tt
idle_back room (Listed p) sealed version = tt
idle_back room Raised sealed version = tt
idle_back room Open sealed version = tt
idle_back room (Held i Priorities) sealed version = idle_list room sealed version
idle_back room (Held i Moving) sealed version = tt
idle_back room (Held i Tree) sealed version = tt
idle_back room (Held i Plain) sealed version = tt

module _ (w : Setup) (k : Books) (f : IsInOrder w k) (b : ℕ) where
  empty_step : (x : Step) → CanStep w k x → IsOff (k.shelf b) → IsEmpty w k b → IsEmpty w (after w k x) b
  empty_step (Put leaf keys) on away h = record {
    fresh = fresh_step w k b (Put leaf keys) on tt h.fresh;
    not_fixed = h.not_fixed;
    no_node = h.no_node;
    old = λ n s r le. by_le (suc k.index.count) n (λ z. (if z then top else k.index.at n) s ≡ Some r
        → w.bucket r.place ≡ b → r.version < k.generations.durable b)
        (λ _. by_hit (hit keys s) (latest k.index s) (λ o. o ≡ Some r → w.bucket r.place ≡ b → r.version < k.generations.durable b)
        (λ o there e is. elim (subst (λ y. IsLawful w.bucket k.generations.version k.owner (latest k.index s) y) e (on.lawful s o there)) [
          | inl new ↦ absurd (pinned_fresh (k.owner r.place) (h.fresh r.place is) new.0)
          | inr kept ↦ (let q : Pointer = kept.0 in let v : r.version ≡ kept.0.version = ap (λ (y : Pointer). y.version) kept.2 in let p : r.place ≡ kept.0.place = ap (λ (y : Pointer). y.place) kept.2 in let lt = h.old k.index.count s kept.0 (newest w k f) kept.1 (sym (ap w.bucket p) ∙ is) in omega arith)
        ])
        (λ _ e is. h.old k.index.count s r (newest w k f) e is))
        (λ _ e is. h.old n s r le e is);
  }
    where
      top : ℕ → Option Pointer
      top = λ s. over (hit keys s) (latest k.index s)
  empty_step (MakeNode i c) on away h = record { fresh = h.fresh; not_fixed = h.not_fixed; no_node = put_cases k.node c b true (λ y. y ≡ false) (λ _. h.no_node) (λ is. absurd ((away i).1 (ap k.shelf is ∙ on))); old = h.old }
  empty_step (DropNode c) on away h = record { fresh = h.fresh; not_fixed = h.not_fixed; no_node = put_kept k.node c b false (λ y. y ≡ false) h.no_node refl; old = h.old }
  empty_step Sealed on away h = record {
    fresh = h.fresh;
    not_fixed = h.not_fixed;
    no_node = h.no_node;
    old = λ n s r le e is. let c = f.counted.durable in let lt = h.old n s r (omega arith) e is in let g = f.dated.sealed b in omega arith;
  }
  empty_step x on away h = record { fresh = fresh_step w k b x on (avoids w k b x on (λ i. (away i).0)) h.fresh; not_fixed = h.not_fixed; no_node = h.no_node; old = h.old }

  chain_off : (m : ℕ) → k.chains.of b ≡ Some m → IsOff (k.shelf b)
  chain_off m e i = (chain_no_data w k f b m e i, λ x. chain_shelf w k f b m ⊥ e (λ _ y. absurd (cc)) (λ j y. absurd (cc)))

  chain_step : (m : ℕ) (x : Step) → CanStep w k x → k.chains.durable ≤ m → k.chains.of b ≡ Some m
      → (after w k x).chains.of b ≡ Some m
  chain_step m (ReadyChain room) on le e = subst (λ o. given_up k.chains.ready o ≡ Some m) (sym e) (by_test m k.chains.ready (λ z. (if z then None else Some m) ≡ Some m) (λ is. absurd (omega arith)) (λ _. refl))
  chain_step m (SealChain i versions chain) on le e = by_bool (chain b) (λ z. (if z then Some (suc k.chains.sealed) else k.chains.of b) ≡ Some m) (λ is. let x = (on.held b is).1 in absurd (cc)) (λ _. e)
  chain_step m x on le e = e

  full_step : (m : ℕ) (x : Step) → CanStep w k x → k.chains.durable ≤ m → IsFull w k m b → IsFull w (after w k x) m b
  full_step m x on le h = (empty_step x on (chain_off m h.1) h.0, chain_step m x on le h.1)

  idle_step : (x : Step) → IsPlain x → CanStep w k x → k.chains.of b ≡ None → IsIdleAt k b → IsIdleAt (after w k x) b
  idle_step (Take i p c) plain on free h = put_cases k.shelf c b (taken_to i p) (λ y. IsIdle y (k.generations.sealed b) (k.generations.version b)) (λ _. h) (λ is. elim on [
    | inl e ↦ absurd (subst (λ y. IsIdle y (k.generations.sealed b) (k.generations.version b)) (ap k.shelf is ∙ e) h)
    | inr (inl e) ↦ idle_taken i p (k.generations.sealed b) (k.generations.version b) (subst (λ y. IsIdle y (k.generations.sealed b) (k.generations.version b)) (ap k.shelf is ∙ e) h)
    | inr (inr e) ↦ absurd (subst (λ y. IsIdle y (k.generations.sealed b) (k.generations.version b)) (ap k.shelf is ∙ e.1) h)
  ])
  idle_step (Shut c) plain on free h = put_cases k.shelf c b Loose (λ y. IsIdle y (k.generations.sealed b) (k.generations.version b)) (λ _. h) (λ _. tt)
  idle_step (LetGo i c room) plain on free h = put_cases k.shelf c b (put_back room (k.shelf c)) (λ y. IsIdle y (k.generations.sealed b) (k.generations.version b)) (λ _. h) (λ _. idle_back room (k.shelf c) (k.generations.sealed b) (k.generations.version b))
  idle_step (BeginNode i c) plain on free h = put_cases k.shelf c b (Held i Tree) (λ y. IsIdle y (k.generations.sealed b) (k.generations.version b)) (λ _. h) (λ is. elim on.0 [
    | inl e ↦ absurd (subst (λ y. IsIdle y (k.generations.sealed b) (k.generations.version b)) (ap k.shelf is ∙ e) h)
    | inr e ↦ absurd (subst (λ y. IsIdle y (k.generations.sealed b) (k.generations.version b)) (ap k.shelf is ∙ e) h)
  ])
  idle_step (MakeNode i c) plain on free h = put_cases k.shelf c b Loose (λ y. IsIdle y (k.generations.sealed b) (k.generations.version b)) (λ _. h) (λ _. tt)
  idle_step (Raise c) plain on free h = by_test b c (λ z. IsIdle (if z then Raised else k.shelf b) (k.generations.sealed b) (if z then suc (k.generations.version c) else k.generations.version b))
      (λ is. let y : k.generations.version b ≡ k.generations.version c = ap k.generations.version is in let g = f.dated.version b in omega arith) (λ _. h)
  idle_step (MakeReady c room) plain on free h = put_cases k.shelf c b (by_room room) (λ y. IsIdle y (k.generations.sealed b) (k.generations.version b)) (λ _. h) (λ is.
      let ahead : k.generations.sealed b < k.generations.version b = subst (λ y. IsIdle y (k.generations.sealed b) (k.generations.version b)) (ap k.shelf is ∙ on.0) h in
      let v : k.generations.version b ≡ k.generations.version c = ap k.generations.version is in let d : k.generations.durable b ≡ k.generations.durable c = ap k.generations.durable is in let g = f.dated.sealed b in let o = on.1 in absurd (omega arith))
  idle_step (ReadyChain room) plain on free h = subst (λ o. IsIdle (at_ready k.chains.ready o (room b) (k.shelf b)) (k.generations.sealed b) (k.generations.version b)) (sym free) h
  idle_step (SealChain i versions chain) plain on free h = absurd plain
  idle_step Sealed plain on free h = absurd plain
  idle_step x plain on free h = h

  none_step : (x : Step) → IsPlain x → k.chains.of b ≡ None → (after w k x).chains.of b ≡ None
  none_step (ReadyChain room) plain free = ap (λ (o : Option ℕ). given_up k.chains.ready o) free
  none_step (SealChain i versions chain) plain free = absurd plain
  none_step x plain free = free

  old_step : (m : ℕ) (x : Step) → IsPlain x → k.chains.of b ≡ Some m → m ≢ k.chains.durable
      → (((after w k x).chains.of b ≡ None) × IsIdleAt (after w k x) b)
      ⊎ ((m : ℕ) × (((after w k x).chains.of b ≡ Some m) × (m ≢ (after w k x).chains.durable)))
  old_step m (ReadyChain room) plain e ne = subst (λ o. ((given_up k.chains.ready o ≡ None) × IsIdle (at_ready k.chains.ready o (room b) (k.shelf b)) (k.generations.sealed b) (k.generations.version b)) ⊎ ((m : ℕ) × ((given_up k.chains.ready o ≡ Some m) × (m ≢ k.chains.durable)))) (sym e)
      (by_test m k.chains.ready (λ z. (((if z then None else Some m) ≡ None) × IsIdle (if z then back (room b) else (if m == suc k.chains.ready then Loose else k.shelf b)) (k.generations.sealed b) (k.generations.version b)) ⊎ ((n : ℕ) × (((if z then None else Some m) ≡ Some n) × (n ≢ k.chains.durable))))
      (λ _. inl (refl, idle_list (room b) (k.generations.sealed b) (k.generations.version b))) (λ _. inr (m, (refl, ne))))
  old_step m (SealChain i versions chain) plain e ne = absurd plain
  old_step m Sealed plain e ne = absurd plain
  old_step m x plain e ne = inr (m, (e, ne))

  spot_step : (x : Step) → IsPlain x → CanStep w k x → IsSpot w k b → IsSpot w (after w k x) b
  spot_step x plain on h = elim h.1 [
    | inl idle ↦ (empty_step x on (idle_off (k.shelf b) (k.generations.sealed b) (k.generations.version b) idle.1) h.0, inl (none_step x plain idle.0, idle_step x plain on idle.0 idle.1))
    | inr old ↦ (empty_step x on (chain_off old.0 old.1.0) h.0, old_step old.0 x plain old.1.0 old.1.1)
  ]

  -- what a seat holds for a chain is spare
  held_empty : (i : ℕ) → k.shelf b ≡ Held i Priorities → IsEmpty w k b
  held_empty i held = record {
    fresh = fresh;
    not_fixed = off (w.fixed b) (λ e. let x = f.marked.loose b (inl e) in absurd (cc));
    no_node = off (k.node b) (λ e. let x = f.marked.loose b (inr e) in absurd (cc));
    old = λ n s r le e is.
        let h = f.known.keys n s le r e in
        let low = h.durable in
        let same = f.dated.settled b (λ x. absurd (cc)) in
        let d : k.generations.durable (w.bucket r.place) ≡ k.generations.durable b = ap k.generations.durable is in
        let v : k.generations.version (w.bucket r.place) ≡ k.generations.version b = ap k.generations.version is in
        by_test (k.generations.version (w.bucket r.place)) r.version (λ _. r.version < k.generations.durable b) (λ live. let y = h.spent live in let x = fresh r.place is in absurd (cc)) (λ ne. omega arith);
  }
    where
      fresh : IsFresh w.bucket k.owner b
      fresh = f.placed.unwritten b (subst (λ y. IsUnwritten y) (sym held) tt)

pub record HasSpare (w : Setup) (k : Books) : Type 0 where
  pub near : Many w.sets (IsSpot w k)
  pub now : Many w.sets (IsFull w k k.chains.durable)
  pub later : Many w.sets (IsFull w k k.chains.sealed)

module _ (w : Setup) (k : Books) (f : IsInOrder w k) (h : HasSpare w k) where
  plain_step : (x : Step) → IsPlain x → CanStep w k x → (after w k x).chains.durable ≡ k.chains.durable
      → (after w k x).chains.sealed ≡ k.chains.sealed → HasSpare w (after w k x)
  plain_step x plain on d e = record {
    near = many_map w.sets (IsSpot w k) (IsSpot w (after w k x)) (λ b. spot_step w k f b x plain on) h.near;
    now = subst (λ m. Many w.sets (IsFull w (after w k x) m)) (sym d) (many_map w.sets (IsFull w k k.chains.durable) (IsFull w (after w k x) k.chains.durable) (λ b. full_step w k f b k.chains.durable x on (omega arith)) h.now);
    later = subst (λ m. Many w.sets (IsFull w (after w k x) m)) (sym e) (many_map w.sets (IsFull w k k.chains.sealed) (IsFull w (after w k x) k.chains.sealed) (λ b. full_step w k f b k.chains.sealed x on f.chained.sealed) h.later);
  }

  off_empty : (m : ℕ) → (b : ℕ) → IsFull w k m b → IsOff (k.shelf b)
  off_empty m b x = chain_off w k f b m x.1

  spare_step : (x : Step) → CanStep w k x → HasSpare w (after w k x)
  spare_step (SealChain i versions chain) on = record {
    near = many_map w.sets (λ b. chain b ≡ true) (IsSpot w (after w k (SealChain i versions chain))) (λ b e. (new b e, inr (suc k.chains.sealed, (named b e, λ is. let le = f.chained.sealed in absurd (omega arith))))) on.sets;
    now = many_map w.sets (IsFull w k k.chains.durable) (IsFull w (after w k (SealChain i versions chain)) k.chains.durable) (λ b. full_step w k f b k.chains.durable (SealChain i versions chain) on (omega arith)) h.now;
    later = many_map w.sets (λ b. chain b ≡ true) (IsFull w (after w k (SealChain i versions chain)) (suc k.chains.sealed)) (λ b e. (new b e, named b e)) on.sets;
  }
    where
      named : (b : ℕ) → chain b ≡ true
          → (if chain b then Some (suc k.chains.sealed) else k.chains.of b) ≡ Some (suc k.chains.sealed)
      named b e = ap (λ (z : Bool). if◌then◌else◌ {A = Option ℕ} z (Some (suc k.chains.sealed)) (k.chains.of b)) e

      new : (b : ℕ) → chain b ≡ true → IsEmpty w (after w k (SealChain i versions chain)) b
      new b e = let x = held_empty w k f b i (on.held b e).0 in record { fresh = x.fresh; not_fixed = x.not_fixed; no_node = x.no_node; old = x.old }
  spare_step Sealed on = record {
    near = by_test k.chains.durable k.chains.sealed (λ _. Many w.sets (IsSpot w (after w k Sealed)))
        (λ is. many_map w.sets (IsSpot w k) (IsSpot w (after w k Sealed)) (λ b x. elim x.1 [
          | inl y ↦ (empty_step w k f b Sealed on (idle_off (k.shelf b) (k.generations.sealed b) (k.generations.version b) y.1) x.0, inl y)
          | inr y ↦ (empty_step w k f b Sealed on (chain_off w k f b y.0 y.1.0) x.0, inr (y.0, (y.1.0, λ e. y.1.1 (e ∙ sym is))))
        ]) h.near)
        (λ ne. many_map w.sets (IsFull w k k.chains.durable) (IsSpot w (after w k Sealed)) (λ b x. (empty_step w k f b Sealed on (off_empty k.chains.durable b x) x.0, inr (k.chains.durable, (x.1, ne)))) h.now);
    now = many_map w.sets (IsFull w k k.chains.sealed) (IsFull w (after w k Sealed) k.chains.sealed) (λ b x. (empty_step w k f b Sealed on (off_empty k.chains.sealed b x) x.0, x.1)) h.later;
    later = many_map w.sets (IsFull w k k.chains.sealed) (IsFull w (after w k Sealed) k.chains.sealed) (λ b x. (empty_step w k f b Sealed on (off_empty k.chains.sealed b x) x.0, x.1)) h.later;
  }
  spare_step x on = plain_step x tt on refl refl

  no_use : (shot : Snapshot) → k.journal.durable ≤ shot.count → ((b : ℕ) → k.generations.durable b ≤ shot.version b)
      → (b : ℕ) → k.chains.of b ≢ Some shot.chain → IsOff (k.shelf b) → IsEmpty w k b → HasNoUse w k shot b
  no_use shot count low b chain away x = record {
    not_fixed = x.not_fixed;
    no_node = x.no_node;
    no_new_node = λ i. (away i).1;
    no_chain = chain;
    no_key = λ s r live is. let lt = x.old shot.count s r count live.0 is in let le = low b in let v : shot.version (w.bucket r.place) ≡ shot.version b = ap shot.version is in let e = live.1 in absurd (omega arith);
  }

  spot_off : (b : ℕ) → IsSpot w k b → IsOff (k.shelf b)
  spot_off b x = elim x.1 [ inl y ↦ idle_off (k.shelf b) (k.generations.sealed b) (k.generations.version b) y.1 | inr y ↦ chain_off w k f b y.0 y.1.0 ]

  spare_now : Many w.sets (HasNoUse w k (durable_snapshot k))
  spare_now = many_map w.sets (IsSpot w k) (HasNoUse w k (durable_snapshot k))
      (λ b x. no_use (durable_snapshot k) (omega arith) (λ b. omega arith) b (λ e. elim x.1 [ inl y ↦ (let z = y.0 in absurd (cc)) | inr y ↦ y.1.1 (some_number y.0 k.chains.durable (sym y.1.0 ∙ e)) ]) (spot_off b x) x.0) h.near

  spare_later : Many w.sets (HasNoUse w k (sealed_snapshot k))
  spare_later = by_test k.chains.durable k.chains.sealed (λ _. Many w.sets (HasNoUse w k (sealed_snapshot k)))
      (λ is. many_map w.sets (IsSpot w k) (HasNoUse w k (sealed_snapshot k)) (λ b x. no_use (sealed_snapshot k) f.counted.durable f.dated.sealed b (λ e. elim x.1 [ inl y ↦ (let z = y.0 in absurd (cc)) | inr y ↦ y.1.1 (some_number y.0 k.chains.sealed (sym y.1.0 ∙ e) ∙ sym is) ]) (spot_off b x) x.0) h.near)
      (λ ne. many_map w.sets (IsFull w k k.chains.durable) (HasNoUse w k (sealed_snapshot k)) (λ b x. no_use (sealed_snapshot k) f.counted.durable f.dated.sealed b (λ e. ne (some_number k.chains.durable k.chains.sealed (sym x.1 ∙ e))) (off_empty k.chains.durable b x) x.0) h.now)

  pub spare_of : (shot : Snapshot) → MayLeave k shot → Many w.sets (HasNoUse w k shot)
  spare_of shot (inl e) = subst (λ x. Many w.sets (HasNoUse w k x)) (sym e) spare_now
  spare_of shot (inr e) = subst (λ x. Many w.sets (HasNoUse w k x)) (sym e) spare_later

  -- the chain that is found has its buckets
  pub chain_of : (shot : Snapshot) → MayLeave k shot → Many w.sets (λ b. k.chains.of b ≡ Some shot.chain)
  chain_of shot (inl e) = subst (λ (x : Snapshot). Many w.sets (λ b. k.chains.of b ≡ Some x.chain)) (sym e) (many_map w.sets (IsFull w k k.chains.durable) (λ b. k.chains.of b ≡ Some k.chains.durable) (λ b x. x.1) h.now)
  chain_of shot (inr e) = subst (λ (x : Snapshot). Many w.sets (λ b. k.chains.of b ≡ Some x.chain)) (sym e) (many_map w.sets (IsFull w k k.chains.sealed) (λ b. k.chains.of b ≡ Some k.chains.sealed) (λ b x. x.1) h.later)

spare_run : (w : Setup) (k : Books) (xs : List Step) → IsInOrder w k → HasSpare w k → IsRun w k xs
    → HasSpare w (fold w k xs)
spare_run w k [] f h run = h
spare_run w k (x ∷ xs) f h run = spare_run w (after w k x) xs (keep w k f x run.0) (spare_step w k f h x run.0) run.1

module _ (w : Setup) (sound : IsSound w) where
  opened_empty : (b : ℕ) → unused w b ≡ true → w.fixed b ≡ false → w.node b ≡ false → IsEmpty w (opened w) b
  opened_empty b there fixed node = record {
    fresh = fresh_at w sound b there;
    not_fixed = fixed;
    no_node = node;
    old = λ n s r le e is. let i = (sound.inside s r e).2 in let v : w.version (w.bucket r.place) ≡ w.version b = ap w.version is in
        by_test (w.version (w.bucket r.place)) r.version (λ _. r.version < w.version b) (λ live. absurd (not_both (unused w b) there (sym (ap (unused w) is) ∙ sound.spare s r e live))) (λ ne. omega arith);
  }

  listed_free : (b : ℕ) → w.listed b ≡ Some Priorities → IsSpot w (opened w) b
  listed_free b e = (
    opened_empty b (listed_unused w sound b Priorities e) (off (w.fixed b) (λ x. let y = (sound.fixed b x).0 in absurd (cc))) (off (w.node b) (λ x. let y = (sound.node b x).0 in absurd (cc))),
    inl (no_chain_at w sound b (off (w.chain b) (λ x. let y = (sound.chain b x).0 in absurd (cc))), subst (λ o. IsIdle (by_room o) (w.version b) (w.version b)) (sym e) tt),
  )

  chain_full : (b : ℕ) → w.chain b ≡ true → IsFull w (opened w) 0 b
  chain_full b e = (
    opened_empty b (chain_unused w sound b e) (off (w.fixed b) (λ x. let y = (sound.fixed b x).1 in absurd (cc))) (off (w.node b) (λ x. let y = (sound.node b x).1 in absurd (cc))),
    chain_at w sound b e,
  )

  spare_opened : HasSpare w (opened w)
  spare_opened = record {
    near = many_map w.sets (λ b. w.listed b ≡ Some Priorities) (IsSpot w (opened w)) listed_free sound.next;
    now = many_map w.sets (λ b. w.chain b ≡ true) (IsFull w (opened w) 0) chain_full sound.sets;
    later = many_map w.sets (λ b. w.chain b ≡ true) (IsFull w (opened w) 0) chain_full sound.sets;
  }

pub spare_at : (w : Setup) (xs : List Step) → IsSound w → IsRun w (opened w) xs → HasSpare w (fold w (opened w) xs)
spare_at w xs sound run = spare_run w (opened w) xs (kept_opened w sound) (spare_opened w sound) run

pub law_spare : LawSpare
law_spare w xs sound run shot may = spare_of w (fold w (opened w) xs) (kept_at w xs sound run) (spare_at w xs sound run) shot may
