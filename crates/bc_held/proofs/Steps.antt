-- What the steps of a seat leave of a bucket that a seat holds.
use Rattle.std.proofs.Common.{◌≡◌, ◌≢◌, inl, inr, ℕ, suc, Bool, true, false, List, [], ◌∷◌, Some, None, refl, sym, ap, ◌∙◌, if◌then◌else◌}
use Rattle.std.specs.Prelude.{◌==◌}
use Rattle.bc_books.proofs.Cases.{by_bool}
use Rattle.bc_books.specs.After as books
use Rattle.bc_books.specs.After.{after, fold}
use Rattle.bc_books.specs.Books.{Setup, Books, Step, Put, Take, Shut, LetGo, Pin, Unpin, Keep, BeginNode, MakeNode, Raise, MakeReady, ReadyChain, SealChain}
use Rattle.bc_books.specs.Chains.{Chains, at_ready, given_up}
use Rattle.bc_books.specs.Enabled.{CanStep, IsFresh}
use Rattle.bc_books.specs.Index.{Key, names, put, within}
use Rattle.bc_books.specs.Shelves.{Fresh, Held, IsPinned, Kept, Listed, Loose, Moving, Open, Own, Owner, Plain, Priorities, Purpose, Raised, Shelf, Spent, Tree, WasPinned, by_room, put_back, taken_to}
use Rattle.bc_data.specs.Data as flow
use Rattle.bc_data.specs.Data.{Act, PinPlaces, Shelve}
use Rattle.bc_data.specs.Enabled.{steps_of}
use Rattle.bc_data.specs.Seats.{Candidate}
use Rattle.bc_leaves.proofs.Chains.{put_else}

-- what the books have of it
pub record Stands (w : Setup) (i q : ℕ) (p : Purpose) (n : ℕ) (k : Books) : Type 0 where
  pub held : k.shelf q ≡ Held i p
  pub fresh : IsFresh w.bucket k.owner q
  pub unnamed : k.chains.of q ≡ None
  pub version : k.generations.version q ≡ n

-- a step of this seat is none that the bucket has a part in
abbrev pub SparesStep : (ℕ → ℕ) → (i q : ℕ) → Step → Type 0
SparesStep bucket i q (LetGo h b room) = h ≡ i → q ≢ b
SparesStep bucket i q (Pin h place count) =
    h ≡ i → (t : ℕ) → within place count t ≡ true → bucket t ≢ q
SparesStep bucket i q (BeginNode h b) = h ≡ i → q ≢ b
SparesStep bucket i q (MakeNode h b) = h ≡ i → q ≢ b
SparesStep bucket i q (SealChain h versions chain) = h ≡ i → chain q ≡ false
SparesStep bucket i q x = Unit {0}

abbrev pub SparesAct : (ℕ → ℕ) → (j i q : ℕ) → Act → Type 0
SparesAct bucket j i q (PinPlaces place count) = SparesStep bucket i q (Pin j place count)
SparesAct bucket j i q (Shelve x) = SparesStep bucket i q x
SparesAct bucket j i q act = Unit {0}

-- ---- shelves

held_listed : (x : Shelf) (i : ℕ) (p q : Purpose) → x ≡ Held i p → x ≡ Listed q → ⊥
held_listed x i p q a b = cc

held_open : (x : Shelf) (i : ℕ) (p : Purpose) → x ≡ Held i p → x ≡ Open → ⊥
held_open x i p a b = cc

held_loose : (x : Shelf) (i : ℕ) (p : Purpose) → x ≡ Held i p → x ≡ Loose → ⊥
held_loose x i p a b = cc

held_raised : (x : Shelf) (i : ℕ) (p : Purpose) → x ≡ Held i p → x ≡ Raised → ⊥
held_raised x i p a b = cc

held_seat : (x : Shelf) (i j : ℕ) (p q : Purpose) → x ≡ Held i p → x ≡ Held j q → j ≡ i
held_seat x i j p q a b = number j i (sym b ∙ a)
  where
    number : (m n : ℕ) → Held m q ≡ Held n p → m ≡ n
    number m n e = cc

-- ---- owners

fresh_pinned : (x : Owner) → x ≡ Fresh → WasPinned x → ⊥
fresh_pinned Fresh e was = was
fresh_pinned (Own i) e was = absurd (cc)
fresh_pinned (Kept c) e was = absurd (cc)
fresh_pinned Spent e was = absurd (cc)

put_fresh : (owner : ℕ → Owner) (keys : List Key) (t : ℕ)
    → ((u : ℕ) → names keys u ≡ true → WasPinned (owner u)) → owner t ≡ Fresh
    → (if names keys t then Spent else owner t) ≡ Fresh
put_fresh owner keys t named fresh = by_bool (names keys t)
    (λ b. (if b then Spent else owner t) ≡ Fresh)
    (λ on. absurd (fresh_pinned (owner t) fresh (named t on))) (λ off. fresh)

run_fresh : (owner : ℕ → Owner) (place count t : ℕ) (x : Owner) → owner t ≡ Fresh
    → (within place count t ≡ true → ⊥) → (if within place count t then x else owner t) ≡ Fresh
run_fresh owner place count t x fresh off = by_bool (within place count t)
    (λ b. (if b then x else owner t) ≡ Fresh) (λ on. absurd (off on)) (λ out. fresh)

raised_fresh : (bucket : ℕ → ℕ) (b t : ℕ) (owner : ℕ → Owner) → owner t ≡ Fresh
    → (if bucket t == b then Fresh else owner t) ≡ Fresh
raised_fresh bucket b t owner fresh = by_bool (bucket t == b)
    (λ x. (if x then Fresh else owner t) ≡ Fresh) (λ on. refl) (λ off. fresh)

pinned_or : (x : Owner) → x ≡ Fresh → IsPinned x → ⊥
pinned_or Fresh e was = was
pinned_or (Own i) e was = absurd (cc)
pinned_or (Kept c) e was = absurd (cc)
pinned_or Spent e was = absurd (cc)

-- ---- one step

module _ (w : Setup) (i q : ℕ) (p : Purpose) (n : ℕ) (k : Books) (h : Stands w i q p n k) where
  -- another bucket stands like this
  apart : (b : ℕ) (y : Shelf) → k.shelf b ≡ y → (k.shelf q ≡ y → ⊥) → q ≡ b → ⊥
  apart b y e never same = never (ap k.shelf same ∙ e)

  -- one that a seat holds is this one only where that is its seat
  its_seat : (b j : ℕ) (r : Purpose) → k.shelf b ≡ Held j r → q ≡ b → j ≡ i
  its_seat b j r e same = held_seat (k.shelf q) i j p r h.held (ap k.shelf same ∙ e)

  shelf_put : (b : ℕ) (y : Shelf) → (q ≡ b → ⊥) → put k.shelf b y q ≡ Held i p
  shelf_put b y ne = put_else k.shelf b y q ne ∙ h.held

  elsewhere : (b : ℕ) (y : Shelf) (x : Step) → (q ≡ b → ⊥)
      → (after w k x).shelf q ≡ put k.shelf b y q → (after w k x).owner ≡ k.owner
      → (after w k x).chains ≡ k.chains → (after w k x).generations.version q ≡ k.generations.version q
      → Stands w i q p n (after w k x)
  elsewhere b y x ne shelf owner chains version = record {
    held = shelf ∙ shelf_put b y ne;
    fresh = λ t in_. ap (λ (f : ℕ → Owner). f t) owner ∙ h.fresh t in_;
    unnamed = ap (λ (c : Chains). c.of q) chains ∙ h.unnamed;
    version = version ∙ h.version;
  }

  pub step_stands : (x : Step) → CanStep w k x → SparesStep w.bucket i q x
      → Stands w i q p n (after w k x)
  step_stands (Put leaf keys) can spares = record {
    held = h.held;
    fresh = λ t in_. put_fresh k.owner keys t can.named (h.fresh t in_);
    unnamed = h.unnamed;
    version = h.version;
  }
  step_stands (Take j r b) can spares = elsewhere b (taken_to j r) (Take j r b)
      (λ same. elim can [
        | inl e ↦ apart b (Listed Plain) e (held_listed (k.shelf q) i p Plain h.held) same
        | inr (inl e) ↦ apart b (Listed r) e (held_listed (k.shelf q) i p r h.held) same
        | inr (inr e) ↦ apart b (Listed Moving) e.1 (held_listed (k.shelf q) i p Moving h.held) same
      ]) refl refl refl refl
  step_stands (Shut b) can spares = elsewhere b Loose (Shut b)
      (apart b Open can (held_open (k.shelf q) i p h.held)) refl refl refl refl
  step_stands (LetGo j b room) can spares = elsewhere b (put_back room (k.shelf b)) (LetGo j b room)
      (λ same. spares (its_seat b j can.0.0 can.0.1 same) same) refl refl refl refl
  step_stands (Pin j place count) can spares = record {
    held = h.held;
    fresh = λ t in_. run_fresh k.owner place count t (Own j) (h.fresh t in_)
        (λ on. elim (can.for_data t on) [
          | inl e ↦ held_open (k.shelf q) i p h.held (sym (ap k.shelf in_) ∙ e)
          | inr e ↦ spares (held_seat (k.shelf q) i j p Moving h.held (sym (ap k.shelf in_) ∙ e)) t on in_
        ]);
    unnamed = h.unnamed;
    version = h.version;
  }
  step_stands (Unpin place count) can spares = record {
    held = h.held;
    fresh = λ t in_. run_fresh k.owner place count t Spent (h.fresh t in_)
        (λ on. fresh_pinned (k.owner t) (h.fresh t in_) (can t on));
    unnamed = h.unnamed;
    version = h.version;
  }
  step_stands (Keep c place count) can spares = record {
    held = h.held;
    fresh = λ t in_. run_fresh k.owner place count t (Kept c) (h.fresh t in_)
        (λ on. pinned_or (k.owner t) (h.fresh t in_) (can t on));
    unnamed = h.unnamed;
    version = h.version;
  }
  step_stands (BeginNode j b) can spares = elsewhere b (Held j Tree) (BeginNode j b)
      (λ same. elim can.0 [
        | inl e ↦ spares (its_seat b j Moving e same) same
        | inr e ↦ spares (its_seat b j Tree e same) same
      ]) refl refl refl refl
  step_stands (MakeNode j b) can spares = elsewhere b Loose (MakeNode j b)
      (λ same. spares (its_seat b j Tree can same) same) refl refl refl refl
  step_stands (Raise b) can spares =
      let ne : q ≡ b → ⊥ = apart b Loose can.1 (held_loose (k.shelf q) i p h.held) in record {
        held = shelf_put b Raised ne;
        fresh = λ t in_. raised_fresh w.bucket b t k.owner (h.fresh t in_);
        unnamed = h.unnamed;
        version = put_else k.generations.version b (suc (k.generations.version b)) q ne ∙ h.version;
      }
  step_stands (MakeReady b room) can spares = elsewhere b (by_room room) (MakeReady b room)
      (apart b Raised can.0 (held_raised (k.shelf q) i p h.held)) refl refl refl refl
  step_stands (ReadyChain room) can spares = record {
    held = ap (λ o. at_ready k.chains.ready o (room q) (k.shelf q)) h.unnamed ∙ h.held;
    fresh = h.fresh;
    unnamed = ap (λ o. given_up k.chains.ready o) h.unnamed;
    version = h.version;
  }
  step_stands (SealChain j versions chain) can spares = record {
    held = h.held;
    fresh = h.fresh;
    unnamed = by_bool (chain q)
        (λ b. (if b then Some (suc k.chains.sealed) else k.chains.of q) ≡ None)
        (λ on. absurd (true_false (chain q) on
        (spares (held_seat (k.shelf q) i j p Priorities h.held (can.held q on).0))))
        (λ off. h.unnamed);
    version = h.version;
  }
    where
      true_false : (b : Bool) → b ≡ true → b ≡ false → ⊥
      true_false b x y = cc
  step_stands x can spares = record {
    held = h.held;
    fresh = h.fresh;
    unnamed = h.unnamed;
    version = h.version;
  }

-- ---- the steps of an act

abbrev AllSpare : (ℕ → ℕ) → (i q : ℕ) → List Step → Type 0
AllSpare bucket i q [] = Unit {0}
AllSpare bucket i q (x ∷ xs) = SparesStep bucket i q x × AllSpare bucket i q xs

steps_stand : (w : Setup) (i q : ℕ) (p : Purpose) (n : ℕ) (k : Books) (xs : List Step)
    → books.IsRun w k xs → AllSpare w.bucket i q xs → Stands w i q p n k
    → Stands w i q p n (fold w k xs)
steps_stand w i q p n k [] on all h = h
steps_stand w i q p n k (x ∷ xs) on all h = steps_stand w i q p n (after w k x) xs on.1 all.1
    (step_stands w i q p n k h x on.0 all.0)

act_spares : (bucket : ℕ → ℕ) (j i q : ℕ) (c : ℕ → Candidate) (act : Act)
    → SparesAct bucket j i q act → AllSpare bucket i q (steps_of c j act)
act_spares bucket j i q c (flow.InsertWrite line leaf keys first values) s = (tt, tt)
act_spares bucket j i q c (flow.Insert form leaf keys) s = (tt, tt)
act_spares bucket j i q c (flow.NoteCandidate number first count place) s = (tt, tt)
act_spares bucket j i q c (flow.Settle number leaf keys) s = (tt, (tt, tt))
act_spares bucket j i q c (PinPlaces place count) s = (s, tt)
act_spares bucket j i q c (flow.UnpinPlaces place count) s = (tt, tt)
act_spares bucket j i q c (flow.UnpinDead number) s = (tt, tt)
act_spares bucket j i q c (Shelve x) s = (s, tt)
act_spares bucket j i q c act s = tt

pub act_stands : (w : Setup) (i q : ℕ) (p : Purpose) (n : ℕ) (k : Books) (j : ℕ)
    (c : ℕ → Candidate) (act : Act) → books.IsRun w k (steps_of c j act)
    → SparesAct w.bucket j i q act → Stands w i q p n k
    → Stands w i q p n (fold w k (steps_of c j act))
act_stands w i q p n k j c act on s h =
    steps_stand w i q p n k (steps_of c j act) on (act_spares w.bucket j i q c act s) h
