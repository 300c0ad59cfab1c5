-- What the steps of another seat leave of a place, and of a bucket.
use Rattle.std.proofs.Common.{◌≡◌, ◌≢◌, inl, inr, ℕ, suc, Bool, true, false, ◌==◌, List, Option, Some, None, refl, sym, ap, ◌∙◌, if◌then◌else◌}
use Rattle.bc_books.specs.Index.{Key, names, within, put}
use Rattle.bc_books.specs.Shelves.{Purpose, Priorities, Moving, Tree, Plain, Shelf, Loose, Listed, Raised, Open, Held, Owner, Fresh, Own, Kept, Spent, IsPinned, taken_to, put_back, by_room, back}
use Rattle.bc_books.specs.Books.{Setup, Books, Step, Put, Take, Shut, LetGo, Pin, Unpin, Keep, BeginNode, MakeNode, Raise, MakeReady, ReadyChain}
use Rattle.bc_books.specs.After.{after, fold}
use Rattle.bc_books.specs.Chains.{at_ready}
use Rattle.bc_books.specs.Enabled.{CanStep}
use Rattle.bc_books.specs.Invariant.{IsInOrder}
use Rattle.bc_data.specs.Data as flow
use Rattle.bc_data.specs.Enabled.{IsUsing, IsShelving, IsEnabled, steps_of}
use Rattle.bc_data.specs.Invariant.{IsTruthful}
use Rattle.bc_meta.proofs.Lists.{by_test}
use Rattle.bc_leaves.proofs.Chains.{put_else}

-- ---- a place

-- a place of this seat's, and the version of its bucket
pub record Place (w : Setup) (i t : ℕ) (a b : Books) : Type 0 where
  pub owner : b.owner t ≡ Own i
  pub version : b.generations.version (w.bucket t) ≡ a.generations.version (w.bucket t)

by_bool : (b : Bool) (P : Bool → Type 0) → (b ≡ true → P true) → (b ≡ false → P false) → P b
by_bool true P on off = on refl
by_bool false P on off = off refl

own_other : (x : Owner) (i j : ℕ) → j ≢ i → x ≡ Own i → x ≡ Own j → ⊥
own_other x i j ne a b = let e : Own j ≡ Own i = sym b ∙ a in ne (number j i e)
  where
    number : (m n : ℕ) → Own m ≡ Own n → m ≡ n
    number m n e = cc

own_spent : (x : Owner) (i : ℕ) → x ≡ Own i → x ≡ Spent → ⊥
own_spent x i a b = cc

own_fresh : (x : Owner) (i : ℕ) → x ≡ Own i → x ≡ Fresh → ⊥
own_fresh x i a b = cc

own_kept : (x : Owner) (i c : ℕ) → x ≡ Own i → x ≡ Kept c → ⊥
own_kept x i c a b = cc

own_pinned : (x : Owner) (i : ℕ) → x ≡ Own i → IsPinned x
own_pinned Fresh i e = absurd (cc)
own_pinned (Own k) i e = tt
own_pinned (Kept c) i e = tt
own_pinned Spent i e = absurd (cc)

-- keys that name places of this owner leave the others
put_owner : (owner : ℕ → Owner) (keys : List Key) (t i : ℕ) (x : Owner) → IsUsing owner keys x
    → owner t ≡ Own i → (owner t ≡ x → ⊥) → (if names keys t then Spent else owner t) ≡ Own i
put_owner owner keys t i x using is not = by_bool (names keys t)
    (λ b. (if b then Spent else owner t) ≡ Own i)
    (λ on. elim (using t on) [ inl a ↦ absurd (not a) | inr b ↦ absurd (own_spent (owner t) i is b) ])
    (λ off. is)

-- a run that has no place of this seat
run_owner : (owner : ℕ → Owner) (place count t i : ℕ) (x : Owner) → owner t ≡ Own i
    → (within place count t ≡ true → ⊥) → (if within place count t then x else owner t) ≡ Own i
run_owner owner place count t i x is off = by_bool (within place count t)
    (λ b. (if b then x else owner t) ≡ Own i) (λ on. absurd (off on)) (λ out. is)

raised_owner : (bucket : ℕ → ℕ) (q t i : ℕ) (owner : ℕ → Owner) → owner t ≡ Own i
    → (bucket t ≡ q → ⊥) → (if bucket t == q then Fresh else owner t) ≡ Own i
raised_owner bucket q t i owner is off = by_test (bucket t) q
    (λ b. (if b then Fresh else owner t) ≡ Own i) (λ e. absurd (off e)) (λ ne. is)

-- a step of the books that a seat may do beside what it does with data
place_shelved : (w : Setup) (k : Books) (x : Step) (i t : ℕ) (stage : flow.Stage) (j : ℕ)
    → CanStep w k x → IsShelving stage j x → k.owner t ≡ Own i → Place w i t k (after w k x)
place_shelved w k (Put leaf keys) i t stage j can s is = absurd s
place_shelved w k (Pin h place count) i t stage j can s is = absurd s
place_shelved w k (Unpin place count) i t stage j can s is = absurd s
place_shelved w k (Keep c place count) i t stage j can s is = absurd s
place_shelved w k (Raise q) i t stage j can s is = record {
  owner = raised_owner w.bucket q t i k.owner is
      (λ e. can.0.unpinned t e (own_pinned (k.owner t) i is));
  version = put_else k.generations.version q (suc (k.generations.version q)) (w.bucket t)
      (λ e. can.0.unpinned t e (own_pinned (k.owner t) i is));
}
place_shelved w k x i t stage j can s is = record { owner = is; version = refl }

-- Of what another seat does with data: its keys and pins name its own places or a candidate's.
module _ (w : flow.Opening) (st : flow.State) (truth : IsTruthful w st) (j i : ℕ) (ne : j ≢ i)
    (t : ℕ) (is : st.books.owner t ≡ Own i) where
  not_its : st.books.owner t ≡ Own j → ⊥
  not_its e = own_other (st.books.owner t) i j ne is e

  not_kept : (c : ℕ) → (st.candidates c).stands ≡ true
      → within (st.candidates c).place (st.candidates c).count t ≡ true → ⊥
  not_kept c stands in_ =
      own_kept (st.books.owner t) i c is ((truth.candidates c stands).0 t in_)

  pub place_act : (act : flow.Act) → IsEnabled w st j act
      → Place w.books i t st.books (fold w.books st.books (steps_of st.candidates j act))
  place_act (flow.InsertWrite line leaf keys first values) on = record {
    owner = put_owner st.books.owner keys t i (Own j) on.can.using is not_its;
    version = refl;
  }
  place_act (flow.Insert form leaf keys) on = record {
    owner = put_owner st.books.owner keys t i (Own j) on.can.using is not_its;
    version = refl;
  }
  place_act (flow.Settle number leaf keys) on = record {
    owner = run_owner (λ u. if names keys u then Spent else st.books.owner u)
        (st.candidates number).place (st.candidates number).count t i Spent
        (put_owner st.books.owner keys t i (Kept number) on.can.using is
        (λ e. own_kept (st.books.owner t) i number is e))
        (not_kept number on.can.stands);
    version = refl;
  }
  place_act (flow.NoteCandidate number first count place) on = record {
    owner = run_owner st.books.owner place count t i (Kept number) is
        (λ in_. not_its (on.can.own t in_));
    version = refl;
  }
  place_act (flow.PinPlaces place count) on = record {
    owner = run_owner st.books.owner place count t i (Own j) is
        (λ in_. own_fresh (st.books.owner t) i is (on.steps.0.fresh t in_));
    version = refl;
  }
  place_act (flow.UnpinPlaces place count) on = record {
    owner = run_owner st.books.owner place count t i Spent is (λ in_. elim (on.can t in_) [
      | inl a ↦ not_its a
      | inr b ↦ own_spent (st.books.owner t) i is b
    ]);
    version = refl;
  }
  place_act (flow.UnpinDead number) on = record {
    owner = run_owner st.books.owner (st.candidates number).place (st.candidates number).count t i
        Spent is (not_kept number on.can.0);
    version = refl;
  }
  place_act (flow.Shelve x) on =
      place_shelved w.books st.books x i t st.stage j on.steps.0 on.can is
  place_act act on = record { owner = is; version = refl }

-- ---- a bucket

held_seat : (x : Shelf) (i j : ℕ) (p q : Purpose) → j ≢ i → x ≡ Held i p → x ≡ Held j q → ⊥
held_seat x i j p q ne a b = let e : Held j q ≡ Held i p = sym b ∙ a in ne (number j i e)
  where
    number : (m n : ℕ) → Held m q ≡ Held n p → m ≡ n
    number m n e = cc

held_listed : (x : Shelf) (i : ℕ) (p q : Purpose) → x ≡ Held i p → x ≡ Listed q → ⊥
held_listed x i p q a b = cc

held_open : (x : Shelf) (i : ℕ) (p : Purpose) → x ≡ Held i p → x ≡ Open → ⊥
held_open x i p a b = cc

held_loose : (x : Shelf) (i : ℕ) (p : Purpose) → x ≡ Held i p → x ≡ Loose → ⊥
held_loose x i p a b = cc

held_raised : (x : Shelf) (i : ℕ) (p : Purpose) → x ≡ Held i p → x ≡ Raised → ⊥
held_raised x i p a b = cc

-- another bucket is put elsewhere
put_shelf : (shelf : ℕ → Shelf) (b : ℕ) (y : Shelf) (q i : ℕ) (p : Purpose) → shelf q ≡ Held i p
    → (q ≡ b → ⊥) → put shelf b y q ≡ Held i p
put_shelf shelf b y q i p is ne = put_else shelf b y q ne ∙ is

at : (shelf : ℕ → Shelf) (q b : ℕ) → q ≡ b → shelf q ≡ shelf b
at shelf q b e = ap shelf e

module _ (w : Setup) (k : Books) (j i : ℕ) (ne : j ≢ i) (q : ℕ) (p : Purpose)
    (is : k.shelf q ≡ Held i p) where
  -- a bucket that stands like this is another one
  apart : (b : ℕ) (y : Shelf) → k.shelf b ≡ y → (k.shelf q ≡ y → ⊥) → q ≡ b → ⊥
  apart b y e never same = never (at k.shelf q b same ∙ e)

  pub bucket_shelved : (x : Step) (stage : flow.Stage) → CanStep w k x → IsShelving stage j x
      → ((room : ℕ → Bool) → x ≡ ReadyChain room → ⊥)
      → (after w k x).shelf q ≡ Held i p
  bucket_shelved (Put leaf keys) stage can s chain = absurd s
  bucket_shelved (Take h r b) stage can s chain = put_shelf k.shelf b (taken_to h r) q i p is
      (λ same. elim can [
        | inl e ↦ apart b (Listed Plain) e (held_listed (k.shelf q) i p Plain is) same
        | inr (inl e) ↦ apart b (Listed r) e (held_listed (k.shelf q) i p r is) same
        | inr (inr e) ↦ apart b (Listed Moving) e.1 (held_listed (k.shelf q) i p Moving is) same
      ])
  bucket_shelved (Shut b) stage can s chain = put_shelf k.shelf b Loose q i p is
      (apart b Open can (held_open (k.shelf q) i p is))
  bucket_shelved (LetGo h b room) stage can s chain = put_shelf k.shelf b (put_back room (k.shelf b)) q i p
      is (apart b (Held h can.0.0) can.0.1
      (held_seat (k.shelf q) i h p can.0.0 (λ e. ne (sym s ∙ e)) is))
  bucket_shelved (BeginNode h b) stage can s chain = put_shelf k.shelf b (Held h Tree) q i p is
      (λ same. elim can.0 [
        | inl e ↦ apart b (Held h Moving) e
            (held_seat (k.shelf q) i h p Moving (λ z. ne (sym s ∙ z)) is) same
        | inr e ↦ apart b (Held h Tree) e
            (held_seat (k.shelf q) i h p Tree (λ z. ne (sym s ∙ z)) is) same
      ])
  bucket_shelved (MakeNode h b) stage can s chain = put_shelf k.shelf b Loose q i p is
      (apart b (Held h Tree) can (held_seat (k.shelf q) i h p Tree (λ e. ne (sym s ∙ e)) is))
  bucket_shelved (Raise b) stage can s chain = put_shelf k.shelf b Raised q i p is
      (apart b Loose can.1 (held_loose (k.shelf q) i p is))
  bucket_shelved (MakeReady b room) stage can s chain = put_shelf k.shelf b (by_room room) q i p is
      (apart b Raised can.0 (held_raised (k.shelf q) i p is))
  bucket_shelved (ReadyChain room) stage can s chain = absurd (chain room refl)
  bucket_shelved x stage can s chain = is

  -- the chain that is made ready is the acting seat's, and the one that is given up is nobody's
  pub bucket_ready : (room : ℕ → Bool) → IsInOrder w k
      → ((b : ℕ) → k.chains.of b ≡ Some (suc k.chains.ready) → k.shelf b ≡ Held j Priorities)
      → (after w k (ReadyChain room)).shelf q ≡ Held i p
  bucket_ready room order holds = by_chain (k.chains.of q) refl
    where
      by_chain : (o : Option ℕ) → k.chains.of q ≡ o
          → at_ready k.chains.ready o (room q) (k.shelf q) ≡ Held i p
      by_chain None e = is
      by_chain (Some c) e = by_test c k.chains.ready
          (λ b. (if b then back (room q) else (if c == suc k.chains.ready then Loose else k.shelf q))
          ≡ Held i p)
          (λ same. absurd (held_loose (k.shelf q) i p is
          ((order.chained.links q c e).loose same)))
          (λ other. by_test c (suc k.chains.ready)
          (λ b. (if b then Loose else k.shelf q) ≡ Held i p)
          (λ next. absurd (held_seat (k.shelf q) i j p Priorities ne is
          (holds q (e ∙ ap Some next))))
          (λ ne2. is))
