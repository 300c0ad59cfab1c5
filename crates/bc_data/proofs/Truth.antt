-- What claims' notes and candidates say, and what keeps that.
use Rattle.std.proofs.Common.{◌≡◌, ◌≢◌, ◌⊎◌, inl, inr, ℕ, suc, ◌<◌, ◌≤◌, true, false, List, Option, Some, None, sym, ◌∙◌, subst, arith}
use Rattle.bc_model.specs.Sector.{Value}
use Rattle.bc_disk.specs.Device.{Only}
use Rattle.bc_books.specs.Index.{Pointer}
use Rattle.bc_books.specs.Shelves.{Spent, Raised}
use Rattle.bc_books.specs.Books.{Books}
use Rattle.bc_books.specs.Books as books
use Rattle.bc_books.specs.Invariant.{IsInOrder}
use Rattle.bc_books.specs.Laws.{IsAged, IsLater}
use Rattle.bc_data.specs.Seats.{Claim, Candidate, Covers}
use Rattle.bc_data.specs.Data.{Opening}
use Rattle.bc_data.specs.Invariant.{View, IsLasting, IsTrueAt, IsSince, IsNoted, IsPromised}

-- the order of the books' counts, and of a bucket's generations
pub counts_of : (w : books.Setup) (k : Books) → IsInOrder w k → (k.journal.durable ≤ k.journal.sealed)
    × (k.journal.sealed ≤ k.index.count)
counts_of w k f = (f.counted.durable, f.counted.sealed)

pub gens_of : (w : books.Setup) (k : Books) → IsInOrder w k → (b : ℕ)
    → (k.generations.durable b ≤ k.generations.sealed b)
    × (k.generations.sealed b ≤ k.generations.version b)
    × (k.generations.version b ≤ suc (k.generations.durable b))
gens_of w k f b = (f.dated.sealed b, f.dated.version b, f.dated.ahead b)

module _ (w : Opening) (k : Books) (f : IsInOrder w.books k) where
  -- a place whose bucket isn't raised, and that isn't spent, isn't that of a live key
  pub live_spent : (r : Pointer) → IsAged w.books k r → IsLasting w k r → k.shelf
      (w.books.bucket r.place) ≢ Raised → k.owner r.place ≡ Spent
  live_spent r a d calm = a.1 (sym (f.dated.settled (w.books.bucket r.place) calm) ∙ d)

  pub live_durable : (r : Pointer) → IsAged w.books k r → k.generations.version
      (w.books.bucket r.place) ≡ r.version → IsLasting w k r
  live_durable r a v = let g = gens_of w.books k f (w.books.bucket r.place) in let g0 = g.0 in
      let g1 = g.1 in let a0 = a.0 in omega arith

-- from v to v': what present values, and what the sectors of P, keep
pub record Moved (w : Opening) (v v' : View) (P : ℕ → Type 0) : Type 0 where
  pub books : IsLater w.books v.books v'.books
  pub cached : (r : Pointer) (x : Value) → IsAged w.books v.books r → IsLasting w v.books r → Only x
      (v.cache r.place) → Only x (v'.cache r.place)
  pub backed : (s : ℕ) → P s → Only (v.now s) (v.reads s) → Only (v.now s) (v'.reads s)
  pub stable : (s : ℕ) → P s → Only (v.now s) (v.reads s) → Only (v.now s) (v.leaves s) → Only
      (v.now s) (v'.leaves s)
  pub present : (s : ℕ) → P s → v'.now s ≡ v.now s

pub was_live : (w : Opening) (k k' : Books) → IsLater w.books k k' → (r : Pointer)
    → IsAged w.books k r → IsLasting w k' r → IsLasting w k r
was_live w k k' g r a d = let x = g.version (w.books.bucket r.place) in let a0 = a.0 in omega arith

pub only_at : (a b : Value) (l : List Value) → a ≡ b → Only b l → Only a l
only_at a b l e h x i = h x i ∙ sym e

pub true_moved : (w : Opening) (v v' : View) (P : ℕ → Type 0) → Moved w v v' P
    → (o : Option Pointer) (s : ℕ) → P s → IsTrueAt w v o s (v.now s) → IsTrueAt w v' o s (v'.now s)
true_moved w v v' P m None s p h = only_at _ _ _ (m.present s p) (m.backed s p h)
true_moved w v v' P m (Some r) s p h = (
  m.books.aged r h.0,
  (λ d. let e = was_live w v.books v'.books m.books r h.0 d in only_at _ _ _ (m.present s p)
      (m.cached r _ h.0 e (h.1 e))),
  λ k. only_at _ _ _ (m.present s p) (m.backed s p (h.2 k)),
)

module _ (w : Opening) (v v' : View) (P : ℕ → Type 0) (f : IsInOrder w.books v.books)
    (m : Moved w v v' P) (fresh : (n : ℕ) → v.books.index.count < n → n ≤ v'.books.index.count
    → (s : ℕ) → P s → IsTrueAt w v' (v'.books.index.at n s) s (v'.now s)) where
  split : (n : ℕ) → (n ≤ v.books.index.count) ⊎ (v.books.index.count < n)
  split n = grind arith

  low : (n s : ℕ) → n ≤ v.books.index.count → v'.books.index.at n s ≡ v.books.index.at n s
  low n s = m.books.index n s

  newest : v.books.journal.durable ≤ v.books.index.count
  newest = let x = (counts_of w.books v.books f) in let x0 = x.0 in let x1 = x.1 in omega arith

  -- a true index stays true
  deep_moved : (m0 s : ℕ) → P s → ((n : ℕ) → IsSince v.books m0 n → IsTrueAt w v
      (v.books.index.at n s) s (v.now s)) → (n : ℕ) → IsSince v'.books m0 n → IsTrueAt w v'
      (v'.books.index.at n s) s (v'.now s)
  deep_moved m0 s p old n q = let later = m.books.durable in let q1 = q.1 in let q2 = q.2 in elim
      (split n) [
        | inl x ↦ subst (λ o. IsTrueAt w v' o s (v'.now s)) (sym (low n s x))
            (true_moved w v v' P m _ s p (old n (q.0, omega arith, x)))
        | inr x ↦ fresh n x q.2 s p
      ]

  -- a seat that the event leaves alone
  pub seat_moved : (c : Claim) → ((s : ℕ) → Covers c s → P s)
      → (c.exclusive ≡ true → c.wrote ≡ false → (s : ℕ) → Covers c s
      → v.books.index.at v.books.index.count s ≡ None → (n : ℕ) → v.books.index.count < n
      → n ≤ v'.books.index.count → v'.books.index.at n s ≡ None)
      → IsNoted w v c → IsNoted w v' c
  seat_moved c covers hold n = record {
    young = let y = n.young in let y0 = y.0 in let y1 = y.1 in let g = m.books.count in
        (omega arith, omega arith);
    bare = λ l x wr s q none i since. bare_moved c.keys s q (n.young).0 x wr
        (n.bare l x wr s q none) i since;
    gone = λ s g. let h = n.gone s g in
        (h.0, h.1, λ wr. bare_moved c.gone_keys s h.0 (n.young).1 h.1 wr (h.2 wr));
    sight = λ l s q. true_moved w v v' P m (c.sight s) s (covers s q) (n.sight l s q);
    deep = λ l s q. deep_moved c.keys s (covers s q) (n.deep l s q);
    cached = λ s x r e f2. let h = n.cached s x r e f2 in (
      h.0,
      h.1,
      m.books.aged r h.2,
      λ d. h.3 (was_live w v.books v'.books m.books r h.2 d) ∙ sym
          (m.present s (covers s h.1)),
    );
    backed = λ s x e. let h = n.backed s x e in (
      h.0,
      λ b. let k = h.1 b in let p = covers s h.0 in
          (k.0 ∙ sym (m.present s p), only_at _ _ _ (m.present s p) (m.backed s p k.1)),
    );
    checked = λ s x e. let h = n.checked s x e in let p = covers s h.0 in
        (h.0, h.1 ∙ sym (m.present s p), deep_moved c.checked_keys s p h.2);
    copied = λ s e. let h = n.copied s e in let p = covers s h.0 in
        (h.0, only_at _ _ _ (m.present s p) (m.backed s p h.1));
    firmed = λ s e. let h = n.firmed s e in let p = covers s h.0 in (
      h.0,
      only_at _ _ _ (m.present s p) (m.backed s p h.1),
      only_at _ _ _ (m.present s p)
          (m.stable s p h.1 h.2),
    );
    through = λ s x e. let h = n.through s x e in let p = covers s h.0 in (
      h.0,
      h.1,
      h.2,
      h.3 ∙ sym (m.present s p),
      only_at _ _ _ (m.present s p)
          (m.backed s p h.4),
    );
  }
    where
      bare_moved : (m0 s : ℕ) → Covers c s → m0 ≤ v.books.index.count → c.exclusive ≡ true
          → c.wrote ≡ false → ((n : ℕ) → IsSince v.books m0 n → v.books.index.at n s ≡ None)
          → (n : ℕ) → IsSince v'.books m0 n → v'.books.index.at n s ≡ None
      bare_moved m0 s q young x wr old i since = let later = m.books.durable in let q1 = since.1 in
          let top = newest in elim (split i) [
            | inl y ↦ low i s y ∙ old i (since.0, omega arith, y)
            | inr y ↦ hold x wr s q (old v.books.index.count (young, top, omega arith)) i y since.2
          ]

  pub promise_moved : (x : Candidate) (s p : ℕ) → P s
      → ((y : Value) → Only y (v.cache p) → Only y (v'.cache p)) → IsPromised w v x s p
      → IsPromised w v' x s p
  promise_moved x s p q cache h = record {
    backed = only_at _ _ _ (m.present s q) (m.backed s q h.backed);
    cached = only_at _ _ _ (m.present s q) (cache _ h.cached);
    firm = λ e. only_at _ _ _ (m.present s q) (m.stable s q h.backed (h.firm e));
  }

-- a claim with no notes
pub blank : (w : Opening) (v : View) (c : Claim) → c.keys ≡ 0 → c.gone_keys ≡ 0 → c.looked ≡ false
    → ((s : ℕ) → c.from_cache s ≡ None) → ((s : ℕ) → c.from_backing s ≡ None)
    → ((s : ℕ) → c.checked s ≡ None) → ((s : ℕ) → c.back s ≡ false) → ((s : ℕ) → c.firm s ≡ false)
    → ((s : ℕ) → c.gone s ≡ false)
    → ((s : ℕ) (x : Value) → c.through s ≡ Some x → Covers c s × (c.exclusive ≡ true)
    × (c.wrote ≡ true) × (x ≡ v.now s) × Only (v.now s) (v.reads s)) → IsNoted w v c
blank w v c k g l fc fb ch b f go th = record {
  young = (omega arith, omega arith);
  bare = λ x. absurd (cc);
  gone = λ s e. let h = go s in absurd (cc);
  sight = λ x. absurd (cc);
  deep = λ x. absurd (cc);
  cached = λ s x r e. let h = fc s in absurd (cc);
  backed = λ s x e. let h = fb s in absurd (cc);
  checked = λ s x e. let h = ch s in absurd (cc);
  copied = λ s e. let h = b s in absurd (cc);
  firmed = λ s e. let h = f s in absurd (cc);
  through = th;
}
