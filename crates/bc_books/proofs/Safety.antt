-- What may be raised, what is shot within the window, where pins stand, what stays, and what is kept of chains.
use Rattle.std.proofs.Common.{◌≡◌, ◌≢◌, ◌⊎◌, inl, inr, ℕ, ◌+◌, ◌%◌, ◌≤◌, true, false, Some, sym, ap, ◌∙◌, subst, arith}
use Rattle.std.proofs.lemmas.Grind.{common_steps}
use Rattle.bc_books.specs.Index.{Pointer}
use Rattle.bc_books.specs.Versions.{behind, is_stale}
use Rattle.bc_books.specs.Shelves.{Purpose, Priorities, Tree, Loose, Raised, Held, Spent, IsUnwritten}
use Rattle.bc_books.specs.Books.{Setup, Books, opened}
use Rattle.bc_books.specs.Enabled.{IsFresh, CanRaise}
use Rattle.bc_books.specs.After.{fold}
use Rattle.bc_books.specs.Invariant.{IsMetadata, IsInOrder}
use Rattle.bc_books.specs.Laws.{Snapshot, durable_snapshot, sealed_snapshot, memory_snapshot, IsSeen, IsLive, IsUnneeded, IsInWindow, IsReadByBytes, MayHaveMetadata, IsApart, LawRaise, LawWindow, LawPlace, LawApart}
use Rattle.bc_books.proofs.Cases.{off, none}
use Rattle.bc_books.proofs.Places.{pinned_fresh, pinned_spent, loose_free, chain_shelf}
use Rattle.bc_books.proofs.Known.{newest}
use Rattle.bc_books.proofs.Opening.{kept_at}

stale_tells : (v p : ℕ) → p ≤ v → v ≤ p + 96
    → (behind (v % 256) (p % 256) + p ≡ v) × (is_stale (v % 256) (p % 256) ≡ false → v ≡ p)
    × (v ≡ p → is_stale (v % 256) (p % 256) ≡ false)
stale_tells v p low high = grind (arith, common_steps)

pub unneeded_at : (w : Setup) (k : Books) → IsInOrder w k → (b : ℕ) → CanRaise w k b → IsUnneeded w k b
unneeded_at w k f b can = record {
  no_dirty = λ n s r le e d is. let m = (f.known.keys n s le r e).marked d in let x : k.mark (w.bucket r.place) ≡ k.mark b = ap k.mark is in let y = can.0.free in absurd (cc);
  not_fixed = off (w.fixed b) (λ e. let m = f.marked.marked b (inl e) in let y = can.0.free in absurd (cc));
  no_node = off (k.node b) (λ e. let m = f.marked.marked b (inr (inl e)) in let y = can.0.free in absurd (cc));
  no_chain = none (k.chains.of b) (loose_free w k f b can.0.free can.1);
}

pub law_raise : LawRaise
law_raise w xs sound run b can = unneeded_at w (fold w (opened w) xs) (kept_at w xs sound run) b can

module _ (w : Setup) (k : Books) (f : IsInOrder w k) where
  -- what is seen is one of three
  by_seen : (shot : Snapshot) (P : Snapshot → Type 0) → IsSeen k shot → P (durable_snapshot k) → P (sealed_snapshot k)
      → P (memory_snapshot k) → P shot
  by_seen shot P (inl (inl e)) a b c = subst P (sym e) a
  by_seen shot P (inl (inr e)) a b c = subst P (sym e) b
  by_seen shot P (inr e) a b c = subst P (sym e) c

  -- it has the keys up to the durable entry, and generations between the durable ones and those in memory
  pub seen_count : (shot : Snapshot) → IsSeen k shot → k.journal.durable ≤ shot.count
  seen_count shot seen = by_seen shot (λ x. k.journal.durable ≤ x.count) seen (omega arith) f.counted.durable (newest w k f)

  pub seen_low : (shot : Snapshot) (b : ℕ) → IsSeen k shot → k.generations.durable b ≤ shot.version b
  seen_low shot b seen = by_seen shot (λ x. k.generations.durable b ≤ x.version b) seen (omega arith) (f.dated.sealed b) (let x = f.dated.sealed b in let y = f.dated.version b in omega arith)

  pub seen_high : (shot : Snapshot) (b : ℕ) → IsSeen k shot → shot.version b ≤ k.generations.version b
  seen_high shot b seen = by_seen shot (λ x. x.version b ≤ k.generations.version b) seen (let x = f.dated.sealed b in let y = f.dated.version b in omega arith) (f.dated.version b) (omega arith)

  pub seen_calm : (shot : Snapshot) (b : ℕ) → IsSeen k shot → k.shelf b ≢ Raised
      → shot.version b ≡ k.generations.version b
  seen_calm shot b seen calm = let x = seen_low shot b seen in let y = seen_high shot b seen in let z = f.dated.settled b calm in omega arith

  pub in_window : (shot : Snapshot) (s : ℕ) (r : Pointer) → IsSeen k shot → k.index.at shot.count s ≡ Some r
      → IsInWindow (shot.version (w.bucket r.place)) r
  in_window shot s r seen e =
      let h = f.known.keys shot.count s (seen_count shot seen) r e in
      let b = w.bucket r.place in
      let low = seen_low shot (w.bucket r.place) seen in
      let high = seen_high shot (w.bucket r.place) seen in
      let durable = h.durable in
      let oldest = h.oldest in
      let window = f.dated.window (w.bucket r.place) in
      let t = stale_tells (shot.version (w.bucket r.place)) r.version (omega arith) (omega arith) in record {
        low = omega arith;
        high = omega arith;
        dirty = λ d. let live = h.live d in omega arith;
        stale = t.1;
        live = t.2;
      }

  told : (b : ℕ) → IsReadByBytes k.generations b
  told b =
      let sealed = f.dated.sealed b in let version = f.dated.version b in let ahead = f.dated.ahead b in
      let d = (stale_tells (k.generations.version b) (k.generations.durable b) (omega arith) (omega arith)).0 in record {
        oldest = (stale_tells (k.generations.version b) (k.generations.last_gc b) (f.dated.oldest b) (f.dated.window b)).0;
        ahead = omega arith;
      }

  -- a live key of what is seen has a place that nobody may write
  pub live_spent : (shot : Snapshot) (s : ℕ) (r : Pointer) → IsSeen k shot → IsLive w k shot s r
      → k.shelf (w.bucket r.place) ≢ Raised → k.owner r.place ≡ Spent
  live_spent shot s r seen live calm =
      let h = f.known.keys shot.count s (seen_count shot seen) r live.0 in h.spent (sym (seen_calm shot (w.bucket r.place) seen calm) ∙ live.1)

  -- a bucket that stands nowhere or is held, in which nothing was pinned
  apart_by : (b : ℕ) → (CanRaise w k b → ⊥) → (k.shelf b ≡ Loose) ⊎ ((i : ℕ) × ((p : Purpose) × (k.shelf b ≡ Held i p))) → IsFresh w.bucket k.owner b → IsApart w k b
  apart_by b no_raise_ where_ fresh = record {
    no_raise = no_raise_;
    no_list = λ p is. elim where_ [ inl e ↦ absurd (cc) | inr e ↦ (let x = e.1.1 in absurd (cc)) ];
    not_raised = calm;
    not_open = λ is. elim where_ [ inl e ↦ absurd (cc) | inr e ↦ (let x = e.1.1 in absurd (cc)) ];
    unpinned = λ t is pin. pinned_fresh (k.owner t) (fresh t is) pin;
    no_key = λ shot s r seen live is. let x = live_spent shot s r seen live (λ y. calm (sym (ap k.shelf is) ∙ y)) in let y = fresh r.place is in absurd (cc);
  }
    where
      calm : k.shelf b ≢ Raised
      calm is = elim where_ [ inl e ↦ absurd (cc) | inr e ↦ (let x = e.1.1 in absurd (cc)) ]

  pub chain_apart : (b c : ℕ) → k.chains.of b ≡ Some c → IsApart w k b
  chain_apart b c e = apart_by b (λ can. loose_free w k f b can.0.free can.1 c e) (chain_shelf w k f b c ((k.shelf b ≡ Loose) ⊎ ((i : ℕ) × ((p : Purpose) × (k.shelf b ≡ Held i p)))) e (λ _ x. inl x) (λ i x. inr (i, (Priorities, x)))) (f.chained.links b c e).fresh

  fixed_apart : (b : ℕ) → (w.fixed b ≡ true) ⊎ (k.node b ≡ true) → IsApart w k b
  fixed_apart b u = apart_by b (λ can. let m = f.marked.marked b (wider u) in let x = can.0.free in absurd (cc)) (inl (f.marked.loose b u)) (f.marked.fresh b u)
    where
      wider : (w.fixed b ≡ true) ⊎ (k.node b ≡ true) → IsMetadata w.fixed k.node k.chains b
      wider (inl x) = inl x
      wider (inr x) = inr (inl x)

  pub apart : (b : ℕ) → MayHaveMetadata w k b → IsApart w k b
  apart b (inl e) = fixed_apart b (inl e)
  apart b (inr (inl (inl e))) = fixed_apart b (inr e)
  apart b (inr (inl (inr h))) = apart_by b (λ can. let x = can.1 in let y = h.1 in absurd (cc)) (inr (h.0, (Tree, h.1))) (f.placed.unwritten b (subst (λ y. IsUnwritten y) (sym h.1) tt))
  apart b (inr (inr h)) = chain_apart b h.0 h.1

pub law_window : LawWindow
law_window w xs sound run = let k = fold w (opened w) xs in let f = kept_at w xs sound run in record { keys = in_window w k f; buckets = told w k f }

pub law_place : LawPlace
law_place w xs sound run t shot pin seen = let k = fold w (opened w) xs in let f = kept_at w xs sound run in record {
  same = seen_calm w k f shot (w.bucket t) seen (f.placed.calm t pin);
  unnamed = λ s r live is.
      let x = live_spent w k f shot s r seen live (λ e. f.placed.calm t pin (sym (ap (λ (p : ℕ). k.shelf (w.bucket p)) is) ∙ e)) in
      pinned_spent (k.owner t) (sym (ap k.owner is) ∙ x) pin;
}

pub law_apart : LawApart
law_apart w xs sound run b may = apart w (fold w (opened w) xs) (kept_at w xs sound run) b may
