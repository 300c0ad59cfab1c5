-- What a slot that was taken has in it.
use Rattle.std.proofs.Common.{◌≡◌, ℕ, ◌<◌, List, [], ◌∷◌, length, Option, Some, sym, ap, ◌∙◌, subst, arith}
use Rattle.atomic_table.specs.Table.{rest}
use Rattle.bc_parts.specs.declared.machine.Machine.{Ghosts}
use Rattle.bc_parts.specs.declared.table.Cargo.{Cargo}
use Rattle.bc_parts.specs.declared.table.Cargo.TheVariants.{Part, Book}
use Rattle.bc_parts.specs.Machine.{state_after}
use Rattle.bc_parts.specs.Steps.{Slot, Mine, Takes, Carries, Bears, IsAway, HasBook, HoldsBook}

module _ {P B : Type 0} where
  abbrev cargo_or : Cargo P B → List (ℕ × Option (Cargo P B)) → Cargo P B
  cargo_or c ((k, Some x) ∷ xs) = x
  cargo_or c _ = c

  abbrev slot_or : Option (Cargo P B) → List (ℕ × Option (Cargo P B)) → Option (Cargo P B)
  slot_or c [] = c
  slot_or c ((k, x) ∷ xs) = x

  -- what lies in the only slot in hand
  pub same_cargo : (k : ℕ) (x y : Cargo P B) (carried : List (ℕ × Option (Cargo P B))) → carried ≡ (k, Some x) ∷ [] → carried ≡ (k, Some y) ∷ [] → y ≡ x
  same_cargo k x y carried one two = ap (cargo_or x) (sym two ∙ one)

  pub same_slot : (k : ℕ) (x y : Option (Cargo P B)) (xs ys : List (ℕ × Option (Cargo P B))) → (k, x) ∷ xs ≡ (k, y) ∷ ys → x ≡ y
  same_slot k x y xs ys is = ap (slot_or x) is

  pub same_some : (x y : Cargo P B) → ◌≡◌ {A = Option (Cargo P B)} (Some x) (Some y) → x ≡ y
  same_some x y is = cc

  pub same_book : (b c : B) → ◌≡◌ {A = Cargo P B} (Book b) (Book c) → b ≡ c
  same_book b c is = cc

  pub same_part : (p q : P) → ◌≡◌ {A = Cargo P B} (Part p) (Part q) → p ≡ q
  same_part p q is = cc

module _ {Z P E B T : Type 0} (m : Ghosts Z P E B T) where
  -- the Book, with the list that is then seen
  pub takes_book : (k : ℕ) (me new : Mine m) → k ≡ length me.0.start → me.1 ≡ [] → Takes m k me new → HoldsBook m k new.0.seen new.0.owed new
  takes_book k me new is bare t = let b = t.bears.1 is in
      (t.cargo, t.carried ∙ ap (λ cs. (k, t.cargo) ∷ cs) bare, record { book = b.0; is = b.1; events = b.2; room = b.3 })

  -- what the slot of the Book in hand lends
  pub lends_book : (k : ℕ) (es : List E) (more : ℕ) (me : Mine m) → HoldsBook m k es more me → (c : Slot m) × (me.1 ≡ (k, c) ∷ rest me.1)
  lends_book k es more me h = (h.0, h.1 ∙ ap (λ cs. (k, h.0) ∷ rest cs) (sym h.1))

  -- the Book lies in what was lent
  pub lent_book : (k : ℕ) (es : List E) (more : ℕ) (me : Mine m) (found : Slot m) → HoldsBook m k es more me → me.1 ≡ (k, found) ∷ rest me.1 → HasBook m es more found
  lent_book k es more me found h is = subst (HasBook m es more) (same_slot k h.0 found [] (rest me.1) (sym h.1 ∙ is)) h.2

  -- nothing else is in hand
  pub alone_lent : (k : ℕ) (es : List E) (more : ℕ) (me : Mine m) (left : Slot m) → HoldsBook m k es more me → (k, left) ∷ rest me.1 ≡ (k, left) ∷ []
  alone_lent k es more me left h = ap (λ cs. (k, left) ∷ rest cs) h.1

  -- a part, which stands for what that list has made of it
  pub takes_part : (k : ℕ) (me new : Mine m) → k < length me.0.start → me.1 ≡ [] → Takes m k me new → (p : P) × (new.1 ≡ (k, Some (Part p)) ∷ []) × m.stands k p (state_after m me.0.start new.0.seen)
  takes_part k me new inside bare t = let p = t.bears.0 inside in (p.0, t.carried ∙ (ap (λ c. (k, c) ∷ me.1) p.1 ∙ ap (λ cs. (k, Some (Part p.0)) ∷ cs) bare), p.2)

  -- the Book is ready to be given back
  pub book_ready : (k : ℕ) (me : Mine m) → IsAway m k me.0 → HoldsBook m k me.0.seen me.0.owed me → k ≡ length me.0.start
      → (c : Slot m) × Carries m k me c × Bears m me.0.start me.0.seen me.0.owed k c
  book_ready k me away h last = let b = h.2 in (
    h.0,
    record { live = away.live; whole = away.whole; has = away.has; out = away.out; carried = h.1 },
    ((λ inside. absurd (omega (arith, inside, last))), (λ _. (b.book, b.is, b.events, b.room))),
  )
