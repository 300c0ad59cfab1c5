-- The way of the parts back into their vector, as a run ends.
use Rattle.std.proofs.Common.{◌≡◌, ℕ, ◌+◌, ◌<◌, ◌≤◌, Bool, true, false, List, [], ◌∷◌, ◌++◌, length, get_or, set, Option, Some, sym, ap, ◌∙◌, subst, arith, length-append, length-set, get_or-set_same, get_or-set_other}
use Rattle.std.specs.Prelude.{Vec, vec_capacity}
use Rattle.std.specs.declared.alloc.Global.{Global}
use Rattle.std.specs.Mem.Slots.Ownership.{Filled}
use mathlib.Core.Logic.{dite}
use mathlib.Core.Option.{some, some-injective}
use native.Mathlib.Decide.{ℕ_discrete}
use lib.ListN.{get_elem?}
use Rattle.bc_parts.specs.declared.machine.Machine.{Ghosts}
use Rattle.bc_parts.specs.declared.table.Cargo.{Cargo}
use Rattle.bc_parts.specs.declared.table.Cargo.TheVariants.{Part, Book, Vector}
use Rattle.bc_parts.specs.Machine.{state_after, StandFrom}
use Rattle.bc_parts.specs.Rule.{Whole}
use Rattle.bc_parts.proofs.Opening.{StandFrom-push}

-- the first k of n parts are out of their slots, and the vector; the other parts and the Book are in theirs
pub record IsTakenUpTo (filled : List Bool) (n k : ℕ) : Type 0 where
  pub slots : length filled ≡ n + 2
  pub full : (j : ℕ) → k ≤ j → j ≤ n → get_or filled j false ≡ true
  pub empty : (j : ℕ) → j < k → get_or filled j false ≡ false
  pub vector : get_or filled (n + 1) false ≡ false

pub IsTakenUpTo-first : (filled rest : List Bool) (n : ℕ) → length filled ≡ n + 2 → Filled filled 0 (n + 2) → rest ≡ set filled (n + 1) false → IsTakenUpTo rest n 0
IsTakenUpTo-first filled rest n many full is = subst (λ l. IsTakenUpTo l n 0) (sym is) record {
  slots = length-set filled (n + 1) false ∙ many;
  full = λ j low high. get_or-set_other filled (n + 1) j false false (λ e. absurd (omega arith)) ∙ full j low (omega arith);
  empty = λ j low. absurd (omega arith);
  vector = get_or-set_same filled (n + 1) false false (omega arith);
}

pub IsTakenUpTo-next : (filled rest : List Bool) (n k : ℕ) → IsTakenUpTo filled n k → k < n → rest ≡ set filled k false → IsTakenUpTo rest n (k + 1)
IsTakenUpTo-next filled rest n k so_far inside is = subst (λ l. IsTakenUpTo l n (k + 1)) (sym is) record {
  slots = length-set filled k false ∙ so_far.slots;
  full = λ j low high. get_or-set_other filled k j false false (λ e. absurd (omega arith)) ∙ so_far.full j (omega arith) high;
  empty = λ j low. dite (ℕ_discrete j k)
      (λ here. ap (λ i. get_or (set filled k false) i false) here ∙ get_or-set_same filled k false false (let m = so_far.slots in omega arith))
      (λ other. get_or-set_other filled k j false false other ∙ so_far.empty j (omega (arith, other)));
  vector = get_or-set_other filled k (n + 1) false false (λ e. absurd (omega arith)) ∙ so_far.vector;
}

-- after the Book too, nothing is left
pub IsTakenUpTo-last : (filled rest : List Bool) (n len : ℕ) → IsTakenUpTo filled n n → rest ≡ set filled n false → len ≡ n + 2 → (j : ℕ) → j < len → get_or rest j false ≡ false
IsTakenUpTo-last filled rest n len so_far is many j inside = ap (λ l. get_or l j false) is ∙ dite (ℕ_discrete j n)
    (λ here. ap (λ i. get_or (set filled n false) i false) here ∙ get_or-set_same filled n false false (let m = so_far.slots in omega arith))
    (λ other. get_or-set_other filled n j false false other ∙ dite (ℕ_discrete j (n + 1)) (λ last. ap (λ i. get_or filled i false) last ∙ so_far.vector) (λ ne. so_far.empty j (omega (arith, other, ne, inside, many))))

module _ {Z P E B T : Type 0} (m : Ghosts Z P E B T) where
  -- the first k parts lie in the vector, which has room for n
  pub record IsCollected (x : m.State) (parts : Vec P Global) (n k : ℕ) : Type 0 where
    pub stand : StandFrom m x 0 parts.items
    pub many : length parts.items ≡ k
    pub room : n ≤ vec_capacity parts

  pub IsCollected-first : (x : m.State) (parts : Vec P Global) (n : ℕ) → parts.items ≡ [] → n ≤ vec_capacity parts → IsCollected x parts n 0
  IsCollected-first x parts n none room = record { stand = subst (StandFrom m x 0) (sym none) tt; many = ap length none; room = room }

  pub IsCollected-next : (x : m.State) (parts more : Vec P Global) (n k : ℕ) (p : P) → IsCollected x parts n k → m.stands k p x → more.items ≡ parts.items ++ p ∷ [] → vec_capacity more ≡ vec_capacity parts → IsCollected x more n (k + 1)
  IsCollected-next x parts more n k p so_far stands pushed same = record {
    stand = subst (StandFrom m x 0) (sym pushed) (StandFrom-push m x 0 parts.items p so_far.stand (subst (λ j. m.stands j p x) (let e = so_far.many in omega (arith, e)) stands));
    many = (let longer = ap length pushed in let e = so_far.many in omega (arith, longer, e, length-append parts.items (p ∷ [])));
    room = (let r = so_far.room in omega (arith, r, same));
  }

  module _ (start : List P) (seats : ℕ) (log : List E) (slots : List (Option (Cargo P B))) (whole : Whole m start seats log slots) where
    -- what is taken out of the slot of a part
    pub part_taken : (k : ℕ) (slot : Option (Cargo P B)) → k < length start → get_elem? slots k ≡ some slot → (p : P) × (slot ≡ Some (Part p)) × m.stands k p (state_after m start log)
    part_taken k slot inside there = let p = whole.parts k inside in (p.0, some-injective slot (Some (Part p.0)) (sym there ∙ p.1), p.2)

    pub book_taken : (k : ℕ) (slot : Option (Cargo P B)) → k ≡ length start → get_elem? slots k ≡ some slot → (b : B) × (slot ≡ Some (Book b)) × (m.events b ≡ log)
    book_taken k slot last there = let b = whole.book in (b.0, some-injective slot (Some (Book b.0)) (sym there ∙ (ap (get_elem? slots) last ∙ b.1)), b.2)

    pub vector_taken : (k : ℕ) (slot : Option (Cargo P B)) → k ≡ length start + 1 → get_elem? slots k ≡ some slot → (v : Vec P Global) × (slot ≡ Some (Vector v)) × (v.items ≡ []) × (length start ≤ vec_capacity v)
    vector_taken k slot last there = let v = whole.vector in (v.0, some-injective slot (Some (Vector v.0)) (sym there ∙ (ap (get_elem? slots) last ∙ v.1)), v.2, v.3)
