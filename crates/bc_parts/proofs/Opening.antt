-- The slots of a run that begins, and those of a run that ends.
use Rattle.std.proofs.Common.{◌≡◌, ℕ, zero, suc, ◌+◌, ◌<◌, ◌≤◌, List, [], ◌∷◌, ◌++◌, map, length, replicate, Option, Some, refl, sym, ap, ◌∙◌, subst, arith}
use Rattle.std.specs.Prelude.{slice_index, Vec, vec_capacity}
use Rattle.std.specs.declared.alloc.Global.{Global}
use Rattle.std.proofs.lemmas.List.{length-append, length-map, length-replicate}
use mathlib.Core.Option.{some}
use lib.ListN.{get_elem?}
use Rattle.bc_parts.specs.declared.machine.Machine.{Ghosts}
use Rattle.bc_parts.specs.declared.table.Cargo.{Cargo}
use Rattle.bc_parts.specs.declared.table.Cargo.TheVariants.{Part, Book, Vector}
use Rattle.bc_parts.specs.Machine.{StandFrom}
use Rattle.bc_parts.specs.Rule.{laid, Fresh}
use Rattle.bc_parts.proofs.Laying.{slot_of, books_in, parts_in}

pub zero-replicate : (n i : ℕ) → slice_index (replicate n 0) i ≡ 0
zero-replicate zero i = refl
zero-replicate (suc n) zero = refl
zero-replicate (suc n) (suc i) = zero-replicate n i

-- what lies behind the parts
behind : {P B : Type 0} (ps : List P) (tail : List (Option (Cargo P B))) (j i : ℕ) → j ≡ length ps + i → get_elem? (map slot_of ps ++ tail) j ≡ get_elem? tail i
behind [] tail j i is = ap (get_elem? tail) (let e : j ≡ i = omega arith in e)
behind (p ∷ ps) tail zero i is = absurd (omega arith)
behind (p ∷ ps) tail (suc j) i is = behind ps tail j i (omega arith)

module _ {Z P E B T : Type 0} (m : Ghosts Z P E B T) where
  -- a part among those that stand for a state
  part_at : (x : m.State) (k : ℕ) (ps : List P) (tail : List (Option (Cargo P B))) (j : ℕ) → StandFrom m x k ps → j < length ps → (p : P) × (get_elem? (map slot_of ps ++ tail) j ≡ some (Some (Part p))) × m.stands (k + j) p x
  part_at x k [] tail j stand inside = absurd (omega arith)
  part_at x k (p ∷ ps) tail zero stand inside = (p, refl, subst (λ n. m.stands n p x) (omega arith) stand.0)
  part_at x k (p ∷ ps) tail (suc j) stand inside = let t = part_at x (k + 1) ps tail j stand.1 (omega arith) in (t.0, t.1, subst (λ n. m.stands n t.0 x) (omega arith) t.2)

  pub Fresh-laid : (start : List P) (seats count : ℕ) (words : List ℕ) (slots : List (Option (Cargo P B))) (b : B) (v : Vec P Global) → count ≡ length start → words ≡ replicate (count + 3) 0 → slots ≡ laid start b v → v.items ≡ [] → length start ≤ vec_capacity v
      → StandFrom m (m.opening start) 0 start → m.events b ≡ [] → Fresh m start seats words slots
  Fresh-laid start seats count words slots b v many zeros are empty room stand none = record {
    zeros = λ i. ap (λ ws. slice_index ws i) zeros ∙ zero-replicate (count + 3) i;
    word_count = ap length zeros ∙ (length-replicate (count + 3) 0 ∙ ap (λ n. n + 3) many);
    slot_count = ap length are ∙ (length-append (map (slot_of {P = P} {B = B}) start) (Some (Book b) ∷ Some (Vector v) ∷ []) ∙ ap (λ n. n + 2) (length-map start slot_of));
    parts = λ k inside. let t = part_at (m.opening start) 0 start (Some (Book b) ∷ Some (Vector v) ∷ []) k stand inside in
        (t.0, ap (λ l. get_elem? l k) are ∙ t.1, subst (λ n. m.stands n t.0 (m.opening start)) (omega arith) t.2);
    book = (b, ap (λ l. get_elem? l (length start)) are ∙ behind start (Some (Book b) ∷ Some (Vector v) ∷ []) (length start) 0 (omega arith), none);
    vector = (v, ap (λ l. get_elem? l (length start + 1)) are ∙ behind start (Some (Book b) ∷ Some (Vector v) ∷ []) (length start + 1) 1 refl, empty, room);
  }

  -- one value more stands for its part
  pub StandFrom-push : (x : m.State) (k : ℕ) (ps : List P) (p : P) → StandFrom m x k ps → m.stands (k + length ps) p x → StandFrom m x k (ps ++ p ∷ [])
  StandFrom-push x k [] p stand more = (subst (λ n. m.stands n p x) (omega arith) more, tt)
  StandFrom-push x k (q ∷ ps) p stand more = (stand.0, StandFrom-push x (k + 1) ps p stand.1 (subst (λ n. m.stands n p x) (omega arith) more))

-- slots that were laid from one row of parts and one Book were laid from no other
parts_in-laid : {P B : Type 0} (ps : List P) (b : B) (v : Vec P Global) → parts_in (laid ps b v) ≡ ps
parts_in-laid [] b v = refl
parts_in-laid (p ∷ ps) b v = ap (λ l. p ∷ l) (parts_in-laid ps b v)

books_in-laid : {P B : Type 0} (ps : List P) (b : B) (v : Vec P Global) → books_in (laid ps b v) ≡ b ∷ []
books_in-laid [] b v = refl
books_in-laid (p ∷ ps) b v = books_in-laid ps b v

pub laid-injective : {P B : Type 0} (ps qs : List P) (b c : B) (v w : Vec P Global) → laid ps b v ≡ laid qs c w → (ps ≡ qs) × (b ≡ c)
laid-injective ps qs b c v w same = let books : b ∷ [] ≡ c ∷ [] = sym (books_in-laid ps b v) ∙ (ap books_in same ∙ books_in-laid qs c w) in
    (sym (parts_in-laid ps b v) ∙ (ap parts_in same ∙ parts_in-laid qs c w), cc)
