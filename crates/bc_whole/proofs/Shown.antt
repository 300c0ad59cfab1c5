-- What is read by bytes is what the books mean.
use Rattle.std.proofs.Common.{◌≡◌, ℕ, zero, suc, drop, ◌%◌, Bool, true, false, List, [], ◌∷◌, Option, Some, None, refl, sym, ap, ◌∙◌, if◌then◌else◌}
use Rattle.bc_model.specs.Sector.{Value, Image}
use Rattle.bc_books.specs.Index.{Kind, Clean, Dirty, Pointer, is_dirty}
use Rattle.bc_books.specs.Versions.{is_stale}
use Rattle.bc_data.specs.Laws as flow
use Rattle.bc_meta.specs.Keys.{Ref}
use Rattle.bc_meta.specs.Chain.{bytes_of}
use Rattle.bc_whole.specs.Together.{ref_of, gen_at, gen_from}
use Rattle.bc_whole.specs.Laws.{shown_by}

pub gen_bytes : (gens : List ℕ) (b : ℕ) → gen_at (bytes_of gens) b ≡ gen_at gens b % 256
gen_bytes [] b = refl
gen_bytes (g ∷ gs) zero = refl
gen_bytes (g ∷ gs) (suc b) = gen_bytes gs b

drop_bytes : (n : ℕ) (gens : List ℕ) → drop n (bytes_of gens) ≡ bytes_of (drop n gens)
drop_bytes zero gens = refl
drop_bytes (suc n) [] = refl
drop_bytes (suc n) (g ∷ gs) = drop_bytes n gs

pub from_bytes : (before : ℕ) (gens : List ℕ) (b : ℕ)
    → gen_from before (bytes_of gens) b ≡ gen_from before gens b % 256
from_bytes before gens b = ap (λ (l : List ℕ). gen_at l b) (drop_bytes before gens)
    ∙ gen_bytes (drop before gens) b

pub shown_same : (before : ℕ) (bucket version : ℕ → ℕ) (gens : List ℕ) (o : Option Pointer)
    (c : Image) (v : Value) → ((b : ℕ) → gen_from before gens b ≡ version b)
    → shown_by bucket (gen_from before (bytes_of gens)) (ref_of o) c v
    ≡ flow.shown_by bucket version o c v
shown_same before bucket version gens None c v same = refl
shown_same before bucket version gens (Some r) c v same =
    ap (λ g. if is_stale g (r.version % 256) then v else c r.place)
    (from_bytes before gens (bucket r.place) ∙ ap (λ x. x % 256) (same (bucket r.place)))

-- the pointer that a reference is
pub record Points (o : Option Pointer) (r : Ref) : Type 0 where
  pub pointer : Pointer
  pub is : o ≡ Some pointer
  pub place : r.place ≡ pointer.place
  pub generation : r.generation ≡ pointer.version % 256
  pub dirty : r.dirty ≡ is_dirty pointer.kind

pub points : (o : Option Pointer) (r : Ref) → ref_of o ≡ Some r → Points o r
points None r e = absurd (cc)
points (Some p) r e = record {
  pointer = p;
  is = refl;
  place = ap (λ o. place_in o) (sym e);
  generation = ap (λ o. generation_in o) (sym e);
  dirty = ap (λ o. dirty_in o) (sym e);
}
  where
    place_in : Option Ref → ℕ
    place_in None = 0
    place_in (Some x) = x.place

    generation_in : Option Ref → ℕ
    generation_in None = 0
    generation_in (Some x) = x.generation

    dirty_in : Option Ref → Bool
    dirty_in None = false
    dirty_in (Some x) = x.dirty

pub clean_of : (k : Kind) → is_dirty k ≡ false → k ≡ Clean
clean_of Clean e = refl
clean_of Dirty e = absurd (cc)

pub dirty_of : (k : Kind) → is_dirty k ≡ true → k ≡ Dirty
dirty_of Dirty e = refl
dirty_of Clean e = absurd (cc)
