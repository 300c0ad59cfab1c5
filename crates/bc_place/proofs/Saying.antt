-- Keys that name places of a seat say of each sector what the books' keys do.
use Rattle.std.proofs.Common.{◌≡◌, ℕ, ◌+◌, ◌%◌, ◌^◌, ◌≤◌, List, [], ◌∷◌, ◌++◌, reverse, Option, Some, None, refl, sym, ap, ◌∙◌, subst, arith}
use Rattle.std.specs.Prelude.{All}
use Rattle.std.proofs.lemmas.List.Elements.{All-cons, All-nil}
use Rattle.std.proofs.Math.Nat.{add-mod_right}
use Rattle.bc_books.specs.Index.{Pointer, first_hit, hit, is_dirty, run_place}
use Rattle.bc_events.specs.Keys.{ArePlain, IfPoints, IsPlain, book_keys, kind_of, points_by, version_by}
use Rattle.bc_events.proofs.Keys as events
use Rattle.bc_fill.specs.declared.fill.Placed.{Placed}
use Rattle.bc_key.specs.Key.{IsExtent, pointer_of, start_of}
use Rattle.bc_key.specs.declared.key.Key.{Key}
use Rattle.bc_key.specs.declared.ptr.Ptr.{Ptr}
use Rattle.bc_node.specs.Leaf.{AreWithin}
use Rattle.bc_image.specs.Sound.{LiesWithin}
use Rattle.bc_books.specs.Books.{Books}
use Rattle.bc_whole.specs.State.{Opening}
use Rattle.bc_whole.specs.Together.{said_of}
use Rattle.bc_place.specs.Laws.{LawSaid}
use Rattle.bc_place.specs.Named.{AreKeysFor, AreOnDevice, AreOwnIn, IsKeyFor, sectors_of}
use Rattle.bc_place.proofs.Inserting.{present, turned}

-- ---- their ranges

starts_at : (n : ℕ) (p : Placed) (key : Key) → IsKeyFor n p key → start_of key ≡ n
starts_at n p key is = let end = is.end in let size = is.size in omega (arith, end, size)

pub within_for : (n : ℕ) (ps : List Placed) (keys : List Key) (from end : ℕ)
    → AreKeysFor n ps keys → from ≤ n → n + sectors_of ps ≤ end → AreWithin from end keys
within_for n [] [] from end are low high = All-nil (LiesWithin 0 from end)
within_for n [] (x ∷ xs) from end are low high = absurd are
within_for n (p ∷ ps) [] from end are low high = absurd are
within_for n (p ∷ ps) (x ∷ xs) from end are low high =
    let start = starts_at n p x are.0 in
    let stop = are.0.end in
    All-cons (LiesWithin 0 from end) x xs (omega (arith, start, low), omega (arith, stop, high))
    (within_for (n + p.count) ps xs from end are.1 (omega (arith, low)) (omega (arith, high)))

pub extents_for : (n : ℕ) (ps : List Placed) (keys : List Key) → AreKeysFor n ps keys
    → All IsExtent keys
extents_for n [] [] are = All-nil IsExtent
extents_for n [] (x ∷ xs) are = absurd are
extents_for n (p ∷ ps) [] are = absurd are
extents_for n (p ∷ ps) (x ∷ xs) are =
    let stop = are.0.end in
    let size = are.0.size in
    All-cons IsExtent x xs (omega (arith, stop, size)) (extents_for (n + p.count) ps xs are.1)

-- ---- what they say

module _ (bucket version : ℕ → ℕ) where
  -- versions of which each has a byte behind it
  abbrev later : ℕ → ℕ
  later q = version q + 256

  -- the key has a pointer of the present version, to places that are ones of the one device
  record IsFresh (key : Key) : Type 0 where
    extent : key.size ≤ key.end
    ptr : Ptr
    is : pointer_of key ≡ Some ptr
    fresh : ptr.generation ≡ version (bucket ptr.offset) % 256
    device : ptr.dev ≡ 0
    places : ptr.offset + key.size ≤ 2 ^ 43

  abbrev AreFresh : List Key → Type 0
  AreFresh [] = Unit {0}
  AreFresh (key ∷ keys) = IsFresh key × AreFresh keys

  fresh_append : (xs ys : List Key) → AreFresh xs → AreFresh ys → AreFresh (xs ++ ys)
  fresh_append [] ys a b = b
  fresh_append (x ∷ xs) ys a b = (a.0, fresh_append xs ys a.1 b)

  fresh_reverse : (keys : List Key) → AreFresh keys → AreFresh (reverse keys)
  fresh_reverse [] h = tt
  fresh_reverse (x ∷ xs) h = subst AreFresh (sym (turned x xs))
      (fresh_append (reverse xs) (x ∷ []) (fresh_reverse xs h.1) (h.0, tt))

  plain_fresh : (keys : List Key) → AreFresh keys → ArePlain bucket later keys
  plain_fresh [] h = tt
  plain_fresh (x ∷ xs) h = (
    h.0.extent,
    (
      subst (λ o. IfPoints o (IsPlain bucket later x)) (sym h.0.is) (record {
        device = h.0.device;
        byte = h.0.ptr.generation_fits;
        places = h.0.places;
        counted = omega arith;
      }),
      plain_fresh xs h.1,
    ),
  )

  same_byte : (ptr : Ptr) → ptr.generation ≡ version (bucket ptr.offset) % 256
      → version_by (later (bucket ptr.offset)) ptr.generation % 256
      ≡ version_by (version (bucket ptr.offset)) ptr.generation % 256
  same_byte ptr fresh =
      let up = add-mod_right (version (bucket ptr.offset)) 256 in
      ap (λ n. n % 256) (present bucket version (later (bucket ptr.offset)) ptr.generation
      (fresh ∙ sym up)) ∙ up
      ∙ sym (ap (λ n. n % 256) (present bucket version (version (bucket ptr.offset))
      ptr.generation fresh))

  one_said : (key : Key) (ptr : Ptr) (s : ℕ) (a b : Option (Option Pointer))
      → ptr.generation ≡ version (bucket ptr.offset) % 256 → said_of a ≡ said_of b
      → (x : Option ℕ) → said_of (first_hit (points_by bucket later key (Some ptr)) x a)
      ≡ said_of (first_hit (points_by bucket version key (Some ptr)) x b)
  one_said key ptr s a b fresh rest None = rest
  one_said key ptr s a b fresh rest (Some p) = ap (λ g. Some (Some (record {
    dirty = is_dirty (kind_of key);
    dev = 0;
    place = p;
    generation = g;
  }))) (same_byte ptr fresh)

  said_later : (keys : List Key) → AreFresh keys → (s : ℕ)
      → said_of (hit (book_keys bucket later keys) s)
      ≡ said_of (hit (book_keys bucket version keys) s)
  said_later [] h s = refl
  said_later (x ∷ xs) h s = subst (λ o. said_of (first_hit (points_by bucket later x o)
      (run_place (points_by bucket later x o).first (points_by bucket later x o).place
      (points_by bucket later x o).count s) (hit (book_keys bucket later xs) s))
      ≡ said_of (first_hit (points_by bucket version x o)
      (run_place (points_by bucket version x o).first (points_by bucket version x o).place
      (points_by bucket version x o).count s) (hit (book_keys bucket version xs) s)))
      (sym h.0.is)
      (one_said x h.0.ptr s (hit (book_keys bucket later xs) s)
      (hit (book_keys bucket version xs) s) h.0.fresh (said_later xs h.1 s)
      (run_place (start_of x) h.0.ptr.offset x.size s))

fresh_keys : (w : Opening) (k : Books) (i n : ℕ) (ps : List Placed) (keys : List Key)
    → AreKeysFor n ps keys → AreOwnIn w i k ps → AreOnDevice ps
    → AreFresh w.flow.books.bucket k.generations.version keys
fresh_keys w k i n [] [] are own on = tt
fresh_keys w k i n [] (x ∷ xs) are own on = absurd are
fresh_keys w k i n (p ∷ ps) [] are own on = absurd are
fresh_keys w k i n (p ∷ ps) (x ∷ xs) are own on = (
  record {
    extent = let stop = are.0.end in let size = are.0.size in omega (arith, stop, size);
    ptr = p.ptr;
    is = are.0.pointer;
    fresh = own.0.generation;
    device = on.0.0;
    places = let size = are.0.size in let room = on.0.1 in omega (arith, size, room);
  },
  fresh_keys w k i (n + p.count) ps xs are.1 own.1.1 on.1,
)

pub law_said : LawSaid
law_said w k i n ps keys are own on s =
    let turned_ = fresh_reverse w.flow.books.bucket k.generations.version keys
    (fresh_keys w k i n ps keys are own on) in
    events.law_keys w.flow.books.bucket (later w.flow.books.bucket k.generations.version)
    (reverse keys) (plain_fresh w.flow.books.bucket k.generations.version (reverse keys) turned_) s
    ∙ said_later w.flow.books.bucket k.generations.version (reverse keys) turned_ s
