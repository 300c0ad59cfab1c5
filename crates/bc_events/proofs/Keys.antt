-- Keys with bytes and keys with versions say the same.
use Rattle.std.proofs.Common.{◌≡◌, ◌≢◌, ◌⊎◌, inl, inr, ℕ, zero, suc, ◌+◌, ◌-◌, ◌%◌, ◌^◌, ◌<◌, ◌≤◌, Bool, true, false, ◌&&◌, List, [], ◌∷◌, Option, Some, None, refl, sym, ap, ◌∙◌, subst, arith, if◌then◌else◌, nat_le, nat_lt, mod-eq_of_lt}
use Rattle.std.proofs.lemmas.Grind.{common_steps}
use Rattle.bc_key.specs.declared.key.Key.{Key}
use Rattle.bc_key.specs.declared.ptr.Ptr.{Ptr}
use Rattle.bc_key.specs.Key.{start_of, place_by, pointer_of}
use Rattle.bc_books.specs.Index.{is_dirty, run_place, first_hit, hit}
use Rattle.bc_books.specs.Index as books
use Rattle.bc_meta.specs.Keys.{Ref, covers, ref_by}
use Rattle.bc_meta.proofs.Lists.{by_test, by_le}
use Rattle.bc_leaves.specs.Keys.{last_said}
use Rattle.bc_whole.specs.Together.{said_of, SayTheSame}
use Rattle.bc_events.specs.Keys.{version_by, kind_of, points_by, book_key, book_keys, IsPlain, IfPoints, ArePlain, LawKeys}

version_byte : (v g : ℕ) → g < 256 → 255 ≤ v → version_by v g % 256 ≡ g
version_byte v g low high = grind (arith, common_steps)

-- ---- places of a run

in_run : (a p n s : ℕ) → a ≤ s → s < a + n → run_place a p n s ≡ Some (p + (s - a))
in_run a p zero s low high = absurd (omega arith)
in_run a p (suc n) s low high =
    by_test a s (λ b. (if b then Some p else run_place (suc a) (suc p) n s) ≡ Some (p + (s - a)))
    (λ e. ap Some (omega arith))
    (λ ne. in_run (suc a) (suc p) n s (omega arith) (omega arith) ∙ ap Some (omega arith))

out_of_run : (a p n s : ℕ) → (s < a) ⊎ (a + n ≤ s) → run_place a p n s ≡ None
out_of_run a p zero s out = refl
out_of_run a p (suc n) s out =
    by_test a s (λ b. (if b then Some p else run_place (suc a) (suc p) n s) ≡ None)
    (λ e. absurd (not_in out e))
    (λ ne. out_of_run (suc a) (suc p) n s (further out))
  where
    not_in : (s < a) ⊎ (a + suc n ≤ s) → a ≡ s → ⊥
    not_in (inl low) e = omega arith
    not_in (inr high) e = omega arith

    further : (s < a) ⊎ (a + suc n ≤ s) → (s < suc a) ⊎ (suc a + n ≤ s)
    further (inl low) = inl (omega arith)
    further (inr high) = inr (omega arith)

-- ---- one key

dirty_is : (b : Bool) → is_dirty (if b then books.Dirty else books.Clean) ≡ b
dirty_is true = refl
dirty_is false = refl

abbrev said : Bool → ℕ → ℕ → ℕ → Option (Option Ref)
said d v p g = Some (Some (record { dirty = d; dev = v; place = p; generation = g }))

ref_is : (d d' : Bool) (v v' p p' g g' : ℕ) → d ≡ d' → v ≡ v' → p ≡ p' → g ≡ g'
    → said d v p g ≡ said d' v' p' g'
ref_is d d' v v' p p' g g' a b c e = cc

module _ (bucket version : ℕ → ℕ) (key : Key) (s : ℕ) (extent : key.size ≤ key.end) where
  -- what a key says of a sector that it has
  said_in : (o : Option Ptr) (later : Option (Option books.Pointer))
      → IfPoints o (IsPlain bucket version key) → start_of key ≤ s → s < key.end
      → Some (ref_by key s o) ≡ said_of (first_hit (points_by bucket version key o)
      (run_place (points_by bucket version key o).first (points_by bucket version key o).place
      (points_by bucket version key o).count s) later)
  said_in None later plain low high =
      ap (λ q. said_of (first_hit (points_by bucket version key None) q later))
      (sym (in_run (start_of key) 0 key.size s low (omega arith)))
  said_in (Some ptr) later plain low high =
      let places = plain.places in
      let within : ptr.offset + (s - start_of key) < 2 ^ 43 = omega arith in
      ref_is key.dirty (is_dirty (kind_of key)) ptr.dev 0 (place_by ptr (start_of key) s)
      (ptr.offset + (s - start_of key)) ptr.generation
      (version_by (version (bucket ptr.offset)) ptr.generation % 256) (sym (dirty_is key.dirty))
      plain.device (mod-eq_of_lt within)
      (sym (version_byte (version (bucket ptr.offset)) ptr.generation plain.byte plain.counted))
      ∙ ap (λ q. said_of (first_hit (points_by bucket version key (Some ptr)) q later))
      (sym (in_run (start_of key) ptr.offset key.size s low (omega arith)))

  -- and of one that it hasn't
  said_out : (o : Option Ptr) (later : Option (Option books.Pointer))
      → (s < start_of key) ⊎ (key.end ≤ s)
      → said_of later ≡ said_of (first_hit (points_by bucket version key o)
      (run_place (points_by bucket version key o).first (points_by bucket version key o).place
      (points_by bucket version key o).count s) later)
  said_out None later out =
      ap (λ q. said_of (first_hit (points_by bucket version key None) q later))
      (sym (out_of_run (start_of key) 0 key.size s (apart out)))
    where
      apart : (s < start_of key) ⊎ (key.end ≤ s) → (s < start_of key) ⊎ (start_of key + key.size ≤ s)
      apart (inl low) = inl low
      apart (inr high) = inr (omega arith)
  said_out (Some ptr) later out =
      ap (λ q. said_of (first_hit (points_by bucket version key (Some ptr)) q later))
      (sym (out_of_run (start_of key) ptr.offset key.size s (apart out)))
    where
      apart : (s < start_of key) ⊎ (key.end ≤ s) → (s < start_of key) ⊎ (start_of key + key.size ≤ s)
      apart (inl low) = inl low
      apart (inr high) = inr (omega arith)

  -- what its counterpart says
  abbrev told : Option Ptr → Option (Option books.Pointer) → Option (Option Ref)
  told o later = said_of (first_hit (points_by bucket version key o)
      (run_place (points_by bucket version key o).first (points_by bucket version key o).place
      (points_by bucket version key o).count s) later)

  said_by : (o : Option Ptr) (later : Option (Option books.Pointer))
      → IfPoints o (IsPlain bucket version key)
      → (if covers key s then Some (ref_by key s o) else said_of later) ≡ told o later
  said_by o later plain = by_le (start_of key) s
      (λ b. (if b && nat_lt s key.end then Some (ref_by key s o) else said_of later)
      ≡ told o later)
      (λ low. by_le (suc s) key.end
      (λ b. (if b then Some (ref_by key s o) else said_of later) ≡ told o later)
      (λ high. said_in o later plain low high) (λ high. said_out o later (inr (omega arith))))
      (λ low. said_out o later (inl low))

pub law_keys : LawKeys
law_keys bucket version [] plain s = refl
law_keys bucket version (key ∷ keys) plain s =
    ap (λ l. if covers key s then Some (ref_by key s (pointer_of key)) else l)
    (law_keys bucket version keys plain.1.1 s)
    ∙ said_by bucket version key s plain.0 (pointer_of key) (hit (book_keys bucket version keys) s)
    plain.1.0
