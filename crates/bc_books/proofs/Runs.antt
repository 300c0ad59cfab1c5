-- The example's run is one, and its round is one that the laws speak of.
use Rattle.std.proofs.Common.{◌≡◌, inl, inr, ℕ, suc, ◌≤◌, true, [], ◌∷◌, ◌++◌, None, if◌then◌else◌, ◌==◌, refl, sym, subst, arith}
use Rattle.bc_books.specs.Index.{Clean, Dirty, Pointer, put}
use Rattle.bc_books.specs.Shelves.{Priorities, Moving, Tree, Shelf, Held, Owner, Fresh, IsForData, IsPinned, WasPinned}
use Rattle.bc_books.specs.Books.{Books, Take, opened}
use Rattle.bc_books.specs.Enabled.{CanPin, EachIn, IsUnpinned}
use Rattle.bc_books.specs.After.{IsRun, fold}
use Rattle.bc_books.specs.Example.{small, writing, filling, moving, before, collecting, new_version, reusing, LawRuns}
use Rattle.bc_model.proofs.Cases.{by_test}
use Rattle.bc_books.proofs.Small.{in_one, in_two, put_one, put_two, put_gap, in_zero, in_bucket, run_both, sound_small}

pub pin_one : (shelf : ℕ → Shelf) (owner : ℕ → Owner) (place : ℕ) → IsForData 1 (shelf (small.bucket place))
    → owner place ≡ Fresh → CanPin small.bucket shelf owner 1 place 1
pin_one shelf owner place h fresh = record { for_data = λ t. in_one place t (λ t. IsForData 1 (shelf (small.bucket t))) h; fresh = λ t. in_one place t (λ t. owner t ≡ Fresh) fresh }

pub pin_two : (shelf : ℕ → Shelf) (owner : ℕ → Owner) (place : ℕ) → IsForData 1 (shelf (small.bucket place))
    → IsForData 1 (shelf (small.bucket (suc place))) → owner place ≡ Fresh → owner (suc place) ≡ Fresh
    → CanPin small.bucket shelf owner 1 place 2
pin_two shelf owner place h g fresh next = record { for_data = λ t. in_two place t (λ t. IsForData 1 (shelf (small.bucket t))) h g; fresh = λ t. in_two place t (λ t. owner t ≡ Fresh) fresh next }

pub each_one : (owner : ℕ → Owner) (place : ℕ) (P : Owner → Type 0) → P (owner place) → EachIn place 1 P owner
each_one owner place P h t e = in_one place t (λ t. P (owner t)) h e

abbrev pub k0 : Books
k0 = opened small

abbrev pub dirty_at : ℕ → Pointer
dirty_at t = record { kind = Dirty; place = t; version = 300 }

runs_writing : IsRun small k0 writing
runs_writing = (inl refl, (pin_two _ _ 0 (inl refl) (inl refl) refl refl, (put_two small _ _ _ 0 0 Dirty 0 refl (omega arith, refl) (omega arith, refl) (inl (tt, refl)) (inl (tt, refl)) tt tt, (refl, (refl, tt)))))

runs_filling : IsRun small (fold small k0 writing) filling
runs_filling = (
  put_two small _ _ _ 0 0 Clean 0 refl (omega arith, refl) (omega arith, refl) (inr (dirty_at 0, refl, refl)) (inr (dirty_at 1, refl, refl)) tt tt,
  (refl, (inl refl, (pin_one _ _ 2 (inl refl) refl, (each_one _ 2 IsPinned tt, (put_one small _ _ _ 0 2 Clean 2 (omega arith, refl) (inl (tt, refl)) tt, tt))))),
)

runs_moving : IsRun small (fold small (fold small k0 writing) filling) moving
runs_moving = (
  inr (inl refl),
  (pin_one _ _ 5 (inr refl) refl, (put_one small _ _ _ 0 0 Clean 5 (omega arith, refl) (inl (tt, refl)) tt, (((Moving, refl), refl), (put_gap small _ _ _ 0 1 (omega arith, refl) refl, (inl refl, (pin_one _ _ 8 (inl refl) refl, (each_one _ 8 WasPinned tt, (refl, (refl, tt))))))))),
)

pub runs_before : IsRun small k0 before
runs_before = run_both small k0 writing (filling
    ++ moving) runs_writing (run_both small (fold small k0 writing) filling moving runs_filling runs_moving)

pub unpinned_zero : (owner : ℕ → Owner) → (IsPinned (owner 0) → ⊥) → (IsPinned (owner 1) → ⊥)
    → IsUnpinned small.bucket owner 0
unpinned_zero owner a b t is = in_zero (λ t. IsPinned (owner t) → ⊥) a b t is

runs_collecting : IsRun small (fold small k0 before) collecting
runs_collecting = (
  inr (inl refl),
  ((inr refl, λ t is. in_bucket (λ t. (fold small (fold small k0 before) (Take 1 Tree 4 ∷ [])).owner t ≡ Fresh) 4 t (omega arith) refl is), (refl, (refl, (refl, (refl, (record { later = λ s. omega arith; known = λ l. omega arith; waits = λ s e. omega arith; last_known = omega arith }, (record { going = refl; walked = λ s lt. refl; firm = omega arith }, ((record { unpinned = unpinned_zero _ (λ p. p) (λ p. p); not_held = ((λ e. cc), λ i h. let e = h.1 in cc); free = refl; near = omega arith }, refl), tt)))))))),
)

newer : (b : ℕ) → (300 ≤ new_version b) × (new_version b ≤ put (λ (b : ℕ). 300) 0 301 b)
newer b = by_test b 0 (λ z. (300 ≤ (if z then 301 else 300))
    × ((if z then 301 else 300) ≤ (if z then 301 else 300))) (λ _. (omega arith, omega arith)) (λ _. (omega arith, omega arith))

abbrev held_books : Books
held_books = fold small (fold small (fold small k0 before) collecting) (Take 1 Priorities 6 ∷ [])

only_six : (b : ℕ) → (b == 6) ≡ true → (held_books.shelf b ≡ Held 1 Priorities) × (held_books.chains.of b ≡ None)
only_six b = by_test b 6 (λ z. z ≡ true → (held_books.shelf b ≡ Held 1 Priorities)
    × (held_books.chains.of b ≡ None)) (λ is _. subst (λ c. (held_books.shelf c ≡ Held 1 Priorities)
    × (held_books.chains.of c ≡ None)) (sym is) (refl, refl)) (λ _ e. absurd (cc))

runs_reusing : IsRun small (fold small (fold small k0 before) collecting) reusing
runs_reusing = (
  inr (inl refl),
  (record { none_waits = refl; order = newer; held = only_six; sets = ((λ j. 6), (λ i j x y e. omega arith), λ j lt. refl) }, (refl, (omega arith, ((refl, refl), (refl, (refl, (inl refl, (pin_one _ _ 0 (inl refl) refl, tt)))))))),
)

pub law_runs : LawRuns
law_runs = record {
  sound = sound_small;
  run = run_both small k0 before (collecting
      ++ reusing) runs_before (run_both small (fold small k0 before) collecting reusing runs_collecting runs_reusing);
  written = refl;
  moved = refl;
  dropped = refl;
  filled = refl;
  raised = refl;
  again = refl;
  new_node = refl;
  old_node = refl;
  ready = refl;
}
