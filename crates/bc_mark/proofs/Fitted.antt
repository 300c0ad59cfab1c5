-- Lists, records and open buckets fit each other as a round begins and ends.
use Rattle.std.proofs.Common.{◌≡◌, ℕ, zero, suc, ◌≤◌, Bool, true, false, List, [], ◌∷◌, length, inl, inr, refl, sym, ap, ◌∙◌, subst, arith}
use Rattle.std.specs.Prelude.{if◌then◌else◌, slice_index_or}
use Rattle.std.proofs.lemmas.Bool.{cases_lt}
use Rattle.bc_alloc.proofs.Fits.{still_for}
use Rattle.bc_alloc.specs.Buckets.{AreFor}
use Rattle.bc_alloc.specs.Reserves.{Reserves}
use Rattle.bc_bucket.specs.Bucket.{is_metadata}
use Rattle.bc_bucket.specs.Buckets.{Buckets, EachChanged, bucket_of, oldest_or, settled_at, settled_unless}
use Rattle.bc_bucket.specs.declared.bucket.Bucket.{Bucket}
use Rattle.bc_bucket.specs.declared.walk.Found.{Found}
use Rattle.bc_fill.specs.Fill.{AreOpen, HaveFree}
use Rattle.bc_fill.specs.declared.fill.Open.{Open}

past : {A : Type 0} (xs : List A) (k : ℕ) (a : A) → length xs ≤ k → slice_index_or xs k a ≡ a
past [] k a out = refl
past (x ∷ xs) zero a out = absurd (omega (arith, out))
past (x ∷ xs) (suc k) a out = past xs k a (omega (arith, out))

held_settled : (t : Bool) (f : Found) (x : Bucket) → (settled_unless t f x).held ≡ x.held
held_settled true f x = refl
held_settled false f x = go (is_metadata x.mark)
  where
    go : (m : Bool) → (if m then record x { last_gc = oldest_or x.generation f.last_gc }
        else record x {
          last_gc = oldest_or x.generation f.last_gc;
          mark = f.mark;
          used = f.used;
        }).held ≡ x.held
    go true = refl
    go false = refl

module _ (touched : List Bool) (walk : List Found) (b new : Buckets)
    (is : EachChanged (settled_at touched walk) b new) where
  held_same : (k : ℕ) → (bucket_of new k).held ≡ (bucket_of b k).held
  held_same k = elim (cases_lt k (length b.records)) [
    | inl inside ↦ ap (λ (x : Bucket). x.held) (is.each k inside)
        ∙ held_settled (slice_index_or touched k false) _ (bucket_of b k)
    | inr out ↦ ap (λ (x : Bucket). x.held) (past new.records k _
        (let same = is.same_count in omega (arith, out, same))
        ∙ sym (past b.records k _ out))
  ]

  pub settled_fit : (r : Reserves) → AreFor r b → AreFor r new
  settled_fit r h = still_for r r b new h refl is.same_count (λ j some. (some, held_same j))

  pub settled_open : (fs : List Open) (r : Reserves) → AreOpen fs r b → AreOpen fs r new
  settled_open fs r h = record {
    distinct = h.distinct;
    each = λ j some. let e = h.each j some in (e.0, held_same j ∙ e.1, e.2);
    free = subst (λ n. HaveFree n fs) (sym is.same_size) h.free;
  }
