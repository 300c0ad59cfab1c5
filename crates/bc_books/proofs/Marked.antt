-- Each step keeps the marks of metadata.
use Rattle.std.proofs.Common.{◌≡◌, ◌≢◌, ◌⊎◌, inl, inr, ℕ, suc, Bool, true, false, Option, Some, None, if◌then◌else◌, ◌==◌, ◌&&◌, refl, sym, ap, ◌∙◌, subst, arith}
use Rattle.bc_books.specs.Index.{put, dirties, touches}
use Rattle.bc_books.specs.Shelves.{Tree, Shelf, Loose, Raised, Held, IsForData, IsUnwritten, taken_to, put_back, by_room}
use Rattle.bc_books.specs.Marks.{Mark, Unmarked, Reclaimable, Dirtied, Metadata, with_key, mark_by, found_mark, settled, any, dirty_in, points_into}
use Rattle.bc_books.specs.Chains.{given_up, at_ready}
use Rattle.bc_books.specs.Books.{Setup, Books, Step, Put, Take, Shut, LetGo, Pin, Unpin, Keep, BeginNode, MakeNode, DropNode, Raise, MakeReady, ReadyChain, SealChain, Sealed, End}
use Rattle.bc_books.specs.Enabled.{IsFresh, CanStep}
use Rattle.bc_books.specs.After.{after, owner_after, mark_at_ready}
use Rattle.bc_books.specs.Invariant.{IsMetadata, IsMarked, IsInOrder}
use Rattle.bc_model.proofs.Cases.{by_test}
use Rattle.bc_books.proofs.Cases.{by_bool, put_cases, put_kept, by_unless, dirties_named, not_both, some_number, none}
use Rattle.bc_books.proofs.Places.{was_pinned_fresh, fresh_step, avoids, chain_shelf}

with_key_metadata : (z t : Bool) (m : Mark) → with_key z t m ≡ Metadata → m ≡ Metadata
with_key_metadata true t m e = absurd (cc)
with_key_metadata false true Unmarked e = absurd (cc)
with_key_metadata false true Reclaimable e = e
with_key_metadata false true Dirtied e = e
with_key_metadata false true Metadata e = e
with_key_metadata false false Unmarked e = e
with_key_metadata false false Reclaimable e = e
with_key_metadata false false Dirtied e = e
with_key_metadata false false Metadata e = e

clean_metadata : (t : Bool) (m : Mark) → m ≡ Metadata → with_key false t m ≡ Metadata
clean_metadata true m e = subst (λ x. with_key false true x ≡ Metadata) (sym e) refl
clean_metadata false m e = subst (λ x. with_key false false x ≡ Metadata) (sym e) refl

pub mark_by_data : (a b : Bool) → mark_by a b ≢ Metadata
mark_by_data true b e = cc
mark_by_data false true e = cc
mark_by_data false false e = cc

settled_metadata : (m new : Mark) → new ≢ Metadata → settled m new ≡ Metadata → m ≡ Metadata
settled_metadata Unmarked new ne e = absurd (ne e)
settled_metadata Reclaimable new ne e = absurd (ne e)
settled_metadata Dirtied new ne e = absurd (ne e)
settled_metadata Metadata new ne e = refl

settled_kept : (m new : Mark) → m ≡ Metadata → settled m new ≡ Metadata
settled_kept m new e = subst (λ x. settled x new ≡ Metadata) (sym e) refl

module _ (w : Setup) (k : Books) (f : IsInOrder w k) where
  abbrev IsNode : ℕ → Type 0
  IsNode b = (w.fixed b ≡ true) ⊎ (k.node b ≡ true)

  pub metadata_fresh : (b : ℕ) → IsMetadata w.fixed k.node k.chains b → IsFresh w.bucket k.owner b
  metadata_fresh b (inl e) = f.marked.fresh b (inl e)
  metadata_fresh b (inr (inl e)) = f.marked.fresh b (inr e)
  metadata_fresh b (inr (inr e)) = (f.chained.links b k.chains.ready e).fresh

  pub metadata_loose : (b : ℕ) → IsMetadata w.fixed k.node k.chains b → k.shelf b ≡ Loose
  metadata_loose b (inl e) = f.marked.loose b (inl e)
  metadata_loose b (inr (inl e)) = f.marked.loose b (inr e)
  metadata_loose b (inr (inr e)) = (f.chained.links b k.chains.ready e).loose refl

  loose_no_data : (b : ℕ) → k.shelf b ≡ Loose → (i : ℕ) → IsForData i (k.shelf b) → ⊥
  loose_no_data b e i (inl x) = cc
  loose_no_data b e i (inr x) = cc

  -- a bucket that isn't nobody's goes elsewhere
  marked_put : (b : ℕ) (x : Shelf) → k.shelf b ≢ Loose → IsMarked w k.mark k.node k.chains (put k.shelf b x) k.owner
  marked_put b x away = record {
    marked = f.marked.marked;
    only = f.marked.only;
    one_use = f.marked.one_use;
    loose = λ c u. put_cases k.shelf b c x (λ y. y ≡ Loose) (λ _. f.marked.loose c u) (λ is. absurd (away (sym (ap k.shelf is) ∙ f.marked.loose c u)));
    no_chain = f.marked.no_chain;
    fresh = f.marked.fresh;
  }

  -- places get other owners
  fresh_after : (x : Step) → CanStep w k x → (b : ℕ) → IsNode b
      → IsFresh w.bucket (owner_after w.bucket k.owner x) b
  fresh_after x on b u = fresh_step w k b x on (avoids w k b x on (loose_no_data b (f.marked.loose b u))) (f.marked.fresh b u)

  marked_step : (x : Step) → CanStep w k x → IsMarked w k.mark k.node k.chains k.shelf (owner_after w.bucket k.owner x)
  marked_step x on = record { marked = f.marked.marked; only = f.marked.only; one_use = f.marked.one_use; loose = f.marked.loose; no_chain = f.marked.no_chain; fresh = fresh_after x on }

  pub keep_marked : (x : Step) → CanStep w k x
      → IsMarked w (after w k x).mark (after w k x).node (after w k x).chains (after w k x).shelf (after w k x).owner
  keep_marked (Put leaf keys) on = record {
    marked = λ b u. by_bool (dirties w.bucket keys b) (λ z. with_key z (touches w.bucket keys b) (k.mark b) ≡ Metadata)
        (λ e. absurd (dirties_named w.bucket keys b ⊥ on.whole e (λ t n is. was_pinned_fresh (k.owner t) (metadata_fresh b u t is) (on.named t n))))
        (λ _. clean_metadata (touches w.bucket keys b) (k.mark b) (f.marked.marked b u));
    only = λ b e. f.marked.only b (with_key_metadata (dirties w.bucket keys b) (touches w.bucket keys b) (k.mark b) e);
    one_use = f.marked.one_use;
    loose = f.marked.loose;
    no_chain = f.marked.no_chain;
    fresh = fresh_after (Put leaf keys) on;
  }
  keep_marked (Take i p b) on = marked_put b (taken_to i p) (λ e. elim on [ inl x ↦ absurd (cc) | inr (inl x) ↦ absurd (cc) | inr (inr x) ↦ (let y = x.1 in absurd (cc)) ])
  keep_marked (Shut b) on = marked_put b Loose (λ e. cc)
  keep_marked (LetGo i b room) on = marked_put b (put_back room (k.shelf b)) (λ e. let x = on.0.1 in cc)
  keep_marked (Pin i place count) on = marked_step (Pin i place count) on
  keep_marked (Unpin place count) on = marked_step (Unpin place count) on
  keep_marked (Keep c place count) on = marked_step (Keep c place count) on
  keep_marked (BeginNode i b) on = marked_put b (Held i Tree) (λ e. elim on.0 [ inl x ↦ absurd (cc) | inr x ↦ absurd (cc) ])
  keep_marked (MakeNode i b) on = record {
    marked = λ c u. put_cases k.mark b c Metadata (λ y. y ≡ Metadata) (λ ne. f.marked.marked c (elim u [
      | inl x ↦ inl x
      | inr y ↦ elim y [ inl x ↦ inr (inl (put_cases k.node b c true (λ z. z ≡ true → k.node c ≡ true) (λ _ z. z) (λ is _. absurd (ne is)) x)) | inr x ↦ inr (inr x) ]
    ])) (λ _. refl);
    only = λ c. put_cases k.mark b c Metadata (λ y. y ≡ Metadata → IsMetadata w.fixed (put k.node b true) k.chains c)
        (λ ne e. elim (f.marked.only c e) [
          | inl x ↦ inl x
          | inr y ↦ elim y [ inl x ↦ inr (inl (put_kept k.node b c true (λ z. z ≡ true) x refl)) | inr x ↦ inr (inr x) ]
        ])
        (λ is _. inr (inl (put_cases k.node b c true (λ z. z ≡ true) (λ ne. absurd (ne is)) (λ _. refl))));
    one_use = λ c e. put_cases k.node b c true (λ z. z ≡ false) (λ _. f.marked.one_use c e) (λ is. let x = f.marked.loose c (inl e) in let y : k.shelf c ≡ k.shelf b = ap k.shelf is in absurd (cc));
    loose = λ c u. put_cases k.shelf b c Loose (λ y. y ≡ Loose) (λ ne. f.marked.loose c (was c ne u)) (λ _. refl);
    no_chain = λ c u. by_test c b (λ _. k.chains.of c ≡ None) (λ is. ap k.chains.of is
        ∙ free) (λ ne. f.marked.no_chain c (was c ne u));
    fresh = λ c u. by_test c b (λ _. IsFresh w.bucket k.owner c) (λ is t at. f.placed.unwritten b held t (at ∙ is)) (λ ne. f.marked.fresh c (was c ne u));
  }
    where
      was : (c : ℕ) → c ≢ b → (w.fixed c ≡ true) ⊎ (put k.node b true c ≡ true) → (w.fixed c ≡ true) ⊎ (k.node c ≡ true)
      was c ne (inl x) = inl x
      was c ne (inr x) = inr (put_cases k.node b c true (λ z. z ≡ true → k.node c ≡ true) (λ _ z. z) (λ is _. absurd (ne is)) x)

      held : IsUnwritten (k.shelf b)
      held = subst (λ y. IsUnwritten y) (sym on) tt

      free : k.chains.of b ≡ None
      free = none (k.chains.of b) (λ c e. chain_shelf w k f b c ⊥ e (λ _ y. absurd (cc)) (λ j y. absurd (cc)))
  keep_marked (DropNode b) on = record {
    marked = λ c u. put_cases k.mark b c Unmarked (λ y. y ≡ Metadata) (λ ne. f.marked.marked c (was c u)) (λ is. absurd (gone c is u));
    only = λ c. put_cases k.mark b c Unmarked (λ y. y ≡ Metadata → IsMetadata w.fixed (put k.node b false) k.chains c)
        (λ ne e. elim (f.marked.only c e) [
          | inl x ↦ inl x
          | inr y ↦ elim y [ inl x ↦ inr (inl (put_cases k.node b c false (λ z. z ≡ true) (λ _. x) (λ is. absurd (ne is)))) | inr x ↦ inr (inr x) ]
        ])
        (λ _ e. absurd (cc));
    one_use = λ c e. put_kept k.node b c false (λ z. z ≡ false) (f.marked.one_use c e) refl;
    loose = λ c u. f.marked.loose c (node c u);
    no_chain = λ c u. f.marked.no_chain c (node c u);
    fresh = λ c u. f.marked.fresh c (node c u);
  }
    where
      still : (c : ℕ) → put k.node b false c ≡ true → k.node c ≡ true
      still c = put_cases k.node b c false (λ z. z ≡ true → k.node c ≡ true) (λ _ z. z) (λ _ z. absurd (cc))

      node : (c : ℕ) → (w.fixed c ≡ true) ⊎ (put k.node b false c ≡ true) → (w.fixed c ≡ true) ⊎ (k.node c ≡ true)
      node c (inl x) = inl x
      node c (inr x) = inr (still c x)

      was : (c : ℕ) → IsMetadata w.fixed (put k.node b false) k.chains c → IsMetadata w.fixed k.node k.chains c
      was c (inl x) = inl x
      was c (inr (inl x)) = inr (inl (still c x))
      was c (inr (inr x)) = inr (inr x)

      gone : (c : ℕ) → c ≡ b → IsMetadata w.fixed (put k.node b false) k.chains c → ⊥
      gone c is (inl x) = not_both (k.node b) on (sym (ap k.node is) ∙ f.marked.one_use c x)
      gone c is (inr (inl x)) = put_cases k.node b c false (λ z. z ≡ true → ⊥) (λ ne _. ne is) (λ _ z. cc) x
      gone c is (inr (inr x)) = let n = f.marked.no_chain b (inr on) in let y : k.chains.of c ≡ k.chains.of b = ap k.chains.of is in absurd (cc)
  keep_marked (Raise b) on = record {
    marked = f.marked.marked;
    only = f.marked.only;
    one_use = f.marked.one_use;
    loose = λ c u. put_cases k.shelf b c Raised (λ y. y ≡ Loose) (λ _. f.marked.loose c u)
        (λ is. let m = f.marked.marked c (wider c u) in let x : k.mark c ≡ k.mark b = ap k.mark is in let y = on.0.free in absurd (cc));
    no_chain = f.marked.no_chain;
    fresh = fresh_after (Raise b) on;
  }
    where
      wider : (c : ℕ) → (w.fixed c ≡ true) ⊎ (k.node c ≡ true) → IsMetadata w.fixed k.node k.chains c
      wider c (inl x) = inl x
      wider c (inr x) = inr (inl x)
  keep_marked (MakeReady b room) on = record {
    marked = λ c u. put_cases k.mark b c Unmarked (λ y. y ≡ Metadata) (λ _. f.marked.marked c u) (λ is. let x = metadata_loose c u in let y : k.shelf c ≡ k.shelf b = ap k.shelf is in let z = on.0 in absurd (cc));
    only = λ c. put_cases k.mark b c Unmarked (λ y. y ≡ Metadata
        → IsMetadata w.fixed k.node k.chains c) (λ _. f.marked.only c) (λ _ e. absurd (cc));
    one_use = f.marked.one_use;
    loose = λ c u. put_cases k.shelf b c (by_room room) (λ y. y ≡ Loose) (λ _. f.marked.loose c u) (λ is. let x = f.marked.loose c u in let y : k.shelf c ≡ k.shelf b = ap k.shelf is in let z = on.0 in absurd (cc));
    no_chain = f.marked.no_chain;
    fresh = f.marked.fresh;
  }
  keep_marked (ReadyChain room) on = record {
    marked = λ c. marked c (k.chains.of c) refl;
    only = λ c. only c (k.chains.of c) refl;
    one_use = f.marked.one_use;
    loose = λ c u. subst (λ o. at_ready k.chains.ready o (room c) (k.shelf c) ≡ Loose) (sym (f.marked.no_chain c u)) (f.marked.loose c u);
    no_chain = λ c u. ap (λ (o : Option ℕ). given_up k.chains.ready o) (f.marked.no_chain c u);
    fresh = f.marked.fresh;
  }
    where
      marked : (c : ℕ) (o : Option ℕ) → k.chains.of c ≡ o → (w.fixed c ≡ true)
          ⊎ ((k.node c ≡ true) ⊎ (given_up k.chains.ready o ≡ Some (suc k.chains.ready)))
          → mark_at_ready k.chains.ready o (k.mark c) ≡ Metadata
      marked c None e (inl x) = f.marked.marked c (inl x)
      marked c None e (inr (inl x)) = f.marked.marked c (inr (inl x))
      marked c None e (inr (inr x)) = absurd (cc)
      marked c (Some a) e (inl x) = let y = f.marked.no_chain c (inl x) in absurd (cc)
      marked c (Some a) e (inr (inl x)) = let y = f.marked.no_chain c (inr x) in absurd (cc)
      marked c (Some a) e (inr (inr x)) = by_test a k.chains.ready (λ z. (if z then None else Some a) ≡ Some (suc k.chains.ready) → (if z then Unmarked else (if a == suc k.chains.ready then Metadata else k.mark c)) ≡ Metadata)
          (λ _ h. absurd (cc))
          (λ _ h. let is : a ≡ suc k.chains.ready = some_number a (suc k.chains.ready) h in by_test a (suc k.chains.ready) (λ z. (if z then Metadata else k.mark c) ≡ Metadata) (λ _. refl) (λ ne. absurd (ne is))) x

      only : (c : ℕ) (o : Option ℕ) → k.chains.of c ≡ o → mark_at_ready k.chains.ready o (k.mark c) ≡ Metadata
          → (w.fixed c ≡ true) ⊎ ((k.node c ≡ true) ⊎ (given_up k.chains.ready o ≡ Some (suc k.chains.ready)))
      only c None e m = elim (f.marked.only c m) [
        | inl x ↦ inl x
        | inr y ↦ elim y [ inl x ↦ inr (inl x) | inr x ↦ absurd (cc) ]
      ]
      only c (Some a) e m = by_test a k.chains.ready (λ z. (if z then Unmarked else (if a == suc k.chains.ready then Metadata else k.mark c)) ≡ Metadata → (w.fixed c ≡ true) ⊎ ((k.node c ≡ true) ⊎ ((if z then None else Some a) ≡ Some (suc k.chains.ready))))
          (λ _ h. absurd (cc))
          (λ ne h. by_test a (suc k.chains.ready) (λ z. (if z then Metadata else k.mark c) ≡ Metadata → (w.fixed c ≡ true) ⊎ ((k.node c ≡ true) ⊎ (Some a ≡ Some (suc k.chains.ready))))
          (λ is _. inr (inr (ap (λ (z : ℕ). Some z) is)))
          (λ _ old. elim (f.marked.only c old) [
            | inl x ↦ inl x
            | inr y ↦ elim y [ inl x ↦ inr (inl x) | inr x ↦ absurd (ne (some_number a k.chains.ready (sym e ∙ x))) ]
          ]) h) m
  keep_marked (SealChain i versions chain) on = record {
    marked = λ c u. f.marked.marked c (elim u [
      | inl x ↦ inl x
      | inr y ↦ elim y [ inl x ↦ inr (inl x) | inr x ↦ inr (inr (old c x)) ]
    ]);
    only = λ c e. elim (f.marked.only c e) [
      | inl x ↦ inl x
      | inr y ↦ elim y [ inl x ↦ inr (inl x) | inr x ↦ inr (inr (by_bool (chain c) (λ z. (if z then Some (suc k.chains.sealed) else k.chains.of c) ≡ Some k.chains.ready) (λ is. let n = (on.held c is).1 in absurd (cc)) (λ _. x))) ]
    ];
    one_use = f.marked.one_use;
    loose = f.marked.loose;
    no_chain = λ c u. by_bool (chain c) (λ z. (if z then Some (suc k.chains.sealed) else k.chains.of c) ≡ None) (λ is. let x = (on.held c is).0 in let y = f.marked.loose c u in absurd (cc)) (λ _. f.marked.no_chain c u);
    fresh = f.marked.fresh;
  }
    where
      old : (c : ℕ) → (if chain c then Some (suc k.chains.sealed) else k.chains.of c) ≡ Some k.chains.ready
          → k.chains.of c ≡ Some k.chains.ready
      old c = by_bool (chain c) (λ z. (if z then Some (suc k.chains.sealed) else k.chains.of c) ≡ Some k.chains.ready
          → k.chains.of c ≡ Some k.chains.ready)
          (λ _ e. let is : suc k.chains.sealed ≡ k.chains.ready = some_number _ _ e in let p = f.chained.durable in let q = f.chained.sealed in absurd (omega arith)) (λ _ e. e)
  keep_marked End on = record {
    marked = λ c u. let m = f.marked.marked c u in by_unless (k.round.touched c) (k.mark c) (settled (k.mark c) (found c)) (λ y. y ≡ Metadata) (λ _. m) (λ _. settled_kept (k.mark c) (found c) m);
    only = λ c. by_unless (k.round.touched c) (k.mark c) (settled (k.mark c) (found c)) (λ y. y ≡ Metadata
        → IsMetadata w.fixed k.node k.chains c)
        (λ _. f.marked.only c) (λ _ e. f.marked.only c (settled_metadata (k.mark c) (found c) (mark_by_data (any w.size (λ s. dirty_in w.bucket c (k.round.seen s))) (any w.size (λ s. k.round.live s && points_into w.bucket c (k.round.seen s)))) e));
    one_use = f.marked.one_use;
    loose = f.marked.loose;
    no_chain = f.marked.no_chain;
    fresh = f.marked.fresh;
  }
    where
      found : ℕ → Mark
      found c = found_mark w.bucket c k.round.seen k.round.live w.size
  keep_marked Sealed on = let m = f.marked in record { marked = m.marked; only = m.only; one_use = m.one_use; loose = m.loose; no_chain = m.no_chain; fresh = m.fresh }
  keep_marked x on = f.marked
