-- What a crash leaves is an opening again.
use Rattle.std.proofs.Common.{◌≡◌, ◌≢◌, inl, inr, ℕ, ◌+◌, ◌≤◌, Bool, true, false, Option, Some, None, if◌then◌else◌, ◌==◌, ◌||◌, refl, sym, ap, ◌∙◌, subst, arith}
use Rattle.bc_model.proofs.Cases.{by_test}
use Rattle.bc_books.specs.Index.{Pointer}
use Rattle.bc_books.specs.Shelves.{Purpose, Priorities, Raised, IsUnwritten}
use Rattle.bc_books.specs.Marks.{Metadata, any, dirty_in}
use Rattle.bc_books.specs.Chains.{Many, is_chain}
use Rattle.bc_books.specs.Books.{Setup, Books, is_listed, opened, IsSound}
use Rattle.bc_books.specs.Enabled.{IsFresh}
use Rattle.bc_books.specs.After.{fold}
use Rattle.bc_books.specs.Invariant.{IsInOrder}
use Rattle.bc_books.specs.Laws.{IsForNode, Snapshot, IsLive, MayLeave, IsSeen, IsInWindow}
use Rattle.bc_collect.specs.Spare.{HasNoUse}
use Rattle.bc_collect.specs.Next.{is_metadata, opening_mark, reopened, IsSpareIn, AreListed, LawNext, LawListed}
use Rattle.bc_books.proofs.Cases.{by_bool, or_left, or_right, any_at, any_from, oldest_low, oldest_from, dirty_at, off, none}
use Rattle.bc_books.proofs.Places.{chain_shelf}
use Rattle.bc_books.proofs.Marked.{mark_by_data}
use Rattle.bc_books.proofs.Known.{mark_by_dirty}
use Rattle.bc_books.proofs.Opening.{kept_at}
use Rattle.bc_books.proofs.Safety.{seen_count, in_window, live_spent, chain_apart}
use Rattle.bc_collect.proofs.Spare.{HasSpare, many_map, spare_at, spare_of, chain_of}

or_off : (a b : Bool) → a ≡ false → b ≡ false → (a || b) ≡ false
or_off a b x y = subst (λ z. (z || b) ≡ false) (sym x) y

chain_some : (o : Option ℕ) (m : ℕ) → is_chain o m ≡ true → o ≡ Some m
chain_some None m e = absurd (cc)
chain_some (Some c) m e = by_test c m (λ z. z ≡ true
    → Some c ≡ Some m) (λ is _. ap (λ (n : ℕ). Some n) is) (λ _ x. absurd (cc)) e

chain_true : (o : Option ℕ) (m : ℕ) → o ≡ Some m → is_chain o m ≡ true
chain_true o m e = subst (λ x. is_chain x m ≡ true) (sym e) (by_test m m (λ z. z ≡ true) (λ _. refl) (λ ne. absurd (ne refl)))

module _ (w : Setup) (k : Books) (f : IsInOrder w k) (h : HasSpare w k) (shot : Snapshot) (may : MayLeave k shot) (node : ℕ → Bool) (nodes : (b : ℕ) → node b ≡ true → IsForNode k b) where
  seen : IsSeen k shot
  seen = inl may

  node_calm : (b : ℕ) → node b ≡ true → k.shelf b ≢ Raised
  node_calm b e raised = elim (nodes b e) [ inl x ↦ (let y = f.marked.loose b (inr x) in absurd (cc)) | inr x ↦ (let y = x.1 in absurd (cc)) ]

  node_fresh : (b : ℕ) → node b ≡ true → IsFresh w.bucket k.owner b
  node_fresh b e = elim (nodes b e) [ inl x ↦ f.marked.fresh b (inr x) | inr x ↦ f.placed.unwritten b (subst (λ y. IsUnwritten y) (sym x.1) tt) ]

  node_no_chain : (b m : ℕ) → node b ≡ true → k.chains.of b ≡ Some m → ⊥
  node_no_chain b m e c = elim (nodes b e) [ inl x ↦ (let y = f.marked.no_chain b (inr x) in absurd (cc)) | inr x ↦ chain_shelf w k f b m ⊥ c (λ _ y. let z = x.1 in absurd (cc)) (λ j y. let z = x.1 in absurd (cc)) ]

  -- no live key points into a bucket where no place was pinned since its raise
  no_live : (b s : ℕ) (r : Pointer) → k.shelf b ≢ Raised → IsFresh w.bucket k.owner b → IsLive w k shot s r
      → w.bucket r.place ≢ b
  no_live b s r calm fresh live is = let x = live_spent w k f shot s r seen live (λ e. calm (sym (ap k.shelf is) ∙ e)) in let y = fresh r.place is in absurd (cc)

  not_fixed : (s : ℕ) (r : Pointer) → IsLive w k shot s r → w.fixed (w.bucket r.place) ≡ false
  not_fixed s r live = off (w.fixed (w.bucket r.place)) (λ e. no_live (w.bucket r.place) s r (λ x. let y = f.marked.loose (w.bucket r.place) (inl e) in absurd (cc)) (f.marked.fresh (w.bucket r.place) (inl e)) live refl)

  no_node : (s : ℕ) (r : Pointer) → IsLive w k shot s r → node (w.bucket r.place) ≡ false
  no_node s r live = off (node (w.bucket r.place)) (λ e. no_live (w.bucket r.place) s r (node_calm (w.bucket r.place) e) (node_fresh (w.bucket r.place) e) live refl)

  no_chain : (s : ℕ) (r : Pointer) → IsLive w k shot s r → is_chain (k.chains.of (w.bucket r.place)) shot.chain ≡ false
  no_chain s r live = off (is_chain (k.chains.of (w.bucket r.place)) shot.chain) (λ e. (chain_apart w k f (w.bucket r.place) shot.chain (chain_some (k.chains.of (w.bucket r.place)) shot.chain e)).no_key shot s r seen live refl)

  no_metadata : (s : ℕ) (r : Pointer) → IsLive w k shot s r → is_metadata w k shot node (w.bucket r.place) ≡ false
  no_metadata s r live = or_off _ _ (not_fixed s r live) (or_off _ _ (no_node s r live) (no_chain s r live))

  metadata_mark : (b : ℕ) → is_metadata w k shot node b ≡ true
      → (if is_metadata w k shot node b then Metadata else opening_mark w k shot b) ≡ Metadata
  metadata_mark b e = ap (λ (z : Bool). if z then Metadata else opening_mark w k shot b) e

  data_mark : (b : ℕ) → is_metadata w k shot node b ≡ false
      → (if is_metadata w k shot node b then Metadata else opening_mark w k shot b) ≡ opening_mark w k shot b
  data_mark b e = ap (λ (z : Bool). if z then Metadata else opening_mark w k shot b) e

  fixed_shelf : (b : ℕ) → w.fixed b ≡ true → node b ≡ false
  fixed_shelf b e = off (node b) (λ n. elim (nodes b n) [ inl x ↦ (let y = f.marked.one_use b e in absurd (cc)) | inr x ↦ (let y = f.marked.loose b (inl e) in let z = x.1 in absurd (cc)) ])

  in_shot : (s : ℕ) (r : Pointer) → k.index.at shot.count s ≡ Some r → IsInWindow (shot.version (w.bucket r.place)) r
  in_shot s r e = in_window w k f shot s r seen e

  module _ (listed : ℕ → Option Purpose) (leaf : ℕ → ℕ) (lists : AreListed w k shot node listed) where
    not_listed : (b : ℕ) → ((p : Purpose) → IsSpareIn w k shot node b → ⊥) → listed b ≡ None
    not_listed b no_ = none (listed b) (λ p e. no_ p (lists.spare b p e))

    next_sound : IsSound (reopened w k shot node listed leaf)
    next_sound = record {
      window = λ b. (
        oldest_from w.bucket b (shot.version b) (k.index.at shot.count) w.size (λ x. x ≤ shot.version b) (omega arith)
            (λ s r lt e is. let x = (in_shot s r e).low in let y : shot.version (w.bucket r.place) ≡ shot.version b = ap shot.version is in omega arith),
        oldest_from w.bucket b (shot.version b) (k.index.at shot.count) w.size (λ x. shot.version b ≤ x + 96) (omega arith)
            (λ s r lt e is. let x = (in_shot s r e).high in let y : shot.version (w.bucket r.place) ≡ shot.version b = ap shot.version is in omega arith),
      );
      inside = λ s r e.
          let known = f.known.keys shot.count s (seen_count w k f shot seen) r e in
          (known.inside, oldest_low w.bucket (w.bucket r.place) (shot.version (w.bucket r.place)) (k.index.at shot.count) w.size s r known.inside e refl, (in_shot s r e).low);
      dirty = λ s r e d.
          let known = f.known.keys shot.count s (seen_count w k f shot seen) r e in
          let v = (in_shot s r e).dirty d in (
            data_mark (w.bucket r.place) (no_metadata s r (e, v))
                ∙ mark_by_dirty _ _ (any_at w.size (λ s. dirty_in w.bucket (w.bucket r.place) (k.index.at shot.count s)) s known.inside (dirty_at w.bucket (w.bucket r.place) (k.index.at shot.count s) r e d refl)),
            v,
          );
      spare = λ s r e v. or_off _ _ (ap is_listed (not_listed (w.bucket r.place) (λ p x. x.no_key s r (e, v) refl))) (or_off _ _ (no_chain s r (e, v)) (or_off _ _ (not_fixed s r (e, v)) (no_node s r (e, v))));
      fixed = λ b e. (
        not_listed b (λ p x. let y = x.not_fixed in absurd (cc)),
        off (is_chain (k.chains.of b) shot.chain) (λ c. let x = chain_some (k.chains.of b) shot.chain c in let y = f.marked.no_chain b (inl e) in absurd (cc)),
        fixed_shelf b e,
        metadata_mark b (or_left _ _ e),
      );
      node = λ b e. (
        not_listed b (λ p x. let y = x.no_node in absurd (cc)),
        off (is_chain (k.chains.of b) shot.chain) (λ c. node_no_chain b shot.chain e (chain_some (k.chains.of b) shot.chain c)),
        metadata_mark b (or_right (w.fixed b) _ (or_left _ _ e)),
      );
      chain = λ b e. (
        not_listed b (λ p x. x.no_chain (chain_some (k.chains.of b) shot.chain e)),
        metadata_mark b (or_right (w.fixed b) _ (or_right (node b) _ e)),
      );
      plain = λ b x y z m. mark_by_data _ _ (sym (data_mark b (or_off _ _ x (or_off _ _ y z))) ∙ m);
      sets = many_map w.sets (λ b. k.chains.of b ≡ Some shot.chain) (λ b. is_chain (k.chains.of b) shot.chain ≡ true) (λ b. chain_true (k.chains.of b) shot.chain) (chain_of w k f h shot may);
      next = lists.next;
    }

  -- the buckets that are spare
  abbrev spare_list : ℕ → Option Purpose
  spare_list b = if any w.sets (λ j. (spare_of w k f h shot may).0 j == b) then Some Priorities else None

  lists_filled : AreListed w k shot node spare_list
  lists_filled = record {
    spare = λ b p e. by_bool (any w.sets (λ j. at j == b)) (λ z. (if z then Some Priorities else None) ≡ Some p
        → IsSpareIn w k shot node b)
        (λ is _. any_from w.sets (λ j. at j == b) (IsSpareIn w k shot node b) (λ j lt t. by_test (at j) b (λ z. z ≡ true → IsSpareIn w k shot node b) (λ same _. subst (IsSpareIn w k shot node) same (spare_in (at j) (spots.2 j lt))) (λ _ x. absurd (cc)) t) is)
        (λ _ x. absurd (cc)) e;
    next = (at, spots.1, λ j lt. ap (λ (z : Bool). if z then Some Priorities else None) (any_at w.sets (λ i. at i == at j) j lt (by_test (at j) (at j) (λ z. z ≡ true) (λ _. refl) (λ ne. absurd (ne refl)))));
  }
    where
      spots : Many w.sets (HasNoUse w k shot)
      spots = spare_of w k f h shot may

      at : ℕ → ℕ
      at = spots.0

      spare_in : (b : ℕ) → HasNoUse w k shot b → IsSpareIn w k shot node b
      spare_in b x = record {
        not_fixed = x.not_fixed;
        no_node = off (node b) (λ e. elim (nodes b e) [ inl y ↦ (let z = x.no_node in absurd (cc)) | inr y ↦ x.no_new_node y.0 y.1 ]);
        no_chain = x.no_chain;
        no_key = x.no_key;
      }

pub law_next : LawNext
law_next w xs sound run shot node listed leaf may nodes lists = next_sound w (fold w (opened w) xs) (kept_at w xs sound run) (spare_at w xs sound run) shot may node nodes listed leaf lists

pub law_listed : LawListed
law_listed w xs sound run shot node may nodes =
    (spare_list w (fold w (opened w) xs) (kept_at w xs sound run) (spare_at w xs sound run) shot may node nodes, lists_filled w (fold w (opened w) xs) (kept_at w xs sound run) (spare_at w xs sound run) shot may node nodes)
