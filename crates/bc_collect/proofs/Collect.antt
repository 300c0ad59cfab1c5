-- Collection is complete, and a bucket that can be had is there after a round.
use Rattle.std.proofs.Common.{◌≡◌, ◌≢◌, inl, inr, ℕ, suc, ◌+◌, ◌<◌, Bool, true, false, List, [], ◌∷◌, ◌++◌, Some, if◌then◌else◌, ◌||◌, ◌&&◌, refl, sym, ap, ◌∙◌, subst, arith}
use Rattle.bc_books.specs.Index.{Dirty, Pointer, latest}
use Rattle.bc_books.specs.Shelves.{Loose, Raised}
use Rattle.bc_books.specs.Marks.{Mark, Unmarked, Reclaimable, Dirtied, Metadata, is_free, mark_by, found_mark, settled, dirty_in, points_into, any, oldest}
use Rattle.bc_books.specs.Books.{Setup, Books, Step, Put, Regroup, MakeNode, DropNode, Raise, MakeReady, ReadyChain, Begin, Walk, End, opened}
use Rattle.bc_books.specs.Enabled.{CanRaise, CanStep}
use Rattle.bc_books.specs.After.{after, IsRun, fold}
use Rattle.bc_books.specs.Invariant.{IsInOrder}
use Rattle.bc_collect.specs.Collect.{IsQuiet, AllQuiet, IsIdle, IsComplete, IsCollected, Throughout, IsOneRound, CanBeHad, LawCollect, LawHad}
use Rattle.bc_model.proofs.Cases.{by_test}
use Rattle.bc_books.proofs.Cases.{by_bool, by_unless, and_left, any_from, any_same, oldest_from, oldest_same, dirty_from}
use Rattle.bc_books.proofs.Known.{newest, keep}
use Rattle.bc_books.proofs.Opening.{kept_opened, kept_run, run_on, fold_on}

-- since the round began nothing was touched, and what was walked is as the walk found it
abbrev IsCalm : Books → Type 0
IsCalm k = ((b : ℕ) → k.round.touched b ≡ false)
    × ((s : ℕ) → k.round.walked s ≡ true → k.round.seen s ≡ latest k.index s)

-- marks and oldest versions are those of the index in memory
abbrev IsDone : Setup → Books → Type 0
IsDone w k = (b : ℕ) → (k.mark b ≡ Dirtied → any w.size (λ s. dirty_in w.bucket b (latest k.index s)) ≡ true)
    × (k.generations.last_gc b ≡ oldest w.bucket b (k.generations.version b) (latest k.index) w.size)

settled_by : (m new : Mark) → settled m new ≡ Dirtied → new ≡ Dirtied
settled_by Unmarked new e = e
settled_by Reclaimable new e = e
settled_by Dirtied new e = e
settled_by Metadata new e = absurd (cc)

dirty_by : (a b : Bool) → mark_by a b ≡ Dirtied → a ≡ true
dirty_by true b e = refl
dirty_by false true e = absurd (cc)
dirty_by false false e = absurd (cc)

-- nothing but dirty data and metadata forbids that a bucket is raised
free_unless : (m : Mark) → (m ≡ Dirtied → ⊥) → (m ≡ Metadata → ⊥) → is_free m ≡ true
free_unless Unmarked dirty metadata = refl
free_unless Reclaimable dirty metadata = refl
free_unless Dirtied dirty metadata = absurd (dirty refl)
free_unless Metadata dirty metadata = absurd (metadata refl)

calm_step : (w : Setup) (k : Books) (x : Step) → IsQuiet x → IsCalm k → IsCalm (after w k x)
calm_step w k (Put leaf keys) q c = absurd q
calm_step w k (Regroup leaf changed counts last) q c = (
  λ b. by_bool (any w.size (λ s. counts s && points_into w.bucket b (latest k.index s))) (λ z. (z || k.round.touched b) ≡ false)
      (λ is. absurd (any_from w.size (λ s. counts s && points_into w.bucket b (latest k.index s)) ⊥ (λ s lt e. let x = q s in let y = and_left (counts s) _ e in cc) is)) (λ _. c.0 b),
  λ s. by_bool (counts s) (λ z. (z || k.round.walked s) ≡ true
      → k.round.seen s ≡ latest k.index s) (λ is _. let x = q s in absurd (cc)) (λ _. c.1 s),
)
calm_step w k (MakeNode i b) q c = absurd q
calm_step w k (ReadyChain room) q c = absurd q
calm_step w k Begin q c = absurd q
calm_step w k (Walk leaf) q c = (c.0, λ s. by_test (k.index.leaf s) leaf (λ z. (z || k.round.walked s) ≡ true → (if z then latest k.index s else k.round.seen s) ≡ latest k.index s) (λ _ _. refl) (λ _. c.1 s))
calm_step w k x q c = c

done_step : (w : Setup) (k : Books) (x : Step) → IsQuiet x → IsDone w k → IsDone w (after w k x)
done_step w k (Put leaf keys) q c = absurd q
done_step w k (MakeNode i b) q c = absurd q
done_step w k (DropNode b) q c = absurd q
done_step w k (Raise b) q c = absurd q
done_step w k (MakeReady b room) q c = absurd q
done_step w k (ReadyChain room) q c = absurd q
done_step w k End q c = absurd q
done_step w k x q c = c

calm_run : (w : Setup) (k : Books) (xs : List Step) → AllQuiet xs → IsCalm k → IsCalm (fold w k xs)
calm_run w k [] q c = c
calm_run w k (x ∷ xs) q c = calm_run w (after w k x) xs q.1 (calm_step w k x q.0 c)

done_run : (w : Setup) (k : Books) (xs : List Step) → AllQuiet xs → IsDone w k → IsDone w (fold w k xs)
done_run w k [] q c = c
done_run w k (x ∷ xs) q c = done_run w (after w k x) xs q.1 (done_step w k x q.0 c)

done_end : (w : Setup) (k : Books) → CanStep w k End → IsCalm k → IsDone w (after w k End)
done_end w k on c b = (
  by_unless (k.round.touched b) (k.mark b) (settled (k.mark b) (found_mark w.bucket b k.round.seen k.round.live w.size)) (λ m. m ≡ Dirtied → any w.size (λ s. dirty_in w.bucket b (latest k.index s)) ≡ true)
      (λ e. let n = c.0 b in absurd (cc))
      (λ _ m. sym (any_same w.size (λ s. dirty_in w.bucket b (k.round.seen s)) (λ s. dirty_in w.bucket b (latest k.index s)) (λ s lt. ap (dirty_in w.bucket b) (c.1 s (on.walked s lt))))
      ∙ dirty_by _ _ (settled_by (k.mark b) _ m)),
  by_unless (k.round.touched b) (k.generations.last_gc b) (oldest w.bucket b (k.generations.version b) k.round.seen w.size) (λ x. x ≡ oldest w.bucket b (k.generations.version b) (latest k.index) w.size)
      (λ e. let n = c.0 b in absurd (cc))
      (λ _. oldest_same w.bucket b (k.generations.version b) k.round.seen (latest k.index) w.size (λ s lt. c.1 s (on.walked s lt))),
)

complete_at : (w : Setup) (k : Books) → IsInOrder w k → IsDone w k → (b : ℕ) → IsIdle w k b → IsComplete w k b
complete_at w k f done b idle = record {
  unused = λ can used. elim used [
    | inl live ↦
        (let r : Pointer = live.1.0 in let h = f.known.keys k.index.count live.0 (newest w k f) live.1.0 live.1.1.0.0 in
        let m = h.marked live.1.1.1 in let x : k.mark (w.bucket live.1.0.place) ≡ k.mark b = ap k.mark live.1.1.2 in let y = can.free in absurd (cc))
    | inr other ↦ elim other [
      | inl u ↦ (let m = f.marked.marked b u in let y = can.free in absurd (cc))
      | inr open_ ↦ can.not_held.0 open_
    ]
  ];
  all = λ unused. record {
    free = free_unless (k.mark b)
        (λ m. any_from w.size (λ s. dirty_in w.bucket b (latest k.index s)) ⊥ (λ s lt d. let x = dirty_from w.bucket b (latest k.index s) d in unused (inl (s, (x.0, ((x.1, (f.known.keys k.index.count s (newest w k f) x.0 x.1).live x.2), x.2, x.3))))) ((done b).0 m))
        (λ m. unused (inr (inl (f.marked.only b m))));
    near = subst (λ x. k.generations.version b < x + 96) (sym (done b).1) (oldest_from w.bucket b (k.generations.version b) (latest k.index) w.size (λ x. k.generations.version b < x + 96) (omega arith) (λ s r lt e is. idle.young s r e is));
    unpinned = idle.unpinned;
    not_held = ((λ e. unused (inr (inr e))), idle.not_held);
  };
}

pub law_collect : LawCollect
law_collect w before inside later sound run quiet still =
    let a = run_on w (opened w) before (Begin ∷ (inside ++ (End ∷ later))) run in
    let k0 = fold w (opened w) before in
    let f0 = kept_run w (opened w) before (kept_opened w sound) a.0 in
    let k1 = after w k0 Begin in
    let f1 = keep w k0 f0 Begin a.1.0 in
    let b = run_on w k1 inside (End ∷ later) a.1.1 in
    let k2 = fold w k1 inside in
    let f2 = kept_run w k1 inside f1 b.0 in
    let calm : IsCalm k2 = calm_run w k1 inside quiet ((λ _. refl), λ s e. absurd (cc)) in
    let k3 = after w k2 End in
    let f3 = keep w k2 f2 End b.1.0 in
    let k4 = fold w k3 later in
    let f4 = kept_run w k3 later f3 b.1.1 in
    subst (IsCollected w) (sym (fold_on w (opened w) before (Begin ∷ (inside ++ (End ∷ later))) ∙ fold_on w k1 inside (End ∷ later)))
    (complete_at w k4 f4 (done_run w k3 later still (done_end w k2 b.1.0 calm)))

-- what the walk found so far of a bucket that can be had
abbrev IsFound : Setup → ℕ → ℕ → Books → Type 0
IsFound w b v k = (k.generations.version b ≡ v)
    × ((s : ℕ) (r : Pointer) → k.round.seen s ≡ Some r → w.bucket r.place ≡ b → (r.kind ≢ Dirty) × (v < r.version + 96))

found_step : (w : Setup) (b v : ℕ) (k : Books) (x : Step) → IsInOrder w k → x ≢ Begin → CanBeHad w b k
    → CanBeHad w b (after w k x) → IsFound w b v k → IsFound w b v (after w k x)
found_step w b v k (Raise a) f nb h h' c = (by_test b a (λ z. (if z then Raised else k.shelf b) ≡ Loose → (if z then suc (k.generations.version a) else k.generations.version b) ≡ v) (λ _ e. absurd (cc)) (λ _ _. c.0) h'.loose, c.1)
found_step w b v k Begin f nb h h' c = absurd (nb refl)
found_step w b v k (Walk leaf) f nb h h' c = (
  c.0,
  λ s. by_test (k.index.leaf s) leaf (λ z. (r : Pointer) → (if z then latest k.index s else k.round.seen s) ≡ Some r
      → w.bucket r.place ≡ b → (r.kind ≢ Dirty) × (v < r.version + 96))
      (λ _ r e is. ((λ d. h.no_dirty (s, (r, ((e, (f.known.keys k.index.count s (newest w k f) r e).live d), d, is)))), let x = h.young s r e is in let y = c.0 in omega arith)) (λ _ r. c.1 s r),
)
found_step w b v k x f nb h h' c = c

first_of_run : (w : Setup) (k : Books) (xs : List Step) (P : Books → Type 0) → Throughout w k xs P → P k
first_of_run w k [] P h = h
first_of_run w k (x ∷ xs) P h = h.0

last_of_run : (w : Setup) (k : Books) (xs : List Step) (P : Books → Type 0) → Throughout w k xs P → P (fold w k xs)
last_of_run w k [] P h = h
last_of_run w k (x ∷ xs) P h = last_of_run w (after w k x) xs P h.1

found_run : (w : Setup) (b v : ℕ) (k : Books) (xs : List Step) → IsInOrder w k → IsRun w k xs → IsOneRound xs
    → Throughout w k xs (CanBeHad w b) → IsFound w b v k → IsFound w b v (fold w k xs)
found_run w b v k [] f run one h c = c
found_run w b v k (x
    ∷ xs) f run one h c = found_run w b v (after w k x) xs (keep w k f x run.0) run.1 one.1 h.1 (found_step w b v k x f one.0 h.0 (first_of_run w (after w k x) xs (CanBeHad w b) h.1) c)

settled_free : (m new : Mark) → m ≢ Metadata → is_free new ≡ true → is_free (settled m new) ≡ true
settled_free Unmarked new ne e = e
settled_free Reclaimable new ne e = e
settled_free Dirtied new ne e = e
settled_free Metadata new ne e = absurd (ne refl)

clean_free : (a b : Bool) → (a ≡ true → ⊥) → is_free (mark_by a b) ≡ true
clean_free true b none = absurd (none refl)
clean_free false true none = refl
clean_free false false none = refl

-- at the end of the round
had_at : (w : Setup) (k : Books) (b v : ℕ) → IsInOrder w k → CanBeHad w b k → IsFound w b v k
    → k.round.touched b ≡ false
    → CanRaise w (after w k End) b
had_at w k b v f h c untouched = (
  record {
    free = by_unless (k.round.touched b) (k.mark b) (settled (k.mark b) (found_mark w.bucket b k.round.seen k.round.live w.size)) (λ m. is_free m ≡ true) (λ e. absurd (cc))
        (λ _. settled_free (k.mark b) (found_mark w.bucket b k.round.seen k.round.live w.size) (λ m. h.no_metadata (f.marked.only b m))
        (clean_free _ _ (λ m. any_from w.size (λ s. dirty_in w.bucket b (k.round.seen s)) ⊥ (λ s lt e. let x = dirty_from w.bucket b (k.round.seen s) e in (c.1 s x.0 x.1 x.3).0 x.2) m)));
    near = by_unless (k.round.touched b) (k.generations.last_gc b) (oldest w.bucket b (k.generations.version b) k.round.seen w.size) (λ x. k.generations.version b < x + 96) (λ e. absurd (cc))
        (λ _. oldest_from w.bucket b (k.generations.version b) k.round.seen w.size (λ x. k.generations.version b < x + 96) (omega arith) (λ s r lt e is. let y = (c.1 s r e is).1 in let c0 = c.0 in omega arith));
    unpinned = h.unpinned;
    not_held = let e = h.loose in ((λ x. absurd (cc)), λ i x. let y = x.1 in absurd (cc));
  },
  h.loose,
)

pub law_had : LawHad
law_had w before inside b sound run could =
    let a = run_on w (opened w) before (Begin ∷ (inside ++ (End ∷ []))) run in
    let k0 = fold w (opened w) before in
    let f0 = kept_run w (opened w) before (kept_opened w sound) a.0 in
    let k1 = after w k0 Begin in
    let f1 = keep w k0 f0 Begin a.1.0 in
    let parts = run_on w k1 inside (End ∷ []) a.1.1 in
    let k2 = fold w k1 inside in
    let f2 = kept_run w k1 inside f1 parts.0 in
    subst (λ k. CanRaise w k b) (sym (fold_on w (opened w) before (Begin ∷ (inside ++ (End ∷ []))) ∙ fold_on w k1 inside (End ∷ [])))
    (had_at w k2 b (k0.generations.version b) f2 (last_of_run w k1 inside (CanBeHad w b) could.had)
    (found_run w b (k0.generations.version b) k1 inside f1 parts.0 could.one_round could.had (refl, λ s r e. absurd (cc)))
    could.untouched)
