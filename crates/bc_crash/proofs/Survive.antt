-- From the invariant to the law on crashes.
use Rattle.std.proofs.Common.{◌≡◌, ◌≢◌, ◌⊎◌, inl, inr, ℕ, ◌+◌, ◌≤◌, ◌%◌, false, [], ◌∷◌, length, Option, Some, None, if◌then◌else◌, refl, sym, ap, ◌∙◌, subst, arith}
use Rattle.bc_model.specs.Sector.{Value, Image}
use Rattle.bc_model.specs.History.{now, floor, AllowedFrom}
use Rattle.bc_model.proofs.Grown.{allowed_end, allowed_lower}
use Rattle.bc_disk.specs.Device.{Among, MayLeave}
use Rattle.bc_books.specs.Index.{Kind, Clean, Dirty, Pointer}
use Rattle.bc_books.specs.Versions.{is_stale}
use Rattle.bc_books.specs.Laws.{Snapshot}
use Rattle.bc_books.proofs.Later.{key_aged}
use Rattle.bc_data.specs.Data.{Opening, State, start}
use Rattle.bc_data.specs.Enabled.{IsBacked}
use Rattle.bc_data.specs.After.{course}
use Rattle.bc_data.specs.Laws.{shown, shown_by, IsPair}
use Rattle.bc_data.specs.Invariant.{view, IsLasting, IsTrueAt, IsTruthful}
use Rattle.bc_data.proofs.Truth.{counts_of, gens_of}
use Rattle.bc_data.proofs.Opening.{opening_true, inv_opened, stale, by_stale}
use Rattle.bc_crash.specs.Laws.{IsReady, Finds, IsSafe, LawCrash, IsClosed, LawClosed}
use Rattle.bc_crash.specs.Tables.{Tables, no_tables, tables_of}
use Rattle.bc_crash.specs.Reached.{reached}
use Rattle.bc_crash.specs.Invariant.{any_flush, MayStand, IsHarmless}
use Rattle.bc_crash.specs.Kept.{LawOpened, LawKept}
use Rattle.bc_crash.proofs.Reached.{floor_reached}
use Rattle.bc_crash.proofs.Good.{good_now}
use Rattle.bc_crash.proofs.Crash.{crash_act, crash_course}

head_of : (x y : Value) → Among x (y ∷ []) → x ≡ y
head_of x y h = elim h [ inl e ↦ e | inr n ↦ absurd n ]

module _ (w : Opening) (pair : IsPair w) where
  backed_one : (o : Option Pointer) (s : ℕ) (x : Value) → IsTrueAt w (view w (start w)) o s
      (w.image s) → IsBacked o → Among x (w.backing s ∷ []) → x ≡ w.image s
  backed_one None s x t b a = t x a
  backed_one (Some r) s x t b a = t.2 b x a

  cached_one : (r : Pointer) (s : ℕ) (x : Value) → w.books.index s ≡ Some r → w.books.version
      (w.books.bucket r.place) ≡ r.version → Among x (w.cache r.place ∷ []) → x ≡ w.image s
  cached_one r s x e d a = (subst (λ o. IsTrueAt w (view w (start w)) o s (w.image s)) e
      (opening_true w pair s)).1 d x a

  pub crash_opened : IsHarmless w (start w) no_tables
  crash_opened = record {
    tables = λ s. record { zero = refl; top = λ f. omega arith; mono = λ f g le. omega arith; flat = λ f le. refl; safe_zero = refl; safe_flat = λ f le. refl };
    floors = λ s. (refl, omega arith, omega arith);
    begun = tt;
    seats = λ i. record {
      flush = λ h e. absurd (cc);
      last = λ h e. absurd (cc);
      few = λ e. absurd (cc);
      gone = λ s e. absurd (cc);
    };
    honest = λ t x a. a;
    honest_back = λ t x a. a;
    filled = λ t. (w.cache t, inl refl);
    cached = λ n s r le top e d. good_now w.image [] s n _ any_flush _ (λ x a. cached_one r s x e d a);
    backed = λ n s le top b. good_now w.image [] s n _ _ _
        (λ x a. backed_one (w.books.index s) s x (opening_true w pair s) b a);
    present = λ _ n s le top b. good_now w.image [] s n _ any_flush _
        (λ x a. backed_one (w.books.index s) s x (opening_true w pair s) b a);
    firm = λ n s r q e d x a. a;
    agree = λ n s r le top e cl d x y a b. cached_one r s x e d a ∙ sym
        (backed_one (Some r) s y (subst (λ o. IsTrueAt w (view w (start w)) o s (w.image s)) e
        (opening_true w pair s)) cl b);
  }

module _ (w : Opening) (st : State) (inv : IsTruthful w st) (table : Tables)
    (c : IsHarmless w st table) (shot : Snapshot) (found : Finds st shot) (left right : Image)
    (ml : MayLeave st.cache left) (mr : MayLeave st.backing right) where
  abbrev n : ℕ
  n = shot.count

  abbrev gens : ℕ → ℕ
  gens = shot.version

  finds : ((shot.count ≡ st.books.journal.durable)
      × ((b : ℕ) → shot.version b ≡ st.books.generations.durable b))
      ⊎ (IsReady st.stage × (shot.count ≡ st.books.journal.sealed)
      × ((b : ℕ) → shot.version b ≡ st.books.generations.sealed b))
  finds = elim found [
    | inl e ↦ inl (ap (λ (x : Snapshot). x.count) e, λ b. ap (λ (x : Snapshot). x.version b) e)
    | inr h ↦ inr (h.0, ap (λ (x : Snapshot). x.count) h.1, λ b. ap (λ (x : Snapshot). x.version b) h.1)
  ]

  stands : MayStand st.books st.stage shot.count
  stands = let x = (counts_of w.books st.books inv.books) in let x0 = x.0 in
      elim finds [ inl h ↦ inl h.0 | inr h ↦ (let h1 = h.1 in inr (h.0, omega arith, omega arith)) ]

  pub low : (st.books.journal.durable ≤ shot.count) × (shot.count ≤ st.books.index.count)
  low = let x = (counts_of w.books st.books inv.books) in let x0 = x.0 in let x1 = x.1 in
      elim finds [
        | inl h ↦ (let h0 = h.0 in (omega arith, omega arith))
        | inr h ↦
            (let h1 = h.1 in (omega arith, omega arith))
      ]

  pub between : (b : ℕ) → (st.books.generations.durable b ≤ shot.version b)
      × (shot.version b ≤ st.books.generations.version b)
  between b = let g = gens_of w.books st.books inv.books b in let g0 = g.0 in let g1 = g.1 in
      elim finds [
        | inl h ↦ (let x = h.1 b in (omega arith, omega arith))
        | inr h ↦
            (let x = h.2 b in (omega arith, omega arith))
      ]

  from_back : (s : ℕ) → IsBacked (st.books.index.at shot.count s) → AllowedFrom
      (reached st.history s) w.image st.history s (right s)
  from_back s b = let x = c.floors s in let x1 = x.1 in let l0 = low.0 in
      c.backed shot.count s low.0 low.1 b (reached st.history s) x.2 (omega arith) x.0 (right s)
      (mr s)

  module _ (s : ℕ) (r : Pointer) (is : st.books.index.at shot.count s ≡ Some r) where
    live_at : shot.version (w.books.bucket r.place) ≡ r.version → IsLasting w st.books r
    live_at d = let a = (key_aged w.books st.books inv.books shot.count s r low.0 is).0 in let b =
        (between (w.books.bucket r.place)).0 in omega arith

    pub window : (r.version ≤ shot.version (w.books.bucket r.place))
        × (shot.version (w.books.bucket r.place) ≤ r.version + 96)
    window =
        let h = (inv.books).known.keys shot.count s low.0 r is in
        let h1 = h.oldest in let h2 = h.durable in
        let b = between (w.books.bucket r.place) in let b0 = b.0 in let b1 = b.1 in
        let near = (inv.books).dated.window (w.books.bucket r.place) in
        (omega arith, omega arith)

    from_cache : shot.version (w.books.bucket r.place) ≡ r.version → AllowedFrom
        (reached st.history s) w.image st.history s (left r.place)
    from_cache d =
        let live = live_at d in
        let x = c.floors s in
        let x1 = x.1 in
        let l0 = low.0 in
        c.cached shot.count s r low.0 low.1 is live (reached st.history s) x.2 (omega arith) tt
        (left r.place) (c.firm shot.count s r stands is live (left r.place) (ml r.place))

    past_clean : shot.version (w.books.bucket r.place) ≢ r.version → r.kind ≡ Clean
    past_clean ne = go r.kind refl
      where
        go : (x : Kind) → r.kind ≡ x → x ≡ Clean
        go Clean e = refl
        go Dirty e =
            let h = (inv.books).known.keys shot.count s low.0 r is in
            let v = h.live e in
            let b = (between (w.books.bucket r.place)).1 in
            let l = window.0 in
            absurd (ne (omega arith))

  pub allowed : (s : ℕ) → AllowedFrom (reached st.history s) w.image st.history s
      (shown w.books.bucket (st.books.index.at shot.count) shot.version left right s)
  allowed s = go (st.books.index.at shot.count s) refl
    where
      go : (o : Option Pointer) → st.books.index.at shot.count s ≡ o → AllowedFrom
          (reached st.history s) w.image st.history s
          (shown_by w.books.bucket shot.version o left (right s))
      go None is = from_back s (subst (λ o. IsBacked o) (sym is) tt)
      go (Some r) is =
          let x = window s r is in
          by_stale (shot.version (w.books.bucket r.place)) r.version x.0 x.1
          (λ z. AllowedFrom (reached st.history s) w.image st.history s
          (if z then right s else left r.place)) (from_cache s r is)
          (λ ne. from_back s (subst (λ o. IsBacked o) (sym is) (past_clean s r is ne)))

  pub agrees : (s : ℕ) (r : Pointer) → st.books.index.at shot.count s ≡ Some r → r.kind ≡ Clean
      → is_stale (shot.version (w.books.bucket r.place) % 256) (r.version % 256) ≡ false
      → left r.place ≡ right s
  agrees s r is cl fresh =
      let x = window s r is in
      let live = live_at s r is ((stale
      (shot.version (w.books.bucket r.place)) r.version x.0 x.1).1 fresh) in
      c.agree shot.count s r low.0 low.1 is cl live (left r.place) (right s)
      (c.firm shot.count s r stands is live (left r.place) (ml r.place)) (mr s)

  safe : (s : ℕ) → IsSafe w st shot left right s
  safe s = record {
    allowed = allowed_lower w.image (floor st.history s)
        (reached st.history s) st.history s _ (floor_reached st.history s c.begun)
        (allowed s);
    agree = agrees s;
  }

  module _ (closed : IsClosed st) where
    top : shot.count ≡ st.books.index.count
    top = let l0 = low.0 in let l1 = low.1 in let j = closed.journal in omega arith

    few : (s : ℕ) → table.need s (length st.history) ≤ shot.count
    few s = let t = (c.tables s).top (length st.history) in let x = (inv.books).counted.leaves
        (st.books.index.leaf s) in let e = top in omega arith

    back_now : (s : ℕ) → IsBacked (st.books.index.at shot.count s) → right s ≡ now w.image st.history s
    back_now s b = allowed_end w.image (length st.history) st.history s (right s) (omega arith)
        (c.present closed.running shot.count s low.0 low.1 b (length st.history) (omega arith)
        (few s) tt (right s) (closed.backing s (right s) (mr s)))

    cache_now : (s : ℕ) (r : Pointer) → st.books.index.at shot.count s ≡ Some r → shot.version
        (w.books.bucket r.place) ≡ r.version → left r.place ≡ now w.image st.history s
    cache_now s r is d =
        let live = live_at s r is d in
        allowed_end w.image (length st.history) st.history s (left r.place) (omega arith)
        (c.cached shot.count s r low.0 low.1 is live (length st.history) (omega arith) (few s) tt
        (left r.place) (c.firm shot.count s r stands is live (left r.place) (ml r.place)))

    closed_now : (s : ℕ) → shown w.books.bucket
        (st.books.index.at shot.count) shot.version left right s ≡ now w.image st.history s
    closed_now s = go (st.books.index.at shot.count s) refl
      where
        go : (o : Option Pointer) → st.books.index.at shot.count s ≡ o
            → shown_by w.books.bucket shot.version o left (right s) ≡ now w.image st.history s
        go None is = back_now s (subst (λ o. IsBacked o) (sym is) tt)
        go (Some r) is =
            let x = window s r is in
            by_stale (shot.version (w.books.bucket r.place)) r.version x.0 x.1
            (λ z. (if z then right s else left r.place) ≡ now w.image st.history s)
            (cache_now s r is) (λ ne. back_now s
            (subst (λ o. IsBacked o) (sym is) (past_clean s r is ne)))

pub law_crash : LawCrash
law_crash w es pair run shot c b finds ml mr s =
    let both = crash_course w (start w) no_tables es run (inv_opened w pair) (crash_opened w pair) in
    safe w (course w (start w) es) both.0
    (tables_of w (start w) no_tables es) both.1 shot finds c b ml mr s

pub law_closed : LawClosed
law_closed w es pair run closed shot c b finds ml mr s =
    let both = crash_course w (start w) no_tables es run (inv_opened w pair) (crash_opened w pair) in
    closed_now w (course w (start w) es) both.0
    (tables_of w (start w) no_tables es) both.1 shot finds c b ml mr closed s

pub law_opened : LawOpened
law_opened w pair = crash_opened w pair

pub law_kept : LawKept
law_kept w st x i act inv c on = crash_act w st x i act on inv c
