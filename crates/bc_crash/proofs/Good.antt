-- What is allowed to each flush that an index answers for, and the tables that say which those are.
use Rattle.std.proofs.Common.{◌≡◌, ◌⊎◌, inl, inr, ℕ, suc, ◌<◌, ◌≤◌, Bool, true, false, List, ◌∷◌, length, Option, Some, None, if◌then◌else◌, refl, sym, ap, ◌∙◌, subst, arith}
use Rattle.bc_model.specs.Sector.{Value, Image, unless}
use Rattle.bc_model.specs.History.{gives, may_give, now, AllowedFrom, is_write, written_by}
use Rattle.bc_model.specs.declared.history.Entry.{Entry}
use Rattle.bc_model.proofs.Cases.{by_le}
use Rattle.bc_model.proofs.Grown.{allowed_grown, allowed_end, allowed_now, allowed_given}
use Rattle.bc_books.specs.Index.{from_on}
use Rattle.bc_data.specs.Seats.{Seat, Covers}
use Rattle.bc_crash.specs.Reached.{from_of}
use Rattle.bc_crash.specs.Invariant.{IsGood, IsTable, IsLastKnown, IsSeatKnown}
use Rattle.bc_crash.proofs.Reached.{has_after, from_le, write_le, from_after, write_after}

-- the source gives less, or the present
pub good_less : (opening : Image) (H : List Entry) (s n : ℕ) (need : ℕ → ℕ) (ok ok' : ℕ → Type 0)
    (src src' : Value → Type 0) → ((f : ℕ) → ok' f → ok f)
    → ((x : Value) → src' x → src x ⊎ (x ≡ now opening H s)) → IsGood opening H s n need ok src
    → IsGood opening H s n need ok' src'
good_less opening H s n need ok ok' src src' oks less good f le few is x show = elim
    (less x show) [ inl h ↦ good f le few (oks f is) x h | inr h ↦ allowed_now opening f H s x h ]

-- all it gives is the present
pub good_now : (opening : Image) (H : List Entry) (s n : ℕ) (need : ℕ → ℕ) (ok : ℕ → Type 0)
    (src : Value → Type 0) → ((x : Value) → src x → x ≡ now opening H s)
    → IsGood opening H s n need ok src
good_now opening H s n need ok src all f le few is x show = allowed_now opening f H s x (all x show)

either : (f n : ℕ) → f ≤ suc n → (f ≤ n) ⊎ (f ≡ suc n)
either f n le = grind arith

-- the history grows by what gives nothing to the sector
pub good_silent : (opening : Image) (H : List Entry) (e : Entry) (s n : ℕ) (need : ℕ → ℕ)
    (ok : ℕ → Type 0) (src src' : Value → Type 0) → gives e s ≡ None
    → ((f g : ℕ) → f ≤ g → need f ≤ need g) → (ok (suc (length H)) → ok (length H))
    → ((x : Value) → src' x → src x) → IsGood opening H s n need ok src → IsGood opening
    (e ∷ H) s n need ok src'
good_silent opening H e s n need ok src src' silent mono last less good f le few is x show = go
    (either f (length H) le)
  where
    go : (f ≤ length H) ⊎ (f ≡ suc (length H)) → AllowedFrom f opening (e ∷ H) s x
    go (inl l) = allowed_grown opening f e H s x l (good f l few is x (less x show))
    go (inr at) =
        let m = mono (length H) (suc (length H)) (omega arith) in
        let few2 : need (length H) ≤ n =
        (let q : need f ≡ need (suc (length H)) = ap need at in omega arith) in
        let h = good (length H) (omega arith) few2 (last (subst ok at is)) x (less x show) in
        allowed_now opening f (e ∷ H) s x
        (allowed_end opening (length H) H s x (omega arith) h ∙ sym
        (ap (λ (o : Option Value). unless o (now opening H s)) silent))

-- by what may give it a value, which the source may give too; to a flush after it nothing is promised
pub good_given : (opening : Image) (H : List Entry) (e : Entry) (s n : ℕ) (need need' : ℕ → ℕ)
    (ok ok' : ℕ → Type 0) (src src' : Value → Type 0)
    → ((f : ℕ) → f ≤ length H → need' f ≤ n → need f ≤ n) → ((f : ℕ) → f ≤ length H → ok' f → ok f)
    → (need' (suc (length H)) ≤ n → ok' (suc (length H)) → (x : Value) → src' x → x ≡ now opening
    (e ∷ H) s) → ((x : Value) → src' x → src x ⊎ (may_give e s ≡ Some x))
    → IsGood opening H s n need ok src → IsGood opening (e ∷ H) s n need' ok' src'
good_given opening H e s n need need' ok ok' src src' fewer oks last less good f le few is x show = go
    (either f (length H) le)
  where
    go : (f ≤ length H) ⊎ (f ≡ suc (length H)) → AllowedFrom f opening (e ∷ H) s x
    go (inl l) = elim (less x show) [
      | inl h ↦ allowed_grown opening f e H s x l
          (good f l (fewer f l few) (oks f l is) x h)
      | inr h ↦ allowed_given opening f e H s x l h
    ]
    go (inr at) = allowed_now opening f (e ∷ H) s x
        (last (subst (λ g. need' g ≤ n) at few) (subst ok' at is) x show)

pub on_below : {A : Type 0} → (n f : ℕ) (old : ℕ → A) (new : A) → f < n → from_on n old new f ≡ old f
on_below n f old new lt = by_le n f (λ b. (if b then new else old f) ≡ old f)
    (λ le. absurd (omega arith)) (λ _. refl)

pub on_above : {A : Type 0} → (n f : ℕ) (old : ℕ → A) (new : A) → n ≤ f → from_on n old new f ≡ new
on_above n f old new le = by_le n f (λ b. (if b then new else old f) ≡ new) (λ _. refl)
    (λ lt. absurd (omega arith))

pub table_grown : (c c' len len' : ℕ) (need : ℕ → ℕ) (safe : ℕ → Bool) → c ≤ c' → len ≤ len'
    → IsTable c len need safe → IsTable c' len' need safe
table_grown c c' len len' need safe up le t = record {
  zero = t.zero;
  top = λ f. let x = t.top f in omega arith;
  mono = t.mono;
  flat = λ f l. t.flat f (omega arith) ∙ sym (t.flat len' le);
  safe_zero = t.safe_zero;
  safe_flat = λ f l. t.safe_flat f (omega arith) ∙ sym (t.safe_flat len' le);
}

pub table_need : (c c' len : ℕ) (need : ℕ → ℕ) (safe : ℕ → Bool) → c ≤ c' → IsTable c len need safe
    → IsTable c' (suc len) (from_on (suc len) need c') safe
table_need c c' len need safe up t = record {
  zero = on_below (suc len) 0 need c' (omega arith) ∙ t.zero;
  top = λ f. by_le (suc len) f (λ b. (if b then c' else need f) ≤ c') (λ _. omega arith)
      (λ _. let x = t.top f in omega arith);
  mono = λ f g le. by_le (suc len) f (λ b. (if b then c' else need f) ≤ from_on (suc len) need c' g)
      (λ l. let e = on_above (suc len) g need c' (omega arith) in omega arith)
      (λ _. by_le (suc len) g (λ b. need f ≤ (if b then c' else need g))
      (λ _. let x = t.top f in omega arith) (λ _. t.mono f g le));
  flat = λ f l. on_above (suc len) f need c' l ∙ sym
      (on_above (suc len) (suc len) need c' (omega arith));
  safe_zero = t.safe_zero;
  safe_flat = λ f l. t.safe_flat f (omega arith) ∙ sym (t.safe_flat (suc len) (omega arith));
}

pub table_safe : (c len : ℕ) (need : ℕ → ℕ) (safe : ℕ → Bool) (b : Bool) → IsTable c
    (suc len) need safe → IsTable c (suc len) need (from_on (suc len) safe b)
table_safe c len need safe b t = record {
  zero = t.zero;
  top = t.top;
  mono = t.mono;
  flat = t.flat;
  safe_zero = on_below (suc len) 0 safe b (omega arith) ∙ t.safe_zero;
  safe_flat = λ f l. on_above (suc len) f safe b l ∙ sym
      (on_above (suc len) (suc len) safe b (omega arith));
}

-- the history grows; at what stood before, the tables stay, and over the seat's exclusive claim they go on
pub seat_grown : (i : ℕ) (halted halted' : Bool) (H : List Entry) (e : Entry)
    (need need' : ℕ → ℕ → ℕ) (safe safe' : ℕ → ℕ → Bool) (x : Seat)
    → (halted' ≡ false → halted ≡ false)
    → ((s f : ℕ) → f ≤ length H → (need' s f ≡ need s f) × (safe' s f ≡ safe s f))
    → ((s : ℕ) → (need s 0 ≡ 0) × (safe s 0 ≡ true))
    → (x.claim.exclusive ≡ true → (s : ℕ) → Covers x.claim s → need' s (suc (length H)) ≡ need s
    (length H))
    → (halted' ≡ false → x.claim.wrote ≡ true → IsLastKnown i H need safe x
    → is_write i x.last.line x.last.first e ≡ false)
    → IsSeatKnown i halted H need safe x → IsSeatKnown i halted' (e ∷ H) need' safe' x
seat_grown i halted halted' H e need need' safe safe' x was same zero top other fine = record {
  flush = λ h g. let k = fine.flush (was h) g in
      let l = from_le i x.flush.line H in
      record {
        begun = has_after i x.flush.line e H k.begun;
        counted = λ s. elim (from_after i x.flush.line e H k.begun) [
          | inl is ↦ subst (λ n. need' s n ≤ x.flush.keys) (sym is)
              (let a = (same s 0 (omega arith)).0 in let b = (zero s).0 in omega arith)
          | inr is ↦ subst (λ n. need' s n ≤ x.flush.keys) (sym is)
              (let a = (same s (from_of i x.flush.line H) l).0 in let b = k.counted s in
              omega arith)
        ];
        firm = λ y s. elim (from_after i x.flush.line e H k.begun) [
          | inl is ↦ subst (λ n. safe' s n ≡ true) (sym is) ((same s 0 (omega arith)).1 ∙ (zero s).1)
          | inr is ↦ subst (λ n. safe' s n ≡ true) (sym is)
              ((same s (from_of i x.flush.line H) l).1 ∙ k.firm y s)
        ];
      };
  last = λ h wr. let k = fine.last (was h) wr in
      let l = write_le i x.last.line x.last.first H in
      let is = write_after i x.last.line x.last.first e H (other h wr k) in
      record {
        exclusive = k.exclusive;
        some = k.some;
        covers = k.covers;
        counted = λ s q. subst (λ n. need' s n ≤ x.last.keys) (sym is)
            (let a = (same s (written_by i x.last.line x.last.first H) l).0 in
            let b = k.counted s q in omega arith);
        firm = λ y s q. subst (λ n. safe' s n ≡ true) (sym is)
            ((same s (written_by i x.last.line x.last.first H) l).1 ∙ k.firm y s q);
      };
  few = λ l ex s q. let a = top ex s q in let b = fine.few l ex s q in omega arith;
  gone = λ s g. let b = fine.gone s g in let b2 = b.2 in let a = top b.1 s b.0 in
      (b.0, b.1, omega arith);
}
