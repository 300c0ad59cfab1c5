-- Other numbers for workers change nothing that a history says.
use Rattle.std.proofs.Common.{◌≡◌, ◌⊎◌, inl, inr, ℕ, suc, max, Bool, true, false, ◌&&◌, ◌||◌, List, [], ◌∷◌, length, Some, refl, sym, ap, ◌∙◌, subst, if◌then◌else◌, ◌==◌, nat_le, MatchBool}
use Rattle.bc_model.specs.Sector.{Value, Image, unless}
use Rattle.bc_model.specs.History.{gives, may_give, now, IsRight, IsLegal, is_from, is_done, count_from, has_done, is_acknowledged, flushed_in, flushed, is_within, is_write, written_by, forced, floor, AllowedFrom}
use Rattle.bc_model.specs.declared.history.Entry.{Entry}
use Rattle.bc_model.specs.declared.history.Entry.TheVariants.{Write, Read, FlushFrom, FlushDone, Durable, Tried}
use Rattle.bc_meta.proofs.Lists.{by_test}
use Rattle.bc_known.specs.Workers.{renamed, all_renamed, Names, AllName, AreToldApart, LawWorkers}

module _ (P : ℕ → Type 0) (f : ℕ → ℕ) (apart : AreToldApart P f) where
  test_same : (a b : ℕ) → P a → P b → (f a == f b) ≡ (a == b)
  test_same a b pa pb = by_test (f a) (f b) (λ t. t ≡ (a == b))
      (λ e. by_test a b (λ t. true ≡ t) (λ _. refl) (λ ne. absurd (ne (apart a b pa pb e))))
      (λ ne. by_test a b (λ t. false ≡ t) (λ e. absurd (ne (ap f e))) (λ _. refl))

  lengths : (H : List Entry) → length (all_renamed f H) ≡ length H
  lengths [] = refl
  lengths (e ∷ es) = ap suc (lengths es)

  -- ---- flushes

  from_same : (w l : ℕ) (e : Entry) → P w → Names P e
      → is_from (f w) l (renamed f e) ≡ is_from w l e
  from_same w l (FlushFrom worker line) p n =
      ap (λ t. t && (line == l)) (test_same worker w n p)
  from_same w l (Write worker line first values) p n = refl
  from_same w l (Read worker line first values) p n = refl
  from_same w l (FlushDone worker line) p n = refl
  from_same w l (Durable worker line first count) p n = refl
  from_same w l (Tried first values) p n = refl

  done_same : (w l : ℕ) (e : Entry) → P w → Names P e
      → is_done (f w) l (renamed f e) ≡ is_done w l e
  done_same w l (FlushDone worker line) p n =
      ap (λ t. t && (line == l)) (test_same worker w n p)
  done_same w l (Write worker line first values) p n = refl
  done_same w l (Read worker line first values) p n = refl
  done_same w l (FlushFrom worker line) p n = refl
  done_same w l (Durable worker line first count) p n = refl
  done_same w l (Tried first values) p n = refl

  counts : (w l : ℕ) (H : List Entry) → P w → AllName P H
      → count_from (f w) l (all_renamed f H) ≡ count_from w l H
  counts w l [] p n = refl
  counts w l (e ∷ es) p n =
      ap (λ t. if t then suc (count_from (f w) l (all_renamed f es))
      else count_from (f w) l (all_renamed f es)) (from_same w l e p n.0)
      ∙ ap (λ c. if is_from w l e then suc c else c) (counts w l es p n.1)

  dones : (w l : ℕ) (H : List Entry) → P w → AllName P H
      → has_done (f w) l (all_renamed f H) ≡ has_done w l H
  dones w l [] p n = refl
  dones w l (e ∷ es) p n =
      ap (λ t. t || has_done (f w) l (all_renamed f es)) (done_same w l e p n.0)
      ∙ ap (λ t. is_done w l e || t) (dones w l es p n.1)

  acknowledged : (H : List Entry) (e : Entry) → AllName P H → Names P e
      → is_acknowledged (all_renamed f H) (renamed f e) ≡ is_acknowledged H e
  acknowledged H (FlushFrom worker line) all n =
      ap (λ c. (c == 1) && has_done (f worker) line (all_renamed f H)) (counts worker line H n all)
      ∙ ap (λ t. (count_from worker line H == 1) && t) (dones worker line H n all)
  acknowledged H (Write worker line first values) all n = refl
  acknowledged H (Read worker line first values) all n = refl
  acknowledged H (FlushDone worker line) all n = refl
  acknowledged H (Durable worker line first count) all n = refl
  acknowledged H (Tried first values) all n = refl

  flushes : (H es : List Entry) → AllName P H → AllName P es
      → flushed_in (all_renamed f H) (all_renamed f es) ≡ flushed_in H es
  flushes H [] all n = refl
  flushes H (e ∷ es) all n =
      ap (λ t. if t then length (all_renamed f es)
      else flushed_in (all_renamed f H) (all_renamed f es)) (acknowledged H e all n.0)
      ∙ ap (λ c. if is_acknowledged H e then c
      else flushed_in (all_renamed f H) (all_renamed f es)) (lengths es)
      ∙ ap (λ c. if is_acknowledged H e then length es else c) (flushes H es all n.1)

  -- ---- forced writes

  write_same : (w l at : ℕ) (e : Entry) → P w → Names P e
      → is_write (f w) l at (renamed f e) ≡ is_write w l at e
  write_same w l at (Write worker line first values) p n =
      ap (λ t. t && ((line == l) && (first == at))) (test_same worker w n p)
  write_same w l at (Read worker line first values) p n = refl
  write_same w l at (FlushFrom worker line) p n = refl
  write_same w l at (FlushDone worker line) p n = refl
  write_same w l at (Durable worker line first count) p n = refl
  write_same w l at (Tried first values) p n = refl

  writes : (w l at : ℕ) (H : List Entry) → P w → AllName P H
      → written_by (f w) l at (all_renamed f H) ≡ written_by w l at H
  writes w l at [] p n = refl
  writes w l at (e ∷ es) p n =
      ap (λ t. if t then suc (length (all_renamed f es))
      else written_by (f w) l at (all_renamed f es)) (write_same w l at e p n.0)
      ∙ ap (λ c. if is_write w l at e then suc c
      else written_by (f w) l at (all_renamed f es)) (lengths es)
      ∙ ap (λ c. if is_write w l at e then suc (length es) else c) (writes w l at es p n.1)

  forces : (H : List Entry) (s : ℕ) → AllName P H → forced (all_renamed f H) s ≡ forced H s
  forces [] s n = refl
  forces (Durable worker line first count ∷ es) s n =
      ap (λ c. if is_within first count s then max c (forced (all_renamed f es) s)
      else forced (all_renamed f es) s) (writes worker line first es n.0 n.1)
      ∙ ap (λ c. if is_within first count s then max (written_by worker line first es) c
      else c) (forces es s n.1)
  forces (Write worker line first values ∷ es) s n = forces es s n.1
  forces (Read worker line first values ∷ es) s n = forces es s n.1
  forces (FlushFrom worker line ∷ es) s n = forces es s n.1
  forces (FlushDone worker line ∷ es) s n = forces es s n.1
  forces (Tried first values ∷ es) s n = forces es s n.1

  floors : (H : List Entry) (s : ℕ) → AllName P H → floor (all_renamed f H) s ≡ floor H s
  floors H s n = ap (λ c. max c (forced (all_renamed f H) s)) (flushes H H n n)
      ∙ ap (λ c. max (flushed H) c) (forces H s n)

  -- ---- values

  gives_same : (e : Entry) (s : ℕ) → gives (renamed f e) s ≡ gives e s
  gives_same (Write worker line first values) s = refl
  gives_same (Read worker line first values) s = refl
  gives_same (FlushFrom worker line) s = refl
  gives_same (FlushDone worker line) s = refl
  gives_same (Durable worker line first count) s = refl
  gives_same (Tried first values) s = refl

  may_same : (e : Entry) (s : ℕ) → may_give (renamed f e) s ≡ may_give e s
  may_same (Write worker line first values) s = refl
  may_same (Read worker line first values) s = refl
  may_same (FlushFrom worker line) s = refl
  may_same (FlushDone worker line) s = refl
  may_same (Durable worker line first count) s = refl
  may_same (Tried first values) s = refl

  now_same : (opening : Image) (H : List Entry) (s : ℕ)
      → now opening (all_renamed f H) s ≡ now opening H s
  now_same opening [] s = refl
  now_same opening (e ∷ es) s =
      ap (λ o. unless o (now opening (all_renamed f es) s)) (gives_same e s)
      ∙ ap (λ v. unless (gives e s) v) (now_same opening es s)

  right : (e : Entry) (a b : Image) → ((s : ℕ) → a s ≡ b s) → IsRight e a
      → IsRight (renamed f e) b
  right (Read worker line first values) a b same h = λ s v is. h s v is ∙ same s
  right (Write worker line first values) a b same h = tt
  right (FlushFrom worker line) a b same h = tt
  right (FlushDone worker line) a b same h = tt
  right (Durable worker line first count) a b same h = tt
  right (Tried first values) a b same h = tt

  right_back : (e : Entry) (a b : Image) → ((s : ℕ) → a s ≡ b s) → IsRight (renamed f e) b
      → IsRight e a
  right_back (Read worker line first values) a b same h = λ s v is. h s v is ∙ sym (same s)
  right_back (Write worker line first values) a b same h = tt
  right_back (FlushFrom worker line) a b same h = tt
  right_back (FlushDone worker line) a b same h = tt
  right_back (Durable worker line first count) a b same h = tt
  right_back (Tried first values) a b same h = tt

  legal : (opening : Image) (H : List Entry) → IsLegal opening H
      → IsLegal opening (all_renamed f H)
  legal opening [] h = tt
  legal opening (e ∷ es) h = (
    right e (now opening es) (now opening (all_renamed f es))
        (λ s. sym (now_same opening es s)) h.0,
    legal opening es h.1,
  )

  legal_back : (opening : Image) (H : List Entry) → IsLegal opening (all_renamed f H)
      → IsLegal opening H
  legal_back opening [] h = tt
  legal_back opening (e ∷ es) h = (
    right_back e (now opening es) (now opening (all_renamed f es))
        (λ s. sym (now_same opening es s)) h.0,
    legal_back opening es h.1,
  )

  match_map : (b : Bool) (X Y A B : Type 0) → (X → A) → (Y → B) → MatchBool b X Y
      → MatchBool b A B
  match_map true X Y A B g h x = g x
  match_map false X Y A B g h x = h x

  allowed : (n : ℕ) (opening : Image) (H : List Entry) (s : ℕ) (v : Value)
      → AllowedFrom n opening H s v → AllowedFrom n opening (all_renamed f H) s v
  allowed n opening [] s v h = h
  allowed n opening (e ∷ es) s v h =
      subst (λ c. MatchBool (nat_le n c) ((may_give (renamed f e) s ≡ Some v)
      ⊎ AllowedFrom n opening (all_renamed f es) s v)
      (v ≡ now opening (renamed f e ∷ all_renamed f es) s)) (sym (lengths es))
      (match_map (nat_le n (length es)) _ _ _ _ (λ x. elim x [
        | inl is ↦ inl (may_same e s ∙ is)
        | inr y ↦ inr (allowed n opening es s v y)
      ]) (λ is. is ∙ sym (now_same opening (e ∷ es) s)) h)

  allowed_back : (n : ℕ) (opening : Image) (H : List Entry) (s : ℕ) (v : Value)
      → AllowedFrom n opening (all_renamed f H) s v → AllowedFrom n opening H s v
  allowed_back n opening [] s v h = h
  allowed_back n opening (e ∷ es) s v h =
      match_map (nat_le n (length es)) _ _ _ _ (λ x. elim x [
        | inl is ↦ inl (sym (may_same e s) ∙ is)
        | inr y ↦ inr (allowed_back n opening es s v y)
      ]) (λ is. is ∙ now_same opening (e ∷ es) s)
      (subst (λ c. MatchBool (nat_le n c) ((may_give (renamed f e) s ≡ Some v)
      ⊎ AllowedFrom n opening (all_renamed f es) s v)
      (v ≡ now opening (renamed f e ∷ all_renamed f es) s)) (lengths es) h)

pub law_workers : LawWorkers
law_workers these f opening H apart n = record {
  floors = λ s. floors (λ w. these w ≡ true) f apart H s n;
  legal = (legal_back (λ w. these w ≡ true) f apart opening H, legal (λ w. these w ≡ true) f apart opening H);
  allowed = λ s v. (
    λ h. subst (λ c. AllowedFrom c opening H s v) (floors (λ w. these w ≡ true) f apart H s n)
        (allowed_back (λ w. these w ≡ true) f apart (floor (all_renamed f H) s) opening H s v h),
    λ h. subst (λ c. AllowedFrom c opening (all_renamed f H) s v)
        (sym (floors (λ w. these w ≡ true) f apart H s n)) (allowed (λ w. these w ≡ true) f apart (floor H s) opening H s v h),
  );
}
