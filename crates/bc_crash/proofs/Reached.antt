-- Flushes and forced writes, counted as they are done, reach at least as far as the floor.
use Rattle.std.proofs.Common.{◌≡◌, ◌≢◌, ◌⊎◌, inl, inr, ℕ, suc, ◌≤◌, max, Bool, true, false, List, [], ◌∷◌, length, if◌then◌else◌, ◌==◌, ◌||◌, ◌&&◌, refl, sym, subst, arith}
use Rattle.bc_model.specs.Sector.{Value}
use Rattle.bc_model.specs.History.{is_from, count_from, has_done, is_acknowledged, flushed, is_within, is_write, written_by, forced, floor}
use Rattle.bc_model.specs.declared.history.Entry.{Entry}
use Rattle.bc_model.specs.declared.history.Entry.TheVariants.{Write, Read, FlushFrom, FlushDone, Durable, Tried}
use Rattle.bc_model.proofs.Cases.{by_test}
use Rattle.bc_model.proofs.Floors.{flushed_in_less, BeginsAt, floor_from, floor_done, floor_write, floor_read, floor_tried}
use Rattle.bc_books.proofs.Cases.{by_bool}
use Rattle.bc_crash.specs.Reached.{has_from, from_of, reached, AreBegun}

pub has_after : (w l : ℕ) (e : Entry) (es : List Entry) → has_from w l es ≡ true → has_from w l
    (e ∷ es) ≡ true
has_after w l e es has = go (is_from w l e)
  where
    go : (b : Bool) → (b || has_from w l es) ≡ true
    go true = refl
    go false = has

same_line : (w l : ℕ) (P : Bool → Type 0) → P true → P ((w == w) && (l == l))
same_line w l P h = by_test w w (λ b. P (b && (l == l)))
    (λ _. by_test l l P (λ _. h) (λ ne. absurd (ne refl))) (λ ne. absurd (ne refl))

pub has_begun : (w l : ℕ) (es : List Entry) → has_from w l (FlushFrom w l ∷ es) ≡ true
has_begun w l es = same_line w l (λ b. (b || has_from w l es) ≡ true) refl

pub from_le : (w l : ℕ) (es : List Entry) → from_of w l es ≤ length es
from_le w l [] = omega arith
from_le w l (e ∷ es) = go (is_from w l e) (has_from w l es) (from_le w l es)
  where
    go : (b c : Bool) → from_of w l es ≤ length es
        → (if b then (if c then 0 else length es) else from_of w l es) ≤ suc (length es)
    go true true h = omega arith
    go true false h = omega arith
    go false c h = omega arith

pub write_le : (w l first : ℕ) (es : List Entry) → written_by w l first es ≤ length es
write_le w l first [] = omega arith
write_le w l first (e ∷ es) = go (is_write w l first e) (write_le w l first es)
  where
    go : (b : Bool) → written_by w l first es ≤ length es
        → (if b then suc (length es) else written_by w l first es) ≤ suc (length es)
    go true h = omega arith
    go false h = omega arith

-- a later FlushFrom of the same line leaves none, and one of another line changes nothing
pub from_after : (w l : ℕ) (e : Entry) (es : List Entry) → has_from w l es ≡ true
    → (from_of w l (e ∷ es) ≡ 0) ⊎ (from_of w l (e ∷ es) ≡ from_of w l es)
from_after w l e es has = go (is_from w l e)
  where
    go : (b : Bool) → ((if b then
        (if has_from w l es then 0 else length es) else from_of w l es) ≡ 0)
        ⊎ ((if b then
        (if has_from w l es then 0 else length es) else from_of w l es) ≡ from_of w l es)
    go true = inl (subst (λ c. (if c then 0 else length es) ≡ 0) (sym has) refl)
    go false = inr refl

pub from_begun : (w l : ℕ) (es : List Entry) → (from_of w l (FlushFrom w l ∷ es) ≡ 0)
    ⊎ (from_of w l (FlushFrom w l ∷ es) ≡ length es)
from_begun w l es = same_line w l
    (λ b. ((if b then (if has_from w l es then 0 else length es) else from_of w l es) ≡ 0)
    ⊎ ((if b then (if has_from w l es then 0 else length es) else from_of w l es) ≡ length es))
    (go (has_from w l es))
  where
    go : (c : Bool) → ((if c then 0 else length es) ≡ 0) ⊎ ((if c then 0 else length es) ≡ length es)
    go true = inl refl
    go false = inr refl

pub write_after : (w l first : ℕ) (e : Entry) (es : List Entry) → is_write w l first e ≡ false
    → written_by w l first (e ∷ es) ≡ written_by w l first es
write_after w l first e es no_ = subst
    (λ b. (if b then suc (length es) else written_by w l first es) ≡ written_by w l first es)
    (sym no_) refl

pub write_begun : (w l first : ℕ) (values : List Value) (es : List Entry) → written_by w l first
    (Write w l first values ∷ es) ≡ suc (length es)
write_begun w l first values es =
    by_test w w (λ b. (if b && ((l == l) && (first == first)) then suc
    (length es) else written_by w l first es) ≡ suc (length es))
    (λ _. same_line l first (λ b. (if b then suc (length es) else written_by w l first es) ≡ suc
    (length es)) refl) (λ ne. absurd (ne refl))

-- a flush that was begun is counted, and one that is done was begun
has_counted : (w l : ℕ) (es : List Entry) → has_from w l es ≡ true → 1 ≤ count_from w l es
has_counted w l [] h = absurd (cc)
has_counted w l (e ∷ es) h = go (is_from w l e) h (has_counted w l es)
  where
    go : (b : Bool) → (b || has_from w l es) ≡ true
        → (has_from w l es ≡ true → 1 ≤ count_from w l es) → 1 ≤
        (if b then suc (count_from w l es) else count_from w l es)
    go true h rest = omega arith
    go false h rest = rest h

done_begun : (w l : ℕ) (es : List Entry) → AreBegun es → has_done w l es ≡ true → has_from w l es ≡ true
done_begun w l [] begun h = absurd (cc)
done_begun w l (FlushDone v m ∷ es) begun h = go h (done_begun w l es begun.1)
  where
    go : (((v == w) && (m == l)) || has_done w l es) ≡ true
        → (has_done w l es ≡ true → has_from w l es ≡ true) → has_from w l es ≡ true
    go h rest =
        by_test v w (λ b. ((b && (m == l)) || has_done w l es) ≡ true → has_from w l es ≡ true)
        (λ same. by_test m l (λ b. (b || has_done w l es) ≡ true → has_from w l es ≡ true)
        (λ also _. subst (λ n. has_from n l es ≡ true) same
        (subst (λ n. has_from v n es ≡ true) also begun.0)) (λ _. rest))
        (λ _. rest) h
done_begun w l (e ∷ es) begun h = has_after w l e es (done_begun w l es begun.1 h)

-- where it was begun once, and only then
begins_at : (w l : ℕ) (es : List Entry) → count_from w l es ≡ 1 → BeginsAt w l (from_of w l es) es
begins_at w l [] one = absurd (omega arith)
begins_at w l (e ∷ es) one = go (is_from w l e) refl (has_from w l es) (has_counted w l es) one
    (begins_at w l es)
  where
    go : (b : Bool) → is_from w l e ≡ b → (c : Bool) → (c ≡ true → 1 ≤ count_from w l es)
        → (if b then suc (count_from w l es) else count_from w l es) ≡ 1
        → (count_from w l es ≡ 1 → BeginsAt w l (from_of w l es) es)
        → ((is_from w l e ≡ true) × (length es ≡ (if b then
        (if c then 0 else length es) else from_of w l es))) ⊎ BeginsAt w l
        (if b then (if c then 0 else length es) else from_of w l es) es
    go true is true some one rest = absurd (let x = some refl in omega arith)
    go true is false some one rest = inl (is, refl)
    go false is c some one rest = inr (rest one)

-- the end of a flush that was begun more than once acknowledges nothing
done_flushed : (w l : ℕ) (H : List Entry) → count_from w l H ≢ 1 → flushed
    (FlushDone w l ∷ H) ≤ flushed H
done_flushed w l H more = flushed_in_less (FlushDone w l ∷ H) H same H
  where
    same : (e : Entry) → is_acknowledged (FlushDone w l ∷ H) e ≡ true → is_acknowledged H e ≡ true
    same (FlushFrom v m) h =
        by_test w v (λ b. ((count_from v m H == 1) && ((b && (l == m)) || has_done v m H)) ≡ true
        → ((count_from v m H == 1) && has_done v m H) ≡ true)
        (λ is. by_test l m (λ b. ((count_from v m H == 1) && (b || has_done v m H)) ≡ true
        → ((count_from v m H == 1) && has_done v m H) ≡ true)
        (λ also. by_test (count_from v m H) 1 (λ b. (b && true) ≡ true → (b && has_done v m H) ≡ true)
        (λ one _. absurd (more (subst (λ n. count_from n l H ≡ 1) (sym is)
        (subst (λ n. count_from v n H ≡ 1) (sym also) one)))) (λ _ no_. absurd (cc)))
        (λ _ k. k))
        (λ _ k. k) h
    same e h = h

forced_flushed : (w l first count : ℕ) (H : List Entry) → flushed
    (Durable w l first count ∷ H) ≤ flushed H
forced_flushed w l first count H = flushed_in_less (Durable w l first count ∷ H) H same H
  where
    same : (e : Entry) → is_acknowledged (Durable w l first count ∷ H) e ≡ true
        → is_acknowledged H e ≡ true
    same (FlushFrom v m) h = h
    same e h = h

pub floor_reached : (H : List Entry) (s : ℕ) → AreBegun H → floor H s ≤ reached H s
floor_reached [] s begun = omega arith
floor_reached (Write w l first values ∷ H) s begun = let x = floor_write w l first values H s in
    let y = floor_reached H s begun.1 in omega arith
floor_reached (Read w l first values ∷ H) s begun = let x = floor_read w l first values H s in
    let y = floor_reached H s begun.1 in omega arith
floor_reached (Tried first values ∷ H) s begun = let x = floor_tried first values H s in
    let y = floor_reached H s begun.1 in omega arith
floor_reached (FlushFrom w l ∷ H) s begun =
    let x = floor_from w l H s (λ h. has_counted w l H (done_begun w l H begun.1 h)) in
    let y = floor_reached H s begun.1 in omega arith
floor_reached (FlushDone w l ∷ H) s begun =
    let y = floor_reached H s begun.1 in
    by_test (count_from w l H) 1 (λ _. floor (FlushDone w l ∷ H) s ≤ max (from_of w l H) (reached H s))
    (λ one. floor_done w l (max (from_of w l H) (reached H s)) (from_of w l H) H s
    (begins_at w l H one) (omega arith) (omega arith))
    (λ ne. let x = done_flushed w l H ne in omega arith)
floor_reached (Durable w l first count ∷ H) s begun =
    let y = floor_reached H s begun.1 in
    let x = forced_flushed w l first count H in
    by_bool (is_within first count s)
    (λ b. max (flushed (Durable w l first count ∷ H))
    (if b then max (written_by w l first H) (forced H s) else forced H s) ≤ max
    (if b then written_by w l first H else 0) (reached H s)) (λ _. omega arith)
    (λ _. omega arith)
