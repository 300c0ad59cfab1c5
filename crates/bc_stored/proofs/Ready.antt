-- What a seat knows of the places that it filled, and one more.
use Rattle.std.proofs.Common.{◌≡◌, ℕ, zero, suc, ◌+◌, ◌≤◌, List, [], ◌∷◌, ◌++◌, length, take, drop, Option, None, Some, refl, sym, ap, ◌∙◌, subst, arith}
use Rattle.std.specs.Prelude.{◌==◌, if◌then◌else◌}
use Rattle.bc_books.specs.Index.{run_place}
use Rattle.bc_books.proofs.Cases.{place_range}
use Rattle.bc_data.proofs.Runs.{sector_range}
use Rattle.bc_data.specs.Seats.{noted}
use Rattle.bc_disk.specs.Disk.{DiskFacts}
use Rattle.bc_events.specs.Run as core
use Rattle.bc_fill.specs.Fresh.{IsApart}
use Rattle.bc_fill.specs.declared.fill.Placed.{Placed}
use Rattle.bc_insert.specs.bc_hand.Seats.{world}
use Rattle.bc_insert.proofs.of_bc_hand.Knowing.{View}
use Rattle.bc_insert.specs.Write.{AreAllApart, AreReady}
use Rattle.bc_insert.specs.bc_machine.World.{FromEach, Origin}
use Rattle.bc_model.specs.Sector.{Value, at_run}
use Rattle.bc_model.proofs.Cases.{by_test}
use Rattle.bc_model.proofs.Runs.{at_miss}
use Rattle.bc_insert.specs.bc_place.Named.{AreFilled, IsApartFrom, IsFilled, sectors_of}
use Rattle.bc_insert.specs.bc_place.Place.{IsOwn}
use Rattle.bc_insert.specs.bc_place.Written.{AreApart, HasWritten, IsWrittenAt, KeepsPlaces, with_written}
use Rattle.bc_stored.specs.Stored.{HasStoredAt}

-- ---- one sector

-- just this value of this place
abbrev only : ℕ → Value → ℕ → Option Value
only t v u = if u == t then Some v else None

is_only : (t : ℕ) (v : Value) (u : ℕ) (x : Value) → only t v u ≡ Some x → (u ≡ t) × (x ≡ v)
is_only t v u x = by_test u t (λ b. (if b then Some v else None) ≡ Some x → (u ≡ t) × (x ≡ v))
    (λ is e. (is, one v x e)) (λ ne e. absurd (none x e))
  where
    one : (a b : Value) → Some a ≡ Some b → b ≡ a
    one a b e = cc

    none : (a : Value) → None ≡ Some a → ⊥
    none a e = absurd (cc)

only_is : (t : ℕ) (v : Value) → only t v t ≡ Some v
only_is t v = by_test t t (λ b. (if b then Some v else None) ≡ Some v) (λ _. refl)
    (λ ne. absurd (ne refl))

written_only : (i t : ℕ) (x : Value) (o : Origin) (st : core.State) → IsWrittenAt i t x st
    → HasWritten i (only t x) o st
written_only i t x o st was u y known = let both = is_only t x u y known in
    subst (λ n. IsWrittenAt i n y st) (sym both.0)
    (subst (λ z. IsWrittenAt i t z st) (sym both.1) was)

-- ---- runs of values

head_skipped : (first : ℕ) (x : Value) (xs : List Value) (s : ℕ) → suc first ≤ s
    → at_run first (x ∷ xs) s ≡ at_run (suc first) xs s
head_skipped first x xs s low = by_test first s
    (λ b. (if b then Some x else at_run (suc first) xs s) ≡ at_run (suc first) xs s)
    (λ is. absurd (omega (arith, low, is))) (λ ne. refl)

-- what stands at a place of a run of sectors is the value of its sector
placed_value : (n : ℕ) (first at : ℕ) (vs : List Value) (s t : ℕ) (v : Value)
    → run_place first at n s ≡ Some t → at_run first vs s ≡ Some v
    → at_run at (take n vs) t ≡ Some v
placed_value zero first at vs s t v there is = absurd (cc)
placed_value (suc n) first at [] s t v there is = absurd (cc)
placed_value (suc n) first at (x ∷ xs) s t v there is = by_test first s
    (λ b. (if b then Some at else run_place (suc first) (suc at) n s) ≡ Some t
    → (if b then Some x else at_run (suc first) xs s) ≡ Some v
    → at_run at (x ∷ take n xs) t ≡ Some v)
    (λ eq there has. subst (λ u. at_run at (x ∷ take n xs) u ≡ Some v) (same at t there)
    (by_test at at (λ b. (if b then Some x else at_run (suc at) (take n xs) at) ≡ Some v)
    (λ _. has) (λ ne. absurd (ne refl))))
    (λ ne there has.
    (let low = (place_range (suc first) (suc at) n s t there).0 in
    head_skipped at x (take n xs) t low
    ∙ placed_value n (suc first) (suc at) xs s t v there has)) there is
  where
    same : (a b : ℕ) → Some a ≡ Some b → a ≡ b
    same a b e = cc

-- so it is from a later one of them on
pub placed_later : (k : ℕ) (first at n : ℕ) (vs : List Value) (s t : ℕ) (v : Value)
    → run_place (first + k) at n s ≡ Some t → first + k ≤ s → at_run first vs s ≡ Some v
    → at_run at (take n (drop k vs)) t ≡ Some v
placed_later zero first at n vs s t v there low is =
    placed_value n first at vs s t v
    (subst (λ m. run_place m at n s ≡ Some t) (let e : first + 0 ≡ first = omega arith in e) there) is
placed_later (suc k) first at n [] s t v there low is = absurd (cc)
placed_later (suc k) first at n (x ∷ xs) s t v there low is =
    placed_later k (suc first) at n xs s t v
    (subst (λ m. run_place m at n s ≡ Some t)
    (let e : first + suc k ≡ suc first + k = omega arith in e) there)
    (omega (arith, low)) (sym (head_skipped first x xs s (omega (arith, low))) ∙ is)

taken_few : (n : ℕ) (vs : List Value) → length (take n vs) ≤ n
taken_few zero vs = omega arith
taken_few (suc n) [] = omega arith
taken_few (suc n) (x ∷ xs) = let rest = taken_few n xs in omega (arith, rest)

-- ---- places one behind the other

pub filled_then : (i first : ℕ) (want : ℕ → Option Value) (ps : List Placed) (p : Placed)
    (o : Origin) (st : core.State) → AreFilled i first want ps o st
    → IsFilled i (first + sectors_of ps) want p o st → AreFilled i first want (ps ++ p ∷ []) o st
filled_then i first want [] p o st all it =
    (subst (λ n. IsFilled i n want p o st) (let e : first + 0 ≡ first = omega arith in e) it, tt)
filled_then i first want (q ∷ qs) p o st all it = (
  all.0,
  filled_then i (first + q.count) want qs p o st all.1
      (subst (λ n. IsFilled i n want p o st)
      (let e : first + (q.count + sectors_of qs) ≡ first + q.count + sectors_of qs = omega arith in e)
      it),
)

from_then : (q : Placed) (ps : List Placed) (p : Placed) → IsApartFrom q ps → IsApart q p
    → IsApartFrom q (ps ++ p ∷ [])
from_then q [] p all it = (it, tt)
from_then q (x ∷ xs) p all it = (all.0, from_then q xs p all.1 it)

pub apart_then : (ps : List Placed) (p : Placed) → AreAllApart ps → IsApartFrom p ps
    → AreAllApart (ps ++ p ∷ [])
apart_then [] p all it = (tt, tt)
apart_then (q ∷ qs) p all it = (
  from_then q qs p all.0 (λ s in_q in_p. it.0 s in_p in_q),
  apart_then qs p all.1 it.1,
)

pub sectors_then : (ps : List Placed) (p : Placed)
    → sectors_of (ps ++ p ∷ []) ≡ sectors_of ps + p.count
sectors_then [] p = omega arith
sectors_then (q ∷ qs) p = let rest = sectors_then qs p in omega (arith, rest)

-- ---- what the seat knows

module _ {C B : Type 0} (cache_facts : C → DiskFacts) (backing_facts : B → DiskFacts)
    (v w : View cache_facts backing_facts) where
  abbrev Before : (Origin → core.State → Type 0) → Type 0
  Before Q = FromEach (world cache_facts backing_facts v) Q

  abbrev Behind : (Origin → core.State → Type 0) → Type 0
  Behind Q = FromEach (world cache_facts backing_facts w) Q

  -- A way of the seat that keeps its places, and adds values to what it wrote.
  pub record Keeps (at : ℕ) (values : List Value) : Type 0 where
    pub own : (p : Placed) → Before (IsOwn v.first p) → Behind (IsOwn w.first p)
    pub written : (known : ℕ → Option Value) → Before (HasWritten v.first known)
        → Behind (HasWritten w.first (with_written at values known))
    pub apart : (p q : Placed) → Before (AreApart p q) → Behind (AreApart p q)

  one_kept : (at : ℕ) (values : List Value) → Keeps at values → (t : ℕ) (x : Value)
      → Before (λ o st. IsWrittenAt v.first t x st) → Behind (λ o st. at_run at values t ≡ None
      → IsWrittenAt w.first t x st)
  one_kept at values keeps t x was o is course none = keeps.written (only t x)
      (λ o is course. written_only v.first t x o _ (was o is course)) o is course t x
      (ap (λ z. noted z (only t x t)) none ∙ only_is t x)

  -- places that have no sector of the one that was written
  filled_kept : (p : Placed) (values : List Value) → length values ≤ p.count
      → Keeps p.ptr.offset values → (first : ℕ) (want : ℕ → Option Value) (ps : List Placed)
      → Before (AreFilled v.first first want ps)
      → Behind (λ o st. IsApartFrom p ps → AreFilled w.first first want ps o st)
  filled_kept p values few keeps first want [] h o is course apart = tt
  filled_kept p values few keeps first want (q ∷ qs) h o is course apart = (
    record {
      own = keeps.own q (λ o is course. (h o is course).0.own) o is course;
      holds = λ s t y there wants. one_kept p.ptr.offset values keeps t y
          (λ o is course. (h o is course).0.holds s t y there wants) o is course
          (at_miss p.ptr.offset values t (λ r. apart.0 t
          (let low = r.0 in let high = r.1 in (low, omega (arith, high, few)))
          (place_range first q.ptr.offset q.count s t there)));
    },
    filled_kept p values few keeps (first + q.count) want qs (λ o is course. (h o is course).1) o is
        course apart.1,
  )

  from_kept : (at : ℕ) (values : List Value) → Keeps at values → (q : Placed) (ps : List Placed)
      → Before (λ o st. IsApartFrom q ps) → Behind (λ o st. IsApartFrom q ps)
  from_kept at values keeps q [] h o is course = tt
  from_kept at values keeps q (x ∷ xs) h o is course = (
    keeps.apart q x (λ o is course. (h o is course).0) o is course,
    from_kept at values keeps q xs (λ o is course. (h o is course).1) o is course,
  )

  apart_kept : (at : ℕ) (values : List Value) → Keeps at values → (ps : List Placed)
      → Before (λ o st. AreAllApart ps) → Behind (λ o st. AreAllApart ps)
  apart_kept at values keeps [] h o is course = tt
  apart_kept at values keeps (q ∷ qs) h o is course = (
    from_kept at values keeps q qs (λ o is course. (h o is course).0) o is course,
    apart_kept at values keeps qs (λ o is course. (h o is course).1) o is course,
  )

  -- the one that was given is apart from all of them
  new_apart : (p : Placed) → ((q : Placed) → Before (IsOwn v.first q) → Behind (AreApart p q))
      → (first : ℕ) (want : ℕ → Option Value) (ps : List Placed)
      → Before (AreFilled v.first first want ps) → Behind (λ o st. IsApartFrom p ps)
  new_apart p new first want [] h o is course = tt
  new_apart p new first want (q ∷ qs) h o is course = (
    new q (λ o is course. (h o is course).0.own) o is course,
    new_apart p new (first + q.count) want qs (λ o is course. (h o is course).1) o is course,
  )

  -- ---- a way that leaves them alone

  still : KeepsPlaces cache_facts backing_facts v w → Keeps 0 []
  still keeps = record {
    own = keeps.own;
    written = λ known h. keeps.written known h;
    apart = keeps.opening.apart;
  }

  pub filled_still : KeepsPlaces cache_facts backing_facts v w → (first : ℕ)
      → (want : ℕ → Option Value) (ps : List Placed) → Before (AreFilled v.first first want ps)
      → Behind (AreFilled w.first first want ps)
  filled_still keeps first want [] h o is course = tt
  filled_still keeps first want (q ∷ qs) h o is course = (
    record {
      own = keeps.own q (λ o is course. (h o is course).0.own) o is course;
      holds = λ s t y there wants. one_kept 0 [] (still keeps) t y
          (λ o is course. (h o is course).0.holds s t y there wants) o is course refl;
    },
    filled_still keeps (first + q.count) want qs (λ o is course. (h o is course).1) o is course,
  )

  pub ready_still : KeepsPlaces cache_facts backing_facts v w → (first : ℕ) (values : List Value)
      (ps : List Placed) → Before (AreReady v.first first values ps)
      → Behind (AreReady w.first first values ps)
  ready_still keeps first values ps ready o is course = record {
    filled = filled_still keeps first (at_run first values) ps (λ o is course. (ready o is course).filled)
        o is course;
    apart = apart_kept 0 [] (still keeps) ps (λ o is course. (ready o is course).apart) o is course;
  }

-- ---- one place more

module _ {C B : Type 0} (cache_facts : C → DiskFacts) (backing_facts : B → DiskFacts) where
  pub ready_then : (before sectors first : ℕ) (values : List Value) (ps : List Placed) (p : Placed)
      (v w : View cache_facts backing_facts)
      → FromEach (world cache_facts backing_facts v) (AreReady v.first first values ps)
      → HasStoredAt cache_facts backing_facts before sectors p (drop (sectors_of ps) values) v w
      → FromEach (world cache_facts backing_facts w) (AreReady w.first first values (ps ++ p ∷ []))
  ready_then before sectors first values ps p v w ready it o is course =
      let stored = take p.count (drop (sectors_of ps) values) in
      let away : Keeps cache_facts backing_facts v w p.ptr.offset stored = record {
        own = λ q own. it.stored.own q (it.keeps.own q own);
        written = λ known h. it.stored.written known (it.keeps.written known h);
        apart = λ x y h. it.stored.opening.apart x y (it.keeps.opening.apart x y h);
      } in
      let few : length stored ≤ p.count = taken_few p.count (drop (sectors_of ps) values) in
      let apart = new_apart cache_facts backing_facts v w p
      (λ q own. it.stored.opening.apart p q (it.new q own)) first (at_run first values) ps
      (λ o is course. (ready o is course).filled) o is course in
      record {
        filled = filled_then w.first first (at_run first values) ps p o _
            (filled_kept cache_facts backing_facts v w p stored few away first (at_run first values)
            ps (λ o is course. (ready o is course).filled) o is course apart) (record {
              own = it.own o is course;
              holds = λ s t y there wants. it.stored.written (λ u. None)
                  (λ o is course u x none. absurd (nothing x none)) o is course t y
                  (ap (λ z. noted z None)
                  (placed_later (sectors_of ps) first p.ptr.offset p.count values s t y there
                  (sector_range (first + sectors_of ps) p.ptr.offset p.count s t there).0 wants));
            });
        apart = apart_then ps p (apart_kept cache_facts backing_facts v w p.ptr.offset stored away ps
            (λ o is course. (ready o is course).apart) o is course) apart;
      }
    where
      nothing : (x : Value) → None ≡ Some x → ⊥
      nothing x e = absurd (cc)
