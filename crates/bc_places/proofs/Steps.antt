-- A place is given: a bucket opened or none, and then the place cut.
use Rattle.std.proofs.Common.{◌≡◌, ℕ, ◌-◌, ◌≤◌, Bool, true, false, List, [], ◌∷◌, ◌++◌, Option, Some, None, refl, sym, ap, subst}
use Rattle.bc_alloc.specs.Reserves.{Reserves}
use Rattle.bc_alloc.specs.declared.purpose.Purpose.TheVariants as list
use Rattle.bc_books.specs.Shelves.{Open, Plain}
use Rattle.bc_books.specs.Books.{Setup, Books, Step, Take, Pin}
use Rattle.bc_books.specs.Enabled.{CanPin}
use Rattle.bc_books.specs.After as books
use Rattle.bc_books.specs.Invariant as books_order
use Rattle.bc_bucket.specs.Bucket.{with_held}
use Rattle.bc_bucket.specs.Buckets.{Buckets, changed}
use Rattle.bc_fill.specs.declared.fill.Open as fill
use Rattle.bc_fill.specs.declared.fill.Placed.{Placed}
use Rattle.bc_fill.specs.Fill.{just_opened, with_opened, AreOpen, IsCut, IsOpened}
use Rattle.bc_fill.proofs.Taken.{still_open}
use Rattle.bc_places.specs.Stands.{StandFor}
use Rattle.bc_places.specs.Steps.{fills, take_steps, shut_steps, MayPlace}
use Rattle.bc_places.specs.Laws.{AreSpread, LawSteps}
use Rattle.bc_places.proofs.Open.{can_take, opened_stands}
use Rattle.bc_places.proofs.Cut.{can_pin, shuts, cut_stands}

-- the place is pinned, and its bucket shut if that is full
pub record Pinned (w : Setup) (k : Books) (before seat size : ℕ) (p : Placed) (gs : List fill.Open)
    (r : Reserves) : Type 0 where
  pub can : CanPin w.bucket k.shelf k.owner seat p.ptr.offset p.count
  pub shuts : k.shelf (w.bucket p.ptr.offset) ≡ Open
  pub stand : StandFor before size gs r (books.fold w (books.after w k (Pin seat p.ptr.offset p.count)) (shut_steps (fills size p) (w.bucket p.ptr.offset)))

pub pinned : (w : Setup) (k : Books) (before seat count : ℕ) (fs gs : List fill.Open) (r : Reserves) (b d : Buckets) (p : Placed)
    → AreSpread before b.size r.count w → AreOpen fs r b → 1 ≤ count → StandFor before b.size fs r k → IsCut fs gs b d count p
    → Pinned w k before seat b.size p gs r
pinned w k before seat count fs gs r b d p laid opens some h c =
    let o = subst (λ (xs : List fill.Open). AreOpen xs r b) c.were opens in
    let s = subst (λ (xs : List fill.Open). StandFor before b.size xs r k) c.were h in
    record {
      can = can_pin w k before seat count c.first c.rest r b p laid o some c.placed s;
      shuts = shuts w k before seat count c.first c.rest r b p laid o some c.placed s;
      stand = subst (λ (xs : List fill.Open). StandFor before b.size xs r (books.fold w (books.after w k (Pin seat p.ptr.offset p.count)) (shut_steps (fills b.size p) (w.bucket p.ptr.offset)))) (sym c.are)
          (cut_stands w k before seat count c.first c.rest r b p laid o some c.placed s);
    }

-- the bucket is taken, if one was opened
pub record Taken (w : Setup) (k : Books) (before seat size : ℕ) (o : Option ℕ) (p : Placed)
    (gs : List fill.Open) (q : Reserves) : Type 0 where
  pub course : books.IsRun w k (take_steps seat before o)
  pub pins : Pinned w (books.fold w k (take_steps seat before o)) before seat size p gs q

pub taken : (w : Setup) (k : Books) (before seat count : ℕ) (fs gs : List fill.Open) (r q : Reserves) (b m d : Buckets) (p : Placed) (o : Option ℕ)
    → books_order.IsInOrder w k → AreSpread before b.size r.count w → MayPlace count fs r b → StandFor before b.size fs r k
    → IsOpened o fs r q b m → IsCut (with_opened o fs) gs m d count p → Taken w k before seat b.size o p gs q
taken w k before seat count fs gs r q b m d p None order laid may h opening cut =
    let c = subst (λ (x : Buckets). IsCut fs gs x d count p) opening.2 cut in
    subst (λ (x : Reserves). Taken w k before seat b.size None p gs x) (sym opening.1)
    (record { course = tt; pins = pinned w k before seat count fs gs r b d p laid may.opens may.asked h c })
taken w k before seat count fs gs r q b m d p (Some n) order laid may h opening cut =
    let opens = subst (λ (xs : List fill.Open). AreOpen xs r b) opening.0 may.opens in
    let s = subst (λ (xs : List fill.Open). StandFor before b.size xs r k) opening.0 h in
    let c0 = subst (λ (x : Buckets). IsCut (fs ++ just_opened n ∷ []) gs x d count p) opening.2 cut in
    let c = subst (λ (xs : List fill.Open). IsCut (xs ++ just_opened n ∷ []) gs (changed (with_held true) n b) d count p) opening.0 c0 in
    let same_count = sym (ap (λ (x : Reserves). x.count) opening.1.others) in
    record {
      course = (can_take w k before seat n r q b order laid may.order may.fit may.sized opens s opening.1, tt);
      pins = pinned w (books.after w k (Take seat Plain (n - before))) before seat count (just_opened n ∷ []) gs q (changed (with_held true) n b) d p
          (subst (λ (x : ℕ). AreSpread before b.size x w) same_count laid)
          (still_open [] r q b list.Plain n may.order may.fit may.sized opens opening.1) may.asked
          (opened_stands w k before seat n r q b order laid may.order may.fit may.sized opens s opening.1) c;
    }

-- ---- one behind the other

join_run : (w : Setup) (k : Books) (seat before : ℕ) (o : Option ℕ) (xs : List Step) → books.IsRun w k (take_steps seat before o)
    → books.IsRun w (books.fold w k (take_steps seat before o)) xs → books.IsRun w k (take_steps seat before o ++ xs)
join_run w k seat before None xs a b = b
join_run w k seat before (Some n) xs a b = (a.0, b)

join_fold : (w : Setup) (k : Books) (seat before : ℕ) (o : Option ℕ) (xs : List Step) → books.fold w k (take_steps seat before o ++ xs) ≡ books.fold w (books.fold w k (take_steps seat before o)) xs
join_fold w k seat before None xs = refl
join_fold w k seat before (Some n) xs = refl

shut_run : (w : Setup) (k : Books) (f : Bool) (b : ℕ) → k.shelf b ≡ Open → books.IsRun w k (shut_steps f b)
shut_run w k true b is = (is, tt)
shut_run w k false b is = tt

pub law_steps : LawSteps
law_steps w k before seat count fs gs r q b d p order laid may h places =
    let t = taken w k before seat count fs gs r q b places.between d p p.opened order laid may h places.opening places.cut in
    let m = books.fold w k (take_steps seat before p.opened) in
    let more = Pin seat p.ptr.offset p.count ∷ shut_steps (fills b.size p) (w.bucket p.ptr.offset) in
    record {
      course = join_run w k seat before p.opened more t.course (t.pins.can, shut_run w (books.after w m (Pin seat p.ptr.offset p.count)) (fills b.size p) (w.bucket p.ptr.offset) t.pins.shuts);
      stand = subst (λ (x : Books). StandFor before b.size gs q x) (sym (join_fold w k seat before p.opened more)) t.pins.stand;
    }
