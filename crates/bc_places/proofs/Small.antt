-- The example.
use Rattle.std.proofs.Common.{◌≡◌, inl, ℕ, zero, suc, ◌+◌, ◌/◌, ◌<◌, ◌≤◌, true, false, List, [], ◌∷◌, length, get_or, Some, None, refl, sym, subst, arith, if◌then◌else◌}
use Rattle.std.proofs.Math.Nat.{div-eq_of_lt-le}
use Rattle.bc_alloc.specs.declared.purpose.Purpose.{Purpose}
use Rattle.bc_alloc.specs.declared.purpose.Purpose.TheVariants as list
use Rattle.bc_alloc.specs.Buckets.{AreFor}
use Rattle.bc_alloc.specs.Reserve.{no_reserve, times}
use Rattle.bc_alloc.specs.Reserves.{IsInOrder, list_of, times_listed}
use Rattle.bc_alloc.proofs.Times.{times_one, times_other}
use Rattle.bc_books.specs.Index.{Pointer}
use Rattle.bc_books.specs.Shelves as shelf
use Rattle.bc_books.specs.Shelves.{Fresh, Own}
use Rattle.bc_books.specs.Marks.{Unmarked, Metadata}
use Rattle.bc_books.specs.Books.{IsSound, opened}
use Rattle.bc_books.specs.Invariant as books_order
use Rattle.bc_books.proofs.Opening.{kept_at}
use Rattle.bc_bucket.specs.declared.bucket.Bucket.{Bucket}
use Rattle.bc_bucket.specs.Bucket.{with_held}
use Rattle.bc_bucket.specs.Buckets.{bucket_of}
use Rattle.bc_events.specs.Acts.{purpose_of}
use Rattle.bc_fill.specs.Fill.{just_opened, AreOpen, Places}
use Rattle.bc_meta.proofs.Lists.{by_test}
use Rattle.bc_places.specs.Stands.{AreJust, StandFor}
use Rattle.bc_places.specs.Steps.{place_steps, MayPlace}
use Rattle.bc_places.specs.Laws.{AreSteps, AreSpread}
use Rattle.bc_places.specs.Example.{three_buckets, on_list, lists, buckets, ready, first, second, one_left, books_then, LawExample}
use Rattle.bc_places.proofs.Lists.{none_in, in_one, one_there}
use Rattle.bc_places.proofs.Others.{law_begins}
use Rattle.bc_places.proofs.Steps.{law_steps}

no_pointer : (r : Pointer) → None ≡ Some r → ⊥
no_pointer r e = cc

no_metadata : Unmarked ≡ Metadata → ⊥
no_metadata e = cc

not_true : false ≡ true → ⊥
not_true e = cc

sound : IsSound three_buckets
sound = record {
  window = λ b. (omega arith, omega arith);
  inside = λ s r e. absurd (no_pointer r e);
  dirty = λ s r e. absurd (no_pointer r e);
  spare = λ s r e. absurd (no_pointer r e);
  fixed = λ b e. absurd (not_true e);
  node = λ b e. absurd (not_true e);
  chain = λ b e. absurd (not_true e);
  plain = λ b _ _ _ e. no_metadata e;
  sets = (λ i. i, λ i j lt. absurd (omega arith), λ j lt. absurd (omega arith));
  next = (λ i. i, λ i j lt. absurd (omega arith), λ j lt. absurd (omega arith));
}

spread : AreSpread 1 2 3 three_buckets
spread q t below lo hi =
    let is : t / 2 ≡ 1 + q = div-eq_of_lt-le 2 lo (omega arith) in omega arith

-- ---- the lists

in_order : (plain : List ℕ) → length plain ≤ 8 → ((k : ℕ) → times k plain ≤ 1) → ((k : ℕ) → 3 ≤ k → times k plain ≡ 0) → IsInOrder (lists plain)
in_order plain few once below = record { four = refl; short = short; once = λ k. let one = once k in omega arith; below = λ k le. let none = below k le in omega arith }
  where
    short : (i : ℕ) → length (get_or (lists plain).lists i no_reserve).buckets ≤ (get_or (lists plain).lists i no_reserve).room
    short zero = omega arith
    short (suc zero) = omega arith
    short (suc (suc zero)) = omega arith
    short (suc (suc (suc zero))) = few
    short (suc (suc (suc (suc i)))) = omega arith

fits : (plain : List ℕ) (b : Bucket) → (0 < times 2 plain → b.held ≡ false) → ((k : ℕ) → 0 < times k plain → k ≡ 2) → AreFor (lists plain) (buckets b)
fits plain b held only = record { same_count = refl; not_held = λ k some. at k (let m = some in omega arith) }
  where
    at : (k : ℕ) → 0 < times k plain → (bucket_of (buckets b) k).held ≡ false
    at k some = subst (λ i. (bucket_of (buckets b) i).held ≡ false) (sym (only k some)) (held (subst (λ i. 0 < times i plain) (only k some) some))

plain_of : (q : ℕ) (p : Purpose) → on_list q ≡ Some (purpose_of p) → (p ≡ list.Plain) × (q ≡ 1)
plain_of q p = by_test q 1 (λ b. (if b then Some shelf.Plain else None) ≡ Some (purpose_of p) → (p ≡ list.Plain) × (q ≡ 1))
    (λ e is. (purpose p is, e)) (λ ne is. absurd (nothing (purpose_of p) is))
  where
    nothing : (x : shelf.Purpose) → None ≡ Some x → ⊥
    nothing x e = cc

    purpose : (p : Purpose) → Some shelf.Plain ≡ Some (purpose_of p) → p ≡ list.Plain
    purpose list.Plain e = refl
    purpose list.Priorities e = absurd (cc)
    purpose list.Moving e = absurd (cc)
    purpose list.Tree e = absurd (cc)

begins_with : (p : Purpose) → AreJust 1 (list_of p (lists (2 ∷ []))).buckets (λ q. on_list q ≡ Some (purpose_of p))
begins_with list.Plain = record {
  behind = λ k some. let e = in_one k 2 some in omega arith;
  each = λ q some. let e = in_one (1 + q) 2 some in
      let is : q ≡ 1 = omega arith in subst (λ i. on_list i ≡ Some shelf.Plain) (sym is) refl;
  all = λ q is. one_there (1 + q) 2 (let e = (plain_of q list.Plain is).1 in omega arith);
}
begins_with list.Priorities = record { behind = λ k some. absurd (none_in k some); each = λ q some. absurd (none_in (1 + q) some); all = λ q is. absurd (wrong (plain_of q list.Priorities is).0) }
  where
    wrong : list.Priorities ≡ list.Plain → ⊥
    wrong e = cc
begins_with list.Moving = record { behind = λ k some. absurd (none_in k some); each = λ q some. absurd (none_in (1 + q) some); all = λ q is. absurd (wrong (plain_of q list.Moving is).0) }
  where
    wrong : list.Moving ≡ list.Plain → ⊥
    wrong e = cc
begins_with list.Tree = record { behind = λ k some. absurd (none_in k some); each = λ q some. absurd (none_in (1 + q) some); all = λ q is. absurd (wrong (plain_of q list.Tree is).0) }
  where
    wrong : list.Tree ≡ list.Plain → ⊥
    wrong e = cc

begins : StandFor 1 2 [] (lists (2 ∷ [])) (opened three_buckets)
begins = law_begins three_buckets 1 2 (lists (2 ∷ [])) begins_with refl

-- ---- the places

first_place : Places first 1 [] one_left (lists (2 ∷ [])) (lists []) (buckets ready) (buckets (with_held true ready))
first_place = record {
  between = buckets (with_held true ready);
  opening = (refl, record { first = refl; others = refl }, refl);
  cut = record {
    first = just_opened 2;
    rest = [];
    were = refl;
    placed = record { sectors = refl; device = refl; offset = refl; generation = refl };
    are = refl;
    buckets = refl;
  };
}

nothing_open : AreOpen [] (lists (2 ∷ [])) (buckets ready)
nothing_open = record { distinct = λ k. omega arith; each = λ k some. absurd (none_in k some); free = tt }

may_first : MayPlace 1 [] (lists (2 ∷ [])) (buckets ready)
may_first = record {
  order = in_order (2 ∷ []) (omega arith) (λ k. times_one k 2) (λ k le. times_other k 2 (λ e. let x = e in omega arith));
  fit = fits (2 ∷ []) ready (λ some. refl) (λ k some. in_one k 2 some);
  opens = nothing_open;
  sized = omega arith;
  asked = omega arith;
}

order_first : books_order.IsInOrder three_buckets (opened three_buckets)
order_first = kept_at three_buckets [] sound tt

first_allowed : AreSteps three_buckets (opened three_buckets) 1 3 first one_left (lists []) 2
first_allowed = law_steps three_buckets (opened three_buckets) 1 3 1 [] one_left (lists (2 ∷ [])) (lists []) (buckets ready) (buckets (with_held true ready)) first order_first spread may_first begins first_place

one_open : AreOpen one_left (lists []) (buckets (with_held true ready))
one_open = record {
  distinct = λ k. times_one k 2;
  each = λ k some. let e = in_one k 2 some in
      subst (λ i. (i < 3) × ((bucket_of (buckets (with_held true ready)) i).held ≡ true) × (times_listed (lists []) i ≡ 0)) (sym e) (omega arith, refl, refl);
  free = (omega arith, tt);
}

second_place : Places second 5 one_left [] (lists []) (lists []) (buckets (with_held true ready)) (buckets ready)
second_place = record {
  between = buckets (with_held true ready);
  opening = (λ e. none e, refl, refl);
  cut = record {
    first = record { bucket = 2; next = 1 };
    rest = [];
    were = refl;
    placed = record { sectors = refl; device = refl; offset = refl; generation = refl };
    are = refl;
    buckets = refl;
  };
}
  where
    none : one_left ≡ [] → ⊥
    none e = cc

may_second : MayPlace 5 one_left (lists []) (buckets (with_held true ready))
may_second = record {
  order = in_order [] (omega arith) (λ k. omega arith) (λ k le. omega arith);
  fit = fits [] (with_held true ready) (λ some. absurd (none_in 2 some)) (λ k some. absurd (none_in k some));
  opens = one_open;
  sized = omega arith;
  asked = omega arith;
}

order_second : books_order.IsInOrder three_buckets books_then
order_second = kept_at three_buckets (place_steps three_buckets.bucket 3 1 2 first) sound first_allowed.course

second_allowed : AreSteps three_buckets books_then 1 3 second [] (lists []) 2
second_allowed = law_steps three_buckets books_then 1 3 5 one_left [] (lists []) (lists []) (buckets (with_held true ready)) (buckets ready) second order_second spread may_second first_allowed.stand second_place

pub law_example : LawExample
law_example = record {
  begins = begins;
  first_place = first_place;
  first_steps = refl;
  first_allowed = first_allowed;
  second_place = second_place;
  second_steps = refl;
  second_allowed = second_allowed;
  stands_open = refl;
  pinned = refl;
  not_yet = refl;
  stands_shut = refl;
  behind = λ h. own_fresh (h.opens.free 4 (inl (omega arith, omega arith)));
}
  where
    own_fresh : Own 3 ≡ Fresh → ⊥
    own_fresh e = cc
