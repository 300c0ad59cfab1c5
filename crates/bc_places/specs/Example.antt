-- A bucket of two sectors is opened, filled by two places, and shut.
use Rattle.std.specs.Prelude.{◌≡◌, ℕ, ◌-◌, ◌/◌, ◌^◌, ◌<◌, ◌==◌, true, false, List, [], ◌∷◌, Option, Some, None, if◌then◌else◌}
use Rattle.std.proofs.Common.{lit<}
use Rattle.bc_alloc.specs.Reserve.{Reserve}
use Rattle.bc_alloc.specs.Reserves.{Reserves}
use Rattle.bc_books.specs.Shelves.{Purpose, Plain, Open, Loose, Fresh, Own}
use Rattle.bc_books.specs.Marks.{Unmarked}
use Rattle.bc_books.specs.Books.{Setup, Books, Take, Pin, Shut, opened}
use Rattle.bc_books.specs.After.{fold}
use Rattle.bc_bucket.specs.declared.bucket.Bucket.{Bucket}
use Rattle.bc_bucket.specs.Bucket.{no_bucket, with_held}
use Rattle.bc_bucket.specs.Buckets.{Buckets}
use Rattle.bc_fill.specs.declared.fill.Open as fill
use Rattle.bc_fill.specs.declared.fill.Placed.{Placed}
use Rattle.bc_fill.specs.Fill.{just_opened, Places}
use Rattle.bc_places.specs.Stands.{StandFor}
use Rattle.bc_places.specs.Steps.{place_steps}
use Rattle.bc_places.specs.Laws.{AreSteps}

-- The device has three buckets of two sectors, and the core counts them from the second one on. The
-- last one, its bucket 1, is on the plain list.
abbrev pub on_list : ℕ → Option Purpose
on_list q = if q == 1 then Some Plain else None

abbrev pub three_buckets : Setup
three_buckets = record {
  bucket = λ t. t / 2 - 1;
  size = 8;
  sets = 0;
  fixed = λ q. false;
  index = λ s. None;
  leaf = λ s. 0;
  version = λ q. 300;
  last_gc = λ q. 300;
  mark = λ q. Unmarked;
  listed = on_list;
  node = λ q. false;
  chain = λ q. false;
}

abbrev pub reserve : ℕ → List ℕ → Reserve
reserve room buckets = record { room = room; buckets = buckets }

-- with these buckets on the plain list
abbrev pub lists : List ℕ → Reserves
lists plain = record {
  count = 3;
  lists = reserve 1 [] ∷ reserve 4 [] ∷ reserve 8 [] ∷ reserve 8 plain ∷ [];
  raised = [];
}

-- with this record of the last bucket
abbrev pub buckets : Bucket → Buckets
buckets last = record {
  size = 2;
  data_from = 2;
  records = no_bucket ∷ no_bucket ∷ last ∷ [];
  touched = false ∷ false ∷ false ∷ [];
}

abbrev pub ready : Bucket
ready = record no_bucket { generation = 44; durable = 44; last_gc = 44; uses = 1 }

abbrev pub place_at : (offset : ℕ) → offset < 2 ^ 43 → Option ℕ → Placed
place_at offset low taken = record {
  ptr = record {
    dev = 0;
    offset = offset;
    generation = 44;
    dev_fits = lit< tt;
    offset_fits = low;
    generation_fits = lit< tt;
  };
  count = 1;
  opened = taken;
}

-- a sector is asked for, and then more than there are
abbrev pub first : Placed
first = place_at 4 (lit< tt) (Some 2)

abbrev pub second : Placed
second = place_at 5 (lit< tt) None

abbrev pub one_left : List fill.Open
one_left = record { bucket = 2; next = 1 } ∷ []

abbrev pub books_then : Books
books_then = fold three_buckets (opened three_buckets) (place_steps three_buckets.bucket 3 1 2 first)

abbrev pub last_books : Books
last_books = fold three_buckets books_then (place_steps three_buckets.bucket 3 1 2 second)

pub record LawExample : Type 0 where
  pub begins : StandFor 1 2 [] (lists (2 ∷ [])) (opened three_buckets)
  pub first_place : Places first 1 [] one_left (lists (2 ∷ [])) (lists []) (buckets ready)
      (buckets (with_held true ready))
  pub first_steps : place_steps three_buckets.bucket 3 1 2 first ≡ Take 3 Plain 1 ∷ Pin 3 4 1 ∷ []
  pub first_allowed : AreSteps three_buckets (opened three_buckets) 1 3 first one_left (lists []) 2
  pub second_place : Places second 5 one_left [] (lists []) (lists [])
      (buckets (with_held true ready)) (buckets ready)
  pub second_steps : place_steps three_buckets.bucket 3 1 2 second ≡ Pin 3 5 1 ∷ Shut 1 ∷ []
  pub second_allowed : AreSteps three_buckets books_then 1 3 second [] (lists []) 2
  pub stands_open : books_then.shelf 1 ≡ Open
  pub pinned : books_then.owner 4 ≡ Own 3
  pub not_yet : books_then.owner 5 ≡ Fresh
  pub stands_shut : last_books.shelf 1 ≡ Loose
  -- a list whose next sector was placed already stands for nothing
  pub behind : StandFor 1 2 (just_opened 2 ∷ []) (lists []) books_then → ⊥
