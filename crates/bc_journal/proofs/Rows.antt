-- Entries that stand one behind the other in a bucket.
use Rattle.std.proofs.Common.{◌≡◌, inl, inr, ℕ, zero, suc, ◌+◌, ◌-◌, ◌*◌, ◌/◌, ◌<◌, ◌≤◌, List, [], ◌∷◌, ◌++◌, refl, sym, subst, ap, ◌∙◌, arith}
use Rattle.std.proofs.Math.Nat.{mul-add, mul-le-mul_left, lt_of_mul-lt-mul_left}
use Rattle.bc_model.specs.Sector.{Image}
use Rattle.bc_model.proofs.Cases.{by_le}
use Rattle.bc_disk.specs.declared.geometry.Geometry.{Geometry}
use Rattle.bc_record.specs.Sectors.{AgreeOn}
use Rattle.bc_record.specs.Kind.{AreFound, behind}
use Rattle.bc_record.proofs.Blocks.{bucket_blocks, block_some}
use Rattle.bc_record.proofs.Found.{one_found, found_fits, found_stays, items_placed}
use Rattle.bc_jset.specs.declared.entry.JEntry.{JEntry}
use Rattle.bc_jset.specs.EntryBytes.{bytes_of}
use Rattle.bc_jset.specs.Records.{entry_kind, entry_sectors, EntryFound}
use Rattle.bc_record.specs.Places.{items_of, placed}
use Rattle.bc_jset.specs.Entries.{FoundEntry, bucket_start, bucket_end, StandIn}
use Rattle.bc_jset.proofs.Records.{entry_codec}
use Rattle.bc_journal.specs.Images.{StandFrom, behind_in, FoundAtBlock}
use Rattle.bc_journal.proofs.Members.{In, in_left, in_right, in_either, has_in, items_append}

-- ---- what a reader finds

-- what stands behind a row is found with it
row_in : (g : Geometry) (image : Image) (end place : ℕ) (here before : List JEntry) (e : JEntry) → AreFound (entry_kind g) image end place here → StandFrom g image end place before
    → EntryFound g image end (behind (entry_kind g) place before) e → In e here
row_in g image end place [] [] e p s f = elim (p e f) [ ]
row_in g image end place (h ∷ hs) [] e p s f = inl (one_found (entry_kind g) (entry_codec g) image end place e h f p.0)
row_in g image end place [] (d ∷ ds) e p s f = elim (p d s.0) [ ]
row_in g image end place (h ∷ hs) (d ∷ ds) e p s f =
    let same : h ≡ d = one_found (entry_kind g) (entry_codec g) image end place h d p.0 s.0 in
    inr (row_in g image end (place + entry_sectors g d) hs ds e (subst (λ (x : JEntry). AreFound (entry_kind g) image end (place + entry_sectors g x) hs) same p.1) s.1 f)

-- what is found in a bucket's lower ones, and in itself
items_split : (g : Geometry) (n : ℕ) (before : List FoundEntry) (here : List JEntry) → items_of (before ++ placed (entry_kind g) (bucket_start g n) here) ≡ items_of before ++ here
items_split g n before here = items_append before (placed (entry_kind g) (bucket_start g n) here) ∙ ap (λ (xs : List JEntry). items_of before ++ xs) (items_placed (entry_kind g) (bucket_start g n) here)

pub in_all : (g : Geometry) (image : Image) (n : ℕ) (all : List FoundEntry) (bucket : ℕ) (before : List JEntry) (e : JEntry) → StandIn g image n all → bucket < n
    → StandFrom g image (bucket_end g bucket) (bucket_start g bucket) before → EntryFound g image (bucket_end g bucket) (behind_in g bucket before) e → In e (items_of all)
in_all g image zero all bucket before e p inside stand here = absurd (omega (arith, inside))
in_all g image (suc n) all bucket before e p inside stand here =
    subst (In e) (sym (ap (λ (xs : List FoundEntry). items_of xs) p.4 ∙ items_split g n p.0 p.1)) (by_le n bucket (λ _. In e (items_of p.0 ++ p.1))
    (λ low. (let is : bucket ≡ n = omega (arith, low, inside) in
    in_right e (items_of p.0) p.1 (row_in g image (bucket_end g n) (bucket_start g n) p.1 before e p.3
    (subst (λ m. StandFrom g image (bucket_end g m) (bucket_start g m) before) is stand)
    (subst (λ m. EntryFound g image (bucket_end g m) (behind_in g m before) e) is here))))
    (λ below. in_left e (items_of p.0) p.1 (in_all g image n p.0 bucket before e p.2 below stand here)))

abbrev FoundBelow : Geometry → Image → ℕ → JEntry → Type 0
FoundBelow g image n e = (bucket block : ℕ) × (bucket < n) × EntryFound g image (bucket_end g bucket) (bucket_start g bucket + g.block * block) e

-- each record of a row stands at a block
row_at : (g : Geometry) (image : Image) (bucket end m place : ℕ) (row : List JEntry) (e : JEntry) → end ≡ bucket_end g bucket → place ≡ bucket_start g bucket + g.block * m
    → AreFound (entry_kind g) image end place row → In e row → (block : ℕ) × EntryFound g image end (bucket_start g bucket + g.block * block) e
row_at g image bucket end m place [] e ends at found p = elim p [ ]
row_at g image bucket end m place (d ∷ ds) e ends at found (inl is) = (m, subst (λ q. EntryFound g image end q e) at (subst (λ (x : JEntry). EntryFound g image end place x) (sym is) found.0))
row_at g image bucket end m place (d ∷ ds) e ends at found (inr p) =
    let q = (bytes_of d + (512 * g.block - 1)) / (512 * g.block) in
    row_at g image bucket end (m + q) (place + entry_sectors g d) ds e ends (omega (arith, at, mul-add g.block m q)) found.1 p

found_below : (g : Geometry) (image : Image) (n : ℕ) (all : List FoundEntry) (e : JEntry) → StandIn g image n all → In e (items_of all) → FoundBelow g image n e
found_below g image zero all e p q = elim (subst (λ (xs : List FoundEntry). In e (items_of xs)) p q) [ ]
found_below g image (suc n) all e p q = elim (in_either e (items_of p.0) p.1 (subst (In e) (ap (λ (xs : List FoundEntry). items_of xs) p.4 ∙ items_split g n p.0 p.1) q)) [
  | inl below ↦ (let x = found_below g image n p.0 e p.2 below in (x.0, x.1, omega (arith, x.2), x.3))
  | inr here ↦ (let x = row_at g image n (bucket_end g n) 0 (bucket_start g n) p.1 e refl (omega arith) p.3 here in (n, x.0, omega arith, x.1))
]

pub found_at : (g : Geometry) (image : Image) (all : List FoundEntry) (e : JEntry) → StandIn g image g.journal all → In e (items_of all) → (bucket block : ℕ) × FoundAtBlock g image bucket block e
found_at g image all e p q = let x = found_below g image g.journal all e p q in (x.0, x.1, (x.2, x.3))

-- ---- rows

pub behind_on : (g : Geometry) (place : ℕ) (es : List JEntry) → place ≤ behind (entry_kind g) place es
behind_on g place [] = omega arith
behind_on g place (e ∷ es) = let rest = behind_on g (place + entry_sectors g e) es in omega (arith, rest)

pub behind_more : (g : Geometry) (place : ℕ) (es : List JEntry) (e : JEntry) → behind (entry_kind g) place (es ++ e ∷ []) ≡ behind (entry_kind g) place es + entry_sectors g e
behind_more g place [] e = refl
behind_more g place (d ∷ ds) e = behind_more g (place + entry_sectors g d) ds e

pub stand_more : (g : Geometry) (image : Image) (end place : ℕ) (es : List JEntry) (e : JEntry) → StandFrom g image end place es → EntryFound g image end (behind (entry_kind g) place es) e
    → StandFrom g image end place (es ++ e ∷ [])
stand_more g image end place [] e s f = (f, tt)
stand_more g image end place (d ∷ ds) e s f = (s.0, stand_more g image end (place + entry_sectors g d) ds e s.1 f)

pub stand_part : (g : Geometry) (image : Image) (end place : ℕ) (es : List JEntry) (e : JEntry) → StandFrom g image end place (es ++ e ∷ [])
    → StandFrom g image end place es × EntryFound g image end (behind (entry_kind g) place es) e
stand_part g image end place [] e s = (tt, s.0)
stand_part g image end place (d ∷ ds) e s = let rest = stand_part g image end (place + entry_sectors g d) ds e s.1 in ((s.0, rest.0), rest.1)

-- an entry leaves whole blocks behind it
one_fits : (g : Geometry) (image : Image) (end place m : ℕ) (e : JEntry) → end ≡ place + g.block * m → EntryFound g image end place e
    → (place + entry_sectors g e ≤ end) × ((k : ℕ) × (end ≡ place + entry_sectors g e + g.block * k))
one_fits g image end place m e ends found =
    let q = (bytes_of e + (512 * g.block - 1)) / (512 * g.block) in
    let fits : place + g.block * q ≤ end = found_fits (entry_kind g) (entry_codec g) image end place m e ends found in
    let some = block_some g in
    let more : g.block * (m + 1) ≡ g.block * m + g.block * 1 = mul-add g.block m 1 in
    let below : q < m + 1 = lt_of_mul-lt-mul_left g.block (omega (arith, fits, ends, more, some)) in
    let split : g.block * m ≡ g.block * q + g.block * (m - q) = ap (λ j. g.block * j) (let e : m ≡ q + (m - q) = omega (arith, below) in e) ∙ mul-add g.block q (m - q) in
    (fits, (m - q, omega (arith, ends, split)))

-- a row ends within its bucket
pub row_fits : (g : Geometry) (image : Image) (end place m : ℕ) (es : List JEntry) → end ≡ place + g.block * m → StandFrom g image end place es → behind (entry_kind g) place es ≤ end
row_fits g image end place m [] ends s = omega (arith, ends)
row_fits g image end place m (e ∷ es) ends s =
    let one = one_fits g image end place m e ends s.0 in
    row_fits g image end (place + entry_sectors g e) one.1.0 es one.1.1 s.1

-- a row stays where its sectors do
pub row_stays : (g : Geometry) (a b : Image) (end place m : ℕ) (es : List JEntry) → end ≡ place + g.block * m → StandFrom g a end place es → AgreeOn a b place (behind (entry_kind g) place es)
    → StandFrom g b end place es
row_stays g a b end place m [] ends s same = tt
row_stays g a b end place m (e ∷ es) ends s same =
    let next = place + entry_sectors g e in
    let one = one_fits g a end place m e ends s.0 in
    let on = behind_on g next es in (
      found_stays (entry_kind g) (entry_codec g) a b end place e s.0 (λ t after before. same t after (omega (arith, before, on))) one.0,
      row_stays g a b end next one.1.0 es one.1.1 s.1 (λ t after before. same t (omega (arith, after)) before),
    )

-- ---- buckets

-- a bucket ends where those behind it have not begun
pub buckets_apart : (g : Geometry) (i j : ℕ) → i < j → bucket_end g i ≤ bucket_start g j
buckets_apart g i j below =
    let up : g.bucket * (g.first_bucket + i + 1) ≤ g.bucket * (g.first_bucket + j) = mul-le-mul_left g.bucket (omega (arith, below)) in
    let last : g.bucket * (g.first_bucket + i + 1) ≡ g.bucket * (g.first_bucket + i) + g.bucket * 1 = mul-add g.bucket (g.first_bucket + i) 1 in
    omega (arith, up, last)

pub first_bucket_first : (g : Geometry) (i : ℕ) → bucket_start g 0 ≤ bucket_start g i
first_bucket_first g i = let up : g.bucket * (g.first_bucket + 0) ≤ g.bucket * (g.first_bucket + i) = mul-le-mul_left g.bucket (omega arith) in up

pub bucket_whole : (g : Geometry) (i : ℕ) → (m : ℕ) × (bucket_end g i ≡ bucket_start g i + g.block * m)
bucket_whole g i = let blocks = bucket_blocks g in (blocks.0, ap (λ m. bucket_start g i + m) blocks.1)
