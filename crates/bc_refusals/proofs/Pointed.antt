-- Where the index of a sound run points to dirty data, that is live.
use Rattle.std.proofs.Common.{◌≡◌, inl, ℕ, ◌+◌, ◌/◌, ◌%◌, ◌<◌, ◌≤◌, Bool, true, false, Option, Some, None, refl, sym, ap, ◌∙◌, subst, arith}
use Rattle.std.specs.Prelude.{length}
use Rattle.bc_books.specs.Books.{Books, Setup}
use Rattle.bc_books.specs.Index.{Clean, Dirty, Kind, Pointer, is_dirty, latest}
use Rattle.bc_books.specs.Invariant.{IsInOrder}
use Rattle.bc_books.specs.Shelves.{Fresh, Spent}
use Rattle.bc_bucket.specs.Buckets.{bucket_of}
use Rattle.bc_disk.specs.declared.geometry.Geometry.{Geometry}
use Rattle.bc_events.specs.Run.{State}
use Rattle.bc_facts.specs.Seen.{counted}
use Rattle.bc_known.proofs.Law.{order_at}
use Rattle.bc_request.specs.bc_machine.Containers.{AreBucketsOf}
use Rattle.bc_request.specs.bc_machine.World.{IsCourseOf, IsOrigin, Origin, World, replay}
use Rattle.bc_request.specs.bc_machine.declared.part.BucketsPart.{BucketsPart}
use Rattle.bc_meta.specs.Keys.{Ref}
use Rattle.bc_record.specs.Places.{bucket_at}
use Rattle.bc_request.specs.bc_reads.Reads.{IsLiveAt}
use Rattle.bc_shares.specs.Shares.{books_of}
use Rattle.bc_whole.specs.Together.{ref_of}
use Rattle.bc_refusals.specs.Over.{IsOfDevice}
use Rattle.bc_refusals.proofs.Nodes.{at_course, inv_course}

-- ---- a pointer, and what the device has of it

pub pointer_of : (o : Option Pointer) (ref : Ref) → ref_of o ≡ Some ref
    → (r : Pointer) × (o ≡ Some r) × (ref_of (Some r) ≡ Some ref)
pointer_of None ref is = absurd (cc)
pointer_of (Some r) ref is = (r, refl, is)

abbrev ref_in : Ref → Option Ref → Ref
ref_in other None = other
ref_in other (Some ref) = ref

same_ref : (r : Pointer) (ref : Ref) → ref_of (Some r) ≡ Some ref
    → (is_dirty r.kind ≡ ref.dirty) × (r.place ≡ ref.place) × (r.version % 256 ≡ ref.generation)
same_ref r ref is = (
  ap (λ (o : Option Ref). (ref_in ref o).dirty) is,
  ap (λ (o : Option Ref). (ref_in ref o).place) is,
  ap (λ (o : Option Ref). (ref_in ref o).generation) is,
)

dirty_kind : (k : Kind) → is_dirty k ≡ true → k ≡ Dirty
dirty_kind Clean is = absurd (cc)
dirty_kind Dirty is = refl

-- what is written to is no bucket of superblock, journal or uuid table
not_fixed : (w : Setup) (k : Books) → IsInOrder w k → (t : ℕ) → k.owner t ≡ Spent
    → w.fixed (w.bucket t) ≡ false
not_fixed w k order t spent = go (w.fixed (w.bucket t)) refl
  where
    go : (b : Bool) → w.fixed (w.bucket t) ≡ b → b ≡ false
    go false is = refl
    go true is = absurd (let fresh = order.marked.fresh (w.bucket t) (inl is) t refl in
        let same : Fresh ≡ Spent = sym fresh ∙ spent in cc)

-- A dirty pointer has the version of its bucket, which is one for data.
pub record IsPresent (o : Origin) (st : State) (r : Pointer) : Type 0 where
  pub version : (books_of st.machine).generations.version
      (o.opening.machine.flow.books.bucket r.place) ≡ r.version
  pub low : o.opening.machine.layout.journal ≤ o.opening.machine.flow.books.bucket r.place
  pub high : o.opening.machine.flow.books.bucket r.place < o.opening.machine.layout.buckets

pub present : (x : World) (o : Origin) → IsOrigin x o → IsCourseOf o x.log → (s : ℕ) (r : Pointer)
    → latest (books_of (replay o x.log).machine).index s ≡ Some r → r.kind ≡ Dirty
    → IsPresent o (replay o x.log) r
present x o is course s r at dirty =
    let st = (replay o x.log).machine.whole in
    let w = o.opening.machine in
    let order = order_at w o.parts st is.sound (at_course o is.sound x.log course).at in
    let durable = order.counted.durable in
    let sealed = order.counted.sealed in
    let key = order.known.keys st.flow.books.index.count s (omega arith) r at in
    let version = key.live dirty in
    let area = is.sound.laid.area (w.flow.books.bucket r.place)
    (not_fixed w.flow.books st.flow.books order r.place (key.spent version)) in record {
      version = version;
      low = area.0;
      high = area.1;
    }

-- there are buckets of the journal
some_journal : (x : World) (o : Origin) → IsOrigin x o → IsCourseOf o x.log
    → 0 < o.opening.machine.layout.journal
some_journal x o is course =
    let current = (inv_course o is.sound x.log course).store.place.current in omega (arith, current)

-- ---- as the records of buckets tell

counted_back : (g : Geometry) (place q : ℕ) → counted g (bucket_at g place) ≡ q → 0 < q
    → place / g.bucket ≡ g.first_bucket + q
counted_back g place q is some = omega (arith, is, some)

pub live_there : (x : World) (o : Origin) (g : Geometry) (sectors : ℕ) → IsOrigin x o
    → IsCourseOf o x.log → IsOfDevice o g sectors → (p : BucketsPart)
    → AreBucketsOf o.opening.machine (books_of (replay o x.log).machine) p
    → (s : ℕ) (ref : Ref) → ref_of (latest (books_of (replay o x.log).machine).index s) ≡ Some ref
    → ref.dirty ≡ true → IsLiveAt p.buckets ref.place ref.generation
live_there x o g sectors is course device p are s ref said dirty =
    let books = books_of (replay o x.log).machine in
    let w = o.opening.machine in
    let r = pointer_of (latest books.index s) ref said in
    let same = same_ref r.0 ref r.2 in
    let here = present x o is course s r.0 r.1 (dirty_kind r.0.kind (same.0 ∙ dirty)) in
    let q = w.flow.books.bucket r.0.place in
    let some = some_journal x o is course in
    let low = here.low in
    let high = here.high in
    let counts = are.cut.buckets in
    let size : p.buckets.size ≡ g.bucket = sym are.cut.sectors ∙ device.layout.bucket_sectors in
    let is_at : ref.place / p.buckets.size ≡ w.before + q =
    ap (λ (n : ℕ). ref.place / n) size ∙ ap (λ (n : ℕ). n / g.bucket) (sym same.1)
    ∙ counted_back g r.0.place q (sym (device.bucket r.0.place)) (omega arith)
    ∙ ap (λ (n : ℕ). n + q) (sym device.before) in
    let known : w.before + q < length p.buckets.records = omega arith in record {
      for_data = (let from = are.data_from in omega arith);
      known = subst (λ (n : ℕ). n < length p.buckets.records) (sym is_at) known;
      live = sym same.2 ∙ ap (λ (n : ℕ). n % 256) (sym here.version)
          ∙ sym (are.records q known).generation
          ∙ ap (λ (n : ℕ). (bucket_of p.buckets n).generation) (sym is_at);
    }
