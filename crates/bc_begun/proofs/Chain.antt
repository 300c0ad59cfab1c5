-- What the part of the buckets has beside records and lists, as a run begins: the chain, the trace
-- round, and the buckets before the core's.
use Rattle.std.proofs.Common.{◌≡◌, ◌≢◌, ◌⊎◌, inl, inr, ℕ, zero, suc, ◌+◌, ◌<◌, ◌≤◌, Bool, true, false, List, [], ◌∷◌, length, Option, Some, None, refl, sym, ap, ◌∙◌, subst, arith}
use Rattle.std.specs.Prelude.{AllPairs, if◌then◌else◌, replicate, slice_index_or}
use Rattle.std.proofs.lemmas.Bool.{cases_eq, cases_lt}
use Rattle.std.proofs.lemmas.List.{get_or-replicate, length-replicate}
use Rattle.bc_alloc.proofs.Times.{times-cons, times_other, times_same}
use Rattle.bc_alloc.specs.Reserve.{IsDistinct, Reserve, has_room, no_reserve, appended, times}
use Rattle.bc_alloc.specs.Reserves.{Reserves, empty, list_of, stored, stored_all}
use Rattle.bc_alloc.specs.declared.purpose.Purpose.TheVariants as purposes
use Rattle.bc_books.specs.Books.{Setup, opened}
use Rattle.bc_books.specs.Index.{Pointer}
use Rattle.bc_books.specs.Marks.{any, mark_by}
use Rattle.bc_books.specs.Round.{ended, started}
use Rattle.bc_bucket.specs.Buckets.{bucket_of}
use Rattle.bc_bucket.specs.Walk.{found_at, none_found}
use Rattle.bc_bucket.specs.declared.bucket.Mark.{Mark}
use Rattle.bc_bucket.specs.declared.bucket.Mark.TheVariants as marks
use Rattle.bc_bucket.specs.declared.walk.Found.{Found}
use Rattle.bc_chosen.specs.Parts.{Parts}
use Rattle.bc_disk.specs.declared.geometry.Geometry.{Geometry}
use Rattle.bc_facts.proofs.Place.{by_lt}
use Rattle.bc_facts.proofs.Stood.{all_in, contains_in, in_contains}
use Rattle.bc_facts.specs.Reads.{back}
use Rattle.bc_image.specs.Pair.{Pair}
use Rattle.bc_image.specs.Reading.{Reading, View}
use Rattle.bc_image.specs.Uses.{Super, Priority, Data, IsUsedFor}
use Rattle.bc_leaves.proofs.Chains.{has_in, in_has}
use Rattle.bc_leaves.specs.After.{has}
use Rattle.bc_leaves.specs.Parts as parts
use Rattle.bc_machine.specs.Containers.{IsChainOf, IsFoundFor, IsRoundOf}
use Rattle.bc_machine.specs.declared.part.Tracing.{Tracing}
use Rattle.bc_meta.specs.Facts.{In}
use Rattle.bc_meta.specs.Layout.{Layout}
use Rattle.bc_model.proofs.Cases.{by_test}
use Rattle.bc_places.specs.Stands.{AreJust}
use Rattle.bc_recover.specs.Known.{IsMarkOf}
use Rattle.bc_whole.specs.State.{Opening}
use Rattle.bc_begun.specs.Begin.{IsUntraced}
use Rattle.bc_begun.specs.Opened.{IsOpenedWith}

pub times_has : (k : ℕ) (ks : List ℕ) → 0 < times k ks → has ks k ≡ true
times_has k [] some = absurd (let none : times k [] ≡ 0 = refl in omega (arith, none, some))
times_has k (i ∷ ks) some = by_test k i (λ t. (if t then true else has ks k) ≡ true) (λ _. refl)
    (λ ne. times_has k ks (let all = times-cons k i ks in let one = times_other k i (λ e. ne (sym e)) in
    omega (arith, all, one, some)))

pub has_times : (k : ℕ) (ks : List ℕ) → has ks k ≡ true → 0 < times k ks
has_times k [] is = absurd (cc)
has_times k (i ∷ ks) is = by_test k i (λ t. (if t then true else has ks k) ≡ true → 0 < times k (i ∷ ks))
    (λ e _. (let all = times-cons k i ks in
    let one = subst (λ n. times k (n ∷ []) ≡ 1) e (times_same k) in omega (arith, all, one)))
    (λ ne on. (let all = times-cons k i ks in let rest = has_times k ks on in omega (arith, all, rest))) is

-- ---- lists

none_behind : (x : ℕ) (xs : List ℕ) → (In x xs → ⊥) → times x xs ≡ 0
none_behind x xs not = go (cases_lt 0 (times x xs))
  where
    go : (0 < times x xs) ⊎ (times x xs ≤ 0) → times x xs ≡ 0
    go (inl some) = absurd (not (in_has xs x (times_has x xs some)))
    go (inr few) = omega (arith, few)

once_more : (x k : ℕ) (xs : List ℕ) → times x xs ≡ 0 → times k xs ≤ 1 → times k (x ∷ xs) ≤ 1
once_more x k xs none rest = go (cases_eq k x)
  where
    go : (k ≡ x) ⊎ (k ≢ x) → times k (x ∷ xs) ≤ 1
    go (inl e) = subst (λ n. times n (x ∷ xs) ≤ 1) (sym e)
        (let all = times-cons x x xs in let one = times_same x in omega (arith, all, one, none))
    go (inr ne) = let all = times-cons k x xs in
        let other = times_other k x (λ e. ne (sym e)) in omega (arith, all, other, rest)

once_in : (xs : List ℕ) → AllPairs (λ a b. a ≢ b) xs → IsDistinct xs
once_in [] apart k = let none : times k [] ≡ 0 = refl in omega (arith, none)
once_in (x ∷ xs) apart k = once_more x k xs
    (none_behind x xs (λ i. all_in (λ y. x ≢ y) xs x
    (λ j d less. apart 0 (suc j) d (omega arith) (omega (arith, less))) i refl))
    (once_in xs (λ i j d less inside. apart (suc i) (suc j) d (omega (arith, less))
    (omega (arith, inside))) k)

-- what goes to a list leaves its room
one_room : (k : ℕ) (ls : List Reserve)
    → (slice_index_or (stored k ls) 0 no_reserve).room ≡ (slice_index_or ls 0 no_reserve).room
one_room k [] = refl
one_room k (l ∷ ls) = go (has_room l)
  where
    go : (b : Bool) → (slice_index_or (if b then appended k l ∷ ls else l ∷ stored k ls) 0
        no_reserve).room ≡ l.room
    go true = refl
    go false = refl

all_room : (ks : List ℕ) (ls : List Reserve)
    → (slice_index_or (stored_all ks ls) 0 no_reserve).room ≡ (slice_index_or ls 0 no_reserve).room
all_room [] ls = refl
all_room (k ∷ ks) ls = all_room ks (stored k ls) ∙ one_room k ls

-- ---- a round that saw nothing

none_of : (n : ℕ) → any n (λ s. false) ≡ false
none_of zero = refl
none_of (suc n) = none_of n

none_some : (r : Pointer) → None ≡ Some r → ⊥
none_some r e = cc

nothing_found : (w : Setup) (q : ℕ) → IsFoundFor w (λ s. None) (λ s. false) q none_found
nothing_found w q = record {
  mark = sym (ap (λ b. mark_by b (any w.size (λ s. false))) (none_of w.size)
      ∙ ap (λ b. mark_by false b) (none_of w.size));
  oldest = λ s r seen. none_some r seen.saw;
}

pub untraced : (w : Setup) (before count : ℕ) (touched : List Bool) (t : Tracing)
    → touched ≡ replicate count false → IsUntraced count t
    → IsRoundOf w before count (ended started) touched t
untraced w before count touched t same h = record {
  going = sym h.going;
  each = ap (λ (xs : List Bool). length xs) same ∙ length-replicate count false;
  touches = λ q inside. ap (λ (xs : List Bool). slice_index_or xs (before + q) false) same
      ∙ get_or-replicate count (before + q) false false inside;
  walked = λ s less. absurd (let first = h.next in omega (arith, first, less));
  unseen = λ s from. refl;
  long = ap (λ (xs : List Found). length xs) h.walk ∙ length-replicate count none_found;
  found = λ q inside. subst (IsFoundFor w (λ s. None) (λ s. false) q)
      (sym (ap (λ (xs : List Found). found_at xs (before + q)) h.walk
      ∙ get_or-replicate count (before + q) none_found none_found inside)) (nothing_found w q);
}

-- ---- what was read

data_super : Data ≡ Super → ⊥
data_super e = cc

super_priority : Super ≡ Priority → ⊥
super_priority e = cc

-- the number of the chain that a bucket is of as a run begins
abbrev first_chain : Bool → Option ℕ
first_chain b = if b then Some 0 else None

of_first : (b : Bool) → first_chain b ≡ Some 0 → b ≡ true
of_first true e = refl
of_first false e = absurd (cc)

module _ (p : Pair) (v : View) (layout : Layout) (x : Parts) (w : Opening) (st : parts.State)
    (h : IsOpenedWith p v layout x w st) where
  abbrev g : Geometry
  g = v.geometry

  abbrev r : Reading
  r = v.reading

  abbrev chain : List ℕ
  chain = r.gens.chain

  used : (k : ℕ) → 0 < times k chain → IsUsedFor g r Priority k
  used k some = in_contains chain k (in_has chain k (times_has k chain some))

  just : AreJust g.first_bucket chain
      (λ q. first_chain (w.flow.books.chain q) ≡ Some 0)
  just = record {
    behind = λ k some. by_lt k g.first_bucket (λ _. g.first_bucket ≤ k)
        (λ less. absurd (super_priority (h.sound.uses.one k Super Priority less (used k some))))
        (λ from. from);
    each = λ q some. ap first_chain
        ((h.opening.books.chain q).1 (used (back g q) some));
    all = λ q is. has_times (back g q) chain (has_in chain (back g q) (contains_in chain (back g q)
        ((h.opening.books.chain q).0 (of_first (w.flow.books.chain q) is))));
  }

  pub chain_read : IsChainOf w.before w.flow.books.sets (opened w.flow.books).chains.of 0 0 chain
      false
  chain_read = record {
    buckets = subst (λ n. AreJust n chain
        (λ q. first_chain (w.flow.books.chain q) ≡ Some 0)) (sym h.opening.before) just;
    once = once_in chain h.view.reading.gens.distinct;
    many = h.view.reading.gens.count ∙ sym h.opening.books.sets;
    rest = λ e. refl;
  }

  super_marked : (k : ℕ) (m : Mark) → IsMarkOf g r k m → IsUsedFor g r Super k → m ≡ marks.Metadata
  super_marked k marks.Metadata is super = refl
  super_marked k marks.Dirty is super =
      absurd (data_super (h.sound.uses.one k Data Super (is.0, is.1, is.2) super))
  super_marked k marks.Reclaimable is super =
      absurd (data_super (h.sound.uses.one k Data Super is.0 super))
  super_marked k marks.None is super = absurd (is Super super)

  pub before_read : (n : ℕ) → n < w.before → (bucket_of x.buckets n).mark ≡ marks.Metadata
  before_read n less =
      let first = h.opening.before in
      let within = g.journal_within in
      let low : n < g.first_bucket = omega (arith, less, first) in
      super_marked n (bucket_of x.buckets n).mark
      (h.read.buckets.known n (omega (arith, low, within))).mark low

  pub room_read : (list_of purposes.Priorities x.reserves).room ≡ w.flow.books.sets
  room_read = ap (λ (rs : Reserves). (list_of purposes.Priorities rs).room) h.read.reserves.filled
      ∙ all_room h.read.reserves.spare (empty g).lists ∙ sym h.opening.books.sets
