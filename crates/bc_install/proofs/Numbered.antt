-- The core's buckets are those of the device, counted from the journal's first one on.
use Rattle.std.proofs.Common.{◌≡◌, inl, inr, ℕ, suc, ◌+◌, ◌-◌, ◌*◌, ◌/◌, ◌%◌, ◌^◌, ◌<◌, ◌≤◌, Bool, true, false, List, [], ◌∷◌, map, refl, sym, ap, ◌∙◌, arith}
use Rattle.std.proofs.lemmas.Bool.{cases_lt}
use Rattle.std.proofs.Math.Nat.{div-mul-le_self, lt-div-mul-add, mod-eq_of_lt, mul-le-mul_left, mul-suc, mul_comm}
use Rattle.bc_books.specs.Invariant.{IsInOrder}
use Rattle.bc_books.specs.Shelves.{Held, Loose, Shelf, Tree}
use Rattle.bc_change.specs.Goes.{new_nodes, old_nodes}
use Rattle.bc_change.specs.Ready.{HoldsNew}
use Rattle.bc_change.proofs.Nexts.{old_in}
use Rattle.bc_disk.specs.declared.geometry.Geometry.{Geometry}
use Rattle.bc_change.proofs.of_bc_entry.Course.{at_course}
use Rattle.bc_facts.specs.Layout.{IsLayoutOf}
use Rattle.bc_facts.proofs.Stood.{in_contains}
use Rattle.bc_inner.specs.Inner.{Inner}
use Rattle.bc_key.specs.declared.ptr.Ptr.{Ptr}
use Rattle.bc_known.proofs.Law.{order_at}
use Rattle.bc_meta.specs.Facts.{In}
use Rattle.bc_change.proofs.of_bc_nodes_known.Law.{law_nodes}
use Rattle.bc_change.specs.bc_machine.Containers.{IsSpineOf, inner_slot}
use Rattle.bc_change.specs.bc_machine.World.{IsCourseOf, IsOrigin, Origin, World, replay}
use Rattle.bc_shares.specs.Shares.{books_of}
use Rattle.bc_tree.specs.Spine.{Spine}
use Rattle.bc_tree.specs.declared.plan.Plan.{Plan}
use Rattle.bc_whole.specs.State as whole
use Rattle.bc_install.specs.Numbered.{LawChange, bucket_by, node_buckets}

pub same_map : {A : Type 0} (f g : A → ℕ) (xs : List A) → ((x : A) → In x xs → f x ≡ g x)
    → map f xs ≡ map g xs
same_map f g [] same = refl
same_map f g (x ∷ xs) same = ap (λ n. n ∷ map f xs) (same x (inl refl))
    ∙ ap (λ ns. g x ∷ ns) (same_map f g xs (λ y m. same y (inr m)))

never_held : (i : ℕ) (s : Shelf) → s ≡ Held i Tree → s ≡ Loose → ⊥
never_held i s held loose = let both : Held i Tree ≡ Loose = sym held ∙ loose in cc

off : (b : Bool) → (b ≡ true → ⊥) → b ≡ false
off true never = absurd (never refl)
off false never = refl

module _ (x : World) (o : Origin) (is : IsOrigin x o) (course : IsCourseOf o x.log) (g : Geometry)
    (divided : IsLayoutOf g o.opening.machine.layout) (some : 0 < g.bucket) where
  abbrev w : whole.Opening
  w = o.opening.machine

  -- a bucket of the core, by the sectors of the device
  pub by_sectors : (t q : ℕ) → q < w.layout.buckets → w.flow.books.bucket t ≡ q
      → q ≡ t / g.bucket - g.first_bucket
  by_sectors t q few at = elim (cases_lt (t / g.bucket) g.first_bucket) [
    | inl before ↦ (
        let ordered = is.order t (w.layout.first 0) (below before) in
        let zero_is = is.sound.laid.sector 0 (w.layout.first 0) (omega (arith, few))
        (omega arith) (omega (arith, width, some)) in
        omega (arith, ordered, zero_is, at, before))
    | inr from ↦ elim (cases_lt (t / g.bucket - g.first_bucket) w.layout.buckets) [
      | inl in_ ↦ sym at ∙ is.sound.laid.sector (t / g.bucket - g.first_bucket) t in_
          (low (t / g.bucket - g.first_bucket) (omega (arith, from)))
          (high (t / g.bucket - g.first_bucket) (omega (arith, from)))
      | inr out ↦ (
          let last = is.ends (omega (arith, width, some)) (w.layout.buckets - 1) t
          (behind (omega (arith, from, out)) (omega (arith, few))) in
          absurd (omega (arith, last, at, few)))
    ]
  ]
    where
      width : w.layout.bucket_sectors ≡ g.bucket
      width = divided.bucket_sectors

      start : (q : ℕ) → w.layout.first q ≡ g.bucket * (g.first_bucket + q)
      start = divided.first

      turn : t / g.bucket * g.bucket ≡ g.bucket * (t / g.bucket)
      turn = mul_comm (t / g.bucket) g.bucket

      here : t / g.bucket * g.bucket ≤ t
      here = div-mul-le_self t g.bucket

      there : t < t / g.bucket * g.bucket + g.bucket
      there = lt-div-mul-add some

      below : t / g.bucket < g.first_bucket → t ≤ w.layout.first 0
      below before =
          let more : g.bucket * suc (t / g.bucket) ≤ g.bucket * g.first_bucket =
          mul-le-mul_left g.bucket (omega (arith, before)) in
          let one : g.bucket * suc (t / g.bucket) ≡ g.bucket * (t / g.bucket) + g.bucket =
          mul-suc g.bucket (t / g.bucket) in
          let first : w.layout.first 0 ≡ g.bucket * g.first_bucket = start 0
          ∙ ap (λ n. g.bucket * n) (omega arith) in
          omega (arith, more, one, first, turn, there)

      low : (p : ℕ) → g.first_bucket + p ≡ t / g.bucket → w.layout.first p ≤ t
      low p same =
          let first : w.layout.first p ≡ g.bucket * (t / g.bucket) = start p
          ∙ ap (λ n. g.bucket * n) same in
          omega (arith, first, turn, here)

      high : (p : ℕ) → g.first_bucket + p ≡ t / g.bucket
          → t < w.layout.first p + w.layout.bucket_sectors
      high p same =
          let first : w.layout.first p ≡ g.bucket * (t / g.bucket) = start p
          ∙ ap (λ n. g.bucket * n) same in
          omega (arith, first, turn, there, width)

      behind : g.first_bucket + w.layout.buckets ≤ t / g.bucket → 0 < w.layout.buckets
          → w.layout.first (w.layout.buckets - 1) + w.layout.bucket_sectors ≤ t
      behind out few =
          let first = start (w.layout.buckets - 1) in
          let one : g.bucket * suc (g.first_bucket + (w.layout.buckets - 1))
          ≡ g.bucket * (g.first_bucket + (w.layout.buckets - 1)) + g.bucket =
          mul-suc g.bucket (g.first_bucket + (w.layout.buckets - 1)) in
          let more : g.bucket * suc (g.first_bucket + (w.layout.buckets - 1))
          ≤ g.bucket * (t / g.bucket) = mul-le-mul_left g.bucket (omega (arith, out, few)) in
          omega (arith, first, one, more, turn, here, width)

  in_order : IsInOrder w.flow.books (books_of (replay o x.log).machine)
  in_order = order_at w o.parts (replay o x.log).machine.whole is.sound
      (at_course o is.sound x.log course).at

  module _ (few : g.nbuckets < 2 ^ 32) where
    -- so it is of a bucket that isn't fixed
    numbered : (ptr : Ptr) → w.flow.books.fixed (w.flow.books.bucket ptr.offset) ≡ false
        → bucket_by g ptr ≡ w.flow.books.bucket ptr.offset
    numbered ptr free =
        let q = w.flow.books.bucket ptr.offset in
        let area = (is.sound.laid.area q free).1 in
        let same = by_sectors ptr.offset q area refl in
        let all = divided.buckets in
        let small : q < 2 ^ 32 = omega (arith, area, all, few) in
        ap (λ n. n % 2 ^ 32) (sym same) ∙ mod-eq_of_lt small

    pub of_node : (ptr : Ptr)
        → (books_of (replay o x.log).machine).node (w.flow.books.bucket ptr.offset) ≡ true
        → bucket_by g ptr ≡ w.flow.books.bucket ptr.offset
    of_node ptr node = numbered ptr (off (w.flow.books.fixed (w.flow.books.bucket ptr.offset))
        (λ fixed. let both : true ≡ false = sym node
        ∙ in_order.marked.one_use (w.flow.books.bucket ptr.offset) fixed in cc))

    pub of_held : (i : ℕ) (ptr : Ptr)
        → (books_of (replay o x.log).machine).shelf (w.flow.books.bucket ptr.offset) ≡ Held i Tree
        → bucket_by g ptr ≡ w.flow.books.bucket ptr.offset
    of_held i ptr held = numbered ptr (off (w.flow.books.fixed (w.flow.books.bucket ptr.offset))
        (λ fixed. never_held i ((books_of (replay o x.log).machine).shelf
        (w.flow.books.bucket ptr.offset)) held
        (in_order.marked.loose (w.flow.books.bucket ptr.offset) (inl fixed))))

    module _ (sp : Spine) (plan : Plan)
        (stands : IsSpineOf w (replay o x.log).machine.whole.parts sp) where
      pub tree_node : (n : Inner) → In n (sp.root ∷ sp.below) → bucket_by g n.ptr ≡ inner_slot w n
      tree_node n m =
          let h = stands.nodes n (in_contains (sp.root ∷ sp.below) n m) in
          of_node n.ptr (ap (books_of (replay o x.log).machine).node (sym h.bucket)
          ∙ (law_nodes x o is course).inner_nodes (inner_slot w n) h.role)

      pub old_slots : node_buckets g (old_nodes sp plan) ≡ map (inner_slot w) (old_nodes sp plan)
      old_slots = same_map (λ (n : Inner). bucket_by g n.ptr) (inner_slot w) (old_nodes sp plan)
          (λ n m. tree_node n
          (old_in sp.root sp.below plan.place plan.bottom plan.top plan.beside n m))

      pub new_slots : (i : ℕ) → HoldsNew w (books_of (replay o x.log).machine) i plan
          → node_buckets g (new_nodes plan) ≡ map (inner_slot w) (new_nodes plan)
      new_slots i holds = same_map (λ (n : Inner). bucket_by g n.ptr) (inner_slot w)
          (new_nodes plan)
          (λ n m. of_held i n.ptr (holds.inner_nodes n (in_contains (new_nodes plan) n m)))

pub law_change : LawChange
law_change x o is course g sp plan c i divided some few stands holds in_ = record {
  row = in_.row;
  gone = in_.gone;
  come = in_.come;
  old = in_.old ∙ old_slots x o is course g divided some few sp plan stands;
  new = in_.new ∙ new_slots x o is course g divided some few sp plan stands i holds;
  few = in_.few;
}
