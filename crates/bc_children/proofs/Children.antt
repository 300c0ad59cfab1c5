-- The core's buckets are those of the device, counted from the journal's first one on.
use Rattle.std.proofs.Common.{◌≡◌, inl, inr, ℕ, suc, ◌+◌, ◌-◌, ◌*◌, ◌/◌, ◌<◌, ◌≤◌, Bool, true, false, List, ◌∷◌, refl, sym, ap, ◌∙◌, subst, arith}
use Rattle.std.specs.Prelude.{Contains}
use Rattle.std.proofs.lemmas.Bool.{cases_lt}
use Rattle.std.proofs.Math.Nat.{div-mul-le_self, lt-div-mul-add, mul-le-mul_left, mul-suc, mul_comm}
use Rattle.bc_books.specs.Invariant.{IsInOrder}
use Rattle.bc_children.specs.Children.{LawInside, LawTree, by_core, by_device}
use Rattle.bc_disk.specs.declared.geometry.Geometry.{Geometry}
use Rattle.bc_events.specs.Run as core
use Rattle.bc_events.specs.declared.event.Event.{Event}
use Rattle.bc_facts.specs.Layout.{IsLayoutOf}
use Rattle.bc_inner.specs.Inner.{Inner}
use Rattle.bc_key.specs.declared.ptr.Ptr.{Ptr}
use Rattle.bc_known.proofs.Law.{At, order_at}
use Rattle.bc_known.specs.Laws.{IsSound}
use Rattle.bc_nodes_known.proofs.Law.{law_nodes}
use Rattle.bc_nodes_known.specs.bc_machine.Containers.{IsSpineOf, inner_slot}
use Rattle.bc_nodes_known.specs.bc_machine.Standing.{oldest_first, replay_is, replay_runs}
use Rattle.bc_nodes_known.specs.bc_machine.World.{IsCourseOf, IsOrigin, Origin, World, replay}
use Rattle.bc_planned.specs.Laws.{Agree, StandEach}
use Rattle.bc_shares.proofs.Law.{at_state}
use Rattle.bc_shares.specs.Shares.{books_of}
use Rattle.bc_tree.specs.Spine.{Spine}
use Rattle.bc_whole.specs.State as whole

at_course : (o : Origin) → IsSound o.opening.machine o.parts → (es : List Event) → IsCourseOf o es
    → At o.opening.machine o.parts (replay o es).machine
at_course o sound es on = subst (λ (st : core.State). At o.opening.machine o.parts st.machine)
    (sym (replay_is o es))
    (at_state o.opening o.parts o.next_seq (oldest_first es) sound (replay_runs o es on))

off : (b : Bool) → (b ≡ true → ⊥) → b ≡ false
off true never = absurd (never refl)
off false never = refl

in_behind : (a : Inner) (ns : List Inner) (n : Inner) → Contains ns n → Contains (a ∷ ns) n
in_behind a ns n (i, less, is) = (suc i, omega (arith, less), is)

module _ (x : World) (o : Origin) (is : IsOrigin x o) (course : IsCourseOf o x.log) (g : Geometry)
    (divided : IsLayoutOf g o.opening.machine.layout) (some : 0 < g.bucket) where
  abbrev w : whole.Opening
  w = o.opening.machine

  -- a bucket of the core, by the sectors of the device
  by_sectors : (t q : ℕ) → q < w.layout.buckets → w.flow.books.bucket t ≡ q
      → q ≡ t / g.bucket - g.first_bucket
  by_sectors t q few at = elim (cases_lt (t / g.bucket) g.first_bucket) [
    | inl before ↦ (
        let ordered = is.order t (w.layout.first 0) (below before) in
        let zero_is = is.sound.laid.sector 0 (w.layout.first 0) (omega (arith, few))
        (omega arith) (omega (arith, width, some)) in
        omega (arith, ordered, zero_is, at, before))
    | inr from ↦ elim (cases_lt (t / g.bucket - g.first_bucket) w.layout.buckets) [
      | inl in_ ↦ sym at ∙ is.sound.laid.sector (t / g.bucket - g.first_bucket) t in_
          (low (t / g.bucket - g.first_bucket) (omega (arith, from)))
          (high (t / g.bucket - g.first_bucket) (omega (arith, from)))
      | inr out ↦ (
          let last = is.ends (omega (arith, width, some)) (w.layout.buckets - 1) t
          (behind (omega (arith, from, out)) (omega (arith, few))) in
          absurd (omega (arith, last, at, few)))
    ]
  ]
    where
      width : w.layout.bucket_sectors ≡ g.bucket
      width = divided.bucket_sectors

      start : (q : ℕ) → w.layout.first q ≡ g.bucket * (g.first_bucket + q)
      start = divided.first

      turn : t / g.bucket * g.bucket ≡ g.bucket * (t / g.bucket)
      turn = mul_comm (t / g.bucket) g.bucket

      here : t / g.bucket * g.bucket ≤ t
      here = div-mul-le_self t g.bucket

      there : t < t / g.bucket * g.bucket + g.bucket
      there = lt-div-mul-add some

      below : t / g.bucket < g.first_bucket → t ≤ w.layout.first 0
      below before =
          let more : g.bucket * suc (t / g.bucket) ≤ g.bucket * g.first_bucket =
          mul-le-mul_left g.bucket (omega (arith, before)) in
          let one : g.bucket * suc (t / g.bucket) ≡ g.bucket * (t / g.bucket) + g.bucket =
          mul-suc g.bucket (t / g.bucket) in
          let first : w.layout.first 0 ≡ g.bucket * g.first_bucket = start 0
          ∙ ap (λ n. g.bucket * n) (omega arith) in
          omega (arith, more, one, first, turn, there)

      low : (p : ℕ) → g.first_bucket + p ≡ t / g.bucket → w.layout.first p ≤ t
      low p same =
          let first : w.layout.first p ≡ g.bucket * (t / g.bucket) = start p
          ∙ ap (λ n. g.bucket * n) same in
          omega (arith, first, turn, here)

      high : (p : ℕ) → g.first_bucket + p ≡ t / g.bucket
          → t < w.layout.first p + w.layout.bucket_sectors
      high p same =
          let first : w.layout.first p ≡ g.bucket * (t / g.bucket) = start p
          ∙ ap (λ n. g.bucket * n) same in
          omega (arith, first, turn, there, width)

      behind : g.first_bucket + w.layout.buckets ≤ t / g.bucket → 0 < w.layout.buckets
          → w.layout.first (w.layout.buckets - 1) + w.layout.bucket_sectors ≤ t
      behind out few =
          let first = start (w.layout.buckets - 1) in
          let one : g.bucket * suc (g.first_bucket + (w.layout.buckets - 1))
          ≡ g.bucket * (g.first_bucket + (w.layout.buckets - 1)) + g.bucket =
          mul-suc g.bucket (g.first_bucket + (w.layout.buckets - 1)) in
          let more : g.bucket * suc (g.first_bucket + (w.layout.buckets - 1))
          ≤ g.bucket * (t / g.bucket) = mul-le-mul_left g.bucket (omega (arith, out, few)) in
          omega (arith, first, one, more, turn, here, width)

  in_order : IsInOrder w.flow.books (books_of (replay o x.log).machine)
  in_order = order_at w o.parts (replay o x.log).machine.whole is.sound
      (at_course o is.sound x.log course).at

  -- the bucket of a node isn't fixed, so it is one of the device's
  of_node : (ptr : Ptr) → (books_of (replay o x.log).machine).node (by_core o ptr) ≡ true
      → Agree (by_core o) (by_device g) ptr
  of_node ptr node =
      let q = by_core o ptr in
      let free = off (w.flow.books.fixed q) (λ fixed. let both : true ≡ false = sym node
      ∙ in_order.marked.one_use q fixed in cc) in
      by_sectors ptr.offset q (is.sound.laid.area q free).1 refl

  of_tree : (s : Spine) → IsSpineOf w (replay o x.log).machine.whole.parts s
      → StandEach (Agree (by_core o) (by_device g)) s
  of_tree s stands = record {
    leaves = λ l m. let at = stands.leaves l m in of_node l.ptr
        (ap (books_of (replay o x.log).machine).node (sym at.bucket)
        ∙ (law_nodes x o is course).leaves l.number at.role);
    below = λ n m. let at = stands.nodes n (in_behind s.root s.below n m) in of_node n.ptr
        (ap (books_of (replay o x.log).machine).node (sym at.bucket)
        ∙ (law_nodes x o is course).inner_nodes (inner_slot w n) at.role);
  }

pub law_tree : LawTree
law_tree x o is course g spine divided some stands =
    of_tree x o is course g divided some spine stands

pub law_inside : LawInside
law_inside x o is course g ptr divided some inside =
    by_sectors x o is course g divided some ptr.offset (by_core o ptr) inside refl
