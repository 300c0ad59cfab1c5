-- Where a set goes behind an inner node's others, nobody has data, and no chain is.
use Rattle.std.proofs.Common.{◌≡◌, ◌≢◌, inl, inr, ℕ, ◌+◌, ◌<◌, ◌≤◌, Bool, true, false, List, refl, sym, ap, ◌∙◌, arith}
use Rattle.std.specs.Prelude.{length}
use Rattle.bc_append.proofs.Course.{at_course, inv_course}
use Rattle.bc_books.specs.Invariant.{IsInOrder}
use Rattle.bc_change.specs.bc_machine.Containers.{IsInTree, IsTreeInner}
use Rattle.bc_change.specs.bc_machine.World.{IsCourseOf, IsOrigin, Origin, World, replay}
use Rattle.bc_change.proofs.of_bc_nodes_known.Law.{law_nodes}
use Rattle.bc_data.specs.Data as flow
use Rattle.bc_data.specs.Enabled.{CanWrite, IsSpare}
use Rattle.bc_disk.specs.declared.geometry.Geometry.{Geometry}
use Rattle.bc_facts.specs.Layout.{IsLayoutOf, begins_at}
use Rattle.bc_inner.specs.Inner.{Inner}
use Rattle.bc_key.proofs.KeyLaws.{ReadsAsPtr-ptr_word}
use Rattle.bc_key.specs.Words.{ptr_word}
use Rattle.bc_key.specs.declared.ptr.Ptr.{Ptr}
use Rattle.bc_known.proofs.Law.{order_at}
use Rattle.bc_known.specs.Acts as known
use Rattle.bc_leaves.specs.Parts.{Coming, Draft, Free, Leaving, NoNode, Role}
use Rattle.bc_meta.proofs.Place.{within_of}
use Rattle.bc_meta.specs.Layout.{set_len}
use Rattle.bc_meta.specs.Places.{Places}
use Rattle.bc_meta.specs.Records.{Records}
use Rattle.bc_meta.specs.Tree.{NodeSet, Owner}
use Rattle.bc_model.proofs.Runs.{at_range}
use Rattle.bc_model.specs.Sector.{Value}
use Rattle.bc_append.specs.bc_nodes_known.Nodes.{MayAppendParent}
use Rattle.bc_shares.specs.Shares.{books_of, inner_share}
use Rattle.bc_whole.specs.State as whole

some_role : (r : Role) → IsInTree r → r ≢ NoNode
some_role NoNode tree none = tree
some_role Draft tree none = tree
some_role Free tree none = cc
some_role Leaving tree none = cc
some_role Coming tree none = tree

abbrev owner_by : ℕ → Owner
owner_by word = record { word = word; leaf = false }

ptr_begins : (ptr : Ptr) → begins_at (ptr_word ptr) ≡ ptr.offset
ptr_begins ptr = (ReadsAsPtr-ptr_word ptr).offset

module _ (x : World) (o : Origin) (is : IsOrigin x o) (course : IsCourseOf o x.log) (g : Geometry)
    (divided : IsLayoutOf g o.opening.machine.layout) (i k : ℕ) (n : Inner)
    (h : IsTreeInner o.opening.machine (replay o x.log).machine.whole.parts.change k n
    (inner_share (replay o x.log).machine.whole.parts k))
    (set : NodeSet) (values : List Value)
    (may : MayAppendParent o.opening.machine (replay o x.log).machine k n set values) where
  abbrev w : whole.Opening
  w = o.opening.machine

  abbrev st : known.State
  st = (replay o x.log).machine

  abbrev q : ℕ
  q = (st.whole.parts.inner_nodes k).bucket

  abbrev at : Places
  at = st.whole.store.places

  in_order : IsInOrder w.flow.books (books_of st)
  in_order = order_at w o.parts st.whole is.sound (at_course o is.sound x.log course).at

  node : (books_of st).node q ≡ true
  node = (law_nodes x o is course).inner_nodes k h.role

  not_fixed : (b : Bool) → (b ≡ true → (books_of st).node q ≡ false) → b ≡ false
  not_fixed false one = refl
  not_fixed true one = absurd (let both : true ≡ false = sym node ∙ one refl in cc)

  area : (w.layout.journal ≤ q) × (q < w.layout.buckets)
  area = is.sound.laid.area q
      (not_fixed (w.flow.books.fixed q) (λ fixed. in_order.marked.one_use q fixed))

  owner : (at.records.nodes q).owner ≡ owner_by (ptr_word n.ptr)
  owner = let inv = inv_course o is.sound x.log course in
      ap (λ (r : Records). (r.nodes q).owner) (sym inv.same)
      ∙ inv.fits.buckets.inner_named k (some_role (st.whole.parts.inner_nodes k).role h.role)
      ∙ ap owner_by h.word

  begins : w.layout.begins (at.records.nodes q).owner ≡ n.ptr.offset
  begins = ap w.layout.begins owner ∙ divided.begins (owner_by (ptr_word n.ptr))
      ∙ ptr_begins n.ptr

  long : length values ≡ set_len w.layout set
  long = w.layout.sets.long (at.records.nodes q).owner values set may.can_append.3

  inside : (t : ℕ) → at.node_next q ≤ t → t < at.node_next q + length values
      → w.flow.books.bucket t ≡ q
  inside t low high =
      let inv = inv_course o is.sound x.log course in
      let mine = (inv.store.place.nodes q).mine may.can_append.0 in
      let bounds = within_of w.layout q (at.records.nodes q).owner mine.within in
      let first = bounds.0 in
      let last = bounds.1 in
      let room = may.can_append.2 in
      let place = may.place in
      let start = begins in
      let len = long in
      is.sound.laid.sector q t area.1 (omega (arith, first, start, place, low))
      (omega (arith, last, room, len, high))

  spare : (t : ℕ) → at.node_next q ≤ t → t < at.node_next q + length values
      → IsSpare w.flow.books (books_of st) i t
  spare t low high = let its = inside t low high in record {
    fresh = in_order.marked.fresh q (inr node) t its;
    unnamed = ap (books_of st).chains.of its ∙ in_order.marked.no_chain q (inr node);
    apart = inl (inr (ap (books_of st).node its ∙ node));
  }

  pub can_write : CanWrite w.flow st.whole.flow i flow.Metadata (at.node_next q) values
  can_write = record {
    places = λ t v here. let run = at_range (at.node_next q) values t v here in
        spare t run.0 run.1;
    sendable = tt;
  }
