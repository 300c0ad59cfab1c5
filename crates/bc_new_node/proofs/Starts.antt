-- When the first set of a new node may be written, in a bucket that the seat holds.
use Rattle.std.proofs.Common.{◌≡◌, inr, ℕ, ◌+◌, ◌*◌, ◌<◌, ◌≤◌, Bool, true, false, List, [], ◌∷◌, length, take, Option, Some, None, refl, sym, ap, ◌∙◌, subst, arith}
use Rattle.std.specs.Prelude.{◌&&◌, nat_le}
use Rattle.std.proofs.lemmas.Bool.{lt-ltb}
use Rattle.bc_alloc.specs.declared.purpose.Purpose.{Purpose}
use Rattle.bc_alloc.specs.declared.purpose.Purpose.TheVariants as list
use Rattle.bc_books.specs.Shelves.{Held}
use Rattle.bc_data.specs.Data as flow
use Rattle.bc_data.specs.Enabled.{CanWrite, IsSpare}
use Rattle.bc_disk.specs.declared.geometry.Geometry.{Geometry}
use Rattle.bc_drafts.specs.Draft.{HasNoInner, HasNoLeaf}
use Rattle.bc_events.specs.Acts.{purpose_of}
use Rattle.bc_events.specs.Run as core
use Rattle.bc_events.specs.Run.{CanDo, IsSome}
use Rattle.bc_events.specs.Writes.{draft_inner, draft_leaf, map_some}
use Rattle.bc_events.specs.declared.event.Deed.TheVariants as deed
use Rattle.bc_events.specs.declared.event.Failure.TheVariants as failure
use Rattle.bc_events.specs.declared.event.NewNode.{NewNode}
use Rattle.bc_events.specs.declared.event.Written.TheVariants as written
use Rattle.bc_facts.specs.Layout.{IsLayoutOf, begins_at}
use Rattle.bc_facts.specs.Seen.{kind_of, seen_set}
use Rattle.bc_held.specs.Held.{IsHeldFor, IsVacantIn, number_in}
use Rattle.bc_held.specs.bc_hand.Seats.{by}
use Rattle.bc_held.specs.bc_machine.World.{IsCourseOf, IsOrigin, Origin, World, replay}
use Rattle.bc_held.specs.declared.held.HeldBucket.{HeldBucket}
use Rattle.bc_key.proofs.KeyLaws.{ReadsAsPtr-ptr_word}
use Rattle.bc_key.specs.Words.{ptr_word}
use Rattle.bc_known.specs.Acts as known
use Rattle.bc_known.specs.Acts.{FailCache, WriteCache}
use Rattle.bc_known.specs.Asked.{CanStartNode}
use Rattle.bc_leaves.specs.Enabled.{IsVacant}
use Rattle.bc_leaves.specs.Keys.{last_said}
use Rattle.bc_leaves.specs.Parts.{InRange}
use Rattle.bc_meta.specs.Layout.{node_end}
use Rattle.bc_meta.specs.Tree.{NodeSet, Owner}
use Rattle.bc_model.proofs.Cases.{by_le}
use Rattle.bc_model.proofs.Runs.{at_range}
use Rattle.bc_model.proofs.Sectors.{length_sectors, values_whole}
use Rattle.bc_model.specs.Sector.{Value, values_of}
use Rattle.bc_new_node.proofs.First.{first_write, front_spelled, long}
use Rattle.bc_node.specs.Writing.{HasSet}
use Rattle.bc_record.proofs.Blocks.{block_some}
use Rattle.bc_set.specs.Records.{set_sectors}
use Rattle.bc_set.specs.SetBytes.{AreSetKeys}
use Rattle.bc_set.specs.declared.set.Set.{Set}
use Rattle.bc_shares.specs.Shares.{books_of}
use Rattle.bc_whole.specs.State as whole
use Rattle.bc_whole.specs.State.{OfInner, OfLeaf}
use Rattle.bc_whole.specs.Together.{place_of}

never : (b : Bool) → b ≡ true → b ≡ false → ⊥
never b is off = cc

both_le : (a b c d : ℕ) → a ≤ b → c ≤ d → (nat_le a b && nat_le c d) ≡ true
both_le a b c d low high = by_le a b (λ t. (t && nat_le c d) ≡ true)
    (λ _. by_le c d (λ t. t ≡ true) (λ _. refl) (λ out. absurd (omega (arith, out, high))))
    (λ out. absurd (omega (arith, out, low)))

module _ (x : World) (o : Origin) (is : IsOrigin x o) (course : IsCourseOf o x.log) (i : ℕ)
    (few : i < 320) (b : HeldBucket) (mine : IsHeldFor i b o (replay o x.log))
    (tree : b.purpose ≡ list.Tree) (vacant : IsVacantIn b o (replay o x.log)) (g : Geometry)
    (divided : IsLayoutOf g o.opening.machine.layout) (n : NewNode)
    (its_bucket : n.bucket ≡ number_in b o) (word : n.word ≡ ptr_word b.to) (s : Set)
    (sectors_are : n.sectors ≡ set_sectors g s) (bytes : List ℕ)
    (all : length bytes ≡ 512 * g.node_sectors) (fits : set_sectors g s ≤ g.node_sectors)
    (number : s.seq ≡ (replay o x.log).machine.next_seq)
    (late : (replay o x.log).machine.whole.flow.late i ≡ false) where
  abbrev w : whole.Opening
  w = o.opening.machine

  abbrev st : known.State
  st = (replay o x.log).machine

  abbrev values : List Value
  values = values_of bytes

  module _ (flag : Bool) (set : HasSet g n.word s bytes)
      (proper : AreSetKeys (kind_of flag) s.keys) where
    abbrev owner : Owner
    owner = record { word = n.word; leaf = flag }

    abbrev seen : NodeSet
    seen = seen_set g flag s

    begins : w.layout.begins owner ≡ b.to.offset
    begins = divided.begins owner ∙ ap begins_at word
        ∙ (ReadsAsPtr-ptr_word b.to).offset

    small : g.node_sectors ≤ g.bucket
    small = let most = g.node_is_one in omega (arith, most)

    spelled : w.layout.sets.spelled owner (take n.sectors values) ≡ Some seen
    spelled = ap (λ m. w.layout.sets.spelled owner (take m values)) sectors_are
        ∙ front_spelled g w.layout divided owner s bytes (block_some g) set proper all fits

    starts : CanStartNode w st i n.bucket owner seen values
    starts = record {
      held = ap (books_of st).shelf its_bucket ∙ mine.held
          ∙ ap (λ (p : Purpose). Held i (purpose_of p)) tree;
      unnamed = ap (books_of st).chains.of its_bucket ∙ mine.unnamed;
      vacant = subst (IsVacant st.whole.parts) (sym its_bucket) vacant;
      room =
          let len = long g w.layout divided owner s bytes (block_some g) set proper all fits in
          let node = divided.node_sectors in omega (arith, len, node, fits);
      inside =
          let at = begins in
          let first = mine.lies.begins in
          let same = ap w.layout.first its_bucket in
          let node = divided.node_sectors in
          let size = divided.bucket_sectors in
          let most = small in
          both_le (w.layout.first n.bucket) (w.layout.begins owner) (node_end w.layout owner)
          (w.layout.first n.bucket + w.layout.bucket_sectors) (omega (arith, at, first, same))
          (omega (arith, at, first, same, node, size, most));
      first = first_write g w.layout divided owner s bytes (block_some g) set proper all fits;
      seq = number;
    }

    count : length values ≡ g.node_sectors
    count = ap (λ (vs : List Value). length vs) (values_whole g.node_sectors bytes all)
        ∙ length_sectors g.node_sectors bytes

    spare : (t : ℕ) → w.layout.begins owner ≤ t → t < w.layout.begins owner + length values
        → IsSpare w.flow.books (books_of st) i t
    spare t low high =
        let at = begins in
        let first = mine.lies.begins in
        let size = divided.bucket_sectors in
        let most = small in
        let many = count in
        let its = is.sound.laid.sector (number_in b o) t mine.lies.inside
        (omega (arith, at, first, low)) (omega (arith, at, first, high, size, most, many)) in record {
          fresh = mine.fresh t its;
          unnamed = ap (books_of st).chains.of its ∙ mine.unnamed;
          apart = inr (purpose_of b.purpose, ap (books_of st).shelf its ∙ mine.held);
        }

    can_write : CanWrite w.flow st.whole.flow i flow.Metadata (w.layout.begins owner) values
    can_write = record {
      places = λ t v here. let run = at_range (w.layout.begins owner) values t v here in
          spare t run.0 run.1;
      sendable = tt;
    }

  -- ---- a leaf

  module _ (set : HasSet g n.word s bytes) (proper : AreSetKeys (kind_of true) s.keys)
      (free : HasNoLeaf n.slot o (replay o x.log))
      (within : (t : ℕ) → (InRange (draft_leaf n) t → ⊥) → last_said (seen_set g true s).keys t ≡ None)
    where
      pub may_write_leaf : core.IsEnabled o.opening (replay o x.log)
          (by i (deed.CacheWrite b.to.offset (written.Leaf n) values))
      may_write_leaf =
          let d = deed.CacheWrite b.to.offset (written.Leaf n) values in
          subst (λ (found : Option NodeSet). IsSome (map_some (λ y. WriteCache y values ∷ [])
          (map_some (OfLeaf n.slot (draft_leaf n)) found))
          (λ acts. CanDo o.opening (replay o x.log) (by i d) acts))
          (sym (spelled true set proper)) (record {
            seat = lt-ltb i 320 few;
            course = (
              record {
                data_allows = (
                  record { heard = inr late; steps = tt; can = can_write true set proper },
                  tt,
                );
                asks = (free, refl, refl, within, starts true set proper);
              },
              tt,
            );
            fit = subst (λ (found : Option NodeSet). IsSome
                (map_some (OfLeaf n.slot (draft_leaf n)) found)
                (λ y. place_of w.layout st.whole y ≡ b.to.offset))
                (sym (spelled true set proper)) (begins true set proper);
            its_line = tt;
            plain = λ plain. absurd (never w.flow.plain plain is.cached);
          })

      pub may_lose_leaf : core.IsEnabled o.opening (replay o x.log)
          (by i (deed.DeviceFault (failure.CacheWrite b.to.offset (written.Leaf n) values)))
      may_lose_leaf =
          let d = deed.DeviceFault (failure.CacheWrite b.to.offset (written.Leaf n) values) in
          subst (λ (found : Option NodeSet). IsSome (map_some (λ y. FailCache y values ∷ [])
          (map_some (OfLeaf n.slot (draft_leaf n)) found))
          (λ acts. CanDo o.opening (replay o x.log) (by i d) acts))
          (sym (spelled true set proper)) (record {
            seat = lt-ltb i 320 few;
            course = (
              record {
                data_allows = (
                  record { heard = inr late; steps = tt; can = can_write true set proper },
                  tt,
                );
                asks = (free, refl, refl, within, starts true set proper);
              },
              tt,
            );
            fit = subst (λ (found : Option NodeSet). IsSome
                (map_some (OfLeaf n.slot (draft_leaf n)) found)
                (λ y. place_of w.layout st.whole y ≡ b.to.offset))
                (sym (spelled true set proper)) (begins true set proper);
            its_line = tt;
            plain = λ plain. absurd (never w.flow.plain plain is.cached);
          })

  -- ---- an inner node

  module _ (set : HasSet g n.word s bytes) (proper : AreSetKeys (kind_of false) s.keys)
      (free : HasNoInner n.slot o (replay o x.log)) where
    pub may_write_inner : core.IsEnabled o.opening (replay o x.log)
        (by i (deed.CacheWrite b.to.offset (written.Inner n) values))
    may_write_inner =
        let d = deed.CacheWrite b.to.offset (written.Inner n) values in
        subst (λ (found : Option NodeSet). IsSome (map_some (λ y. WriteCache y values ∷ [])
        (map_some (OfInner n.slot (draft_inner n)) found))
        (λ acts. CanDo o.opening (replay o x.log) (by i d) acts))
        (sym (spelled false set proper)) (record {
          seat = lt-ltb i 320 few;
          course = (
            record {
              data_allows = (
                record { heard = inr late; steps = tt; can = can_write false set proper },
                tt,
              );
              asks = (free, refl, starts false set proper);
            },
            tt,
          );
          fit = subst (λ (found : Option NodeSet). IsSome
              (map_some (OfInner n.slot (draft_inner n)) found)
              (λ y. place_of w.layout st.whole y ≡ b.to.offset))
              (sym (spelled false set proper)) (begins false set proper);
          its_line = tt;
          plain = λ plain. absurd (never w.flow.plain plain is.cached);
        })

    pub may_lose_inner : core.IsEnabled o.opening (replay o x.log)
        (by i (deed.DeviceFault (failure.CacheWrite b.to.offset (written.Inner n) values)))
    may_lose_inner =
        let d = deed.DeviceFault (failure.CacheWrite b.to.offset (written.Inner n) values) in
        subst (λ (found : Option NodeSet). IsSome (map_some (λ y. FailCache y values ∷ [])
        (map_some (OfInner n.slot (draft_inner n)) found))
        (λ acts. CanDo o.opening (replay o x.log) (by i d) acts))
        (sym (spelled false set proper)) (record {
          seat = lt-ltb i 320 few;
          course = (
            record {
              data_allows = (
                record { heard = inr late; steps = tt; can = can_write false set proper },
                tt,
              );
              asks = (free, refl, starts false set proper);
            },
            tt,
          );
          fit = subst (λ (found : Option NodeSet). IsSome
              (map_some (OfInner n.slot (draft_inner n)) found)
              (λ y. place_of w.layout st.whole y ≡ b.to.offset))
              (sym (spelled false set proper)) (begins false set proper);
          its_line = tt;
          plain = λ plain. absurd (never w.flow.plain plain is.cached);
        })
