-- The root that a plan brings, as the core counts its bucket.
use Rattle.std.proofs.Common.{◌≡◌, inl, inr, ℕ, ◌-◌, ◌/◌, ◌^◌, ◌<◌, Bool, true, false, List, [], ◌∷◌, ◌++◌, Option, Some, None, refl, sym, ap, ◌∙◌}
use Rattle.std.specs.Prelude.{Contains}
use Rattle.bc_books.specs.Invariant.{IsInOrder}
use Rattle.bc_books.specs.Shelves.{Held, Loose, Shelf, Tree}
use Rattle.bc_disk.specs.declared.geometry.Geometry.{Geometry}
use Rattle.bc_facts.proofs.Stood.{in_contains}
use Rattle.bc_facts.specs.Layout.{IsLayoutOf}
use Rattle.bc_inner.specs.Inner.{Inner}
use Rattle.bc_install.proofs.Numbered.{by_sectors, of_held}
use Rattle.bc_install.proofs.of_bc_entry.Course.{at_course}
use Rattle.bc_install.specs.Numbered.{bucket_by}
use Rattle.bc_install.specs.bc_change.Goes.{BringsBy, BringsRoot, beside_come, moved, new_nodes, top_moved}
use Rattle.bc_install.specs.bc_change.Ready.{HoldsNew}
use Rattle.bc_install.specs.bc_change.Root.{NamesNext}
use Rattle.bc_install.specs.bc_machine.Containers.{inner_slot}
use Rattle.bc_install.specs.bc_machine.World.{IsCourseOf, IsOrigin, Origin, World, replay}
use Rattle.bc_journal.specs.declared.heads.Heads.{Heads}
use Rattle.bc_key.specs.declared.ptr.Ptr.{Ptr}
use Rattle.bc_key.specs.Words.{ptr_word}
use Rattle.bc_known.proofs.Law.{order_at}
use Rattle.bc_meta.specs.Facts.{In}
use Rattle.bc_shares.specs.Shares.{books_of}
use Rattle.bc_tree.specs.Spine.{Spine}
use Rattle.bc_tree.specs.declared.change.NodeChange.{NodeChange}
use Rattle.bc_tree.specs.declared.change.NodeChange.TheVariants.{Move, Set}
use Rattle.bc_tree.specs.declared.plan.Plan.{Plan}
use Rattle.bc_whole.specs.State as whole
use Rattle.bc_by_root.specs.Prepared.{NamesNode}

-- it is a node that the plan brings
root_in : (plan : Plan) (root : Inner) (below : List Inner) (b : NodeChange)
    (top : Option NodeChange) → BringsBy below b top root
    → In root (moved b ++ (top_moved top ++ beside_come plan.beside))
root_in plan root [] (Set keys) top h = absurd h
root_in plan root [] (Move next) top h = inl h
root_in plan root (x ∷ xs) (Set keys) top h = absurd h
root_in plan root (x ∷ xs) (Move next) None h = absurd h
root_in plan root (x ∷ xs) (Move next) (Some (Set keys)) h = absurd h
root_in plan root (x ∷ xs) (Move next) (Some (Move up)) h = inr (inl h)

pub brought : (sp : Spine) (plan : Plan) (root : Inner) → BringsRoot sp plan root
    → Contains (new_nodes plan) root
brought sp plan root h = in_contains (new_nodes plan) root
    (root_in plan root sp.below plan.bottom plan.top h)

never_held : (i : ℕ) (s : Shelf) → s ≡ Held i Tree → s ≡ Loose → ⊥
never_held i s held loose = let both : Held i Tree ≡ Loose = sym held ∙ loose in cc

off : (b : Bool) → (b ≡ true → ⊥) → b ≡ false
off true never = absurd (never refl)
off false never = refl

module _ (x : World) (o : Origin) (is : IsOrigin x o) (course : IsCourseOf o x.log) (g : Geometry)
    (divided : IsLayoutOf g o.opening.machine.layout) (some : 0 < g.bucket)
    (few : g.nbuckets < 2 ^ 32) (i : ℕ) (sp : Spine) (plan : Plan) (root : Inner)
    (brings : BringsRoot sp plan root)
    (holds : HoldsNew o.opening.machine (books_of (replay o x.log).machine) i plan) where
  abbrev w : whole.Opening
  w = o.opening.machine

  abbrev q : ℕ
  q = w.flow.books.bucket root.ptr.offset

  held : (books_of (replay o x.log).machine).shelf q ≡ Held i Tree
  held = holds.inner_nodes root (brought sp plan root brings)

  in_order : IsInOrder w.flow.books (books_of (replay o x.log).machine)
  in_order = order_at w o.parts (replay o x.log).machine.whole is.sound
      (at_course o is.sound x.log course).at

  free : w.flow.books.fixed q ≡ false
  free = off (w.flow.books.fixed q) (λ fixed. never_held i
      ((books_of (replay o x.log).machine).shelf q) held (in_order.marked.loose q (inl fixed)))

  pub slot_is : inner_slot w root ≡ bucket_by g root.ptr
  slot_is = sym (of_held x o is course g divided some few i root.ptr held)

  sector_is : inner_slot w root ≡ root.ptr.offset / g.bucket - g.first_bucket
  sector_is = by_sectors x o is course g divided some root.ptr.offset q
      (is.sound.laid.area q free).1 refl

  pub names_next : (old heads : Heads) (slot : ℕ) → NamesNode old root heads
      → slot ≡ bucket_by g root.ptr → NamesNext g heads root slot o (replay o x.log)
  names_next old heads slot named slot_by = record {
    slot_is = slot_is ∙ sym slot_by;
    bucket = slot_by ∙ sym slot_is ∙ sector_is
        ∙ ap (λ (p : Ptr). p.offset / g.bucket - g.first_bucket) (sym named.ptr);
    word = ap ptr_word (sym named.ptr);
    level = sym named.level;
  }
