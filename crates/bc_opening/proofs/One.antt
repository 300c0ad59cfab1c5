-- Two openings of one pair by the same choices.
use Rattle.std.proofs.Common.{◌≡◌, ℕ, Bool, true, false, refl, sym, ap, ◌∙◌}
use Rattle.std.specs.Prelude.{◌↔◌}
use Rattle.bc_model.specs.Sector.{Image}
use Rattle.bc_disk.specs.declared.geometry.Geometry.{Geometry}
use Rattle.bc_books.specs.Books.{Setup}
use Rattle.bc_meta.specs.Layout.{Layout, sets_in}
use Rattle.bc_meta.specs.Records.{Records, no_set}
use Rattle.bc_meta.specs.Records as records
use Rattle.bc_meta.specs.Tree.{Owner}
use Rattle.bc_image.specs.Reading.{Reading}
use Rattle.bc_facts.specs.Seen.{bucket_of}
use Rattle.bc_remains.proofs.Next as next
use Rattle.bc_opening.specs.Choices.{Choices}
use Rattle.bc_opening.specs.Opening.{AreBooksOf}
use Rattle.bc_opening.specs.Alike.{SameBooks}
use Rattle.bc_opening.specs.Laws.{LawOne}

same_test : (P : Type 0) (a b : Bool) → (a ≡ true) ↔ P → (b ≡ true) ↔ P → a ≡ b
same_test P true b f h = sym (h.1 (f.0 refl))
same_test P false true f h = f.1 (h.0 refl)
same_test P false false f h = refl

same_books : (g : Geometry) (size : ℕ) (r : Reading) (c : Choices) (a b : Setup) → AreBooksOf g size r c a → AreBooksOf g size r c b → SameBooks a b
same_books g size r c a b x y = record {
  bucket = λ t. x.bucket t ∙ sym (y.bucket t);
  size = x.size_is ∙ sym y.size_is;
  sets = x.sets ∙ sym y.sets;
  fixed = λ q. same_test _ (a.fixed q) (b.fixed q) (x.fixed q) (y.fixed q);
  index = λ s. x.index s ∙ sym (y.index s);
  leaf = λ s. x.leaf s ∙ sym (y.leaf s);
  version = λ q. x.version q ∙ sym (y.version q);
  last_gc = λ q. x.last_gc q ∙ sym (y.last_gc q);
  mark = λ q. x.mark q ∙ sym (y.mark q);
  listed = λ q. x.listed q ∙ sym (y.listed q);
  node = λ q. same_test _ (a.node q) (b.node q) (x.node q) (y.node q);
  chain = λ q. same_test _ (a.chain q) (b.chain q) (x.chain q) (y.chain q);
}

-- a node of the tree, as it is opened
abbrev opened_node : Layout → Image → Bool → Owner → ℕ → records.Node
opened_node w image unused owner q =
    record { loose = unused; owner = owner; sets = sets_in w image owner q; last = no_set; sent = false; failed = false }

pub law_one : LawOne
law_one p v layout c a b x y f h =
    let unused : (q : ℕ) → a.store.unused q ≡ b.store.unused q = λ q. same_test _ (a.store.unused q) (b.store.unused q) (f.store.unused q) (h.store.unused q) in
    let image : a.store.image ≡ b.store.image = f.store.image ∙ sym h.store.image in
    record {
      layout_is = f.layout_is ∙ sym h.layout_is;
      before = f.before ∙ sym h.before;
      devices = record {
        plain = f.devices.plain ∙ sym h.devices.plain;
        cache = f.devices.cache ∙ sym h.devices.cache;
        backing = λ s. f.devices.backing s ∙ sym (h.devices.backing s);
        image = λ s. f.devices.image s ∙ sym (h.devices.image s);
      };
      books = same_books _ _ _ _ a.flow.books b.flow.books f.books h.books;
      store = record {
        image = image;
        alike = next.law_one v.geometry layout v.reading a.store b.store f.store.opens h.store.opens;
        gens = f.store.gens ∙ sym h.store.gens;
        unused = unused;
        spare = f.store.spare ∙ sym h.store.spare;
      };
      parts = record {
        leaves = λ i. f.parts.leaves i ∙ sym (h.parts.leaves i);
        inner_nodes = λ i. f.parts.inner_nodes i ∙ sym (h.parts.inner_nodes i);
        end = f.parts.end ∙ sym h.parts.end;
        change = f.parts.change ∙ sym h.parts.change;
        sent = λ q. f.parts.sent q ∙ sym (h.parts.sent q);
        nodes = λ n i.
            let q = bucket_of v.geometry n.key in
            let owner : a.store.owners q ≡ b.store.owners q = f.store.owners n i ∙ sym (h.store.owners n i) in
            ap (λ (k : Records). k.nodes q) f.records
            ∙ ap (λ (m : Image). opened_node layout m (a.store.unused q) (a.store.owners q) q) image
            ∙ ap (λ (t : Bool). opened_node layout b.store.image t (a.store.owners q) q) (unused q)
            ∙ ap (λ (k : Owner). opened_node layout b.store.image (b.store.unused q) k q) owner
            ∙ sym (ap (λ (k : Records). k.nodes q) h.records);
      };
    }
