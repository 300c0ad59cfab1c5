-- Keys that come one behind the other.
use Rattle.std.proofs.Common.{◌≡◌, List, [], ◌∷◌, ◌++◌, refl, sym, ap, ◌∙◌, subst, append_assoc}
use Rattle.std.specs.Prelude.{Option, Some}
use Rattle.std.proofs.lemmas.List.{map-append}
use Rattle.bc_key.specs.declared.key.Key.{Key}
use Rattle.bc_node.specs.Leaf.{AreLast, AreLastOfAll, ArePut, AreAdded, GoOn, IsSameNode, Leaf, noted}
use Rattle.bc_node.specs.declared.pending.Entries.{Entries}
use Rattle.bc_pending.specs.declared.numbered.Numbered.{Numbered}
use Rattle.bc_reload.specs.Added.{HasAdded, keys_of, noted_all}

noted_both : (a b : List Numbered) (entries : Option Entries) → noted_all b (noted_all a entries) ≡ noted_all (a ++ b) entries
noted_both [] b entries = refl
noted_both (n ∷ ns) b entries = noted_both ns b (Some (noted entries n.entry))

go_on_both : (Last : List Key → List Key → Type 0) (a b : List Numbered) (old mid new : List Key) → GoOn Last (keys_of a) old mid → GoOn Last (keys_of b) mid new → GoOn Last (keys_of (a ++ b)) old new
go_on_both Last a b old mid new first second = λ list last.
    subst (λ (ks : List Key). Last ks new) (append_assoc list (keys_of a) (keys_of b) ∙ ap (λ (ks : List Key). list ++ ks) (sym (map-append (λ (n : Numbered). n.key) a b)))
    (second (list ++ keys_of a) (first list last))

same_both : (old mid new : Leaf) → IsSameNode old mid → IsSameNode mid new → IsSameNode old new
same_both old mid new a b = record {
  from = b.from ∙ a.from;
  end = b.end ∙ a.end;
  ptr = b.ptr ∙ a.ptr;
  seq = b.seq ∙ a.seq;
  taken = b.taken ∙ a.taken;
  loaded = b.loaded ∙ a.loaded;
}

pub added_both : (a b : List Numbered) (old mid new : Leaf) → HasAdded a old mid → HasAdded b mid new → HasAdded (a ++ b) old new
added_both a b old mid new first second = record {
  node = same_both old mid new first.node second.node;
  keys = go_on_both AreLast a b old.keys mid.keys new.keys first.keys second.keys;
  pending = go_on_both AreLastOfAll a b old.pending mid.pending new.pending first.pending second.pending;
  entries = second.entries ∙ ap (noted_all b) first.entries ∙ noted_both a b old.entries;
}

go_on_none : (Last : List Key → List Key → Type 0) (keys : List Key) → GoOn Last [] keys keys
go_on_none Last keys = λ list last. subst (λ (ks : List Key). Last ks keys) (sym (append_nil list)) last
  where
    append_nil : (xs : List Key) → xs ++ [] ≡ xs
    append_nil [] = refl
    append_nil (x ∷ xs) = ap (λ (ys : List Key). x ∷ ys) (append_nil xs)

pub nothing_added : (leaf : Leaf) → HasAdded [] leaf leaf
nothing_added leaf = record {
  node = record { from = refl; end = refl; ptr = refl; seq = refl; taken = refl; loaded = refl };
  keys = go_on_none AreLast leaf.keys;
  pending = go_on_none AreLastOfAll leaf.pending;
  entries = refl;
}

-- room was made for them before
pub added_after : (more : List Numbered) (old mid new : Leaf) → IsSameNode old mid → mid.keys ≡ old.keys → mid.pending ≡ old.pending → mid.entries ≡ old.entries → HasAdded more mid new → HasAdded more old new
added_after more old mid new node keys pending entries added = record {
  node = same_both old mid new node added.node;
  keys = subst (λ (ks : List Key). ArePut (keys_of more) ks new.keys) keys added.keys;
  pending = subst (λ (ks : List Key). AreAdded (keys_of more) ks new.pending) pending added.pending;
  entries = added.entries ∙ ap (noted_all more) entries;
}
