-- A leaf in memory, and what a reader finds.
use Rattle.std.proofs.Common.{◌≡◌, ℕ, ◌+◌, List, [], ◌++◌, Option, Some, None, refl, sym, ap, subst, ◌∙◌, arith, append_assoc}
use Rattle.std.specs.Prelude.{MatchOption, IsSomeAnd}
use Rattle.std.specs.Option.{option_or}
use Rattle.std.proofs.lemmas.List.{append-nil}
use Rattle.bc_disk.specs.declared.geometry.Geometry.{Geometry}
use Rattle.bc_extent.specs.LastKey.{last_key}
use Rattle.bc_extent.specs.Calls.{live, with_pointer}
use Rattle.bc_extent.specs.Extents.{IsRest}
use Rattle.bc_extent.proofs.Looks.{last_key-append}
use Rattle.bc_extent.proofs.Shown.{shows_same}
use Rattle.bc_image.specs.Tree.{AreSetsAt, set_keys}
use Rattle.bc_key.specs.Key.{pointer_of}
use Rattle.bc_key.specs.Words.{ptr_word}
use Rattle.bc_key.specs.declared.key.Key.{Key}
use Rattle.bc_key.specs.declared.ptr.Ptr.{Ptr}
use Rattle.bc_model.specs.Sector.{Image}
use Rattle.bc_node.specs.Leaf.{AreLast, AreLastOfAll}
use Rattle.bc_set.specs.Records.{AreNodeSets}
use Rattle.bc_set.specs.declared.set.Set.{Set}
use Rattle.bc_set.specs.declared.set.SetKind.TheVariants.{Extents}
use Rattle.bc_set.proofs.NodeSets.{one_node}
use Rattle.bc_cache.specs.Stands.{AddedStands, LoadedStands, NothingIsLost}

pub none_added : AreLastOfAll [] []
none_added = record {
  order = ((λ k d inside. absurd (omega arith)), (λ i j d before inside. absurd (omega arith)));
  shown = λ sector. refl;
}

pub loaded_stands : LoadedStands
loaded_stands g image key from sets leaf found is = record {
  sets = sets;
  found = found;
  begins = is.begins;
  ends = is.ends;
  stands = is.ptr;
  more = [];
  last = subst (λ (ks : List Key). AreLast ks leaf.keys) (sym (append-nil (set_keys sets))) is.last;
  added = subst (λ (ks : List Key). AreLastOfAll [] ks) (sym is.pending.keys) none_added;
}

pub added_stands : AddedStands
added_stands g image key from old new keys is same put added = record {
  sets = is.sets;
  found = is.found;
  begins = same.from ∙ is.begins;
  ends = same.end ∙ is.ends;
  stands = same.ptr ∙ is.stands;
  more = is.more ++ keys;
  last = subst (λ (ks : List Key). AreLast ks new.keys) (append_assoc (set_keys is.sets) is.more keys) (put (set_keys is.sets ++ is.more) is.last);
  added = added is.more is.added;
}

-- two pointers of one key
one_pointer : (p q : Ptr) (o : Option Ptr) → o ≡ Some p → o ≡ Some q → p ≡ q
one_pointer p q o a b = cc

pub same_sets : (g : Geometry) (image : Image) (key : Key) (ss ts : List Set) → AreSetsAt g image 0 key ss → AreSetsAt g image 0 key ts → ss ≡ ts
same_sets g image key ss ts a b =
    let p = one_pointer a.ptr b.ptr (pointer_of key) a.points b.points in
    one_node g (ptr_word b.ptr) Extents image (b.ptr.offset + g.node_sectors) b.ptr.offset ss ts
    (subst (λ (q : Ptr). AreNodeSets g (ptr_word q) Extents image (q.offset + g.node_sectors) q.offset ss) p a.stand) b.stand

-- no key shows none
none_shown : (o other : Option Key) (look : ℕ → Option Key) → other ≡ None → MatchOption o (other ≡ None) (λ whole. IsSomeAnd other (IsRest look whole)) → o ≡ None
none_shown None other look none shown = refl
none_shown (Some key) other look none shown = absurd (subst (λ (k : Option Key). IsSomeAnd k (IsRest look key)) none shown)

pub nothing_is_lost : NothingIsLost
nothing_is_lost g image key from leaf sets is none found =
    subst (λ (ss : List Set). AreLast (set_keys ss) leaf.keys) (same_sets g image key is.sets sets is.found found) (record {
      order = is.last.order;
      shown = shows_same (live (last_key (set_keys is.sets ++ is.more))) (live (last_key (set_keys is.sets))) leaf.keys (λ sector. ap with_pointer (same sector)) is.last.shown;
    })
  where
    added : AreLastOfAll is.more []
    added = subst (λ (ks : List Key). AreLastOfAll is.more ks) none is.added

    same : (sector : ℕ) → last_key (set_keys is.sets ++ is.more) sector ≡ last_key (set_keys is.sets) sector
    same sector =
        last_key-append (set_keys is.sets) is.more sector
        ∙ ap (λ (o : Option Key). option_or o (last_key (set_keys is.sets) sector)) (none_shown (last_key is.more sector) None (last_key is.more) refl (added.shown sector))
